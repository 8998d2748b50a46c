-- What a reader takes from the front of the lexemes is spelled so: values and addresses.
use Rattle.std.proofs.Common.{◌≡◌, ◌≢◌, nat_le, Bool, true, false, if◌then◌else◌, List, [], ◌∷◌, ◌++◌, map, Option, Some, None, refl, sym, ap, subst, ◌∙◌, append_assoc, arith}
use Rattle.std.proofs.lemmas.Bool.Decides.{nat_tests}
use Rattle.c6x_asm_lines.specs.Grammar.{base_of, close_bracket, close_parenthesis, mode_of, read_addend, read_address, read_base, read_number, read_offset, read_primary, read_modifier, read_symbol, read_value, read_worded, turned}
use Rattle.c6x_spec.specs.Options.{◌>>=◌}
use Rattle.c6x_asm_lines.specs.declared.address.Address.{Address}
use Rattle.c6x_asm_lines.specs.declared.lexeme.Lexeme.{Lexeme}
use Rattle.c6x_asm_lines.specs.declared.lexeme.Lexeme.TheVariants.{Word as Worded, Number as Numbered, Punctuator as Punctuated}
use Rattle.c6x_asm_lines.specs.declared.mode.Mode.{Mode}
use Rattle.c6x_asm_lines.specs.declared.mode.Mode.TheVariants.{Negative, Positive, PreDecrement, PreIncrement, PostDecrement, PostIncrement}
use Rattle.c6x_asm_lines.specs.declared.number.Number.{Number}
use Rattle.c6x_asm_lines.specs.declared.offset.Offset.{Offset}
use Rattle.c6x_asm_lines.specs.declared.offset.Offset.TheVariants.{Missing, Bracket, Parenthesis}
use Rattle.c6x_asm_lines.specs.declared.primary.Primary.{Primary}
use Rattle.c6x_asm_lines.specs.declared.primary.Primary.TheVariants.{Register as PrimaryRegister, Number as PrimaryNumber, Symbol as PrimarySymbol}
use Rattle.c6x_asm_lines.specs.declared.register.Register.{Register}
use Rattle.c6x_asm_lines.specs.declared.punctuator.Punctuator.{Punctuator}
use Rattle.c6x_asm_lines.specs.declared.punctuator.Punctuator.TheVariants.{LeftBracket, LeftParenthesis, RightBracket, RightParenthesis, Plus, Minus, Percent}
use Rattle.c6x_asm_lines.specs.declared.base_modifier.BaseModifier.{BaseModifier}
use Rattle.c6x_asm_lines.specs.declared.base_modifier.BaseModifier.TheVariants.{Unmodified, Plus as PlusModifier, Minus as MinusModifier, PlusPlus, MinusMinus}
use Rattle.c6x_asm_lines.specs.declared.value.Value.{Value}
use Rattle.c6x_asm_lines.specs.declared.value.Value.TheVariants.{Primary as PrimaryValue, Kind as KindValue}
use Rattle.c6x_asm_lines.specs.declared.word.Word.{Word}
use Rattle.c6x_asm_lines.specs.declared.word.WordClass.{WordClass}
use Rattle.c6x_asm_lines.specs.declared.word.WordClass.TheVariants.{Register as RegisterClass}
use Rattle.c6x_asm_lines.specs.Spelling.{IsName, SpellsNumber, number_alone, number_minus, SpellsPlain, plain_register, plain_number, symbol_alone, symbol_plus, symbol_minus, SpellsValue, value_plain, value_of_kind, value_kind, SpellsBase, base_register, base_name, SpellsOffset, no_offset, in_brackets, in_parentheses, SpellsMode, at_base, ahead, ahead_bytes, back, up_by_one, up_by, down_by_one, down_by, then_up_by_one, then_up_by, then_down_by_one, then_down_by, SpellsAddress, address_spelled}

-- What a reader found stands at the front, with the rest behind it.
pub record Takes {T : Type 0} (Spells : T → List Lexeme → Type 0) (found : T × List Lexeme) (lexemes : List Lexeme) : Type 0 where
  pub front : List Lexeme
  pub spells : Spells found.0 front
  pub split : lexemes ≡ front ++ found.1

-- the parts of a reader that found something
pub first_found : {T U : Type 0} (read : Option T) (next : T → Option U) (y : U) → (read >>= next) ≡ Some y → (x : T) × (read ≡ Some x) × (next x ≡ Some y)
first_found None next y is = cc
first_found (Some x) next y is = (x, refl, is)

pub given : {T : Type 0} (P : T → Type 0) (x y : T) → Some x ≡ Some y → P x → P y
given P x y is holds = subst P one holds
  where
    one : x ≡ y
    one = cc

pub if_found : {T : Type 0} (test : Bool) (read : Option T) (y : T) → (if test then read else None) ≡ Some y → (test ≡ true) × (read ≡ Some y)
if_found true read y is = (refl, is)
if_found false read y is = cc

number_taken : (xs : List Lexeme) (x : Number × List Lexeme) → read_number xs ≡ Some x → Takes SpellsNumber x xs
number_taken (Numbered size ∷ rest) x is =
    given (λ x. Takes SpellsNumber x (Numbered size ∷ rest)) (record { negative = false; size = size }, rest) x is
    (record { front = Numbered size ∷ []; spells = number_alone; split = refl })
number_taken (Punctuated Minus ∷ Numbered size ∷ rest) x is =
    given (λ x. Takes SpellsNumber x (Punctuated Minus ∷ Numbered size ∷ rest)) (record { negative = true; size = size }, rest) x is
    (record { front = Punctuated Minus ∷ Numbered size ∷ []; spells = number_minus; split = refl })
number_taken _ x is = cc

-- a name
pub named : (word : Word) → ((r : Register) → word.class ≢ RegisterClass r) → nat_le word.len 64 ≡ true → IsName word
named word free short = record { free = free; short = grind (arith, nat_tests) }

addend_taken : (name : Word) (rest : List Lexeme) (a : Option Number × List Lexeme) → IsName name → read_addend rest ≡ Some a → Takes SpellsPlain (PrimarySymbol name a.0, a.1) (Worded name ∷ rest)
addend_taken name (Punctuated Plus ∷ rest) a is_a_name is =
    let n = first_found (read_number rest) (λ n. Some (Some (turned false n.0), n.1)) a is in
    let t = number_taken rest n.0 n.1 in
    given (λ a. Takes SpellsPlain (PrimarySymbol name a.0, a.1) (Worded name ∷ Punctuated Plus ∷ rest)) (Some (turned false n.0.0), n.0.1) a n.2
    (record { front = Worded name ∷ Punctuated Plus ∷ t.front; spells = symbol_plus is_a_name t.spells; split = ap (λ xs. Worded name ∷ Punctuated Plus ∷ xs) t.split })
addend_taken name (Punctuated Minus ∷ rest) a is_a_name is =
    let n = first_found (read_number rest) (λ n. Some (Some (turned true n.0), n.1)) a is in
    let t = number_taken rest n.0 n.1 in
    given (λ a. Takes SpellsPlain (PrimarySymbol name a.0, a.1) (Worded name ∷ Punctuated Minus ∷ rest)) (Some (turned true n.0.0), n.0.1) a n.2
    (record { front = Worded name ∷ Punctuated Minus ∷ t.front; spells = symbol_minus is_a_name t.spells; split = ap (λ xs. Worded name ∷ Punctuated Minus ∷ xs) t.split })
addend_taken name rest a is_a_name is =
    given (λ a. Takes SpellsPlain (PrimarySymbol name a.0, a.1) (Worded name ∷ rest)) (None, rest) a is
    (record { front = Worded name ∷ []; spells = symbol_alone is_a_name; split = refl })

symbol_taken : (word : Word) (rest : List Lexeme) (x : Primary × List Lexeme) → ((r : Register) → word.class ≢ RegisterClass r) → read_symbol word rest ≡ Some x → Takes SpellsPlain x (Worded word ∷ rest)
symbol_taken word rest x free is =
    let next : Option Number × List Lexeme → Option (Primary × List Lexeme) = λ a. Some (PrimarySymbol word a.0, a.1) in
    let short = if_found (nat_le word.len 64) (read_addend rest >>= next) x is in
    let a = first_found (read_addend rest) next x short.1 in
    given (λ x. Takes SpellsPlain x (Worded word ∷ rest)) (PrimarySymbol word a.0.0, a.0.1) x a.2
    (addend_taken word rest a.0 (named word free short.0) a.1)

worded_taken : (class : WordClass) (word : Word) (rest : List Lexeme) (x : Primary × List Lexeme) → word.class ≡ class → read_worded class word rest ≡ Some x → Takes SpellsPlain x (Worded word ∷ rest)
worded_taken (RegisterClass r) word rest x same is =
    given (λ x. Takes SpellsPlain x (Worded word ∷ rest)) (PrimaryRegister r, rest) x is
    (record { front = Worded word ∷ []; spells = plain_register same; split = refl })
worded_taken _ word rest x same is = symbol_taken word rest x (λ r e. cc) is

bare_taken : (xs : List Lexeme) (x : Primary × List Lexeme) → (read_number xs >>= λ n. Some (PrimaryNumber n.0, n.1)) ≡ Some x → Takes SpellsPlain x xs
bare_taken xs x is =
    let n = first_found (read_number xs) (λ n. Some (PrimaryNumber n.0, n.1)) x is in
    let t = number_taken xs n.0 n.1 in
    given (λ x. Takes SpellsPlain x xs) (PrimaryNumber n.0.0, n.0.1) x n.2
    (record { front = t.front; spells = plain_number t.spells; split = t.split })

pub plain_taken : (xs : List Lexeme) (x : Primary × List Lexeme) → read_primary xs ≡ Some x → Takes SpellsPlain x xs
plain_taken (Worded word ∷ rest) x is = worded_taken word.class word rest x refl is
plain_taken xs x is = bare_taken xs x is

bracket_closed : (xs after : List Lexeme) → close_bracket xs ≡ Some after → xs ≡ Punctuated RightBracket ∷ after
bracket_closed (Punctuated RightBracket ∷ rest) after is = given (λ after. Punctuated RightBracket ∷ rest ≡ Punctuated RightBracket ∷ after) rest after is refl
bracket_closed _ after is = cc

parenthesis_closed : (xs after : List Lexeme) → close_parenthesis xs ≡ Some after → xs ≡ Punctuated RightParenthesis ∷ after
parenthesis_closed (Punctuated RightParenthesis ∷ rest) after is = given (λ after. Punctuated RightParenthesis ∷ rest ≡ Punctuated RightParenthesis ∷ after) rest after is refl
parenthesis_closed _ after is = cc

-- what is taken, and a closing sign behind it
closed_behind : (xs front rest after : List Lexeme) (close : Lexeme) → xs ≡ front ++ rest → rest ≡ close ∷ after → xs ≡ (front ++ (close ∷ [])) ++ after
closed_behind xs front rest after close split closed = split ∙ ap (λ ys. front ++ ys) closed ∙ sym (append_assoc front (close ∷ []) after)

unkinded_taken : (xs : List Lexeme) (x : Value × List Lexeme) → (read_primary xs >>= λ p. Some (PrimaryValue p.0, p.1)) ≡ Some x → Takes SpellsValue x xs
unkinded_taken xs x is =
    let p = first_found (read_primary xs) (λ p. Some (PrimaryValue p.0, p.1)) x is in
    let t = plain_taken xs p.0 p.1 in
    given (λ x. Takes SpellsValue x xs) (PrimaryValue p.0.0, p.0.1) x p.2
    (record { front = t.front; spells = value_plain t.spells; split = t.split })

kinded_taken : (kind : Word) (rest : List Lexeme) (x : Value × List Lexeme) → (read_primary rest >>= λ p. close_parenthesis p.1 >>= λ after. Some (KindValue kind (Some p.0), after)) ≡ Some x → Takes SpellsValue x (Punctuated Percent ∷ Worded kind ∷ Punctuated LeftParenthesis ∷ rest)
kinded_taken kind rest x is =
    let p = first_found (read_primary rest) (λ p. close_parenthesis p.1 >>= λ after. Some (KindValue kind (Some p.0), after)) x is in
    let t = plain_taken rest p.0 p.1 in
    let c = first_found (close_parenthesis p.0.1) (λ after. Some (KindValue kind (Some p.0.0), after)) x p.2 in
    given (λ x. Takes SpellsValue x (Punctuated Percent ∷ Worded kind ∷ Punctuated LeftParenthesis ∷ rest)) (KindValue kind (Some p.0.0), c.0) x c.2
    (record {
      front = Punctuated Percent ∷ Worded kind ∷ Punctuated LeftParenthesis ∷ t.front ++ (Punctuated RightParenthesis ∷ []);
      spells = value_of_kind t.spells;
      split = ap (λ xs. Punctuated Percent ∷ Worded kind ∷ Punctuated LeftParenthesis ∷ xs)
          (closed_behind rest t.front p.0.1 c.0 (Punctuated RightParenthesis) t.split (parenthesis_closed p.0.1 c.0 c.1));
    })

pub value_taken : (xs : List Lexeme) (x : Value × List Lexeme) → read_value xs ≡ Some x → Takes SpellsValue x xs
unfolding read_value
value_taken (Punctuated Percent ∷ Worded kind ∷ Punctuated LeftParenthesis ∷ rest) x is = kinded_taken kind rest x is
value_taken (Punctuated Percent ∷ Worded kind ∷ rest) x is =
    given (λ x. Takes SpellsValue x (Punctuated Percent ∷ Worded kind ∷ rest)) (KindValue kind None, rest) x is
    (record { front = Punctuated Percent ∷ Worded kind ∷ []; spells = value_kind; split = refl })
value_taken xs x is = unkinded_taken xs x is

-- the signs of a step
abbrev pub signs_of : BaseModifier → List Punctuator
signs_of Unmodified = []
signs_of PlusModifier = Plus ∷ []
signs_of MinusModifier = Minus ∷ []
signs_of PlusPlus = Plus ∷ Plus ∷ []
signs_of MinusMinus = Minus ∷ Minus ∷ []

step_split : (xs : List Lexeme) → xs ≡ map Punctuated (signs_of (read_modifier xs).0) ++ (read_modifier xs).1
step_split (Punctuated Plus ∷ Punctuated Plus ∷ rest) = refl
step_split (Punctuated Plus ∷ rest) = refl
step_split (Punctuated Minus ∷ Punctuated Minus ∷ rest) = refl
step_split (Punctuated Minus ∷ rest) = refl
step_split xs = refl

base_taken : (class : WordClass) (word : Word) (base : Option Register) → word.class ≡ class → base_of class word ≡ Some base → SpellsBase base word
base_taken (RegisterClass r) word base same is = given (λ b. SpellsBase b word) (Some r) base is (base_register same)
base_taken _ word base same is =
    let short = if_found (nat_le word.len 64) (Some None) base is in
    given (λ b. SpellsBase b word) None base short.1 (base_name (named word (λ r e. cc) short.0))

-- The word of a base.
record Based (x : Option Register × List Lexeme) (xs : List Lexeme) : Type 0 where
  word : Word
  spells : SpellsBase x.0 word
  split : xs ≡ Worded word ∷ x.1

base_read : (xs : List Lexeme) (x : Option Register × List Lexeme) → read_base xs ≡ Some x → Based x xs
base_read (Worded word ∷ rest) x is =
    let b = first_found (base_of word.class word) (λ base. Some (base, rest)) x is in
    given (λ x. Based x (Worded word ∷ rest)) (b.0, rest) x b.2
    (record { word = word; spells = base_taken word.class word b.0 refl b.1; split = refl })
base_read _ x is = cc

offset_taken : (xs : List Lexeme) (x : Offset × List Lexeme) → read_offset xs ≡ Some x → Takes SpellsOffset x xs
unfolding read_offset
offset_taken (Punctuated LeftBracket ∷ rest) x is =
    let v = first_found (read_value rest) (λ v. close_bracket v.1 >>= λ after. Some (Bracket v.0, after)) x is in
    let t = value_taken rest v.0 v.1 in
    let c = first_found (close_bracket v.0.1) (λ after. Some (Bracket v.0.0, after)) x v.2 in
    given (λ x. Takes SpellsOffset x (Punctuated LeftBracket ∷ rest)) (Bracket v.0.0, c.0) x c.2
    (record {
      front = Punctuated LeftBracket ∷ t.front ++ (Punctuated RightBracket ∷ []);
      spells = in_brackets t.spells;
      split = ap (λ xs. Punctuated LeftBracket ∷ xs) (closed_behind rest t.front v.0.1 c.0 (Punctuated RightBracket) t.split (bracket_closed v.0.1 c.0 c.1));
    })
offset_taken (Punctuated LeftParenthesis ∷ rest) x is =
    let v = first_found (read_value rest) (λ v. close_parenthesis v.1 >>= λ after. Some (Parenthesis v.0, after)) x is in
    let t = value_taken rest v.0 v.1 in
    let c = first_found (close_parenthesis v.0.1) (λ after. Some (Parenthesis v.0.0, after)) x v.2 in
    given (λ x. Takes SpellsOffset x (Punctuated LeftParenthesis ∷ rest)) (Parenthesis v.0.0, c.0) x c.2
    (record {
      front = Punctuated LeftParenthesis ∷ t.front ++ (Punctuated RightParenthesis ∷ []);
      spells = in_parentheses t.spells;
      split = ap (λ xs. Punctuated LeftParenthesis ∷ xs) (closed_behind rest t.front v.0.1 c.0 (Punctuated RightParenthesis) t.split (parenthesis_closed v.0.1 c.0 c.1));
    })
offset_taken xs x is =
    given (λ x. Takes SpellsOffset x xs) (Missing, xs) x is (record { front = []; spells = no_offset; split = refl })

mode_taken : (before behind : BaseModifier) (offset : Offset) (mode : Mode) → mode_of before behind offset ≡ Some mode → SpellsMode mode (signs_of before) (signs_of behind) offset
mode_taken Unmodified Unmodified Missing mode is = given (λ m. SpellsMode m [] [] Missing) Positive mode is at_base
mode_taken PlusModifier Unmodified (Bracket v) mode is = given (λ m. SpellsMode m (Plus ∷ []) [] (Bracket v)) Positive mode is ahead
mode_taken PlusModifier Unmodified (Parenthesis v) mode is = given (λ m. SpellsMode m (Plus ∷ []) [] (Parenthesis v)) Positive mode is ahead_bytes
mode_taken MinusModifier Unmodified (Bracket v) mode is = given (λ m. SpellsMode m (Minus ∷ []) [] (Bracket v)) Negative mode is back
mode_taken MinusMinus Unmodified Missing mode is = given (λ m. SpellsMode m (Minus ∷ Minus ∷ []) [] Missing) PreDecrement mode is down_by_one
mode_taken MinusMinus Unmodified (Bracket v) mode is = given (λ m. SpellsMode m (Minus ∷ Minus ∷ []) [] (Bracket v)) PreDecrement mode is down_by
mode_taken PlusPlus Unmodified Missing mode is = given (λ m. SpellsMode m (Plus ∷ Plus ∷ []) [] Missing) PreIncrement mode is up_by_one
mode_taken PlusPlus Unmodified (Bracket v) mode is = given (λ m. SpellsMode m (Plus ∷ Plus ∷ []) [] (Bracket v)) PreIncrement mode is up_by
mode_taken Unmodified MinusMinus Missing mode is = given (λ m. SpellsMode m [] (Minus ∷ Minus ∷ []) Missing) PostDecrement mode is then_down_by_one
mode_taken Unmodified MinusMinus (Bracket v) mode is = given (λ m. SpellsMode m [] (Minus ∷ Minus ∷ []) (Bracket v)) PostDecrement mode is then_down_by
mode_taken Unmodified PlusPlus Missing mode is = given (λ m. SpellsMode m [] (Plus ∷ Plus ∷ []) Missing) PostIncrement mode is then_up_by_one
mode_taken Unmodified PlusPlus (Bracket v) mode is = given (λ m. SpellsMode m [] (Plus ∷ Plus ∷ []) (Bracket v)) PostIncrement mode is then_up_by
mode_taken _ _ _ mode is = cc

-- the parts of an address, one behind the other
address_parts : (xs : List Lexeme) (before behind : BaseModifier) (base : Option Register × List Lexeme) (offset : Offset × List Lexeme) (mode : Mode) (first last : List Lexeme) → xs ≡ map Punctuated (signs_of before) ++ first → Based base first → base.1 ≡ map Punctuated (signs_of behind) ++ last → Takes SpellsOffset offset last → mode_of before behind offset.0 ≡ Some mode → Takes SpellsAddress (record { base = base.0; mode = mode; offset = offset.0 }, offset.1) xs
address_parts xs before behind base offset mode first last one b three o is = record {
  front = map Punctuated (signs_of before) ++ (Worded b.word ∷ map Punctuated (signs_of behind) ++ o.front);
  spells = address_spelled b.spells (mode_taken before behind offset.0 mode is) o.spells;
  split =
      one ∙ ap (λ ys. map Punctuated (signs_of before) ++ ys)
      (b.split ∙ ap (λ ys. Worded b.word ∷ ys) (three ∙ ap (λ ys. map Punctuated (signs_of behind) ++ ys) o.split ∙ sym (append_assoc (map Punctuated (signs_of behind)) o.front offset.1)))
      ∙ sym (append_assoc (map Punctuated (signs_of before)) (Worded b.word ∷ map Punctuated (signs_of behind) ++ o.front) offset.1);
}

pub address_taken : (xs : List Lexeme) (x : Address × List Lexeme) → read_address xs ≡ Some x → Takes SpellsAddress x xs
unfolding read_address
address_taken xs x is =
    let before : BaseModifier = (read_modifier xs).0 in
    let b = first_found (read_base (read_modifier xs).1) (λ base. read_offset (read_modifier base.1).1 >>= λ offset. mode_of before (read_modifier base.1).0 offset.0 >>= λ mode. Some (record { base = base.0; mode = mode; offset = offset.0 }, offset.1)) x is in
    let behind : BaseModifier = (read_modifier b.0.1).0 in
    let o = first_found (read_offset (read_modifier b.0.1).1) (λ offset. mode_of before behind offset.0 >>= λ mode. Some (record { base = b.0.0; mode = mode; offset = offset.0 }, offset.1)) x b.2 in
    let m = first_found (mode_of before behind o.0.0) (λ mode. Some (record { base = b.0.0; mode = mode; offset = o.0.0 }, o.0.1)) x o.2 in
    given (λ x. Takes SpellsAddress x xs) (record { base = b.0.0; mode = m.0; offset = o.0.0 }, o.0.1) x m.2
    (address_parts xs before behind b.0 o.0 m.0 (read_modifier xs).1 (read_modifier b.0.1).1
    (step_split xs) (base_read (read_modifier xs).1 b.0 b.1) (step_split b.0.1) (offset_taken (read_modifier b.0.1).1 o.0 o.1) m.1)
