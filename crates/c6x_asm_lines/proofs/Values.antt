-- Numbers, plain values and values that are spelled are read, whatever may follow them.
use Rattle.std.proofs.Common.{◌≡◌, ◌≢◌, nat_le, true, List, [], ◌∷◌, ◌++◌, Some, None, refl, ◌∙◌, append_assoc, arith}
use Rattle.std.proofs.lemmas.Bool.Decides.{nat_tests}
use Rattle.c6x_asm_lines.specs.Grammar.{is_name, read_addend, read_number, read_primary, read_symbol, read_value, read_worded}
use Rattle.c6x_spec.specs.Options.{◌>>=◌}
use Rattle.c6x_asm_lines.specs.declared.lexeme.Lexeme.{Lexeme}
use Rattle.c6x_asm_lines.specs.declared.lexeme.Lexeme.TheVariants.{Word as Worded, Punctuator as Punctuated}
use Rattle.c6x_asm_lines.specs.declared.number.Number.{Number}
use Rattle.c6x_asm_lines.specs.declared.primary.Primary.{Primary}
use Rattle.c6x_asm_lines.specs.declared.primary.Primary.TheVariants.{Number as PrimaryNumber, Symbol as PrimarySymbol}
use Rattle.c6x_asm_lines.specs.declared.register.Register.{Register}
use Rattle.c6x_asm_lines.specs.declared.punctuator.Punctuator.TheVariants.{Plus, Minus, Percent, RightBracket, RightParenthesis}
use Rattle.c6x_asm_lines.specs.declared.value.Value.{Value}
use Rattle.c6x_asm_lines.specs.declared.value.Value.TheVariants.{Primary as PrimaryValue, Kind as KindValue}
use Rattle.c6x_asm_lines.specs.declared.word.Word.{Word}
use Rattle.c6x_asm_lines.specs.declared.word.WordClass.{WordClass}
use Rattle.c6x_asm_lines.specs.declared.word.WordClass.TheVariants.{Register as RegisterClass}
use Rattle.c6x_asm_lines.specs.Spelling.{IsName, SpellsNumber, number_alone, number_minus, SpellsPlain, plain_register, plain_number, symbol_alone, symbol_plus, symbol_minus, SpellsValue, value_plain, value_of_kind, value_kind}

-- What may stand behind a value: nothing, or a closing sign.
pub data Ends : List Lexeme → Type 0 where
  at_end : Ends []
  at_bracket : {rest : List Lexeme} → Ends (Punctuated RightBracket ∷ rest)
  at_parenthesis : {rest : List Lexeme} → Ends (Punctuated RightParenthesis ∷ rest)

number_again : (n : Number) (ns rest : List Lexeme) → SpellsNumber n ns → read_number (ns ++ rest) ≡ Some (n, rest)
number_again n ns rest number_alone = refl
number_again n ns rest number_minus = refl

-- a name is no register, and is short enough
pub short_test : (word : Word) → IsName word → nat_le word.len 64 ≡ true
short_test word name =
    let short = name.short in
    grind (arith, nat_tests)

name_class : (class : WordClass) (word : Word) → ((r : Register) → class ≢ RegisterClass r) → is_name class word ≡ nat_le word.len 64
name_class (RegisterClass r) word free = absurd (free r refl)
name_class _ word free = refl

pub name_test : (word : Word) → IsName word → is_name word.class word ≡ true
name_test word name = name_class word.class word name.free ∙ short_test word name

symbol_class : (class : WordClass) (word : Word) (rest : List Lexeme) → ((r : Register) → class ≢ RegisterClass r) → read_worded class word rest ≡ read_symbol word rest
symbol_class (RegisterClass r) word rest free = absurd (free r refl)
symbol_class _ word rest free = refl

symbol_again : (word : Word) (rest : List Lexeme) → IsName word → read_primary (Worded word ∷ rest) ≡ (read_addend rest >>= λ a. Some (PrimarySymbol word a.0, a.1))
symbol_again word rest name = symbol_class word.class word rest name.free ∙ rw (short_test word name) refl

no_addend : (rest : List Lexeme) → Ends rest → read_addend rest ≡ Some (None, rest)
no_addend rest at_end = refl
no_addend rest at_bracket = refl
no_addend rest at_parenthesis = refl

plain_number_again : (n : Number) (ns rest : List Lexeme) → SpellsNumber n ns → read_primary (ns ++ rest) ≡ Some (PrimaryNumber n, rest)
plain_number_again n ns rest number_alone = refl
plain_number_again n ns rest number_minus = refl

pub plain_again : (p : Primary) (ps rest : List Lexeme) → SpellsPlain p ps → Ends rest → read_primary (ps ++ rest) ≡ Some (p, rest)
plain_again p ps rest (plain_register is) ends = rw is refl
plain_again p ps rest (plain_number {n} {ns} s) ends = plain_number_again n ns rest s
plain_again p ps rest (symbol_alone {name} is) ends = symbol_again name rest is ∙ rw (no_addend rest ends) refl
plain_again p ps rest (symbol_plus {name} {n} {ns} is s) ends =
    symbol_again name (Punctuated Plus ∷ ns ++ rest) is ∙ rw (number_again n ns rest s) refl
plain_again p ps rest (symbol_minus {name} {n} {ns} is s) ends =
    symbol_again name (Punctuated Minus ∷ ns ++ rest) is ∙ rw (number_again n ns rest s) refl

-- what begins as a plain value has no `%` before it
number_first : (n : Number) (ns rest : List Lexeme) → SpellsNumber n ns → read_value (ns ++ rest) ≡ (read_primary (ns ++ rest) >>= λ x. Some (PrimaryValue x.0, x.1))
unfolding read_value
number_first n ns rest number_alone = refl
number_first n ns rest number_minus = refl

plain_first : (p : Primary) (ps rest : List Lexeme) → SpellsPlain p ps → read_value (ps ++ rest) ≡ (read_primary (ps ++ rest) >>= λ x. Some (PrimaryValue x.0, x.1))
unfolding read_value
plain_first p ps rest (plain_register is) = refl
plain_first p ps rest (plain_number {n} {ns} s) = number_first n ns rest s
plain_first p ps rest (symbol_alone is) = refl
plain_first p ps rest (symbol_plus is s) = refl
plain_first p ps rest (symbol_minus is s) = refl

kind_again : (kind : Word) (rest : List Lexeme) → Ends rest → read_value (Punctuated Percent ∷ Worded kind ∷ rest) ≡ Some (KindValue kind None, rest)
unfolding read_value
kind_again kind rest at_end = refl
kind_again kind rest at_bracket = refl
kind_again kind rest at_parenthesis = refl

pub value_again : (v : Value) (vs rest : List Lexeme) → SpellsValue v vs → Ends rest → read_value (vs ++ rest) ≡ Some (v, rest)
unfolding read_value
value_again v vs rest (value_plain {p} {ps} s) ends = plain_first p ps rest s ∙ rw (plain_again p ps rest s ends) refl
value_again v vs rest (value_of_kind {kind} {p} {ps} s) ends =
    rw (append_assoc ps (Punctuated RightParenthesis ∷ []) rest, plain_again p ps (Punctuated RightParenthesis ∷ rest) s at_parenthesis) refl
value_again v vs rest (value_kind {kind}) ends = kind_again kind rest ends
