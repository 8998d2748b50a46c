-- The operands of a shown line stand apart, and spell themselves.
use Rattle.std.proofs.Common.{◌≡◌, ℕ, ◌+◌, ◌^◌, ◌<◌, Bool, true, false, List, [], ◌∷◌, ◌++◌, length, Option, Some, None, refl, sym, ◌∙◌, ap, arith}
use Rattle.std.proofs.lemmas.Bool.{true≢false}
use Rattle.std.proofs.lemmas.List.{append-nil, append_assoc, length-append}
use Rattle.c6x_asm_lines.specs.Lexemes.{punctuator_of}
use Rattle.c6x_asm_lines.specs.declared.mode.Mode.{Mode}
use Rattle.c6x_asm_lines.specs.declared.mode.Mode.TheVariants.{Negative, Positive, PreDecrement, PreIncrement, PostDecrement, PostIncrement}
use Rattle.c6x_asm_lines.specs.declared.number.Number.{Number}
use Rattle.c6x_asm_lines.specs.declared.offset.Offset.{Offset}
use Rattle.c6x_asm_lines.specs.declared.offset.Offset.TheVariants.{Missing, Bracket, Parenthesis}
use Rattle.c6x_asm_lines.specs.declared.operand.Operand.{Operand}
use Rattle.c6x_asm_lines.specs.declared.operand.Operand.TheVariants.{Text as TextOperand, Address as AddressOperand, Value as ValueOperand}
use Rattle.c6x_asm_lines.specs.declared.primary.Primary.TheVariants.{Register as PrimaryRegister, Number as PrimaryNumber, Symbol as PrimarySymbol}
use Rattle.c6x_asm_lines.specs.declared.register.Register.{Register}
use Rattle.c6x_asm_lines.specs.declared.value.Value.{Value}
use Rattle.c6x_asm_lines.specs.declared.value.Value.TheVariants.{Primary as PrimaryValue, Kind as KindValue}
use Rattle.c6x_asm_lines.specs.Spelling.{SpellsNumber, number_alone, number_minus, plain_register, plain_number, SpellsValue, value_plain, base_register, SpellsOffset, in_brackets, in_parentheses, ahead, ahead_bytes, back, up_by, down_by, then_up_by, then_down_by, SpellsAddress, address_spelled, SpellsOperand, operand_address, operand_value, SpellsList, one_operand, more_operands, SpellsOperands, no_operands, some_operands}
use Rattle.c6x_dis.specs.Pieces.{AreApart, is_end, lexemes_at}
use Rattle.c6x_dis.proofs.ShownNumbers.{decimal_token, number_of_decimal, register_class, register_token}
use Rattle.c6x_dis.specs.Atoms.{Atom, word, number, punctuator, space, atom_bytes, bytes_of}
use Rattle.c6x_dis.specs.Shown.{base_atoms, more_atoms, number_atoms, offset_atoms, operand_atoms, operands_atoms, signs_before, signs_behind, value_atoms}

-- what an instruction's line has as operands: registers of 32, numbers of 32 bits, and addresses of these
abbrev pub IsShownNumber : Number → Type 0
IsShownNumber n = (size : ℕ) × (n.size ≡ Some size) × (size < 2 ^ 32)

abbrev pub IsShownValue : Value → Type 0
IsShownValue (PrimaryValue (PrimaryRegister r)) = r.number < 32
IsShownValue (PrimaryValue (PrimaryNumber n)) = IsShownNumber n
IsShownValue (PrimaryValue (PrimarySymbol name addend)) = ⊥
IsShownValue (KindValue kind inner) = ⊥

abbrev pub IsShownBase : Option Register → Type 0
IsShownBase None = ⊥
IsShownBase (Some r) = r.number < 32

abbrev pub IsShownOffset : Mode → Offset → Type 0
IsShownOffset mode Missing = ⊥
IsShownOffset mode (Bracket v) = IsShownValue v
IsShownOffset mode (Parenthesis v) = (mode ≡ Positive) × IsShownValue v

abbrev pub IsShown : Operand → Type 0
IsShown (TextOperand at len) = ⊥
IsShown (AddressOperand a) = IsShownBase a.base × IsShownOffset a.mode a.offset
IsShown (ValueOperand v) = IsShownValue v

abbrev pub AreShown : List Operand → Type 0
AreShown [] = Unit {0}
AreShown (o ∷ operands) = IsShown o × AreShown operands

-- atoms one after the other
end_joined : (xs ys : List Atom) → is_end xs ≡ true → is_end ys ≡ true → is_end (xs ++ ys) ≡ true
end_joined [] ys first second = second
end_joined (word bs ∷ xs) ys first second = absurd (true≢false (sym first))
end_joined (number bs ∷ xs) ys first second = absurd (true≢false (sym first))
end_joined (punctuator b ∷ xs) ys first second = refl
end_joined (space ∷ xs) ys first second = refl

pub apart_joined : (xs ys : List Atom) → AreApart xs → AreApart ys → is_end ys ≡ true → AreApart (xs ++ ys)
apart_joined [] ys first second ends = second
apart_joined (word bs ∷ xs) ys first second ends = (first.0, end_joined xs ys first.1 ends, apart_joined xs ys first.2 second ends)
apart_joined (number bs ∷ xs) ys first second ends = (first.0, end_joined xs ys first.1 ends, apart_joined xs ys first.2 second ends)
apart_joined (punctuator b ∷ xs) ys first second ends = (first.0, refl, apart_joined xs ys first.2 second ends)
apart_joined (space ∷ xs) ys first second ends = (refl, refl, apart_joined xs ys first.2 second ends)

pub bytes_joined : (xs ys : List Atom) → bytes_of (xs ++ ys) ≡ bytes_of xs ++ bytes_of ys
bytes_joined [] ys = refl
bytes_joined (x ∷ xs) ys = ap (λ bs. atom_bytes x ++ bs) (bytes_joined xs ys) ∙ sym (append_assoc (atom_bytes x) (bytes_of xs) (bytes_of ys))

further : (at : ℕ) (bs : List ℕ) (xs : List Atom) → at + length bs + length (bytes_of xs) ≡ at + length (bs ++ bytes_of xs)
further at bs xs = omega (arith, length-append bs (bytes_of xs))

pub lexemes_joined : (at : ℕ) (xs ys : List Atom) → lexemes_at at (xs ++ ys) ≡ lexemes_at at xs ++ lexemes_at (at + length (bytes_of xs)) ys
lexemes_joined at [] ys = let none : at + 0 ≡ at = omega arith in rw none refl
lexemes_joined at (word bs ∷ xs) ys = rw (lexemes_joined (at + length bs) xs ys, further at bs xs) refl
lexemes_joined at (number bs ∷ xs) ys = rw (lexemes_joined (at + length bs) xs ys, further at bs xs) refl
lexemes_joined at (punctuator b ∷ xs) ys = rw (lexemes_joined (at + 1) xs ys, further at (b ∷ []) xs) refl
lexemes_joined at (space ∷ xs) ys = rw (lexemes_joined (at + 1) xs ys, further at (32 ∷ []) xs) refl

-- values
number_apart : (negative : Bool) (size : Option ℕ) → IsShownNumber (record { negative = negative; size = size }) → AreApart (number_atoms (record { negative = negative; size = size }))
number_apart false size shown = rw shown.1 (decimal_token shown.0 shown.2, refl, tt)
number_apart true size shown = rw shown.1 (refl, refl, (decimal_token shown.0 shown.2, refl, tt))

value_apart : (v : Value) → IsShownValue v → AreApart (value_atoms v)
value_apart (PrimaryValue (PrimaryRegister r)) shown = (register_token r shown, refl, tt)
value_apart (PrimaryValue (PrimaryNumber n)) shown = number_apart n.negative n.size shown
value_apart (PrimaryValue (PrimarySymbol name addend)) shown = absurd shown
value_apart (KindValue kind inner) shown = absurd shown

number_spelled : (negative : Bool) (size : Option ℕ) (at : ℕ) → IsShownNumber (record { negative = negative; size = size }) → SpellsNumber (record { negative = negative; size = size }) (lexemes_at at (number_atoms (record { negative = negative; size = size })))
unfolding punctuator_of
number_spelled false size at shown = rw (shown.1, number_of_decimal shown.0 shown.2) number_alone
number_spelled true size at shown = rw (shown.1, number_of_decimal shown.0 shown.2) number_minus

value_spelled : (v : Value) (at : ℕ) → IsShownValue v → SpellsValue v (lexemes_at at (value_atoms v))
value_spelled (PrimaryValue (PrimaryRegister r)) at shown = value_plain (plain_register (register_class r shown))
value_spelled (PrimaryValue (PrimaryNumber n)) at shown = value_plain (plain_number (number_spelled n.negative n.size at shown))
value_spelled (PrimaryValue (PrimarySymbol name addend)) at shown = absurd shown
value_spelled (KindValue kind inner) at shown = absurd shown

-- addresses
offset_apart : (mode : Mode) (offset : Offset) → IsShownOffset mode offset → AreApart (offset_atoms offset) × (is_end (offset_atoms offset) ≡ true)
offset_apart mode Missing shown = absurd shown
offset_apart mode (Bracket v) shown = ((refl, refl, apart_joined (value_atoms v) (punctuator 93 ∷ []) (value_apart v shown) (refl, refl, tt) refl), refl)
offset_apart mode (Parenthesis v) shown = ((refl, refl, apart_joined (value_atoms v) (punctuator 41 ∷ []) (value_apart v shown.1) (refl, refl, tt) refl), refl)

abbrev address_atoms : Option Register → Mode → Offset → List Atom
address_atoms base mode offset = signs_before mode ++ base_atoms base ++ signs_behind mode ++ offset_atoms offset

based_apart : (r : Register) (mode : Mode) (offset : Offset) → r.number < 32 → AreApart (offset_atoms offset) → is_end (offset_atoms offset) ≡ true → AreApart (address_atoms (Some r) mode offset)
based_apart r Negative offset base apart ends = (refl, refl, (register_token r base, ends, apart))
based_apart r Positive offset base apart ends = (refl, refl, (register_token r base, ends, apart))
based_apart r PreDecrement offset base apart ends = (refl, refl, (refl, refl, (register_token r base, ends, apart)))
based_apart r PreIncrement offset base apart ends = (refl, refl, (refl, refl, (register_token r base, ends, apart)))
based_apart r PostDecrement offset base apart ends = (register_token r base, refl, (refl, refl, (refl, refl, apart)))
based_apart r PostIncrement offset base apart ends = (register_token r base, refl, (refl, refl, (refl, refl, apart)))

address_apart : (base : Option Register) (mode : Mode) (offset : Offset) → IsShownBase base → IsShownOffset mode offset → AreApart (address_atoms base mode offset)
address_apart None mode offset first shown = absurd first
address_apart (Some r) mode offset first shown = based_apart r mode offset first (offset_apart mode offset shown).0 (offset_apart mode offset shown).1

offset_spelled : (mode : Mode) (offset : Offset) (at : ℕ) → IsShownOffset mode offset → SpellsOffset offset (lexemes_at at (offset_atoms offset))
unfolding punctuator_of
offset_spelled mode Missing at shown = absurd shown
offset_spelled mode (Bracket v) at shown = rw (lexemes_joined (at + 1) (value_atoms v) (punctuator 93 ∷ [])) (in_brackets (value_spelled v (at + 1) shown))
offset_spelled mode (Parenthesis v) at shown = rw (lexemes_joined (at + 1) (value_atoms v) (punctuator 41 ∷ [])) (in_parentheses (value_spelled v (at + 1) shown.1))

bracket_spelled : (r : Register) (mode : Mode) (v : Value) (at : ℕ) → r.number < 32 → IsShownValue v → SpellsAddress (record { base = Some r; mode = mode; offset = Bracket v }) (lexemes_at at (address_atoms (Some r) mode (Bracket v)))
unfolding punctuator_of
bracket_spelled r Negative v at base shown = address_spelled (base_register (register_class r base)) back (offset_spelled Negative (Bracket v) _ shown)
bracket_spelled r Positive v at base shown = address_spelled (base_register (register_class r base)) ahead (offset_spelled Positive (Bracket v) _ shown)
bracket_spelled r PreDecrement v at base shown = address_spelled (base_register (register_class r base)) down_by (offset_spelled PreDecrement (Bracket v) _ shown)
bracket_spelled r PreIncrement v at base shown = address_spelled (base_register (register_class r base)) up_by (offset_spelled PreIncrement (Bracket v) _ shown)
bracket_spelled r PostDecrement v at base shown = address_spelled (base_register (register_class r base)) then_down_by (offset_spelled PostDecrement (Bracket v) _ shown)
bracket_spelled r PostIncrement v at base shown = address_spelled (base_register (register_class r base)) then_up_by (offset_spelled PostIncrement (Bracket v) _ shown)

parenthesis_spelled : (r : Register) (v : Value) (at : ℕ) → r.number < 32 → IsShownValue v → SpellsAddress (record { base = Some r; mode = Positive; offset = Parenthesis v }) (lexemes_at at (address_atoms (Some r) Positive (Parenthesis v)))
unfolding punctuator_of
parenthesis_spelled r v at base shown = address_spelled (base_register (register_class r base)) ahead_bytes (offset_spelled Positive (Parenthesis v) _ (refl, shown))

address_again : (base : Option Register) (mode : Mode) (offset : Offset) (at : ℕ) → IsShownBase base → IsShownOffset mode offset → SpellsAddress (record { base = base; mode = mode; offset = offset }) (lexemes_at at (address_atoms base mode offset))
address_again None mode offset at first shown = absurd first
address_again (Some r) mode Missing at first shown = absurd shown
address_again (Some r) mode (Bracket v) at first shown = bracket_spelled r mode v at first shown
address_again (Some r) mode (Parenthesis v) at first shown = rw shown.0 (parenthesis_spelled r v at first shown.1)

-- operands
operand_apart : (o : Operand) → IsShown o → AreApart (operand_atoms o)
unfolding operand_atoms
operand_apart (TextOperand at len) shown = absurd shown
operand_apart (AddressOperand a) shown = (refl, refl, address_apart a.base a.mode a.offset shown.0 shown.1)
operand_apart (ValueOperand v) shown = value_apart v shown

operand_spelled : (o : Operand) (at : ℕ) → IsShown o → SpellsOperand o (lexemes_at at (operand_atoms o))
unfolding operand_atoms punctuator_of
operand_spelled (TextOperand at len) place shown = absurd shown
operand_spelled (AddressOperand a) at shown = operand_address (address_again a.base a.mode a.offset (at + 1) shown.0 shown.1)
operand_spelled (ValueOperand v) at shown = operand_value (value_spelled v at shown)

more_end : (operands : List Operand) → is_end (more_atoms operands) ≡ true
more_end [] = refl
more_end (o ∷ operands) = refl

list_apart : (o : Operand) (operands : List Operand) → IsShown o → AreShown operands → AreApart (operand_atoms o ++ more_atoms operands)
list_apart o [] shown others = rw (append-nil (operand_atoms o)) (operand_apart o shown)
list_apart o (p ∷ operands) shown others =
    apart_joined (operand_atoms o) (punctuator 44 ∷ operand_atoms p ++ more_atoms operands) (operand_apart o shown)
    (refl, refl, list_apart p operands others.0 others.1) refl

pub operands_apart : (operands : List Operand) → AreShown operands → AreApart (operands_atoms operands)
operands_apart [] shown = tt
operands_apart (o ∷ operands) shown = list_apart o operands shown.0 shown.1

list_spelled : (o : Operand) (operands : List Operand) (at : ℕ) → IsShown o → AreShown operands → SpellsList (o ∷ operands) (lexemes_at at (operand_atoms o ++ more_atoms operands))
unfolding punctuator_of
list_spelled o [] at shown others = rw (append-nil (operand_atoms o)) (one_operand (operand_spelled o at shown))
list_spelled o (p ∷ operands) at shown others =
    rw (lexemes_joined at (operand_atoms o) (punctuator 44 ∷ operand_atoms p ++ more_atoms operands))
    (more_operands (operand_spelled o at shown) (list_spelled p operands _ others.0 others.1))

pub operands_spelled : (operands : List Operand) (at : ℕ) → AreShown operands → SpellsOperands operands (lexemes_at at (operands_atoms operands))
operands_spelled [] at shown = no_operands
operands_spelled (o ∷ operands) at shown = some_operands (list_spelled o operands at shown.0 shown.1)
