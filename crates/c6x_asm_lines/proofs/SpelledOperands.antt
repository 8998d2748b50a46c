-- Operands that are spelled are read, each to its end, and the commas between them part them.
use Rattle.std.proofs.Common.{◌≡◌, ◌≢◌, nat_le, if◌then◌else◌, false, List, [], ◌∷◌, ◌++◌, map, Option, Some, None, refl, subst, ◌∙◌, append-nil}
use Rattle.std.specs.List.{slice_split}
use Rattle.c6x_asm_lines.specs.Grammar.{all_operands, base_of, is_comma, operands_of, read_address, read_offset, read_operand, read_modifier, read_value, whole_operand}
use Rattle.c6x_spec.specs.Options.{◌>>=◌}
use Rattle.c6x_asm_lines.specs.declared.address.Address.{Address}
use Rattle.c6x_asm_lines.specs.declared.lexeme.Lexeme.{Lexeme}
use Rattle.c6x_asm_lines.specs.declared.lexeme.Lexeme.TheVariants.{Word as Worded, Punctuator as Punctuated}
use Rattle.c6x_asm_lines.specs.declared.mode.Mode.{Mode}
use Rattle.c6x_asm_lines.specs.declared.number.Number.{Number}
use Rattle.c6x_asm_lines.specs.declared.offset.Offset.{Offset}
use Rattle.c6x_asm_lines.specs.declared.operand.Operand.{Operand}
use Rattle.c6x_asm_lines.specs.declared.operand.Operand.TheVariants.{Value as ValueOperand}
use Rattle.c6x_asm_lines.specs.declared.primary.Primary.{Primary}
use Rattle.c6x_asm_lines.specs.declared.register.Register.{Register}
use Rattle.c6x_asm_lines.specs.declared.punctuator.Punctuator.{Punctuator}
use Rattle.c6x_asm_lines.specs.declared.punctuator.Punctuator.TheVariants.{Comma, RightBracket, RightParenthesis}
use Rattle.c6x_asm_lines.specs.declared.base_modifier.BaseModifier.TheVariants.{Unmodified}
use Rattle.c6x_asm_lines.specs.declared.value.Value.{Value}
use Rattle.c6x_asm_lines.specs.declared.word.Word.{Word}
use Rattle.c6x_asm_lines.specs.declared.word.WordClass.{WordClass}
use Rattle.c6x_asm_lines.specs.declared.word.WordClass.TheVariants.{Register as RegisterClass}
use Rattle.c6x_asm_lines.specs.Spelling.{SpellsNumber, number_alone, number_minus, SpellsPlain, plain_register, plain_number, symbol_alone, symbol_plus, symbol_minus, SpellsValue, value_plain, value_of_kind, value_kind, SpellsBase, base_register, base_name, SpellsOffset, no_offset, in_brackets, in_parentheses, SpellsMode, at_base, ahead, ahead_bytes, back, up_by_one, up_by, down_by_one, down_by, then_up_by_one, then_up_by, then_down_by_one, then_down_by, SpellsAddress, address_spelled, SpellsOperand, operand_text, operand_address, operand_value, SpellsList, one_operand, more_operands, SpellsOperands, no_operands, some_operands}
use Rattle.c6x_asm_lines.proofs.Values.{at_bracket, at_end, at_parenthesis, short_test, value_again}

-- the base of an address
base_class : (class : WordClass) (word : Word) → ((r : Register) → class ≢ RegisterClass r) → base_of class word ≡ (if nat_le word.len 64 then Some None else None)
base_class (RegisterClass r) word free = absurd (free r refl)
base_class _ word free = refl

base_again : (base : Option Register) (word : Word) → SpellsBase base word → base_of word.class word ≡ Some base
base_again base word (base_register is) = rw is refl
base_again base word (base_name name) = base_class word.class word name.free ∙ rw (short_test word name) refl

-- the offset of an address, to the end of the operand
no_step : (offset : Offset) (os : List Lexeme) → SpellsOffset offset os → read_modifier os ≡ (Unmodified, os)
no_step offset os no_offset = refl
no_step offset os (in_brackets s) = refl
no_step offset os (in_parentheses s) = refl

offset_again : (offset : Offset) (os : List Lexeme) → SpellsOffset offset os → read_offset os ≡ Some (offset, [])
unfolding read_offset
offset_again offset os no_offset = refl
offset_again offset os (in_brackets {v} {vs} s) = rw (value_again v vs (Punctuated RightBracket ∷ []) s at_bracket) refl
offset_again offset os (in_parentheses {v} {vs} s) = rw (value_again v vs (Punctuated RightParenthesis ∷ []) s at_parenthesis) refl

-- an address, from what its base and its offset are read as
shape_again : (base : Option Register) (word : Word) (mode : Mode) (before behind : List Punctuator) (offset : Offset) (os : List Lexeme) → base_of word.class word ≡ Some base → SpellsMode mode before behind offset → read_modifier os ≡ (Unmodified, os) → read_offset os ≡ Some (offset, []) → read_address (map Punctuated before ++ (Worded word ∷ map Punctuated behind ++ os)) ≡ Some (record { base = base; mode = mode; offset = offset }, [])
unfolding read_address
shape_again base word mode before behind offset os is at_base still reads = rw (is, still, reads) refl
shape_again base word mode before behind offset os is ahead still reads = rw (is, still, reads) refl
shape_again base word mode before behind offset os is ahead_bytes still reads = rw (is, still, reads) refl
shape_again base word mode before behind offset os is back still reads = rw (is, still, reads) refl
shape_again base word mode before behind offset os is up_by_one still reads = rw (is, still, reads) refl
shape_again base word mode before behind offset os is up_by still reads = rw (is, still, reads) refl
shape_again base word mode before behind offset os is down_by_one still reads = rw (is, still, reads) refl
shape_again base word mode before behind offset os is down_by still reads = rw (is, still, reads) refl
shape_again base word mode before behind offset os is then_up_by_one still reads = rw (is, reads) refl
shape_again base word mode before behind offset os is then_up_by still reads = rw (is, reads) refl
shape_again base word mode before behind offset os is then_down_by_one still reads = rw (is, reads) refl
shape_again base word mode before behind offset os is then_down_by still reads = rw (is, reads) refl

address_again : (a : Address) (xs : List Lexeme) → SpellsAddress a xs → read_address xs ≡ Some (a, [])
address_again a xs (address_spelled {base} {word} {mode} {offset} {before} {behind} {os} b m o) =
    shape_again base word mode before behind offset os (base_again base word b) m (no_step offset os o) (offset_again offset os o)

-- what is spelled as a value begins neither as a text nor as an address
number_begins : (n : Number) (ns : List Lexeme) → SpellsNumber n ns → read_operand ns ≡ (read_value ns >>= λ v. Some (ValueOperand v.0, v.1))
unfolding read_operand
number_begins n ns number_alone = refl
number_begins n ns number_minus = refl

plain_begins : (p : Primary) (ps : List Lexeme) → SpellsPlain p ps → read_operand ps ≡ (read_value ps >>= λ v. Some (ValueOperand v.0, v.1))
unfolding read_operand
plain_begins p ps (plain_register is) = refl
plain_begins p ps (plain_number {n} {ns} s) = number_begins n ns s
plain_begins p ps (symbol_alone is) = refl
plain_begins p ps (symbol_plus is s) = refl
plain_begins p ps (symbol_minus is s) = refl

value_begins : (v : Value) (vs : List Lexeme) → SpellsValue v vs → read_operand vs ≡ (read_value vs >>= λ v. Some (ValueOperand v.0, v.1))
unfolding read_operand
value_begins v vs (value_plain {p} {ps} s) = plain_begins p ps s
value_begins v vs (value_of_kind s) = refl
value_begins v vs value_kind = refl

value_whole : (v : Value) (vs : List Lexeme) → SpellsValue v vs → read_value vs ≡ Some (v, [])
value_whole v vs s =
    let whole : vs ++ [] ≡ vs = append-nil vs in
    subst (λ xs. read_value xs ≡ Some (v, [])) whole (value_again v vs [] s at_end)

operand_again : (o : Operand) (xs : List Lexeme) → SpellsOperand o xs → whole_operand xs ≡ Some o
unfolding read_operand whole_operand
operand_again o xs operand_text = refl
operand_again o all (operand_address {a} {xs} s) = rw (address_again a xs s) refl
operand_again o xs (operand_value {v} {vs} s) = rw (value_begins v vs s, value_whole v vs s) refl

-- No lexeme of these is a comma.
abbrev pub HasNoComma : List Lexeme → Type 0
HasNoComma [] = Unit {0}
HasNoComma (x ∷ xs) = (is_comma x ≡ false) × HasNoComma xs

none_in_both : (xs ys : List Lexeme) → HasNoComma xs → HasNoComma ys → HasNoComma (xs ++ ys)
none_in_both [] ys first second = second
none_in_both (x ∷ xs) ys first second = (first.0, none_in_both xs ys first.1 second)

number_free : (n : Number) (ns : List Lexeme) → SpellsNumber n ns → HasNoComma ns
number_free n ns number_alone = (refl, tt)
number_free n ns number_minus = (refl, (refl, tt))

plain_free : (p : Primary) (ps : List Lexeme) → SpellsPlain p ps → HasNoComma ps
plain_free p ps (plain_register is) = (refl, tt)
plain_free p ps (plain_number {n} {ns} s) = number_free n ns s
plain_free p ps (symbol_alone is) = (refl, tt)
plain_free p ps (symbol_plus {name} {n} {ns} is s) = (refl, (refl, number_free n ns s))
plain_free p ps (symbol_minus {name} {n} {ns} is s) = (refl, (refl, number_free n ns s))

value_free : (v : Value) (vs : List Lexeme) → SpellsValue v vs → HasNoComma vs
value_free v vs (value_plain {p} {ps} s) = plain_free p ps s
value_free v vs (value_of_kind {kind} {p} {ps} s) =
    (refl, (refl, (refl, none_in_both ps (Punctuated RightParenthesis ∷ []) (plain_free p ps s) (refl, tt))))
value_free v vs value_kind = (refl, (refl, tt))

offset_free : (offset : Offset) (os : List Lexeme) → SpellsOffset offset os → HasNoComma os
offset_free offset os no_offset = tt
offset_free offset os (in_brackets {v} {vs} s) = (refl, none_in_both vs (Punctuated RightBracket ∷ []) (value_free v vs s) (refl, tt))
offset_free offset os (in_parentheses {v} {vs} s) = (refl, none_in_both vs (Punctuated RightParenthesis ∷ []) (value_free v vs s) (refl, tt))

mode_free : (mode : Mode) (before behind : List Punctuator) (offset : Offset) → SpellsMode mode before behind offset → HasNoComma (map Punctuated before) × HasNoComma (map Punctuated behind)
mode_free mode before behind offset at_base = (tt, tt)
mode_free mode before behind offset ahead = ((refl, tt), tt)
mode_free mode before behind offset ahead_bytes = ((refl, tt), tt)
mode_free mode before behind offset back = ((refl, tt), tt)
mode_free mode before behind offset up_by_one = ((refl, (refl, tt)), tt)
mode_free mode before behind offset up_by = ((refl, (refl, tt)), tt)
mode_free mode before behind offset down_by_one = ((refl, (refl, tt)), tt)
mode_free mode before behind offset down_by = ((refl, (refl, tt)), tt)
mode_free mode before behind offset then_up_by_one = (tt, (refl, (refl, tt)))
mode_free mode before behind offset then_up_by = (tt, (refl, (refl, tt)))
mode_free mode before behind offset then_down_by_one = (tt, (refl, (refl, tt)))
mode_free mode before behind offset then_down_by = (tt, (refl, (refl, tt)))

address_free : (a : Address) (xs : List Lexeme) → SpellsAddress a xs → HasNoComma xs
address_free a xs (address_spelled {base} {word} {mode} {offset} {before} {behind} {os} b m o) =
    let signs = mode_free mode before behind offset m in
    let last = none_in_both (map Punctuated behind) os signs.1 (offset_free offset os o) in
    none_in_both (map Punctuated before) (Worded word ∷ map Punctuated behind ++ os) signs.0 (refl, last)

operand_free : (o : Operand) (xs : List Lexeme) → SpellsOperand o xs → HasNoComma xs
operand_free o xs operand_text = (refl, tt)
operand_free o all (operand_address {a} {xs} s) = (refl, address_free a xs s)
operand_free o xs (operand_value {v} {vs} s) = value_free v vs s

no_parts : (xs : List Lexeme) → HasNoComma xs → slice_split is_comma xs ≡ xs ∷ []
no_parts [] free = refl
no_parts (x ∷ xs) free = rw (free.0, no_parts xs free.1) refl

parts : (xs ys : List Lexeme) → HasNoComma xs → slice_split is_comma (xs ++ (Punctuated Comma ∷ ys)) ≡ xs ∷ slice_split is_comma ys
parts [] ys free = refl
parts (x ∷ xs) ys free = rw (free.0, parts xs ys free.1) refl

list_again : (os : List Operand) (xs : List Lexeme) → SpellsList os xs → all_operands (slice_split is_comma xs) ≡ Some os
list_again all lexemes (one_operand {o} {xs} s) = rw (no_parts xs (operand_free o xs s), operand_again o xs s) refl
list_again all lexemes (more_operands {o} {os} {xs} {ys} s more) =
    rw (parts xs ys (operand_free o xs s), operand_again o xs s, list_again os ys more) refl

-- where operands are read there is something to read
some_again : (xs : List Lexeme) (os : List Operand) → all_operands (slice_split is_comma xs) ≡ Some os → operands_of xs ≡ Some os
unfolding operands_of whole_operand read_operand read_value
some_again [] os is = cc
some_again (x ∷ xs) os is = is

pub operands_again : (os : List Operand) (xs : List Lexeme) → SpellsOperands os xs → operands_of xs ≡ Some os
unfolding operands_of
operands_again all lexemes no_operands = refl
operands_again all lexemes (some_operands {os} {xs} s) = some_again xs os (list_again os xs s)
