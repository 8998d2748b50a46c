-- Worked lines: what they spell, and that it is found by reading them.
use Rattle.std.proofs.Common.{◌≡◌, ℕ, true, false, codes, length, List, [], ◌∷◌, Some, None, refl, arith}
use Rattle.c6x_base.specs.declared.side.Side.TheVariants.{A, B}
use Rattle.c6x_encoding.specs.declared.cond.Cond.TheVariants.{Always, If}
use Rattle.c6x_encoding.specs.declared.cond_reg.CondReg.TheVariants.{A1}
use Rattle.c6x_asm_lines.specs.Grammar.{line_of, operands_of, read_address, read_condition, read_head, read_label, read_offset, read_operand, read_value, whole_operand}
use Rattle.c6x_asm_lines.specs.Lexemes.{class_of, register_of}
use Rattle.c6x_asm_lines.specs.declared.lexeme.Lexeme.{Lexeme}
use Rattle.c6x_asm_lines.specs.declared.lexeme.Lexeme.TheVariants.{Word as Worded, Number as Numbered, Punctuator as Punctuated}
use Rattle.c6x_asm_lines.specs.declared.line.Line.{Line}
use Rattle.c6x_asm_lines.specs.declared.mode.Mode.TheVariants.{Positive, PostDecrement}
use Rattle.c6x_asm_lines.specs.declared.offset.Offset.TheVariants.{Bracket, Parenthesis}
use Rattle.c6x_asm_lines.specs.declared.operand.Operand.TheVariants.{Address as AddressOperand, Value as ValueOperand}
use Rattle.c6x_asm_lines.specs.declared.primary.Primary.TheVariants.{Register as PrimaryRegister, Number as PrimaryNumber, Symbol as PrimarySymbol}
use Rattle.c6x_asm_lines.specs.declared.register.Register.{Register}
use Rattle.c6x_asm_lines.specs.declared.punctuator.Punctuator.TheVariants.{Bang, ParallelBars, Colon, Comma, LeftBracket, LeftParenthesis, Minus, Percent, Plus, RightBracket, RightParenthesis, Star}
use Rattle.c6x_asm_lines.specs.declared.value.Value.{Value}
use Rattle.c6x_asm_lines.specs.declared.value.Value.TheVariants.{Primary as PrimaryValue, Kind as KindValue}
use Rattle.c6x_asm_lines.specs.declared.word.Word.{Word}
use Rattle.c6x_asm_lines.specs.Spelling.{IsName, number_alone, number_minus, plain_register, plain_number, symbol_minus, value_plain, value_kind, base_register, in_brackets, in_parentheses, ahead_bytes, then_down_by, address_spelled, operand_address, operand_value, one_operand, more_operands, some_operands, no_label, a_label, no_bars, no_condition, is_zero, directive, instruction, statement_spelled, SpellsLine, a_statement}
use Rattle.c6x_asm_lines.proofs.SpelledLines.{unspelled}

-- the word that these bytes are at this place
word : ℕ → List ℕ → Word
word at bytes = record { at = at; len = length bytes; class = class_of bytes }

register : Register → Value
register r = PrimaryValue (PrimaryRegister r)

a : ℕ → Register
a n = record { side = A; number = n }

b : ℕ → Register
b n = record { side = B; number = n }

number : ℕ → Value
number n = PrimaryValue (PrimaryNumber (record { negative = false; size = Some n }))

-- `x: [!A1] MVK .S1 5,A4`
labelled : List Lexeme
labelled =
    Worded (word 0 (codes "x")) ∷ Punctuated Colon ∷ Punctuated LeftBracket ∷ Punctuated Bang ∷ Worded (word 5 (codes "A1")) ∷ Punctuated RightBracket
    ∷ Worded (word 9 (codes "MVK")) ∷ Worded (word 13 (codes ".S1")) ∷ Numbered (Some 5) ∷ Punctuated Comma ∷ Worded (word 19 (codes "A4")) ∷ []

labelled_line : Line
labelled_line = record {
  label = Some (word 0 (codes "x"));
  statement = Some (record {
    head = record { chained = false; condition = If A1 true; word = word 9 (codes "MVK"); unit = Some (word 13 (codes ".S1")) };
    operands = ValueOperand (number 5) ∷ ValueOperand (register (a 4)) ∷ [];
  });
}

labelled_read : line_of labelled ≡ Some labelled_line
unfolding line_of read_label read_head read_condition operands_of whole_operand read_operand read_value class_of register_of word register a number labelled labelled_line
labelled_read = refl

x_is_name : IsName (word 0 (codes "x"))
unfolding class_of register_of word
x_is_name = record { free = λ r e. cc; short = omega arith }

labelled_spelled : SpellsLine labelled_line labelled
unfolding class_of register_of word register a number labelled labelled_line
labelled_spelled =
    a_statement (a_label x_is_name)
    (statement_spelled (instruction no_bars (is_zero refl) (λ e. cc) (λ e. cc) refl)
    (some_operands (more_operands (operand_value (value_plain (plain_number number_alone))) (one_operand (operand_value (value_plain (plain_register refl)))))))

-- `STW .D2T2 B3,*B15--[2]`
stored : List Lexeme
stored =
    Worded (word 0 (codes "STW")) ∷ Worded (word 4 (codes ".D2T2")) ∷ Worded (word 10 (codes "B3")) ∷ Punctuated Comma ∷ Punctuated Star
    ∷ Worded (word 14 (codes "B15")) ∷ Punctuated Minus ∷ Punctuated Minus ∷ Punctuated LeftBracket ∷ Numbered (Some 2) ∷ Punctuated RightBracket ∷ []

stored_line : Line
stored_line = record {
  label = None;
  statement = Some (record {
    head = record { chained = false; condition = Always; word = word 0 (codes "STW"); unit = Some (word 4 (codes ".D2T2")) };
    operands = ValueOperand (register (b 3)) ∷ AddressOperand (record { base = Some (b 15); mode = PostDecrement; offset = Bracket (number 2) }) ∷ [];
  });
}

stored_read : line_of stored ≡ Some stored_line
unfolding line_of read_label read_head read_condition operands_of whole_operand read_operand read_address read_offset read_value class_of register_of word register b number stored stored_line
stored_read = refl

stored_spelled : SpellsLine stored_line stored
unfolding class_of register_of word register b number stored stored_line
stored_spelled =
    a_statement no_label
    (statement_spelled (instruction no_bars no_condition (λ r. cc) (λ r. cc) refl)
    (some_operands (more_operands (operand_value (value_plain (plain_register refl)))
    (one_operand (operand_address (address_spelled (base_register refl) then_down_by (in_brackets (value_plain (plain_number number_alone)))))))))

-- `LDW .D2T2 *+B14(%dsbt_index),B14`
loaded : List Lexeme
loaded =
    Worded (word 0 (codes "LDW")) ∷ Worded (word 4 (codes ".D2T2")) ∷ Punctuated Star ∷ Punctuated Plus ∷ Worded (word 12 (codes "B14"))
    ∷ Punctuated LeftParenthesis ∷ Punctuated Percent ∷ Worded (word 17 (codes "dsbt_index")) ∷ Punctuated RightParenthesis ∷ Punctuated Comma
    ∷ Worded (word 29 (codes "B14")) ∷ []

loaded_line : Line
loaded_line = record {
  label = None;
  statement = Some (record {
    head = record { chained = false; condition = Always; word = word 0 (codes "LDW"); unit = Some (word 4 (codes ".D2T2")) };
    operands = AddressOperand (record { base = Some (b 14); mode = Positive; offset = Parenthesis (KindValue (word 17 (codes "dsbt_index")) None) })
        ∷ ValueOperand (register (b 14)) ∷ [];
  });
}

loaded_read : line_of loaded ≡ Some loaded_line
unfolding line_of read_label read_head read_condition operands_of whole_operand read_operand read_address read_offset read_value class_of register_of word register b loaded loaded_line
loaded_read = refl

loaded_spelled : SpellsLine loaded_line loaded
unfolding class_of register_of word register b loaded loaded_line
loaded_spelled =
    a_statement no_label
    (statement_spelled (instruction no_bars no_condition (λ r. cc) (λ r. cc) refl)
    (some_operands (more_operands (operand_address (address_spelled (base_register refl) ahead_bytes (in_parentheses value_kind)))
    (one_operand (operand_value (value_plain (plain_register refl)))))))

-- `.word x--4`, whose addend is 4
turned_twice : List Lexeme
turned_twice = Worded (word 0 (codes ".word")) ∷ Worded (word 6 (codes "x")) ∷ Punctuated Minus ∷ Punctuated Minus ∷ Numbered (Some 4) ∷ []

turned_line : Line
turned_line = record {
  label = None;
  statement = Some (record {
    head = record { chained = false; condition = Always; word = word 0 (codes ".word"); unit = None };
    operands = ValueOperand (PrimaryValue (PrimarySymbol (word 6 (codes "x")) (Some (record { negative = false; size = Some 4 })))) ∷ [];
  });
}

later_x_is_name : IsName (word 6 (codes "x"))
unfolding class_of register_of word
later_x_is_name = record { free = λ r e. cc; short = omega arith }

turned_spelled : SpellsLine turned_line turned_twice
unfolding class_of register_of word turned_twice turned_line
turned_spelled =
    a_statement no_label
    (statement_spelled (directive refl) (some_operands (one_operand (operand_value (value_plain (symbol_minus later_x_is_name number_minus))))))

-- `LDW .D2T2 *B14[1],B5`: no mode is spelled so
unsigned : List Lexeme
unsigned =
    Worded (word 0 (codes "LDW")) ∷ Worded (word 4 (codes ".D2T2")) ∷ Punctuated Star ∷ Worded (word 11 (codes "B14")) ∷ Punctuated LeftBracket
    ∷ Numbered (Some 1) ∷ Punctuated RightBracket ∷ Punctuated Comma ∷ Worded (word 18 (codes "B5")) ∷ []

unsigned_spells_nothing : (line : Line) → SpellsLine line unsigned → ⊥
unfolding line_of read_label read_head read_condition operands_of whole_operand read_operand read_address read_offset read_value class_of register_of word unsigned
unsigned_spells_nothing = unspelled unsigned refl

-- `.word %abs32(1`: the parenthesis is not closed
unclosed : List Lexeme
unclosed =
    Worded (word 0 (codes ".word")) ∷ Punctuated Percent ∷ Worded (word 7 (codes "abs32")) ∷ Punctuated LeftParenthesis ∷ Numbered (Some 1) ∷ []

unclosed_spells_nothing : (line : Line) → SpellsLine line unclosed → ⊥
unfolding line_of read_label read_head read_condition operands_of whole_operand read_operand read_value class_of register_of word unclosed
unclosed_spells_nothing = unspelled unclosed refl

-- `|| .word 1`: a directive is in no packet
chained_directive : List Lexeme
chained_directive = Punctuated ParallelBars ∷ Worded (word 3 (codes ".word")) ∷ Numbered (Some 1) ∷ []

chained_spells_nothing : (line : Line) → SpellsLine line chained_directive → ⊥
unfolding line_of read_label read_head read_condition class_of register_of word chained_directive
chained_spells_nothing = unspelled chained_directive refl
