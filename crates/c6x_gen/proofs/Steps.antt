-- What a line of code adds to a section.
use Rattle.std.proofs.Common.{◌≡◌, ℕ, ◌+◌, ◌%◌, ◌==◌, nat_le, true, false, List, [], ◌∷◌, Option, Some, None, Ok, codes, length, refl}
use Rattle.c6x_reloc.specs.Table.{row_of}
use Rattle.c6x_reloc.specs.declared.reloc_kind.RelocKind.TheVariants.{DSBT_INDEX, PCR_S21, SBR_U15_W}
use Rattle.c6x_encoding.specs.Encoded.{l_code}
use Rattle.c6x_asm_lines.specs.Grammar.{line_of, operands_of, read_address, read_condition, read_head, read_label, read_offset, read_operand, read_value, whole_operand}
use Rattle.c6x_asm_lines.specs.Lexemes.{class_of, digits_value, number_of, punctuator_of, register_of}
use Rattle.c6x_asm_lines.specs.declared.word.Word.{Word}
use Rattle.c6x_asm_lines.specs.declared.word.WordClass.TheVariants.{Other}
use Rattle.c6x_asm_lines.specs.Addresses.{place_of}
use Rattle.c6x_asm_lines.specs.OperandNames.{kind_of, mnemonic_of, unit_of}
use Rattle.c6x_asm_lines.specs.Numbers.{number_in}
use Rattle.c6x_asm_lines.specs.OperandValues.{constant_operand, field_operand, register_operand, symbol_field, value_field}
use Rattle.c6x_asm_lines.specs.declared.relocation.Relocation.{Relocation}
use Rattle.c6x_asm_instr.specs.Instructions.{first_of, instruction_of, made_by, memory_with, two_with}
use Rattle.c6x_asm_instr.specs.Kinds.{operand_fault}
use Rattle.c6x_asm_object.specs.Sections.{is_zero, with_instruction}
use Rattle.c6x_asm_object.specs.declared.asm_section.AsmSection.{AsmSection}
use Rattle.c6x_asm_object.specs.declared.symbol.Symbol.{Symbol}
use Rattle.c6x_asm.specs.Instructions.{instr_word_of, instructed}
use Rattle.c6x_asm.specs.StepLines.{stated, stepped}
use Rattle.c6x_asm.specs.States.{relocated, State}
use Rattle.c6x_asm.specs.Lines.{read_line}
use Rattle.c6x_dis.specs.Pieces.{is_word, word_at}
use Rattle.c6x_dis.specs.Parts.{AreAt, lexemes_at}
use Rattle.c6x_gen.proofs.Lines.{add_count, call, go_back, indented, load_count, load_table, pop, store_count, wait}
use Rattle.c6x_gen.specs.Words.{ADD_COUNT, CALL, GO_BACK, LOAD_COUNT, LOAD_TABLE, POP_B14, POP_B3, STORE_COUNT, WAIT}
use Rattle.c6x_gen.proofs.Words.{add_count_word, call_word, go_back_word, load_count_word, load_table_word, pop_b14_word, pop_b3_word, store_count_word, wait_word}

-- a section that an instruction may stand in
pub record IsCode (p : AsmSection) : Type 0 where
  pub kind : is_zero p.kind ≡ false
  pub even : (p.size % 4 == 0) ≡ true
  pub room : nat_le (p.size + 4) 1048576 ≡ true

-- lines go to the one section that there is
abbrev pub in_code : AsmSection → List Symbol → State
in_code p symbols = record { sections = p ∷ []; now = Some 0; symbols = symbols }

-- one more instruction
abbrev pub coded : List ℕ → ℕ → ℕ → Option Relocation → AsmSection → List Symbol → State
coded text line word relocation p symbols =
    in_code (with_instruction (instr_word_of line false word) (relocated text symbols p.size relocation).1 p) (relocated text symbols p.size relocation).0

-- a name that may stand as a symbol
pub record IsName (name : List ℕ) : Type 0 where
  pub token : is_word name ≡ true
  pub class : class_of name ≡ Other
  pub short : nat_le (length name) 64 ≡ true

-- where the name stands in a line that calls it
abbrev pub called_word : ℕ → List ℕ → Word
called_word at name = word_at (at + 1 + 1 + 1 + 1 + 1 + 1 + 1 + 1 + 5 + 1 + 3 + 1) name

abbrev pub call_relocation : ℕ → List ℕ → Relocation
call_relocation at name = record { kind = PCR_S21; symbol = Some (called_word at name); addend = 0 }

pub call_step : (text : List ℕ) (at line : ℕ) (name : List ℕ) (p : AsmSection) (symbols : List Symbol) → AreAt text at (indented (call name)) → IsName name → IsCode p → read_line text line (line_of (lexemes_at at (indented (call name)))) (in_code p symbols) ≡ Ok (coded text line CALL (Some (call_relocation at name)) p symbols)
unfolding stepped stated instructed line_of read_label read_head read_condition operands_of whole_operand read_operand read_address read_offset read_value class_of register_of punctuator_of number_of digits_value instruction_of made_by memory_with two_with first_of place_of mnemonic_of unit_of kind_of number_in constant_operand field_operand value_field symbol_field register_operand operand_fault row_of l_code
call_step text at line name p symbols found is code =
    rw (is.class, is.short, found.0, found.1.0, code.kind, code.even, call_word, code.room) refl

pub pop_b3_step : (text : List ℕ) (at line : ℕ) (p : AsmSection) (symbols : List Symbol) → AreAt text at (indented (pop (codes "B3"))) → IsCode p → read_line text line (line_of (lexemes_at at (indented (pop (codes "B3"))))) (in_code p symbols) ≡ Ok (coded text line POP_B3 None p symbols)
unfolding stepped stated instructed line_of read_label read_head read_condition operands_of whole_operand read_operand read_address read_offset read_value class_of register_of punctuator_of number_of digits_value instruction_of made_by memory_with two_with first_of place_of mnemonic_of unit_of kind_of number_in constant_operand field_operand value_field symbol_field register_operand operand_fault row_of l_code
pop_b3_step text at line p symbols found code =
    rw (found.0, found.1.0, code.kind, code.even, pop_b3_word, code.room) refl

pub pop_b14_step : (text : List ℕ) (at line : ℕ) (p : AsmSection) (symbols : List Symbol) → AreAt text at (indented (pop (codes "B14"))) → IsCode p → read_line text line (line_of (lexemes_at at (indented (pop (codes "B14"))))) (in_code p symbols) ≡ Ok (coded text line POP_B14 None p symbols)
unfolding stepped stated instructed line_of read_label read_head read_condition operands_of whole_operand read_operand read_address read_offset read_value class_of register_of punctuator_of number_of digits_value instruction_of made_by memory_with two_with first_of place_of mnemonic_of unit_of kind_of number_in constant_operand field_operand value_field symbol_field register_operand operand_fault row_of l_code
pop_b14_step text at line p symbols found code =
    rw (found.0, found.1.0, code.kind, code.even, pop_b14_word, code.room) refl

pub wait_step : (text : List ℕ) (at line : ℕ) (p : AsmSection) (symbols : List Symbol) → AreAt text at (indented (wait)) → IsCode p → read_line text line (line_of (lexemes_at at (indented (wait)))) (in_code p symbols) ≡ Ok (coded text line WAIT None p symbols)
unfolding stepped stated instructed line_of read_label read_head read_condition operands_of whole_operand read_operand read_address read_offset read_value class_of register_of punctuator_of number_of digits_value instruction_of made_by memory_with two_with first_of place_of mnemonic_of unit_of kind_of number_in constant_operand field_operand value_field symbol_field register_operand operand_fault row_of l_code
wait_step text at line p symbols found code =
    rw (found.0, code.kind, code.even, wait_word, code.room) refl

pub go_back_step : (text : List ℕ) (at line : ℕ) (p : AsmSection) (symbols : List Symbol) → AreAt text at (indented (go_back)) → IsCode p → read_line text line (line_of (lexemes_at at (indented (go_back)))) (in_code p symbols) ≡ Ok (coded text line GO_BACK None p symbols)
unfolding stepped stated instructed line_of read_label read_head read_condition operands_of whole_operand read_operand read_address read_offset read_value class_of register_of punctuator_of number_of digits_value instruction_of made_by memory_with two_with first_of place_of mnemonic_of unit_of kind_of number_in constant_operand field_operand value_field symbol_field register_operand operand_fault row_of l_code
go_back_step text at line p symbols found code =
    rw (found.0, found.1.0, code.kind, code.even, go_back_word, code.room) refl

-- the index of the module, in the place of an offset
abbrev pub index_relocation : Relocation
index_relocation = record { kind = DSBT_INDEX; symbol = None; addend = 0 }

pub load_table_step : (text : List ℕ) (at line : ℕ) (p : AsmSection) (symbols : List Symbol) → AreAt text at (indented (load_table)) → IsCode p → read_line text line (line_of (lexemes_at at (indented (load_table)))) (in_code p symbols) ≡ Ok (coded text line LOAD_TABLE (Some index_relocation) p symbols)
unfolding stepped stated instructed line_of read_label read_head read_condition operands_of whole_operand read_operand read_address read_offset read_value class_of register_of punctuator_of number_of digits_value instruction_of made_by memory_with two_with first_of place_of mnemonic_of unit_of kind_of number_in constant_operand field_operand value_field symbol_field register_operand operand_fault row_of l_code
load_table_step text at line p symbols found code =
    rw (found.0, found.1.0, found.1.1.1.0, code.kind, code.even, load_table_word, code.room) refl

-- where the counter's name stands in the line that loads it, and in the line that stores it
abbrev pub load_place : ℕ → ℕ
load_place at = at + 1 + 1 + 1 + 1 + 1 + 1 + 1 + 1 + 3 + 1 + 5 + 1 + 1 + 1 + 3 + 1

abbrev pub store_place : ℕ → ℕ
store_place at = at + 1 + 1 + 1 + 1 + 1 + 1 + 1 + 1 + 3 + 1 + 5 + 1 + 2 + 1 + 1 + 1 + 3 + 1

-- the place of the counter, where its name stands at this offset
abbrev pub count_relocation : ℕ → Relocation
count_relocation at = record { kind = SBR_U15_W; symbol = Some (word_at at (codes "count")); addend = 0 }

pub load_count_step : (text : List ℕ) (at line : ℕ) (p : AsmSection) (symbols : List Symbol) → AreAt text at (indented (load_count)) → IsCode p → read_line text line (line_of (lexemes_at at (indented (load_count)))) (in_code p symbols) ≡ Ok (coded text line LOAD_COUNT (Some (count_relocation (load_place at))) p symbols)
unfolding stepped stated instructed line_of read_label read_head read_condition operands_of whole_operand read_operand read_address read_offset read_value class_of register_of punctuator_of number_of digits_value instruction_of made_by memory_with two_with first_of place_of mnemonic_of unit_of kind_of number_in constant_operand field_operand value_field symbol_field register_operand operand_fault row_of l_code
load_count_step text at line p symbols found code =
    rw (found.0, found.1.0, code.kind, code.even, load_count_word, code.room) refl

pub add_count_step : (text : List ℕ) (at line : ℕ) (p : AsmSection) (symbols : List Symbol) → AreAt text at (indented (add_count)) → IsCode p → read_line text line (line_of (lexemes_at at (indented (add_count)))) (in_code p symbols) ≡ Ok (coded text line ADD_COUNT None p symbols)
unfolding stepped stated instructed line_of read_label read_head read_condition operands_of whole_operand read_operand read_address read_offset read_value class_of register_of punctuator_of number_of digits_value instruction_of made_by memory_with two_with first_of place_of mnemonic_of unit_of kind_of number_in constant_operand field_operand value_field symbol_field register_operand operand_fault row_of l_code
add_count_step text at line p symbols found code =
    rw (found.0, found.1.0, code.kind, code.even, add_count_word, code.room) refl

pub store_count_step : (text : List ℕ) (at line : ℕ) (p : AsmSection) (symbols : List Symbol) → AreAt text at (indented (store_count)) → IsCode p → read_line text line (line_of (lexemes_at at (indented (store_count)))) (in_code p symbols) ≡ Ok (coded text line STORE_COUNT (Some (count_relocation (store_place at))) p symbols)
unfolding stepped stated instructed line_of read_label read_head read_condition operands_of whole_operand read_operand read_address read_offset read_value class_of register_of punctuator_of number_of digits_value instruction_of made_by memory_with two_with first_of place_of mnemonic_of unit_of kind_of number_in constant_operand field_operand value_field symbol_field register_operand operand_fault row_of l_code
store_count_step text at line p symbols found code =
    rw (found.0, found.1.0, code.kind, code.even, store_count_word, code.room) refl
