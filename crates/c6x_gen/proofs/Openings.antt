-- What the other lines add: a section, a name, and a label with what stands behind it.
use Rattle.std.proofs.Common.{◌≡◌, ℕ, ◌+◌, ◌%◌, ◌==◌, nat_le, true, false, List, [], ◌∷◌, length, Option, Some, None, Ok, codes, refl}
use Rattle.std.proofs.lemmas.Slice.Eq.{bytes_eq-Decides}
use Rattle.std.specs.Str.{bytes_eq}
use Rattle.c6x_asm_lines.specs.Bytes.{bytes_at}
use Rattle.c6x_asm_lines.specs.Grammar.{line_of, operands_of, read_address, read_condition, read_head, read_label, read_offset, read_operand, read_value, whole_operand}
use Rattle.c6x_asm_lines.specs.Lexemes.{class_of, digits_value, number_of, punctuator_of, register_of}
use Rattle.c6x_asm_lines.specs.Addresses.{place_of}
use Rattle.c6x_asm_lines.specs.OperandNames.{mnemonic_of, unit_of}
use Rattle.c6x_asm_lines.specs.Numbers.{number_in}
use Rattle.c6x_asm_lines.specs.OperandValues.{field_operand, register_operand, value_field}
use Rattle.c6x_asm_instr.specs.Instructions.{instruction_of, made_by, memory_with}
use Rattle.c6x_asm_instr.specs.Directives.{directive_by, fields_of, name_operand, section_named, sized_field}
use Rattle.c6x_asm_instr.specs.Keywords.{keyword_of}
use Rattle.c6x_asm_instr.specs.Kinds.{operand_fault}
use Rattle.c6x_asm_object.specs.Kinds.{kind_named}
use Rattle.c6x_asm_object.specs.Sections.{empty_section, with_number}
use Rattle.c6x_asm_object.specs.Symbols.{fresh, interned, symbol_at}
use Rattle.c6x_asm_object.specs.declared.asm_section.AsmSection.{AsmSection}
use Rattle.c6x_asm_object.specs.declared.definition.Definition.{Definition}
use Rattle.c6x_asm_object.specs.declared.section_kind.SectionKind.TheVariants.{Text as Code, Data}
use Rattle.c6x_asm_object.specs.declared.symbol.Symbol.{Symbol}
use Rattle.c6x_asm.specs.Directives.{applied, with_field}
use Rattle.c6x_asm.specs.Instructions.{instructed}
use Rattle.c6x_asm.specs.StepLines.{stated, stepped}
use Rattle.c6x_asm.specs.States.{entered, label_fault, labelled, name_changed, placed_fault, relocated, section_index, State}
use Rattle.c6x_asm.specs.Lines.{read_line}
use Rattle.c6x_asm.specs.Reading.{nothing}
use Rattle.c6x_dis.specs.Parts.{AreAt, lexemes_at}
use Rattle.c6x_gen.proofs.Lines.{count_word, global_line, labelled_line, push, section_line}
use Rattle.c6x_gen.proofs.Steps.{coded, in_code, IsCode, IsName}
use Rattle.c6x_gen.specs.Words.{PUSH_B14, PUSH_B3}
use Rattle.c6x_gen.proofs.Words.{push_b14_word, push_b3_word}

pub same_bytes : (bs : List ℕ) → bytes_eq bs bs ≡ true
same_bytes bs = (bytes_eq-Decides bs bs).1 refl

-- the section of code, in a line from this offset on
abbrev pub text_section : ℕ → AsmSection
text_section at = empty_section (at + 1 + 1 + 1 + 1 + 1 + 1 + 1 + 1 + 5 + 1 + 1) 5 Code

pub section_step : (text : List ℕ) (at line : ℕ) → AreAt text at (section_line (codes ".text")) → read_line text line (line_of (lexemes_at at (section_line (codes ".text")))) nothing ≡ Ok (in_code (text_section at) [])
unfolding stepped stated line_of read_label read_head read_condition operands_of whole_operand read_operand class_of register_of keyword_of directive_by section_named operand_fault applied entered section_index kind_named
section_step text at line found = rw (found.0, found.1.0, found.1.0) refl

-- a name of this length at this place, for others
abbrev pub given : ℕ → ℕ → Option Definition → Symbol
given at len definition = record { at = at; len = len; definition = definition; global = true; weak = false; hidden = false }

-- where the name of a line `.global` stands
abbrev pub global_place : ℕ → ℕ
global_place at = at + 1 + 1 + 1 + 1 + 1 + 1 + 1 + 1 + 7 + 1

pub global_step : (text : List ℕ) (at line : ℕ) (name : List ℕ) (p : AsmSection) → AreAt text at (global_line name) → IsName name → read_line text line (line_of (lexemes_at at (global_line name))) (in_code p []) ≡ Ok (in_code p (given (global_place at) (length name) None ∷ []))
unfolding stepped stated line_of read_label read_head read_condition operands_of whole_operand read_operand read_value class_of register_of keyword_of directive_by name_operand operand_fault applied name_changed interned symbol_at fresh
global_step text at line name p found is = rw (is.class, is.short, found.0) refl

-- a place in the section of code
abbrev pub in_text : ℕ → Option Definition
in_text value = Some (record { section = 1; value = value; size = 0 })

pub push_b3_step : (text : List ℕ) (at place line : ℕ) (name : List ℕ) (p : AsmSection) → AreAt text at (labelled_line name (push (codes "B3"))) → bytes_at text place (length name) ≡ name → IsName name → IsCode p → read_line text line (line_of (lexemes_at at (labelled_line name (push (codes "B3"))))) (in_code p (given place (length name) None ∷ [])) ≡ Ok (coded text line PUSH_B3 None p (given place (length name) (in_text p.size) ∷ []))
unfolding stepped stated instructed line_of read_label read_head read_condition operands_of whole_operand read_operand read_address read_offset read_value class_of register_of punctuator_of number_of digits_value instruction_of made_by memory_with place_of mnemonic_of unit_of number_in register_operand operand_fault label_fault placed_fault labelled name_changed interned symbol_at
push_b3_step text at place line name p found named is code =
    rw (is.class, is.short, found.0, found.1.0, found.1.1.0, named, same_bytes name, code.kind, code.even, push_b3_word, code.room) refl

pub push_b14_step : (text : List ℕ) (at place line : ℕ) (name : List ℕ) (p : AsmSection) → AreAt text at (labelled_line name (push (codes "B14"))) → bytes_at text place (length name) ≡ name → IsName name → IsCode p → read_line text line (line_of (lexemes_at at (labelled_line name (push (codes "B14"))))) (in_code p (given place (length name) None ∷ [])) ≡ Ok (coded text line PUSH_B14 None p (given place (length name) (in_text p.size) ∷ []))
unfolding stepped stated instructed line_of read_label read_head read_condition operands_of whole_operand read_operand read_address read_offset read_value class_of register_of punctuator_of number_of digits_value instruction_of made_by memory_with place_of mnemonic_of unit_of number_in register_operand operand_fault label_fault placed_fault labelled name_changed interned symbol_at
push_b14_step text at place line name p found named is code =
    rw (is.class, is.short, found.0, found.1.0, found.1.1.0, named, same_bytes name, code.kind, code.even, push_b14_word, code.room) refl

-- the section of near data, in a line from this offset on
abbrev pub data_section : ℕ → AsmSection
data_section at = empty_section (at + 1 + 1 + 1 + 1 + 1 + 1 + 1 + 1 + 5 + 1 + 1) 9 Data

-- lines go to the second section
abbrev pub in_data : AsmSection → AsmSection → List Symbol → State
in_data p q symbols = record { sections = p ∷ q ∷ []; now = Some 1; symbols = symbols }

pub data_step : (text : List ℕ) (at line : ℕ) (p : AsmSection) (symbols : List Symbol) → AreAt text at (section_line (codes ".neardata")) → bytes_at text p.at p.len ≡ codes ".text" → read_line text line (line_of (lexemes_at at (section_line (codes ".neardata")))) (in_code p symbols) ≡ Ok (in_data p (data_section at) symbols)
unfolding stepped stated line_of read_label read_head read_condition operands_of whole_operand read_operand class_of register_of keyword_of directive_by section_named operand_fault applied entered section_index kind_named
data_step text at line p symbols found named = rw (found.0, found.1.0, named, found.1.0, found.1.0) refl

-- the counter's name, with its place
abbrev pub count_symbol : ℕ → Option Definition → Symbol
count_symbol at definition = record { at = at; len = 5; definition = definition; global = false; weak = false; hidden = false }

-- a name that the text has at the place of the first symbol, and that is not `count`
pub record IsOther (text : List ℕ) (s : Symbol) : Type 0 where
  pub name : List ℕ
  pub is : bytes_at text s.at s.len ≡ name
  pub other : bytes_eq name (codes "count") ≡ false

pub count_step : (text : List ℕ) (at place line : ℕ) (digits : List ℕ) (count : ℕ) (first : Symbol) (p : AsmSection) (begun : ℕ) → AreAt text at (labelled_line (codes "count") (count_word digits)) → IsOther text first → bytes_at text place 5 ≡ codes "count" → number_of digits ≡ Some count → nat_le 0 count ≡ true → nat_le count 4294967295 ≡ true → (count % 1 == 0) ≡ true → read_line text line (line_of (lexemes_at at (labelled_line (codes "count") (count_word digits)))) (in_data p (data_section begun) (first ∷ count_symbol place None ∷ [])) ≡ Ok (in_data p (with_number 4 count None (data_section begun)) (first ∷ count_symbol place (Some (record { section = 2; value = 0; size = 0 })) ∷ []))
unfolding stepped stated line_of read_label read_head read_condition operands_of whole_operand read_operand read_value class_of register_of punctuator_of keyword_of directive_by fields_of sized_field field_operand value_field number_in operand_fault applied with_field relocated label_fault placed_fault labelled name_changed interned symbol_at empty_section
count_step text at place line digits count first p begun found other named is least most whole =
    rw (found.0, found.1.0, other.is, other.other, named, is, least, most, whole) refl
