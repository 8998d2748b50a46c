-- What each of the two lines adds.
use Rattle.std.proofs.Common.{◌≡◌, ℕ, false, List, [], ◌∷◌, Some, None, Ok, codes, refl}
use Rattle.c6x_encoding.specs.declared.cond.Cond.TheVariants.{Always}
use Rattle.c6x_encoding.specs.declared.op.Op.{Op}
use Rattle.c6x_asm_lines.specs.Bytes.{bytes_at}
use Rattle.c6x_asm_lines.specs.Grammar.{is_dotted, line_of, operands_of, read_condition, read_head, read_label, read_operand, whole_operand}
use Rattle.c6x_asm_lines.specs.declared.lexeme.Lexeme.{Lexeme}
use Rattle.c6x_asm_lines.specs.declared.line.Line.{Line}
use Rattle.c6x_asm_lines.specs.declared.operand.Operand.{Operand}
use Rattle.c6x_asm_lines.specs.declared.operand.Operand.TheVariants.{Text as TextOperand}
use Rattle.c6x_asm_lines.specs.declared.statement_head.StatementHead.{StatementHead}
use Rattle.c6x_asm_lines.specs.declared.word.WordClass.TheVariants.{Dotted}
use Rattle.c6x_asm_instr.specs.Instructions.{instruction_of, plain_made}
use Rattle.c6x_asm_instr.specs.Directives.{directive_by, section_named}
use Rattle.c6x_asm_instr.specs.Keywords.{keyword_of}
use Rattle.c6x_asm_instr.specs.Kinds.{kinds_from, operand_fault}
use Rattle.c6x_asm_object.specs.Kinds.{kind_named}
use Rattle.c6x_asm_object.specs.Sections.{empty_section}
use Rattle.c6x_asm.specs.Directives.{applied}
use Rattle.c6x_asm.specs.Instructions.{instructed, word_of}
use Rattle.c6x_asm.specs.StepLines.{stated, stepped}
use Rattle.c6x_asm.specs.States.{State, entered, relocated, section_index}
use Rattle.c6x_asm.specs.Lines.{lined}
use Rattle.c6x_asm.specs.Reading.{nothing}
use Rattle.c6x_dis.specs.Lines.{line_with}
use Rattle.c6x_dis.proofs.First.{first_lexemes}
use Rattle.c6x_dis.proofs.Sections.{begun_section, begun_small, word_section, word_small}

-- the first line: a directive with a text
abbrev directive_line : Line
directive_line = line_with (record { chained = false; condition = Always; word = record { at = 0; len = 5; class = Dotted }; unit = None }) (TextOperand 7 5 ∷ [])

first_read : line_of first_lexemes ≡ Some directive_line
unfolding line_of read_label read_head read_condition operands_of whole_operand read_operand
first_read = refl

abbrev pub begun : State
begun = record { sections = begun_section ∷ []; now = Some 0; symbols = [] }

abbrev pub done : ℕ → State
done word = record { sections = word_section word ∷ []; now = Some 0; symbols = [] }

first_step : (text : List ℕ) → bytes_at text 0 5 ≡ codes ".sect" → bytes_at text 7 5 ≡ codes ".text" → stepped text 1 directive_line nothing ≡ Ok begun
unfolding stepped stated keyword_of directive_by section_named operand_fault applied entered section_index kind_named
first_step text keyword name = rw (keyword, name, name) refl

pub first_lined : (text : List ℕ) → bytes_at text 0 5 ≡ codes ".sect" → bytes_at text 7 5 ≡ codes ".text" → lined text 1 first_lexemes nothing ≡ Ok begun
unfolding lined
first_lined text keyword name = rw (first_read, first_step text keyword name, begun_small text name) refl

second_step : (text : List ℕ) (head : StatementHead) (operands : List Operand) (op : Op) (word : ℕ) → head.chained ≡ false → is_dotted head.word.class ≡ false → kinds_from text None operands ≡ None → instruction_of text head operands ≡ Ok (plain_made op) → word_of head.condition op ≡ Some word → stepped text 2 (line_with head operands) begun ≡ Ok (done word)
unfolding stepped stated instructed relocated empty_section
second_step text head operands op word alone other kinds means is = rw (other, kinds, means, alone, is) refl

pub second_lined : (text : List ℕ) (lexemes : List Lexeme) (head : StatementHead) (operands : List Operand) (op : Op) (word : ℕ) → bytes_at text 7 5 ≡ codes ".text" → line_of lexemes ≡ Some (line_with head operands) → head.chained ≡ false → is_dotted head.word.class ≡ false → kinds_from text None operands ≡ None → instruction_of text head operands ≡ Ok (plain_made op) → word_of head.condition op ≡ Some word → lined text 2 lexemes begun ≡ Ok (done word)
unfolding lined
second_lined text lexemes head operands op word name read alone other kinds means is =
    rw (read, second_step text head operands op word alone other kinds means is, word_small text word name) refl
