-- What each line of a text says, by its own words alone (docs/ASSEMBLY.md): where it stands is no part of it.
use Rattle.std.specs.Prelude.{◌≡◌, ℕ, ◌+◌, Bool, true, false, List, [], ◌∷◌, Option, Some, None, Ok}
use Rattle.c6x_encoding.specs.Spelling.{Spells}
use Rattle.c6x_asm_lines.specs.declared.lexeme.Lexeme.{Lexeme}
use Rattle.c6x_asm_lines.specs.declared.line.Line.{Line}
use Rattle.c6x_asm_lines.specs.declared.line.Statement.{Statement}
use Rattle.c6x_asm_lines.specs.declared.word.Word.{Word}
use Rattle.c6x_asm_lines.specs.Bytes.{bytes_at}
use Rattle.c6x_asm_lines.specs.Grammar.{is_dotted}
use Rattle.c6x_asm_lines.specs.Spelling.{SpellsLine}
use Rattle.c6x_asm_lines.specs.declared.relocatable.RelocatableOp.{RelocatableOp}
use Rattle.c6x_asm_lines.specs.declared.relocation.Relocation.{Relocation}
use Rattle.c6x_asm_instr.specs.Instructions.{instruction_of}
use Rattle.c6x_asm_instr.specs.declared.directive.Directive.{Directive}
use Rattle.c6x_asm_instr.specs.declared.keyword.Keyword.{Keyword}
use Rattle.c6x_asm_instr.specs.Directives.{directive_by}
use Rattle.c6x_asm_instr.specs.Keywords.{keyword_of}

-- nothing but a label; a directive; an instruction: whether `||` stands before it, its word outside a packet, and the
-- relocation of its field
pub data Saying : Type 0 where
  says_nothing : Saying
  says_directive : Directive → Saying
  says_instruction : Bool → ℕ → Option Relocation → Saying

pub record Said : Type 0 where
  pub number : ℕ
  pub label : Option Word
  pub saying : Saying

abbrev pub text_of_word : List ℕ → Word → List ℕ
text_of_word text word = bytes_at text word.at word.len

-- the word of an instruction is one that the instruction table spells it by
pub data Says : List ℕ → Option Statement → Saying → Type 0 where
  nothing_said : {text : List ℕ} → Says text None says_nothing
  directive_said : {text : List ℕ} {statement : Statement} {keyword : Keyword} {directive : Directive} → is_dotted statement.head.word.class ≡ true → keyword_of (text_of_word text statement.head.word) ≡ Some keyword → directive_by text keyword statement.operands ≡ Ok directive → Says text (Some statement) (says_directive directive)
  instruction_said : {text : List ℕ} {statement : Statement} {made : RelocatableOp} {word : ℕ} → is_dotted statement.head.word.class ≡ false → instruction_of text statement.head statement.operands ≡ Ok made → Spells (record { condition = statement.head.condition; op = made.op; chained = false }) word → Says text (Some statement) (says_instruction statement.head.chained word made.relocation)

-- the lines of a text from this number on, each by the grammar's spelling
pub data TheySay : List ℕ → ℕ → List (List Lexeme) → List Said → Type 0 where
  no_lines : {text : List ℕ} {number : ℕ} → TheySay text number [] []
  a_line : {text : List ℕ} {number : ℕ} {lexemes : List Lexeme} {line : Line} {saying : Saying} {lines : List (List Lexeme)} {said : List Said} → SpellsLine line lexemes → Says text line.statement saying → TheySay text (number + 1) lines said → TheySay text number (lexemes ∷ lines) (record { number = number; label = line.label; saying = saying } ∷ said)
