-- Which rules a line breaks, by its own words and by what the lines before it say (docs/ASSEMBLY.md, "Rules"): A2 to A5,
-- A7 and A8. A1 is asked of the text, A6 of packets, A9 of the object so far.
use Rattle.std.specs.Prelude.{◌≡◌, ℕ, ◌+◌, ◌%◌, ◌<◌, ◌≤◌, ◌⊎◌, Bool, true, false, List, [], ◌∷◌, ◌++◌, length, Option, Some, None, Ok, Err}
use Rattle.c6x_encoding.specs.Spelling.{Spells}
use Rattle.c6x_asm_lines.specs.declared.lexeme.Lexeme.{Lexeme}
use Rattle.c6x_asm_lines.specs.declared.line.Line.{Line}
use Rattle.c6x_asm_lines.specs.declared.line.Statement.{Statement}
use Rattle.c6x_asm_lines.specs.declared.rule.AsmRule.{AsmRule}
use Rattle.c6x_asm_lines.specs.declared.rule.AsmRule.TheVariants.{Syntax, UnknownWord, Operand, DuplicateLabel, NoSection}
use Rattle.c6x_asm_lines.specs.declared.word.Word.{Word}
use Rattle.c6x_asm_lines.specs.Grammar.{is_dotted}
use Rattle.c6x_asm_lines.specs.Rules.{number_of}
use Rattle.c6x_asm_lines.specs.Spelling.{SpellsLine}
use Rattle.c6x_asm_lines.specs.declared.relocatable.Field.{Field}
use Rattle.c6x_asm_lines.specs.declared.relocatable.RelocatableOp.{RelocatableOp}
use Rattle.c6x_asm_instr.specs.Instructions.{instruction_of}
use Rattle.c6x_asm_instr.specs.declared.directive.Directive.{Directive}
use Rattle.c6x_asm_instr.specs.declared.directive.Directive.TheVariants.{Numbers, Space, Align, Common, Set}
use Rattle.c6x_asm_instr.specs.declared.keyword.Keyword.{Keyword}
use Rattle.c6x_asm_instr.specs.Directives.{directive_by}
use Rattle.c6x_asm_instr.specs.Keywords.{keyword_of}
use Rattle.c6x_asm_instr.specs.Kinds.{kinds_from}
use Rattle.c6x_asm_object.specs.Kinds.{kind_named}
use Rattle.c6x_asm_object.specs.Sections.{is_zero}
use Rattle.c6x_asm.specs.StepLines.{is_numbers}
use Rattle.c6x_asm.specs.Said.{Said, Saying, says_directive, text_of_word}
use Rattle.c6x_asm.specs.Sections.{behind_lines, contents, last_end, lines_in, size_at}
use Rattle.c6x_asm.specs.Symbols.{place_given}

-- lines go to the section with this name
abbrev pub GoesTo : List ℕ → List Said → List ℕ → Type 0
GoesTo text before name = behind_lines text None before ≡ Some name

abbrev pub GoesNowhere : List ℕ → List Said → Type 0
GoesNowhere text before = behind_lines text None before ≡ None

-- the bytes of a section so far
abbrev pub bytes_so_far : List ℕ → List Said → List ℕ → ℕ
bytes_so_far text before name = length (contents 0 (lines_in text name None before))

-- a name has its place already
abbrev pub HasPlace : List ℕ → List Said → List ℕ → Type 0
HasPlace text before name = place_given text [] before name ≡ None → ⊥

-- the label of the line gives the name a place too
abbrev pub IsLabel : List ℕ → Option Word → List ℕ → Type 0
IsLabel text None name = ⊥
IsLabel text (Some word) name = text_of_word text word ≡ name

abbrev pub fills : Directive → Bool
fills (Numbers size fields) = true
fills (Space count) = true
fills (Align align) = true
fills _ = false

-- the name that a directive gives a place
abbrev pub placed_name : List ℕ → Directive → Option (List ℕ)
placed_name text (Common word size align near) = Some (text_of_word text word)
placed_name text (Set word value) = Some (text_of_word text word)
placed_name text _ = None

-- where a directive may not stand: what fills a section, before any `.sect`; a second place of a name
pub data MisplacesDirective : List ℕ → List Said → Option Word → Directive → AsmRule → Type 0 where
  filling_nowhere : {text : List ℕ} {before : List Said} {label : Option Word} {directive : Directive} → fills directive ≡ true → GoesNowhere text before → MisplacesDirective text before label directive NoSection
  placed_again : {text : List ℕ} {before : List Said} {label : Option Word} {directive : Directive} {name : List ℕ} → placed_name text directive ≡ Some name → HasPlace text before name ⊎ IsLabel text label name → MisplacesDirective text before label directive DuplicateLabel

-- an instruction ends where the section's bytes do
abbrev pub EndsHere : List ℕ → List Said → List ℕ → Type 0
EndsHere text before name = last_end 0 (lines_in text name None before) ≡ Some (bytes_so_far text before name)

-- where an instruction may not stand: with `||` and no other just before it; in no section, in one of zeros, between words
pub data MisplacesInstruction : List ℕ → List Said → Bool → AsmRule → Type 0 where
  joins_nothing : {text : List ℕ} {before : List Said} → ((name : List ℕ) → GoesTo text before name → EndsHere text before name → ⊥) → MisplacesInstruction text before true Syntax
  word_nowhere : {text : List ℕ} {before : List Said} {chained : Bool} → GoesNowhere text before → MisplacesInstruction text before chained NoSection
  word_of_zeros : {text : List ℕ} {before : List Said} {chained : Bool} {name : List ℕ} → GoesTo text before name → is_zero (kind_named name) ≡ true → MisplacesInstruction text before chained Operand
  word_between : {text : List ℕ} {before : List Said} {chained : Bool} {name : List ℕ} → GoesTo text before name → (bytes_so_far text before name % 4 ≡ 0 → ⊥) → MisplacesInstruction text before chained Operand

-- numbers do not go to a section of zeros
abbrev pub PutsNumbers : List ℕ → List Said → Keyword → Type 0
PutsNumbers text before keyword = (name : List ℕ) × (is_numbers keyword ≡ true) × GoesTo text before name × (is_zero (kind_named name) ≡ true)

-- what a directive breaks: by the word that names it and its operands, or, where these are right, by its place
pub data BreaksDirective : List ℕ → List Said → Option Word → Option Keyword → Statement → AsmRule → Type 0 where
  unknown : {text : List ℕ} {before : List Said} {label : Option Word} {statement : Statement} → BreaksDirective text before label None statement UnknownWord
  wrong_operands : {text : List ℕ} {before : List Said} {label : Option Word} {keyword : Keyword} {statement : Statement} {rule : AsmRule} → directive_by text keyword statement.operands ≡ Err rule → BreaksDirective text before label (Some keyword) statement rule
  numbers_of_zeros : {text : List ℕ} {before : List Said} {label : Option Word} {keyword : Keyword} {statement : Statement} → PutsNumbers text before keyword → BreaksDirective text before label (Some keyword) statement Operand
  misplaced : {text : List ℕ} {before : List Said} {label : Option Word} {keyword : Keyword} {statement : Statement} {directive : Directive} {rule : AsmRule} → directive_by text keyword statement.operands ≡ Ok directive → (PutsNumbers text before keyword → ⊥) → MisplacesDirective text before label directive rule → BreaksDirective text before label (Some keyword) statement rule

-- what an instruction breaks: by its words, or by its place, or, where these are right, by having no word
pub data BreaksInstruction : List ℕ → List Said → Statement → AsmRule → Type 0 where
  wrong_words : {text : List ℕ} {before : List Said} {statement : Statement} {rule : AsmRule} → instruction_of text statement.head statement.operands ≡ Err rule → BreaksInstruction text before statement rule
  wrong_place : {text : List ℕ} {before : List Said} {statement : Statement} {rule : AsmRule} → MisplacesInstruction text before statement.head.chained rule → BreaksInstruction text before statement rule
  wordless : {text : List ℕ} {before : List Said} {statement : Statement} {made : RelocatableOp} → instruction_of text statement.head statement.operands ≡ Ok made → ((rule : AsmRule) → MisplacesInstruction text before statement.head.chained rule → ⊥) → ((word : ℕ) → Spells (record { condition = statement.head.condition; op = made.op; chained = false }) word → ⊥) → BreaksInstruction text before statement Operand

-- what a label breaks: its name has a place already, or there is no section for it
pub data BreaksLabel : List ℕ → List Said → Option Word → AsmRule → Type 0 where
  label_again : {text : List ℕ} {before : List Said} {word : Word} → HasPlace text before (text_of_word text word) → BreaksLabel text before (Some word) DuplicateLabel
  label_nowhere : {text : List ℕ} {before : List Said} {word : Word} → GoesNowhere text before → BreaksLabel text before (Some word) NoSection

pub data BreaksStatement : List ℕ → List Said → Option Word → Statement → AsmRule → Type 0 where
  wrong_kinds : {text : List ℕ} {before : List Said} {label : Option Word} {statement : Statement} {rule : AsmRule} → kinds_from text None statement.operands ≡ Some rule → BreaksStatement text before label statement rule
  by_directive : {text : List ℕ} {before : List Said} {label : Option Word} {statement : Statement} {rule : AsmRule} → is_dotted statement.head.word.class ≡ true → BreaksDirective text before label (keyword_of (text_of_word text statement.head.word)) statement rule → BreaksStatement text before label statement rule
  by_instruction : {text : List ℕ} {before : List Said} {label : Option Word} {statement : Statement} {rule : AsmRule} → is_dotted statement.head.word.class ≡ false → BreaksInstruction text before statement rule → BreaksStatement text before label statement rule

-- what a line breaks: it has no reading, or its label or its statement breaks a rule
pub data BreaksLine : List ℕ → List Said → List Lexeme → AsmRule → Type 0 where
  unread : {text : List ℕ} {before : List Said} {lexemes : List Lexeme} → ((line : Line) → SpellsLine line lexemes → ⊥) → BreaksLine text before lexemes Syntax
  by_label : {text : List ℕ} {before : List Said} {lexemes : List Lexeme} {line : Line} {rule : AsmRule} → SpellsLine line lexemes → BreaksLabel text before line.label rule → BreaksLine text before lexemes rule
  by_statement : {text : List ℕ} {before : List Said} {lexemes : List Lexeme} {line : Line} {statement : Statement} {rule : AsmRule} → SpellsLine line lexemes → line.statement ≡ Some statement → BreaksStatement text before line.label statement rule → BreaksLine text before lexemes rule

-- these lines break none of these rules: each has a reading and says something, and stands where it may behind those before
pub data BreakNone : List ℕ → List Said → List (List Lexeme) → List Said → Type 0 where
  none_left : {text : List ℕ} {before : List Said} → BreakNone text before [] []
  one_passes : {text : List ℕ} {before : List Said} {lexemes : List Lexeme} {lines : List (List Lexeme)} {l : Said} {said : List Said} → ((rule : AsmRule) → BreaksLine text before lexemes rule → ⊥) → BreakNone text (before ++ l ∷ []) lines said → BreakNone text before (lexemes ∷ lines) (l ∷ said)

-- of the rules that a line breaks this one has the lowest number
pub record IsLowestOf (text : List ℕ) (before : List Said) (lexemes : List Lexeme) (rule : AsmRule) : Type 0 where
  pub breaks : BreaksLine text before lexemes rule
  pub least : (other : AsmRule) → BreaksLine text before lexemes other → number_of rule ≤ number_of other

-- the most bytes of a section
abbrev pub most_bytes : ℕ
most_bytes = 1048576

abbrev pub numbers_room : ℕ → List Field → ℕ
numbers_room size [] = 0
numbers_room size (field ∷ fields) = size + numbers_room size fields

-- how many bytes a line takes at a place of its section
abbrev pub room_for : ℕ → Saying → ℕ
room_for place (says_directive (Numbers size fields)) = numbers_room size fields
room_for place saying = size_at place saying

-- the section that a line goes to would have too many bytes with it
abbrev pub Overfills : List ℕ → List Said → Saying → Type 0
Overfills text before saying = (name : List ℕ) × GoesTo text before name × (most_bytes < bytes_so_far text before name + room_for (bytes_so_far text before name) saying)
