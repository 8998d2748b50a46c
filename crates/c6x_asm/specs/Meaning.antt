-- The promise of the assembler, in the words of its syntax (docs/ASSEMBLY.md): which file is the object of a text, and for
-- what a text is refused.
use Rattle.std.specs.Prelude.{◌≡◌, ℕ, ◌+◌, ◌≤◌, List, [], ◌∷◌, ◌++◌, length, Result, Ok, Err}
use Rattle.c6x_lex.specs.declared.token.Token.{Token}
use Rattle.c6x_lex.specs.Tokens.{Position, tokens_of}
use Rattle.c6x_asm_lines.specs.declared.lexeme.Lexeme.{Lexeme}
use Rattle.c6x_asm_lines.specs.declared.rule.AsmRule.{AsmRule}
use Rattle.c6x_asm_lines.specs.declared.rule.AsmRule.TheVariants.{BadByte, Packet, Large}
use Rattle.c6x_elf.specs.declared.file.File.{File}
use Rattle.c6x_asm_object.specs.declared.asm_section.AsmSection.{AsmSection}
use Rattle.c6x_asm_object.specs.declared.symbol.Symbol.{Symbol}
use Rattle.c6x_asm_object.specs.Filing.{file_of}
use Rattle.c6x_asm.specs.Breaking.{BreaksLine, IsLowestOf}
use Rattle.c6x_asm.specs.Said.{Said, TheySay}
use Rattle.c6x_asm.specs.declared.asm_error.AsmError.{AsmError}
use Rattle.c6x_asm.specs.declared.asm_error.AsmError.TheVariants.{Rule, NoMemory}
use Rattle.c6x_asm.specs.declared.broken.Broken.{Broken}
use Rattle.c6x_asm.specs.Groups.{BreakNoPacket, BreaksPacket}
use Rattle.c6x_asm.specs.Lines.{lines_of}
use Rattle.c6x_asm.specs.Standing.{AreMadeOf, AreStanding, PassesLimit}

-- The text is cut into lines by the tokens; each line is spelled by the grammar, says something, and breaks no rule. Each
-- section has the lines behind a `.sect` of its name, and of each line what it puts there; each word is one that the
-- instruction table spells, in a packet that breaks no rule; the symbols are the names, each with what the lines say of it;
-- the relocation entries are those of the lines.
pub record IsObjectOf (text : List ℕ) (file : File) : Type 0 where
  pub tokens : List Token
  pub cut : tokens_of text ≡ Ok tokens
  pub said : List Said
  pub stand : AreStanding text (lines_of text tokens) said
  pub packets : BreakNoPacket text said
  pub sections : List AsmSection
  pub symbols : List Symbol
  pub made : AreMadeOf text said sections symbols
  pub filed : file ≡ file_of text sections symbols

-- the first lines of a text stand, and these are left
pub record IsLead (text : List ℕ) (before : List Said) (left : List (List Lexeme)) : Type 0 where
  pub tokens : List Token
  pub cut : tokens_of text ≡ Ok tokens
  pub front : List (List Lexeme)
  pub split : lines_of text tokens ≡ front ++ left
  pub stand : AreStanding text front before

-- the next line breaks no rule, but passes a limit
pub record IsTooMuch (text : List ℕ) (before : List Said) (number : ℕ) (lexemes : List Lexeme) : Type 0 where
  pub l : Said
  pub says : TheySay text number (lexemes ∷ []) (l ∷ [])
  pub breaks_none : (rule : AsmRule) → BreaksLine text before lexemes rule → ⊥
  pub passes : PassesLimit text before l

-- the lines that stand are all, or the next one breaks a rule or passes a limit
pub data Stops : List ℕ → List Said → ℕ → List (List Lexeme) → Type 0 where
  text_ends : {text : List ℕ} {before : List Said} {number : ℕ} → Stops text before number []
  line_breaks : {text : List ℕ} {before : List Said} {number : ℕ} {lexemes : List Lexeme} {left : List (List Lexeme)} {rule : AsmRule} → BreaksLine text before lexemes rule → Stops text before number (lexemes ∷ left)
  limit_passed : {text : List ℕ} {before : List Said} {number : ℕ} {lexemes : List Lexeme} {left : List (List Lexeme)} → IsTooMuch text before number lexemes → Stops text before number (lexemes ∷ left)

-- Why a text has no object. A byte that starts no token comes before all others; then the lowest line that begins a packet
-- of the lines that stand, where one of these is broken; then the next line: with the lowest rule that it breaks, or, where
-- it breaks none, with the limit that it passes.
pub data IsRefusal : List ℕ → Broken → Type 0 where
  bad_byte : {text : List ℕ} {place : Position} → tokens_of text ≡ Err place → IsRefusal text (record { rule = BadByte; line = place.line })
  broken_packet : {text : List ℕ} {before : List Said} {left : List (List Lexeme)} {line : ℕ} (lead : IsLead text before left) → Stops text before (length lead.front + 1) left → BreaksPacket text before line → ((other : ℕ) → BreaksPacket text before other → line ≤ other) → IsRefusal text (record { rule = Packet; line = line })
  broken_line : {text : List ℕ} {before : List Said} {lexemes : List Lexeme} {left : List (List Lexeme)} {rule : AsmRule} (lead : IsLead text before (lexemes ∷ left)) → BreakNoPacket text before → IsLowestOf text before lexemes rule → IsRefusal text (record { rule = rule; line = length lead.front + 1 })
  passed_limit : {text : List ℕ} {before : List Said} {lexemes : List Lexeme} {left : List (List Lexeme)} (lead : IsLead text before (lexemes ∷ left)) → BreakNoPacket text before → IsTooMuch text before (length lead.front + 1) lexemes → IsRefusal text (record { rule = Large; line = length lead.front + 1 })

-- a refusal names what is refused
abbrev pub Refuses : List ℕ → Result File AsmError → Type 0
Refuses text (Ok file) = Unit {0}
Refuses text (Err (Rule rule line)) = IsRefusal text (record { rule = rule; line = line })
Refuses text (Err NoMemory) = Unit {0}
