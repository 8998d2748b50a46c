-- Lines that stand: what they say, behind each that the sections and symbols so far pass no limit (docs/ASSEMBLY.md).
use Rattle.std.specs.Prelude.{◌≡◌, ℕ, ◌<◌, ◌≤◌, ◌⊎◌, true, false, List, [], ◌∷◌, ◌++◌}
use Rattle.c6x_asm_lines.specs.declared.lexeme.Lexeme.{Lexeme}
use Rattle.c6x_asm_object.specs.declared.asm_section.AsmSection.{AsmSection}
use Rattle.c6x_asm_object.specs.declared.symbol.Symbol.{Symbol}
use Rattle.c6x_asm_object.specs.Limits.{is_large}
use Rattle.c6x_asm.specs.Breaking.{BreakNone, Overfills}
use Rattle.c6x_asm.specs.Said.{Said, TheySay}
use Rattle.c6x_asm.specs.Relocations.{HaveRelocations}
use Rattle.c6x_asm.specs.Sections.{AreSectionsOf}
use Rattle.c6x_asm.specs.Symbols.{AreSymbolsOf}

-- the sections and symbols of lines
pub record AreMadeOf (text : List ℕ) (said : List Said) (sections : List AsmSection) (symbols : List Symbol) : Type 0 where
  pub have_lines : AreSectionsOf text said sections
  pub have_names : AreSymbolsOf text said symbols
  pub have_entries : HaveRelocations text said symbols sections

-- their object passes no limit
pub record IsSmall (text : List ℕ) (said : List Said) : Type 0 where
  pub sections : List AsmSection
  pub symbols : List Symbol
  pub made : AreMadeOf text said sections symbols
  pub small : is_large text sections symbols ≡ false

-- their object passes a limit
pub record IsLarge (text : List ℕ) (said : List Said) : Type 0 where
  pub sections : List AsmSection
  pub symbols : List Symbol
  pub made : AreMadeOf text said sections symbols
  pub large : is_large text sections symbols ≡ true

-- the highest number of a line
abbrev pub most_lines : ℕ
most_lines = 65536

-- one line behind the other: neither its number nor the object so far passes a limit
pub data PassNoLimit : List ℕ → List Said → List Said → Type 0 where
  no_more : {text : List ℕ} {before : List Said} → PassNoLimit text before []
  one_more : {text : List ℕ} {before : List Said} {l : Said} {said : List Said} → l.number ≤ most_lines → IsSmall text (before ++ l ∷ []) → PassNoLimit text (before ++ l ∷ []) said → PassNoLimit text before (l ∷ said)

-- behind those before it this line passes a limit: by its number, by the bytes of its section, or by the object so far
abbrev pub PassesLimit : List ℕ → List Said → Said → Type 0
PassesLimit text before l = (most_lines < l.number) ⊎ (Overfills text before l.saying ⊎ IsLarge text (before ++ l ∷ []))

-- these lines, from the first one on, say this, break no rule that is asked of a line, and pass no limit
pub record AreStanding (text : List ℕ) (lines : List (List Lexeme)) (said : List Said) : Type 0 where
  pub say : TheySay text 1 lines said
  pub break_none : BreakNone text [] lines said
  pub pass_none : PassNoLimit text [] said
