-- The relocation entries of a section, by what its lines say (docs/ASSEMBLY.md).
use Rattle.std.specs.Prelude.{◌≡◌, ℕ, ◌+◌, ◌<◌, List, [], ◌∷◌, ◌++◌, length, map, slice_index_or, Option, Some, None}
use Rattle.c6x_asm_lines.specs.declared.word.Word.{Word}
use Rattle.c6x_asm_lines.specs.declared.relocatable.Field.{Field}
use Rattle.c6x_asm_lines.specs.declared.relocation.Relocation.{Relocation}
use Rattle.c6x_asm_instr.specs.declared.directive.Directive.TheVariants.{Numbers}
use Rattle.c6x_asm_object.specs.declared.asm_section.AsmSection.{AsmSection}
use Rattle.c6x_asm_object.specs.declared.reloc_entry.RelocEntry.{RelocEntry}
use Rattle.c6x_asm_object.specs.declared.symbol.Symbol.{Symbol}
use Rattle.c6x_asm_object.specs.Named.{section_name}
use Rattle.c6x_asm_object.specs.Sections.{section_at}
use Rattle.c6x_asm_object.specs.Symbols.{symbol_name}
use Rattle.c6x_asm.specs.Said.{Saying, says_directive, says_instruction, Said, text_of_word}
use Rattle.c6x_asm.specs.Sections.{lines_in, one_number, size_at}

-- a relocation, and the place of its field in the section
pub record Placed : Type 0 where
  pub place : ℕ
  pub relocation : Relocation

abbrev pub relocation_at : ℕ → Option Relocation → List Placed
relocation_at place None = []
relocation_at place (Some relocation) = record { place = place; relocation = relocation } ∷ []

-- those of numbers of so many bytes, of which the first stands at this place
abbrev pub number_relocations : ℕ → ℕ → List Field → List Placed
number_relocations size place [] = []
number_relocations size place (field ∷ fields) = relocation_at place field.relocation ++ number_relocations size (place + length (one_number size field)) fields

abbrev pub relocations_of : ℕ → Saying → List Placed
relocations_of place (says_instruction chained word relocation) = relocation_at place relocation
relocations_of place (says_directive (Numbers size fields)) = number_relocations size place fields
relocations_of place _ = []

-- the relocations of a section's lines, of which the first has this place, by lines and operands
abbrev pub relocations : ℕ → List Said → List Placed
relocations place [] = []
relocations place (l ∷ lines) = relocations_of place l.saying ++ relocations (place + size_at place l.saying) lines

-- the number of a symbol is that of its name
abbrev pub IsNumbered : List ℕ → List (List ℕ) → Option Word → Option ℕ → Type 0
IsNumbered text names None None = Unit {0}
IsNumbered text names None (Some number) = ⊥
IsNumbered text names (Some word) None = ⊥
IsNumbered text names (Some word) (Some number) = (number < length names) × (slice_index_or names number [] ≡ text_of_word text word)

-- an entry stands for a relocation
pub record IsEntryOf (text : List ℕ) (names : List (List ℕ)) (placed : Placed) (e : RelocEntry) : Type 0 where
  pub offset : e.offset ≡ placed.place
  pub kind : e.kind ≡ placed.relocation.kind
  pub addend : e.addend ≡ placed.relocation.addend
  pub symbol : IsNumbered text names placed.relocation.symbol e.symbol

-- one entry for each relocation, in order; `names` are those of the symbols
pub data AreEntriesOf : List ℕ → List (List ℕ) → List Placed → List RelocEntry → Type 0 where
  no_entries : {text : List ℕ} {names : List (List ℕ)} → AreEntriesOf text names [] []
  an_entry : {text : List ℕ} {names : List (List ℕ)} {placed : Placed} {e : RelocEntry} {rest : List Placed} {entries : List RelocEntry} → IsEntryOf text names placed e → AreEntriesOf text names rest entries → AreEntriesOf text names (placed ∷ rest) (e ∷ entries)

-- the entries of each section are those of its lines
pub record HaveRelocations (text : List ℕ) (said : List Said) (symbols : List Symbol) (sections : List AsmSection) : Type 0 where
  pub each : (i : ℕ) → i < length sections → AreEntriesOf text (map (symbol_name text) symbols) (relocations 0 (lines_in text (section_name text (section_at sections i)) None said)) (section_at sections i).entries
