-- What is true of the sections and symbols that lines of a text make.
use Rattle.std.specs.Prelude.{◌≡◌, ℕ, ◌<◌, ◌≤◌, ◌⊎◌, true, false, All, IfSome, List, [], length}
use Rattle.c6x_elf.specs.Abi.{SHN_LORESERVE}
use Rattle.c6x_asm_object.specs.declared.reloc_entry.RelocEntry.{RelocEntry}
use Rattle.c6x_asm_object.specs.declared.asm_section.AsmSection.{AsmSection}
use Rattle.c6x_asm_object.specs.declared.definition.Definition.{Definition}
use Rattle.c6x_asm_object.specs.declared.symbol.Symbol.{Symbol}
use Rattle.c6x_asm_object.specs.Sections.{is_zero}

-- a relocation names the null symbol or one of so many names
pub record IsEntrySound (names : ℕ) (e : RelocEntry) : Type 0 where
  pub there : IfSome e.symbol (λ i. i < names)

-- a section of zeros has no bytes, and another one as many as its size says
pub record IsSectionSound (names : ℕ) (p : AsmSection) : Type 0 where
  pub zeros : is_zero p.kind ≡ true → p.bytes ≡ []
  pub full : is_zero p.kind ≡ false → length p.bytes ≡ p.size
  pub entries : All (IsEntrySound names) p.entries

-- a place is in one of so many sections or in none, or its number is reserved (gABI chapter 4, "Special Section Indexes")
abbrev pub IsDefinitionSound : ℕ → Definition → Type 0
IsDefinitionSound sections definition = (definition.section ≤ sections) ⊎ ((SHN_LORESERVE ≤ definition.section) × (definition.section < 65536))

pub record IsSymbolSound (sections : ℕ) (s : Symbol) : Type 0 where
  pub place : IfSome s.definition (IsDefinitionSound sections)

pub record AreSound (ps : List AsmSection) (names : List Symbol) : Type 0 where
  pub sections : All (IsSectionSound (length names)) ps
  pub symbols : All (IsSymbolSound (length ps)) names
