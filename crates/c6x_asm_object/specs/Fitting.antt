-- What an object keeps so that each of its numbers fits its field.
use Rattle.std.specs.Prelude.{ℕ, ◌+◌, ◌*◌, ◌^◌, ◌<◌, ◌≤◌, All, List, length}
use Rattle.c6x_asm_object.specs.declared.asm_section.AsmSection.{AsmSection}
use Rattle.c6x_asm_object.specs.declared.symbol.Symbol.{Symbol}
use Rattle.c6x_asm_object.specs.Symbols.{names_total}
use Rattle.c6x_asm_object.specs.Bindings.{definition_or_none}
use Rattle.c6x_asm_object.specs.Filing.{named_sections, names_of, symtab_of}

-- a symbol whose section has a number of 16 bits
abbrev pub IsPlaced : Symbol → Type 0
IsPlaced s = (definition_or_none s.definition).section < 2 ^ 16

-- a section whose relocations take a size of 32 bits
abbrev pub IsListed : AsmSection → Type 0
IsListed p = 12 * length p.entries < 2 ^ 32

-- Sections are numbered in 16 bits, symbols in the 24 of a relocation; sizes and the offsets of names have 32.
pub record FitsFields (text : List ℕ) (sections : List AsmSection) (symbols : List Symbol) : Type 0 where
  pub headers : symtab_of sections + 2 < 2 ^ 16
  pub numbered : 1 + length sections + length symbols ≤ 2 ^ 24
  pub names : 1 + names_total text symbols < 2 ^ 32
  pub placed : All IsPlaced symbols
  pub listed : All IsListed sections
  pub titles : length (names_of (named_sections text sections symbols)) < 2 ^ 31
