-- The relocation table of a section (gABI chapter 4, "Relocation"; the kinds of SPRAB89, "Relocation Types").
use Rattle.std.specs.Prelude.{ℕ, List, map, slice_index, false, Option, Some, None}
use Rattle.std.specs.Int.{cast_signed, w32}
use Rattle.c6x_elf.specs.Attributes.{rela_info}
use Rattle.c6x_elf.specs.EntryRows.{rela_rows}
use Rattle.c6x_elf.specs.Types.{Rela}
use Rattle.c6x_asm_object.specs.declared.reloc_entry.RelocEntry.{RelocEntry}
use Rattle.c6x_reloc.specs.Table.{row_of}

-- the number of an entry's symbol; the null symbol is 0
abbrev pub number_at : List ℕ → Option ℕ → ℕ
number_at numbers None = 0
number_at numbers (Some i) = slice_index numbers i

-- the table's entry of a relocation; `numbers` are those of the symbols
unfoldable pub relocation : List ℕ → RelocEntry → Rela
relocation numbers e = record {
  offset = e.offset;
  info = rela_info (number_at numbers e.symbol) (row_of e.kind).number;
  addend = cast_signed w32 e.addend;
}

-- the bytes of the entries in order
abbrev pub relocation_rows : List ℕ → List RelocEntry → List ℕ
relocation_rows numbers entries = rela_rows false (map (relocation numbers) entries)
