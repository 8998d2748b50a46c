-- The entries of a table of fixed size (gABI, chapter 4, "Symbol Table" and "Relocation"; chapter 5,
-- "Dynamic Section"), by offsets from the table's start. The byte order comes first.
use Rattle.std.specs.Prelude.{ℕ, Bool, List, Option, Some, None, ◌+◌, ◌*◌, ◌/◌, length, map, nat_le, slice_index, if◌then◌else◌}
use Rattle.std.specs.Int.{cast_signed, w32}
use Rattle.std.specs.List.{range_with_len}
use Rattle.c6x_spec.specs.Numbers.{half_at, word_at}
use Rattle.c6x_elf_headers.specs.declared.dyn_entry.Dyn.{Dyn}
use Rattle.c6x_elf_headers.specs.declared.rela_entry.Rela.{Rela}
use Rattle.c6x_elf_headers.specs.declared.symbol_entry.Symbol.{Symbol}

-- The symbol that stands from 16 times its number on.
unfoldable pub symbol_at : Bool → List ℕ → ℕ → Symbol
symbol_at big table number = record {
  name = word_at big table (16 * number);
  value = word_at big table (16 * number + 4);
  size = word_at big table (16 * number + 8);
  info = slice_index table (16 * number + 12);
  other = slice_index table (16 * number + 13);
  section = half_at big table (16 * number + 14);
}

-- The relocation entry that stands from 12 times its number on; the addend is signed.
unfoldable pub rela_at : Bool → List ℕ → ℕ → Rela
rela_at big table number = record {
  offset = word_at big table (12 * number);
  info = word_at big table (12 * number + 4);
  addend = cast_signed w32 (word_at big table (12 * number + 8));
}

-- The dynamic entry that stands from 8 times its number on.
unfoldable pub dynamic_at : Bool → List ℕ → ℕ → Dyn
dynamic_at big table number = record {
  tag = word_at big table (8 * number);
  value = word_at big table (8 * number + 4);
}

-- The entry with this number, if its bytes are in the table.
abbrev pub symbol_of : Bool → List ℕ → ℕ → Option Symbol
symbol_of big table number =
    if nat_le (16 * number + 16) (length table) then Some (symbol_at big table number) else None

abbrev pub rela_of : Bool → List ℕ → ℕ → Option Rela
rela_of big table number =
    if nat_le (12 * number + 12) (length table) then Some (rela_at big table number) else None

abbrev pub dynamic_of : Bool → List ℕ → ℕ → Option Dyn
dynamic_of big table number =
    if nat_le (8 * number + 8) (length table) then Some (dynamic_at big table number) else None

-- All entries of a table; bytes behind the last whole one are passed over.
unfoldable pub symbol_entries : Bool → List ℕ → List Symbol
symbol_entries big table = map (symbol_at big table) (range_with_len 0 (length table / 16))

unfoldable pub rela_entries : Bool → List ℕ → List Rela
rela_entries big table = map (rela_at big table) (range_with_len 0 (length table / 12))

unfoldable pub dynamic_entries : Bool → List ℕ → List Dyn
dynamic_entries big table = map (dynamic_at big table) (range_with_len 0 (length table / 8))
