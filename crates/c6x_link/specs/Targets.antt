-- What the symbols of relocation entries are at link addresses (SPRAB89, "Dynamic Linking").
use Rattle.std.specs.Prelude.{ℕ, ◌+◌, ◌*◌, List, Option, None, Some, length, nat_lt, take, if◌then◌else◌}
use Rattle.std.specs.Prelude.{count_by}
use Rattle.c6x_dsbt.specs.Needs.{stub_place, word_place}
use Rattle.c6x_dsbt.specs.declared.wanted.Wanted.{Wanted}
use Rattle.c6x_dsbt.specs.declared.wanted.Wanted.TheVariants.{Bound, Local}
use Rattle.c6x_layout.specs.Regions.{wanted_region}
use Rattle.c6x_layout.specs.declared.limits.TheConstants.{STUB_BYTES}
use Rattle.c6x_layout.specs.declared.file_limits.TheConstants.{TEXT_START}
use Rattle.c6x_symbols.specs.declared.region.Region.{Region}
use Rattle.c6x_symbols.specs.declared.region.Region.TheVariants.{Absolute, Data, Import, Text}
use Rattle.c6x_symbols.specs.Bindings.{BoundName, exports_of, is_imported}
use Rattle.c6x_link.specs.Addresses.{wanted_address}
use Rattle.c6x_link.specs.Working.{Working}
use Rattle.c6x_link.specs.declared.target.Target.{Target}

-- The number of an import's dynamic symbol: the null symbol, those of the two segments and the exports stand in front of
-- the imports.
unfoldable pub import_symbol : List BoundName → ℕ → ℕ
import_symbol bindings number = 3 + length (exports_of bindings) + count_by is_imported (take number bindings)

-- The dynamic symbol by which the loader finds what moves: that of its segment, or the import's own; there is none for a
-- name without a number.
abbrev pub number_of_bound : List BoundName → Wanted → ℕ
number_of_bound bindings (Bound number) = if nat_lt number (length bindings) then import_symbol bindings number else 0
number_of_bound bindings (Local object symbol) = 0

abbrev pub symbol_of_region : Region → ℕ → ℕ
symbol_of_region Text import = 1
symbol_of_region Data import = 2
symbol_of_region Import import = import
symbol_of_region Absolute import = 0

abbrev pub dynamic_symbol : List BoundName → Region → Wanted → ℕ
dynamic_symbol bindings region wanted = symbol_of_region region (number_of_bound bindings wanted)

-- The address of that symbol in the file.
abbrev pub dynamic_start : Working → Region → ℕ
dynamic_start w Text = TEXT_START
dynamic_start w Data = w.layout.table
dynamic_start w Import = 0
dynamic_start w Absolute = 0

-- A kind that counts from its own place reaches an import by its stub.
abbrev pub stub_or : Working → ℕ → Option ℕ → ℕ
stub_or w address None = address
stub_or w address (Some place) = w.layout.stubs + STUB_BYTES * place

abbrev pub reach_of : Working → Wanted → ℕ
reach_of w (Bound number) = stub_or w (wanted_address w (Bound number)) (stub_place w.stubs number)
reach_of w (Local object symbol) = wanted_address w (Local object symbol)

-- The address of the value word; 0 where there is none.
abbrev pub word_or : Working → Option ℕ → ℕ
word_or w None = 0
word_or w (Some place) = w.layout.words + 4 * place

unfoldable pub target_of : Working → Wanted → Target
target_of w wanted = record {
  region = wanted_region w.objects w.bindings wanted;
  address = wanted_address w wanted;
  reach = reach_of w wanted;
  word = word_or w (word_place w.words wanted);
  symbol = dynamic_symbol w.bindings (wanted_region w.objects w.bindings wanted) wanted;
  start = dynamic_start w (wanted_region w.objects w.bindings wanted);
}
