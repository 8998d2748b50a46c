-- The fields that the loader fills, and the names and tables that it reads (SPRAB89, "Dynamic Relocation").
use Rattle.std.specs.Prelude.{ℕ, ◌+◌, ◌==◌, ◌&&◌, false, Bool, List, [], ◌∷◌, ◌++◌, Option, None, Some, filter, length, map}
use Rattle.std.specs.List.{enumerate_from, flat_map}
use Rattle.c6x_dsbt.specs.Wanted.{wanted_at, wanted_of}
use Rattle.c6x_dsbt.specs.declared.wanted.Wanted.{Wanted}
use Rattle.c6x_elf.specs.Names.{name_table}
use Rattle.c6x_elf.specs.declared.file.File.{File}
use Rattle.c6x_symbols.specs.Entries.{file_entries}
use Rattle.c6x_symbols.specs.declared.object_entry.ObjectEntry.{ObjectEntry}
use Rattle.c6x_plan.specs.declared.link_plan.LinkPlan.{LinkPlan}
use Rattle.c6x_reloc.specs.Table.{row_of}
use Rattle.c6x_reloc.specs.declared.reloc_kind.RelocKind.TheVariants.{ABS32}
use Rattle.c6x_symbols.specs.Bindings.{BoundName, bound_at, exports_of, imports_of, name_in}
use Rattle.c6x_layout.specs.Regions.{is_data, moves, section_region, wanted_region}

-- A value word is filled by the loader where its symbol moves.
unfoldable pub is_filled_word : List File → List BoundName → Wanted → Bool
is_filled_word objects bindings wanted = moves (wanted_region objects bindings wanted)

abbrev pub is_word_kind : Option ℕ → Bool
is_word_kind None = false
is_word_kind (Some number) = number == (row_of ABS32).number

-- So is the field of an ABS32 in data on a symbol that moves, where `wanted` is what the symbols of the object stand for.
unfoldable pub is_filled_entry : List File → List BoundName → List Wanted → ObjectEntry → Bool
is_filled_entry objects bindings wanted entry =
    is_word_kind entry.kind
    && (is_data (section_region objects entry.object entry.section)
    && moves (wanted_region objects bindings (wanted_at wanted entry.object entry.symbol)))

unfoldable pub file_filled : List File → List BoundName → ℕ × File → List ObjectEntry
file_filled objects bindings x =
    filter (is_filled_entry objects bindings (wanted_of (map name_in bindings) x.0 x.1.sections)) (file_entries false x)

-- How many entries there are for the loader, beside those of the stubs' words.
unfoldable pub filled_count : List File → List BoundName → List Wanted → ℕ
filled_count objects bindings words =
    length (filter (is_filled_word objects bindings) words)
    + length (flat_map (file_filled objects bindings) (enumerate_from 0 objects))

-- The names that other modules see or define, in the order of their symbols.
abbrev pub shared_numbers : List BoundName → List ℕ
shared_numbers bindings = exports_of bindings ++ imports_of bindings

abbrev pub bound_name_at : List BoundName → ℕ → List ℕ
bound_name_at bindings number = (bound_at bindings number).name

unfoldable pub shared_names : List BoundName → List (List ℕ)
shared_names bindings = map (bound_name_at bindings) (shared_numbers bindings)

-- The module's own name, and those of the modules that it needs.
abbrev pub own_name : Option (List ℕ) → List (List ℕ)
own_name None = []
own_name (Some name) = name ∷ []

unfoldable pub module_names : LinkPlan → List (List ℕ)
module_names plan = own_name plan.soname ++ plan.needed

unfoldable pub strings_of_link : List BoundName → LinkPlan → List ℕ
strings_of_link bindings plan = name_table (shared_names bindings ++ module_names plan)
