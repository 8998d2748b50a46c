-- The names that other modules see or define: how many there are, and the bytes of their strings.
use Rattle.std.specs.Prelude.{ℕ, ◌+◌, ◌≤◌, Bool, true, false, List, length, map, if◌then◌else◌}
use Rattle.std.specs.List.{flat_map}
use Rattle.c6x_base.specs.declared.limits.TheConstants.{MOST_HELD_BYTES}
use Rattle.c6x_elf.specs.Names.{name_row}
use Rattle.c6x_symbols.specs.Bindings.{BoundName, is_exported, is_imported, numbers_where}
use Rattle.c6x_layout.specs.Dynamics.{bound_name_at}
use Rattle.c6x_layout.specs.declared.shared_names.SharedNames.{SharedNames}

-- A name has no more bytes than a file may hold.
pub record IsHeldName (b : BoundName) : Type 0 where
  pub bytes : length b.name ≤ MOST_HELD_BYTES

-- The exports, or else the imports.
abbrev pub is_shared : Bool → BoundName → Bool
is_shared true b = is_exported b
is_shared false b = is_imported b

abbrev pub numbers_of : Bool → List BoundName → List ℕ
numbers_of exported bindings = numbers_where (is_shared exported) 0 bindings

-- The bytes of names, each ended by a zero byte.
abbrev pub rows_size : List (List ℕ) → ℕ
rows_size names = length (flat_map name_row names)

abbrev pub shared_with : Bool → SharedNames → BoundName → SharedNames
shared_with is_one had b =
    if is_one then record { count = had.count + 1; bytes = had.bytes + (length b.name + 1) } else had

unfoldable pub shared_of : Bool → List BoundName → SharedNames
shared_of exported bindings = record {
  count = length (numbers_of exported bindings);
  bytes = rows_size (map (bound_name_at bindings) (numbers_of exported bindings));
}
