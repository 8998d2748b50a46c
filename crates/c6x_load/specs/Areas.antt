-- What a process may use: the texts of its search list to read and run, its data ranges and its stack to read and write
-- (this project's own).
use Rattle.std.specs.Prelude.{ℕ, ◌+◌, ◌≤◌, true, false, List, [], ◌∷◌, ◌++◌, slice_get, Option, None, Some}
use Rattle.c6x_access.specs.declared.area.Area.{Area}
use Rattle.c6x_module.specs.declared.module.Module.{Module}
use Rattle.c6x_place.specs.declared.seat.Seat.{Seat}
use Rattle.c6x_load.specs.Values.{text_at}

abbrev pub text_size : Option Module → ℕ
text_size None = 0
text_size (Some m) = m.text.memsz

abbrev pub range_size : Option Module → ℕ
range_size None = 0
range_size (Some m) = m.memory.memsz

abbrev pub readable : ℕ → ℕ → Area
readable lo len = record { lo = lo; len = len; read = true; write = false; run = true }

abbrev pub writable : ℕ → ℕ → Area
writable lo len = record { lo = lo; len = len; read = true; write = true; run = false }

abbrev pub text_areas : List Module → List (Option ℕ) → List ℕ → List Area
text_areas modules texts [] = []
text_areas modules texts (number ∷ list) =
    readable (text_at texts number) (text_size (slice_get modules number)) ∷ text_areas modules texts list

abbrev pub range_areas : List Module → List ℕ → List ℕ → List Area
range_areas modules [] bases = []
range_areas modules (number ∷ list) [] = []
range_areas modules (number ∷ list) (base ∷ bases) =
    writable base (range_size (slice_get modules number)) ∷ range_areas modules list bases

-- The areas of a process in this order.
unfoldable pub seat_areas : List Module → ℕ → List ℕ → List (Option ℕ) → Seat → List Area
seat_areas modules stack list texts seat =
    (text_areas modules texts list ++ range_areas modules list seat.bases) ++ writable seat.stack stack ∷ []

-- The areas end below the last address.
abbrev pub AreBelow : List Area → Type 0
AreBelow [] = Unit {0}
AreBelow (area ∷ areas) = (area.lo + area.len ≤ 4294967295) × AreBelow areas
