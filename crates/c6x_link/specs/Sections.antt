-- Sections of some addresses in their places.
use Rattle.std.specs.Prelude.{ℕ, ◌==◌, false, Bool, List, [], ◌∷◌, filter, map, Option, None, Some, nat_le, nat_lt, if◌then◌else◌}
use Rattle.std.specs.List.{flat_map, range_with_len}
use Rattle.c6x_elf.specs.Laid.{Part}
use Rattle.c6x_elf.specs.declared.file.File.{File}
use Rattle.c6x_layout.specs.declared.place.Place.{Place}
use Rattle.c6x_link.specs.Images.{section_part, stub_row}

-- An address is not below the first one, and below the second one.
abbrev pub is_between : ℕ → ℕ → Place → Bool
is_between low high p = if nat_le low p.address then nat_lt p.address high else false

abbrev pub parts_between : List File → ℕ → ℕ → ℕ → List Place → List Part
parts_between objects start low high places = map (section_part objects start) (filter (is_between low high) places)

-- Stubs, the first one's word having this number.
abbrev pub stub_bytes : ℕ → ℕ → List ℕ
stub_bytes first count = flat_map stub_row (range_with_len first count)

abbrev pub stub_part : ℕ → ℕ → ℕ → List Part
stub_part at first count = if count == 0 then [] else record { at = at; bytes = stub_bytes first count } ∷ []

-- What is there, as a list.
abbrev pub one_of : {A : Type 0} → Option A → List A
one_of None = []
one_of (Some x) = x ∷ []
