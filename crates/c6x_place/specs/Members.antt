-- What the modules of a plan have, by their numbers; nothing where there is no such module.
use Rattle.std.specs.Prelude.{ℕ, ◌+◌, max, List, [], ◌∷◌, length, slice_get, Option, None, Some}
use Rattle.c6x_module.specs.declared.field.Field.{Field}
use Rattle.c6x_module.specs.declared.module.Module.{Module}

abbrev pub index_or : Option Module → ℕ
index_or None = 0
index_or (Some m) = m.index

abbrev pub index_of : List Module → ℕ → ℕ
index_of modules number = index_or (slice_get modules number)

abbrev pub slots_or : Option Module → ℕ
slots_or None = 0
slots_or (Some m) = m.slots

abbrev pub slots_of : List Module → ℕ → ℕ
slots_of modules number = slots_or (slice_get modules number)

abbrev pub fields_or : Option Module → List Field
fields_or None = []
fields_or (Some m) = m.fields

abbrev pub fields_of : List Module → ℕ → List Field
fields_of modules number = fields_or (slice_get modules number)

abbrev pub needed_or : Option Module → List (List ℕ)
needed_or None = []
needed_or (Some m) = m.needed

abbrev pub needed_of : List Module → ℕ → List (List ℕ)
needed_of modules number = needed_or (slice_get modules number)

-- The greatest index of the members of a list.
abbrev pub greatest_index : List Module → List ℕ → ℕ
greatest_index modules [] = 0
greatest_index modules (number ∷ list) = max (index_of modules number) (greatest_index modules list)

-- How many fields the members of a list have together.
abbrev pub all_fields : List Module → List ℕ → ℕ
all_fields modules [] = 0
all_fields modules (number ∷ list) = length (fields_of modules number) + all_fields modules list
