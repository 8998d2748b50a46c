-- The groups of sections, and one step of laying.
use Rattle.std.specs.Prelude.{ℕ, ◌+◌, Bool, true, false, List, [], ◌∷◌, filter, max, if◌then◌else◌}
use Rattle.c6x_symbols.specs.declared.part.Part.{Part}
use Rattle.c6x_symbols.specs.Bindings.{BoundName}
use Rattle.c6x_layout.specs.Layouts.{in_data}
use Rattle.c6x_layout.specs.Places.{commons_end, in_far_bytes, in_far_zeros, in_near_bytes, in_near_zeros, in_text, place_of, places_end, start_of}
use Rattle.c6x_layout.specs.declared.ends.Ends.{Ends}
use Rattle.c6x_layout.specs.declared.group.Group.{Group}
use Rattle.c6x_layout.specs.declared.group.Group.TheVariants.{Data, FarBytes, FarZeros, NearBytes, NearZeros, Text}
use Rattle.c6x_layout.specs.declared.place.Place.{Place}

abbrev pub in_group : Group → Part → Bool
in_group Text part = in_text part
in_group NearBytes part = in_near_bytes part
in_group NearZeros part = in_near_zeros part
in_group FarBytes part = in_far_bytes part
in_group FarZeros part = in_far_zeros part
in_group Data part = in_data part

-- The end behind a section, if it belongs to the group.
abbrev pub end_with : Bool → ℕ → Part → ℕ
end_with is_in at part = if is_in then start_of at part.align + part.size else at

abbrev pub place_with : Bool → ℕ → Part → List Place
place_with is_in at part = if is_in then place_of (start_of at part.align) part ∷ [] else []

-- The greatest alignment with a section, if it belongs to the group.
abbrev pub align_with : Bool → ℕ → Part → ℕ
align_with is_in least part = if is_in then max least part.align else least

-- The ends of the groups of the data, one behind the other.
unfoldable pub ends_of : ℕ → List Part → List BoundName → Ends
ends_of from parts bindings =
    let near_bytes = places_end from (filter in_near_bytes parts) in
    let near_zeros = places_end near_bytes (filter in_near_zeros parts) in
    let near = commons_end true near_zeros bindings in
    let far_bytes = places_end near (filter in_far_bytes parts) in
    let far_zeros = places_end far_bytes (filter in_far_zeros parts) in
    record {
      near_bytes = near_bytes;
      near_zeros = near_zeros;
      near = near;
      far_bytes = far_bytes;
      far_zeros = far_zeros;
      far = commons_end false far_zeros bindings;
    }
