-- Where parts lie: each begins at the least multiple of its alignment that is not below the end of the part in front of it.
use Rattle.std.specs.Prelude.{ℕ, ◌+◌, ◌≤◌, ◌&&◌, max, not, Bool, true, false, List, [], ◌∷◌, Option, None, Some}
use Rattle.c6x_spec.specs.Rounded.{rounded}
use Rattle.c6x_symbols.specs.declared.part.Part.{Part}
use Rattle.c6x_symbols.specs.declared.zone.Zone.{Zone}
use Rattle.c6x_symbols.specs.declared.zone.Zone.TheVariants.{Far, Near, Text}
use Rattle.c6x_symbols.specs.Bindings.{BoundName, binding_in}
use Rattle.c6x_symbols.specs.declared.binding.Binding.{Binding}
use Rattle.c6x_symbols.specs.declared.binding.Binding.TheVariants.{Common, Import, Strong, Table, Weak}
use Rattle.c6x_layout.specs.declared.place.Place.{Place}

-- An alignment of 0 counts as 1.
unfoldable pub start_of : ℕ → ℕ → ℕ
start_of from align = rounded from (max align 1)

abbrev pub place_of : ℕ → Part → Place
place_of at part = record { object = part.object; section = part.section; address = at; len = part.size }

-- Sections one behind the other, and the end behind them.
abbrev pub places_from : ℕ → List Part → List Place
places_from from [] = []
places_from from (part ∷ parts) =
    place_of (start_of from part.align) part ∷ places_from (start_of from part.align + part.size) parts

abbrev pub places_end : ℕ → List Part → ℕ
places_end from [] = from
places_end from (part ∷ parts) = places_end (start_of from part.align + part.size) parts

-- Each place ends before the next one begins, and the last one before the end.
abbrev pub AreApart : ℕ → List Place → ℕ → Type 0
AreApart from [] end = from ≤ end
AreApart from (place ∷ places) end = (from ≤ place.address) × AreApart (place.address + place.len) places end

abbrev pub is_text : Zone → Bool
is_text Text = true
is_text Near = false
is_text Far = false

abbrev pub is_near : Zone → Bool
is_near Near = true
is_near Text = false
is_near Far = false

abbrev pub is_far : Zone → Bool
is_far Far = true
is_far Text = false
is_far Near = false

-- The sections of the text; the near and the far ones, with bytes and of zeros.
abbrev pub in_text : Part → Bool
in_text part = is_text part.zone

abbrev pub in_near_bytes : Part → Bool
in_near_bytes part = is_near part.zone && part.filled

abbrev pub in_near_zeros : Part → Bool
in_near_zeros part = is_near part.zone && not part.filled

abbrev pub in_far_bytes : Part → Bool
in_far_bytes part = is_far part.zone && part.filled

abbrev pub in_far_zeros : Part → Bool
in_far_zeros part = is_far part.zone && not part.filled

-- A common's size and alignment, where the name is bound to one of this nearness.
pub record CommonRoom : Type 0 where
  pub size : ℕ
  pub align : ℕ

abbrev pub room_if : Bool → ℕ → ℕ → Option CommonRoom
room_if true size align = Some (record { size = size; align = align })
room_if false size align = None

abbrev pub same_nearness : Bool → Bool → Bool
same_nearness true near = near
same_nearness false near = not near

abbrev pub room_of : Bool → Binding → Option CommonRoom
room_of near (Common size align is_near) = room_if (same_nearness near is_near) size align
room_of near (Strong object symbol) = None
room_of near (Weak object symbol) = None
room_of near (Import weak) = None
room_of near Table = None

unfoldable pub common_room : Bool → BoundName → Option CommonRoom
common_room near b = room_of near (binding_in b)

-- The address of each name's common of this nearness, 0 for every other name; and the end behind them.
abbrev pub address_or : ℕ → Option CommonRoom → ℕ
address_or from None = 0
address_or from (Some room) = start_of from room.align

abbrev pub end_or : ℕ → Option CommonRoom → ℕ
end_or from None = from
end_or from (Some room) = start_of from room.align + room.size

abbrev pub commons_from : Bool → ℕ → List BoundName → List ℕ
commons_from near from [] = []
commons_from near from (b ∷ bs) =
    address_or from (common_room near b) ∷ commons_from near (end_or from (common_room near b)) bs

abbrev pub commons_end : Bool → ℕ → List BoundName → ℕ
commons_end near from [] = from
commons_end near from (b ∷ bs) = commons_end near (end_or from (common_room near b)) bs

-- A name is bound to one common at most, so that one of its two addresses is 0.
abbrev pub added : List ℕ → List ℕ → List ℕ
added [] ys = []
added (x ∷ xs) [] = []
added (x ∷ xs) (y ∷ ys) = (x + y) ∷ added xs ys
