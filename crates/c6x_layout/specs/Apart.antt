-- The parts of a linked file lie apart and in order.
use Rattle.std.specs.Prelude.{◌≡◌, ◌⊎◌, ℕ, ◌+◌, ◌*◌, ◌≤◌, Bool, true, false, List, [], ◌∷◌, Option, None, Some, length}
use Rattle.c6x_layout.specs.Layouts.{Laying, code_end, data_end, far_zeros_end, file_end, near_bytes_end, near_end, near_zeros_end, places_of, sections_end, stubs_at, table_at, text_end, words_at, words_end}
use Rattle.c6x_layout.specs.declared.limits.TheConstants.{STUB_BYTES}
use Rattle.c6x_layout.specs.Places.{AreApart as PlacesAreApart, CommonRoom, common_room, commons_from}
use Rattle.c6x_layout.specs.declared.file_limits.TheConstants.{TEXT_START}
use Rattle.c6x_symbols.specs.Bindings.{BoundName}

-- A common that a name is bound to begins at or behind this place, and ends where the next ones may begin.
abbrev pub CommonIsApart : Option CommonRoom → ℕ → ℕ → (ℕ → Type 0) → Type 0
CommonIsApart None from address rest = rest from
CommonIsApart (Some room) from address rest = (from ≤ address) × rest (address + room.size)

-- The commons of this nearness, which stand at these addresses, lie apart between two places.
abbrev pub CommonsAreApart : Bool → List BoundName → List ℕ → ℕ → ℕ → Type 0
CommonsAreApart near [] addresses end from = from ≤ end
CommonsAreApart near (b ∷ bs) [] end from = ⊥
CommonsAreApart near (b ∷ bs) (address ∷ addresses) end from =
    CommonIsApart (common_room near b) from address (CommonsAreApart near bs addresses end)

-- All sections lie apart between the start of the text and the end of the data; between those of the text and the data
-- stand the stubs and then the tables of the text, and at the start of the data the table, the value words and the words
-- of the stubs; the near commons stand behind the near sections, the far ones behind all.
pub record AreApart (l : Laying) : Type 0 where
  pub sections : PlacesAreApart TEXT_START (places_of l) (data_end l)
  pub text : TEXT_START ≤ sections_end l
  pub stubs : length l.stubs ≡ 0 ⊎ (sections_end l ≤ stubs_at l)
  pub stubs_end : stubs_at l + STUB_BYTES * length l.stubs ≤ code_end l
  pub code : sections_end l ≤ code_end l
  pub tables : code_end l ≤ text_end l
  pub table : text_end l ≤ table_at l
  pub slots : table_at l + 4 * l.plan.table ≤ words_at l
  pub words : words_at l + 4 * (length l.words + length l.stubs) ≤ words_end l
  pub near_sections : words_end l ≤ near_bytes_end l
  pub near_zeros : near_bytes_end l ≤ near_zeros_end l
  pub near_commons :
      CommonsAreApart true l.bindings (commons_from true (near_zeros_end l) l.bindings) (near_end l) (near_zeros_end l)
  pub near : near_zeros_end l ≤ near_end l
  pub file : near_end l ≤ file_end l
  pub far_zeros : file_end l ≤ far_zeros_end l
  pub far_commons :
      CommonsAreApart false l.bindings (commons_from false (far_zeros_end l) l.bindings) (data_end l) (far_zeros_end l)
