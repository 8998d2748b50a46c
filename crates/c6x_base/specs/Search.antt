use Rattle.std.specs.Prelude.{◌≡◌, ◌≢◌, ℕ, zero, suc, ◌<◌, ◌≤◌, ◌↔◌, ◌==◌, ◌||◌, Bool, false, IsTrue, List, [], ◌∷◌, ◌++◌, length, slice_index, slice_index_or, if◌then◌else◌}
use Rattle.std.specs.List.{flat_map}

-- What each module needs: the numbers of the modules that it names, in the order of its entries.
abbrev pub Needs : Type 0
Needs = List (List ℕ)

-- What the module with this number needs.
abbrev pub needs_of : Needs → ℕ → List ℕ
needs_of needs number = slice_index_or needs number []

-- A number stands in a list.
abbrev pub has : List ℕ → ℕ → Bool
has [] number = false
has (x ∷ xs) number = x == number || has xs number

-- The place of the first entry with this number; the length of the list where there is none.
abbrev pub first_in : List ℕ → ℕ → ℕ
first_in [] number = 0
first_in (x ∷ xs) number = if x == number then 0 else suc (first_in xs number)

-- All that the members of a list need, member by member, and for each in the order of its entries.
unfoldable pub all_needs : Needs → List ℕ → List ℕ
all_needs needs list = flat_map (needs_of needs) list

-- The member at a place is needed by an earlier one.
pub record IsNeeded (needs : Needs) (list : List ℕ) (place : ℕ) : Type 0 where
  pub by : ℕ
  pub before : by < place
  pub needed : IsTrue (has (needs_of needs (slice_index list by)) (slice_index list place))

-- The search list of a module (gABI chapter 5, "Shared Object Dependencies"): the module, and then all that it and
-- its members need, each once, in the order in which they are first needed.
pub record IsSearch (needs : Needs) (start : ℕ) (list : List ℕ) : Type 0 where
  pub some : 1 ≤ length list
  pub first : slice_index list 0 ≡ start
  pub distinct : (i j : ℕ) → i < j → j < length list → slice_index list i ≢ slice_index list j
  pub needed : (j : ℕ) → 1 ≤ j → j < length list → IsNeeded needs list j
  pub closed : (number : ℕ) → IsTrue (has (all_needs needs list) number) → IsTrue (has list number)
  pub ordered : (i j : ℕ) → 1 ≤ i → i < j → j < length list → first_in (all_needs needs list) (slice_index list i) < first_in (all_needs needs list) (slice_index list j)

-- The same list as a value. A list with the further numbers that it lacks, each once.
abbrev pub with_new : List ℕ → ℕ → List ℕ
with_new list number = if has list number then list else list ++ number ∷ []

abbrev pub joined : List ℕ → List ℕ → List ℕ
joined list [] = list
joined list (x ∷ xs) = joined (with_new list x) xs

-- What the member at a place needs, and nothing past the end.
abbrev pub needs_at : Needs → List ℕ → ℕ → List ℕ
needs_at needs list place = needs_of needs (slice_index_or list place (length needs))

-- After the members at the first `count` places have been looked at.
abbrev pub found_after : Needs → ℕ → ℕ → List ℕ
found_after needs start zero = start ∷ []
found_after needs start (suc count) =
    joined (found_after needs start count) (needs_at needs (found_after needs start count) count)

unfoldable pub search_of : Needs → ℕ → List ℕ
search_of needs start = found_after needs start (length needs)

-- Every number is that of a module.
abbrev pub AreBelow : ℕ → List ℕ → Type 0
AreBelow count [] = Unit {0}
AreBelow count (x ∷ xs) = (x < count) × AreBelow count xs

abbrev pub AreNeeds : ℕ → Needs → Type 0
AreNeeds count [] = Unit {0}
AreNeeds count (x ∷ xs) = AreBelow count x × AreNeeds count xs

-- The law: that value is a search list, and there is no other.
abbrev pub OneSearch : Type 0
OneSearch =
    (needs : Needs) (start : ℕ) → start < length needs → AreNeeds (length needs) needs → (list : List ℕ) → IsSearch needs start list ↔ (list ≡ search_of needs start)
