-- The text of a used module.
use Rattle.std.proofs.Common.{◌≡◌, ℕ, zero, suc, ◌+◌, ◌%◌, ◌==◌, ◌||◌, Bool, true, false, List, [], ◌∷◌, ◌++◌, length}
use Rattle.std.proofs.Common.{max, refl, sym, ap, ◌∙◌, subst, arith}
use Rattle.std.specs.Prelude.{Option, None, Some, slice_get}
use Rattle.std.proofs.lemmas.Bool.Decides.{nat_tests}
use Rattle.c6x_spec.specs.Memory.{IsOnMemory, Memory}
use Rattle.c6x_spec.specs.Parts.{AreOn, HoldsAll, HoldsPart, Part}
use Rattle.c6x_base.specs.Search.{has}
use Rattle.c6x_module.specs.declared.module.Module.{Module}
use Rattle.c6x_place.specs.declared.bound_process.BoundProcess.{BoundProcess}
use Rattle.c6x_place.specs.Places.{ArePlaced}
use Rattle.c6x_place.specs.Rooms.{text_places, text_rooms}
use Rattle.c6x_place.specs.declared.room.Room.{Room}
use Rattle.c6x_load.specs.Values.{filled, text_at}
use Rattle.c6x_load.specs.Loaded.{text_parts}
use Rattle.c6x_place.specs.Plans.{AreWanted, is_used, used_from}

no_value : {A P : Type 0} (x : A) → None ≡ Some x → P
no_value x is = absurd (cc is)

-- a member of a list that a process has is used
has_at : (list : List ℕ) (position number : ℕ) → slice_get list position ≡ Some number → has list number ≡ true
has_at [] position number is = no_value number is
has_at (x ∷ list) zero number is = let same : x ≡ number = cc is in here (x == number) (grind (arith, nat_tests))
  where
    here : (t : Bool) → t ≡ true → (t || has list number) ≡ true
    here true e = refl
    here false e = absurd (cc e)
has_at (x ∷ list) (suc position) number is = later (x == number) (has_at list position number is)
  where
    later : (t : Bool) → has list number ≡ true → (t || has list number) ≡ true
    later true e = refl
    later false e = e

pub used_at :
    (bounds : List BoundProcess) (process : ℕ) (bound : BoundProcess) (position number : ℕ)
    → slice_get bounds process ≡ Some bound
    → slice_get bound.modules position ≡ Some number
    → is_used bounds number ≡ true
used_at [] process bound position number is listed = no_value bound is
used_at (b ∷ bounds) zero bound position number is listed =
    let same : b ≡ bound = cc is in
    let P : BoundProcess → Type 0 = λ x. has x.modules number ≡ true in
    here (has b.modules number) (subst P (sym same) (has_at bound.modules position number listed))
  where
    here : (t : Bool) → t ≡ true → (t || is_used bounds number) ≡ true
    here true e = refl
    here false e = absurd (cc e)
used_at (b ∷ bounds) (suc process) bound position number is listed =
    later (has b.modules number) (used_at bounds process bound position number is listed)
  where
    later : (t : Bool) → is_used bounds number ≡ true → (t || is_used bounds number) ≡ true
    later true e = refl
    later false e = e

-- which is told for each module
pub used_is :
    (bounds : List BoundProcess) (from : ℕ) (modules : List Module) (k : ℕ) (m : Module)
    → slice_get modules k ≡ Some m
    → slice_get (used_from bounds from modules) k ≡ Some (is_used bounds (from + k))
used_is bounds from [] k m is = no_value m is
used_is bounds from (x ∷ modules) zero m is =
    let same : from ≡ from + 0 = omega arith in ap (λ n. Some (is_used bounds n)) same
used_is bounds from (x ∷ modules) (suc k) m is =
    let same : from + 1 + k ≡ from + suc k = omega arith in
    used_is bounds (from + 1) modules k m is ∙ ap (λ n. Some (is_used bounds n)) same

-- so its text stands at a place that is congruent to its address
pub record TextStands (board : Memory) (m : Module) (at : ℕ) : Type 0 where
  pub on : IsOnMemory board at (length (filled m.text))
  pub part : HoldsPart board (record { at = at; bytes = filled m.text })
  pub congruent : at % max 32 m.text.align ≡ m.text.vaddr % max 32 m.text.align

pub text_stands :
    (board : Memory) (modules : List Module) (used : List Bool) (texts : List (Option ℕ)) (rooms : List Room)
    (places : List ℕ) (parts : List Part) (cursor end last : ℕ)
    → AreWanted used texts
    → ArePlaced cursor end (text_rooms modules used ++ rooms) (text_places texts ++ places) last
    → AreOn board (text_parts modules texts ++ parts)
    → HoldsAll board (text_parts modules texts ++ parts)
    → (k : ℕ) (m : Module)
    → slice_get modules k ≡ Some m
    → slice_get used k ≡ Some true
    → TextStands board m (text_at texts k)
text_stands board [] used texts rooms places parts cursor end last wanted placed on held k m is here = no_value m is
text_stands board (x ∷ modules) [] texts rooms places parts cursor end last wanted placed on held k m is here =
    no_value true here
text_stands board (x ∷ modules) (true ∷ used) [] rooms places parts cursor end last wanted placed on held k m is here
    = absurd wanted
text_stands board (x ∷ modules) (false ∷ used) [] rooms places parts cursor end last wanted placed on held k m is
    here = absurd wanted
text_stands board (x ∷ modules) (true ∷ used) (None ∷ texts) rooms places parts cursor end last wanted placed on held
    k m is here = absurd wanted
text_stands board (x ∷ modules) (false ∷ used) (Some at ∷ texts) rooms places parts cursor end last wanted placed on
    held k m is here = absurd wanted
text_stands board (x ∷ modules) (false ∷ used) (None ∷ texts) rooms places parts cursor end last wanted placed on
    held zero m is here = absurd (cc here)
text_stands board (x ∷ modules) (false ∷ used) (None ∷ texts) rooms places parts cursor end last wanted placed on
    held (suc k) m is here =
    text_stands board modules used texts rooms places parts cursor end last wanted placed on held k m is here
text_stands board (x ∷ modules) (true ∷ used) (Some at ∷ texts) rooms places parts cursor end last wanted placed on
    held zero m is here =
    let same : x ≡ m = cc is in
    let P : Module → Type 0 = λ y. TextStands board y at in
    subst P same (record { on = on.0; part = held.0; congruent = placed.0.congruent })
text_stands board (x ∷ modules) (true ∷ used) (Some at ∷ texts) rooms places parts cursor end last wanted placed on
    held (suc k) m is here =
    text_stands board modules used texts rooms places parts (at + x.text.memsz) end last wanted placed.2 on.1 held.1
    k m is here
