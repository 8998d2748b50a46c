-- Ranges one behind the other: of lists behind lists, and as parts of a memory.
use Rattle.std.proofs.Common.{◌≡◌, ℕ, ◌+◌, ◌≤◌, List, [], ◌∷◌, ◌++◌, length, refl, sym, ap, ◌∙◌, subst, arith, append-nil, append_assoc, Bool, true, false, suc, max}
use Rattle.std.specs.Prelude.{Option, None, Some, nat_le, slice_get, if◌then◌else◌}
use Rattle.std.proofs.lemmas.Bool.Decides.{nat_tests}
use Rattle.c6x_spec.specs.Options.{◌>>=◌}
use Rattle.c6x_spec.specs.Parts.{InOrder, Part}
use Rattle.c6x_spec.specs.Places.{IsLeastPlace, least_place}
use Rattle.c6x_spec.proofs.LeastPlaces.{least_place_is, only_place}
use Rattle.c6x_module.specs.declared.module.Module.{Module}
use Rattle.c6x_place.specs.Places.{ArePlaced, bases_from, one_base, room_at, seat_of}
use Rattle.c6x_place.specs.Rooms.{data_rooms, range_of, room_or, seat_places, seat_rooms, stack_room}
use Rattle.c6x_place.specs.declared.room.Room.{Room}
use Rattle.c6x_place.specs.declared.seat.Seat.{Seat}

same_some : (a b : ℕ) → Some a ≡ Some b → a ≡ b
same_some a b is = cc

none_some : (a : ℕ) → None ≡ Some a → ⊥
none_some a is = cc

chosen_value : (t : Bool) (a at : ℕ) → (if t then Some a else None) ≡ Some at → a ≡ at
chosen_value true a at is = same_some a at is
chosen_value false a at is = absurd (none_some at is)

chosen : (p q : ℕ) (at : ℕ) → (if nat_le p q then Some at else None) ≡ Some at → p ≤ q
chosen p q at is = grind (arith, nat_tests)

-- a range is placed at its least place, where it ends in the memory
pub room_is : (cursor end : ℕ) (room : Room) (at : ℕ) → 1 ≤ room.step → room_at cursor end room ≡ Some at → IsLeastPlace cursor room.vaddr room.step at × (at + room.size ≤ end)
unfolding room_at
room_is cursor end room at some is =
    let same : least_place cursor room.vaddr room.step ≡ at = chosen_value (nat_le (least_place cursor room.vaddr room.step + room.size) end) _ at is in
    let P : ℕ → Type 0 = λ (n : ℕ). (if nat_le (n + room.size) end then Some n else None) ≡ Some at in
    let Q : ℕ → Type 0 = λ (n : ℕ). IsLeastPlace cursor room.vaddr room.step n in
    (subst Q same (least_place_is cursor room.vaddr room.step some), chosen (at + room.size) end at (subst P same is))

tested : (p q at : ℕ) → p ≤ q → (if nat_le p q then Some at else None) ≡ Some at
tested p q at holds = grind (arith, nat_tests)

-- and each least place that ends in the memory is the answer
pub room_back : (cursor end : ℕ) (room : Room) (at : ℕ) → 1 ≤ room.step → IsLeastPlace cursor room.vaddr room.step at → at + room.size ≤ end → room_at cursor end room ≡ Some at
unfolding room_at
room_back cursor end room at some least fits =
    let same = only_place cursor room.vaddr room.step at (least_place cursor room.vaddr room.step) least (least_place_is cursor room.vaddr room.step some) in
    let P : ℕ → Type 0 = λ (n : ℕ). (if nat_le (n + room.size) end then Some n else None) ≡ Some at in
    subst P same (tested (at + room.size) end at fits)

-- what follows from a value that is there
pub with_value : {A B P : Type 0} (o : Option A) (next : A → Option B) (b : B) → (o >>= next) ≡ Some b → ((a : A) → o ≡ Some a → next a ≡ Some b → P) → P
with_value None next b is follow = absurd (cc)
with_value (Some a) next b is follow = follow a refl is

-- ranges behind ranges
pub placed_append : (rs qs : List Room) (ps ts : List ℕ) (cursor end amid last : ℕ) → ArePlaced cursor end rs ps amid → ArePlaced amid end qs ts last → ArePlaced cursor end (rs ++ qs) (ps ++ ts) last
placed_append [] qs [] ts cursor end amid last first second =
    let P : ℕ → Type 0 = λ (n : ℕ). ArePlaced n end qs ts last in subst P first second
placed_append [] qs (p ∷ ps) ts cursor end amid last first second = absurd first
placed_append (r ∷ rs) qs [] ts cursor end amid last first second = absurd first
placed_append (r ∷ rs) qs (p ∷ ps) ts cursor end amid last first second =
    (first.0, first.1, placed_append rs qs ps ts (p + r.size) end amid last first.2 second)

pub record Split (rs qs : List Room) (ps ts : List ℕ) (cursor end last : ℕ) : Type 0 where
  pub amid : ℕ
  pub first : ArePlaced cursor end rs ps amid
  pub second : ArePlaced amid end qs ts last

pub placed_split : (rs qs : List Room) (ps ts : List ℕ) (cursor end last : ℕ) → length rs ≡ length ps → ArePlaced cursor end (rs ++ qs) (ps ++ ts) last → Split rs qs ps ts cursor end last
placed_split [] qs [] ts cursor end last same placed = record { amid = cursor; first = refl; second = placed }
placed_split [] qs (p ∷ ps) ts cursor end last same placed = absurd (omega arith)
placed_split (r ∷ rs) qs [] ts cursor end last same placed = absurd (omega arith)
placed_split (r ∷ rs) qs (p ∷ ps) ts cursor end last same placed =
    let rest = placed_split rs qs ps ts (p + r.size) end last (omega arith) placed.2 in
    record { amid = rest.amid; first = (placed.0, placed.1, rest.first); second = rest.second }

-- the last one ends in the memory
pub placed_last : (rooms : List Room) (places : List ℕ) (cursor end last : ℕ) → cursor ≤ end → ArePlaced cursor end rooms places last → last ≤ end
placed_last [] [] cursor end last low placed = omega (arith, placed)
placed_last [] (a ∷ more) cursor end last low placed = absurd placed
placed_last (r ∷ rs) [] cursor end last low placed = absurd placed
placed_last (r ∷ rs) (a ∷ more) cursor end last low placed = placed_last rs more (a + r.size) end last placed.1 placed.2

-- parts that stand at the places and have the sizes of the rooms
abbrev pub Fit : List Room → List ℕ → List Part → Type 0
Fit [] [] [] = Unit {0}
Fit [] [] (p ∷ ps) = ⊥
Fit [] (a ∷ ats) parts = ⊥
Fit (r ∷ rs) [] parts = ⊥
Fit (r ∷ rs) (a ∷ ats) [] = ⊥
Fit (r ∷ rs) (a ∷ ats) (p ∷ ps) = (p.at ≡ a) × (length p.bytes ≡ r.size) × Fit rs ats ps

pub fit_order : (rooms : List Room) (places : List ℕ) (parts : List Part) (cursor end last : ℕ) → Fit rooms places parts → ArePlaced cursor end rooms places last → InOrder cursor last parts
fit_order [] [] [] cursor end last fit placed = omega (arith, placed)
fit_order [] [] (p ∷ ps) cursor end last fit placed = absurd fit
fit_order [] (a ∷ more) parts cursor end last fit placed = absurd fit
fit_order (r ∷ rs) [] parts cursor end last fit placed = absurd fit
fit_order (r ∷ rs) (a ∷ more) [] cursor end last fit placed = absurd fit
fit_order (r ∷ rs) (a ∷ more) (p ∷ ps) cursor end last fit placed =
    let at = fit.0 in
    let size = fit.1 in
    let above = placed.0.above in
    let ends : a + r.size ≡ p.at + length p.bytes = omega arith in
    let P : ℕ → Type 0 = λ (n : ℕ). InOrder n last ps in
    (omega arith, subst P ends (fit_order rs more ps (a + r.size) end last fit.2 placed.2))

pub fit_append : (rs qs : List Room) (ps ts : List ℕ) (parts more : List Part) → Fit rs ps parts → Fit qs ts more → Fit (rs ++ qs) (ps ++ ts) (parts ++ more)
fit_append [] qs [] ts [] more first second = second
fit_append [] qs [] ts (p ∷ parts) more first second = absurd first
fit_append [] qs (a ∷ ps) ts parts more first second = absurd first
fit_append (r ∷ rs) qs [] ts parts more first second = absurd first
fit_append (r ∷ rs) qs (a ∷ ps) ts [] more first second = absurd first
fit_append (r ∷ rs) qs (a ∷ ps) ts (p ∷ parts) more first second =
    (first.0, first.1, fit_append rs qs ps ts parts more first.2 second)

some_step : (least align : ℕ) → 1 ≤ least → 1 ≤ max least align
some_step least align some = omega arith

pub room_step : (o : Option Module) → 1 ≤ (room_or o).step
room_step None = omega arith
room_step (Some m) = some_step 8 m.memory.align (omega arith)

same_pair : {X : Type 0} (a b : X × ℕ) → Some a ≡ Some b → a ≡ b
same_pair a b is = cc

-- the data ranges of a list, behind those that stand already
pub record Bases (modules : List Module) (front : List ℕ) (cursor end : ℕ) (list : List ℕ) (made : List ℕ × ℕ) : Type 0 where
  pub more : List ℕ
  pub split : made.0 ≡ front ++ more
  pub each : length more ≡ length list
  pub placed : ArePlaced cursor end (data_rooms modules list) more made.1

pub bases_placed : (modules : List Module) (front : List ℕ) (cursor end : ℕ) (list : List ℕ) (made : List ℕ × ℕ) → bases_from modules front cursor end list ≡ Some made → Bases modules front cursor end list made
unfolding one_base
bases_placed modules front cursor end [] made is =
    let same = same_pair (front, cursor) made is in
    record { more = []; split = ap (λ (m : List ℕ × ℕ). m.0) (sym same) ∙ sym (append-nil front); each = refl; placed = ap (λ (m : List ℕ × ℕ). m.1) (sym same) }
bases_placed modules front cursor end (k ∷ ks) made is =
    let room = range_of modules k in
    with_value _ _ made is (λ (next : List ℕ × ℕ) first rest.
    with_value _ _ next first (λ (at : ℕ) here same.
    let found = room_is cursor end room at (room_step (slice_get modules k)) here in
    let e = same_pair (front ++ at ∷ [], at + room.size) next same in
    let P : List ℕ × ℕ → Type 0 = λ (n : List ℕ × ℕ). Bases modules n.0 n.1 end ks made in
    let later = subst P (sym e) (bases_placed modules next.0 next.1 end ks made rest) in
    record {
      more = at ∷ later.more;
      split = later.split ∙ append_assoc front (at ∷ []) later.more;
      each = ap suc later.each;
      placed = (found.0, found.1, later.placed);
    }))

-- the seat of a process
pub record Seated (modules : List Module) (cursor end : ℕ) (list : List ℕ) (stack : ℕ) (made : Seat × ℕ) : Type 0 where
  pub each : length made.0.bases ≡ length list
  pub placed : ArePlaced cursor end (seat_rooms modules list stack) (seat_places made.0) made.1

pub seat_placed : (modules : List Module) (cursor end : ℕ) (list : List ℕ) (stack : ℕ) (made : Seat × ℕ) → seat_of modules cursor end list stack ≡ Some made → Seated modules cursor end list stack made
unfolding seat_of
seat_placed modules cursor end list stack made is =
    with_value _ _ made is (λ (ranges : List ℕ × ℕ) first rest.
    with_value _ _ made rest (λ (at : ℕ) here same.
    let bases = bases_placed modules [] cursor end list ranges first in
    let found = room_is ranges.1 end (stack_room stack) at (omega arith) here in
    let e = same_pair (record { bases = ranges.0; stack = at }, at + stack) made same in
    let P : Seat × ℕ → Type 0 = λ (m : Seat × ℕ). Seated modules cursor end list stack m in
    let Q : List ℕ → Type 0 = λ (l : List ℕ). Seated modules cursor end list stack (record { bases = l; stack = at }, at + stack) in
    subst P e (subst Q (sym bases.split) (record {
      each = bases.each;
      placed = placed_append (data_rooms modules list) (stack_room stack ∷ []) bases.more (at ∷ []) cursor end ranges.1 (at + stack) bases.placed (found.0, found.1, refl);
    }))))
