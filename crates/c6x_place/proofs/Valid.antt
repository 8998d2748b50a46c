-- Ranges that are placed are apart, and a list of ranges has one list of places.
use Rattle.std.proofs.Common.{◌≡◌, ℕ, ◌+◌, ◌≤◌, List, [], ◌∷◌, ◌++◌, sym, ap, ◌∙◌, arith, length, append-nil, append_assoc}
use Rattle.std.specs.Prelude.{Option, Some, slice_get}
use Rattle.c6x_spec.specs.Options.{◌>>=◌}
use Rattle.c6x_module.specs.declared.module.Module.{Module}
use Rattle.c6x_place.specs.Places.{ArePlaced, AreBehind, AreValid, bases_from, one_base, seat_of}
use Rattle.c6x_place.specs.Rooms.{data_rooms, range_of, seat_places, seat_rooms, stack_room}
use Rattle.c6x_place.specs.declared.room.Room.{Room}
use Rattle.c6x_place.specs.declared.seat.Seat.{Seat}
use Rattle.c6x_place.proofs.Orders.{placed_split, room_back, room_step}

behind : (rooms : List Room) (places : List ℕ) (from cursor end last : ℕ) → from ≤ cursor → ArePlaced cursor end rooms places last → AreBehind from places
behind [] [] from cursor end last low placed = tt
behind [] (a ∷ places) from cursor end last low placed = absurd placed
behind (r ∷ rooms) [] from cursor end last low placed = absurd placed
behind (r ∷ rooms) (a ∷ places) from cursor end last low placed =
    let above = placed.0.above in
    (omega arith, behind rooms places from (a + r.size) end last (omega arith) placed.2)

pub placed_valid : (rooms : List Room) (places : List ℕ) (base cursor end last : ℕ) → base ≤ cursor → ArePlaced cursor end rooms places last → AreValid base end rooms places
placed_valid [] [] base cursor end last low placed = tt
placed_valid [] (a ∷ places) base cursor end last low placed = absurd placed
placed_valid (r ∷ rooms) [] base cursor end last low placed = absurd placed
placed_valid (r ∷ rooms) (a ∷ places) base cursor end last low placed =
    let above = placed.0.above in
    (omega arith, placed.1, placed.0.congruent, behind rooms places (a + r.size) (a + r.size) end last (omega arith) placed.2, placed_valid rooms places base (a + r.size) end last (omega arith) placed.2)

some_next : {A B : Type 0} (o : Option A) (a : A) (next : A → Option B) → o ≡ Some a → (o >>= next) ≡ next a
some_next o a next is = ap (λ x. x >>= next) is

-- places that are a placement are the ones that are found
pub bases_back : (modules : List Module) (front : List ℕ) (cursor end : ℕ) (list places : List ℕ) (last : ℕ) → ArePlaced cursor end (data_rooms modules list) places last → bases_from modules front cursor end list ≡ Some (front ++ places, last)
unfolding one_base
bases_back modules front cursor end [] [] last placed =
    ap (λ (n : ℕ). Some (front, n)) (sym placed) ∙ ap (λ (l : List ℕ). Some (l, last)) (sym (append-nil front))
bases_back modules front cursor end [] (a ∷ places) last placed = absurd placed
bases_back modules front cursor end (k ∷ list) [] last placed = absurd placed
bases_back modules front cursor end (k ∷ list) (a ∷ places) last placed =
    let room = range_of modules k in
    let here = room_back cursor end room a (room_step (slice_get modules k)) placed.0 placed.1 in
    rw here (bases_back modules (front ++ a ∷ []) (a + room.size) end list places last placed.2
    ∙ ap (λ (l : List ℕ). Some (l, last)) (append_assoc front (a ∷ []) places))

pub seat_back : (modules : List Module) (cursor end : ℕ) (list : List ℕ) (stack : ℕ) (seat : Seat) (last : ℕ) → length (data_rooms modules list) ≡ length seat.bases → ArePlaced cursor end (seat_rooms modules list stack) (seat_places seat) last → seat_of modules cursor end list stack ≡ Some (seat, last)
unfolding seat_of
seat_back modules cursor end list stack seat last same placed =
    let parts = placed_split (data_rooms modules list) (stack_room stack ∷ []) seat.bases (seat.stack ∷ []) cursor end last same placed in
    let bases = bases_back modules [] cursor end list seat.bases parts.amid parts.first in
    let here = room_back parts.amid end (stack_room stack) seat.stack (omega arith) parts.second.0 parts.second.1 in
    rw (bases, here) (ap (λ (n : ℕ). Some (seat, n)) (sym parts.second.2))
