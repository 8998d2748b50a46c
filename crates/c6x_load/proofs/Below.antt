-- The areas of a placement end in its memory.
use Rattle.std.proofs.Common.{◌≡◌, ℕ, zero, suc, ◌+◌, ◌≤◌, Bool, true, false, List, [], ◌∷◌, ◌++◌, length, refl, sym, ap, arith}
use Rattle.std.specs.Prelude.{All, Option, None, Some, slice_get}
use Rattle.std.proofs.lemmas.Grind.{common_steps}
use Rattle.c6x_module.specs.Valid.{IsValid}
use Rattle.c6x_module.specs.declared.module.Module.{Module}
use Rattle.c6x_plan.specs.declared.process_plan.ProcessPlan.{ProcessPlan}
use Rattle.c6x_place.specs.declared.bound_process.BoundProcess.{BoundProcess}
use Rattle.c6x_place.specs.Places.{ArePlaced}
use Rattle.c6x_place.specs.Rooms.{data_rooms, room_or, seat_places, seat_rooms, stack_room, text_places, text_rooms}
use Rattle.c6x_place.specs.declared.placement.Placement.{Placement}
use Rattle.c6x_place.specs.declared.seat.Seat.{Seat}
use Rattle.c6x_place.proofs.Orders.{placed_split}
use Rattle.c6x_load.specs.Values.{text_at}
use Rattle.c6x_place.specs.Plans.{AreSeated, AreWanted, IsPlacement, seats_places, seats_rooms, used_from}
use Rattle.c6x_place.proofs.Walks.{length_used}
use Rattle.c6x_load.specs.Areas.{AreBelow, range_areas, range_size, text_areas, text_size}
use Rattle.c6x_load.specs.ProcessLaws.{AreAllBelow}

text_below : (modules : List Module) (used : List Bool) (texts : List (Option ℕ)) (cursor end last : ℕ) → length modules ≡ length used → AreWanted used texts → ArePlaced cursor end (text_rooms modules used) (text_places texts) last → All IsValid modules → end ≤ 4294967295 → (k : ℕ) → text_at texts k + text_size (slice_get modules k) ≤ 4294967295
text_below [] [] [] cursor end last lengths wanted placed valid below k = omega arith
text_below [] [] (t ∷ texts) cursor end last lengths wanted placed valid below k = absurd wanted
text_below [] (u ∷ used) texts cursor end last lengths wanted placed valid below k = absurd (omega arith)
text_below (m ∷ modules) [] texts cursor end last lengths wanted placed valid below k = absurd (omega arith)
text_below (m ∷ modules) (true ∷ used) [] cursor end last lengths wanted placed valid below k = absurd wanted
text_below (m ∷ modules) (false ∷ used) [] cursor end last lengths wanted placed valid below k = absurd wanted
text_below (m ∷ modules) (true ∷ used) (None ∷ texts) cursor end last lengths wanted placed valid below k = absurd wanted
text_below (m ∷ modules) (false ∷ used) (Some at ∷ texts) cursor end last lengths wanted placed valid below k = absurd wanted
text_below (m ∷ modules) (false ∷ used) (None ∷ texts) cursor end last lengths wanted placed valid below zero =
    let is : IsValid m = valid 0 m (omega arith) in
    let room = is.text.range in
    omega arith
text_below (m ∷ modules) (false ∷ used) (None ∷ texts) cursor end last lengths wanted placed valid below (suc k) =
    text_below modules used texts cursor end last (omega arith) wanted placed (λ i d h. valid (suc i) d (omega arith)) below k
text_below (m ∷ modules) (true ∷ used) (Some at ∷ texts) cursor end last lengths wanted placed valid below zero =
    let fits = placed.1 in
    omega arith
text_below (m ∷ modules) (true ∷ used) (Some at ∷ texts) cursor end last lengths wanted placed valid below (suc k) =
    text_below modules used texts (at + m.text.memsz) end last (omega arith) wanted placed.2 (λ i d h. valid (suc i) d (omega arith)) below k

texts_below : (modules : List Module) (texts : List (Option ℕ)) (list : List ℕ) → ((k : ℕ) → text_at texts k + text_size (slice_get modules k) ≤ 4294967295) → AreBelow (text_areas modules texts list)
texts_below modules texts [] all = tt
texts_below modules texts (k ∷ list) all = (all k, texts_below modules texts list all)

same_size : (o : Option Module) → (room_or o).size ≡ range_size o
same_size None = refl
same_size (Some m) = refl

ranges_below : (modules : List Module) (list bases : List ℕ) (cursor end last : ℕ) → ArePlaced cursor end (data_rooms modules list) bases last → end ≤ 4294967295 → AreBelow (range_areas modules list bases)
ranges_below modules [] bases cursor end last placed below = tt
ranges_below modules (k ∷ list) [] cursor end last placed below = tt
ranges_below modules (k ∷ list) (b ∷ bases) cursor end last placed below =
    let fits = placed.1 in
    let size = same_size (slice_get modules k) in
    (omega arith, ranges_below modules list bases (b + (room_or (slice_get modules k)).size) end last placed.2 below)

same_rooms : (modules : List Module) (list bases : List ℕ) → length bases ≡ length list → length (data_rooms modules list) ≡ length bases
same_rooms modules [] [] same = refl
same_rooms modules [] (b ∷ bases) same = absurd (omega arith)
same_rooms modules (k ∷ list) [] same = absurd (omega arith)
same_rooms modules (k ∷ list) (b ∷ bases) same = ap suc (same_rooms modules list bases (omega arith))

length_one : {A B : Type 0} (xs : List A) (ys : List B) (x : A) (y : B) → length xs ≡ length ys → length (xs ++ x ∷ []) ≡ length (ys ++ y ∷ [])
length_one xs ys x y same = grind (arith, common_steps)

all_below : (modules : List Module) (texts : List (Option ℕ)) (plans : List ProcessPlan) (bounds : List BoundProcess) (seats : List Seat) (cursor end last : ℕ) → ((k : ℕ) → text_at texts k + text_size (slice_get modules k) ≤ 4294967295) → length plans ≡ length bounds → end ≤ 4294967295 → AreSeated bounds seats → ArePlaced cursor end (seats_rooms modules plans bounds) (seats_places seats) last → AreAllBelow modules texts plans bounds seats
all_below modules texts [] bounds seats cursor end last each lengths below seated placed = tt
all_below modules texts (p ∷ plans) [] seats cursor end last each lengths below seated placed = tt
all_below modules texts (p ∷ plans) (b ∷ bounds) [] cursor end last each lengths below seated placed = tt
all_below modules texts (p ∷ plans) (b ∷ bounds) (s ∷ seats) cursor end last each lengths below seated placed =
    let rooms = same_rooms modules b.modules s.bases seated.0 in
    let here = placed_split (seat_rooms modules b.modules p.stack) (seats_rooms modules plans bounds) (seat_places s) (seats_places seats) cursor end last (length_one (data_rooms modules b.modules) s.bases (stack_room p.stack) s.stack rooms) placed in
    let parts = placed_split (data_rooms modules b.modules) (stack_room p.stack ∷ []) s.bases (s.stack ∷ []) cursor end here.amid rooms here.first in
    let fits = parts.second.1 in (
      record {
        seated = sym seated.0;
        readable = texts_below modules texts b.modules each;
        ranges = ranges_below modules b.modules s.bases cursor end parts.amid parts.first below;
        stack = omega arith;
      },
      all_below modules texts plans bounds seats here.amid end last each (omega arith) below seated.1 here.second,
    )

text_lengths : (modules : List Module) (used : List Bool) (texts : List (Option ℕ)) → length modules ≡ length used → AreWanted used texts → length (text_rooms modules used) ≡ length (text_places texts)
text_lengths [] [] [] lengths wanted = refl
text_lengths [] [] (t ∷ texts) lengths wanted = absurd wanted
text_lengths [] (u ∷ used) texts lengths wanted = absurd (omega arith)
text_lengths (m ∷ modules) [] texts lengths wanted = absurd (omega arith)
text_lengths (m ∷ modules) (true ∷ used) [] lengths wanted = absurd wanted
text_lengths (m ∷ modules) (false ∷ used) [] lengths wanted = absurd wanted
text_lengths (m ∷ modules) (true ∷ used) (None ∷ texts) lengths wanted = absurd wanted
text_lengths (m ∷ modules) (false ∷ used) (Some at ∷ texts) lengths wanted = absurd wanted
text_lengths (m ∷ modules) (false ∷ used) (None ∷ texts) lengths wanted = text_lengths modules used texts (omega arith) wanted
text_lengths (m ∷ modules) (true ∷ used) (Some at ∷ texts) lengths wanted =
    ap suc (text_lengths modules used texts (omega arith) wanted)

pub placed_below : (modules : List Module) → All IsValid modules → (plans : List ProcessPlan) (bounds : List BoundProcess) (base end : ℕ) → length plans ≡ length bounds → end ≤ 4294967295 → (placement : Placement) → IsPlacement modules plans bounds base end placement → AreAllBelow modules placement.texts plans bounds placement.seats
placed_below modules valid plans bounds base end lengths below placement is =
    let used = used_from bounds 0 modules in
    let users = length_used bounds 0 modules in
    let parts = placed_split (text_rooms modules used) (seats_rooms modules plans bounds) (text_places placement.texts) (seats_places placement.seats) base end is.last (text_lengths modules used placement.texts (sym users) is.wanted) is.placed in
    all_below modules placement.texts plans bounds placement.seats parts.amid end is.last (text_below modules used placement.texts base end parts.amid (sym users) is.wanted parts.first valid below) lengths below is.seated parts.second
