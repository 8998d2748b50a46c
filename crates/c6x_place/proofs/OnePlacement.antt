-- A plan has one placement at most.
use Rattle.std.proofs.Common.{◌≡◌, ℕ, ◌+◌, List, [], ◌∷◌, ◌++◌, length, refl, sym, ap, ◌∙◌, arith, append-nil, append_assoc, Bool, true, false, ◌↔◌, suc}
use Rattle.std.specs.Prelude.{IfOk, Ok, Err, Option, None, Result, Some}
use Rattle.std.proofs.lemmas.Grind.{common_steps}
use Rattle.c6x_module.specs.declared.module.Module.{Module}
use Rattle.c6x_plan.specs.declared.process_plan.ProcessPlan.{ProcessPlan}
use Rattle.c6x_place.specs.declared.bound_process.BoundProcess.{BoundProcess}
use Rattle.c6x_place.specs.Places.{ArePlaced, AreValid, Placed, one_text, texts_from}
use Rattle.c6x_place.specs.Rooms.{data_rooms, seat_places, seat_rooms, stack_room, text_places, text_room, text_rooms}
use Rattle.c6x_place.specs.declared.place_error.PlaceError.{PlaceError}
use Rattle.c6x_place.specs.declared.placement.Placement.{Placement}
use Rattle.c6x_place.specs.declared.seat.Seat.{Seat}
use Rattle.c6x_place.proofs.Orders.{placed_split, room_back}
use Rattle.c6x_place.proofs.Valid.{placed_valid, seat_back}
use Rattle.c6x_place.specs.Plans.{AreSeated, AreWanted, IsPlacement, one_seat, placement_of, plan_places, plan_rooms, seats_from, seats_places, seats_rooms, used_from}
use Rattle.c6x_place.proofs.Placements.{answer_is, placement_is, some_step}
use Rattle.c6x_place.proofs.Walks.{length_used}

texts_back : (front : List (Option ℕ)) (cursor end : ℕ) (modules : List Module) (used : List Bool) (texts : List (Option ℕ)) (last : ℕ) → length modules ≡ length used → AreWanted used texts → ArePlaced cursor end (text_rooms modules used) (text_places texts) last → texts_from front cursor end modules used ≡ Some (front ++ texts, last)
unfolding one_text
texts_back front cursor end [] [] [] last lengths wanted placed =
    ap (λ (n : ℕ). Some (front, n)) (sym placed) ∙ ap (λ (l : List (Option ℕ)). Some (l, last)) (sym (append-nil front))
texts_back front cursor end [] [] (t ∷ texts) last lengths wanted placed = absurd wanted
texts_back front cursor end [] (u ∷ used) texts last lengths wanted placed = absurd (omega arith)
texts_back front cursor end (m ∷ modules) [] texts last lengths wanted placed = absurd (omega arith)
texts_back front cursor end (m ∷ modules) (true ∷ used) [] last lengths wanted placed = absurd wanted
texts_back front cursor end (m ∷ modules) (false ∷ used) [] last lengths wanted placed = absurd wanted
texts_back front cursor end (m ∷ modules) (true ∷ used) (None ∷ texts) last lengths wanted placed = absurd wanted
texts_back front cursor end (m ∷ modules) (false ∷ used) (Some at ∷ texts) last lengths wanted placed = absurd wanted
texts_back front cursor end (m ∷ modules) (false ∷ used) (None ∷ texts) last lengths wanted placed =
    texts_back (front ++ None ∷ []) cursor end modules used texts last (omega arith) wanted placed
    ∙ ap (λ (l : List (Option ℕ)). Some (l, last)) (append_assoc front (None ∷ []) texts)
texts_back front cursor end (m ∷ modules) (true ∷ used) (Some at ∷ texts) last lengths wanted placed =
    let room = text_room m.text in
    let here = room_back cursor end room at (some_step m.text.align) placed.0 placed.1 in
    rw here (texts_back (front ++ Some at ∷ []) (at + room.size) end modules used texts last (omega arith) wanted placed.2
    ∙ ap (λ (l : List (Option ℕ)). Some (l, last)) (append_assoc front (Some at ∷ []) texts))

same_rooms : (modules : List Module) (list bases : List ℕ) → length bases ≡ length list → length (data_rooms modules list) ≡ length bases
same_rooms modules [] [] same = refl
same_rooms modules [] (b ∷ bases) same = absurd (omega arith)
same_rooms modules (k ∷ list) [] same = absurd (omega arith)
same_rooms modules (k ∷ list) (b ∷ bases) same = ap suc (same_rooms modules list bases (omega arith))

length_one : {A B : Type 0} (xs : List A) (ys : List B) (x : A) (y : B) → length xs ≡ length ys → length (xs ++ x ∷ []) ≡ length (ys ++ y ∷ [])
length_one xs ys x y same = grind (arith, common_steps)

seats_back : (modules : List Module) (front : List Seat) (cursor end : ℕ) (plans : List ProcessPlan) (bounds : List BoundProcess) (seats : List Seat) (last : ℕ) → length bounds ≡ length plans → AreSeated bounds seats → ArePlaced cursor end (seats_rooms modules plans bounds) (seats_places seats) last → seats_from modules front cursor end plans bounds ≡ Some (front ++ seats, last)
unfolding one_seat
seats_back modules front cursor end [] [] [] last lengths seated placed =
    ap (λ (n : ℕ). Some (front, n)) (sym placed) ∙ ap (λ (l : List Seat). Some (l, last)) (sym (append-nil front))
seats_back modules front cursor end [] [] (s ∷ seats) last lengths seated placed = absurd seated
seats_back modules front cursor end [] (b ∷ bounds) seats last lengths seated placed = absurd (omega arith)
seats_back modules front cursor end (p ∷ plans) [] seats last lengths seated placed = absurd (omega arith)
seats_back modules front cursor end (p ∷ plans) (b ∷ bounds) [] last lengths seated placed = absurd seated
seats_back modules front cursor end (p ∷ plans) (b ∷ bounds) (s ∷ seats) last lengths seated placed =
    let each = same_rooms modules b.modules s.bases seated.0 in
    let parts = placed_split (seat_rooms modules b.modules p.stack) (seats_rooms modules plans bounds) (seat_places s) (seats_places seats) cursor end last (length_one (data_rooms modules b.modules) s.bases (stack_room p.stack) s.stack each) placed in
    let here = seat_back modules cursor end b.modules p.stack s parts.amid each parts.first in
    rw here (seats_back modules (front ++ s ∷ []) parts.amid end plans bounds seats last (omega arith) seated.1 parts.second
    ∙ ap (λ (l : List Seat). Some (l, last)) (append_assoc front (s ∷ []) seats))

text_lengths : (modules : List Module) (used : List Bool) (texts : List (Option ℕ)) → length modules ≡ length used → AreWanted used texts → length (text_rooms modules used) ≡ length (text_places texts)
text_lengths [] [] [] lengths wanted = refl
text_lengths [] [] (t ∷ texts) lengths wanted = absurd wanted
text_lengths [] (u ∷ used) texts lengths wanted = absurd (omega arith)
text_lengths (m ∷ modules) [] texts lengths wanted = absurd (omega arith)
text_lengths (m ∷ modules) (true ∷ used) [] lengths wanted = absurd wanted
text_lengths (m ∷ modules) (false ∷ used) [] lengths wanted = absurd wanted
text_lengths (m ∷ modules) (true ∷ used) (None ∷ texts) lengths wanted = absurd wanted
text_lengths (m ∷ modules) (false ∷ used) (Some at ∷ texts) lengths wanted = absurd wanted
text_lengths (m ∷ modules) (false ∷ used) (None ∷ texts) lengths wanted = text_lengths modules used texts (omega arith) wanted
text_lengths (m ∷ modules) (true ∷ used) (Some at ∷ texts) lengths wanted =
    ap suc (text_lengths modules used texts (omega arith) wanted)

placement_back : (modules : List Module) (plans : List ProcessPlan) (bounds : List BoundProcess) (base end : ℕ) (placement : Placement) → length bounds ≡ length plans → IsPlacement modules plans bounds base end placement → placement_of modules plans bounds base end ≡ Some placement
unfolding placement_of
placement_back modules plans bounds base end placement lengths is =
    let used = used_from bounds 0 modules in
    let users = length_used bounds 0 modules in
    let parts = placed_split (text_rooms modules used) (seats_rooms modules plans bounds) (text_places placement.texts) (seats_places placement.seats) base end is.last (text_lengths modules used placement.texts (sym users) is.wanted) is.placed in
    let texts = texts_back [] base end modules used placement.texts parts.amid (sym users) is.wanted parts.first in
    let seats = seats_back modules [] parts.amid end plans bounds placement.seats is.last lengths is.seated parts.second in
    rw (texts, seats) refl

pub one_placement : (modules : List Module) (plans : List ProcessPlan) (bounds : List BoundProcess) (base end : ℕ) → length bounds ≡ length plans → (placement : Placement) → IsPlacement modules plans bounds base end placement ↔ (placement_of modules plans bounds base end ≡ Some placement)
one_placement modules plans bounds base end lengths placement =
    (λ is. placement_back modules plans bounds base end placement lengths is, λ is. placement_is modules plans bounds base end placement lengths is)

-- and it is valid
valid_answer : (modules : List Module) (plans : List ProcessPlan) (bounds : List BoundProcess) (base end : ℕ) (answer : Result Placement PlaceError) → IfOk answer (IsPlacement modules plans bounds base end) → IfOk answer (λ placement. AreValid base end (plan_rooms modules plans bounds) (plan_places placement))
valid_answer modules plans bounds base end (Ok placement) is =
    placed_valid (plan_rooms modules plans bounds) (plan_places placement) base base end is.last (omega arith) is.placed
valid_answer modules plans bounds base end (Err e) is = tt

pub answer_valid : (modules : List Module) (plans : List ProcessPlan) (bounds : List BoundProcess) (base end : ℕ) (answer : Result Placement PlaceError) → length bounds ≡ length plans → Placed (λ placement. placement) answer (placement_of modules plans bounds base end) → IfOk answer (λ placement. AreValid base end (plan_rooms modules plans bounds) (plan_places placement))
answer_valid modules plans bounds base end answer lengths is =
    valid_answer modules plans bounds base end answer (answer_is modules plans bounds base end answer lengths is)
