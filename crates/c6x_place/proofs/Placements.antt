-- The placement as a value is a placement.
use Rattle.std.proofs.Common.{◌≡◌, ℕ, ◌+◌, ◌≤◌, List, [], ◌∷◌, ◌++◌, length, sym, ap, ◌∙◌, subst, arith, append-nil, append_assoc, Bool, true, false, max}
use Rattle.std.specs.Prelude.{IfOk, Ok, Err, Option, None, Result, Some}
use Rattle.c6x_module.specs.declared.module.Module.{Module}
use Rattle.c6x_plan.specs.declared.process_plan.ProcessPlan.{ProcessPlan}
use Rattle.c6x_place.specs.declared.bound_process.BoundProcess.{BoundProcess}
use Rattle.c6x_place.specs.Places.{ArePlaced, Placed, one_text, texts_from}
use Rattle.c6x_place.specs.Rooms.{seat_places, seat_rooms, text_places, text_room, text_rooms}
use Rattle.c6x_place.specs.declared.place_error.PlaceError.{PlaceError}
use Rattle.c6x_place.specs.declared.place_error.PlaceError.TheVariants.{NoRoom, NoMemory}
use Rattle.c6x_place.specs.declared.placement.Placement.{Placement}
use Rattle.c6x_place.specs.declared.seat.Seat.{Seat}
use Rattle.c6x_place.proofs.Orders.{placed_append, room_is, seat_placed, with_value}
use Rattle.c6x_place.specs.Plans.{AreSeated, AreWanted, IsPlacement, one_seat, placement_of, seats_from, seats_places, seats_rooms, used_from}
use Rattle.c6x_place.proofs.Walks.{length_used}

same_made : {X : Type 0} (a b : X) → Some a ≡ Some b → a ≡ b
same_made a b is = cc

pub some_step : (align : ℕ) → 1 ≤ max 32 align
some_step align = omega arith

-- the texts behind those that stand already
pub record Texts (front : List (Option ℕ)) (cursor end : ℕ) (modules : List Module) (used : List Bool) (made : List (Option ℕ) × ℕ) : Type 0 where
  pub more : List (Option ℕ)
  pub split : made.0 ≡ front ++ more
  pub wanted : AreWanted used more
  pub placed : ArePlaced cursor end (text_rooms modules used) (text_places more) made.1

pub texts_placed : (front : List (Option ℕ)) (cursor end : ℕ) (modules : List Module) (used : List Bool) (made : List (Option ℕ) × ℕ) → length modules ≡ length used → texts_from front cursor end modules used ≡ Some made → Texts front cursor end modules used made
unfolding one_text
texts_placed front cursor end [] [] made lengths is =
    let same = same_made (front, cursor) made is in
    record { more = []; split = ap (λ (m : List (Option ℕ) × ℕ). m.0) (sym same) ∙ sym (append-nil front); wanted = tt; placed = ap (λ (m : List (Option ℕ) × ℕ). m.1) (sym same) }
texts_placed front cursor end [] (u ∷ us) made lengths is = absurd (omega arith)
texts_placed front cursor end (m ∷ ms) [] made lengths is = absurd (omega arith)
texts_placed front cursor end (m ∷ ms) (false ∷ us) made lengths is =
    let later = texts_placed (front ++ None ∷ []) cursor end ms us made (omega arith) is in
    record {
      more = None ∷ later.more;
      split = later.split ∙ append_assoc front (None ∷ []) later.more;
      wanted = later.wanted;
      placed = later.placed;
    }
texts_placed front cursor end (m ∷ ms) (true ∷ us) made lengths is =
    let room = text_room m.text in
    with_value _ _ made is (λ (next : List (Option ℕ) × ℕ) first rest.
    with_value _ _ next first (λ (at : ℕ) here same.
    let found = room_is cursor end room at (some_step m.text.align) here in
    let e = same_made (front ++ Some at ∷ [], at + room.size) next same in
    let P : List (Option ℕ) × ℕ → Type 0 = λ (n : List (Option ℕ) × ℕ). Texts n.0 n.1 end ms us made in
    let later = subst P (sym e) (texts_placed next.0 next.1 end ms us made (omega arith) rest) in
    record {
      more = Some at ∷ later.more;
      split = later.split ∙ append_assoc front (Some at ∷ []) later.more;
      wanted = later.wanted;
      placed = (found.0, found.1, later.placed);
    }))

-- the seats behind those that stand already
pub record Seats (modules : List Module) (front : List Seat) (cursor end : ℕ) (plans : List ProcessPlan) (bounds : List BoundProcess) (made : List Seat × ℕ) : Type 0 where
  pub more : List Seat
  pub split : made.0 ≡ front ++ more
  pub seated : AreSeated bounds more
  pub placed : ArePlaced cursor end (seats_rooms modules plans bounds) (seats_places more) made.1

pub seats_placed : (modules : List Module) (front : List Seat) (cursor end : ℕ) (plans : List ProcessPlan) (bounds : List BoundProcess) (made : List Seat × ℕ) → length bounds ≡ length plans → seats_from modules front cursor end plans bounds ≡ Some made → Seats modules front cursor end plans bounds made
unfolding one_seat
seats_placed modules front cursor end [] [] made lengths is =
    let same = same_made (front, cursor) made is in
    record { more = []; split = ap (λ (m : List Seat × ℕ). m.0) (sym same) ∙ sym (append-nil front); seated = tt; placed = ap (λ (m : List Seat × ℕ). m.1) (sym same) }
seats_placed modules front cursor end [] (b ∷ bs) made lengths is = absurd (omega arith)
seats_placed modules front cursor end (p ∷ ps) [] made lengths is = absurd (omega arith)
seats_placed modules front cursor end (p ∷ ps) (b ∷ bs) made lengths is =
    with_value _ _ made is (λ (next : List Seat × ℕ) first rest.
    with_value _ _ next first (λ (here : Seat × ℕ) seat same.
    let found = seat_placed modules cursor end b.modules p.stack here seat in
    let e = same_made (front ++ here.0 ∷ [], here.1) next same in
    let P : List Seat × ℕ → Type 0 = λ (n : List Seat × ℕ). Seats modules n.0 n.1 end ps bs made in
    let later = subst P (sym e) (seats_placed modules next.0 next.1 end ps bs made (omega arith) rest) in
    record {
      more = here.0 ∷ later.more;
      split = later.split ∙ append_assoc front (here.0 ∷ []) later.more;
      seated = (found.each, later.seated);
      placed = placed_append (seat_rooms modules b.modules p.stack) (seats_rooms modules ps bs) (seat_places here.0) (seats_places later.more) cursor end here.1 made.1 found.placed later.placed;
    }))

pub placement_is : (modules : List Module) (plans : List ProcessPlan) (bounds : List BoundProcess) (base end : ℕ) (placement : Placement) → length bounds ≡ length plans → placement_of modules plans bounds base end ≡ Some placement → IsPlacement modules plans bounds base end placement
unfolding placement_of
placement_is modules plans bounds base end placement lengths is =
    let used = used_from bounds 0 modules in
    with_value _ _ placement is (λ (texts : List (Option ℕ) × ℕ) first rest.
    with_value _ _ placement rest (λ (seats : List Seat × ℕ) second same.
    let t = texts_placed [] base end modules used texts (sym (length_used bounds 0 modules)) first in
    let s = seats_placed modules [] texts.1 end plans bounds seats lengths second in
    let e = same_made (record { texts = texts.0; seats = seats.0 }) placement same in
    let P : Placement → Type 0 = λ (p : Placement). IsPlacement modules plans bounds base end p in
    let T : List (Option ℕ) → Type 0 = λ (l : List (Option ℕ)). IsPlacement modules plans bounds base end (record { texts = l; seats = seats.0 }) in
    let S : List Seat → Type 0 = λ (l : List Seat). IsPlacement modules plans bounds base end (record { texts = t.more; seats = l }) in
    subst P e (subst T (sym t.split) (subst S (sym s.split) (record {
      wanted = t.wanted;
      seated = s.seated;
      last = seats.1;
      placed = placed_append (text_rooms modules used) (seats_rooms modules plans bounds) (text_places t.more) (seats_places s.more) base end texts.1 seats.1 t.placed s.placed;
    })))))

pub answer_is : (modules : List Module) (plans : List ProcessPlan) (bounds : List BoundProcess) (base end : ℕ) (answer : Result Placement PlaceError) → length bounds ≡ length plans → Placed (λ placement. placement) answer (placement_of modules plans bounds base end) → IfOk answer (IsPlacement modules plans bounds base end)
answer_is modules plans bounds base end (Ok placement) lengths is = placement_is modules plans bounds base end placement lengths is
answer_is modules plans bounds base end (Err NoRoom) lengths is = tt
answer_is modules plans bounds base end (Err NoMemory) lengths is = tt
