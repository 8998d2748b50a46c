-- The seat of a process of a plan, and what the process is bound to.
use Rattle.std.proofs.Common.{◌≡◌, ℕ, zero, suc, List, [], ◌∷◌, ◌++◌, length, refl, subst, arith}
use Rattle.std.proofs.Common.{false}
use Rattle.std.specs.Prelude.{Option, None, Some, slice_get}
use Rattle.c6x_spec.specs.Memory.{Memory}
use Rattle.c6x_spec.specs.Parts.{AreOn, HoldsAll, Part}
use Rattle.c6x_spec.proofs.PartsHeld.{on_back, on_front}
use Rattle.c6x_module.specs.declared.module.Module.{Module}
use Rattle.c6x_plan.specs.declared.process_plan.ProcessPlan.{ProcessPlan}
use Rattle.c6x_place.specs.Binding.{bound_process}
use Rattle.c6x_place.specs.Definitions.{targets_from}
use Rattle.c6x_place.specs.declared.bound_process.BoundProcess.{BoundProcess}
use Rattle.c6x_place.specs.declared.seat.Seat.{Seat}
use Rattle.c6x_load.specs.Values.{slot_word, target_address}
use Rattle.c6x_place.specs.Plans.{bound_plans}
use Rattle.c6x_load.proofs.Backs.{holds_back}
use Rattle.c6x_load.specs.Loaded.{range_parts, seat_parts, seat_ranges, seats_parts, stack_part}

no_value : {A P : Type 0} (x : A) → None ≡ Some x → P
no_value x is = absurd (cc is)

pub holds_front : (m : Memory) (ps qs : List Part) → HoldsAll m (ps ++ qs) → HoldsAll m ps
holds_front m [] qs all = tt
holds_front m (p ∷ ps) qs all = (all.0, holds_front m ps qs all.1)

-- the parts of one process
pub record SeatStands (board : Memory) (modules : List Module) (texts : List (Option ℕ)) (bound : BoundProcess)
    (seat : Seat) : Type 0 where
  pub on : AreOn board (seat_ranges false modules bound texts seat)
  pub held : HoldsAll board (seat_ranges false modules bound texts seat)

pub seat_stands :
    (board : Memory) (modules : List Module) (texts : List (Option ℕ)) (plans : List ProcessPlan)
    (bounds : List BoundProcess) (seats : List Seat)
    → length plans ≡ length bounds
    → AreOn board (seats_parts false modules texts plans bounds seats)
    → HoldsAll board (seats_parts false modules texts plans bounds seats)
    → (process : ℕ) (bound : BoundProcess) (seat : Seat)
    → slice_get bounds process ≡ Some bound
    → slice_get seats process ≡ Some seat
    → SeatStands board modules texts bound seat
seat_stands board modules texts plans [] seats lengths on held process bound seat a b = no_value bound a
seat_stands board modules texts [] (x ∷ bounds) seats lengths on held process bound seat a b = absurd (omega arith)
seat_stands board modules texts (p ∷ plans) (x ∷ bounds) [] lengths on held process bound seat a b = no_value seat b
seat_stands board modules texts (p ∷ plans) (x ∷ bounds) (s ∷ seats) lengths on held zero bound seat a b =
    let here = seat_parts false modules p.stack x texts s in
    let rest = seats_parts false modules texts plans bounds seats in
    let ranges = seat_ranges false modules x texts s in
    let stack : List Part = stack_part p.stack s ∷ [] in
    let first : SeatStands board modules texts x s = record {
      on = on_front ranges stack board (on_front here rest board on);
      held = holds_front board ranges stack (holds_front board here rest held);
    } in
    let same_bound : x ≡ bound = cc a in
    let same_seat : s ≡ seat = cc b in
    let P : BoundProcess → Type 0 = λ y. SeatStands board modules texts y s in
    let Q : Seat → Type 0 = λ y. SeatStands board modules texts bound y in
    subst Q same_seat (subst P same_bound first)
seat_stands board modules texts (p ∷ plans) (x ∷ bounds) (s ∷ seats) lengths on held (suc process) bound seat a b =
    let here = seat_parts false modules p.stack x texts s in
    let rest = seats_parts false modules texts plans bounds seats in
    seat_stands board modules texts plans bounds seats (omega arith) (on_back here rest board on)
    (holds_back board here rest held) process bound seat a b

-- its data ranges
pub ranges_of :
    (modules : List Module) (texts : List (Option ℕ)) (bound : BoundProcess) (seat : Seat)
    → seat_ranges false modules bound texts seat ≡ range_parts false modules
    (slot_word modules bound.modules seat.bases) (target_address modules bound.modules texts seat.bases)
    bound.modules seat.bases bound.targets
unfolding seat_ranges
ranges_of modules texts bound seat = refl

-- a process has the targets of the members of its list
bound_rows :
    (modules : List Module) (start : ℕ)
    → (bound_process modules start).targets ≡ targets_from modules (bound_process modules start).modules 0
    (bound_process modules start).modules
unfolding bound_process
bound_rows modules start = refl

pub rows_of :
    (modules : List Module) (plans : List ProcessPlan) (process : ℕ) (bound : BoundProcess)
    → slice_get (bound_plans modules plans) process ≡ Some bound
    → bound.targets ≡ targets_from modules bound.modules 0 bound.modules
rows_of modules [] process bound is = no_value bound is
rows_of modules (p ∷ plans) zero bound is =
    let same : bound_process modules p.module ≡ bound = cc is in
    let P : BoundProcess → Type 0 = λ b. b.targets ≡ targets_from modules b.modules 0 b.modules in
    subst P same (bound_rows modules p.module)
rows_of modules (p ∷ plans) (suc process) bound is = rows_of modules plans process bound is
