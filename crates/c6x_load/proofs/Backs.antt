-- The slots and fields of loaded processes are read back.
use Rattle.std.proofs.Common.{◌≡◌, ℕ, List, [], ◌∷◌, ◌++◌, length, subst, arith, false}
use Rattle.std.specs.Prelude.{All, Option}
use Rattle.c6x_spec.specs.Memory.{Memory}
use Rattle.c6x_spec.specs.Parts.{AreOn, HoldsAll, HoldsPart, Part}
use Rattle.c6x_spec.proofs.PartsHeld.{on_back, on_front}
use Rattle.c6x_module.specs.Valid.{IsValid}
use Rattle.c6x_module.specs.declared.module.Module.{Module}
use Rattle.c6x_plan.specs.declared.process_plan.ProcessPlan.{ProcessPlan}
use Rattle.c6x_place.specs.declared.bound_process.BoundProcess.{BoundProcess}
use Rattle.c6x_place.specs.declared.target.Target.{Target}
use Rattle.c6x_place.specs.declared.seat.Seat.{Seat}
use Rattle.c6x_load.specs.Values.{slot_word, target_address}
use Rattle.c6x_load.proofs.ReadBack.{read_back}
use Rattle.c6x_load.specs.Loaded.{range_bytes, range_parts, seat_parts, seat_ranges, seats_parts, stack_part}
use Rattle.c6x_load.specs.ReadBack.{AreReadBack, AreSeatsReadBack, IsSeatReadBack}
use Rattle.c6x_load.proofs.Placed.{valid_at}

holds_front : (m : Memory) (ps qs : List Part) → HoldsAll m (ps ++ qs) → HoldsAll m ps
holds_front m [] qs all = tt
holds_front m (p ∷ ps) qs all = (all.0, holds_front m ps qs all.1)

pub holds_back : (m : Memory) (ps qs : List Part) → HoldsAll m (ps ++ qs) → HoldsAll m qs
holds_back m [] qs all = all
holds_back m (p ∷ ps) qs all = holds_back m ps qs all.1

ranges_back : (before board : Memory) (modules : List Module) (word : ℕ → ℕ) (address : Target → ℕ) (list bases : List ℕ) (rows : List (List Target)) → board.base ≡ before.base → All IsValid modules → AreOn before (range_parts false modules word address list bases rows) → HoldsAll board (range_parts false modules word address list bases rows) → AreReadBack board modules word address list bases rows
ranges_back before board modules word address [] bases rows same valid on all = tt
ranges_back before board modules word address (k ∷ list) [] rows same valid on all = tt
ranges_back before board modules word address (k ∷ list) (b ∷ bases) [] same valid on all = tt
ranges_back before board modules word address (k ∷ list) (b ∷ bases) (r ∷ rows) same valid on all = (
  λ m is.
      let above = on.0.above in
      let P : Option Module → Type 0 = λ (o : Option Module). HoldsPart board (record { at = b; bytes = range_bytes false o word address r }) in
      read_back board b m (valid_at modules valid k m is) word address r (omega arith) (subst P is all.0),
  ranges_back before board modules word address list bases rows same valid on.1 all.1,
)

seat_back : (before board : Memory) (modules : List Module) (stack : ℕ) (texts : List (Option ℕ)) (bound : BoundProcess) (seat : Seat) → board.base ≡ before.base → All IsValid modules → AreOn before (seat_ranges false modules bound texts seat) → HoldsAll board (seat_ranges false modules bound texts seat) → IsSeatReadBack board modules texts bound seat
unfolding seat_ranges
seat_back before board modules stack texts bound seat same valid on all =
    ranges_back before board modules (slot_word modules bound.modules seat.bases) (target_address modules bound.modules texts seat.bases) bound.modules seat.bases bound.targets same valid on all

pub seats_back : (before board : Memory) (modules : List Module) (texts : List (Option ℕ)) (plans : List ProcessPlan) (bounds : List BoundProcess) (seats : List Seat) → length plans ≡ length bounds → board.base ≡ before.base → All IsValid modules → AreOn before (seats_parts false modules texts plans bounds seats) → HoldsAll board (seats_parts false modules texts plans bounds seats) → AreSeatsReadBack board modules texts bounds seats
seats_back before board modules texts plans [] seats lengths same valid on all = tt
seats_back before board modules texts [] (b ∷ bounds) seats lengths same valid on all = absurd (omega arith)
seats_back before board modules texts (p ∷ plans) (b ∷ bounds) [] lengths same valid on all = tt
seats_back before board modules texts (p ∷ plans) (b ∷ bounds) (s ∷ seats) lengths same valid on all =
    let here = seat_parts false modules p.stack b texts s in
    let rest = seats_parts false modules texts plans bounds seats in
    let ranges = seat_ranges false modules b texts s in
    let stack : List Part = stack_part p.stack s ∷ [] in (
      seat_back before board modules p.stack texts b s same valid (on_front ranges stack before (on_front here rest before on)) (holds_front board ranges stack (holds_front board here rest all)),
      seats_back before board modules texts plans bounds seats (omega arith) same valid (on_back here rest before on) (holds_back board here rest all),
    )
