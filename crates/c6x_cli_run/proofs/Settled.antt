-- What a placement says of the seats of a plan.
use Rattle.std.proofs.Common.{◌≡◌, ℕ, false, List, [], ◌∷◌, length, sym, ap, ◌∙◌, subst, arith}
use Rattle.std.specs.Prelude.{All, Option}
use Rattle.std.proofs.lemmas.Grind.{common_steps}
use Rattle.c6x_spec.specs.Memory.{Memory}
use Rattle.c6x_spec.specs.Parts.{AreOn, Part}
use Rattle.c6x_spec.proofs.PartsHeld.{on_back, on_front}
use Rattle.c6x_base.specs.Search.{AreBelow}
use Rattle.c6x_module.specs.Valid.{IsValid}
use Rattle.c6x_module.specs.declared.module.Module.{Module}
use Rattle.c6x_plan.specs.declared.process_plan.ProcessPlan.{ProcessPlan}
use Rattle.c6x_place.specs.declared.bound_process.BoundProcess.{BoundProcess}
use Rattle.c6x_place.specs.declared.target.Target.{Target}
use Rattle.c6x_place.specs.declared.seat.Seat.{Seat}
use Rattle.c6x_place.specs.Plans.{AreSeated, bound_plans, used_from}
use Rattle.c6x_place.proofs.Walks.{length_used}
use Rattle.c6x_load.specs.Values.{slot_word, target_address}
use Rattle.c6x_load.specs.Loaded.{AreAllSeated, AreReady, range_parts, seat_parts, seat_ranges, seats_parts, stack_part, text_parts}
use Rattle.c6x_load.proofs.Placed.{Stands, all_seated, seated_length, stands, valid_at, wanted_length}
use Rattle.c6x_load.proofs.PlanWalks.{range_here}
use Rattle.c6x_cli_run.specs.Placing.{CanLoad}
use Rattle.c6x_cli_run.specs.declared.loading.Loading.{Loading}
use Rattle.c6x_cli_run.specs.Held.{AreRangesOn, AreSeatsOn}
use Rattle.c6x_cli_run.specs.Settled.{HaveSeats, IsSettled}

below_of : (modules : List Module) (list : List ℕ) (rows : List (List Target)) → length list ≡ length rows → AreReady modules list rows → AreBelow (length modules) list
below_of modules [] rows same ready = tt
below_of modules (k ∷ list) [] same ready = absurd (omega arith)
below_of modules (k ∷ list) (row ∷ rows) same ready = (ready.0.inside, below_of modules list rows (omega arith) ready.1)

seats_of : (modules : List Module) (bounds : List BoundProcess) (seats : List Seat) → AreAllSeated modules bounds seats → HaveSeats modules bounds seats
seats_of modules [] seats all = tt
seats_of modules (b ∷ bounds) [] all = tt
seats_of modules (b ∷ bounds) (s ∷ seats) all =
    (record { known = below_of modules b.modules b.targets all.0.rows all.0.ready; bases = all.0.bases }, seats_of modules bounds seats all.1)

length_bounds : (modules : List Module) (plans : List ProcessPlan) → length plans ≡ length (bound_plans modules plans)
length_bounds modules plans = search common_steps

-- where a plan can be loaded, each process has its seat
pub loads_are_seated : (base len : ℕ) (loading : Loading) → CanLoad base len loading → AreAllSeated loading.modules loading.bound.processes loading.placement.seats
loads_are_seated base len loading k =
    let seats : List Seat = loading.placement.seats in
    let S : List BoundProcess → Type 0 = λ (bs : List BoundProcess). AreSeated bs seats in
    let A : List BoundProcess → Type 0 = λ (bs : List BoundProcess). AreAllSeated loading.modules bs seats in
    subst A (sym k.bound) (all_seated loading.modules loading.plan.processes seats (λ i d below. (k.each i d below).known) (subst S k.bound k.placed.seated))

pub loads_is_settled : (base len : ℕ) (loading : Loading) → CanLoad base len loading → IsSettled loading
loads_is_settled base len loading k =
    let modules : List Module = loading.modules in
    let bounds : List BoundProcess = loading.bound.processes in
    let each : length loading.plan.processes ≡ length bounds = length_bounds modules loading.plan.processes ∙ ap (λ (bs : List BoundProcess). length bs) (sym k.bound) in
    record {
      texts = sym (length_used bounds 0 modules) ∙ wanted_length (used_from bounds 0 modules) loading.placement.texts k.placed.wanted;
      bounds = each;
      seats = each ∙ seated_length bounds loading.placement.seats k.placed.seated;
      seated = seats_of modules bounds loading.placement.seats (loads_are_seated base len loading k);
    }

-- the data ranges of the processes lie on the board
ranges_on : (board : Memory) (modules : List Module) (word : ℕ → ℕ) (address : Target → ℕ) (list bases : List ℕ) (rows : List (List Target)) → All IsValid modules → length list ≡ length rows → AreReady modules list rows → AreOn board (range_parts false modules word address list bases rows) → AreRangesOn board modules list bases
ranges_on board modules word address [] bases rows valid same ready on = tt
ranges_on board modules word address (k ∷ list) [] rows valid same ready on = tt
ranges_on board modules word address (k ∷ list) (b ∷ bases) [] valid same ready on = absurd (omega arith)
ranges_on board modules word address (k ∷ list) (b ∷ bases) (row ∷ rows) valid same ready on = (
  record {
    inside = ready.0.inside;
    room = λ m is. range_here false modules k m word address row b board is (valid_at modules valid k m is) on.0;
  },
  ranges_on board modules word address list bases rows valid (omega arith) ready.1 on.1,
)

seat_on : (board : Memory) (modules : List Module) (stack : ℕ) (b : BoundProcess) (texts : List (Option ℕ)) (s : Seat) → All IsValid modules → length b.modules ≡ length b.targets → AreReady modules b.modules b.targets → AreOn board (seat_parts false modules stack b texts s) → AreRangesOn board modules b.modules s.bases
unfolding seat_ranges
seat_on board modules stack b texts s valid same ready on =
    ranges_on board modules (slot_word modules b.modules s.bases) (target_address modules b.modules texts s.bases) b.modules s.bases b.targets valid same ready
    (on_front (seat_ranges false modules b texts s) (stack_part stack s ∷ []) board on)

seats_on : (board : Memory) (modules : List Module) (texts : List (Option ℕ)) (plans : List ProcessPlan) (bounds : List BoundProcess) (seats : List Seat) → All IsValid modules → length plans ≡ length bounds → AreAllSeated modules bounds seats → AreOn board (seats_parts false modules texts plans bounds seats) → AreSeatsOn board modules bounds seats
seats_on board modules texts plans [] seats valid same all on = tt
seats_on board modules texts plans (b ∷ bounds) [] valid same all on = tt
seats_on board modules texts [] (b ∷ bounds) (s ∷ seats) valid same all on = absurd (omega arith)
seats_on board modules texts (p ∷ plans) (b ∷ bounds) (s ∷ seats) valid same all on =
    let here : List Part = seat_parts false modules p.stack b texts s in
    let rest : List Part = seats_parts false modules texts plans bounds seats in (
      seat_on board modules p.stack b texts s valid all.0.rows all.0.ready (on_front here rest board on),
      seats_on board modules texts plans bounds seats valid (omega arith) all.1 (on_back here rest board on),
    )

pub loads_are_on : (board : Memory) (loading : Loading) → All IsValid loading.modules → CanLoad board.base (length board.bytes) loading → AreSeatsOn board loading.modules loading.bound.processes loading.placement.seats
loads_are_on board loading valid k =
    let gates = k.memory.below_gates in
    let plans = loading.plan.processes in
    let st : Stands false loading.modules plans loading.bound.processes board loading.placement = stands false loading.modules plans loading.bound.processes board loading.placement k.bound valid (λ i d below. (k.each i d below).known) (omega arith) k.placed in
    seats_on board loading.modules loading.placement.texts plans loading.bound.processes loading.placement.seats valid st.each st.seated
    (on_back (text_parts loading.modules loading.placement.texts) (seats_parts false loading.modules loading.placement.texts plans loading.bound.processes loading.placement.seats) board st.on)
