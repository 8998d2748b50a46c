-- Each member of each process of a loaded plan stands in the memory.
use Rattle.std.proofs.Common.{◌≡◌, ℕ, ◌+◌, ◌%◌, Bool, true, List, length, sym, ap, ◌∙◌}
use Rattle.std.proofs.Common.{subst, arith, false}
use Rattle.std.specs.Prelude.{Option, Some, slice_get}
use Rattle.c6x_spec.specs.Memory.{IsOnMemory, Memory}
use Rattle.c6x_spec.specs.Parts.{AreOn, HoldsAll}
use Rattle.c6x_spec.proofs.PartsHeld.{on_back}
use Rattle.c6x_module.specs.Valid.{IsValid}
use Rattle.c6x_module.specs.declared.module.Module.{Module}
use Rattle.c6x_plan.specs.declared.process_plan.ProcessPlan.{ProcessPlan}
use Rattle.c6x_place.specs.Definitions.{member_targets}
use Rattle.c6x_place.specs.declared.bound_process.BoundProcess.{BoundProcess}
use Rattle.c6x_place.specs.declared.target.Target.{Target}
use Rattle.c6x_place.specs.declared.placement.Placement.{Placement}
use Rattle.c6x_place.specs.declared.seat.Seat.{Seat}
use Rattle.c6x_load.specs.Values.{shift_of, slot_word, target_address, text_at}
use Rattle.c6x_place.specs.Plans.{is_used, seats_places, seats_rooms, used_from}
use Rattle.c6x_load.proofs.Backs.{holds_back}
use Rattle.c6x_load.proofs.Placed.{stands, valid_at}
use Rattle.c6x_load.proofs.PlanWalks.{image_length, seg_room}
use Rattle.c6x_load.specs.Loaded.{plan_parts, seats_parts, text_parts}
use Rattle.c6x_relocated.proofs.MovedWords.{shift_whole}
use Rattle.c6x_relocated.specs.Filled.{Finding, IsMember}
use Rattle.c6x_relocated.specs.Relocated.{Stands}
use Rattle.c6x_relocated.specs.Plans.{AreLoaded, IsFinding, MemberStands, finding_of}
use Rattle.c6x_relocated.proofs.Alignments.{step_whole}
use Rattle.c6x_relocated.proofs.Ranges.{RangeStands, range_stands, row_at, row_is}
use Rattle.c6x_relocated.proofs.Seats.{ranges_of, rows_of, seat_stands}
use Rattle.c6x_relocated.proofs.Texts.{TextStands, text_stands, used_at, used_is}

-- the text of a member
text_of :
    (board : Memory) (modules : List Module) (plans : List ProcessPlan) (bounds : List BoundProcess)
    (placement : Placement)
    → AreLoaded board modules plans bounds placement
    → AreOn board (plan_parts false modules plans bounds placement)
    → (process : ℕ) (bound : BoundProcess)
    → slice_get bounds process ≡ Some bound
    → (position number : ℕ) (m : Module)
    → slice_get bound.modules position ≡ Some number
    → slice_get modules number ≡ Some m
    → TextStands board m (text_at placement.texts number)
text_of board modules plans bounds placement loaded on process bound is position number m listed here =
    let p = loaded.placed in
    let used : is_used bounds number ≡ true = used_at bounds process bound position number is listed in
    let place : 0 + number ≡ number = omega arith in
    let told : slice_get (used_from bounds 0 modules) number ≡ Some true = used_is bounds 0 modules number m here ∙
    ap (λ n. Some (is_used bounds n)) place ∙ ap (λ (b : Bool). Some b) used in
    text_stands board modules (used_from bounds 0 modules) placement.texts (seats_rooms modules plans bounds)
    (seats_places placement.seats) (seats_parts false modules placement.texts plans bounds placement.seats)
    board.base (board.base + length board.bytes) p.last p.wanted p.placed on loaded.held number m here told

-- its data range
range_of :
    (board : Memory) (modules : List Module) (plans : List ProcessPlan) (bounds : List BoundProcess)
    (placement : Placement)
    → AreLoaded board modules plans bounds placement
    → length plans ≡ length bounds
    → AreOn board (plan_parts false modules plans bounds placement)
    → (process : ℕ) (bound : BoundProcess) (seat : Seat)
    → slice_get bounds process ≡ Some bound
    → slice_get placement.seats process ≡ Some seat
    → (position number base : ℕ)
    → slice_get bound.modules position ≡ Some number
    → slice_get seat.bases position ≡ Some base
    → RangeStands board (slice_get modules number) (slot_word modules bound.modules seat.bases)
    (target_address modules bound.modules placement.texts seat.bases) base
    (member_targets modules bound.modules position number)
range_of board modules plans bounds placement loaded lengths on process bound seat is seated position number base
    listed based =
    let texts = text_parts modules placement.texts in
    let seats = seats_parts false modules placement.texts plans bounds placement.seats in
    let s = seat_stands board modules placement.texts plans bounds placement.seats lengths
    (on_back texts seats board on) (holds_back board texts seats loaded.held) process bound seat is seated in
    let B : List BoundProcess → Type 0 = λ bs. slice_get bs process ≡ Some bound in
    let rows = rows_of modules plans process bound (subst B loaded.bound is) in
    let place : 0 + position ≡ position = omega arith in
    let row : slice_get bound.targets position ≡ Some (member_targets modules bound.modules position number) = ap
    (λ (rs : List (List Target)). slice_get rs position) rows ∙ row_at modules bound.modules 0 bound.modules
    position number listed ∙ ap (λ n. Some (member_targets modules bound.modules n number)) place in
    let made = ranges_of modules placement.texts bound seat in
    range_stands board modules (slot_word modules bound.modules seat.bases)
    (target_address modules bound.modules placement.texts seat.bases) bound.modules seat.bases bound.targets
    (subst (AreOn board) made s.on) (subst (HoldsAll board) made s.held) position number base
    (member_targets modules bound.modules position number) listed based row

-- where a module is known, its range is its image
range_room :
    (board : Memory) (m : Module) (word : ℕ → ℕ) (address : Target → ℕ) (base : ℕ) (row : List Target)
    → IsValid m
    → RangeStands board (Some m) word address base row
    → IsOnMemory board base m.memory.memsz
range_room board m word address base row valid range =
    let size = image_length false m word address row valid in
    let on = range.on in
    let above = on.above in
    let within = on.within in
    record { above = above; within = omega (arith, size, within) }

joined :
    (board : Memory) (m : Module) (word : ℕ → ℕ) (address : Target → ℕ) (text base : ℕ) (row : List Target)
    → IsValid m
    → TextStands board m text
    → RangeStands board (Some m) word address base row
    → Stands board m text base word address row
joined board m word address text base row valid here range = record {
  valid = valid;
  text_on = seg_room m.text board text valid.text here.on;
  text_part = here.part;
  range_on = range_room board m word address base row valid range;
  range_part = range.part;
}

packets_kept :
    (board : Memory) (m : Module) (text : ℕ)
    → IsValid m
    → TextStands board m text
    → shift_of text m.text.vaddr % 32 ≡ 0
packets_kept board m text valid here =
    let loadable = valid.text in
    let range = loadable.range in
    shift_whole text m.text.vaddr _ here.congruent (step_whole m.text.align loadable.alignment) valid.packets
    (omega (arith, range))

member_at :
    (board : Memory) (modules : List Module) (plans : List ProcessPlan) (bounds : List BoundProcess)
    (placement : Placement)
    → AreLoaded board modules plans bounds placement
    → (process : ℕ) (bound : BoundProcess) (seat : Seat)
    → slice_get bounds process ≡ Some bound
    → slice_get placement.seats process ≡ Some seat
    → (position : ℕ) (m : Module) (text base : ℕ)
    → IsMember (finding_of modules bound placement.texts seat) position m text base
    → MemberStands board (finding_of modules bound placement.texts seat) position m text base
member_at board modules plans bounds placement loaded process bound seat is seated position m text base member =
    let st = stands false modules plans bounds board placement loaded.bound loaded.valid loaded.known loaded.below
    loaded.placed in
    let number = member.number in
    let valid = valid_at modules loaded.valid number m member.module_is in
    let word = slot_word modules bound.modules seat.bases in
    let address = target_address modules bound.modules placement.texts seat.bases in
    let T : ℕ → Type 0 = λ at. TextStands board m at in
    let here = subst T member.text_is
    (text_of board modules plans bounds placement loaded st.on process bound is position number m member.listed
    member.module_is) in
    let range = range_of board modules plans bounds placement loaded st.each st.on process bound seat is seated
    position number base member.listed member.base_is in
    let O : Option Module → Type 0 = λ o. RangeStands board o word address base
    (member_targets modules bound.modules position number) in
    let R : List Target → Type 0 = λ row. RangeStands board (Some m) word address base row in
    let own = subst R (row_is modules bound.modules position number m member.module_is)
    (subst O member.module_is range) in
    record {
      stands = joined board m word address text base _ valid here own;
      packets = packets_kept board m text valid here;
    }

pub member_stands :
    (board : Memory) (modules : List Module) (plans : List ProcessPlan) (bounds : List BoundProcess)
    (placement : Placement)
    → AreLoaded board modules plans bounds placement
    → (process : ℕ) (f : Finding)
    → IsFinding modules bounds placement process f
    → (position : ℕ) (m : Module) (text base : ℕ)
    → IsMember f position m text base
    → MemberStands board f position m text base
member_stands board modules plans bounds placement loaded process f finding position m text base member =
    let P : Finding → Type 0 = λ g. IsMember g position m text base in
    let Q : Finding → Type 0 = λ g. MemberStands board g position m text base in
    subst Q (sym finding.is)
    (member_at board modules plans bounds placement loaded process finding.bound finding.seat finding.bound_is
    finding.seat_is position m text base (subst P finding.is member))
