-- What a placement says of the parts of a plan: they stand in order, so they share no address and lie on the memory.
use Rattle.std.proofs.Common.{◌≡◌, ℕ, zero, suc, ◌+◌, ◌^◌, ◌<◌, Bool, true, false, List, [], ◌∷◌, length, refl, sym, ap, ◌∙◌, subst, arith}
use Rattle.std.specs.Prelude.{All, Ok, Option, None, Result, Some, slice_get}
use Rattle.std.proofs.lemmas.Grind.{common_steps}
use Rattle.c6x_spec.specs.Memory.{Memory}
use Rattle.c6x_spec.specs.Parts.{AreApart, AreOn}
use Rattle.c6x_spec.proofs.PartsInOrder.{all_apart, all_on}
use Rattle.c6x_base.specs.Search.{AreBelow, search_of}
use Rattle.c6x_base.proofs.OneList.{ok_members}
use Rattle.c6x_module.specs.Valid.{IsValid}
use Rattle.c6x_module.specs.declared.module.Module.{Module}
use Rattle.c6x_plan.specs.declared.process_plan.ProcessPlan.{ProcessPlan}
use Rattle.c6x_place.specs.Binding.{bound_process}
use Rattle.c6x_place.specs.Definitions.{member_targets, targets_from}
use Rattle.c6x_place.specs.Members.{fields_of, fields_or}
use Rattle.c6x_place.specs.Needs.{needs_of}
use Rattle.c6x_place.proofs.NeedsKnown.{length_needs, needs_known}
use Rattle.c6x_place.specs.declared.bound_process.BoundProcess.{BoundProcess}
use Rattle.c6x_place.specs.declared.target.Target.{Target}
use Rattle.c6x_place.specs.Rooms.{data_rooms, room_or, seat_places, seat_rooms, stack_room, text_places, text_rooms}
use Rattle.c6x_place.specs.declared.placement.Placement.{Placement}
use Rattle.c6x_place.specs.declared.seat.Seat.{Seat}
use Rattle.c6x_place.proofs.Orders.{Fit, fit_append, fit_order, placed_last}
use Rattle.c6x_load.specs.Values.{slot_word, target_address}
use Rattle.c6x_load.proofs.Ranges.{length_filled}
use Rattle.c6x_place.specs.Plans.{AreSeated, AreWanted, IsKnown, IsPlacement, bound_plans, plan_places, plan_rooms, seats_places, seats_rooms, used_from}
use Rattle.c6x_place.proofs.Walks.{length_used}
use Rattle.c6x_load.specs.Loaded.{AreAllSeated, AreReady, IsSeated, plan_parts, range_bytes, range_parts, seat_parts, seat_ranges, seats_parts, stack_part, text_parts}
use Rattle.c6x_load.proofs.PlanWalks.{image_length, length_zeros}

same_module : (a b : Module) → Some a ≡ Some b → a ≡ b
same_module a b is = cc

pub valid_at : (modules : List Module) → All IsValid modules → (k : ℕ) (m : Module) → slice_get modules k ≡ Some m → IsValid m
valid_at [] valid k m is = absurd (cc)
valid_at (x ∷ modules) valid zero m is =
    let P : Module → Type 0 = λ (n : Module). IsValid n in
    subst P (same_module x m is) (valid 0 x (omega arith))
valid_at (x ∷ modules) valid (suc k) m is = valid_at modules (λ i d h. valid (suc i) d (omega arith)) k m is

-- the texts
text_fit : (modules : List Module) (used : List Bool) (texts : List (Option ℕ)) → length modules ≡ length used → AreWanted used texts → All IsValid modules → Fit (text_rooms modules used) (text_places texts) (text_parts modules texts)
text_fit [] [] [] lengths wanted valid = tt
text_fit [] [] (t ∷ texts) lengths wanted valid = absurd wanted
text_fit [] (u ∷ used) texts lengths wanted valid = absurd (omega arith)
text_fit (m ∷ modules) [] texts lengths wanted valid = absurd (omega arith)
text_fit (m ∷ modules) (true ∷ used) [] lengths wanted valid = absurd wanted
text_fit (m ∷ modules) (false ∷ used) [] lengths wanted valid = absurd wanted
text_fit (m ∷ modules) (true ∷ used) (None ∷ texts) lengths wanted valid = absurd wanted
text_fit (m ∷ modules) (false ∷ used) (Some at ∷ texts) lengths wanted valid = absurd wanted
text_fit (m ∷ modules) (false ∷ used) (None ∷ texts) lengths wanted valid =
    text_fit modules used texts (omega arith) wanted (λ i d h. valid (suc i) d (omega arith))
text_fit (m ∷ modules) (true ∷ used) (Some at ∷ texts) lengths wanted valid =
    let here : IsValid m = valid 0 m (omega arith) in
    (refl, length_filled m.text here.text, text_fit modules used texts (omega arith) wanted (λ i d h. valid (suc i) d (omega arith)))

pub wanted_length : (used : List Bool) (texts : List (Option ℕ)) → AreWanted used texts → length used ≡ length texts
wanted_length [] [] wanted = refl
wanted_length [] (t ∷ texts) wanted = absurd wanted
wanted_length (true ∷ used) [] wanted = absurd wanted
wanted_length (false ∷ used) [] wanted = absurd wanted
wanted_length (true ∷ used) (Some at ∷ texts) wanted = ap suc (wanted_length used texts wanted)
wanted_length (true ∷ used) (None ∷ texts) wanted = absurd wanted
wanted_length (false ∷ used) (Some at ∷ texts) wanted = absurd wanted
wanted_length (false ∷ used) (None ∷ texts) wanted = ap suc (wanted_length used texts wanted)

-- the data ranges of a process
image_size : (big : Bool) (o : Option Module) (word : ℕ → ℕ) (address : Target → ℕ) (row : List Target) → ((m : Module) → o ≡ Some m → IsValid m) → length (range_bytes big o word address row) ≡ (room_or o).size
image_size big None word address row valid = refl
image_size big (Some m) word address row valid = image_length big m word address row (valid m refl)

range_fit : (big : Bool) (modules : List Module) (word : ℕ → ℕ) (address : Target → ℕ) (list bases : List ℕ) (rows : List (List Target)) → length list ≡ length bases → length list ≡ length rows → All IsValid modules → Fit (data_rooms modules list) bases (range_parts big modules word address list bases rows)
range_fit big modules word address [] [] rows a b valid = tt
range_fit big modules word address [] (x ∷ bases) rows a b valid = absurd (omega arith)
range_fit big modules word address (k ∷ list) [] rows a b valid = absurd (omega arith)
range_fit big modules word address (k ∷ list) (x ∷ bases) [] a b valid = absurd (omega arith)
range_fit big modules word address (k ∷ list) (x ∷ bases) (row ∷ rows) a b valid =
    (refl, image_size big (slice_get modules k) word address row (valid_at modules valid k), range_fit big modules word address list bases rows (omega arith) (omega arith) valid)

seat_fit : (big : Bool) (modules : List Module) (stack : ℕ) (bound : BoundProcess) (texts : List (Option ℕ)) (seat : Seat) → IsSeated modules bound seat → All IsValid modules → Fit (seat_rooms modules bound.modules stack) (seat_places seat) (seat_parts big modules stack bound texts seat)
unfolding seat_ranges
seat_fit big modules stack bound texts seat is valid =
    fit_append (data_rooms modules bound.modules) (stack_room stack ∷ []) seat.bases (seat.stack ∷ []) _ (stack_part stack seat ∷ [])
    (range_fit big modules (slot_word modules bound.modules seat.bases) (target_address modules bound.modules texts seat.bases) bound.modules seat.bases bound.targets is.bases is.rows valid)
    (refl, length_zeros stack, tt)

seats_fit : (big : Bool) (modules : List Module) (texts : List (Option ℕ)) (plans : List ProcessPlan) (bounds : List BoundProcess) (seats : List Seat) → length plans ≡ length bounds → AreSeated bounds seats → AreAllSeated modules bounds seats → All IsValid modules → Fit (seats_rooms modules plans bounds) (seats_places seats) (seats_parts big modules texts plans bounds seats)
seats_fit big modules texts [] [] [] lengths seated all valid = tt
seats_fit big modules texts [] [] (s ∷ seats) lengths seated all valid = absurd seated
seats_fit big modules texts [] (b ∷ bounds) seats lengths seated all valid = absurd (omega arith)
seats_fit big modules texts (p ∷ plans) [] seats lengths seated all valid = absurd (omega arith)
seats_fit big modules texts (p ∷ plans) (b ∷ bounds) [] lengths seated all valid = absurd seated
seats_fit big modules texts (p ∷ plans) (b ∷ bounds) (s ∷ seats) lengths seated all valid =
    fit_append (seat_rooms modules b.modules p.stack) (seats_rooms modules plans bounds) (seat_places s) (seats_places seats) (seat_parts big modules p.stack b texts s) (seats_parts big modules texts plans bounds seats)
    (seat_fit big modules p.stack b texts s all.0 valid)
    (seats_fit big modules texts plans bounds seats (omega arith) seated.1 all.1 valid)

pub seated_length : (bounds : List BoundProcess) (seats : List Seat) → AreSeated bounds seats → length bounds ≡ length seats
seated_length [] [] seated = refl
seated_length [] (s ∷ seats) seated = absurd seated
seated_length (b ∷ bounds) [] seated = absurd seated
seated_length (b ∷ bounds) (s ∷ seats) seated = ap suc (seated_length bounds seats seated.1)

-- what a process is bound to has a row for each member of its list
length_targets : (modules : List Module) (list : List ℕ) (position : ℕ) (rest : List ℕ) → length rest ≡ length (targets_from modules list position rest)
length_targets modules list position [] = refl
length_targets modules list position (k ∷ rest) = ap suc (length_targets modules list (position + 1) rest)

length_row : (modules : List Module) (list : List ℕ) (position k : ℕ) → length (member_targets modules list position k) ≡ length (fields_of modules k)
length_row modules list position k = search common_steps

targets_ready : (modules : List Module) (list : List ℕ) (position : ℕ) (rest : List ℕ) → AreBelow (length modules) rest → AreReady modules rest (targets_from modules list position rest)
targets_ready modules list position [] below = tt
targets_ready modules list position (k ∷ rest) below = (
  record {
    inside = below.0;
    targeted = λ m is. sym (length_row modules list position k ∙ ap (λ (o : Option Module). length (fields_or o)) is);
  },
  targets_ready modules list (position + 1) rest below.1,
)

members_below : (modules : List Module) (start : ℕ) → start < length modules → AreBelow (length modules) (search_of (needs_of modules) start)
members_below modules start inside =
    let same = length_needs modules in
    let P : ℕ → Type 0 = λ (n : ℕ). AreBelow n (search_of (needs_of modules) start) in
    let answer : Result (List ℕ) ℕ = Ok (search_of (needs_of modules) start) in
    subst P same (ok_members (λ (l : List ℕ). l) (needs_of modules) start answer refl (omega arith) (needs_known modules))

process_seated : (modules : List Module) (start : ℕ) (seat : Seat) → start < length modules → length seat.bases ≡ length (bound_process modules start).modules → IsSeated modules (bound_process modules start) seat
unfolding bound_process
process_seated modules start seat inside each =
    let list = search_of (needs_of modules) start in
    record {
      bases = sym each;
      rows = length_targets modules list 0 list;
      ready = targets_ready modules list 0 list (members_below modules start inside);
    }

pub all_seated : (modules : List Module) (plans : List ProcessPlan) (seats : List Seat) → All (IsKnown modules) plans → AreSeated (bound_plans modules plans) seats → AreAllSeated modules (bound_plans modules plans) seats
all_seated modules [] seats known seated = tt
all_seated modules (p ∷ plans) [] known seated = absurd seated
all_seated modules (p ∷ plans) (s ∷ seats) known seated =
    (process_seated modules p.module s (known 0 p (omega arith)) seated.0, all_seated modules plans seats (λ i d h. known (suc i) d (omega arith)) seated.1)

-- all together
pub record Stands (big : Bool) (modules : List Module) (plans : List ProcessPlan) (bounds : List BoundProcess) (m : Memory) (placement : Placement) : Type 0 where
  pub texts : length modules ≡ length placement.texts
  pub each : length plans ≡ length bounds
  pub seats : length plans ≡ length placement.seats
  pub seated : AreAllSeated modules bounds placement.seats
  pub on : AreOn m (plan_parts big modules plans bounds placement)
  pub apart : AreApart (plan_parts big modules plans bounds placement)

length_bounds : (modules : List Module) (plans : List ProcessPlan) → length plans ≡ length (bound_plans modules plans)
length_bounds modules plans = search common_steps

pub stands : (big : Bool) (modules : List Module) (plans : List ProcessPlan) (bounds : List BoundProcess) (m : Memory) (placement : Placement) → bounds ≡ bound_plans modules plans → All IsValid modules → All (IsKnown modules) plans → m.base + length m.bytes < 2 ^ 32 → IsPlacement modules plans bounds m.base (m.base + length m.bytes) placement → Stands big modules plans bounds m placement
stands big modules plans bounds m placement same valid known below is =
    let end = m.base + length m.bytes in
    let used = used_from bounds 0 modules in
    let lengths : length plans ≡ length bounds = length_bounds modules plans ∙ ap (λ (bs : List BoundProcess). length bs) (sym same) in
    let users = length_used bounds 0 modules in
    let wants = wanted_length used placement.texts is.wanted in
    let seats = seated_length bounds placement.seats is.seated in
    let S : List BoundProcess → Type 0 = λ (bs : List BoundProcess). AreSeated bs placement.seats in
    let A : List BoundProcess → Type 0 = λ (bs : List BoundProcess). AreAllSeated modules bs placement.seats in
    let all = subst A (sym same) (all_seated modules plans placement.seats known (subst S same is.seated)) in
    let tfit = text_fit modules used placement.texts (sym users) is.wanted valid in
    let sfit = seats_fit big modules placement.texts plans bounds placement.seats lengths is.seated all valid in
    let fit = fit_append (text_rooms modules used) (seats_rooms modules plans bounds) (text_places placement.texts) (seats_places placement.seats) (text_parts modules placement.texts) (seats_parts big modules placement.texts plans bounds placement.seats) tfit sfit in
    let order = fit_order (plan_rooms modules plans bounds) (plan_places placement) (plan_parts big modules plans bounds placement) m.base end is.last fit is.placed in
    let last = placed_last (plan_rooms modules plans bounds) (plan_places placement) m.base end is.last (omega arith) is.placed in
    record {
      texts = sym users ∙ wants;
      each = lengths;
      seats = lengths ∙ seats;
      seated = all;
      on = all_on (plan_parts big modules plans bounds placement) m m.base is.last (omega arith) last order;
      apart = all_apart (plan_parts big modules plans bounds placement) m.base is.last order;
    }
