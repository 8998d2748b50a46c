-- What a placement and the loaded memory give of made processes.
use Rattle.std.proofs.Common.{◌≡◌, ℕ, ◌+◌, ◌^◌, ◌<◌, false, List, [], ◌∷◌, ◌++◌, length, sym, ap, ◌∙◌, subst, arith}
use Rattle.std.specs.Prelude.{All, Option}
use Rattle.c6x_spec.specs.Memory.{Memory}
use Rattle.c6x_spec.specs.Parts.{AreApart, AreOn, HoldsAll, HoldsParts, Part}
use Rattle.c6x_exec.specs.declared.process.Process.{Process}
use Rattle.c6x_sched.specs.Together.{AllLieOn, AllStand, AreApart as AreAllApart}
use Rattle.c6x_module.specs.Valid.{IsValid}
use Rattle.c6x_module.specs.declared.module.Module.{Module}
use Rattle.c6x_plan.specs.Limits.{IsProcess}
use Rattle.c6x_plan.specs.declared.process_plan.ProcessPlan.{ProcessPlan}
use Rattle.c6x_place.specs.declared.bound_process.BoundProcess.{BoundProcess}
use Rattle.c6x_place.specs.declared.placement.Placement.{Placement}
use Rattle.c6x_place.specs.declared.seat.Seat.{Seat}
use Rattle.c6x_place.specs.Plans.{IsKnown, IsPlacement, bound_plans, is_used, used_from}
use Rattle.c6x_place.proofs.Walks.{length_used}
use Rattle.c6x_load.specs.Loaded.{plan_parts, text_parts}
use Rattle.c6x_load.proofs.Placed.{stands}
use Rattle.c6x_load.specs.ProcessLaws.{AreAllBelow}
use Rattle.c6x_load.proofs.Below.{placed_below}
use Rattle.c6x_load.specs.Made.{AreFresh, AreMade}
use Rattle.c6x_load.specs.Starts.{origins, origins_of, start_byte}
use Rattle.c6x_load.proofs.Covered.{text_in, used_at}
use Rattle.c6x_load.proofs.Origins.{AreCovered, all_apart, all_covered, all_fresh, all_lie, all_stand, groups_of, joined_groups, made_length, origins_bytes, origins_length}
use Rattle.c6x_load.proofs.PartBytes.{joined}

pub all_known : (modules : List Module) (plans : List ProcessPlan) → All (IsProcess (length modules)) plans → All (IsKnown modules) plans
all_known modules plans each = λ i d h. (each i d h).known

on_sized : (ps : List Part) (before after : Memory) → after.base ≡ before.base → length after.bytes ≡ length before.bytes → AreOn before ps → AreOn after ps
on_sized [] before after base size on = tt
on_sized (p ∷ ps) before after base size on =
    let above = on.0.above in
    let within = on.0.within in
    (record { above = omega arith; within = omega arith }, on_sized ps before after base size on.1)

zero_more : (k : ℕ) → 0 + k ≡ k
zero_more k = omega arith

pub record Facts (modules : List Module) (plans : List ProcessPlan) (bounds : List BoundProcess) (placement : Placement) (made : List Process) (after : Memory) : Type 0 where
  pub stand : AllStand made after (origins modules plans bounds placement) (λ number. 0)
  pub apart : AreAllApart made
  pub lie : AllLieOn after made
  pub count : length made ≡ length plans
  pub fresh : AreFresh made

-- the parts of a plan are the texts and those of each process
grouped : (modules : List Module) (plans : List ProcessPlan) (bounds : List BoundProcess) (placement : Placement) → text_parts modules placement.texts ++ joined (groups_of modules placement.texts plans bounds placement.seats) ≡ plan_parts false modules plans bounds placement
grouped modules plans bounds placement =
    ap (λ (ps : List Part). text_parts modules placement.texts ++ ps) (joined_groups modules placement.texts plans bounds placement.seats)

pub facts : (modules : List Module) (plans : List ProcessPlan) (bounds : List BoundProcess) (placement : Placement) (before after : Memory) (made : List Process) → bounds ≡ bound_plans modules plans → All IsValid modules → All (IsProcess (length modules)) plans → before.base + length before.bytes < 2 ^ 32 → IsPlacement modules plans bounds before.base (before.base + length before.bytes) placement → AreMade made (origins_of modules placement.texts (start_byte (plan_parts false modules plans bounds placement)) plans bounds placement.seats) → HoldsParts (plan_parts false modules plans bounds placement) before after → Facts modules plans bounds placement made after
unfolding origins
facts modules plans bounds placement before after made same valid each below is all held =
    let st = stands false modules plans bounds before placement same valid (all_known modules plans each) below is in
    let texts = text_parts modules placement.texts in
    let groups = groups_of modules placement.texts plans bounds placement.seats in
    let parts = plan_parts false modules plans bounds placement in
    let whole : texts ++ joined groups ≡ parts = grouped modules plans bounds placement in
    let starts = origins_of modules placement.texts (start_byte parts) plans bounds placement.seats in
    let used = used_from bounds 0 modules in
    let lengths = length_used bounds 0 modules in
    let covered : AreCovered texts groups starts = all_covered modules placement.texts (start_byte parts) plans bounds placement.seats valid st.seated (λ k h. text_in modules used placement.texts (sym lengths) is.wanted valid k (λ inside. used_at bounds 0 modules k inside ∙ ap (is_used bounds) (zero_more k) ∙ h)) in
    let H : List Part → Type 0 = λ (ps : List Part). HoldsAll after ps in
    let N : List Part → Type 0 = λ (ps : List Part). AreOn after ps in
    let A : List Part → Type 0 = λ (ps : List Part). AreApart ps in
    record {
      stand = all_stand texts groups made starts after all covered (subst H (sym whole) held.own) (λ i o h. origins_bytes modules placement.texts (start_byte parts) plans bounds placement.seats i o h ∙ ap start_byte (sym whole));
      apart = all_apart texts groups made starts all covered (subst A (sym whole) st.apart);
      lie = all_lie texts groups made starts after all covered (subst N (sym whole) (on_sized parts before after held.base held.size st.on));
      count = made_length made starts all ∙ origins_length modules placement.texts (start_byte parts) plans bounds placement.seats st.each st.seats;
      fresh = all_fresh made starts all;
    }

-- what the processes are made from
pub all_below : (modules : List Module) (plans : List ProcessPlan) (bounds : List BoundProcess) (placement : Placement) (base end : ℕ) → bounds ≡ bound_plans modules plans → All IsValid modules → length plans ≡ length bounds → end < 2 ^ 32 → IsPlacement modules plans bounds base end placement → AreAllBelow modules placement.texts plans bounds placement.seats
all_below modules plans bounds placement base end same valid lengths below is =
    placed_below modules valid plans bounds base end lengths (omega arith) placement is

-- the same where the lists of the placement have other names
pub loaded : (modules : List Module) (plans : List ProcessPlan) (bounds rows : List BoundProcess) (placement : Placement) (texts : List (Option ℕ)) (seats : List Seat) (before after : Memory) (made : List Process) → rows ≡ bounds → texts ≡ placement.texts → seats ≡ placement.seats → bounds ≡ bound_plans modules plans → All IsValid modules → All (IsProcess (length modules)) plans → before.base + length before.bytes < 2 ^ 32 → IsPlacement modules plans bounds before.base (before.base + length before.bytes) placement → ((bytes : ℕ → ℕ) → AreMade made (origins_of modules texts bytes plans rows seats)) → HoldsParts (plan_parts false modules plans bounds placement) before after → Facts modules plans bounds placement made after
loaded modules plans bounds rows placement texts seats before after made one two three same valid each below is all held =
    let bytes = start_byte (plan_parts false modules plans bounds placement) in
    let B : List BoundProcess → Type 0 = λ (l : List BoundProcess). AreMade made (origins_of modules texts bytes plans l seats) in
    let T : List (Option ℕ) → Type 0 = λ (l : List (Option ℕ)). AreMade made (origins_of modules l bytes plans bounds seats) in
    let S : List Seat → Type 0 = λ (l : List Seat). AreMade made (origins_of modules placement.texts bytes plans bounds l) in
    facts modules plans bounds placement before after made same valid each below is (subst S three (subst T two (subst B one (all bytes)))) held
