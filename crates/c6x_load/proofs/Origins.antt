-- The processes of a plan that stand for their origins: all on one board, each apart from the others.
use Rattle.std.proofs.Common.{◌≡◌, ◌≢◌, ℕ, zero, suc, inl, inr, true, false, List, [], ◌∷◌, ◌++◌, length, refl, sym, ap, subst, arith}
use Rattle.std.specs.Prelude.{All, Option, Some, slice_get}
use Rattle.c6x_spec.specs.Memory.{Memory}
use Rattle.c6x_spec.specs.Parts.{AreApart, AreOn, HoldsAll, Part, is_in}
use Rattle.c6x_access.specs.Rights.{allowed, is_own}
use Rattle.c6x_access.specs.declared.area.Area.{Area}
use Rattle.c6x_access.specs.declared.right.Right.TheVariants.{Write}
use Rattle.c6x_board.specs.Lane.{LieOn}
use Rattle.c6x_machine.specs.Origin.{Origin}
use Rattle.c6x_exec.specs.Process.{StandsFor}
use Rattle.c6x_exec.specs.Stands.{HoldsBytes}
use Rattle.c6x_exec.specs.declared.process.Process.{Process}
use Rattle.c6x_sched.specs.Together.{AllLieOn, AllStand, AreApart as AreAllApart}
use Rattle.c6x_module.specs.Valid.{IsValid}
use Rattle.c6x_module.specs.declared.module.Module.{Module}
use Rattle.c6x_plan.specs.declared.process_plan.ProcessPlan.{ProcessPlan}
use Rattle.c6x_place.specs.declared.bound_process.BoundProcess.{BoundProcess}
use Rattle.c6x_place.specs.declared.seat.Seat.{Seat}
use Rattle.c6x_place.specs.Plans.{is_used}
use Rattle.c6x_base.specs.Search.{has}
use Rattle.c6x_load.specs.Loaded.{AreAllSeated, seat_parts, seats_parts, text_parts}
use Rattle.c6x_load.specs.Made.{AreFresh, AreMade, IsMade}
use Rattle.c6x_load.specs.Starts.{origin_or, origins_of, process_origin, start_byte}
use Rattle.c6x_load.proofs.PartBytes.{apart_back, apart_lists, held_byte, in_back, in_front, in_joined, joined, joined_apart, not_both, not_when, on_byte, or_left, or_right}
use Rattle.c6x_load.proofs.Covered.{IsCovered, IsTextIn, seat_covered}

-- the parts of each process
abbrev pub groups_of : List Module → List (Option ℕ) → List ProcessPlan → List BoundProcess → List Seat → List (List Part)
groups_of modules texts [] bounds seats = []
groups_of modules texts (plan ∷ plans) [] seats = []
groups_of modules texts (plan ∷ plans) (bound ∷ bounds) [] = []
groups_of modules texts (plan ∷ plans) (bound ∷ bounds) (seat ∷ seats) =
    seat_parts false modules plan.stack bound texts seat ∷ groups_of modules texts plans bounds seats

pub joined_groups : (modules : List Module) (texts : List (Option ℕ)) (plans : List ProcessPlan) (bounds : List BoundProcess) (seats : List Seat) → joined (groups_of modules texts plans bounds seats) ≡ seats_parts false modules texts plans bounds seats
joined_groups modules texts [] bounds seats = refl
joined_groups modules texts (p ∷ plans) [] seats = refl
joined_groups modules texts (p ∷ plans) (b ∷ bounds) [] = refl
joined_groups modules texts (p ∷ plans) (b ∷ bounds) (s ∷ seats) =
    ap (λ (rest : List Part). seat_parts false modules p.stack b texts s ++ rest) (joined_groups modules texts plans bounds seats)

-- each process is covered by its own
abbrev pub AreCovered : List Part → List (List Part) → List Origin → Type 0
AreCovered texts [] [] = Unit {0}
AreCovered texts [] (o ∷ os) = ⊥
AreCovered texts (g ∷ gs) [] = ⊥
AreCovered texts (g ∷ gs) (o ∷ os) = IsCovered texts g o.areas × AreCovered texts gs os

pub all_covered : (modules : List Module) (texts : List (Option ℕ)) (bytes : ℕ → ℕ) (plans : List ProcessPlan) (bounds : List BoundProcess) (seats : List Seat) → All IsValid modules → AreAllSeated modules bounds seats → ((k : ℕ) → is_used bounds k ≡ true → IsTextIn modules texts k) → AreCovered (text_parts modules texts) (groups_of modules texts plans bounds seats) (origins_of modules texts bytes plans bounds seats)
all_covered modules texts bytes [] bounds seats valid seated each = tt
all_covered modules texts bytes (p ∷ plans) [] seats valid seated each = tt
all_covered modules texts bytes (p ∷ plans) (b ∷ bounds) [] valid seated each = tt
all_covered modules texts bytes (p ∷ plans) (b ∷ bounds) (s ∷ seats) valid seated each = (
  seat_covered modules p.stack b texts s seated.0 valid (λ k h. each k (or_left (has b.modules k) (is_used bounds k) h)),
  all_covered modules texts bytes plans bounds seats valid seated.1 (λ k h. each k (or_right (has b.modules k) (is_used bounds k) h)),
)

record CoveredAt (texts : List Part) (gs : List (List Part)) (i : ℕ) (o : Origin) : Type 0 where
  pub group : List Part
  pub is : slice_get gs i ≡ Some group
  pub covered : IsCovered texts group o.areas

covered_at : (texts : List Part) (gs : List (List Part)) (os : List Origin) (i : ℕ) (o : Origin) → AreCovered texts gs os → slice_get os i ≡ Some o → CoveredAt texts gs i o
covered_at texts [] [] i o all is = absurd (cc)
covered_at texts [] (u ∷ os) i o all is = absurd all
covered_at texts (g ∷ gs) [] i o all is = absurd all
covered_at texts (g ∷ gs) (u ∷ os) zero o all is =
    let same : u ≡ o = cc in
    let P : Origin → Type 0 = λ (v : Origin). IsCovered texts g v.areas in
    record { group = g; is = refl; covered = subst P same all.0 }
covered_at texts (g ∷ gs) (u ∷ os) (suc i) o all is =
    let rest = covered_at texts gs os i o all.1 is in
    record { group = rest.group; is = rest.is; covered = rest.covered }

-- an own byte is in some part
own_in : (texts : List Part) (gs : List (List Part)) (os : List Origin) (i : ℕ) (o : Origin) (x : ℕ) → AreCovered texts gs os → slice_get os i ≡ Some o → is_own o.areas x ≡ true → is_in (texts ++ joined gs) x ≡ true
own_in texts gs os i o x all is own =
    let here = covered_at texts gs os i o all is in
    elim (here.covered.either x own) [
      | inl text ↦ in_front texts (joined gs) x text
      | inr part ↦ in_back texts (joined gs) x (in_joined gs i here.group x here.is part)
    ]

-- a byte that one may write is no other's
origins_apart : (texts : List Part) (gs : List (List Part)) (os : List Origin) (i j : ℕ) (o u : Origin) (x : ℕ) → AreApart (texts ++ joined gs) → AreCovered texts gs os → i ≢ j → slice_get os i ≡ Some o → slice_get os j ≡ Some u → is_own o.areas x ≡ true → allowed u.areas Write x ≡ false
origins_apart texts gs os i j o u x apart all other one two own =
    let here = covered_at texts gs os i o all one in
    let there = covered_at texts gs os j u all two in
    not_when (allowed u.areas Write x) (λ may.
    let written = there.covered.writes x may in
    elim (here.covered.either x own) [
      | inl text ↦ not_both (is_in (joined gs) x) (in_joined gs j there.group x there.is written) (apart_lists texts (joined gs) x apart text)
      | inr part ↦ not_both (is_in there.group x) written (joined_apart gs i j here.group there.group x (apart_back texts (joined gs) apart) other here.is there.is part)
    ])

-- the process at a number has an origin
record MadeAt (os : List Origin) (i : ℕ) (p : Process) : Type 0 where
  pub origin : Origin
  pub is : slice_get os i ≡ Some origin
  pub made : IsMade p origin

made_at : (ps : List Process) (os : List Origin) (i : ℕ) (p : Process) → AreMade ps os → slice_get ps i ≡ Some p → MadeAt os i p
made_at [] os i p all is = absurd (cc)
made_at (q ∷ ps) [] i p all is = absurd all
made_at (q ∷ ps) (o ∷ os) zero p all is =
    let same : q ≡ p = cc in
    let P : Process → Type 0 = λ (r : Process). IsMade r o in
    record { origin = o; is = refl; made = subst P same all.0 }
made_at (q ∷ ps) (o ∷ os) (suc i) p all is =
    let rest = made_at ps os i p all.1 is in
    record { origin = rest.origin; is = rest.is; made = rest.made }

pub made_length : (ps : List Process) (os : List Origin) → AreMade ps os → length ps ≡ length os
made_length [] [] all = refl
made_length [] (o ∷ os) all = absurd all
made_length (p ∷ ps) [] all = absurd all
made_length (p ∷ ps) (o ∷ os) all = ap suc (made_length ps os all.1)

-- what follows of made processes
pub all_fresh : (ps : List Process) (os : List Origin) → AreMade ps os → AreFresh ps
all_fresh ps os all number process is = (made_at ps os number process all is).made.running

pub all_stand : (texts : List Part) (gs : List (List Part)) (ps : List Process) (os : List Origin) (m : Memory) → AreMade ps os → AreCovered texts gs os → HoldsAll m (texts ++ joined gs) → ((i : ℕ) (o : Origin) → slice_get os i ≡ Some o → o.bytes ≡ start_byte (texts ++ joined gs)) → AllStand ps m (λ number. origin_or (slice_get os number)) (λ number. 0)
all_stand texts gs ps os m made all held bytes i p is =
    let at = made_at ps os i p made is in
    let O : Option Origin → Type 0 = λ (o : Option Origin). StandsFor p m (origin_or o) 0 in
    let same = bytes i at.origin at.is in
    let H : (ℕ → ℕ) → Type 0 = λ (b : ℕ → ℕ). HoldsBytes m b at.origin.areas in
    let holds : HoldsBytes m (start_byte (texts ++ joined gs)) at.origin.areas = λ x own. held_byte (texts ++ joined gs) m x held (own_in texts gs os i at.origin x all at.is own) in
    subst O (sym at.is) (at.made.stands m (subst H (sym same) holds))

pub all_lie : (texts : List Part) (gs : List (List Part)) (ps : List Process) (os : List Origin) (m : Memory) → AreMade ps os → AreCovered texts gs os → AreOn m (texts ++ joined gs) → AllLieOn m ps
all_lie texts gs ps os m made all on i p is =
    let at = made_at ps os i p made is in
    let A : List Area → Type 0 = λ (areas : List Area). LieOn m areas in
    let lies : LieOn m at.origin.areas = λ x own. on_byte (texts ++ joined gs) m x on (own_in texts gs os i at.origin x all at.is own) in
    subst A (sym at.made.areas) lies

pub all_apart : (texts : List Part) (gs : List (List Part)) (ps : List Process) (os : List Origin) → AreMade ps os → AreCovered texts gs os → AreApart (texts ++ joined gs) → AreAllApart ps
all_apart texts gs ps os made all apart i j p q x other one two own =
    let here = made_at ps os i p made one in
    let there = made_at ps os j q made two in
    let A : List Area → Type 0 = λ (areas : List Area). is_own areas x ≡ true in
    let B : List Area → Type 0 = λ (areas : List Area). allowed areas Write x ≡ false in
    subst B (sym here.made.areas) (origins_apart texts gs os j i there.origin here.origin x apart all (λ same. other (sym same)) there.is here.is (subst A there.made.areas own))

pub origins_bytes : (modules : List Module) (texts : List (Option ℕ)) (bytes : ℕ → ℕ) (plans : List ProcessPlan) (bounds : List BoundProcess) (seats : List Seat) (i : ℕ) (o : Origin) → slice_get (origins_of modules texts bytes plans bounds seats) i ≡ Some o → o.bytes ≡ bytes
origins_bytes modules texts bytes [] bounds seats i o is = absurd (cc)
origins_bytes modules texts bytes (p ∷ plans) [] seats i o is = absurd (cc)
origins_bytes modules texts bytes (p ∷ plans) (b ∷ bounds) [] i o is = absurd (cc)
origins_bytes modules texts bytes (p ∷ plans) (b ∷ bounds) (s ∷ seats) zero o is =
    let same : process_origin modules texts bytes p b s ≡ o = cc in
    sym (ap (λ (u : Origin). u.bytes) same)
origins_bytes modules texts bytes (p ∷ plans) (b ∷ bounds) (s ∷ seats) (suc i) o is =
    origins_bytes modules texts bytes plans bounds seats i o is

pub origins_length : (modules : List Module) (texts : List (Option ℕ)) (bytes : ℕ → ℕ) (plans : List ProcessPlan) (bounds : List BoundProcess) (seats : List Seat) → length plans ≡ length bounds → length plans ≡ length seats → length (origins_of modules texts bytes plans bounds seats) ≡ length plans
origins_length modules texts bytes [] bounds seats a b = refl
origins_length modules texts bytes (p ∷ plans) [] seats a b = absurd (omega arith)
origins_length modules texts bytes (p ∷ plans) (b ∷ bounds) [] a c = absurd (omega arith)
origins_length modules texts bytes (p ∷ plans) (b ∷ bounds) (s ∷ seats) a c =
    ap suc (origins_length modules texts bytes plans bounds seats (omega arith) (omega arith))
