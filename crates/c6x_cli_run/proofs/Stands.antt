-- A board that all stand for is the one by its addresses.
use Rattle.std.proofs.Common.{◌≡◌, ◌∙◌, ◌<◌, ◌≤◌, ◌+◌, ◌-◌, ℕ, zero, suc, List, length, get_or, refl, sym, ap, arith, Bool, true, false}
use Rattle.std.specs.Prelude.{Option, None, Some, slice_index, if◌then◌else◌}
use Rattle.std.proofs.lemmas.List.FromFn.{fill_by_all}
use Rattle.std.proofs.lemmas.Option.{slice_get_within}
use Rattle.c6x_spec.specs.Memory.{Memory, byte_in}
use Rattle.c6x_access.specs.Rights.{is_own, allowed}
use Rattle.c6x_access.specs.declared.area.Area.{Area}
use Rattle.c6x_access.specs.declared.right.Right.TheVariants.{Write}
use Rattle.c6x_access.proofs.Bytes.{allowed_own}
use Rattle.c6x_machine.specs.History.{byte_at}
use Rattle.c6x_machine.specs.Machine.{alone}
use Rattle.c6x_machine.specs.Origin.{Origin}
use Rattle.c6x_exec.specs.Process.{areas_of, StandsFor}
use Rattle.c6x_exec.specs.declared.process.Process.{Process}
use Rattle.c6x_sched.specs.Together.{AllStand, AreFramed}
use Rattle.c6x_sched.proofs.At.{Found, found_at}
use Rattle.c6x_cli_run.specs.TurnBoards.{owner_from, byte_of, boards_at}

pub record Owned (s : ℕ → Origin) (i left x j : ℕ) : Type 0 where
  pub own : is_own (s j).areas x ≡ true
  pub below : j < i + left

owned_if : (s : ℕ → Origin) (i left x j : ℕ) (test : Bool) → is_own (s i).areas x ≡ test → (owner_from s (i + 1) left x ≡ Some j → Owned s (i + 1) left x j) → (if test then Some i else owner_from s (i + 1) left x) ≡ Some j → Owned s i (suc left) x j
owned_if s i left x j true own rest is =
    let same : i ≡ j = cc in
    record { own = rw (← same) own; below = omega (arith, same) }
owned_if s i left x j false own rest is = let k : Owned s (i + 1) left x j = rest is in record { own = k.own; below = omega (arith, k.below) }

owned : (s : ℕ → Origin) (i left x j : ℕ) → owner_from s i left x ≡ Some j → Owned s i left x j
owned s i zero x j is = cc
owned s i (suc left) x j is = owned_if s i left x j (is_own (s i).areas x) refl (λ more. owned s (i + 1) left x j more) is

by_owner : (s : ℕ → Origin) (n : ℕ → ℕ) (x was at : ℕ) (o : Option ℕ) → ((j : ℕ) → o ≡ Some j → at ≡ byte_at (s j).bytes (alone (s j) (n j)).history (n j) x) → (o ≡ None → at ≡ was) → at ≡ byte_of s n x was o
by_owner s n x was at None own other = other refl
by_owner s n x was at (Some j) own other = own j refl

same_memory : (m n : Memory) → m.base ≡ n.base → m.bytes ≡ n.bytes → m ≡ n
same_memory m n base bytes = rw (base, bytes) refl

pub board_stands : (ps : List Process) (s : ℕ → Origin) (n : ℕ → ℕ) (before after : Memory) → AllStand ps after s n → after.base ≡ before.base → length after.bytes ≡ length before.bytes → ((x : ℕ) → before.base ≤ x → owner_from s 0 (length ps) x ≡ None → byte_in after x ≡ byte_in before x) → after ≡ boards_at s n (length ps) before
unfolding boards_at
board_stands ps s n before after stand base size others =
    same_memory after (boards_at s n (length ps) before) base
    (fill_by_all (λ place. byte_of s n (before.base + place) (slice_index before.bytes place) (owner_from s 0 (length ps) (before.base + place))) after.bytes (length before.bytes) 0 size (λ k inside.
    let here : k ≡ before.base + k - after.base = omega (arith, base) in
    let there : before.base + k - before.base ≡ k = omega arith in
    by_owner s n (before.base + k) (slice_index before.bytes k) (get_or after.bytes k 0) (owner_from s 0 (length ps) (before.base + k))
    (λ j is.
    let o : Owned s 0 (length ps) (before.base + k) j = owned s 0 (length ps) (before.base + k) j is in
    let one : Found ps j = found_at ps j (omega (arith, o.below)) in
    let k_of : StandsFor one.process after (s j) (n j) = stand j one.process one.is in
    ap (λ i. slice_index after.bytes i) here ∙ k_of.keeps.tracks.bytes (n j) (before.base + k) o.own (omega (arith, k_of.lives)))
    (λ none. ap (λ i. slice_index after.bytes i) here ∙ others (before.base + k) (omega arith) none ∙ ap (λ i. slice_index before.bytes i) there)))

-- a byte of no owner may be written by none
no_write_by : (areas : List Area) (x : ℕ) (test : Bool) → allowed areas Write x ≡ test → is_own areas x ≡ false → test ≡ false
no_write_by areas x true is none = let own : is_own areas x ≡ true = allowed_own areas Write x is in cc
no_write_by areas x false is none = refl

unowned_if : (i k : ℕ) (test : Bool) (rest : Option ℕ) → (if test then Some i else rest) ≡ None → (test ≡ false) × (rest ≡ None)
unowned_if i k true rest is = cc
unowned_if i k false rest is = (refl, is)

unowned : (s : ℕ → Origin) (i left x k : ℕ) → owner_from s i left x ≡ None → k < left → is_own (s (i + k)).areas x ≡ false
unowned s i zero x k is within = absurd (omega (arith, within))
unowned s i (suc left) x zero is within =
    let here : i ≡ i + 0 = omega arith in
    ap (λ (m : ℕ). is_own (s m).areas x) (sym here) ∙ (unowned_if i 0 (is_own (s i).areas x) (owner_from s (i + 1) left x) is).0
unowned s i (suc left) x (suc k) is within =
    let there : i + suc k ≡ i + 1 + k = omega arith in
    ap (λ (m : ℕ). is_own (s m).areas x) there
    ∙ unowned s (i + 1) left x k (unowned_if i 0 (is_own (s i).areas x) (owner_from s (i + 1) left x) is).1 (omega (arith, within))

pub board_of_all : (ps : List Process) (s : ℕ → Origin) (n : ℕ → ℕ) (before after : Memory) → AllStand ps after s n → AreFramed ps before after → after ≡ boards_at s n (length ps) before
board_of_all ps s n before after stand k =
    board_stands ps s n before after stand k.base k.size (λ x above none.
    k.others x above (λ i p is.
    let within : i < length ps = slice_get_within ps i p is in
    let own : is_own (s (0 + i)).areas x ≡ false = unowned s 0 (length ps) x i none within in
    let same : 0 + i ≡ i = omega arith in
    let areas : is_own (areas_of p) x ≡ false = ap (λ (all : List Area). is_own all x) (stand i p is).areas ∙ ap (λ (m : ℕ). is_own (s m).areas x) (sym same) ∙ own in
    no_write_by (areas_of p) x (allowed (areas_of p) Write x) refl areas))
