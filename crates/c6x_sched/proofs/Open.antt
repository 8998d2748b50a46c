-- The list of those that have not ended.
use Rattle.std.proofs.Common.{◌≡◌, ◌≢◌, ℕ, zero, suc, ◌+◌, ◌-◌, ◌<◌, ◌≤◌, List, [], ◌∷◌, length, refl, sym, ◌∙◌, ap, arith, Option, Some, None, Bool, true, false, subst}
use Rattle.std.specs.Prelude.{slice_get, slice_index, slice_index_or, is_none, if◌then◌else◌, ◌==◌}
use Rattle.std.specs.List.{Contains}
use Rattle.c6x_spec.specs.Memory.{Memory}
use Rattle.c6x_machine.specs.Machine.{alone}
use Rattle.c6x_machine.specs.Origin.{Origin}
use Rattle.c6x_machine.specs.declared.end.End.{End}
use Rattle.c6x_exec.specs.Process.{ended_of, StandsFor}
use Rattle.c6x_exec.specs.declared.process.Process.{Process}
use Rattle.c6x_ports.specs.Picks.{IsReady}
use Rattle.c6x_sched.specs.Together.{AllStand}
use Rattle.c6x_sched.specs.Ended.{HasEnded, AllEnded}
use Rattle.c6x_sched.specs.Laws.{IsRunning}
use Rattle.c6x_sched.proofs.At.{Found, found_at}
use Rattle.c6x_sched.specs.Turns.{ready_from, ready_of, open_from}

-- a process of the list, from number i on, that has not ended
pub record IsOpen (i : ℕ) (ps : List Process) (x : ℕ) : Type 0 where
  pub from : i ≤ x
  pub to : x < i + length ps
  pub running : (p : Process) → slice_get ps (x - i) ≡ Some p → ended_of p ≡ None

none_is : {A : Type 0} (o : Option A) → is_none o ≡ true → o ≡ None
none_is None is = refl
none_is (Some x) is = cc

further : (i : ℕ) (p : Process) (ps : List Process) (x : ℕ) → IsOpen (i + 1) ps x → IsOpen i (p ∷ ps) x
further i p ps x k =
    let low : i + 1 ≤ x = k.from in
    let high : x < i + 1 + length ps = k.to in
    let place : x - i ≡ suc (x - (i + 1)) = omega arith in
    record {
      from = omega arith;
      to = omega arith;
      running = λ q is. k.running q (ap (λ (m : ℕ). slice_get (p ∷ ps) m) (sym place) ∙ is);
    }

here : (i : ℕ) (p : Process) (ps : List Process) → ended_of p ≡ None → IsOpen i (p ∷ ps) i
here i p ps running =
    let place : i - i ≡ 0 = omega arith in
    record {
      from = omega arith;
      to = omega arith;
      running = λ q is.
          let same : Some p ≡ Some q = ap (λ (m : ℕ). slice_get (p ∷ ps) m) (sym place) ∙ is in
          let one : p ≡ q = cc in
          ap ended_of (sym one) ∙ running;
    }

open_by : (i : ℕ) (p : Process) (ps : List Process) (is_open : Bool) (k d : ℕ) → is_open ≡ is_none (ended_of p) → ((j : ℕ) → j < length (ready_from (i + 1) ps) → IsOpen (i + 1) ps (slice_index_or (ready_from (i + 1) ps) j d)) → k < length (if is_open then i ∷ ready_from (i + 1) ps else ready_from (i + 1) ps) → IsOpen i (p ∷ ps) (slice_index_or (if is_open then i ∷ ready_from (i + 1) ps else ready_from (i + 1) ps) k d)
open_by i p ps true zero d is rest within = here i p ps (none_is (ended_of p) (sym is))
open_by i p ps true (suc k) d is rest within = further i p ps (slice_index_or (ready_from (i + 1) ps) k d) (rest k (omega arith))
open_by i p ps false k d is rest within = further i p ps (slice_index_or (ready_from (i + 1) ps) k d) (rest k within)

pub opens : (i : ℕ) (ps : List Process) (k d : ℕ) → k < length (ready_from i ps) → IsOpen i ps (slice_index_or (ready_from i ps) k d)
opens i [] k d within = absurd (omega arith)
opens i (p ∷ ps) k d within = open_by i p ps (is_none (ended_of p)) k d refl (λ j below. opens (i + 1) ps j d below) within

ascend_by : (i : ℕ) (ps : List Process) (is_open : Bool) (j k : ℕ) → ((a b : ℕ) → a < b → b < length (ready_from (i + 1) ps) → slice_index (ready_from (i + 1) ps) a < slice_index (ready_from (i + 1) ps) b) → j < k → k < length (if is_open then i ∷ ready_from (i + 1) ps else ready_from (i + 1) ps) → slice_index (if is_open then i ∷ ready_from (i + 1) ps else ready_from (i + 1) ps) j < slice_index (if is_open then i ∷ ready_from (i + 1) ps else ready_from (i + 1) ps) k
ascend_by i ps true zero zero rest less within = absurd (omega arith)
ascend_by i ps true (suc j) zero rest less within = absurd (omega arith)
ascend_by i ps true zero (suc k) rest less within =
    let low : i + 1 ≤ slice_index (ready_from (i + 1) ps) k = (opens (i + 1) ps k 0 (omega arith)).from in
    omega arith
ascend_by i ps true (suc j) (suc k) rest less within = rest j k (omega arith) (omega arith)
ascend_by i ps false j k rest less within = rest j k less within

ascending : (i : ℕ) (ps : List Process) (j k : ℕ) → j < k → k < length (ready_from i ps) → slice_index (ready_from i ps) j < slice_index (ready_from i ps) k
ascending i [] j k less within = absurd (omega arith)
ascending i (p ∷ ps) j k less within = ascend_by i ps (is_none (ended_of p)) j k (λ a b. ascending (i + 1) ps a b) less within

some_ready : (numbers : List ℕ) → numbers ≢ [] → 0 < length numbers
some_ready [] none = absurd (none refl)
some_ready (number ∷ numbers) none = omega arith

-- what is shown to a policy may be shown to it
pub ready_is : (ps : List Process) → ready_of ps ≢ [] → length ps ≤ 65535 → IsReady (ready_of ps)
unfolding ready_of
ready_is ps some few = record {
  some = some_ready (ready_from 0 ps) some;
  below = λ k d within. let to : slice_index_or (ready_from 0 ps) k d < 0 + length ps = (opens 0 ps k d within).to in omega arith;
  ascending = λ j k less within. ascending 0 ps j k less within;
}

pub ready_some : (ps : List Process) → ready_of ps ≢ [] → 0 < length ps
unfolding ready_of
ready_some [] some = absurd (some refl)
ready_some (p ∷ ps) some = omega arith

-- a process that is among the ready ones has not ended
pub ready_open : (ps : List Process) (ready : List ℕ) (x : ℕ) → ready ≡ ready_of ps → Contains ready x → IsOpen 0 ps x
unfolding ready_of
ready_open ps ready x listed among =
    let P : List ℕ → Type 0 = λ all. Contains all x in
    let k : Contains (ready_from 0 ps) x = subst P listed among in
    let Q : ℕ → Type 0 = λ m. IsOpen 0 ps m in
    subst Q k.2 (opens 0 ps k.0 x k.1)

pub runs_at : (ps : List Process) (x : ℕ) → IsOpen 0 ps x → (p : Process) → slice_get ps x ≡ Some p → ended_of p ≡ None
runs_at ps x k p is =
    let same : x - 0 ≡ x = omega arith in
    k.running p (ap (λ (m : ℕ). slice_get ps m) same ∙ is)

pub not_empty : (numbers other : List ℕ) (empty : Bool) → numbers ≡ other → empty ≡ false → empty ≡ (length numbers == 0) → other ≢ []
not_empty numbers [] is_empty same no_it is none = cc
not_empty numbers (x ∷ other) is_empty same no_it is none = cc

pub ready_length : (ps : List Process) → ready_of ps ≢ [] → 0 < length (ready_of ps)
ready_length ps some = some_ready (ready_of ps) some

-- the processes and their machines have not ended together
open_is : (i : ℕ) (ps : List Process) (b : Memory) (s : ℕ → Origin) (n : ℕ → ℕ) → ((k : ℕ) (p : Process) → slice_get ps k ≡ Some p → StandsFor p b (s (i + k)) (n (i + k))) → ready_from i ps ≡ open_from s n i (length ps)
open_is i [] b s n stand = refl
open_is i (p ∷ ps) b s n stand =
    let first : StandsFor p b (s (i + 0)) (n (i + 0)) = stand 0 p refl in
    let place : i + 0 ≡ i = omega arith in
    let here : ended_of p ≡ (alone (s i) (n i)).ended = first.keeps.ended ∙ ap (λ (m : ℕ). (alone (s m) (n m)).ended) place in
    let rest : ready_from (i + 1) ps ≡ open_from s n (i + 1) (length ps) = open_is (i + 1) ps b s n (λ k q is.
    let far : i + suc k ≡ i + 1 + k = omega arith in
    let P : ℕ → Type 0 = λ m. StandsFor q b (s m) (n m) in
    subst P far (stand (suc k) q is)) in
    rw (here, rest) refl

pub all_open : (ps : List Process) (b : Memory) (s : ℕ → Origin) (n : ℕ → ℕ) → AllStand ps b s n → ready_of ps ≡ open_from s n 0 (length ps)
unfolding ready_of
all_open ps b s n stand = open_is 0 ps b s n (λ k p is.
    let place : k ≡ 0 + k = omega arith in
    let P : ℕ → Type 0 = λ m. StandsFor p b (s m) (n m) in
    subst P place (stand k p is))

-- where none is ready, each has ended
ended_by : (p : Process) (found : Option End) → ended_of p ≡ found → is_none found ≡ false → HasEnded p
ended_by p None is open_it = cc
ended_by p (Some end) is open_it = record { end = end; is = is }

none_first : (i : ℕ) (rest : List ℕ) (test : Bool) → (if test then i ∷ rest else rest) ≡ [] → (test ≡ false) × (rest ≡ [])
none_first i rest true is = cc
none_first i rest false is = (refl, is)

none_ready : (i : ℕ) (ps : List Process) → ready_from i ps ≡ [] → (k : ℕ) (p : Process) → slice_get ps k ≡ Some p → HasEnded p
none_ready i [] none k p is = cc
none_ready i (q ∷ ps) none zero p is =
    let one : q ≡ p = cc in
    ended_by p (ended_of p) refl (ap (λ (r : Process). is_none (ended_of r)) (sym one) ∙ (none_first i (ready_from (i + 1) ps) (is_none (ended_of q)) none).0)
none_ready i (q ∷ ps) none (suc k) p is = none_ready (i + 1) ps (none_first i (ready_from (i + 1) ps) (is_none (ended_of q)) none).1 k p is

pub all_ended : (ps : List Process) → ready_of ps ≡ [] → AllEnded ps
unfolding ready_of
all_ended ps none = λ k p is. none_ready 0 ps none k p is

-- the ready numbers are those of the processes that have not ended
behind_first : (i : ℕ) (rest : List ℕ) (test : Bool) (x : ℕ) → Contains rest x → Contains (if test then i ∷ rest else rest) x
behind_first i rest true x k = (suc k.0, omega (arith, k.1), k.2)
behind_first i rest false x k = k

first_listed : (i : ℕ) (rest : List ℕ) (test : Bool) → test ≡ true → Contains (if test then i ∷ rest else rest) i
first_listed i rest true is = (0, omega arith, refl)
first_listed i rest false is = cc

listed_at : (i k : ℕ) (ps : List Process) (p : Process) → slice_get ps k ≡ Some p → ended_of p ≡ None → Contains (ready_from i ps) (i + k)
listed_at i k [] p is running = cc
listed_at i zero (q ∷ ps) p is running =
    let one : p ≡ q = cc in
    let runs : is_none (ended_of q) ≡ true = ap (λ (r : Process). is_none (ended_of r)) (sym one) ∙ ap (λ (o : Option End). is_none o) running in
    let P : ℕ → Type 0 = λ m. Contains (ready_from i (q ∷ ps)) m in
    let here : i ≡ i + 0 = omega arith in
    subst P here (first_listed i (ready_from (i + 1) ps) (is_none (ended_of q)) runs)
listed_at i (suc k) (q ∷ ps) p is running =
    let P : ℕ → Type 0 = λ m. Contains (ready_from (i + 1) ps) m in
    let there : i + 1 + k ≡ i + suc k = omega arith in
    behind_first i (ready_from (i + 1) ps) (is_none (ended_of q)) (i + suc k) (subst P there (listed_at (i + 1) k ps p is running))

pub ready_runs : (ps : List Process) (x : ℕ) → Contains (ready_of ps) x → IsRunning ps x
ready_runs ps x k =
    let runs : IsOpen 0 ps x = ready_open ps (ready_of ps) x refl k in
    let one : Found ps x = found_at ps x (omega (arith, runs.to)) in
    record { process = one.process; is = one.is; running = runs_at ps x runs one.process one.is }

pub runs_ready : (ps : List Process) (x : ℕ) → IsRunning ps x → Contains (ready_of ps) x
unfolding ready_of
runs_ready ps x k =
    let P : ℕ → Type 0 = λ m. Contains (ready_from 0 ps) m in
    let same : 0 + x ≡ x = omega arith in
    subst P same (listed_at 0 x ps k.process k.is k.running)
