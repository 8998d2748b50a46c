-- A turn of one of the processes.
use Rattle.std.proofs.Common.{◌≡◌, ◌≢◌, ℕ, zero, suc, ◌+◌, ◌<◌, ◌≤◌, List, [], ◌∷◌, length, refl, sym, ◌∙◌, ap, subst, arith, Some, true, false, inl, inr, nat_eq, ◌-◌, min}
use Rattle.std.specs.Prelude.{slice_get}
use Rattle.std.proofs.lemmas.Bool.{cases_eq}
use Rattle.std.proofs.lemmas.Bool.Decides.{nat_tests}
use Rattle.c6x_spec.specs.Memory.{Memory}
use Rattle.c6x_access.specs.declared.area.Area.{Area}
use Rattle.c6x_board.specs.Lane.{LieOn}
use Rattle.c6x_exec.specs.Fits.{IsFramed}
use Rattle.c6x_machine.specs.Machine.{alone, life}
use Rattle.c6x_machine.specs.Origin.{Origin}
use Rattle.c6x_exec.specs.Process.{areas_of, ended_of, cycles_of, limit_of, StandsFor}
use Rattle.c6x_exec.specs.declared.process.Process.{Process}
use Rattle.c6x_exec.specs.declared.run.Ran.{Ran}
use Rattle.c6x_exec.proofs.Standing.{stands_elsewhere}
use Rattle.c6x_exec.proofs.Loads.{lie_sized}
use Rattle.c6x_sched.specs.Ran.{HasRunOn, IsTurned}
use Rattle.c6x_sched.proofs.At.{Found, found_at}
use Rattle.c6x_sched.specs.Together.{AllStand, AreApart, AllLieOn}
use Rattle.c6x_ports.specs.Picks.{effective_process, effective_steps}
use Rattle.c6x_ports.specs.declared.pick.Pick.{Pick}
use Rattle.c6x_sched.specs.declared.system.System.{System}
use Rattle.c6x_sched.specs.declared.turn.Turn.{Turn}
use Rattle.c6x_sched.specs.Step.{IsTurnOf}
use Rattle.c6x_sched.specs.System.{processes_of, quantum_of}
use Rattle.c6x_sched.specs.Turns.{ready_of, cycles_left, all_left, moved}

here_moved : (n : ℕ → ℕ) (at cycles i : ℕ) → i ≡ at → n i + cycles ≡ moved n at cycles i
here_moved n at cycles i same = let test : nat_eq i at ≡ true = grind (arith, nat_tests) in rw test refl

there_kept : (n : ℕ → ℕ) (at cycles i : ℕ) → i ≢ at → n i ≡ moved n at cycles i
there_kept n at cycles i other = let test : nat_eq i at ≡ false = grind (arith, nat_tests) in rw test refl

-- the one that ran stands for its cycles, and each other one for what it was
pub all_moved : (ps qs : List Process) (b c : Memory) (at steps : ℕ) (ran : Ran) (s : ℕ → Origin) (n : ℕ → ℕ) → IsTurned ps qs b c at steps ran → AllLieOn b ps → AreApart ps → AllStand ps b s n → AllStand qs c s (moved n at ran.cycles)
all_moved ps qs b c at steps ran s n k lie apart stand = λ i q is.
    let one : Found ps at = found_at ps at k.within in
    elim (cases_eq i at) [
      | inl same ↦
          let then_q : slice_get qs at ≡ Some q = ap (λ (m : ℕ). slice_get qs m) (sym same) ∙ is in
          let P : ℕ → Type 0 = λ m. StandsFor q c (s i) m in
          let Q : ℕ → Type 0 = λ m. StandsFor q c (s m) (n m + ran.cycles) in
          subst P (here_moved n at ran.cycles i same)
          (subst Q (sym same) ((k.run one.process q one.is then_q).stands (s at) (n at) (stand at one.process one.is)))
      | inr other ↦
          let was : slice_get ps i ≡ Some q = sym (k.others i other) ∙ is in
          let P : ℕ → Type 0 = λ m. StandsFor q c (s i) m in
          let new : Found qs at = found_at qs at (omega (arith, k.within, k.length)) in
          let frame : IsFramed (areas_of one.process) b c = (k.run one.process new.process one.is new.is).frame in
          subst P (there_kept n at ran.cycles i other)
          (stands_elsewhere q b c (s i) (n i) (λ x own. frame.others x (lie i q was x own).above (apart at i one.process q x (λ e. other (sym e)) one.is was own)) (stand i q was))
    ]

-- what each was before, with the same areas
pub record Before (ps : List Process) (k : ℕ) (q : Process) : Type 0 where
  pub process : Process
  pub is : slice_get ps k ≡ Some process
  pub areas : areas_of q ≡ areas_of process

before : (ps qs : List Process) (b c : Memory) (at steps : ℕ) (ran : Ran) (i : ℕ) (q : Process) → IsTurned ps qs b c at steps ran → slice_get qs i ≡ Some q → Before ps i q
before ps qs b c at steps ran i q k is =
    let one : Found ps at = found_at ps at k.within in
    elim (cases_eq i at) [
      | inl same ↦ record {
        process = one.process;
        is = ap (λ (m : ℕ). slice_get ps m) same ∙ one.is;
        areas = (k.run one.process q one.is (ap (λ (m : ℕ). slice_get qs m) (sym same) ∙ is)).areas;
      }
      | inr other ↦ record { process = q; is = sym (k.others i other) ∙ is; areas = refl }
    ]

pub still_apart : (ps qs : List Process) (b c : Memory) (at steps : ℕ) (ran : Ran) → IsTurned ps qs b c at steps ran → AreApart ps → AreApart qs
still_apart ps qs b c at steps ran k apart = λ i j p q x other is_p is_q own.
    let old_p : Before ps i p = before ps qs b c at steps ran i p k is_p in
    let old_q : Before ps j q = before ps qs b c at steps ran j q k is_q in
    rw old_p.areas (apart i j old_p.process old_q.process x other old_p.is old_q.is (rw old_q.areas at own))

pub still_lie : (ps qs : List Process) (b c : Memory) (at steps : ℕ) (ran : Ran) → IsTurned ps qs b c at steps ran → AllLieOn b ps → AllLieOn c qs
still_lie ps qs b c at steps ran k lie = λ i q is.
    let one : Found ps at = found_at ps at k.within in
    let new : Found qs at = found_at qs at (omega (arith, k.within, k.length)) in
    let frame : IsFramed (areas_of one.process) b c = (k.run one.process new.process one.is new.is).frame in
    let old : Before ps i q = before ps qs b c at steps ran i q k is in
    let P : List Area → Type 0 = λ areas. LieOn c areas in
    subst P (sym old.areas) (lie_sized b c (areas_of old.process) (record { base = frame.base; size = frame.size }) (lie i old.process old.is))

-- what the one that ran has become
pub record HasBecome (p : Process) (qs : List Process) (b c : Memory) (at steps : ℕ) (ran : Ran) : Type 0 where
  pub process : Process
  pub is : slice_get qs at ≡ Some process
  pub run : HasRunOn p process b c steps ran

pub turn_run : (ps qs : List Process) (b c : Memory) (at steps : ℕ) (ran : Ran) (p : Process) → IsTurned ps qs b c at steps ran → slice_get ps at ≡ Some p → HasBecome p qs b c at steps ran
turn_run ps qs b c at steps ran p k is =
    let new : Found qs at = found_at qs at (omega (arith, k.within, k.length)) in
    record { process = new.process; is = new.is; run = k.run p new.process is new.is }

pub turn_counts : (ps qs : List Process) (b c : Memory) (at steps : ℕ) (ran : Ran) (s : ℕ → Origin) (n : ℕ → ℕ) → IsTurned ps qs b c at steps ran → AllStand ps b s n → ran.cycles ≡ min steps (life (s at) - n at)
turn_counts ps qs b c at steps ran s n k stand =
    let one : Found ps at = found_at ps at k.within in
    (turn_run ps qs b c at steps ran one.process k one.is).run.count (s at) (n at) (stand at one.process one.is)

pub turn_framed : (ps qs : List Process) (b c : Memory) (at steps : ℕ) (ran : Ran) → IsTurned ps qs b c at steps ran → (p : Process) → slice_get ps at ≡ Some p → IsFramed (areas_of p) b c
turn_framed ps qs b c at steps ran k p is = (turn_run ps qs b c at steps ran p k is).run.frame

pub turn_some : (ps qs : List Process) (b c : Memory) (at steps : ℕ) (ran : Ran) → IsTurned ps qs b c at steps ran → 1 ≤ ran.cycles
turn_some ps qs b c at steps ran k =
    let one : Found ps at = found_at ps at k.within in
    (turn_run ps qs b c at steps ran one.process k one.is).run.some

sums_same : (ps qs : List Process) → length qs ≡ length ps → ((k : ℕ) → slice_get qs k ≡ slice_get ps k) → all_left qs ≡ all_left ps
sums_same [] [] len same = refl
sums_same [] (q ∷ qs) len same = absurd (omega arith)
sums_same (p ∷ ps) [] len same = absurd (omega arith)
sums_same (p ∷ ps) (q ∷ qs) len same =
    let first : Some q ≡ Some p = same 0 in
    let one : q ≡ p = cc in
    rw (one, sums_same ps qs (omega arith) (λ k. same (suc k))) refl

sums_less : (ps qs : List Process) (at done : ℕ) → length qs ≡ length ps → at < length ps → ((k : ℕ) → k ≢ at → slice_get qs k ≡ slice_get ps k) → ((p q : Process) → slice_get ps at ≡ Some p → slice_get qs at ≡ Some q → cycles_left q + done ≡ cycles_left p) → all_left qs + done ≡ all_left ps
sums_less [] qs at done len within others here = absurd (omega arith)
sums_less (p ∷ ps) [] at done len within others here = absurd (omega arith)
sums_less (p ∷ ps) (q ∷ qs) zero done len within others here =
    let rest : all_left qs ≡ all_left ps = sums_same ps qs (omega arith) (λ k. others (suc k) (λ e. absurd (omega arith))) in
    let first : cycles_left q + done ≡ cycles_left p = here p q refl refl in
    rw rest (omega arith)
sums_less (p ∷ ps) (q ∷ qs) (suc at) done len within others here =
    let first : Some q ≡ Some p = others 0 (λ e. absurd (omega arith)) in
    let one : q ≡ p = cc in
    let rest : all_left qs + done ≡ all_left ps = sums_less ps qs at done (omega arith) (omega arith) (λ k apart. others (suc k) (λ e. apart (omega arith))) here in
    rw one (omega arith)

ran_less : (p q : Process) (b c : Memory) (steps : ℕ) (ran : Ran) → HasRunOn p q b c steps ran → cycles_left q + ran.cycles ≡ cycles_left p
ran_less p q b c steps ran k =
    let within : cycles_of q ≤ limit_of q = q.sound.cycles in
    let done : cycles_of q ≡ cycles_of p + ran.cycles = k.cycles in
    let limit : limit_of q ≡ limit_of p = k.limit in
    omega arith

pub turn_less : (ps qs : List Process) (b c : Memory) (at steps : ℕ) (ran : Ran) → IsTurned ps qs b c at steps ran → all_left qs + ran.cycles ≡ all_left ps
turn_less ps qs b c at steps ran k = sums_less ps qs at ran.cycles k.length k.within k.others (λ p q is_p is_q. ran_less p q b c steps ran (k.run p q is_p is_q))

-- the end that is told is the one of the process, and of its machine
pub turn_ended : (ps qs : List Process) (b c : Memory) (at steps : ℕ) (ran : Ran) → IsTurned ps qs b c at steps ran → (q : Process) → slice_get qs at ≡ Some q → ran.end ≡ ended_of q
turn_ended ps qs b c at steps ran k q is =
    let one : Found ps at = found_at ps at k.within in
    (k.run one.process q one.is is).ended

pub turn_told : (ps qs : List Process) (b c : Memory) (at steps : ℕ) (ran : Ran) (s : ℕ → Origin) (n : ℕ → ℕ) → IsTurned ps qs b c at steps ran → AllStand ps b s n → ran.end ≡ (alone (s at) (n at + ran.cycles)).ended
turn_told ps qs b c at steps ran s n k stand =
    let one : Found ps at = found_at ps at k.within in
    let new : HasBecome one.process qs b c at steps ran = turn_run ps qs b c at steps ran one.process k one.is in
    new.run.ended ∙ (new.run.stands (s at) (n at) (stand at one.process one.is)).keeps.ended

-- no process gets other areas
pub same_areas : (ps qs : List Process) (b c : Memory) (at steps : ℕ) (ran : Ran) → IsTurned ps qs b c at steps ran → (i : ℕ) (p q : Process) → slice_get ps i ≡ Some p → slice_get qs i ≡ Some q → areas_of q ≡ areas_of p
same_areas ps qs b c at steps ran k i p q is_p is_q =
    let old : Before ps i q = before ps qs b c at steps ran i q k is_q in
    let first : Some old.process ≡ Some p = sym old.is ∙ is_p in
    let one : old.process ≡ p = cc in
    old.areas ∙ ap areas_of one

-- all that a turn of the effective process is
pub turn_of : (old new : System) (b c : Memory) (pick : Pick) (turn : Turn) → turn.process ≡ effective_process (length (processes_of old)) (ready_of (processes_of old)) pick → IsTurned (processes_of old) (processes_of new) b c turn.process (effective_steps (quantum_of old) pick) (record { cycles = turn.cycles; end = turn.end }) → quantum_of new ≡ quantum_of old → AllLieOn b (processes_of old) → IsTurnOf old new b c pick turn
turn_of old new b c pick turn picked k quantum lie =
    let ran : Ran = record { cycles = turn.cycles; end = turn.end } in
    let ps : List Process = processes_of old in
    let qs : List Process = processes_of new in
    let at : ℕ = turn.process in
    let steps : ℕ = effective_steps (quantum_of old) pick in
    record {
      picked = picked;
      others = k.others;
      stands = λ s n apart stand. all_moved ps qs b c at steps ran s n k lie apart stand;
      count = λ s n stand. turn_counts ps qs b c at steps ran s n k stand;
      ended = λ q is. turn_ended ps qs b c at steps ran k q is;
      told = λ s n stand. turn_told ps qs b c at steps ran s n k stand;
      frame = λ p is. turn_framed ps qs b c at steps ran k p is;
      areas = λ i p q is_p is_q. same_areas ps qs b c at steps ran k i p q is_p is_q;
      apart = λ apart. still_apart ps qs b c at steps ran k apart;
      lie = still_lie ps qs b c at steps ran k lie;
      within = k.within;
      length = k.length;
      quantum = quantum;
      some = turn_some ps qs b c at steps ran k;
      less = turn_less ps qs b c at steps ran k;
    }
