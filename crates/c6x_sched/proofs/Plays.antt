-- Turns play on.
use Rattle.std.proofs.Common.{◌≡◌, ◌≢◌, ◌∙◌, ◌<◌, ℕ, List, [], ◌∷◌, length, refl, sym, ap, subst, arith, min, ◌-◌, Some, ◌⊎◌, inl, inr}
use Rattle.std.specs.Prelude.{IsTrue, slice_get}
use Rattle.std.proofs.lemmas.Option.{slice_get_within}
use Rattle.c6x_spec.specs.Files.{Rose}
use Rattle.c6x_spec.specs.Memory.{Memory}
use Rattle.c6x_access.specs.Rights.{allowed}
use Rattle.c6x_access.specs.declared.right.Right.TheVariants.{Write}
use Rattle.c6x_machine.specs.Machine.{life}
use Rattle.c6x_exec.specs.Fits.{IsFramed}
use Rattle.c6x_exec.specs.Process.{areas_of, StandsFor}
use Rattle.c6x_exec.specs.declared.process.Process.{Process}
use Rattle.c6x_exec.proofs.Standing.{life_done, stands_within, has_run}
use Rattle.c6x_ports.specs.Chooser.{Chooser}
use Rattle.c6x_ports.specs.Picks.{is_named, pick_of, effective_process, effective_steps}
use Rattle.c6x_ports.specs.declared.kind.Kind.{Kind}
use Rattle.c6x_ports.specs.declared.pick.Pick.{Pick}
use Rattle.c6x_sched.specs.Together.{AllStand, AreApart, AreFramed}
use Rattle.c6x_sched.specs.declared.system.System.{System}
use Rattle.c6x_sched.specs.declared.turn.Turn.{Turn}
use Rattle.c6x_sched.specs.Ended.{HasEnded, AllHaveLived}
use Rattle.c6x_sched.specs.Play.{Game, Played, IsNext, PlaysOn, HasPlayed, counts_of, open_of, state_of}
use Rattle.c6x_sched.specs.Step.{HasStepped}
use Rattle.c6x_sched.specs.System.{processes_of, quantum_of}
use Rattle.c6x_sched.specs.Turns.{ready_of, open_from}
use Rattle.c6x_sched.proofs.At.{Found, found_at}
use Rattle.c6x_sched.proofs.Open.{all_ended, all_open}

abbrev pub told : Turn → Played
told turn = record { process = turn.process; cycles = turn.cycles }

pub plays_first : (g : Game) (ps : List Process) (b : Memory) → AllStand ps b g.starts g.first → PlaysOn g ps b g.state
plays_first g ps b stand = record { play = []; is = tt; stand = stand; left = λ named. refl }

-- those that the code has as ready are those of the play
pub open_is : (g : Game) (ps : List Process) (b : Memory) (play : List Played) → length ps ≡ g.count → AllStand ps b g.starts (counts_of g play) → ready_of ps ≡ open_of g play
open_is g ps b play count stand = all_open ps b g.starts (counts_of g play) stand ∙ ap (λ (m : ℕ). open_from g.starts (counts_of g play) 0 m) count

-- a step is the turn that may come next
pub next_is : (g : Game) (old new : System) (b c : Memory) (before after : Chooser) (turn : Turn) (play : List Played) → before.kind ≡ g.kind → quantum_of old ≡ g.quantum → length (processes_of old) ≡ g.count → AllStand (processes_of old) b g.starts (counts_of g play) → (IsTrue (is_named g.kind) → before.state ≡ state_of g play) → HasStepped old new b c before after turn → IsNext g play (told turn)
next_is g old new b c before after turn play kind quantum count stand same step =
    let opens : ready_of (processes_of old) ≡ open_of g play = open_is g (processes_of old) b play count stand in
    let N : Kind → Type 0 = λ one. IsTrue (is_named one) in
    record {
      pick = step.pick;
      some = subst (λ (xs : List ℕ). 0 < length xs) opens step.some;
      done = step.turned.some;
      process = step.turned.picked ∙ ap (λ (m : ℕ). effective_process m (ready_of (processes_of old)) step.pick) count ∙ ap (λ (xs : List ℕ). effective_process g.count xs step.pick) opens;
      cycles = step.turned.count g.starts (counts_of g play) stand ∙ ap (λ (m : ℕ). min (effective_steps m step.pick) (life (g.starts turn.process) - counts_of g play turn.process)) quantum;
      named = λ is.
          sym (ap (λ (p : Pick × List ℕ). p.0) (step.chosen.named (subst N (sym kind) is)))
          ∙ ap (λ (one : Kind). (pick_of one before.state (ready_of (processes_of old))).0) kind
          ∙ ap (λ (xs : List ℕ). (pick_of g.kind xs (ready_of (processes_of old))).0) (same is)
          ∙ ap (λ (xs : List ℕ). (pick_of g.kind (state_of g play) xs).0) opens;
    }

pub state_is : (g : Game) (old new : System) (b c : Memory) (before after : Chooser) (turn : Turn) (play : List Played) → before.kind ≡ g.kind → length (processes_of old) ≡ g.count → AllStand (processes_of old) b g.starts (counts_of g play) → (IsTrue (is_named g.kind) → before.state ≡ state_of g play) → HasStepped old new b c before after turn → IsTrue (is_named g.kind) → after.state ≡ state_of g (told turn ∷ play)
state_is g old new b c before after turn play kind count stand same step is =
    let opens : ready_of (processes_of old) ≡ open_of g play = open_is g (processes_of old) b play count stand in
    let N : Kind → Type 0 = λ one. IsTrue (is_named one) in
    sym (ap (λ (p : Pick × List ℕ). p.1) (step.chosen.named (subst N (sym kind) is)))
    ∙ ap (λ (one : Kind). (pick_of one before.state (ready_of (processes_of old))).1) kind
    ∙ ap (λ (xs : List ℕ). (pick_of g.kind xs (ready_of (processes_of old))).1) (same is)
    ∙ ap (λ (xs : List ℕ). (pick_of g.kind (state_of g play) xs).1) opens

pub plays_next : (g : Game) (old new : System) (b c : Memory) (before after : Chooser) (turn : Turn) → before.kind ≡ g.kind → quantum_of old ≡ g.quantum → length (processes_of old) ≡ g.count → AreApart (processes_of old) → HasStepped old new b c before after turn → PlaysOn g (processes_of old) b before.state → PlaysOn g (processes_of new) c after.state
plays_next g old new b c before after turn kind quantum count apart step k = record {
  play = told turn ∷ k.play;
  is = (k.is, next_is g old new b c before after turn k.play kind quantum count k.stand k.left step);
  stand = step.turned.stands g.starts (counts_of g k.play) apart k.stand;
  left = state_is g old new b c before after turn k.play kind count k.stand k.left step;
}

-- where none is ready, all was played, and each process stands for its life
pub plays_end : (g : Game) (ps : List Process) (b : Memory) (state : List ℕ) → length ps ≡ g.count → ready_of ps ≡ [] → PlaysOn g ps b state → HasPlayed g ps b state
plays_end g ps b state count none k = record { on = k; over = sym (open_is g ps b k.play count k.stand) ∙ none }

pub lives_end : (g : Game) (ps : List Process) (b : Memory) (state : List ℕ) → ready_of ps ≡ [] → PlaysOn g ps b state → AllStand ps b g.starts (λ i. life (g.starts i))
lives_end g ps b state none k = λ i p is.
    let over : HasEnded p = all_ended ps none i p is in
    let lived : life (g.starts i) ≡ counts_of g k.play i = life_done p b (g.starts i) (counts_of g k.play i) over.end (k.stand i p is) p.sound over.is in
    let P : ℕ → Type 0 = λ m. StandsFor p b (g.starts i) m in
    subst P (sym lived) (k.stand i p is)

-- the bytes that no process may write stay over a further turn
pub framed_next : (first ps : List Process) (at : ℕ) (a b c : Memory) → at < length ps → length ps ≡ length first → ((k : ℕ) (p q : Process) → slice_get first k ≡ Some p → slice_get ps k ≡ Some q → areas_of q ≡ areas_of p) → ((p : Process) → slice_get ps at ≡ Some p → IsFramed (areas_of p) b c) → AreFramed first a b → AreFramed first a c
framed_next first ps at a b c within count areas frame k =
    let now : Found ps at = found_at ps at within in
    let was : Found first at = found_at first at (omega (arith, within, count)) in
    let same : areas_of now.process ≡ areas_of was.process = areas at was.process now.process was.is now.is in
    let one : IsFramed (areas_of now.process) b c = frame now.process now.is in
    record {
      base = one.base ∙ k.base;
      size = one.size ∙ k.size;
      others = λ x above none.
          one.others x (omega (arith, above, k.base)) (ap (λ areas. allowed areas Write x) same ∙ none at was.process was.is)
          ∙ k.others x above none;
    }

pub framed_first : (ps : List Process) (a : Memory) → AreFramed ps a a
framed_first ps a = record { base = refl; size = refl; others = λ x above none. refl }

-- whether a policy was asked so far: the ready processes are those of the first moment, and nothing was asked; or some
-- were ready then, and it was asked
abbrev pub IsAsked : List ℕ → List ℕ → ℕ → ℕ → Type 0 → Type 0
IsAsked first now was amid Same = ((first ≡ now) × (amid ≡ was) × Same) ⊎ ((0 < length first) × Rose was amid)

rose_on : (a b c : ℕ) → Rose a b → Rose b c → Rose a c
rose_on a b c k l = omega (arith, k, l)

pub asked_next : (first now : List ℕ) (was amid after : ℕ) (Same : Type 0) → IsAsked first now was amid Same → 0 < length now → Rose amid after → (0 < length first) × Rose was after
asked_next first now was amid after Same k some rose = elim k [
  | inl i ↦ (subst (λ (xs : List ℕ). 0 < length xs) (sym i.0) some, subst (λ (m : ℕ). Rose m after) i.1 rose)
  | inr r ↦ (r.0, rose_on was amid after r.1 rose)
]

pub asked_end : (first now : List ℕ) (was amid : ℕ) (Same : Type 0) → IsAsked first now was amid Same → now ≡ [] → first ≢ [] → Rose was amid
asked_end first now was amid Same k none some = elim k [ inl i ↦ absurd (some (i.0 ∙ none)) | inr r ↦ r.1 ]

nothing_in : (xs : List ℕ) → xs ≡ [] → 0 < length xs → ⊥
nothing_in [] is some = omega (arith, some)
nothing_in (x ∷ xs) is some = cc

pub asked_never : (first now : List ℕ) (was amid : ℕ) (Same : Type 0) → IsAsked first now was amid Same → first ≡ [] → Same
asked_never first now was amid Same k none = elim k [ inl i ↦ i.2 | inr r ↦ absurd (nothing_in first none r.0) ]

-- no process gets other areas over a further turn
pub areas_next : (first ps qs : List Process) → length qs ≡ length ps → ((k : ℕ) (p q : Process) → slice_get first k ≡ Some p → slice_get ps k ≡ Some q → areas_of q ≡ areas_of p) → ((k : ℕ) (p q : Process) → slice_get ps k ≡ Some p → slice_get qs k ≡ Some q → areas_of q ≡ areas_of p) → (k : ℕ) (p q : Process) → slice_get first k ≡ Some p → slice_get qs k ≡ Some q → areas_of q ≡ areas_of p
areas_next first ps qs count one more = λ k p q is_p is_q.
    let within : k < length qs = slice_get_within qs k q is_q in
    let amid : Found ps k = found_at ps k (omega (arith, within, count)) in
    more k amid.process q amid.is is_q ∙ one k p amid.process is_p amid.is

-- each has lived its life, with the end of its machine alone
pub lived_end : (g : Game) (ps : List Process) (b : Memory) (state : List ℕ) → ready_of ps ≡ [] → PlaysOn g ps b state → AllHaveLived ps b g.starts
lived_end g ps b state none k = λ i p is.
    let over : HasEnded p = all_ended ps none i p is in
    let stand : StandsFor p b (g.starts i) (counts_of g k.play i) = k.stand i p is in
    record {
      ended = over;
      ran = has_run p b (g.starts i) (counts_of g k.play i) over.end stand (stands_within p b (g.starts i) (counts_of g k.play i) stand p.sound) over.is;
    }

pub areas_first : (ps : List Process) (k : ℕ) (p q : Process) → slice_get ps k ≡ Some p → slice_get ps k ≡ Some q → areas_of q ≡ areas_of p
areas_first ps k p q is_p is_q =
    let both : Some q ≡ Some p = sym is_q ∙ is_p in
    let one : q ≡ p = cc in
    ap areas_of one
