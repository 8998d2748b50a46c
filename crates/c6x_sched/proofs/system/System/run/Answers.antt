use Rattle.std.proofs.Common.{◌∙◌, List, sym, subst, inr}
use Rattle.c6x_spec.specs.Memory.{Memory}
use Rattle.c6x_machine.specs.Machine.{life}
use Rattle.c6x_exec.specs.declared.process.Process.{Process}
use Rattle.c6x_sched.specs.Together.{AllStand}
use Rattle.c6x_sched.specs.Ended.{AllEnded, AllHaveLived}
use Rattle.c6x_sched.specs.System.{processes_of}
use Rattle.c6x_sched.proofs.Open.{all_ended}
use Rattle.c6x_sched.proofs.Plays.{plays_next, plays_end, lives_end, lived_end, areas_next, framed_next, asked_next}
use Rattle.c6x_sched.proofs.system.System.run.Goals as goal

pub turns-preserved : goal.turns-preserved
turns-preserved g c = record {
  lie = c.in-Some.ensures.turned.turned.lie;
  kind = c.in-Some.ensures.turned.chosen.kind ∙ c.turns.invariant.kind;
  quantum = c.in-Some.ensures.turned.turned.quantum ∙ c.turns.invariant.quantum;
  count = c.in-Some.ensures.turned.turned.length ∙ c.turns.invariant.count;
  apart = λ a. c.in-Some.ensures.turned.turned.apart (c.turns.invariant.apart a);
  areas = areas_next _ _ _ c.in-Some.ensures.turned.turned.length c.turns.invariant.areas c.in-Some.ensures.turned.turned.areas;
  frame = framed_next _ _ _ _ _ _ c.in-Some.ensures.turned.turned.within c.turns.invariant.count c.turns.invariant.areas c.in-Some.ensures.turned.turned.frame c.turns.invariant.frame;
  asked = inr (asked_next _ _ _ _ _ _ c.turns.invariant.asked c.in-Some.ensures.turned.some c.in-Some.ensures.turned.chosen.answered);
  plays = λ s n apart stand. plays_next _ _ _ _ _ _ _ _ c.turns.invariant.kind c.turns.invariant.quantum c.turns.invariant.count (c.turns.invariant.apart apart) c.in-Some.ensures.turned (c.turns.invariant.plays s n apart stand);
}

pub returns-in-None-clause-lives : goal.returns-in-None-clause-lives
returns-in-None-clause-lives g c s n apart stand =
    let idle = c.in-None.ensures.idle in
    let P : List Process → Type 0 = λ ps. AllStand ps c.step.new.board s (λ i. life (s i)) in
    let Q : Memory → Type 0 = λ b. AllStand (processes_of c.turns.self) b s (λ i. life (s i)) in
    subst P (sym idle.0)
    (subst Q (sym idle.2) (lives_end _ _ _ _ c.in-None.ensures.none (c.turns.invariant.plays s n apart stand)))

pub returns-in-None-clause-played : goal.returns-in-None-clause-played
returns-in-None-clause-played g c s n apart stand =
    let idle = c.in-None.ensures.idle in
    rw (idle.0, idle.2, idle.3)
    (plays_end _ _ _ _ c.turns.invariant.count c.in-None.ensures.none (c.turns.invariant.plays s n apart stand))

pub returns-in-None-clause-ended : goal.returns-in-None-clause-ended
returns-in-None-clause-ended g c =
    let P : List Process → Type 0 = λ ps. AllEnded ps in
    subst P (sym c.in-None.ensures.idle.0) (all_ended _ c.in-None.ensures.none)

pub returns-in-None-clause-ran : goal.returns-in-None-clause-ran
returns-in-None-clause-ran g c s n apart stand =
    let idle = c.in-None.ensures.idle in
    let P : List Process → Type 0 = λ ps. AllHaveLived ps c.step.new.board s in
    let Q : Memory → Type 0 = λ b. AllHaveLived (processes_of c.turns.self) b s in
    subst P (sym idle.0)
    (subst Q (sym idle.2) (lived_end _ _ _ _ c.in-None.ensures.none (c.turns.invariant.plays s n apart stand)))
