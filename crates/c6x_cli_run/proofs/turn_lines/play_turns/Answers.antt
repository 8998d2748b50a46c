use Rattle.std.proofs.Common.{◌∙◌, ℕ, List, subst, inl, inr, refl, rules, arith}
use Rattle.c6x_spec.specs.Sinks.{Takes, TakesFront}
use Rattle.c6x_spec.proofs.Puts.{on_err}
use Rattle.c6x_sched.proofs.Plays.{areas_first, areas_next, asked_next, framed_first, framed_next}
use Rattle.c6x_cli_run.proofs.Tells.{line_is, tells_first, tells_next, tells_cut, tells_end}
use Rattle.c6x_cli_run.proofs.turn_lines.play_turns.Goals as goal

pub turns-init : goal.turns-init
turns-init g c = record {
  lie = c.requires.on_board;
  kind = search rules;
  quantum = search rules;
  count = search rules;
  apart = λ a. a;
  areas = areas_first _;
  frame = framed_first _ _;
  asked = inl (refl, refl, refl);
  tells = λ s n apart stand. tells_first _ _ _ _ _ stand;
  kept = search rules;
}

pub turns-preserved : goal.turns-preserved
turns-preserved g c = record {
  lie = c.in-Some.ensures.turned.turned.lie;
  kind = c.in-Some.ensures.turned.chosen.kind ∙ c.turns.invariant.kind;
  quantum = c.in-Some.ensures.turned.turned.quantum ∙ c.turns.invariant.quantum;
  count = c.in-Some.ensures.turned.turned.length ∙ c.turns.invariant.count;
  apart = λ a. c.in-Some.ensures.turned.turned.apart (c.turns.invariant.apart a);
  areas = areas_next _ _ _ c.in-Some.ensures.turned.turned.length c.turns.invariant.areas c.in-Some.ensures.turned.turned.areas;
  frame = framed_next _ _ _ _ _ _ c.in-Some.ensures.turned.turned.within c.turns.invariant.count c.turns.invariant.areas c.in-Some.ensures.turned.turned.frame c.turns.invariant.frame;
  asked = inr (asked_next _ _ _ _ _ _ c.turns.invariant.asked c.in-Some.ensures.turned.some c.in-Some.ensures.turned.chosen.answered);
  tells = λ s n apart stand. tells_next _ _ _ _ _ _ _ _ _ _ _ _ c.turns.invariant.kind c.turns.invariant.quantum c.turns.invariant.count (c.turns.invariant.apart apart) c.in-Some.ensures.turned
      (let P : List ℕ → Type 0 = λ text. Takes text (g.O.Sink.seen c.turns.out).bytes (g.O.Sink.seen c.put_turn.new.out).bytes in
      subst P (line_is c.args.plans.now c.in-Some.turn c.index-plans-turn.result (omega (arith, c.in-Some.ensures.turned.turned.within, c.turns.invariant.count, c.requires.plans))) c.in_ok-put_turn-in-Some.ensures.all)
      (c.turns.invariant.tells s n apart stand);
  kept = search rules;
}

pub returns-in_err-put_turn-in-Some-clause-frame : goal.returns-in_err-put_turn-in-Some-clause-frame
returns-in_err-put_turn-in-Some-clause-frame g c =
    framed_next _ _ _ _ _ _ c.in-Some.ensures.turned.turned.within c.turns.invariant.count c.turns.invariant.areas c.in-Some.ensures.turned.turned.frame c.turns.invariant.frame

pub returns-in_err-put_turn-in-Some-clause-tells : goal.returns-in_err-put_turn-in-Some-clause-tells
returns-in_err-put_turn-in-Some-clause-tells g c s n apart stand = record {
  all = search rules;
  cut = on_err _ (tells_cut _ _ _ _ _ _ _ _ _ _ _ _ c.turns.invariant.kind c.turns.invariant.quantum c.turns.invariant.count (c.turns.invariant.apart apart) c.in-Some.ensures.turned
      (let P : List ℕ → Type 0 = λ text. TakesFront text (g.O.Sink.seen c.turns.out).bytes (g.O.Sink.seen c.put_turn.new.out).bytes in
      subst P (line_is c.args.plans.now c.in-Some.turn c.index-plans-turn.result (omega (arith, c.in-Some.ensures.turned.turned.within, c.turns.invariant.count, c.requires.plans))) c.in_err-put_turn-in-Some.ensures.front)
      (c.turns.invariant.tells s n apart stand));
}

pub returns-in-None-clause-tells : goal.returns-in-None-clause-tells
returns-in-None-clause-tells g c s n apart stand =
    let idle = c.in-None.ensures.idle in
    rw (idle.0, idle.2, idle.3)
    (record {
      all = tells_end _ _ _ _ _ _ _ c.turns.invariant.count c.in-None.ensures.none (c.turns.invariant.tells s n apart stand);
      cut = search rules;
    })
