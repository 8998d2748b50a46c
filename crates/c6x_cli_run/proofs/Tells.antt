-- Turns and their lines.
use Rattle.std.proofs.Common.{◌≡◌, ◌∙◌, ◌<◌, ℕ, zero, suc, arith, List, [], ◌∷◌, length, refl, sym, ap, append-nil}
use Rattle.std.specs.Prelude.{Option, None, Some, slice_index_or}
use Rattle.c6x_spec.specs.Memory.{Memory}
use Rattle.c6x_spec.specs.Sinks.{Takes, TakesFront}
use Rattle.c6x_spec.proofs.Puts.{takes_then}
use Rattle.c6x_exec.specs.declared.process.Process.{Process}
use Rattle.c6x_plan.specs.declared.process_plan.ProcessPlan.{ProcessPlan}
use Rattle.c6x_ports.specs.Chooser.{Chooser}
use Rattle.c6x_sched.specs.Together.{AllStand, AreApart}
use Rattle.c6x_sched.specs.declared.system.System.{System}
use Rattle.c6x_sched.specs.declared.turn.Turn.{Turn}
use Rattle.c6x_sched.specs.Play.{Game, counts_of}
use Rattle.c6x_sched.specs.Step.{HasStepped}
use Rattle.c6x_sched.specs.System.{processes_of, quantum_of}
use Rattle.c6x_sched.specs.Turns.{ready_of}
use Rattle.c6x_sched.proofs.Plays.{told, open_is, next_is, state_is}
use Rattle.c6x_cli_run.specs.Told.{TellsOn, HasTold, IsToldCut}
use Rattle.c6x_cli_run.specs.TurnLines.{line_of, names_of, turn_line, turn_lines}

name_is : (plans : List ProcessPlan) (k : ℕ) (other : ProcessPlan) → k < length plans → (slice_index_or plans k other).name ≡ slice_index_or (names_of plans) k []
name_is [] k other within = absurd (omega (arith, within))
name_is (first ∷ plans) zero other within = refl
name_is (first ∷ plans) (suc k) other within = name_is plans k other (omega (arith, within))

-- the line with the name at the turn's process
pub line_is : (plans : List ProcessPlan) (turn : Turn) (other : ProcessPlan) → turn.process < length plans → turn_line (slice_index_or plans turn.process other).name turn.cycles ≡ line_of (names_of plans) (told turn)
line_is plans turn other within =
    ap (λ (name : List ℕ). turn_line name turn.cycles) (name_is plans turn.process other within)

takes_none : (now : Option (List ℕ)) → Takes [] now now
takes_none None = record { appended = refl }
takes_none (Some had) = record { appended = ap Some (sym (append-nil had)) }

pub tells_first : (names : List (List ℕ)) (g : Game) (ps : List Process) (b : Memory) (now : Option (List ℕ)) → AllStand ps b g.starts g.first → TellsOn names g ps b g.state now now
tells_first names g ps b now stand = record {
  on = record { play = []; is = tt; stand = stand; left = λ named. refl };
  taken = takes_none now;
}

-- a turn whose line was taken
pub tells_next : (names : List (List ℕ)) (g : Game) (old new : System) (b c : Memory) (before after : Chooser) (turn : Turn) (first amid now : Option (List ℕ)) → before.kind ≡ g.kind → quantum_of old ≡ g.quantum → length (processes_of old) ≡ g.count → AreApart (processes_of old) → HasStepped old new b c before after turn → Takes (line_of names (told turn)) amid now → TellsOn names g (processes_of old) b before.state first amid → TellsOn names g (processes_of new) c after.state first now
tells_next names g old new b c before after turn first amid now kind quantum count apart step taken k = record {
  on = record {
    play = told turn ∷ k.on.play;
    is = (k.on.is, next_is g old new b c before after turn k.on.play kind quantum count k.on.stand k.on.left step);
    stand = step.turned.stands g.starts (counts_of g k.on.play) apart k.on.stand;
    left = state_is g old new b c before after turn k.on.play kind count k.on.stand k.on.left step;
  };
  taken = takes_then (turn_lines names k.on.play) (line_of names (told turn)) first amid now k.taken taken;
}

-- a turn whose line was cut
pub tells_cut : (names : List (List ℕ)) (g : Game) (old new : System) (b c : Memory) (before after : Chooser) (turn : Turn) (first amid now : Option (List ℕ)) → before.kind ≡ g.kind → quantum_of old ≡ g.quantum → length (processes_of old) ≡ g.count → AreApart (processes_of old) → HasStepped old new b c before after turn → TakesFront (line_of names (told turn)) amid now → TellsOn names g (processes_of old) b before.state first amid → IsToldCut names g (processes_of new) c first now
tells_cut names g old new b c before after turn first amid now kind quantum count apart step front k = record {
  earlier = k.on.play;
  last = told turn;
  is = (k.on.is, next_is g old new b c before after turn k.on.play kind quantum count k.on.stand k.on.left step);
  stand = step.turned.stands g.starts (counts_of g k.on.play) apart k.on.stand;
  out = record { amid = amid; whole = k.taken; front = front };
}

-- where no process is ready all was told
pub tells_end : (names : List (List ℕ)) (g : Game) (ps : List Process) (b : Memory) (state : List ℕ) (first now : Option (List ℕ)) → length ps ≡ g.count → ready_of ps ≡ [] → TellsOn names g ps b state first now → HasTold names g ps b state first now
tells_end names g ps b state first now count none k = record {
  played = record { on = k.on; over = sym (open_is g ps b k.on.play count k.on.stand) ∙ none };
  taken = k.taken;
}
