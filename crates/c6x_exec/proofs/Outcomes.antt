-- What a cycle comes to, step by step.
use Rattle.std.proofs.Common.{◌≡◌, ℕ, ◌+◌, List, refl, ◌∙◌, ap, Option, Some, None}
use Rattle.c6x_spec.specs.Memory.{Memory}
use Rattle.c6x_machine.specs.History.{Effect}
use Rattle.c6x_machine.specs.Machine.{Outcome, Goes, Stops, after, limit_end}
use Rattle.c6x_machine.specs.Origin.{Origin}
use Rattle.c6x_machine.specs.Packet.{◌<|>◌}
use Rattle.c6x_exec.specs.Stands.{Tracks, Comes, Keeps}
use Rattle.c6x_machine.specs.declared.end.End.{End}
use Rattle.c6x_exec.specs.declared.context.Context.{Context}

-- no field of the relation is the end
pub retold : (q : Context) (ended : Option End) (b : Memory) (s : Origin) (h : List Effect) (n m : ℕ) → Tracks q b s h n m → Tracks (record q { ended = ended }) b s h n m
retold q ended b s h n m k = record {
  order = k.order;
  limit = k.limit;
  cycles = k.cycles;
  output = k.output;
  registers = k.registers;
  writes = k.writes;
  late_writes = k.late_writes;
  arrivals = k.arrivals;
  groups = k.groups;
  targets = k.targets;
  late_targets = k.late_targets;
  behind = k.behind;
  bytes = k.bytes;
}

pub cycle_ended : (end : Option End) (o : Outcome) (p q : Context) (ended : Option End) (limit cycles : ℕ) (b : Memory) (s : Origin) (h : List Effect) (n : ℕ) → Comes end o p b s h n → ((g : List Effect) → Tracks p b s g n (n + 1) → Tracks q b s g (n + 1) (n + 1)) → limit ≡ q.limit → cycles ≡ q.cycles → ended ≡ (end <|> limit_end limit cycles) → Keeps (record q { ended = ended }) b s (after s.limit (n + 1) h o)
cycle_ended None (Goes g) p q ended limit cycles b s h n comes ticked limit_is cycles_are is =
    let k : Tracks q b s g (n + 1) (n + 1) = ticked g comes in
    let e : limit ≡ s.limit = limit_is ∙ k.limit in
    let f : cycles ≡ n + 1 = cycles_are ∙ k.cycles in
    record { ended = is ∙ rw (e, f) refl; tracks = retold q ended b s g (n + 1) (n + 1) k }
cycle_ended (Some end) (Stops stop) p q ended limit cycles b s h n comes ticked limit_is cycles_are is =
    record { ended = is ∙ ap Some comes.0; tracks = retold q ended b s h (n + 1) (n + 1) (ticked h comes.1) }
cycle_ended None (Stops stop) p q ended limit cycles b s h n comes ticked limit_is cycles_are is = absurd comes
cycle_ended (Some end) (Goes g) p q ended limit cycles b s h n comes ticked limit_is cycles_are is = absurd comes
