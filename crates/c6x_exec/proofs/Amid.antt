-- Within a cycle.
use Rattle.std.proofs.Common.{ℕ, ◌+◌, ◌<◌, List, ◌∙◌, arith}
use Rattle.c6x_spec.specs.Memory.{Memory}
use Rattle.c6x_base.specs.declared.side.Side.{Side}
use Rattle.c6x_base.specs.declared.side.Side.TheVariants.{A, B}
use Rattle.c6x_encoding.specs.Registers.{place_of}
use Rattle.c6x_machine.specs.History.{Effect}
use Rattle.c6x_machine.specs.Origin.{Origin}
use Rattle.c6x_exec.specs.Sound.{Stays}
use Rattle.c6x_exec.specs.Stands.{Tracks, HoldsAt}
use Rattle.c6x_exec.specs.declared.context.Context.{Context}

-- what is to come from this cycle on is also to come from the next one on
pub amid : (p : Context) (b : Memory) (s : Origin) (h : List Effect) (n : ℕ) → Tracks p b s h n n → Tracks p b s h n (n + 1)
amid p b s h n k = record {
  order = k.order;
  limit = k.limit;
  cycles = k.cycles;
  output = k.output;
  registers = k.registers;
  writes = k.writes;
  late_writes = λ t r late. k.late_writes t r (omega arith);
  arrivals = k.arrivals;
  groups = k.groups;
  targets = λ t after. k.targets t (omega arith);
  late_targets = λ t late. k.late_targets t (omega arith);
  behind = k.behind;
  bytes = λ t x own after. k.bytes t x own (omega arith);
}

pub place_below : (side : Side) (register : ℕ) → register < 32 → place_of side register < 64
place_below A register below = omega arith
place_below B register below = omega arith

pub stays_on : (a b c : Context) → Stays a b → Stays b c → Stays a c
stays_on a b c k l = record { registers = l.registers ∙ k.registers; cycles = l.cycles ∙ k.cycles; limit = l.limit ∙ k.limit; ended = l.ended ∙ k.ended }

-- the bytes at the cycle at hand
pub holds_now : (p : Context) (b : Memory) (s : Origin) (h : List Effect) (n : ℕ) → Tracks p b s h n n → HoldsAt b s h n
holds_now p b s h n k = record { order = k.order; bytes = λ x own. k.bytes n x own (omega arith) }
