-- The fault of a packet, as the process finds it.
use Rattle.std.proofs.Common.{◌≡◌, ℕ, ◌+◌, List, refl, sym, ◌∙◌, ap, arith, Option, None, Some, nat_lt}
use Rattle.std.specs.List.{All}
use Rattle.c6x_spec.specs.Memory.{Memory}
use Rattle.c6x_access.specs.declared.area.Area.{Area}
use Rattle.c6x_encoding.specs.declared.effect.Effects.{Effects}
use Rattle.c6x_encoding.specs.Rows.{FitsEffects}
use Rattle.c6x_machine.specs.History.{Effect}
use Rattle.c6x_machine.specs.Machine.{Goes, Stops, executed}
use Rattle.c6x_machine.specs.Origin.{Origin}
use Rattle.c6x_machine.specs.Packet.{targets_in, fault_by, fault_of, with_packet}
use Rattle.c6x_exec.specs.Pending.{is_due}
use Rattle.c6x_exec.specs.Stands.{Tracks}
use Rattle.c6x_machine.specs.declared.end.End.{End}
use Rattle.c6x_exec.specs.declared.context.Context.{Context}
use Rattle.c6x_exec.proofs.Firsts.{faults_agree}

pub found_fault : (p : Context) (b : Memory) (s : Origin) (h : List Effect) (n at : ℕ) (areas : List Area) (rows : List Effects) → All FitsEffects rows → s.areas ≡ areas → Tracks p b s h n n → (found : Option End) → found ≡ fault_by areas (nat_lt 1 (targets_in rows)) (is_due p.writes.stamps p.writes.values) p.cycles at rows → fault_of s h n at rows ≡ found
found_fault p b s h n at areas rows fits areas_are k found is =
    sym (faults_agree s h n at p.writes.stamps p.writes.values rows fits (k.late_targets (n + 6) (omega arith)) k.writes)
    ∙ ap (λ (all : List Area). fault_by all (nat_lt 1 (targets_in rows)) (is_due p.writes.stamps p.writes.values) n at rows) areas_are
    ∙ ap (λ (t : ℕ). fault_by areas (nat_lt 1 (targets_in rows)) (is_due p.writes.stamps p.writes.values) t at rows) (sym k.cycles)
    ∙ sym is

pub executed_stops : (s : Origin) (h : List Effect) (n at next : ℕ) (rows : List Effects) (end : End) → fault_of s h n at rows ≡ Some end → executed s h n at next rows ≡ Stops end
unfolding executed
executed_stops s h n at next rows end is = rw is refl

pub executed_goes : (s : Origin) (h : List Effect) (n at next : ℕ) (rows : List Effects) → fault_of s h n at rows ≡ None → executed s h n at next rows ≡ Goes (with_packet s h n next rows)
unfolding executed
executed_goes s h n at next rows is = rw is refl
