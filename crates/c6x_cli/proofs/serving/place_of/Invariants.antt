-- No policy so far is of the kind.
use Rattle.std.proofs.Common.{◌≡◌, ◌<◌, ◌≤◌, ◌-◌, ℕ, false, length, slice_index_or}
use Rattle.c6x_cli_steps.specs.Policies.{same_kind}
use Rattle.c6x_cli.proofs.serving.place_of.Given as goal

abbrev pub invariant-places : goal.invariant-places
invariant-places g l = record {
  within : l.place ≤ length l.policies;
  before : (k : ℕ) (d : _) → k < l.place → same_kind ((goal.Policy-dyn g ((slice_index_or l.policies k d).vtable, (slice_index_or l.policies k d).value)).chooser (slice_index_or l.policies k d).value).kind l.kind ≡ false;
}

abbrev pub decreases-places : goal.decreases-places
decreases-places g l = length l.policies - l.place
