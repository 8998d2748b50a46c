-- Sums grow by what the next one has.
use Rattle.std.proofs.Common.{◌≡◌, ℕ, ◌+◌, refl, add-one}
use Rattle.std.specs.Prelude.{Some}
use Rattle.c6x_machine.specs.declared.end.End.{End}
use Rattle.c6x_machine.specs.Origin.{Origin}
use Rattle.c6x_cli_run.specs.Ends.{last_of}
use Rattle.c6x_cli.specs.Sums.{exit_of, status_of, sum_of}

pub sum_none : (f : ℕ → ℕ) → sum_of 0 f ≡ 0
unfolding sum_of
sum_none f = refl

pub sum_more : (n : ℕ) (f : ℕ → ℕ) → sum_of (n + 1) f ≡ sum_of n f + f n
unfolding sum_of
sum_more n f = rw add-one refl

pub exit_is : (s : Origin) (end : End) → (last_of s).ended ≡ Some end → exit_of s ≡ status_of end
exit_is s end ended = rw ended refl
