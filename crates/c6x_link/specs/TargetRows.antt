-- Targets of names and of objects' symbols, as lists.
use Rattle.std.specs.Prelude.{ℕ, List, map}
use Rattle.std.specs.List.{range_with_len}
use Rattle.c6x_dsbt.specs.declared.wanted.Wanted.TheVariants.{Bound}
use Rattle.c6x_link.specs.Targets.{target_of}
use Rattle.c6x_link.specs.Working.{Working}
use Rattle.c6x_link.specs.declared.target.Target.{Target}

abbrev pub bound_target : Working → ℕ → Target
bound_target w number = target_of w (Bound number)

-- Those of the first names.
abbrev pub bound_targets : Working → ℕ → List Target
bound_targets w count = map (bound_target w) (range_with_len 0 count)
