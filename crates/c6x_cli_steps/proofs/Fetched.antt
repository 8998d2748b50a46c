use Rattle.std.proofs.Common.{◌≡◌, ℕ, List, ap}
use Rattle.std.specs.Prelude.{None, take, ◌+◌}
use Rattle.std.specs.Option.{option_map}
use Rattle.c6x_spec.specs.Files.{Files, file_at, front_at}

-- nothing is fetched of a name that the files lack
pub front_of_none : (files : Files) (name : List ℕ) (most : ℕ) → file_at files name ≡ None → front_at files name most ≡ None
unfolding front_at
front_of_none files name most lacked = ap (option_map (take (most + 1))) lacked
