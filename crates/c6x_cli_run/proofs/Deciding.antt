use Rattle.std.proofs.Common.{ap}
use Rattle.std.specs.Prelude.{Result, Ok, Err}
use Rattle.c6x_spec.specs.Results.{◌>>=◌}
use Rattle.c6x_cli_steps.specs.declared.cause.Cause.{Cause}
use Rattle.c6x_cli_steps.specs.declared.cause.Cause.TheVariants.{Usage, Missing, Refused}
use Rattle.c6x_cli_steps.specs.declared.prepare_error.PrepareError.{PrepareError}
use Rattle.c6x_cli_steps.specs.declared.prepare_error.PrepareError.TheVariants.{Because, ReadFault, Memory}
use Rattle.c6x_cli_steps.specs.Steps.{Decides}

-- A decision stops where its first part stops,
pub decides_first : {A B C D : Type 0} (view : A → C) (whole : B → D) (first : Result C Cause) (next : C → Result D Cause) (error : PrepareError) → Decides view first (Err error) → Decides whole (first >>= next) (Err error)
decides_first view whole first next (Because (Refused refusal)) is = ap (λ r. r >>= next) is
decides_first view whole first next (Because (Missing _)) never = absurd never
decides_first view whole first next (Because Usage) never = absurd never
decides_first view whole first next (ReadFault _) never = absurd never
decides_first view whole first next Memory _ = tt

-- and else goes on as what stands behind its value.
pub decides_then : {A B C D : Type 0} (view : A → C) (whole : B → D) (first : Result C Cause) (next : C → Result D Cause) (value : A) (result : Result B PrepareError) → Decides view first (Ok value) → Decides whole (next (view value)) result → Decides whole (first >>= next) result
decides_then view whole first next value result is rest = rw is rest
