-- What can be loaded.
use Rattle.std.proofs.Common.{◌≡◌, ℕ, length, sym, subst}
use Rattle.c6x_spec.specs.Memory.{Memory}
use Rattle.c6x_cli_run.specs.declared.loading.Loading.{Loading}
use Rattle.c6x_cli_run.specs.Placing.{CanLoad}

-- a memory of the same addresses serves as well
pub loads_later : (loading : Loading) (before after : Memory) → CanLoad before.base (length before.bytes) loading → after.base ≡ before.base → length after.bytes ≡ length before.bytes → CanLoad after.base (length after.bytes) loading
loads_later loading before after k base size =
    subst (λ (len : ℕ). CanLoad after.base len loading) (sym size)
    (subst (λ (at : ℕ). CanLoad at (length before.bytes) loading) (sym base) k)
