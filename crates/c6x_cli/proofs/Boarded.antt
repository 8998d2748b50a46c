-- What is decided on a board's base and length.
use Rattle.std.proofs.Common.{◌≡◌, ℕ, subst}
use Rattle.std.specs.Prelude.{Result}
use Rattle.c6x_cli_run.specs.declared.loading.Loading.{Loading}
use Rattle.c6x_cli_steps.specs.declared.prepare_error.PrepareError.{PrepareError}
use Rattle.c6x_cli_steps.specs.Steps.{Decides}
use Rattle.c6x_cli.specs.Made.{generated_loading}

pub decided_on : (number base len b l : ℕ) (result : Result Loading PrepareError) → base ≡ b → len ≡ l → Decides {A = Loading} (λ loading. loading) (generated_loading number base len) result → Decides {A = Loading} (λ loading. loading) (generated_loading number b l) result
decided_on number base len b l result at size decides =
    subst (λ (n : ℕ). Decides {A = Loading} (λ loading. loading) (generated_loading number b n) result) size
    (subst (λ (n : ℕ). Decides {A = Loading} (λ loading. loading) (generated_loading number n len) result) at decides)
