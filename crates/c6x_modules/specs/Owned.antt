use Rattle.std.specs.Prelude.{◌≢◌, ℕ, ◌≤◌, List, [], ◌∷◌, ◌++◌, length, All, AllPairs, Option, None, Some, Result, Ok, Err}
use Rattle.c6x_module.specs.Valid.{IsValid}
use Rattle.c6x_module.specs.declared.module.Module.{Module}
use Rattle.c6x_module.specs.Refusals.{Refusal}
use Rattle.c6x_modules.specs.declared.modules.TheConstants.{MOST_OWNED_MODULES}

-- What the modules of one owner keep: each is valid, no two have one name, and they are not too many.
pub record AreModules (modules : List Module) : Type 0 where
  pub valid : All IsValid modules
  pub distinct : AllPairs (λ (a b : Module). a.name ≢ b.name) modules
  pub few : length modules ≤ MOST_OWNED_MODULES

-- The rule by which a file gives no module.
abbrev pub refusal_of : Result Module Refusal → Option Refusal
refusal_of (Ok m) = None
refusal_of (Err refusal) = Some refusal

-- The modules with one more behind them.
abbrev pub with_module : List Module → Result Module Refusal → List Module
with_module modules (Ok m) = modules ++ m ∷ []
with_module modules (Err refusal) = modules

-- No module has the name.
abbrev pub IsNew : List Module → List ℕ → Type 0
IsNew modules name = All (λ (m : Module). m.name ≢ name) modules
