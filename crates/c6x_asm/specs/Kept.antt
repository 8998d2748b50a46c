-- What is true of the sections and symbols of a text that breaks no rule.
use Rattle.std.specs.Prelude.{◌≡◌, ℕ, false, List}
use Rattle.c6x_asm_object.specs.Limits.{is_large}
use Rattle.c6x_asm.specs.States.{State}
use Rattle.c6x_asm.specs.Keeping.{IsStateSound}

pub record IsKept (text : List ℕ) (s : State) : Type 0 where
  pub sound : IsStateSound s
  pub small : is_large text s.sections s.symbols ≡ false
