-- What is true behind each line of a text.
use Rattle.std.specs.Prelude.{◌<◌, IfSome, length}
use Rattle.c6x_asm.specs.States.{State}
use Rattle.c6x_asm_object.specs.Sound.{AreSound}

-- the sections and symbols are sound, and lines go to a section that there is
pub record IsStateSound (s : State) : Type 0 where
  pub sound : AreSound s.sections s.symbols
  pub now : IfSome s.now (λ i. i < length s.sections)
