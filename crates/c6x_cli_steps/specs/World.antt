use Rattle.std.specs.Prelude.{List}
use Rattle.c6x_spec.specs.Memory.{Memory}
use Rattle.c6x_ports.specs.Chooser.{Chooser}
use Rattle.c6x_ports.specs.Shelf.{Shelved}
use Rattle.c6x_ports.specs.Sink.{Taken}

-- What is seen of all devices of a command, and of the policies that it is handed.
pub record World : Type 0 where
  pub shelf : Shelved
  pub out : Taken
  pub err : Taken
  pub board : Memory
  pub policies : List Chooser

abbrev pub world : Shelved → Taken → Taken → Memory → List Chooser → World
world shelf out err board policies =
    record { shelf = shelf; out = out; err = err; board = board; policies = policies }
