-- What a row asks of the board and of the areas.
use Rattle.std.specs.Prelude.{◌≡◌, ℕ, ◌<◌, ◌≤◌, List, length, Option, None, Some, false}
use Rattle.std.specs.List.{All}
use Rattle.c6x_spec.specs.Memory.{Memory, IsOnMemory, byte_in}
use Rattle.c6x_encoding.specs.declared.effect.Effects.{Effects}
use Rattle.c6x_encoding.specs.declared.mem_op.MemOp.{MemOp}
use Rattle.c6x_access.specs.declared.area.Area.{Area}
use Rattle.c6x_access.specs.declared.right.Right.TheVariants.{Write}
use Rattle.c6x_access.specs.Rights.{allowed}
use Rattle.c6x_machine.specs.declared.destination.Destination.{Destination}
use Rattle.c6x_machine.specs.Packet.{bad_read_of, bad_write_of}

-- the bytes of an access lie on the memory
abbrev pub IsAccessOn : Memory → Option MemOp → Type 0
IsAccessOn m None = Unit {0}
IsAccessOn m (Some access) = IsOnMemory m access.address access.size

-- an access breaks neither right
pub record IsClean (areas : List Area) (access : Option MemOp) : Type 0 where
  pub read : bad_read_of areas access ≡ None
  pub write : bad_write_of areas access ≡ None

-- every byte that may not be written is as before
pub record IsFramed (areas : List Area) (before after : Memory) : Type 0 where
  pub base : after.base ≡ before.base
  pub size : length after.bytes ≡ length before.bytes
  pub others : (x : ℕ) → before.base ≤ x → allowed areas Write x ≡ false → byte_in after x ≡ byte_in before x

-- a write that lands on a register that is there
abbrev pub IsSoon : Destination → Type 0
IsSoon destination = destination.register < 64

-- a memory of the same place and size
pub record IsSized (before after : Memory) : Type 0 where
  pub base : after.base ≡ before.base
  pub size : length after.bytes ≡ length before.bytes

abbrev pub AreClean : List Area → List Effects → Type 0
AreClean areas rows = All (λ (row : Effects). IsClean areas row.access) rows

abbrev pub AreOn : Memory → List Effects → Type 0
AreOn m rows = All (λ (row : Effects). IsAccessOn m row.access) rows
