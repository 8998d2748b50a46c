-- What a process starts from.
use Rattle.std.specs.Prelude.{ℕ, List, [], Bool, if◌then◌else◌, ◌==◌}
use Rattle.c6x_machine.specs.History.{Effect}
use Rattle.c6x_access.specs.declared.area.Area.{Area}
use Rattle.c6x_machine.specs.declared.start.Start.{Start}

-- The registers by place, the start map of the bytes of its areas, whether the first byte of a number is worth most, the
-- areas, the limit and the entry; and a first part that is already done, a count of cycles and their history.
pub record Origin : Type 0 where
  pub registers : ℕ → ℕ
  pub bytes : ℕ → ℕ
  pub big : Bool
  pub areas : List Area
  pub limit : ℕ
  pub entry : ℕ
  pub count : ℕ
  pub first : List Effect

-- how many cycles a process may have as its limit (this project's own)
abbrev pub most_cycles : ℕ
most_cycles = 10000000

-- how many bytes of output a process may put (this project's own)
unfoldable pub most_output : ℕ
most_output = 65536

-- the exit gate, to which B3 returns at the start (this project's own)
abbrev pub exit_gate : ℕ
exit_gate = 0xFFFFFF00

-- the put gate, which puts the low byte of A4 and returns to B3 (this project's own)
abbrev pub put_gate : ℕ
put_gate = 0xFFFFFF20

-- The start registers: the argument in A4, the return address in B3, the data page in B14 and the stack in B15
-- (SPRAB89, "Register conventions"), every other one 0.
abbrev pub start_register : Start → ℕ → ℕ
start_register start place =
    if place == 4 then start.arg
    else (if place == 35 then exit_gate
    else (if place == 46 then start.b14
    else (if place == 47 then start.b15 else 0)))

-- the origin of a process that has done nothing yet
abbrev pub origin_of : Bool → Start → (ℕ → ℕ) → List Area → Origin
origin_of big start bytes areas = record {
  registers = start_register start;
  bytes = bytes;
  big = big;
  areas = areas;
  limit = start.limit;
  entry = start.entry;
  count = 0;
  first = [];
}
