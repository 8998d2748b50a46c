-- What the numbers of a process keep to.
use Rattle.std.specs.Prelude.{◌≡◌, ◌≤◌, ◌<◌, length, None, vec_len, vec_capacity}
use Rattle.c6x_machine.specs.Origin.{most_cycles, most_output}
use Rattle.c6x_exec.specs.declared.context.Context.{Context}

-- the lengths of the arrays, the cycles within the limit, and the output within the room that is reserved for it
pub record IsSound (p : Context) : Type 0 where
  pub registers : length p.registers ≡ 64
  pub stamps : length p.writes.stamps ≡ 512
  pub values : length p.writes.values ≡ 512
  pub arrivals : length p.writes.arrivals ≡ 8
  pub groups : length p.writes.groups ≡ 64
  pub target_stamps : length p.targets.stamps ≡ 8
  pub addresses : length p.targets.addresses ≡ 8
  pub limit : p.limit ≤ most_cycles
  pub cycles : p.cycles ≤ p.limit
  pub output : vec_len p.output ≤ most_output
  pub room : most_output ≤ vec_capacity p.output

-- what a noted effect leaves as it is
pub record Stays (old new : Context) : Type 0 where
  pub registers : new.registers ≡ old.registers
  pub cycles : new.cycles ≡ old.cycles
  pub limit : new.limit ≡ old.limit
  pub ended : new.ended ≡ old.ended

-- a process that has not ended has cycles left
abbrev pub IsWithin : Context → Type 0
IsWithin p = p.ended ≡ None → p.cycles < p.limit
