use Rattle.std.specs.Prelude.{ℕ, ◌-◌, nat_le, Bool, List, ◌++◌, length, take, if◌then◌else◌}
use Rattle.c6x_ports.specs.Numbered.{fails_next, next_call, raised}

-- A sink in memory: the bytes taken, how many it has room for, the numbers of the puts that fail, how many puts have
-- had a number, and its count of faults.
pub record SinkInMemory : Type 0 where
  pub bytes : List ℕ
  pub room : ℕ
  pub failing : List ℕ
  pub puts : ℕ
  pub faults : ℕ

-- How many bytes of a piece are taken: none where the put's number is among the failing ones, else what fits.
abbrev pub count_taken : SinkInMemory → List ℕ → ℕ
count_taken s piece =
    if fails_next s.failing s.puts then 0 else (if nat_le (length piece) (s.room - length s.bytes) then length piece else s.room - length s.bytes)

-- The whole piece is taken. An empty piece always is.
abbrev pub takes_all : SinkInMemory → List ℕ → Bool
takes_all s piece = nat_le (length piece) (count_taken s piece)

-- The sink after a put.
abbrev pub after_put : SinkInMemory → List ℕ → SinkInMemory
after_put s piece = record s {
  bytes = s.bytes ++ take (count_taken s piece) piece;
  puts = next_call s.puts;
  faults = if takes_all s piece then s.faults else raised s.faults;
}
