use Rattle.std.specs.Prelude.{ℕ, ◌+◌, ◌-◌, ◌^◌, ◌==◌, ◌&&◌, nat_lt, min, Bool, List}
use Rattle.std.specs.List.{list_any}

-- The call after this many numbered ones has a number, and is among those that fail. Calls past the first
-- 4,294,967,295 have no number.
abbrev pub fails_next : List ℕ → ℕ → Bool
fails_next failing calls = nat_lt calls 4294967295 && list_any (λ number. number == calls) failing

-- How many calls have had a number after one more.
abbrev pub next_call : ℕ → ℕ
next_call calls = min (calls + 1) 4294967295

-- A count after one more, which stops at its last value.
abbrev pub raised : ℕ → ℕ
raised count = min (count + 1) (2 ^ 64 - 1)
