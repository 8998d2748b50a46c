-- The first parts that a process may have behind it: what it has not landed yet, what it has put, and its last issue.
use Rattle.std.specs.Prelude.{◌≡◌, ℕ, ◌+◌, ◌<◌, ◌≤◌, ◌⊎◌, [], length, count_by, nat_eq, nat_lt, nat_le, ◌&&◌, Bool, true, false}
use Rattle.std.specs.List.{list_all}
use Rattle.c6x_machine.specs.History.{Effect, Writes, Branches, Stores, Puts, Issues, output_of}
use Rattle.c6x_machine.specs.Origin.{Origin, most_output}

-- an effect that a first part of this many cycles may have
abbrev pub may_be_behind : ℕ → Effect → Bool
may_be_behind count (Writes at place value) = nat_lt count at && (nat_le at (count + 4) && nat_lt place 64)
may_be_behind count (Branches at target) = nat_le count at && nat_le at (count + 5)
may_be_behind count (Stores at place bytes) = false
may_be_behind count (Puts at byte) = nat_lt at count
may_be_behind count (Issues at behind wait) = nat_eq (at + 1) count && nat_le wait 8

abbrev pub lands_at : ℕ → ℕ → Effect → Bool
lands_at t r (Writes at place value) = nat_eq at t && nat_eq place r
lands_at t r _ = false

abbrev pub branches_at : ℕ → Effect → Bool
branches_at t (Branches at target) = nat_eq at t
branches_at t _ = false

abbrev pub is_issue : Effect → Bool
is_issue (Issues at behind wait) = true
is_issue _ = false

-- some cycles are done, and the process goes on from there
pub record IsBegun (s : Origin) : Type 0 where
  pub some : 1 ≤ s.count
  pub below : s.count < s.limit
  pub effects : list_all (may_be_behind s.count) s.first ≡ true
  pub writes : (t r : ℕ) → count_by (lands_at t r) s.first ≤ 1
  pub targets : (t : ℕ) → count_by (branches_at t) s.first ≤ 1
  pub issue : count_by is_issue s.first ≡ 1
  pub output : length (output_of s.first) ≤ most_output

-- a start that is meant: it has a cycle to do, and nothing is done, or what is done may lie behind it
pub record IsMeant (s : Origin) : Type 0 where
  pub limit : 1 ≤ s.limit
  pub first : ((s.count ≡ 0) × (s.first ≡ [])) ⊎ IsBegun s
