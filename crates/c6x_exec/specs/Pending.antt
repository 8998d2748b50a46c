-- The writes and targets that a process keeps until they land.
use Rattle.std.specs.Prelude.{ℕ, ◌+◌, ◌*◌, ◌%◌, List, slice_index, Option, Some, None, if◌then◌else◌, nat_eq, is_some, Bool}

-- the slot of a write that lands at a cycle on a register
abbrev pub slot_of : ℕ → ℕ → ℕ
slot_of t r = t % 8 * 64 + r

-- the value in a slot whose stamp is this cycle
unfoldable pub stamped : List ℕ → List ℕ → ℕ → ℕ → Option ℕ
stamped stamps values slot t = if nat_eq (slice_index stamps slot) t then Some (slice_index values slot) else None

-- what lands at a cycle on a register
abbrev pub due : List ℕ → List ℕ → ℕ → ℕ → Option ℕ
due stamps values t r = stamped stamps values (slot_of t r) t

-- the target that lands at a cycle
abbrev pub target_due : List ℕ → List ℕ → ℕ → Option ℕ
target_due stamps targets t = stamped stamps targets (t % 8) t

-- whether a write lands at a cycle on a register
abbrev pub is_due : List ℕ → List ℕ → ℕ → ℕ → Bool
is_due stamps values t r = is_some (due stamps values t r)
