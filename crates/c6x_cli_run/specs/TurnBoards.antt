-- The board of several processes, by its addresses.
use Rattle.std.specs.Prelude.{ℕ, zero, suc, ◌+◌, length, map, slice_index, Option, Some, None, if◌then◌else◌}
use Rattle.std.specs.List.{range_with_len}
use Rattle.c6x_spec.specs.Memory.{Memory}
use Rattle.c6x_access.specs.Rights.{is_own}
use Rattle.c6x_machine.specs.History.{byte_at}
use Rattle.c6x_machine.specs.Machine.{alone}
use Rattle.c6x_machine.specs.Origin.{Origin}

-- Of this many processes from the number `first` on, the first that has an area with the address.
abbrev pub owner_from : (ℕ → Origin) → ℕ → ℕ → ℕ → Option ℕ
owner_from s first zero x = None
owner_from s first (suc more) x = if is_own (s first).areas x then Some first else owner_from s (first + 1) more x

-- The byte of an owner after its count of cycles; any other byte as before.
abbrev pub byte_of : (ℕ → Origin) → (ℕ → ℕ) → ℕ → ℕ → Option ℕ → ℕ
byte_of s n x was None = was
byte_of s n x was (Some i) = byte_at (s i).bytes (alone (s i) (n i)).history (n i) x

-- The board where this many processes stand for their starts and counts.
unfoldable pub boards_at : (ℕ → Origin) → (ℕ → ℕ) → ℕ → Memory → Memory
boards_at s n count before = record {
  base = before.base;
  bytes = map (λ place. byte_of s n (before.base + place) (slice_index before.bytes place) (owner_from s 0 count (before.base + place))) (range_with_len 0 (length before.bytes));
}
