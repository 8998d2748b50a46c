use Rattle.std.specs.Prelude.{◌≡◌, ℕ, ◌+◌, ◌-◌, ◌%◌, ◌≤◌, List, ◌++◌, length, take, drop, slice_index}

-- A block of memory: its first address and its bytes.
pub record Memory : Type 0 where
  pub base : ℕ
  pub bytes : List ℕ

-- A block may begin at a multiple of 32 and ends below the gate addresses, which begin at 0xFFFFFF00.
pub record CanStart (base len : ℕ) : Type 0 where
  pub aligned : base % 32 ≡ 0
  pub some : 1 ≤ len
  pub below_gates : base + len ≤ 4294967040

-- The `len` bytes from this address on lie in the memory.
pub record IsOnMemory (m : Memory) (at len : ℕ) : Type 0 where
  pub above : m.base ≤ at
  pub within : at + len ≤ m.base + length m.bytes

-- The bytes with the new ones in place of those from `at` on.
unfoldable pub spliced : List ℕ → ℕ → List ℕ → List ℕ
spliced bytes at new = take at bytes ++ new ++ drop (at + length new) bytes

-- The memory with the new bytes at this address, and every other byte as before.
abbrev pub written : Memory → ℕ → List ℕ → Memory
written m at new = record { base = m.base; bytes = spliced m.bytes (at - m.base) new }

-- The byte at an address, and 0 past the end.
abbrev pub byte_in : Memory → ℕ → ℕ
byte_in m at = slice_index m.bytes (at - m.base)
