use Rattle.std.specs.Prelude.{◌≡◌, ℕ, ◌+◌, ◌<◌, ◌≤◌, ◌⊎◌, ◌&&◌, ◌||◌, Bool, false, nat_le, nat_lt, List, [], ◌∷◌, length, slice_index}
use Rattle.c6x_spec.specs.Memory.{Memory, byte_in, written, IsOnMemory}

-- Bytes and the address where they stand.
pub record Part : Type 0 where
  pub at : ℕ
  pub bytes : List ℕ

-- The memory with the parts written into it, in their order.
abbrev pub filled_with : List Part → Memory → Memory
filled_with [] m = m
filled_with (p ∷ ps) m = filled_with ps (written m p.at p.bytes)

-- Two parts share no address.
abbrev pub PartsApart : Part → Part → Type 0
PartsApart p q = (p.at + length p.bytes ≤ q.at) ⊎ (q.at + length q.bytes ≤ p.at)

abbrev pub IsApartFrom : Part → List Part → Type 0
IsApartFrom p [] = Unit {0}
IsApartFrom p (q ∷ qs) = PartsApart p q × IsApartFrom p qs

-- No two parts share an address.
abbrev pub AreApart : List Part → Type 0
AreApart [] = Unit {0}
AreApart (p ∷ ps) = IsApartFrom p ps × AreApart ps

-- Each part lies on the memory.
abbrev pub AreOn : Memory → List Part → Type 0
AreOn m [] = Unit {0}
AreOn m (p ∷ ps) = IsOnMemory m p.at (length p.bytes) × AreOn m ps

-- Parts one behind the other, between these two addresses.
abbrev pub InOrder : ℕ → ℕ → List Part → Type 0
InOrder from end [] = from ≤ end
InOrder from end (p ∷ ps) = (from ≤ p.at) × InOrder (p.at + length p.bytes) end ps

-- The address lies in a part.
abbrev pub is_in : List Part → ℕ → Bool
is_in [] address = false
is_in (p ∷ ps) address = nat_le p.at address && nat_lt address (p.at + length p.bytes) || is_in ps address

-- The memory has these bytes at their address.
abbrev pub HoldsPart : Memory → Part → Type 0
HoldsPart m p = (offset : ℕ) → offset < length p.bytes → byte_in m (p.at + offset) ≡ slice_index p.bytes offset

abbrev pub HoldsAll : Memory → List Part → Type 0
HoldsAll m [] = Unit {0}
HoldsAll m (p ∷ ps) = HoldsPart m p × HoldsAll m ps

-- The memory has the bytes of every part, and every other byte is as before.
pub record HoldsParts (parts : List Part) (before after : Memory) : Type 0 where
  pub base : after.base ≡ before.base
  pub size : length after.bytes ≡ length before.bytes
  pub own : HoldsAll after parts
  pub others : (address : ℕ) → before.base ≤ address → is_in parts address ≡ false → byte_in after address ≡ byte_in before address
