-- The history of a process, and what a cycle reads in it.
--
-- A history is a list of effects, the newest first. Nothing is ever taken out of it: what a register, a byte or the
-- address to issue is at a cycle is asked of the whole list. When an effect is seen is the delay of its instruction
-- (SPRU732, "Delay Slots").
use Rattle.std.specs.Prelude.{ℕ, zero, suc, ◌+◌, ◌-◌, ◌*◌, ◌^◌, Bool, List, [], ◌∷◌, ◌++◌, length, map, slice_index, Option, Some, None, if◌then◌else◌, nat_eq, nat_lt, nat_le, ◌&&◌, unwrap_or}
use Rattle.std.specs.List.{range_with_len}

pub data Effect : Type 0 where
  -- from this cycle on, the register at a place holds a value
  Writes : ℕ → ℕ → ℕ → Effect
  -- at this cycle, the address to issue
  Branches : ℕ → ℕ → Effect
  -- at this cycle, to an address, these bytes
  Stores : ℕ → ℕ → List ℕ → Effect
  -- at this cycle, a byte of output
  Puts : ℕ → ℕ → Effect
  -- at this cycle a packet or gate, the address behind it, and the cycles that it waits
  Issues : ℕ → ℕ → ℕ → Effect

-- what lands at exactly this cycle on a register
abbrev pub write_at : List Effect → ℕ → ℕ → Option ℕ
write_at [] t r = None
write_at (Writes at place value ∷ h) t r = if nat_eq at t && nat_eq place r then Some value else write_at h t r
write_at (Branches at target ∷ h) t r = write_at h t r
write_at (Stores at place bytes ∷ h) t r = write_at h t r
write_at (Puts at byte ∷ h) t r = write_at h t r
write_at (Issues at behind wait ∷ h) t r = write_at h t r

-- a register at a cycle: what the last write to land by then put there, else its start value
abbrev pub register_at : (ℕ → ℕ) → List Effect → ℕ → ℕ → ℕ
register_at start h zero r = unwrap_or (write_at h 0 r) (start r)
register_at start h (suc t) r = unwrap_or (write_at h (suc t) r) (register_at start h t r)

-- all registers at a cycle, A0 to A31 and then B0 to B31
unfoldable pub registers_at : (ℕ → ℕ) → List Effect → ℕ → List ℕ
registers_at start h t = map (λ r. register_at start h t r) (range_with_len 0 64)

-- the target that lands at exactly this cycle
abbrev pub target_at : List Effect → ℕ → Option ℕ
target_at [] t = None
target_at (Branches at target ∷ h) t = if nat_eq at t then Some target else target_at h t
target_at (Writes at place value ∷ h) t = target_at h t
target_at (Stores at place bytes ∷ h) t = target_at h t
target_at (Puts at byte ∷ h) t = target_at h t
target_at (Issues at behind wait ∷ h) t = target_at h t

-- the address behind the last packet or gate, once its wait is over; before the first one, the entry
abbrev pub behind_at : ℕ → List Effect → ℕ → Option ℕ
behind_at entry [] t = Some entry
behind_at entry (Issues at behind wait ∷ h) t = if nat_lt (at + wait) t then Some behind else None
behind_at entry (Writes at place value ∷ h) t = behind_at entry h t
behind_at entry (Branches at target ∷ h) t = behind_at entry h t
behind_at entry (Stores at place bytes ∷ h) t = behind_at entry h t
behind_at entry (Puts at byte ∷ h) t = behind_at entry h t

-- the address to issue at a cycle: a landing target ends any wait
abbrev pub or_behind : Option ℕ → Option ℕ → Option ℕ
or_behind (Some target) behind = Some target
or_behind None behind = behind

abbrev pub issue_at : ℕ → List Effect → ℕ → Option ℕ
issue_at entry h t = or_behind (target_at h t) (behind_at entry h t)

-- a byte at a cycle: what the last store before it put there, else the start byte
abbrev pub byte_at : (ℕ → ℕ) → List Effect → ℕ → ℕ → ℕ
byte_at start [] t x = start x
byte_at start (Stores at place bytes ∷ h) t x =
    if nat_lt at t && (nat_le place x && nat_lt x (place + length bytes)) then slice_index bytes (x - place) else byte_at start h t x
byte_at start (Writes at place value ∷ h) t x = byte_at start h t x
byte_at start (Branches at target ∷ h) t x = byte_at start h t x
byte_at start (Puts at byte ∷ h) t x = byte_at start h t x
byte_at start (Issues at behind wait ∷ h) t x = byte_at start h t x

-- the number of this many bytes from an address on; the first byte is worth least, or most where `big` is so
abbrev pub number_of : Bool → (ℕ → ℕ) → ℕ → ℕ → ℕ
number_of big bytes at zero = 0
number_of big bytes at (suc size) =
    if big then bytes at * 256 ^ size + number_of big bytes (at + 1) size
    else bytes at + 256 * number_of big bytes (at + 1) size

abbrev pub number_at : Bool → (ℕ → ℕ) → List Effect → ℕ → ℕ → ℕ → ℕ
number_at big start h t at size = number_of big (λ x. byte_at start h t x) at size

-- the bytes that were put, in order
abbrev pub output_of : List Effect → List ℕ
output_of [] = []
output_of (Puts at byte ∷ h) = output_of h ++ byte ∷ []
output_of (Writes at place value ∷ h) = output_of h
output_of (Branches at target ∷ h) = output_of h
output_of (Stores at place bytes ∷ h) = output_of h
output_of (Issues at behind wait ∷ h) = output_of h
