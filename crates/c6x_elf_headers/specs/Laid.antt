use Rattle.std.specs.Prelude.{◌≡◌, ℕ, ◌+◌, ◌-◌, ◌≤◌, List, [], ◌∷◌, ◌++◌, length, replicate}
use Rattle.c6x_elf_headers.specs.Held.{Holds}

-- Bytes and the place in the file where they begin.
pub record Part : Type 0 where
  pub at : ℕ
  pub bytes : List ℕ

-- The bytes that parts make behind the first `from` bytes: each part at its place, and zeros in the gaps.
abbrev pub laid : ℕ → List Part → List ℕ
laid from [] = []
laid from (part ∷ parts) = replicate (part.at - from) 0 ++ (part.bytes ++ laid (part.at + length part.bytes) parts)

-- Each part begins where the one in front of it has ended, or later.
abbrev pub InOrder : ℕ → List Part → Type 0
InOrder from [] = Unit {0}
InOrder from (part ∷ parts) = (from ≤ part.at) × InOrder (part.at + length part.bytes) parts

abbrev pub AllHeld : List ℕ → List Part → Type 0
AllHeld bytes [] = Unit {0}
AllHeld bytes (part ∷ parts) = Holds bytes part.at part.bytes × AllHeld bytes parts
