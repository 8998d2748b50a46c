-- The definitions of the machine, said once more in other words.
use Rattle.std.specs.Prelude.{◌≡◌, ℕ, ◌+◌, ◌*◌, ◌%◌, ◌^◌, ◌<◌, ◌≤◌, ◌⊎◌, List, length, slice_get, Some, None, Ok, Bool, true}
use Rattle.c6x_encoding.specs.declared.instr.Instr.{Instr}
use Rattle.c6x_encoding.specs.Spelling.{Spells}
use Rattle.c6x_packet.specs.Packets.{IsPacket, split_of}
use Rattle.c6x_machine.specs.History.{Effect, write_at, register_at, number_at}
use Rattle.c6x_machine.specs.Machine.{alone}
use Rattle.c6x_machine.specs.Origin.{Origin, origin_of}
use Rattle.c6x_machine.specs.Packet.{past, may_run, words_of}
use Rattle.c6x_access.specs.declared.area.Area.{Area}
use Rattle.c6x_machine.specs.FirstPart.{IsMeant}
use Rattle.c6x_machine.specs.declared.end.End.{End}
use Rattle.c6x_machine.specs.declared.start.Start.{Start}

-- of the writes to a register that have landed by a cycle, the last one landed here, with this value
pub record IsLastWrite (h : List Effect) (t r at value : ℕ) : Type 0 where
  pub landed : at ≤ t
  pub written : write_at h at r ≡ Some value
  pub last : (later : ℕ) → at < later → later ≤ t → write_at h later r ≡ None

-- a register at a cycle is what the write with the greatest landing cycle put there, else its start value
abbrev pub RegistersAreLastWrites : Type 0
RegistersAreLastWrites =
    (start : ℕ → ℕ) (h : List Effect) (t r : ℕ) →
    ((at : ℕ) × IsLastWrite h t r at (register_at start h t r))
    ⊎ (((by : ℕ) → by ≤ t → write_at h by r ≡ None) × (register_at start h t r ≡ start r))

-- a process that has ended stays as it is, and each cycle before that counts one
abbrev pub EndsStay : Type 0
EndsStay =
    (s : Origin) (n m : ℕ) (end : End) → s.count ≤ n → n ≤ m → (alone s n).ended ≡ Some end → alone s m ≡ alone s n

abbrev pub CyclesCount : Type 0
CyclesCount = (s : Origin) (n : ℕ) → s.count ≤ n → (alone s n).ended ≡ None → (alone s (n + 1)).count ≡ (alone s n).count + 1

-- The packet at an address is these instructions: their words stand from there on, each behind the one before it, and may
-- be run. The word at an address, and whether it may be run, are given; addresses go on from 2 ^ 32 - 4 to 0.
pub record IsPacketAt (may : ℕ → Bool) (word : ℕ → ℕ) (at : ℕ) (instrs : List Instr) : Type 0 where
  pub aligned : at % 4 ≡ 0
  pub there : (k : ℕ) → k < length instrs → may (past at (4 * k)) ≡ true
  pub spelled : (k : ℕ) (i : Instr) → slice_get instrs k ≡ Some i → Spells i (word (past at (4 * k)))
  pub packet : IsPacket instrs

-- the packet that issues at an address is the one there
abbrev pub PacketsAreAtTheirAddress : Type 0
PacketsAreAtTheirAddress =
    (s : Origin) (h : List Effect) (t at : ℕ) (words : List ℕ) (instrs : List Instr) → at < 2 ^ 32 →
    words_of s h t at ≡ Ok words → split_of words ≡ Ok instrs →
    IsPacketAt (may_run s.areas) (λ x. number_at s.big s.bytes h t x 4) at instrs

-- a process that has done nothing yet has a start that is meant
abbrev pub StartsAreMeant : Type 0
StartsAreMeant =
    (big : Bool) (start : Start) (bytes : ℕ → ℕ) (areas : List Area) → 1 ≤ start.limit → IsMeant (origin_of big start bytes areas)
