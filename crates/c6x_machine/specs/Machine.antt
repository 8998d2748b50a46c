-- The machine of one process: its cycles one after another, from an origin.
use Rattle.std.specs.Prelude.{ℕ, zero, suc, ◌+◌, ◌-◌, ◌*◌, ◌%◌, ◌==◌, List, ◌∷◌, length, Option, Some, None, Result, Ok, Err, is_some, nat_le, if◌then◌else◌}
use Rattle.c6x_encoding.specs.declared.instr.Instr.{Instr}
use Rattle.c6x_encoding.specs.declared.effect.Effects.{Effects}
use Rattle.c6x_packet.specs.Packets.{split_of}
use Rattle.c6x_packet.specs.declared.error.PacketError.{PacketError}
use Rattle.c6x_packet.specs.declared.error.PacketError.TheVariants.{BadWord as BadWordAt, TooLong, UnitTwice, SameSide, CrossTwice}
use Rattle.c6x_machine.specs.History.{Effect, Branches, Puts, Issues, issue_at, target_at, output_of, register_at, registers_at}
use Rattle.c6x_machine.specs.Origin.{Origin, most_output, exit_gate, put_gate}
use Rattle.c6x_machine.specs.Packet.{past, words_of, rows_of, ends_if, ◌<|>◌, fault_of, with_packet}
use Rattle.c6x_machine.specs.declared.end.End.{End}
use Rattle.c6x_machine.specs.declared.end.End.TheVariants.{Exit, Fault, Limit}
use Rattle.c6x_machine.specs.declared.fault_kind.FaultKind.TheVariants.{TwoBranches, Fetch, BadWord, BadPacket, OutputFull}

-- What a cycle comes to: the history goes on, or the process ends and the cycle adds nothing.
pub data Outcome : Type 0 where
  Goes : List Effect → Outcome
  Stops : End → Outcome

abbrev pub unless_faulty : Option End → List Effect → Outcome
unless_faulty None h = Goes h
unless_faulty (Some end) h = Stops end

unfoldable pub executed : Origin → List Effect → ℕ → ℕ → ℕ → List Effects → Outcome
executed s h t at next rows = unless_faulty (fault_of s h t at rows) (with_packet s h t next rows)

-- a word that spells no instruction, and the other rules of a packet
abbrev pub fault_of_packet : ℕ → PacketError → End
fault_of_packet at (BadWordAt place) = Fault BadWord (past at (4 * place))
fault_of_packet at TooLong = Fault BadPacket at
fault_of_packet at UnitTwice = Fault BadPacket at
fault_of_packet at SameSide = Fault BadPacket at
fault_of_packet at CrossTwice = Fault BadPacket at

abbrev pub instructed : Origin → List Effect → ℕ → ℕ → Result (List Instr) PacketError → Outcome
instructed s h t at (Err error) = Stops (fault_of_packet at error)
instructed s h t at (Ok instrs) =
    let next = past at (4 * length instrs) in
    executed s h t at next (rows_of instrs at next (registers_at s.registers h t))

abbrev pub fetched : Origin → List Effect → ℕ → ℕ → Result (List ℕ) ℕ → Outcome
fetched s h t at (Err bad) = Stops (Fault Fetch bad)
fetched s h t at (Ok words) = instructed s h t at (split_of words)

-- what the packet at an address comes to
unfoldable pub packet_of : Origin → List Effect → ℕ → ℕ → Outcome
packet_of s h t at = fetched s h t at (words_of s h t at)

-- what the put gate adds: a byte, a target that lands at the next cycle, and an issue
abbrev pub with_put : List Effect → ℕ → ℕ → ℕ → List Effect
with_put h t byte target = Branches (t + 1) target ∷ Issues t (past put_gate 4) 0 ∷ Puts t byte ∷ h

unfoldable pub put_of : Origin → List Effect → ℕ → Outcome
put_of s h t = unless_faulty
    (ends_if (is_some (target_at h (t + 1))) TwoBranches put_gate
    <|> ends_if (nat_le most_output (length (output_of h))) OutputFull put_gate)
    (with_put h t (register_at s.registers h t 4 % 256) (register_at s.registers h t 35))

-- the exit gate ends the process with A4 as its status
unfoldable pub issued : Origin → List Effect → ℕ → ℕ → Outcome
issued s h t at =
    if at == exit_gate then Stops (Exit (register_at s.registers h t 4))
    else (if at == put_gate then put_of s h t else packet_of s h t at)

abbrev pub issued_if : Origin → List Effect → ℕ → Option ℕ → Outcome
issued_if s h t None = Goes h
issued_if s h t (Some at) = issued s h t at

-- what a cycle comes to
unfoldable pub outcome_of : Origin → List Effect → ℕ → Outcome
outcome_of s h t = issued_if s h t (issue_at s.entry h t)

-- A process at a count of cycles.
pub record Life : Type 0 where
  pub history : List Effect
  pub count : ℕ
  pub ended : Option End

-- the limit ends a process that has done its cycles without another end
unfoldable pub limit_end : ℕ → ℕ → Option End
limit_end limit count = if count == limit then Some Limit else None

-- the life at a new count, after a cycle
abbrev pub after : ℕ → ℕ → List Effect → Outcome → Life
after limit count h (Goes g) = record { history = g; count = count; ended = limit_end limit count }
after limit count h (Stops end) = record { history = h; count = count; ended = Some end }

-- ---- cycle after cycle, whatever a cycle comes to

-- what a cycle comes to, by what the process starts from, its history, and the cycle
abbrev pub Machine : Type 0
Machine = Origin → List Effect → ℕ → Outcome

unfoldable pub next_by : Machine → Origin → Life → Life
next_by outcome s l = after s.limit (l.count + 1) l.history (outcome s l.history l.count)

-- after an end nothing changes
abbrev pub go_on_by : Machine → Origin → Life → Option End → Life
go_on_by outcome s l None = next_by outcome s l
go_on_by outcome s l (Some end) = l

unfoldable pub going_by : Machine → Origin → ℕ → Life
going_by outcome s zero = record { history = s.first; count = s.count; ended = None }
going_by outcome s (suc n) = go_on_by outcome s (going_by outcome s n) (going_by outcome s n).ended

unfoldable pub alone_by : Machine → Origin → ℕ → Life
alone_by outcome s n = going_by outcome s (n - s.count)

unfoldable pub life_by : Machine → Origin → ℕ
life_by outcome s = (alone_by outcome s s.limit).count

-- ---- the process alone

abbrev pub next_of : Origin → Life → Life
next_of s l = next_by outcome_of s l

-- The process alone, at a count of cycles that is not below that of its first part.
abbrev pub alone : Origin → ℕ → Life
alone s n = alone_by outcome_of s n

-- how many cycles the process lives
abbrev pub life : Origin → ℕ
life s = life_by outcome_of s
