-- The packet at an address, the effects of its instructions, and the faults in their order.
use Rattle.std.specs.Prelude.{◌≡◌, ◌-◌, ◌<◌, ◌≤◌, length, slice_index, ℕ, zero, suc, ◌+◌, ◌/◌, ◌%◌, ◌^◌, ◌==◌, List, [], ◌∷◌, ◌++◌, fold, flat_map, count_by, Option, Some, None, Result, Ok, Err, if◌then◌else◌, nat_eq, nat_lt, max, is_some, ◌&&◌, ◌||◌, not, Bool, true, false}
use Rattle.c6x_encoding.specs.declared.instr.Instr.{Instr}
use Rattle.c6x_encoding.specs.declared.effect.Effects.{Effects}
use Rattle.c6x_encoding.specs.declared.write.Write.{Write}
use Rattle.c6x_encoding.specs.declared.mem_op.MemOp.{MemOp}
use Rattle.c6x_encoding.specs.declared.job.Job.{Job}
use Rattle.c6x_encoding.specs.declared.job.Job.TheVariants.{Load, Store}
use Rattle.c6x_encoding.specs.Registers.{place_of}
use Rattle.c6x_encoding.specs.Rows.{effects_of, write_of_access}
use Rattle.c6x_access.specs.declared.area.Area.{Area}
use Rattle.c6x_access.specs.declared.right.Right.TheVariants.{Read, Write as MayWrite, Run}
use Rattle.c6x_access.specs.Rights.{may_access}
use Rattle.c6x_machine.specs.History.{Effect, Writes, Branches, Stores, Issues, write_at, target_at, number_at}
use Rattle.c6x_machine.specs.Origin.{Origin}
use Rattle.c6x_machine.specs.declared.destination.Destination.{Destination}
use Rattle.c6x_machine.specs.declared.end.End.{End}
use Rattle.c6x_machine.specs.declared.end.End.TheVariants.{Fault}
use Rattle.c6x_machine.specs.declared.fault_kind.FaultKind.{FaultKind}
use Rattle.c6x_machine.specs.declared.fault_kind.FaultKind.TheVariants.{TwoBranches, BadRead, BadWrite, Misaligned, TwoStores, TwoWrites}

-- ---- words and instructions

-- addresses are taken modulo 2 ^ 32
abbrev pub past : ℕ → ℕ → ℕ
past at size = (at + size) % 2 ^ 32

-- how many words a packet has at most
unfoldable pub longest : ℕ
longest = 8

abbrev pub prepend : {A : Type 0} → A → Result (List A) ℕ → Result (List A) ℕ
prepend x (Ok xs) = Ok (x ∷ xs)
prepend x (Err at) = Err at

-- a word ends its packet where bit 0 is clear (SPRU732, "Parallel Operations")
abbrev pub with_word : ℕ → Result (List ℕ) ℕ → Result (List ℕ) ℕ
with_word word rest = if word % 2 == 0 then Ok (word ∷ []) else prepend word rest

-- the words of a packet, this many at most; or the first address of a word that may not be run
abbrev pub chain_by : (ℕ → Bool) → (ℕ → ℕ) → ℕ → ℕ → Result (List ℕ) ℕ
chain_by may word at zero = Ok []
chain_by may word at (suc left) = if may at then with_word (word at) (chain_by may word (past at 4) left) else Err at

abbrev pub may_run : List Area → ℕ → Bool
may_run areas at = may_access areas Run at 4

unfoldable pub words_by : (ℕ → Bool) → (ℕ → ℕ) → ℕ → Result (List ℕ) ℕ
words_by may word at = if at % 4 == 0 then chain_by may word at longest else Err at

abbrev pub words_of : Origin → List Effect → ℕ → ℕ → Result (List ℕ) ℕ
words_of s h t at = words_by (may_run s.areas) (λ x. number_at s.big s.bytes h t x 4) at

-- words that go on while bit 0 is set, this many at most
pub record IsChainOf (most : ℕ) (words : List ℕ) : Type 0 where
  pub few : length words ≤ most
  pub some : 0 < most → 1 ≤ length words
  pub chained : (k : ℕ) → k + 1 < length words → slice_index words k % 2 ≡ 1
  pub last : length words < most → slice_index words (length words - 1) % 2 ≡ 0

-- ---- effects

-- one row for each instruction, at its address and with the registers of the packet's cycle
abbrev pub rows_of : List Instr → ℕ → ℕ → List ℕ → List Effects
rows_of [] at next registers = []
rows_of (instr ∷ instrs) at next registers = effects_of instr at next registers ∷ rows_of instrs (past at 4) next registers

-- a packet waits as long as the longest of its instructions
abbrev pub wait_of : List Effects → ℕ
wait_of rows = fold (λ (most : ℕ) (row : Effects). max most row.wait) 0 rows

-- a write with a delay of d cycles is read from d cycles after the next one on
abbrev pub with_write : Option Write → ℕ → List Effect → List Effect
with_write None t h = h
with_write (Some write) t h = Writes (t + 1 + write.delay) (place_of write.side write.register) write.value ∷ h

-- a branch has five delay slots
abbrev pub with_target : Option ℕ → ℕ → List Effect → List Effect
with_target None t h = h
with_target (Some target) t h = Branches (t + 6) target ∷ h

-- a load reads the bytes before this packet's stores
abbrev pub with_load : Origin → List Effect → ℕ → Option MemOp → List Effect → List Effect
with_load s before t None h = h
with_load s before t (Some access) h =
    with_write (write_of_access access (number_at s.big s.bytes before t access.address access.size)) t h

-- the low bytes of a value, in the order in which they stand in memory
abbrev pub low_bytes : Bool → ℕ → ℕ → List ℕ
low_bytes big zero value = []
low_bytes big (suc size) value =
    if big then value / 256 ^ size % 256 ∷ low_bytes big size value
    else value % 256 ∷ low_bytes big size (value / 256)

abbrev pub with_job : Bool → ℕ → List Effect → MemOp → Job → List Effect
with_job big t h access (Load signed side register) = h
with_job big t h access (Store value) = Stores t access.address (low_bytes big access.size value) ∷ h

abbrev pub with_store : Bool → ℕ → List Effect → Option MemOp → List Effect
with_store big t h None = h
with_store big t h (Some access) = with_job big t h access access.job

-- what a row adds but for its store
abbrev pub with_row : Origin → List Effect → ℕ → List Effect → Effects → List Effect
with_row s before t h row =
    with_target row.target t (with_load s before t row.access (with_write row.update t (with_write row.result t h)))

abbrev pub with_stored : Bool → ℕ → List Effect → Effects → List Effect
with_stored big t h row = with_store big t h row.access

-- what a packet adds: its issue, the rows' writes, loads and targets, and their stores
unfoldable pub with_packet : Origin → List Effect → ℕ → ℕ → List Effects → List Effect
with_packet s h t next rows = fold (with_stored s.big t) (fold (with_row s h t) (Issues t next (wait_of rows) ∷ h) rows) rows

-- ---- faults

infixr 5 ◌<|>◌
-- the first of two ends that is there
abbrev pub ◌<|>◌ : Option End → Option End → Option End
None <|> later = later
(Some end) <|> later = Some end

unfoldable pub ends_if : Bool → FaultKind → ℕ → Option End
ends_if fails kind at = if fails then Some (Fault kind at) else None

abbrev pub targets_in : List Effects → ℕ
targets_in rows = count_by (λ (row : Effects). is_some row.target) rows

-- two targets would land at one cycle
unfoldable pub two_targets : List Effect → ℕ → List Effects → Bool
two_targets h t rows = nat_lt 1 (targets_in rows) || (nat_lt 0 (targets_in rows) && is_some (target_at h (t + 6)))

-- the first end that one of the rows gives
abbrev pub first_end : (Option MemOp → Option End) → List Effects → Option End
first_end test [] = None
first_end test (row ∷ rows) = test row.access <|> first_end test rows

abbrev pub bad_read_by : List Area → MemOp → Job → Option End
bad_read_by areas access (Load signed side register) =
    ends_if (not (may_access areas Read access.address access.size)) BadRead access.address
bad_read_by areas access (Store value) = None

abbrev pub bad_read_of : List Area → Option MemOp → Option End
bad_read_of areas None = None
bad_read_of areas (Some access) = bad_read_by areas access access.job

abbrev pub bad_write_by : List Area → MemOp → Job → Option End
bad_write_by areas access (Load signed side register) = None
bad_write_by areas access (Store value) =
    ends_if (not (may_access areas MayWrite access.address access.size)) BadWrite access.address

abbrev pub bad_write_of : List Area → Option MemOp → Option End
bad_write_of areas None = None
bad_write_of areas (Some access) = bad_write_by areas access access.job

abbrev pub misaligned_of : Option MemOp → Option End
misaligned_of None = None
misaligned_of (Some access) = ends_if (not (access.address % access.size == 0)) Misaligned access.address

abbrev pub is_store : Job → Bool
is_store (Load signed side register) = false
is_store (Store value) = true

abbrev pub overlap : MemOp → MemOp → Bool
overlap first other = nat_lt first.address (other.address + other.size) && nat_lt other.address (first.address + first.size)

-- the other access is a store that shares a byte with this one
abbrev pub shares : Option MemOp → Option MemOp → Option End
shares None other = None
shares (Some first) None = None
shares (Some first) (Some other) =
    ends_if (is_store first.job && (is_store other.job && overlap first other)) TwoStores other.address

-- a store that shares a byte with an earlier one of the packet
abbrev pub two_stores : List Effects → Option End
two_stores [] = None
two_stores (row ∷ rows) = first_end (shares row.access) rows <|> two_stores rows

abbrev pub destination_of : ℕ → Option Write → List Destination
destination_of t None = []
destination_of t (Some write) = record { at = t + 1 + write.delay; register = place_of write.side write.register } ∷ []

-- a load writes at the same cycle whatever it reads
abbrev pub load_destination_of : ℕ → Option MemOp → List Destination
load_destination_of t None = []
load_destination_of t (Some access) = destination_of t (write_of_access access 0)

-- the writes of a row, each by its destination cycle and its register
abbrev pub destinations_of_row : ℕ → Effects → List Destination
destinations_of_row t row = destination_of t row.result ++ (destination_of t row.update ++ load_destination_of t row.access)

abbrev pub destinations_in : ℕ → List Effects → List Destination
destinations_in t rows = flat_map (destinations_of_row t) rows

abbrev pub is_among : Destination → List Destination → Bool
is_among destination [] = false
is_among destination (other ∷ others) = (nat_eq destination.at other.at && nat_eq destination.register other.register) || is_among destination others

-- a write lands with an earlier one, or with a later one of the packet
abbrev pub two_writes_by : (ℕ → ℕ → Bool) → List Destination → Bool
two_writes_by taken [] = false
two_writes_by taken (destination ∷ destinations) =
    taken destination.at destination.register || (is_among destination destinations || two_writes_by taken destinations)

abbrev pub two_writes : List Effect → List Destination → Bool
two_writes h destinations = two_writes_by (λ t r. is_some (write_at h t r)) destinations

-- the first fault of a packet, in the order of the faults
unfoldable pub fault_by : List Area → Bool → (ℕ → ℕ → Bool) → ℕ → ℕ → List Effects → Option End
fault_by areas branches taken t at rows =
    ends_if branches TwoBranches at
    <|> first_end (bad_read_of areas) rows
    <|> first_end (bad_write_of areas) rows
    <|> first_end misaligned_of rows
    <|> two_stores rows
    <|> ends_if (two_writes_by taken (destinations_in t rows)) TwoWrites at

abbrev pub fault_of : Origin → List Effect → ℕ → ℕ → List Effects → Option End
fault_of s h t at rows = fault_by s.areas (two_targets h t rows) (λ c r. is_some (write_at h c r)) t at rows
