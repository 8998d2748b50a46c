-- A process and a board stand for an origin and a count of its cycles.
use Rattle.std.specs.Prelude.{◌≡◌, ◌≢◌, ◌%◌, ◌/◌, slice_index, ℕ, ◌+◌, ◌<◌, ◌≤◌, List, Option, Some, None, true, false}
use Rattle.c6x_spec.specs.Memory.{Memory, byte_in}
use Rattle.c6x_machine.specs.History.{Effect, write_at, registers_at, target_at, behind_at, byte_at, output_of}
use Rattle.c6x_access.specs.declared.area.Area.{Area}
use Rattle.c6x_access.specs.Rights.{is_own}
use Rattle.c6x_machine.specs.Origin.{Origin}
use Rattle.c6x_exec.specs.Pending.{slot_of}
use Rattle.c6x_exec.specs.View.{pending_write, pending_target, behind_of}
use Rattle.c6x_machine.specs.Machine.{Life, Outcome, Goes, Stops}
use Rattle.c6x_machine.specs.declared.end.End.{End}
use Rattle.c6x_exec.specs.declared.context.Context.{Context}

-- the board holds these start bytes in the areas
abbrev pub HoldsBytes : Memory → (ℕ → ℕ) → List Area → Type 0
HoldsBytes b bytes areas = (x : ℕ) → is_own areas x ≡ true → byte_in b x ≡ bytes x

-- the board holds the bytes of the areas at a cycle, and numbers in them have their first byte worth least
pub record HoldsAt (b : Memory) (s : Origin) (h : List Effect) (t : ℕ) : Type 0 where
  pub order : s.big ≡ false
  pub bytes : (x : ℕ) → is_own s.areas x ≡ true → byte_in b x ≡ byte_at s.bytes h t x

-- The process has done a history up to cycle n, and holds what is to come from cycle m on: between cycles m is n, and
-- within one it is n + 1.
pub record Tracks (p : Context) (b : Memory) (s : Origin) (h : List Effect) (n m : ℕ) : Type 0 where
  pub order : s.big ≡ false
  pub limit : p.limit ≡ s.limit
  pub cycles : p.cycles ≡ n
  pub output : p.output.items ≡ output_of h
  pub registers : p.registers ≡ registers_at s.registers h n
  -- the pending writes are those that land after n
  pub writes : (t r : ℕ) → r < 64 → n < t → write_at h t r ≡ pending_write p t r
  pub late_writes : (t r : ℕ) → m + 4 < t → write_at h t r ≡ None
  -- at a cycle that is no stamp of an arrival nothing lands
  pub arrivals : (t r : ℕ) → r < 64 → n < t → slice_index p.writes.arrivals (t % 8) ≢ t → write_at h t r ≡ None
  -- nor on the eight registers of a group that is not stamped
  pub groups : (t r : ℕ) → r < 64 → n < t → slice_index p.writes.groups (slot_of t r / 8) ≢ t → write_at h t r ≡ None
  -- the pending targets are those that land at m or later
  pub targets : (t : ℕ) → m ≤ t → target_at h t ≡ pending_target p t
  pub late_targets : (t : ℕ) → m + 5 < t → target_at h t ≡ None
  -- the address behind the last packet or gate, through whose wait nothing issues
  pub behind : (t : ℕ) → behind_at s.entry h t ≡ behind_of p t
  -- the board holds the bytes of the areas
  pub bytes : (t x : ℕ) → is_own s.areas x ≡ true → m ≤ t → byte_in b x ≡ byte_at s.bytes h t x

-- the process is at this point of the life
pub record Keeps (p : Context) (b : Memory) (s : Origin) (l : Life) : Type 0 where
  pub ended : p.ended ≡ l.ended
  pub tracks : Tracks p b s l.history l.count l.count

-- The answer within a cycle is that of the outcome, and the process has done it, or has stopped where it was.
abbrev pub Comes : Option End → Outcome → Context → Memory → Origin → List Effect → ℕ → Type 0
Comes None (Goes g) p b s h n = Tracks p b s g n (n + 1)
Comes (Some end) (Stops stop) p b s h n = (end ≡ stop) × Tracks p b s h n (n + 1)
Comes None (Stops stop) p b s h n = ⊥
Comes (Some end) (Goes g) p b s h n = ⊥
