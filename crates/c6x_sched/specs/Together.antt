-- Processes on one board.
use Rattle.std.specs.Prelude.{◌≡◌, ◌≢◌, ℕ, ◌≤◌, List, length, slice_get, Some, true, false}
use Rattle.c6x_spec.specs.Memory.{Memory, byte_in}
use Rattle.c6x_access.specs.Rights.{is_own, allowed}
use Rattle.c6x_access.specs.declared.right.Right.TheVariants.{Write}
use Rattle.c6x_board.specs.Lane.{LieOn}
use Rattle.c6x_machine.specs.Origin.{Origin}
use Rattle.c6x_exec.specs.Process.{areas_of, StandsFor}
use Rattle.c6x_exec.specs.declared.process.Process.{Process}

-- Each process and the board stand for its start and its own count of cycles.
abbrev pub AllStand : List Process → Memory → (ℕ → Origin) → (ℕ → ℕ) → Type 0
AllStand ps b s n = (i : ℕ) (p : Process) → slice_get ps i ≡ Some p → StandsFor p b (s i) (n i)

-- No writable byte of one lies in an area of another.
abbrev pub AreApart : List Process → Type 0
AreApart ps =
    (i j : ℕ) (p q : Process) (x : ℕ) → i ≢ j → slice_get ps i ≡ Some p → slice_get ps j ≡ Some q
    → is_own (areas_of q) x ≡ true → allowed (areas_of p) Write x ≡ false

-- The areas of all lie on the board.
abbrev pub AllLieOn : Memory → List Process → Type 0
AllLieOn b ps = (i : ℕ) (p : Process) → slice_get ps i ≡ Some p → LieOn b (areas_of p)

-- Every byte that none of them may write is as before.
pub record AreFramed (ps : List Process) (before after : Memory) : Type 0 where
  pub base : after.base ≡ before.base
  pub size : length after.bytes ≡ length before.bytes
  pub others : (x : ℕ) → before.base ≤ x
      → ((i : ℕ) (p : Process) → slice_get ps i ≡ Some p → allowed (areas_of p) Write x ≡ false) → byte_in after x ≡ byte_in before x
