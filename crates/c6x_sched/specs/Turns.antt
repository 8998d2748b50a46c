-- Which processes are ready, and how far turns have brought them.
use Rattle.std.specs.Prelude.{ℕ, zero, suc, ◌+◌, ◌-◌, List, [], ◌∷◌, is_none, nat_eq, if◌then◌else◌}
use Rattle.c6x_machine.specs.Machine.{alone}
use Rattle.c6x_machine.specs.Origin.{Origin}
use Rattle.c6x_exec.specs.Process.{ended_of, cycles_of, limit_of}
use Rattle.c6x_exec.specs.declared.process.Process.{Process}

-- The numbers of the processes that have not ended, ascending; the first of these processes has the number `first`.
abbrev pub ready_from : ℕ → List Process → List ℕ
ready_from first [] = []
ready_from first (p ∷ ps) = if is_none (ended_of p) then first ∷ ready_from (first + 1) ps else ready_from (first + 1) ps

unfoldable pub ready_of : List Process → List ℕ
ready_of ps = ready_from 0 ps

-- The same by the machines alone: of this many processes from the number `first` on, those whose life from its start has
-- not ended at its count of cycles.
abbrev pub open_from : (ℕ → Origin) → (ℕ → ℕ) → ℕ → ℕ → List ℕ
open_from s n first zero = []
open_from s n first (suc more) =
    if is_none (alone (s first) (n first)).ended then first ∷ open_from s n (first + 1) more else open_from s n (first + 1) more

-- The counts after one process has done some cycles more.
abbrev pub moved : (ℕ → ℕ) → ℕ → ℕ → ℕ → ℕ
moved n process cycles i = if nat_eq i process then n i + cycles else n i

-- How many cycles a process, and all processes together, may do yet at most.
abbrev pub cycles_left : Process → ℕ
cycles_left p = limit_of p - cycles_of p

abbrev pub all_left : List Process → ℕ
all_left [] = 0
all_left (p ∷ ps) = cycles_left p + all_left ps
