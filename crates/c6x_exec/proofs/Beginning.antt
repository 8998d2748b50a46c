-- A process before its first cycle.
use Rattle.std.proofs.Common.{◌≡◌, ◌≢◌, ℕ, zero, suc, ◌%◌, ◌<◌, List, [], ◌∷◌, refl, arith, Some, None, nat_lt, false}
use Rattle.std.specs.Prelude.{slice_index, slice_set, replicate, if◌then◌else◌}
use Rattle.std.proofs.lemmas.Bool.Decides.{nat_tests}
use Rattle.c6x_spec.specs.Memory.{Memory}
use Rattle.c6x_access.specs.declared.area.Area.{Area}
use Rattle.c6x_machine.specs.Machine.{alone_by, going_by}
use Rattle.c6x_exec.specs.Process.{StandsFor, ended_of, areas_of}
use Rattle.c6x_exec.specs.Stands.{Tracks}
use Rattle.c6x_exec.specs.declared.process.Process.{Process}
use Rattle.c6x_machine.specs.History.{registers_at}
use Rattle.c6x_machine.specs.Origin.{origin_of, start_register, exit_gate}
use Rattle.c6x_exec.specs.Pending.{stamped, due, target_due, slot_of}
use Rattle.c6x_machine.specs.declared.start.Start.{Start}

pub zeros : (n i : ℕ) → slice_index (replicate n 0) i ≡ 0
zeros zero i = refl
zeros (suc n) zero = refl
zeros (suc n) (suc i) = zeros n i

first_stamps : (i t : ℕ) → i ≡ t % 8 → slice_index (1 ∷ replicate 7 0) i ≢ t
first_stamps zero t is same = omega arith
first_stamps (suc i) t is same = let none : slice_index (replicate 7 0) i ≡ 0 = zeros 7 i in omega arith

pub no_stamp : (t : ℕ) → slice_index (1 ∷ replicate 7 0) (t % 8) ≢ t
no_stamp t = first_stamps (t % 8) t refl

pub start_list : (start : Start) → slice_set (slice_set (slice_set (slice_set (replicate 64 0) 4 start.arg) 35 exit_gate) 46 start.b14) 47 start.b15 ≡ registers_at (start_register start) [] 0
unfolding registers_at
start_list start = refl

pub none_due : (stamps values : List ℕ) (t r : ℕ) → ((i : ℕ) → slice_index stamps i ≡ 0) → 0 < t → None ≡ due stamps values t r
unfolding stamped
none_due stamps values t r empty later = let none : slice_index stamps (slot_of t r) ≡ 0 = empty (slot_of t r) in rw none (grind (arith, nat_tests))

pub no_target_due : (stamps targets : List ℕ) (t : ℕ) → slice_index stamps (t % 8) ≢ t → None ≡ target_due stamps targets t
unfolding stamped
no_target_due stamps targets t none = grind (arith, nat_tests)

pub entry_due : (entry t : ℕ) → Some entry ≡ (if nat_lt t 0 then None else Some entry)
entry_due entry t = grind (arith, nat_tests)

pub stands_at_start : (p : Process) (b : Memory) (start : Start) (bytes : ℕ → ℕ) (areas : List Area) → areas_of p ≡ areas → Tracks p.context b (origin_of false start bytes areas) [] 0 0 → ended_of p ≡ None → StandsFor p b (origin_of false start bytes areas) 0
unfolding alone_by going_by
stands_at_start p b start bytes areas areas_are tracks running = record {
  began = omega arith;
  lives = refl;
  areas = areas_are;
  keeps = record { ended = running; tracks = tracks };
}
