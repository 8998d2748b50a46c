-- The registers of the groups below the one at hand have what lands there, and the others are as before.
use Rattle.std.proofs.Common.{◌≡◌, ◌≢◌, ℕ, ◌/◌, ◌<◌, ◌≤◌, length, None}
use Rattle.std.specs.Prelude.{slice_index, unwrap_or}
use Rattle.c6x_exec.specs.Pending.{due, slot_of}
use Rattle.c6x_exec.proofs.register_file.land.Given as goal

abbrev pub invariant-loop-group : goal.invariant-loop-group
invariant-loop-group l = record {
  whole : length l.registers ≡ 64;
  done : (r : ℕ) → r / 8 < l.group → (slice_index l.groups (slot_of l.at r / 8) ≢ l.at → due l.stamps l.values l.at r ≡ None) → slice_index l.registers r ≡ unwrap_or (due l.stamps l.values l.at r) (slice_index l.fn.registers r);
  left : (r : ℕ) → l.group ≤ r / 8 → slice_index l.registers r ≡ slice_index l.fn.registers r;
}
