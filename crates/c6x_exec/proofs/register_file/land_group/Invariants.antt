-- The registers of the group below the one at hand have what lands there, and the others are as before.
use Rattle.std.proofs.Common.{◌≡◌, ℕ, ◌+◌, ◌*◌, ◌<◌, ◌≤◌, ◌⊎◌, length}
use Rattle.std.specs.Prelude.{slice_index, unwrap_or}
use Rattle.c6x_exec.specs.Pending.{due}
use Rattle.c6x_exec.proofs.register_file.land_group.Given as goal

abbrev pub invariant-loop-place : goal.invariant-loop-place
invariant-loop-place l = record {
  whole : length l.registers ≡ 64;
  done : (r : ℕ) → l.group * 8 ≤ r → r < l.group * 8 + l.place → slice_index l.registers r ≡ unwrap_or (due l.stamps l.values l.at r) (slice_index l.fn.registers r);
  left : (r : ℕ) → (r < l.group * 8) ⊎ (l.group * 8 + l.place ≤ r) → slice_index l.registers r ≡ slice_index l.fn.registers r;
}
