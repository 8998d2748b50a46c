use Rattle.std.proofs.Common.{ℕ, List, length, ap, refl, arith}
use Rattle.std.proofs.lemmas.List.{length-replicate}
use Rattle.c6x_load.specs.Values.{filled}
use Rattle.c6x_spec.proofs.Writes.{written_behind}
use Rattle.c6x_load.proofs.range.fill_segment.Goals as goal

-- the zeros begin where the file bytes end
pub returns : goal.returns
unfolding filled
returns c =
    let same = ap (λ (bytes : List ℕ). length bytes) c.as_bytes-bytes.ensures in
    let copied = rw c.as_bytes-bytes.ensures at c.copy_in.ensures.after in
    let cleared = rw c.as_bytes-bytes.ensures at c.zero.ensures.after in
    written_behind _ _ _ _ _ _ _ copied cleared refl c.requires.room.above (simp length-replicate (omega arith))
