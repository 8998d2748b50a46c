-- The bounds of a valid operation's parts.

use Rattle.std.specs.Prelude.{◌^◌, ◌<◌, ◌≤◌}
use Rattle.c6x_encoding.specs.declared.op.Op.{Op}
use Rattle.c6x_encoding.specs.declared.op.Op.TheVariants.{Two, Move, Branch, Callp, BranchNop, BranchReg, BranchRegNop, AddKpc, Nop, Short, Long}
use Rattle.c6x_encoding.specs.Spelling.{first_bits}

-- Each part fits its field, and a NOP has at most nine cycles.
abbrev pub FitsOp : Op → Type 0
FitsOp (Two unit arith side cross first second dst) = (first_bits first < 32) × (second < 32) × (dst < 32)
FitsOp (Move kind side constant dst) = dst < 32
FitsOp (Branch side field) = field < 2 ^ 21
FitsOp (Callp side field) = field < 2 ^ 21
FitsOp (BranchNop side field wait) = (field < 2 ^ 12) × (wait < 8)
FitsOp (BranchReg cross source) = source < 32
FitsOp (BranchRegNop cross source wait) = (source < 32) × (wait < 8)
FitsOp (AddKpc field wait dst) = (field < 2 ^ 7) × (wait < 8) × (dst < 32)
FitsOp (Nop cycles) = (1 ≤ cycles) × (cycles ≤ 9)
FitsOp (Short access unit_side value_side mode offset base register) =
    (mode < 16) × (offset < 32) × (base < 32) × (register < 32)
FitsOp (Long access value_side base15 offset register) = (offset < 2 ^ 15) × (register < 32)
