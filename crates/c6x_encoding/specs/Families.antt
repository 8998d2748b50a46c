-- Families of operations, by what their rows have in common.

use Rattle.std.specs.Prelude.{Bool, true, false}
use Rattle.c6x_encoding.specs.declared.op.Op.{Op}
use Rattle.c6x_encoding.specs.declared.op.Op.TheVariants.{Two, Move, Branch, Callp, BranchNop, BranchReg, BranchRegNop, Short, Long}

-- An operation that computes the value of a register, and does nothing else.
abbrev pub is_computing : Op → Bool
is_computing (Two unit arith side cross first second dst) = true
is_computing (Move kind side constant dst) = true
is_computing _ = false

abbrev pub is_branch : Op → Bool
is_branch (Branch side field) = true
is_branch (Callp side field) = true
is_branch (BranchNop side field wait) = true
is_branch (BranchReg cross source) = true
is_branch (BranchRegNop cross source wait) = true
is_branch _ = false

-- A load or a store.
abbrev pub is_access : Op → Bool
is_access (Short access unit_side value_side mode offset base register) = true
is_access (Long access value_side base15 offset register) = true
is_access _ = false
