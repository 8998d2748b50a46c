-- Words of known programs, and the instructions that they are.

use Rattle.std.proofs.Common.{◌≡◌, false, refl, Some, None, replicate}
use Rattle.c6x_base.specs.declared.side.Side.TheVariants.{A, B}
use Rattle.c6x_encoding.specs.declared.access.Access.TheVariants.{Stw}
use Rattle.c6x_encoding.specs.declared.cond.Cond.TheVariants.{Always}
use Rattle.c6x_encoding.specs.declared.move_kind.MoveKind.TheVariants.{Mvk}
use Rattle.c6x_encoding.specs.declared.op.Op.TheVariants.{Move, BranchReg, BranchRegNop, Short}
use Rattle.c6x_encoding.specs.Decoded.{decoded}
use Rattle.c6x_encoding.specs.Rows.{effects_of, only_wait, written_to}

-- MVK .S1 5,A4
mvk : decoded 0x020002A8 ≡ Some (record { condition = Always; op = Move Mvk A 5 4; chained = false })
unfolding decoded
mvk = refl

-- BNOP .S2 B3,5
bnop : decoded 0x008CA362 ≡ Some (record { condition = Always; op = BranchRegNop false 3 5; chained = false })
unfolding decoded
bnop = refl

-- B .S2 B3
branch : decoded 0x000C0362 ≡ Some (record { condition = Always; op = BranchReg false 3; chained = false })
unfolding decoded
branch = refl

-- STW .D2T2 B3,*B15--[2]
store : decoded 0x01BC54F6 ≡ Some (record { condition = Always; op = Short Stw B B 10 2 15 3; chained = false })
unfolding decoded
store = refl

-- creg 7 names no register
no_register : decoded 0xE0000000 ≡ None
unfolding decoded
no_register = refl

mvk_effects : effects_of (record { condition = Always; op = Move Mvk A 5 4; chained = false }) 0 4 (replicate 64 0) ≡ record (only_wait 0) { result = written_to A 4 5 0 }
unfolding effects_of
mvk_effects = refl
