-- The groups of opcodes: which form a word may have, found by a few tests of its bits.

use Rattle.std.specs.Prelude.{ℕ, nat_eq, true, false, Option, None, Some, if◌then◌else◌}
use Rattle.c6x_spec.specs.Fields.{bits_of}
use Rattle.c6x_encoding.specs.declared.arith.Arith.TheVariants.{Add, Sub, And, Or, Xor, CmpEq, CmpGt, CmpLt, CmpGtu, CmpLtu, Shl, Shr, Shru, Mpy, Mpyu}
use Rattle.c6x_encoding.specs.declared.form.Form.{Form}
use Rattle.c6x_encoding.specs.declared.form.Form.TheVariants.{Two, Move, Branch, Callp, BranchNop, BranchReg, BranchRegNop, AddKpc, Nop, Short, Long}
use Rattle.c6x_encoding.specs.declared.move_kind.MoveKind.TheVariants.{Mvk, Mvkh, Addk}
use Rattle.c6x_encoding.specs.declared.unit_kind.UnitKind.TheVariants.{L, S, D, M}

-- A tree of tests, each of whether some bits of a word have a value.
pub data Tree : Type 0 where
  Gives : Form → Tree
  Nothing : Tree
  Test : ℕ → ℕ → ℕ → Tree → Tree → Tree

-- The form that the tests lead to.
abbrev pub form_by : Tree → ℕ → Option Form
form_by (Gives form) word = Some form
form_by Nothing word = None
form_by (Test low count value met other) word =
    if nat_eq (bits_of word low count) value then form_by met word else form_by other word

-- The opcodes of a unit.
unfoldable pub l_tree : Tree
l_tree =
    Test 5 7 0x03 (Gives (Two L Add false)) (Test 5 7 0x02 (Gives (Two L Add true))
    (Test 5 7 0x07 (Gives (Two L Sub false)) (Test 5 7 0x06 (Gives (Two L Sub true))
    (Test 5 7 0x7B (Gives (Two L And false)) (Test 5 7 0x7A (Gives (Two L And true))
    (Test 5 7 0x7F (Gives (Two L Or false)) (Test 5 7 0x7E (Gives (Two L Or true))
    (Test 5 7 0x6F (Gives (Two L Xor false)) (Test 5 7 0x6E (Gives (Two L Xor true))
    (Test 5 7 0x53 (Gives (Two L CmpEq false)) (Test 5 7 0x52 (Gives (Two L CmpEq true))
    (Test 5 7 0x47 (Gives (Two L CmpGt false)) (Test 5 7 0x46 (Gives (Two L CmpGt true))
    (Test 5 7 0x57 (Gives (Two L CmpLt false)) (Test 5 7 0x56 (Gives (Two L CmpLt true))
    (Test 5 7 0x4F (Gives (Two L CmpGtu false)) (Test 5 7 0x5F (Gives (Two L CmpLtu false)) Nothing)))))))))))))))))

-- .S, with the branches to a register, ADDKPC and BNOP with a displacement, whose low bits are those of .S.
unfoldable pub s_tree : Tree
s_tree =
    Test 6 6 0x07 (Gives (Two S Add false)) (Test 6 6 0x06 (Gives (Two S Add true))
    (Test 6 6 0x17 (Gives (Two S Sub false)) (Test 6 6 0x16 (Gives (Two S Sub true))
    (Test 6 6 0x1F (Gives (Two S And false)) (Test 6 6 0x1E (Gives (Two S And true))
    (Test 6 6 0x1B (Gives (Two S Or false)) (Test 6 6 0x1A (Gives (Two S Or true))
    (Test 6 6 0x0B (Gives (Two S Xor false)) (Test 6 6 0x0A (Gives (Two S Xor true))
    (Test 6 6 0x33 (Gives (Two S Shl false)) (Test 6 6 0x32 (Gives (Two S Shl true))
    (Test 6 6 0x37 (Gives (Two S Shr false)) (Test 6 6 0x36 (Gives (Two S Shr true))
    (Test 6 6 0x27 (Gives (Two S Shru false)) (Test 6 6 0x26 (Gives (Two S Shru true))
    (Test 6 6 0x04 (Gives BranchNop) (Test 6 6 0x05 (Gives AddKpc)
    (Test 6 6 0x0D (Test 23 5 0 (Gives BranchReg) (Gives BranchRegNop)) Nothing))))))))))))))))))

unfoldable pub d_tree : Tree
d_tree =
    Test 7 6 0x10 (Gives (Two D Add false)) (Test 7 6 0x12 (Gives (Two D Add true))
    (Test 7 6 0x11 (Gives (Two D Sub false)) (Test 7 6 0x13 (Gives (Two D Sub true)) Nothing)))

-- .M, with NOP, whose low bits are those of .M.
unfoldable pub m_tree : Tree
m_tree =
    Test 7 5 0x19 (Gives (Two M Mpy false)) (Test 7 5 0x18 (Gives (Two M Mpy true))
    (Test 7 5 0x1F (Gives (Two M Mpyu false)) (Test 7 5 0x00 (Gives Nop) Nothing)))

-- The words whose bits 4 to 2 are 100: a displacement or ADDK.
unfoldable pub displacement_tree : Tree
displacement_tree =
    Test 5 2 0 (Test 28 4 1 (Gives Callp) (Gives Branch)) (Test 5 2 2 (Gives (Move Addk)) Nothing)

-- The words whose bits 3 and 2 are 0.
unfoldable pub even_tree : Tree
even_tree = Test 2 3 4 displacement_tree (Test 5 1 1 s_tree (Test 6 1 1 d_tree m_tree))

-- The words whose bits 3 and 2 are 10.
unfoldable pub constant_tree : Tree
constant_tree =
    Test 4 1 1 l_tree (Test 4 3 2 (Gives (Move Mvk)) (Test 4 3 6 (Gives (Move Mvkh)) Nothing))

unfoldable pub tree : Tree
tree = Test 2 2 0 even_tree (Test 2 2 1 (Gives Short) (Test 2 2 2 constant_tree (Gives Long)))
