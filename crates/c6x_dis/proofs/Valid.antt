-- What is true of a valid operation beside the bounds of its parts.
use Rattle.std.proofs.Common.{◌≡◌, ℕ, suc, zero, ◌+◌, ◌^◌, ◌<◌, Bool, true, false, ◌&&◌, ◌||◌, not, eqb, IsTrue, List, Option, Some, None, refl, ◌∙◌, ap, subst, ⊎_elim, arith, if◌then◌else◌}
use Rattle.std.specs.Option.{option_map, is_some}
use Rattle.std.proofs.lemmas.Nat.{pow_pos, mod_below}
use Rattle.std.proofs.lemmas.Bool.{cases_eq, and_parts, eqb-true}
use Rattle.c6x_base.specs.declared.side.Side.{Side}
use Rattle.c6x_encoding.specs.declared.arith.Arith.{Arith}
use Rattle.c6x_encoding.specs.declared.arith.Arith.TheVariants.{Add, Sub, And, Or, Xor, CmpEq, CmpGt, CmpLt, CmpGtu, CmpLtu, Shl, Shr, Shru, Mpy, Mpyu}
use Rattle.c6x_encoding.specs.declared.op.Op.{Op}
use Rattle.c6x_encoding.specs.declared.op.Op.TheVariants.{Two, Move, Callp, Nop, Short}
use Rattle.c6x_encoding.specs.declared.first.First.{First}
use Rattle.c6x_encoding.specs.declared.cond.Cond.{Cond}
use Rattle.c6x_encoding.specs.declared.cond.Cond.TheVariants.{Always}
use Rattle.c6x_encoding.specs.declared.access.Access.{Access}
use Rattle.c6x_encoding.specs.declared.move_kind.MoveKind.{MoveKind}
use Rattle.c6x_encoding.specs.declared.unit_kind.UnitKind.{UnitKind}
use Rattle.c6x_encoding.specs.declared.unit_kind.UnitKind.TheVariants.{L, S, D, M}
use Rattle.c6x_encoding.specs.Spelling.{Slot, Mode, two_slots, is_constant, is_part, IsValid}
use Rattle.c6x_encoding.specs.Values.{takes_register}
use Rattle.c6x_encoding.specs.Encoded.{l_code, s_code, d_code, m_code, two_code}
use Rattle.c6x_encoding.proofs.Back.{slots_for-spelled, at_slots, made-spelled}
use Rattle.c6x_asm_lines.specs.Addresses.{mode_number}
use Rattle.c6x_asm_instr.specs.Instructions.{has_form}
use Rattle.c6x_dis.specs.Shown.{mode_of_number}

from_map : (f : ℕ → List Slot) (o : Option ℕ) (slots : List Slot) → option_map f o ≡ Some slots → is_some o ≡ true
from_map f None slots e = cc
from_map f (Some code) slots e = refl

pub two_valid : (condition : Cond) (unit : UnitKind) (arith : Arith) (side : Side) (cross : Bool) (first : First) (second dst : ℕ) (chained : Bool) → IsValid (record { condition = condition; op = Two unit arith side cross first second dst; chained = chained }) → has_form unit arith (is_constant first) ≡ true
two_valid condition unit arith side cross first second dst chained v = from_map (two_slots unit) (two_code unit arith (is_constant first)) _ (slots_for-spelled _ v.0 v.1)

l_form : (a : Arith) → is_some (l_code a true) ≡ true → is_some (l_code a false) ≡ true
unfolding l_code
l_form Add is = refl
l_form Sub is = refl
l_form And is = refl
l_form Or is = refl
l_form Xor is = refl
l_form CmpEq is = refl
l_form CmpGt is = refl
l_form CmpLt is = refl
l_form CmpGtu is = refl
l_form CmpLtu is = refl
l_form _ is = is

s_form : (a : Arith) → is_some (s_code a true) ≡ true → is_some (s_code a false) ≡ true
unfolding s_code
s_form Add is = refl
s_form Sub is = refl
s_form And is = refl
s_form Or is = refl
s_form Xor is = refl
s_form Shl is = refl
s_form Shr is = refl
s_form Shru is = refl
s_form _ is = is

d_form : (a : Arith) → is_some (d_code a true) ≡ true → is_some (d_code a false) ≡ true
unfolding d_code
d_form Add is = refl
d_form Sub is = refl
d_form _ is = is

m_form : (a : Arith) → is_some (m_code a true) ≡ true → is_some (m_code a false) ≡ true
unfolding m_code
m_form Mpy is = refl
m_form Mpyu is = refl
m_form _ is = is

-- what has a form with a constant has one with a register
pub register_form : (unit : UnitKind) (a : Arith) (constant : Bool) → has_form unit a constant ≡ true → has_form unit a false ≡ true
register_form unit a false is = is
register_form L a true is = l_form a is
register_form S a true is = s_form a is
register_form D a true is = d_form a is
register_form M a true is = m_form a is

pub nop_always : (condition : Cond) (cycles : ℕ) (chained : Bool) → IsValid (record { condition = condition; op = Nop cycles; chained = chained }) → Always ≡ condition
nop_always condition cycles chained v = ap (λ i. i.condition) (made-spelled (record { condition = condition; op = Nop cycles; chained = chained }) v.0 v.1)

pub callp_always : (condition : Cond) (side : Side) (field : ℕ) (chained : Bool) → IsValid (record { condition = condition; op = Callp side field; chained = chained }) → Always ≡ condition
callp_always condition side field chained v = ap (λ i. i.condition) (made-spelled (record { condition = condition; op = Callp side field; chained = chained }) v.0 v.1)

pub mode_valid : (condition : Cond) (access : Access) (unit_side value_side : Side) (mode offset base register : ℕ) (chained : Bool) → IsValid (record { condition = condition; op = Short access unit_side value_side mode offset base register; chained = chained }) → IsTrue (is_part Mode mode)
mode_valid condition access unit_side value_side mode offset base register chained v =
    let a = at_slots _ v.0 (slots_for-spelled _ v.0 v.1) v.1.bits in a.1.1.1.1.0.1

-- the number that the assembler reads a shown mode as
abbrev pub read_mode : ℕ → ℕ
read_mode n = if takes_register n then mode_number (mode_of_number n) + 4 else mode_number (mode_of_number n)

all_below : ℕ → (ℕ → Bool) → Bool
all_below zero p = true
all_below (suc n) p = p n && all_below n p

from_all : (n : ℕ) (p : ℕ → Bool) (k : ℕ) → all_below n p ≡ true → k < n → p k ≡ true
unfolding all_below
from_all zero p k all below = absurd (omega arith)
from_all (suc n) p k all below =
    ⊎_elim
    (λ same. ap p same ∙ (and_parts (p n) (all_below n p) all).0)
    (λ differs. from_all n p k (and_parts (p n) (all_below n p) all).1 (omega arith))
    (cases_eq k n)

is_kept : ℕ → Bool
is_kept n = not (is_part Mode n) || eqb (read_mode n) n

modes_kept : all_below 16 is_kept ≡ true
unfolding all_below is_kept
modes_kept = refl

mode_holds : (n : ℕ) (b : Bool) → IsTrue b → (not b || eqb (read_mode n) n) ≡ true → eqb (read_mode n) n ≡ true
mode_holds n true is kept = kept
mode_holds n false is kept = cc

-- a mode that a word may hold is read again as it was shown
pub mode_again : (n : ℕ) → n < 16 → IsTrue (is_part Mode n) → read_mode n ≡ n
unfolding is_kept
mode_again n fits is = eqb-true (read_mode n) n (mode_holds n (is_part Mode n) is (from_all 16 is_kept n modes_kept fits))

crosses : Op → Bool
crosses (Two unit arith side cross first second dst) = cross
crosses _ = false

-- .D has no cross path
pub d_own : (condition : Cond) (arith : Arith) (side : Side) (cross : Bool) (first : First) (second dst : ℕ) (chained : Bool) → IsValid (record { condition = condition; op = Two D arith side cross first second dst; chained = chained }) → false ≡ cross
unfolding crosses
d_own condition arith side cross first second dst chained v = ap (λ i. crosses i.op) (made-spelled (record { condition = condition; op = Two D arith side cross first second dst; chained = chained }) v.0 v.1)

pub move_fits : (condition : Cond) (kind : MoveKind) (side : Side) (bits dst : ℕ) (chained : Bool) → IsValid (record { condition = condition; op = Move kind side bits dst; chained = chained }) → bits < 65536
move_fits condition kind side bits dst chained v =
    let a = at_slots _ v.0 (slots_for-spelled _ v.0 v.1) v.1.bits in subst (λ n. n < 2 ^ 16) a.1.1.0.0 (mod_below _ _ (pow_pos 16))
