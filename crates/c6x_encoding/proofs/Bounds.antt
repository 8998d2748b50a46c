-- The parts of a spelled instruction fit their fields.

use Rattle.std.proofs.Common.{◌≡◌, ℕ, ◌^◌, ◌<◌, ◌≤◌, nat_lt, Bool, IsTrue, List, Some, subst, arith}
use Rattle.std.proofs.lemmas.Nat.{pow_pos, mod_below}
use Rattle.std.proofs.lemmas.Bool.Decides.{nat_tests}
use Rattle.c6x_spec.specs.Fields.{bits_of}
use Rattle.c6x_encoding.specs.declared.instr.Instr.{Instr}
use Rattle.c6x_encoding.specs.declared.op.Op.{Op}
use Rattle.c6x_encoding.specs.declared.op.Op.TheVariants.{Two, Move, Branch, Callp, BranchNop, BranchReg, BranchRegNop, AddKpc, Nop, Short, Long}
use Rattle.c6x_encoding.specs.declared.cond.Cond.{Cond}
use Rattle.c6x_encoding.specs.declared.unit_kind.UnitKind.TheVariants.{L, S, D, M}
use Rattle.c6x_encoding.specs.Spelling.{Slot, two_slots, count_bits, part_of, form_of, AreBits, IsValid}
use Rattle.c6x_encoding.specs.Bounds.{FitsOp}
use Rattle.c6x_encoding.specs.Encoded.{slots_for}
use Rattle.c6x_encoding.proofs.Back.{slots_for-spelled, at_slots, mapped_some}

part_below : (word low count value : ℕ) → bits_of word low count ≡ value → value < 2 ^ count
part_below word low count value is = subst (λ n. n < 2 ^ count) is (mod_below _ _ (pow_pos count))

cycles_between : (cycles : ℕ) → IsTrue (nat_lt (count_bits cycles) 9) → (1 ≤ cycles) × (cycles ≤ 9)
cycles_between cycles may = (grind (arith, nat_tests), grind (arith, nat_tests))

fits_fields : (condition : Cond) (op : Op) (chained : Bool) (word : ℕ) (slots : List Slot) → slots_for (form_of op) ≡ Some slots → AreBits slots (part_of (record { condition = condition; op = op; chained = chained })) word → FitsOp op
fits_fields condition (Two L arith side cross first second dst) chained word slots known are =
    let coded = mapped_some (two_slots L) _ slots known in
    let a = at_slots {s = two_slots L coded.0} _ word coded.1 are in
    (part_below word 13 5 _ a.1.1.1.0.0, part_below word 18 5 _ a.1.1.0.0, part_below word 23 5 _ a.1.0.0)
fits_fields condition (Two S arith side cross first second dst) chained word slots known are =
    let coded = mapped_some (two_slots S) _ slots known in
    let a = at_slots {s = two_slots S coded.0} _ word coded.1 are in
    (part_below word 13 5 _ a.1.1.1.0.0, part_below word 18 5 _ a.1.1.0.0, part_below word 23 5 _ a.1.0.0)
fits_fields condition (Two D arith side cross first second dst) chained word slots known are =
    let coded = mapped_some (two_slots D) _ slots known in
    let a = at_slots {s = two_slots D coded.0} _ word coded.1 are in
    (part_below word 13 5 _ a.1.1.1.0.0, part_below word 18 5 _ a.1.1.0.0, part_below word 23 5 _ a.1.0.0)
fits_fields condition (Two M arith side cross first second dst) chained word slots known are =
    let coded = mapped_some (two_slots M) _ slots known in
    let a = at_slots {s = two_slots M coded.0} _ word coded.1 are in
    (part_below word 13 5 _ a.1.1.1.0.0, part_below word 18 5 _ a.1.1.0.0, part_below word 23 5 _ a.1.0.0)
fits_fields condition (Move kind side constant dst) chained word slots known are =
    let a = at_slots _ word known are in part_below word 23 5 _ a.1.0.0
fits_fields condition (Branch side field) chained word slots known are =
    let a = at_slots _ word known are in part_below word 7 21 _ a.1.0.0
fits_fields condition (Callp side field) chained word slots known are =
    let a = at_slots _ word known are in part_below word 7 21 _ a.1.1.0.0
fits_fields condition (BranchNop side field wait) chained word slots known are =
    let a = at_slots _ word known are in (part_below word 16 12 _ a.1.0.0, part_below word 13 3 _ a.1.1.0.0)
fits_fields condition (BranchReg cross source) chained word slots known are =
    let a = at_slots _ word known are in part_below word 18 5 _ a.1.1.0.0
fits_fields condition (BranchRegNop cross source wait) chained word slots known are =
    let a = at_slots _ word known are in (part_below word 18 5 _ a.1.1.0.0, part_below word 13 3 _ a.1.1.1.1.0.0)
fits_fields condition (AddKpc field wait dst) chained word slots known are =
    let a = at_slots _ word known are in
    (part_below word 16 7 _ a.1.1.0.0, part_below word 13 3 _ a.1.1.1.0.0, part_below word 23 5 _ a.1.0.0)
fits_fields condition (Nop cycles) chained word slots known are =
    let a = at_slots _ word known are in cycles_between cycles a.1.1.0.1
fits_fields condition (Short access unit_side value_side mode offset base register) chained word slots known are =
    let a = at_slots _ word known are in
    (part_below word 9 4 _ a.1.1.1.1.0.0, part_below word 13 5 _ a.1.1.1.0.0, part_below word 18 5 _ a.1.1.0.0, part_below word 23 5 _ a.1.0.0)
fits_fields condition (Long access value_side base15 offset register) chained word slots known are =
    let a = at_slots _ word known are in (part_below word 8 15 _ a.1.1.0.0, part_below word 23 5 _ a.1.0.0)

-- What a word spells has parts in their bounds.
pub fits_valid : (i : Instr) → IsValid i → FitsOp i.op
fits_valid i v = fits_fields i.condition i.op i.chained v.0 v.1.row.slots (slots_for-spelled i v.0 v.1) v.1.bits
