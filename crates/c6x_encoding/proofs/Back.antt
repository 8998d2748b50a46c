-- The instruction made of a spelled word's form and fields is the one that the word spells.

use Rattle.std.proofs.Common.{◌≡◌, ℕ, ◌+◌, ◌/◌, ◌%◌, Bool, true, false, nat_eq, nat_lt, IsTrue, List, Option, Some, None, refl, sym, ◌∙◌, ap, subst, arith}
use Rattle.std.specs.Option.{option_map}
use Rattle.std.proofs.lemmas.Bool.Decides.{nat_tests}
use Rattle.c6x_spec.specs.Fields.{bits_of}
use Rattle.c6x_base.specs.declared.side.Side.{Side}
use Rattle.c6x_base.specs.declared.side.Side.TheVariants.{A, B}
use Rattle.c6x_encoding.specs.declared.access.Access.{Access}
use Rattle.c6x_encoding.specs.declared.access.Access.TheVariants.{Ldhu}
use Rattle.c6x_encoding.specs.declared.cond.Cond.{Cond}
use Rattle.c6x_encoding.specs.declared.cond.Cond.TheVariants.{Always, If}
use Rattle.c6x_encoding.specs.declared.cond_reg.CondReg.TheVariants.{B0, B1, B2, A1, A2, A0}
use Rattle.c6x_encoding.specs.declared.first.First.{First}
use Rattle.c6x_encoding.specs.declared.first.First.TheVariants.{Register, Constant}
use Rattle.c6x_encoding.specs.declared.instr.Instr.{Instr}
use Rattle.c6x_encoding.specs.declared.op.Op.{Op}
use Rattle.c6x_encoding.specs.declared.op.Op.TheVariants.{Two, Move, Branch, Callp, BranchNop, BranchReg, BranchRegNop, AddKpc, Nop, Short, Long}
use Rattle.c6x_encoding.specs.declared.unit_kind.UnitKind.TheVariants.{L, S, D, M}
use Rattle.c6x_encoding.specs.Spelling.{Part, Slot, two_slots, bit_of, side_bit, condition_bits, access_bits, first_bits, is_constant, count_bits, part_of, form_of, AreBits, Spells}
use Rattle.c6x_encoding.specs.Decoded.{is_set, side_at, side_from, condition_from, access_from, first_from, made}
use Rattle.c6x_encoding.specs.Encoded.{slots_for}
use Rattle.c6x_encoding.proofs.Forms.{slots_for-row}

side_back : (word place : ℕ) (side : Side) → bits_of word place 1 ≡ side_bit side → side_at word place ≡ side
side_back word place A e = ap (λ n. side_from (nat_eq n 1)) e
side_back word place B e = ap (λ n. side_from (nat_eq n 1)) e

bool_back : (word place : ℕ) (b : Bool) → bits_of word place 1 ≡ bit_of b → is_set word place ≡ b
bool_back word place false e = ap (λ n. nat_eq n 1) e
bool_back word place true e = ap (λ n. nat_eq n 1) e

condition_same : (c : Cond) → condition_from (condition_bits c / 2) (nat_eq (condition_bits c % 2) 1) ≡ c
condition_same Always = refl
condition_same (If B0 false) = refl
condition_same (If B0 true) = refl
condition_same (If B1 false) = refl
condition_same (If B1 true) = refl
condition_same (If B2 false) = refl
condition_same (If B2 true) = refl
condition_same (If A1 false) = refl
condition_same (If A1 true) = refl
condition_same (If A2 false) = refl
condition_same (If A2 true) = refl
condition_same (If A0 false) = refl
condition_same (If A0 true) = refl

condition_back : (field : ℕ) (c : Cond) → field ≡ condition_bits c → condition_from (field / 2) (nat_eq (field % 2) 1) ≡ c
condition_back field c e = ap (λ n. condition_from (n / 2) (nat_eq (n % 2) 1)) e ∙ condition_same c

-- A condition in a field of no bits is none.
condition_none : (word : ℕ) (c : Cond) → bits_of word 32 0 ≡ condition_bits c → Always ≡ c
condition_none word c e =
    let none : bits_of word 32 0 ≡ 0 = omega arith in
    ap (λ n. condition_from (n / 2) (nat_eq (n % 2) 1)) (sym none ∙ e) ∙ condition_same c

access_same : (a : Access) → access_from (access_bits a) ≡ a
access_same Ldhu = refl
access_same _ = refl

access_back : (field : ℕ) (a : Access) → field ≡ access_bits a → access_from field ≡ a
access_back field a e = ap access_from e ∙ access_same a

first_back : (field : ℕ) (f : First) → field ≡ first_bits f → first_from (is_constant f) field ≡ f
first_back field (Register number) e = ap Register e
first_back field (Constant bits) e = ap Constant e

count_back : (field cycles : ℕ) → field ≡ count_bits cycles → IsTrue (nat_lt (count_bits cycles) 9) → field + 1 ≡ cycles
count_back field cycles e may = grind (arith, nat_tests)

none_cross : (word : ℕ) (b : Bool) → bits_of word 13 0 ≡ bit_of b → false ≡ b
none_cross word false e = refl
none_cross word true e = absurd (omega arith)

same_instr : {c d : Cond} {o q : Op} {b e : Bool} → c ≡ d → o ≡ q → b ≡ e → ◌≡◌ {A = Instr} (record { condition = c; op = o; chained = b }) (record { condition = d; op = q; chained = e })
same_instr c o b = λ i. record { condition = c i; op = o i; chained = b i }

pub at_slots : {s slots : List Slot} (parts : Part → ℕ) (word : ℕ) → Some s ≡ Some slots → AreBits slots parts word → AreBits s parts word
at_slots {s} {slots} parts word same are = let e : slots ≡ s = cc in subst (λ t. AreBits t parts word) e are

pub mapped_some : (f : ℕ → List Slot) (o : Option ℕ) (slots : List Slot) → option_map f o ≡ Some slots → (code : ℕ) × (Some (f code) ≡ Some slots)
mapped_some f None slots e = cc
mapped_some f (Some code) slots e = (code, e)

fields_back : (condition : Cond) (op : Op) (chained : Bool) (word : ℕ) (slots : List Slot) → slots_for (form_of op) ≡ Some slots → AreBits slots (part_of (record { condition = condition; op = op; chained = chained })) word → made (form_of op) word ≡ record { condition = condition; op = op; chained = chained }
fields_back condition (Two L arith side cross first second dst) chained word slots known are =
    let coded = mapped_some (two_slots L) _ slots known in
    let a = at_slots {s = two_slots L coded.0} _ word coded.1 are in
    let s = side_back word 1 side a.1.1.1.1.1.1.1.0.0 in
    let x = bool_back word 12 cross a.1.1.1.1.0.0 in
    let f = first_back (bits_of word 13 5) first a.1.1.1.0.0 in
    same_instr (condition_back _ condition a.0.0) (λ i. Two L arith (s i) (x i) (f i) (a.1.1.0.0 i) (a.1.0.0 i)) (bool_back word 0 chained a.1.1.1.1.1.1.1.1.0.0)
fields_back condition (Two S arith side cross first second dst) chained word slots known are =
    let coded = mapped_some (two_slots S) _ slots known in
    let a = at_slots {s = two_slots S coded.0} _ word coded.1 are in
    let s = side_back word 1 side a.1.1.1.1.1.1.1.0.0 in
    let x = bool_back word 12 cross a.1.1.1.1.0.0 in
    let f = first_back (bits_of word 13 5) first a.1.1.1.0.0 in
    same_instr (condition_back _ condition a.0.0) (λ i. Two S arith (s i) (x i) (f i) (a.1.1.0.0 i) (a.1.0.0 i)) (bool_back word 0 chained a.1.1.1.1.1.1.1.1.0.0)
fields_back condition (Two D arith side cross first second dst) chained word slots known are =
    let coded = mapped_some (two_slots D) _ slots known in
    let a = at_slots {s = two_slots D coded.0} _ word coded.1 are in
    let s = side_back word 1 side a.1.1.1.1.1.1.1.0.0 in
    let x = none_cross word cross a.1.1.1.1.0.0 in
    let f = first_back (bits_of word 13 5) first a.1.1.1.0.0 in
    same_instr (condition_back _ condition a.0.0) (λ i. Two D arith (s i) (x i) (f i) (a.1.1.0.0 i) (a.1.0.0 i)) (bool_back word 0 chained a.1.1.1.1.1.1.1.1.0.0)
fields_back condition (Two M arith side cross first second dst) chained word slots known are =
    let coded = mapped_some (two_slots M) _ slots known in
    let a = at_slots {s = two_slots M coded.0} _ word coded.1 are in
    let s = side_back word 1 side a.1.1.1.1.1.1.1.0.0 in
    let x = bool_back word 12 cross a.1.1.1.1.0.0 in
    let f = first_back (bits_of word 13 5) first a.1.1.1.0.0 in
    same_instr (condition_back _ condition a.0.0) (λ i. Two M arith (s i) (x i) (f i) (a.1.1.0.0 i) (a.1.0.0 i)) (bool_back word 0 chained a.1.1.1.1.1.1.1.1.0.0)
fields_back condition (Move kind side constant dst) chained word slots known are =
    let a = at_slots _ word known are in
    let s = side_back word 1 side a.1.1.1.1.0.0 in
    same_instr (condition_back _ condition a.0.0) (λ i. Move kind (s i) (a.1.1.0.0 i) (a.1.0.0 i)) (bool_back word 0 chained a.1.1.1.1.1.0.0)
fields_back condition (Branch side field) chained word slots known are =
    let a = at_slots _ word known are in
    let s = side_back word 1 side a.1.1.1.0.0 in
    same_instr (condition_back _ condition a.0.0) (λ i. Branch (s i) (a.1.0.0 i)) (bool_back word 0 chained a.1.1.1.1.0.0)
fields_back condition (Callp side field) chained word slots known are =
    let a = at_slots _ word known are in
    let s = side_back word 1 side a.1.1.1.1.0.0 in
    same_instr (condition_none word condition a.0.0) (λ i. Callp (s i) (a.1.1.0.0 i)) (bool_back word 0 chained a.1.1.1.1.1.0.0)
fields_back condition (BranchNop side field wait) chained word slots known are =
    let a = at_slots _ word known are in
    let s = side_back word 1 side a.1.1.1.1.0.0 in
    same_instr (condition_back _ condition a.0.0) (λ i. BranchNop (s i) (a.1.0.0 i) (a.1.1.0.0 i)) (bool_back word 0 chained a.1.1.1.1.1.0.0)
fields_back condition (BranchReg cross source) chained word slots known are =
    let a = at_slots _ word known are in
    let x = bool_back word 12 cross a.1.1.1.1.0.0 in
    same_instr (condition_back _ condition a.0.0) (λ i. BranchReg (x i) (a.1.1.0.0 i)) (bool_back word 0 chained a.1.1.1.1.1.1.1.0.0)
fields_back condition (BranchRegNop cross source wait) chained word slots known are =
    let a = at_slots _ word known are in
    let x = bool_back word 12 cross a.1.1.1.1.1.0.0 in
    same_instr (condition_back _ condition a.0.0) (λ i. BranchRegNop (x i) (a.1.1.0.0 i) (a.1.1.1.1.0.0 i)) (bool_back word 0 chained a.1.1.1.1.1.1.1.1.0.0)
fields_back condition (AddKpc field wait dst) chained word slots known are =
    let a = at_slots _ word known are in
    same_instr (condition_back _ condition a.0.0) (λ i. AddKpc (a.1.1.0.0 i) (a.1.1.1.0.0 i) (a.1.0.0 i)) (bool_back word 0 chained a.1.1.1.1.1.1.0.0)
fields_back condition (Nop cycles) chained word slots known are =
    let a = at_slots _ word known are in
    let n = count_back (bits_of word 13 4) cycles a.1.1.0.0 a.1.1.0.1 in
    same_instr (condition_none word condition a.0.0) (λ i. Nop (n i)) (bool_back word 0 chained a.1.1.1.1.0.0)
fields_back condition (Short access unit_side value_side mode offset base register) chained word slots known are =
    let a = at_slots _ word known are in
    let c = access_back (bits_of word 4 3) access a.1.1.1.1.1.1.1.0.0 in
    let u = side_back word 7 unit_side a.1.1.1.1.1.1.0.0 in
    let v = side_back word 1 value_side a.1.1.1.1.1.1.1.1.1.0.0 in
    same_instr (condition_back _ condition a.0.0)
    (λ i. Short (c i) (u i) (v i) (a.1.1.1.1.0.0 i) (a.1.1.1.0.0 i) (a.1.1.0.0 i) (a.1.0.0 i))
    (bool_back word 0 chained a.1.1.1.1.1.1.1.1.1.1.0.0)
fields_back condition (Long access value_side base15 offset register) chained word slots known are =
    let a = at_slots _ word known are in
    let c = access_back (bits_of word 4 3) access a.1.1.1.1.0.0 in
    let v = side_back word 1 value_side a.1.1.1.1.1.1.0.0 in
    let b = bool_back word 7 base15 a.1.1.1.0.0 in
    same_instr (condition_back _ condition a.0.0) (λ i. Long (c i) (v i) (b i) (a.1.1.0.0 i) (a.1.0.0 i)) (bool_back word 0 chained a.1.1.1.1.1.1.1.0.0)

-- The slots of the spelled word's row, by the instruction's form.
pub slots_for-spelled : (i : Instr) (word : ℕ) (s : Spells i word) → slots_for (form_of i.op) ≡ Some s.row.slots
slots_for-spelled i word s = ap slots_for s.form ∙ slots_for-row s.row s.listed

pub made-spelled : (i : Instr) (word : ℕ) → Spells i word → made (form_of i.op) word ≡ i
made-spelled i word s = fields_back i.condition i.op i.chained word s.row.slots (slots_for-spelled i word s) s.bits
