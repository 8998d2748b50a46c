-- A word that the groups lead to a form spells an instruction exactly where it has the row's other bits.

use Rattle.std.proofs.Common.{◌≡◌, ℕ, zero, suc, ◌+◌, ◌/◌, ◌%◌, ◌^◌, ◌<◌, inl, inr, Bool, true, false, ◌&&◌, nat_eq, nat_lt, IsTrue, List, [], ◌∷◌, Option, Some, None, map, refl, sym, ◌∙◌, ap, subst, arith}
use Rattle.std.proofs.lemmas.Bool.{and_parts, and_from, both_ways, ltb-true}
use Rattle.c6x_spec.specs.Fields.{bits_of}
use Rattle.c6x_base.specs.declared.side.Side.{Side}
use Rattle.c6x_base.specs.declared.side.Side.TheVariants.{A, B}
use Rattle.c6x_encoding.specs.declared.form.Form.{Form}
use Rattle.c6x_encoding.specs.declared.form.Form.TheVariants.{Two, Move, Branch, Callp, BranchNop, BranchReg, BranchRegNop, AddKpc, Nop, Short, Long}
use Rattle.c6x_encoding.specs.declared.instr.Instr.{Instr}
use Rattle.c6x_encoding.specs.declared.unit_kind.UnitKind.TheVariants.{L, S, D, M}
use Rattle.c6x_encoding.specs.Spelling.{Part, Condition, Count, Mode, Slot, Fixed, Named, Row, table, width, two_slots, is_part, bit_of, side_bit, condition_bits, access_bits, first_bits, count_bits, part_of, form_of, AreBits, Spells}
use Rattle.c6x_encoding.specs.Decoded.{is_set, side_at, side_from, condition_from, access_from, first_from, made, decoded}
use Rattle.c6x_encoding.specs.Encoded.{slots_for}
use Rattle.c6x_encoding.specs.Groups.{form_by, tree}
use Rattle.c6x_encoding.specs.Left.{Bits, all_hold, left_bits, may_hold, is_of_row}
use Rattle.c6x_encoding.proofs.Trees.{same_at, answer, answered, form_by-tree}
use Rattle.c6x_encoding.proofs.Forms.{slots_listed}
use Rattle.c6x_encoding.proofs.Back.{at_slots, mapped_some, slots_for-spelled}
use Rattle.c6x_encoding.proofs.Facts.{spells-decoded, decoded-spelled, form_of-op_made}
use Rattle.c6x_encoding.proofs.Covered.{AreParts, led_bits, led_row}

bit_forth : (n : ℕ) → n < 2 → n ≡ bit_of (nat_eq n 1)
bit_forth zero small = refl
bit_forth (suc zero) small = refl
bit_forth (suc (suc n)) small = absurd (omega arith)

bool_forth : (word place : ℕ) → bits_of word place 1 ≡ bit_of (is_set word place)
bool_forth word place = bit_forth (bits_of word place 1) (omega arith)

side_same : (b : Bool) → bit_of b ≡ side_bit (side_from b)
side_same false = refl
side_same true = refl

side_forth : (word place : ℕ) → bits_of word place 1 ≡ side_bit (side_at word place)
side_forth word place = bool_forth word place ∙ side_same (is_set word place)

condition_forth : (n : ℕ) → is_part Condition n ≡ true → n ≡ condition_bits (condition_from (n / 2) (nat_eq (n % 2) 1))
condition_forth zero may = refl
condition_forth (suc zero) may = cc
condition_forth (suc (suc zero)) may = refl
condition_forth (suc (suc (suc zero))) may = refl
condition_forth (suc (suc (suc (suc zero)))) may = refl
condition_forth (suc (suc (suc (suc (suc zero))))) may = refl
condition_forth (suc (suc (suc (suc (suc (suc zero)))))) may = refl
condition_forth (suc (suc (suc (suc (suc (suc (suc zero))))))) may = refl
condition_forth (suc (suc (suc (suc (suc (suc (suc (suc zero)))))))) may = refl
condition_forth (suc (suc (suc (suc (suc (suc (suc (suc (suc zero))))))))) may = refl
condition_forth (suc (suc (suc (suc (suc (suc (suc (suc (suc (suc zero)))))))))) may = refl
condition_forth (suc (suc (suc (suc (suc (suc (suc (suc (suc (suc (suc zero))))))))))) may = refl
condition_forth (suc (suc (suc (suc (suc (suc (suc (suc (suc (suc (suc (suc zero)))))))))))) may = refl
condition_forth (suc (suc (suc (suc (suc (suc (suc (suc (suc (suc (suc (suc (suc zero))))))))))))) may = refl
condition_forth (suc (suc (suc (suc (suc (suc (suc (suc (suc (suc (suc (suc (suc (suc n)))))))))))))) may =
    let both = and_parts (nat_lt (suc (suc (suc (suc (suc (suc (suc (suc (suc (suc (suc (suc (suc (suc n)))))))))))))) 14) _ may in
    let below : (suc (suc (suc (suc (suc (suc (suc (suc (suc (suc (suc (suc (suc (suc n)))))))))))))) < 14 = ltb-true _ _ both.0 in
    absurd (omega arith)

condition_may : (n : ℕ) → is_part Condition n ≡ true → IsTrue (is_part Condition (condition_bits (condition_from (n / 2) (nat_eq (n % 2) 1))))
condition_may n may = subst (λ m. IsTrue (is_part Condition m)) (condition_forth n may) may

access_forth : (n : ℕ) → n < 8 → n ≡ access_bits (access_from n)
access_forth zero small = refl
access_forth (suc zero) small = refl
access_forth (suc (suc zero)) small = refl
access_forth (suc (suc (suc zero))) small = refl
access_forth (suc (suc (suc (suc zero)))) small = refl
access_forth (suc (suc (suc (suc (suc zero))))) small = refl
access_forth (suc (suc (suc (suc (suc (suc zero)))))) small = refl
access_forth (suc (suc (suc (suc (suc (suc (suc zero))))))) small = refl
access_forth (suc (suc (suc (suc (suc (suc (suc (suc n)))))))) small = absurd (omega arith)

first_forth : (constant : Bool) (n : ℕ) → n ≡ first_bits (first_from constant n)
first_forth false n = refl
first_forth true n = refl

count_forth : (n : ℕ) → n ≡ count_bits (n + 1)
count_forth n = grind arith

none_of : (word place : ℕ) → bits_of word place 0 ≡ 0
none_of word place = omega arith

to_slots : {s slots : List Slot} (parts : Part → ℕ) (word : ℕ) → Some s ≡ Some slots → AreParts s parts word → AreParts slots parts word
to_slots {s} {slots} parts word same are = let e : s ≡ slots = cc in subst (λ t. AreParts t parts word) e are

-- The fields of the word are those of the instruction that is made of them.
made_parts : (form : Form) (slots : List Slot) (word : ℕ) → slots_for form ≡ Some slots → may_hold form word ≡ true → AreParts slots (part_of (made form word)) word
made_parts (Two L operation constant) slots word known may =
    let coded = mapped_some (two_slots L) _ slots known in
    to_slots _ word coded.1 ((condition_forth (bits_of word 28 4) may, condition_may (bits_of word 28 4) may), ((refl, refl), ((refl, refl), ((first_forth constant _, refl), ((bool_forth word 12, refl), ((side_forth word 1, refl), ((bool_forth word 0, refl), tt)))))))
made_parts (Two S operation constant) slots word known may =
    let coded = mapped_some (two_slots S) _ slots known in
    to_slots _ word coded.1 ((condition_forth (bits_of word 28 4) may, condition_may (bits_of word 28 4) may), ((refl, refl), ((refl, refl), ((first_forth constant _, refl), ((bool_forth word 12, refl), ((side_forth word 1, refl), ((bool_forth word 0, refl), tt)))))))
made_parts (Two D operation constant) slots word known may =
    let coded = mapped_some (two_slots D) _ slots known in
    to_slots _ word coded.1 ((condition_forth (bits_of word 28 4) may, condition_may (bits_of word 28 4) may), ((refl, refl), ((refl, refl), ((first_forth constant _, refl), ((none_of word 13, refl), ((side_forth word 1, refl), ((bool_forth word 0, refl), tt)))))))
made_parts (Two M operation constant) slots word known may =
    let coded = mapped_some (two_slots M) _ slots known in
    to_slots _ word coded.1 ((condition_forth (bits_of word 28 4) may, condition_may (bits_of word 28 4) may), ((refl, refl), ((refl, refl), ((first_forth constant _, refl), ((bool_forth word 12, refl), ((side_forth word 1, refl), ((bool_forth word 0, refl), tt)))))))
made_parts (Move kind) slots word known may =
    to_slots _ word known ((condition_forth (bits_of word 28 4) may, condition_may (bits_of word 28 4) may), ((refl, refl), ((refl, refl), ((side_forth word 1, refl), ((bool_forth word 0, refl), tt)))))
made_parts Branch slots word known may =
    to_slots _ word known ((condition_forth (bits_of word 28 4) may, condition_may (bits_of word 28 4) may), ((refl, refl), ((side_forth word 1, refl), ((bool_forth word 0, refl), tt))))
made_parts Callp slots word known may =
    to_slots _ word known ((none_of word 32, refl), ((refl, refl), ((side_forth word 1, refl), ((bool_forth word 0, refl), tt))))
made_parts BranchNop slots word known may =
    to_slots _ word known ((condition_forth (bits_of word 28 4) may, condition_may (bits_of word 28 4) may), ((refl, refl), ((refl, refl), ((side_forth word 1, refl), ((bool_forth word 0, refl), tt)))))
made_parts BranchReg slots word known may =
    to_slots _ word known ((condition_forth (bits_of word 28 4) may, condition_may (bits_of word 28 4) may), ((refl, refl), ((bool_forth word 12, refl), ((bool_forth word 0, refl), tt))))
made_parts BranchRegNop slots word known may =
    to_slots _ word known ((condition_forth (bits_of word 28 4) may, condition_may (bits_of word 28 4) may), ((refl, refl), ((refl, refl), ((bool_forth word 12, refl), ((bool_forth word 0, refl), tt)))))
made_parts AddKpc slots word known may =
    to_slots _ word known ((condition_forth (bits_of word 28 4) may, condition_may (bits_of word 28 4) may), ((refl, refl), ((refl, refl), ((refl, refl), ((bool_forth word 0, refl), tt)))))
made_parts Nop slots word known may =
    to_slots _ word known ((none_of word 32, refl), ((count_forth _, subst (λ n. IsTrue (is_part Count n)) (count_forth (bits_of word 13 4)) may), ((bool_forth word 0, refl), tt)))
made_parts Short slots word known may =
    let both = and_parts (is_part Mode (bits_of word 9 4)) _ may in
    to_slots _ word known ((condition_forth (bits_of word 28 4) both.1, condition_may (bits_of word 28 4) both.1), ((refl, refl), ((refl, refl), ((refl, refl), ((refl, both.0), ((side_forth word 7, refl), ((access_forth (bits_of word 4 3) (omega arith), refl), ((side_forth word 1, refl), ((bool_forth word 0, refl), tt)))))))))
made_parts Long slots word known may =
    to_slots _ word known ((condition_forth (bits_of word 28 4) may, condition_may (bits_of word 28 4) may), ((refl, refl), ((refl, refl), ((bool_forth word 7, refl), ((access_forth (bits_of word 4 3) (omega arith), refl), ((side_forth word 1, refl), ((bool_forth word 0, refl), tt)))))))

-- A word of the row is what the groups make of it.
pub led_decoded : (form : Form) (word : ℕ) → word < 2 ^ 32 → form_by tree word ≡ Some form → is_of_row form word ≡ true → Some (made form word) ≡ decoded word
led_decoded form word fits led is =
    let both = and_parts (all_hold (left_bits form) word) _ is in
    sym (go (slots_for form) refl both.0 both.1)
  where
    go : (o : Option (List Slot)) → slots_for form ≡ o → all_hold (left_bits form) word ≡ true → may_hold form word ≡ true → decoded word ≡ Some (made form word)
    go None known left may = absurd (led_row form word led known)
    go (Some slots) known left may = decoded-spelled (made form word) word (record {
      fits = fits;
      row = record { form = form; slots = slots };
      listed = slots_listed form slots known;
      form = form_of-op_made form word;
      bits = led_bits form slots (part_of (made form word)) word led known left (made_parts form slots word known may);
    })

abbrev says_one : Option Bool → Bool
says_one None = false
says_one (Some b) = b

-- What a row says of the bits that the groups leave.
abbrev says : List Slot → List Bits → Bool
says slots [] = true
says slots (t ∷ tests) = says_one (answer slots t.low t.count t.value) && says slots tests

said : (slots : List Slot) (tests : List Bits) (parts : Part → ℕ) (word : ℕ) → says slots tests ≡ true → AreBits slots parts word → all_hold tests word ≡ true
said slots [] parts word says are = refl
said slots (t ∷ tests) parts word says are =
    let both = and_parts (says_one (answer slots t.low t.count t.value)) _ says in
    and_from _ _ (one (answer slots t.low t.count t.value) refl both.0) (said slots tests parts word both.1 are)
  where
    one : (o : Option Bool) → answer slots t.low t.count t.value ≡ o → says_one o ≡ true → nat_eq (bits_of word t.low t.count) t.value ≡ true
    one None is e = cc
    one (Some b) is e = answered slots parts word t.low t.count t.value b are is ∙ e

table_says : map (λ (row : Row). says row.slots (left_bits row.form)) table ≡ map (λ (row : Row). true) table
table_says = refl

held_part : (part : Part) (n held : ℕ) → n ≡ held → IsTrue (is_part part held) → is_part part n ≡ true
held_part part n held is may = subst (λ m. is_part part m ≡ true) (sym is) may

row_may : (form : Form) (slots : List Slot) (parts : Part → ℕ) (word : ℕ) → slots_for form ≡ Some slots → AreBits slots parts word → may_hold form word ≡ true
row_may (Two L operation constant) slots parts word known are =
    let coded = mapped_some (two_slots L) _ slots known in
    let a = at_slots {s = two_slots L coded.0} _ word coded.1 are in
    held_part Condition _ _ a.0.0 a.0.1
row_may (Two S operation constant) slots parts word known are =
    let coded = mapped_some (two_slots S) _ slots known in
    let a = at_slots {s = two_slots S coded.0} _ word coded.1 are in
    held_part Condition _ _ a.0.0 a.0.1
row_may (Two D operation constant) slots parts word known are =
    let coded = mapped_some (two_slots D) _ slots known in
    let a = at_slots {s = two_slots D coded.0} _ word coded.1 are in
    held_part Condition _ _ a.0.0 a.0.1
row_may (Two M operation constant) slots parts word known are =
    let coded = mapped_some (two_slots M) _ slots known in
    let a = at_slots {s = two_slots M coded.0} _ word coded.1 are in
    held_part Condition _ _ a.0.0 a.0.1
row_may (Move kind) slots parts word known are =
    let a = at_slots _ word known are in held_part Condition _ _ a.0.0 a.0.1
row_may Branch slots parts word known are =
    let a = at_slots _ word known are in held_part Condition _ _ a.0.0 a.0.1
row_may Callp slots parts word known are = refl
row_may BranchNop slots parts word known are =
    let a = at_slots _ word known are in held_part Condition _ _ a.0.0 a.0.1
row_may BranchReg slots parts word known are =
    let a = at_slots _ word known are in held_part Condition _ _ a.0.0 a.0.1
row_may BranchRegNop slots parts word known are =
    let a = at_slots _ word known are in held_part Condition _ _ a.0.0 a.0.1
row_may AddKpc slots parts word known are =
    let a = at_slots _ word known are in held_part Condition _ _ a.0.0 a.0.1
row_may Nop slots parts word known are =
    let a = at_slots _ word known are in held_part Count _ _ a.1.1.0.0 a.1.1.0.1
row_may Short slots parts word known are =
    let a = at_slots _ word known are in
    and_from _ _ (held_part Mode _ _ a.1.1.1.1.0.0 a.1.1.1.1.0.1) (held_part Condition _ _ a.0.0 a.0.1)
row_may Long slots parts word known are =
    let a = at_slots _ word known are in held_part Condition _ _ a.0.0 a.0.1

-- A word that spells an instruction is of its row.
spelled_of_row : (i : Instr) (word : ℕ) → Spells i word → is_of_row (form_of i.op) word ≡ true
spelled_of_row i word s =
    let known = slots_for-spelled i word s in
    let by_row : says s.row.slots (left_bits s.row.form) ≡ true = same_at (λ (row : Row). says row.slots (left_bits row.form)) (λ (row : Row). true) table s.row table_says s.listed in
    let by_form : says s.row.slots (left_bits (form_of i.op)) ≡ true = subst (λ (f : Form). says s.row.slots (left_bits f) ≡ true) (sym s.form) by_row in
    and_from _ _ (said s.row.slots (left_bits (form_of i.op)) (part_of i) word by_form s.bits)
    (row_may (form_of i.op) s.row.slots (part_of i) word known s.bits)

-- Any other word spells nothing.
pub led_other : (form : Form) (word : ℕ) → form_by tree word ≡ Some form → is_of_row form word ≡ false → None ≡ decoded word
led_other form word led other = go (decoded word) refl
  where
    go : (o : Option Instr) → decoded word ≡ o → None ≡ decoded word
    go None is = sym is
    go (Some i) is =
        let s = spells-decoded i word is in
        let f : Some (form_of i.op) ≡ Some form = sym (form_by-tree i word s) ∙ led in
        let g : form_of i.op ≡ form = cc in
        absurd (both_ways (is_of_row form word) other (subst (λ (h : Form). is_of_row h word ≡ true) g (spelled_of_row i word s)))
