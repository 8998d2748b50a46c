-- A word spells at most one instruction, an instruction is spelled by at most one word, and both are found.

use Rattle.std.proofs.Common.{◌≡◌, ℕ, ◌%◌, ◌^◌, ◌<◌, inl, inr, true, false, nat_lt, IsTrue, List, [], ◌∷◌, Option, Some, None, refl, sym, ◌∙◌, ap, subst, arith}
use Rattle.std.specs.Option.{option_and_then}
use Rattle.std.proofs.lemmas.Option.{cond_some}
use Rattle.std.proofs.lemmas.Bool.{cases_Bool, cond-true, cond-false, ltb-true, lt-ltb, both_ways}
use Rattle.c6x_encoding.specs.declared.cond.Cond.{Cond}
use Rattle.c6x_encoding.specs.declared.cond.Cond.TheVariants.{Always, If}
use Rattle.c6x_encoding.specs.declared.cond_reg.CondReg.TheVariants.{B0, B1, B2, A1, A2, A0}
use Rattle.c6x_encoding.specs.declared.form.Form.{Form}
use Rattle.c6x_encoding.specs.declared.form.Form.TheVariants.{Two as TwoForm, Move as MoveForm}
use Rattle.c6x_encoding.specs.declared.instr.Instr.{Instr}
use Rattle.c6x_encoding.specs.declared.op.Op.{Op}
use Rattle.c6x_encoding.specs.declared.op.Op.TheVariants.{Nop, Short}
use Rattle.c6x_encoding.specs.Spelling.{Part, Condition, Count, Mode, Slot, Row, table, is_part, condition_bits, part_of, op_part, form_of, AreBits, IsRow, Spells}
use Rattle.c6x_encoding.specs.Decoded.{made, op_made, are_bits, decoded, decoded_by}
use Rattle.c6x_encoding.specs.Encoded.{slots_for, fields_of, widths, joined, all_fit, joined_fields, is_allowed, encoded}
use Rattle.c6x_encoding.proofs.Trees.{form_by-tree}
use Rattle.c6x_encoding.proofs.Slots.{widths-fields_of, values_joined, values_fit, joined_values, joined_below, bits_values, values_bits, are_bits_true, true_are_bits}
use Rattle.c6x_encoding.proofs.Forms.{slots_listed, width-row}
use Rattle.c6x_encoding.proofs.Back.{made-spelled, slots_for-spelled, at_slots}

-- Two instructions of one word are one.
pub same_instruction : (i j : Instr) (word : ℕ) → Spells i word → Spells j word → i ≡ j
same_instruction i j word s t =
    let f : Some (form_of i.op) ≡ Some (form_of j.op) = sym (form_by-tree i word s) ∙ form_by-tree j word t in
    let g : form_of i.op ≡ form_of j.op = cc in
    sym (made-spelled i word s) ∙ ap (λ (form : Form). made form word) g ∙ made-spelled j word t

condition_allowed : (c : Cond) → IsTrue (is_part Condition (condition_bits c))
condition_allowed Always = refl
condition_allowed (If B0 false) = refl
condition_allowed (If B0 true) = refl
condition_allowed (If B1 false) = refl
condition_allowed (If B1 true) = refl
condition_allowed (If B2 false) = refl
condition_allowed (If B2 true) = refl
condition_allowed (If A1 false) = refl
condition_allowed (If A1 true) = refl
condition_allowed (If A2 false) = refl
condition_allowed (If A2 true) = refl
condition_allowed (If A0 false) = refl
condition_allowed (If A0 true) = refl

count_allowed : (op : Op) → is_allowed op ≡ true → IsTrue (is_part Count (op_part op Count))
count_allowed (Nop cycles) may = may
count_allowed _ may = refl

mode_allowed : (op : Op) → is_allowed op ≡ true → IsTrue (is_part Mode (op_part op Mode))
mode_allowed (Short access unit_side value_side mode offset base register) may = may
mode_allowed _ may = refl

parts_allowed : (i : Instr) → is_allowed i.op ≡ true → (part : Part) → IsTrue (is_part part (part_of i part))
parts_allowed i may Condition = condition_allowed i.condition
parts_allowed i may Count = count_allowed i.op may
parts_allowed i may Mode = mode_allowed i.op may
parts_allowed i may _ = refl

bits_allowed : (i : Instr) (op : Op) (word : ℕ) (slots : List Slot) → i.op ≡ op → slots_for (form_of op) ≡ Some slots → AreBits slots (part_of i) word → is_allowed op ≡ true
bits_allowed i (Nop cycles) word slots is known are =
    let a = at_slots _ word known are in
    subst (λ (o : Op). IsTrue (is_part Count (op_part o Count))) is a.1.1.0.1
bits_allowed i (Short access unit_side value_side mode offset base register) word slots is known are =
    let a = at_slots _ word known are in
    subst (λ (o : Op). IsTrue (is_part Mode (op_part o Mode))) is a.1.1.1.1.0.1
bits_allowed i _ word slots is known are = refl

-- What a word spells is allowed, and its fields put together are the word.
pub encoded-spelled : (i : Instr) (word : ℕ) → Spells i word → encoded i ≡ Some word
unfolding encoded joined_fields
encoded-spelled i word s =
    let known = slots_for-spelled i word s in
    let may : is_allowed i.op ≡ true = bits_allowed i i.op word s.row.slots refl known s.bits in
    let values = bits_values s.row.slots (part_of i) word s.bits in
    let fit = values_fit (fields_of s.row.slots (part_of i)) word values in
    let whole : widths (fields_of s.row.slots (part_of i)) ≡ 32 = widths-fields_of s.row.slots (part_of i) ∙ width-row s.row s.listed in
    let together : word % 2 ^ 32 ≡ joined 0 (fields_of s.row.slots (part_of i)) = subst (λ n. word % 2 ^ n ≡ joined 0 (fields_of s.row.slots (part_of i))) whole (values_joined (fields_of s.row.slots (part_of i)) word values) in
    let fits : word < 2 ^ 32 = s.fits in
    let same : joined 0 (fields_of s.row.slots (part_of i)) ≡ word = sym together ∙ omega arith in
    cond-true _ _ _ may
    ∙ ap (option_and_then (λ (slots : List Slot). joined_fields (fields_of slots (part_of i)))) known
    ∙ cond-true _ _ _ fit
    ∙ ap Some same

-- The fields put together are spelled.
pub spells-encoded : (i : Instr) (word : ℕ) → encoded i ≡ Some word → Spells i word
unfolding encoded joined_fields
spells-encoded i word is = elim (cases_Bool (is_allowed i.op)) [
  | inl may ↦ go (slots_for (form_of i.op)) refl may (sym (cond-true _ _ None may) ∙ is)
  | inr not ↦ absurd (let n : None ≡ Some word = sym (cond-false _ (option_and_then (λ (slots : List Slot). joined_fields (fields_of slots (part_of i))) (slots_for (form_of i.op))) None not) ∙ is in cc)
]
  where
    go : (o : Option (List Slot)) → slots_for (form_of i.op) ≡ o → is_allowed i.op ≡ true → option_and_then (λ (slots : List Slot). joined_fields (fields_of slots (part_of i))) (slots_for (form_of i.op)) ≡ Some word → Spells i word
    go None known may put = absurd (let n : None ≡ Some word = sym (ap (option_and_then (λ (slots : List Slot). joined_fields (fields_of slots (part_of i)))) known) ∙ put in cc)
    go (Some slots) known may put =
        let fields : List (ℕ × ℕ) = fields_of slots (part_of i) in
        let p : joined_fields (fields_of slots (part_of i)) ≡ Some word = sym (ap (option_and_then (λ (slots : List Slot). joined_fields (fields_of slots (part_of i)))) known) ∙ put in
        let both = cond_some (all_fit (fields_of slots (part_of i))) (joined 0 (fields_of slots (part_of i))) word p in
        let listed = slots_listed (form_of i.op) slots known in
        let whole : widths (fields_of slots (part_of i)) ≡ 32 = widths-fields_of slots (part_of i) ∙ width-row (record { form = form_of i.op; slots = slots }) listed in
        let below : joined 0 (fields_of slots (part_of i)) < 2 ^ 32 = subst (λ n. joined 0 (fields_of slots (part_of i)) < 2 ^ n) whole (joined_below (fields_of slots (part_of i)) both.0) in
        let fits : word < 2 ^ 32 = subst (λ n. n < 2 ^ 32) both.1 below in
        let rest : word % 2 ^ 32 ≡ joined 0 (fields_of slots (part_of i)) = omega (arith, both.1) in
        let all : word % 2 ^ widths (fields_of slots (part_of i)) ≡ joined 0 (fields_of slots (part_of i)) = subst (λ n. word % 2 ^ n ≡ joined 0 (fields_of slots (part_of i))) (sym whole) rest in
        record {
          fits = fits;
          row = record { form = form_of i.op; slots = slots };
          listed = listed;
          form = refl;
          bits = values_bits slots (part_of i) word (parts_allowed i may) (joined_values (fields_of slots (part_of i)) word both.0 all);
        }

-- Two words of one instruction are one.
pub same_word : (i : Instr) (v w : ℕ) → Spells i v → Spells i w → v ≡ w
same_word i v w s t = let e : Some v ≡ Some w = sym (encoded-spelled i v s) ∙ encoded-spelled i w t in cc

pub form_of-op_made : (form : Form) (word : ℕ) → form_of (op_made form word) ≡ form
form_of-op_made (TwoForm unit arith false) word = refl
form_of-op_made (TwoForm unit arith true) word = refl
form_of-op_made (MoveForm kind) word = refl
form_of-op_made _ word = refl

by_row : (rows : List Row) (word : ℕ) (i : Instr) → decoded_by rows word ≡ Some i → (row : Row) × IsRow rows row × (made row.form word ≡ i) × AreBits row.slots (part_of i) word
by_row [] word i is = cc
by_row (row ∷ rows) word i is = elim (cases_Bool (are_bits row.slots (part_of (made row.form word)) word)) [
  | inl e ↦
      let s : Some (made row.form word) ≡ Some i = sym (cond-true _ _ (decoded_by rows word) e) ∙ is in
      let m : made row.form word ≡ i = cc in
      (row, inl refl, m, subst (λ (j : Instr). AreBits row.slots (part_of j) word) m (true_are_bits row.slots _ word e))
  | inr e ↦
      let rest = by_row rows word i (sym (cond-false _ (Some (made row.form word)) _ e) ∙ is) in
      (rest.0, inr rest.1, rest.2, rest.3)
]

-- What a word decodes to is spelled by it.
pub spells-decoded : (i : Instr) (word : ℕ) → decoded word ≡ Some i → Spells i word
unfolding decoded
spells-decoded i word is = elim (cases_Bool (nat_lt word (2 ^ 32))) [
  | inl fits ↦
      let found = by_row table word i (sym (cond-true _ _ None fits) ∙ is) in
      record {
        fits = ltb-true _ _ fits;
        row = found.0;
        listed = found.1;
        form = ap (λ (j : Instr). form_of j.op) (sym found.2) ∙ form_of-op_made found.0.form word;
        bits = found.3;
      }
  | inr not ↦ absurd (let n : None ≡ Some i = sym (cond-false _ (decoded_by table word) None not) ∙ is in cc)
]

-- Some row answers where one row's fields are spelled.
some_row : (rows : List Row) (word : ℕ) (row : Row) → IsRow rows row → are_bits row.slots (part_of (made row.form word)) word ≡ true → (i : Instr) × (decoded_by rows word ≡ Some i)
some_row [] word row listed are = absurd listed
some_row (x ∷ rows) word row listed are = elim (cases_Bool (are_bits x.slots (part_of (made x.form word)) word)) [
  | inl e ↦ (made x.form word, cond-true _ _ _ e)
  | inr e ↦ elim listed [
    | inl is ↦ absurd (both_ways (are_bits x.slots (part_of (made x.form word)) word) e (subst (λ (r : Row). are_bits r.slots (part_of (made r.form word)) word ≡ true) is are))
    | inr later ↦ let rest = some_row rows word row later are in (rest.0, cond-false _ _ _ e ∙ rest.1)
  ]
]

by_table : (word : ℕ) → word < 2 ^ 32 → (i : Instr) → decoded_by table word ≡ Some i → decoded word ≡ Some i
unfolding decoded
by_table word fits i is = cond-true _ _ _ (lt-ltb _ _ fits) ∙ is

-- What a word spells it decodes to.
pub decoded-spelled : (i : Instr) (word : ℕ) → Spells i word → decoded word ≡ Some i
decoded-spelled i word s =
    let m : made s.row.form word ≡ i = ap (λ (form : Form). made form word) (sym s.form) ∙ made-spelled i word s in
    let are : are_bits s.row.slots (part_of (made s.row.form word)) word ≡ true = subst (λ (j : Instr). are_bits s.row.slots (part_of j) word ≡ true) (sym m) (are_bits_true s.row.slots (part_of i) word s.bits) in
    let found = some_row table word s.row s.listed are in
    let d : decoded word ≡ Some found.0 = by_table word s.fits found.0 found.1 in
    d ∙ ap Some (same_instruction found.0 i word (spells-decoded found.0 word d) s)
