-- What the answers for the word of an instruction come from.

use Rattle.std.proofs.Common.{◌≡◌, ℕ, ◌↔◌, Bool, true, false, IsTrue, List, [], ◌∷◌, Option, Some, None, refl, sym, ◌∙◌, ap}
use Rattle.std.specs.Option.{option_map, option_and_then, is_some}
use Rattle.c6x_base.specs.declared.side.Side.{Side}
use Rattle.c6x_encoding.specs.declared.arith.Arith.{Arith}
use Rattle.c6x_encoding.specs.declared.first.First.{First}
use Rattle.c6x_encoding.specs.declared.instr.Instr.{Instr}
use Rattle.c6x_encoding.specs.declared.op.Op.{Op}
use Rattle.c6x_encoding.specs.declared.op.Op.TheVariants.{Two}
use Rattle.c6x_encoding.specs.declared.unit_kind.UnitKind.{UnitKind}
use Rattle.c6x_encoding.specs.declared.unit_kind.UnitKind.TheVariants.{L, S, D, M}
use Rattle.c6x_encoding.specs.Spelling.{Part, Condition, Dst, Src2, Src1, Crossed, Sided, Chained, Slot, two_slots, form_of, part_of, condition_bits, first_bits, is_constant, bit_of, side_bit, Spells, IsValid}
use Rattle.c6x_encoding.specs.declared.operands.Operands.{Operands}
use Rattle.c6x_encoding.specs.Encoded.{two_code, fields_of, joined_fields, two_fields, layout_of, is_allowed, encoded}
use Rattle.c6x_encoding.specs.Decoded.{made, decoded}
use Rattle.c6x_encoding.specs.Groups.{tree, form_by}
use Rattle.c6x_encoding.proofs.Trees.{form_by-tree}
use Rattle.c6x_encoding.proofs.Facts.{spells-encoded, encoded-spelled, spells-decoded, decoded-spelled}

-- An instruction is valid exactly where it has a word.
pub valid_iff : (i : Instr) (answer : Bool) → answer ≡ is_some (encoded i) → IsTrue answer ↔ IsValid i
valid_iff i answer is = (go (encoded i) refl is, λ (v : IsValid i). is ∙ ap is_some (encoded-spelled i v.0 v.1))
  where
    go : (o : Option ℕ) → encoded i ≡ o → answer ≡ is_some (encoded i) → IsTrue answer → IsValid i
    go None e is t = absurd (let n : true ≡ false = sym t ∙ is ∙ ap is_some e in cc)
    go (Some word) e is t = (word, spells-encoded i word e)

two_allowed : (op : Op) (unit : UnitKind) (arith : Arith) (side : Side) (cross : Bool) (first : First) (second dst : ℕ) → op ≡ Two unit arith side cross first second dst → is_allowed op ≡ true
two_allowed op unit arith side cross first second dst is = ap is_allowed is

two_slots_for : (unit : UnitKind) (code : ℕ) (parts : Part → ℕ) → fields_of (two_slots unit code) parts ≡ two_fields (layout_of unit) code (record { condition = parts Condition; dst = parts Dst; second = parts Src2; first = parts Src1; cross = parts Crossed; side = parts Sided; chained = parts Chained })
two_slots_for L code parts = refl
two_slots_for S code parts = refl
two_slots_for D code parts = refl
two_slots_for M code parts = refl

-- The word of an operation on two operands.
pub two_encoded : (i : Instr) (unit : UnitKind) (arith : Arith) (side : Side) (cross : Bool) (first : First) (second dst code : ℕ) (o : Operands)
    → i.op ≡ Two unit arith side cross first second dst → two_code unit arith (is_constant first) ≡ Some code
    → o.condition ≡ condition_bits i.condition → o.dst ≡ dst → o.second ≡ second → o.first ≡ first_bits first
    → o.cross ≡ bit_of cross → o.side ≡ side_bit side → o.chained ≡ bit_of i.chained
    → joined_fields (two_fields (layout_of unit) code o) ≡ encoded i
unfolding encoded
two_encoded i unit arith side cross first second dst code o is coded a b c d e f g =
    let layout = layout_of unit in
    let made : joined_fields (two_fields (layout_of unit) code o) ≡ joined_fields (fields_of (two_slots unit code) (part_of (record { condition = i.condition; op = Two unit arith side cross first second dst; chained = i.chained }))) =
    (λ j. joined_fields ((4, a j) ∷ (5, b j) ∷ (5, c j) ∷ (5, d j) ∷ (layout.cross, e j) ∷ (layout.code, code) ∷ (layout.low, layout.fixed) ∷ (1, f j) ∷ (1, g j) ∷ []))
    ∙ ap joined_fields (sym (two_slots_for unit code _)) in
    let whole : ◌≡◌ {A = Instr} (record { condition = i.condition; op = Two unit arith side cross first second dst; chained = i.chained }) i = λ j. record { condition = i.condition; op = sym is j; chained = i.chained } in
    made
    ∙ sym (ap (λ (o : Option ℕ). option_and_then (λ (slots : List Slot). joined_fields (fields_of slots (part_of (record { condition = i.condition; op = Two unit arith side cross first second dst; chained = i.chained })))) (option_map (two_slots unit) o)) coded)
    ∙ ap encoded whole

pub two_none : (i : Instr) (unit : UnitKind) (arith : Arith) (side : Side) (cross : Bool) (first : First) (second dst : ℕ)
    → i.op ≡ Two unit arith side cross first second dst → two_code unit arith (is_constant first) ≡ None → None ≡ encoded i
unfolding encoded
two_none i unit arith side cross first second dst is coded =
    let whole : ◌≡◌ {A = Instr} (record { condition = i.condition; op = Two unit arith side cross first second dst; chained = i.chained }) i = λ j. record { condition = i.condition; op = sym is j; chained = i.chained } in
    sym (ap (λ (o : Option ℕ). option_and_then (λ (slots : List Slot). joined_fields (fields_of slots (part_of (record { condition = i.condition; op = Two unit arith side cross first second dst; chained = i.chained })))) (option_map (two_slots unit) o)) coded)
    ∙ ap encoded whole

-- A value that is what the word decodes to is there exactly where the word spells it.
pub spelled_iff : (answer : Option Instr) (word : ℕ) → answer ≡ decoded word → (i : Instr) → (answer ≡ Some i) ↔ Spells i word
spelled_iff answer word is i = (λ (e : answer ≡ Some i). spells-decoded i word (sym is ∙ e), λ (s : Spells i word). is ∙ decoded-spelled i word s)

-- A word of no form spells nothing.
pub none_decoded : (word : ℕ) → form_by tree word ≡ None → None ≡ decoded word
none_decoded word e = go (decoded word) refl
  where
    go : (o : Option Instr) → decoded word ≡ o → None ≡ decoded word
    go None is = sym is
    go (Some i) is = absurd (let s : Some (form_of i.op) ≡ None = sym (form_by-tree i word (spells-decoded i word is)) ∙ e in cc)
