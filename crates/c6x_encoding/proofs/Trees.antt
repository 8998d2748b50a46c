-- A spelled word leads the tests of the groups to its form.

use Rattle.std.proofs.Common.{◌≡◌, ℕ, ◌+◌, ◌-◌, ◌/◌, ◌%◌, ◌^◌, ◌≤◌, inl, inr, Bool, true, false, not, ◌&&◌, nat_eq, nat_le, IsTrue, List, [], ◌∷◌, Option, Some, None, map, cond, if◌then◌else◌, refl, sym, ◌∙◌, ap, subst, arith}
use Rattle.std.proofs.lemmas.Nat.{shr-shr, field_of}
use Rattle.std.proofs.lemmas.Bool.{and_parts, both_ways, not-true, leb-true, eqb-true, ne_eqb, cases_Bool, cond-true, cond-false}
use Rattle.std.proofs.Math.Pow.{mod-mod-pow}
use Rattle.c6x_spec.specs.Fields.{bits_of}
use Rattle.c6x_encoding.specs.declared.form.Form.{Form}
use Rattle.c6x_encoding.specs.Spelling.{Part, Slot, Fixed, Named, Row, table, width, is_part, AreBits, IsRow, Spells, part_of, form_of}
use Rattle.c6x_encoding.specs.declared.instr.Instr.{Instr}
use Rattle.c6x_encoding.specs.Groups.{Tree, Gives, Nothing, Test, form_by, tree, even_tree, constant_tree, displacement_tree, l_tree, s_tree, d_tree, m_tree}

-- The head and the tail of two equal maps.
map_tail : {A B : Type 0} (f g : A → B) (x : A) (xs : List A) → map f (x ∷ xs) ≡ map g (x ∷ xs) → map f xs ≡ map g xs
map_tail f g x xs e = cc

-- What two maps of the table agree on holds of each row.
pub same_at : {B : Type 0} (f g : Row → B) (rows : List Row) (row : Row) → map f rows ≡ map g rows → IsRow rows row → f row ≡ g row
same_at f g [] row e listed = absurd listed
same_at f g (x ∷ rows) row e (inl is) = cc
same_at f g (x ∷ rows) row e (inr later) = same_at f g rows row (map_tail f g x rows e) later

-- Bits within a field are bits of the field's value.
pub bits-within : (word low count at more value : ℕ) → at + more ≤ count → bits_of word low count ≡ value → bits_of word (low + at) more ≡ bits_of value at more
bits-within word low count at more value within is =
    let high : ℕ = count - (at + more) in
    let total : count ≡ (high + more) + at = omega arith in
    let e : word / 2 ^ low % 2 ^ ((high + more) + at) ≡ value = subst (λ n. word / 2 ^ low % 2 ^ n ≡ value) total is in
    sym (ap (λ n. n / 2 ^ at % 2 ^ more) (sym e)
    ∙ ap (λ n. n % 2 ^ more) (field_of (word / 2 ^ low) (high + more) at)
    ∙ mod-mod-pow (word / 2 ^ low / 2 ^ at) high more
    ∙ ap (λ n. n % 2 ^ more) (shr-shr word low at))

-- The tested bits lie in a field of so many bits above so many others.
abbrev pub is_inside : ℕ → ℕ → ℕ → ℕ → Bool
is_inside at count low more = nat_le at low && nat_le (low + more) (at + count)

-- The tested bits are a named field, which may not hold the value.
abbrev pub is_refused : ℕ → ℕ → Part → ℕ → ℕ → ℕ → Bool
is_refused at count part low more value = nat_eq at low && nat_eq count more && not (is_part part value)

-- What a row's fixed bits say of a test, and what a named field says that may not hold the value.
abbrev pub answer : List Slot → ℕ → ℕ → ℕ → Option Bool
answer [] low more value = None
answer (Fixed count fixed ∷ slots) low more value =
    if is_inside (width slots) count low more
    then Some (nat_eq (bits_of fixed (low - width slots) more) value) else answer slots low more value
answer (Named count part ∷ slots) low more value =
    if is_refused (width slots) count part low more value then Some false
    else answer slots low more value

abbrev pub walk_on : Option Bool → Option (Option Form) → Option (Option Form) → Option (Option Form)
walk_on None met other = None
walk_on (Some true) met other = met
walk_on (Some false) met other = other

-- The form that the tests lead to, by what the row says of each.
abbrev pub walk : Tree → List Slot → Option (Option Form)
walk (Gives form) slots = Some (Some form)
walk Nothing slots = Some None
walk (Test low more value met other) slots = walk_on (answer slots low more value) (walk met slots) (walk other slots)

inside_fixed : (word fixed at count low more value : ℕ) → at ≤ low → low + more ≤ at + count → bits_of word at count ≡ fixed → nat_eq (bits_of word low more) value ≡ nat_eq (bits_of fixed (low - at) more) value
inside_fixed word fixed at count low more value above within is =
    let place : at + (low - at) ≡ low = omega arith in
    let e : bits_of word (at + (low - at)) more ≡ bits_of fixed (low - at) more = bits-within word at count (low - at) more fixed (omega arith) is in
    let f : bits_of word low more ≡ bits_of fixed (low - at) more = subst (λ p. bits_of word p more ≡ bits_of fixed (low - at) more) place e in
    ap (λ n. nat_eq n value) f

refused : (part : Part) (held value : ℕ) → IsTrue (is_part part held) → not (is_part part value) ≡ true → nat_eq held value ≡ false
refused part held value may never =
    ne_eqb held value
    (λ e. both_ways (is_part part value) (not-true _ never) (subst (λ v. IsTrue (is_part part v)) e may))

pub answered : (slots : List Slot) (parts : Part → ℕ) (word low more value : ℕ) (b : Bool) → AreBits slots parts word → answer slots low more value ≡ Some b → nat_eq (bits_of word low more) value ≡ b
answered [] parts word low more value b are says = cc
answered (Fixed count fixed ∷ slots) parts word low more value b are says =
    elim (cases_Bool (is_inside (width slots) count low more)) [
      | inl e ↦
          let both = and_parts (nat_le (width slots) low) _ e in
          let s : Some (nat_eq (bits_of fixed (low - width slots) more) value) ≡ Some b = sym (cond-true (is_inside (width slots) count low more) _ (answer slots low more value) e) ∙ says in
          inside_fixed word fixed (width slots) count low more value (leb-true _ _ both.0) (leb-true _ _ both.1) are.0 ∙ (cc)
      | inr e ↦ answered slots parts word low more value b are.1 (sym (cond-false (is_inside (width slots) count low more) (Some (nat_eq (bits_of fixed (low - width slots) more) value)) _ e) ∙ says)
    ]
answered (Named count part ∷ slots) parts word low more value b are says =
    elim (cases_Bool (is_refused (width slots) count part low more value)) [
      | inl e ↦
          let both = and_parts (nat_eq (width slots) low && nat_eq count more) _ e in
          let places = and_parts (nat_eq (width slots) low) _ both.0 in
          let s : Some false ≡ Some b = sym (cond-true (is_refused (width slots) count part low more value) _ (answer slots low more value) e) ∙ says in
          let at : width slots ≡ low = eqb-true _ _ places.0 in
          let many : count ≡ more = eqb-true _ _ places.1 in
          let field : bits_of word low more ≡ parts part = subst (λ p. bits_of word p more ≡ parts part) at (subst (λ n. bits_of word (width slots) n ≡ parts part) many are.0.0) in
          ap (λ n. nat_eq n value) field ∙ refused part (parts part) value are.0.1 both.1 ∙ (cc)
      | inr e ↦ answered slots parts word low more value b are.1 (sym (cond-false (is_refused (width slots) count part low more value) (Some false) _ e) ∙ says)
    ]

walked : (t : Tree) (slots : List Slot) (parts : Part → ℕ) (word : ℕ) (found : Option Form) → AreBits slots parts word → walk t slots ≡ Some found → form_by t word ≡ found
walked (Gives form) slots parts word found are says = cc
walked Nothing slots parts word found are says = cc
walked (Test low more value met other) slots parts word found are says =
    go (answer slots low more value) refl says (walked met slots parts word found are) (walked other slots parts word found are)
  where
    go : (a : Option Bool) → answer slots low more value ≡ a → walk_on a (walk met slots) (walk other slots) ≡ Some found → (walk met slots ≡ Some found → form_by met word ≡ found) → (walk other slots ≡ Some found → form_by other word ≡ found) → cond (nat_eq (bits_of word low more) value) (form_by met word) (form_by other word) ≡ found
    go None is on yes_met no_met = cc
    go (Some true) is on yes_met no_met = cond-true _ _ _ (answered slots parts word low more value true are is) ∙ yes_met on
    go (Some false) is on yes_met no_met = cond-false _ _ _ (answered slots parts word low more value false are is) ∙ no_met on

-- Every row of the table is led to its form.
table_walks : map (λ (row : Row). walk tree row.slots) table ≡ map (λ (row : Row). Some (Some row.form)) table
unfolding tree even_tree constant_tree displacement_tree l_tree s_tree d_tree m_tree
table_walks = refl

pub form_by-tree : (i : Instr) (word : ℕ) → Spells i word → form_by tree word ≡ Some (form_of i.op)
form_by-tree i word s =
    walked tree s.row.slots (part_of i) word (Some (form_of i.op)) s.bits
    (same_at (λ (row : Row). walk tree row.slots) (λ (row : Row). Some (Some row.form)) table s.row table_walks s.listed
    ∙ ap (λ (form : Form). Some (Some form)) (sym s.form))
