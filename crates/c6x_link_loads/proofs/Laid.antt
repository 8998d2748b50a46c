-- Where the data of a link lies, and its plan's numbers.
use Rattle.std.proofs.Common.{◌≡◌, ℕ, ◌+◌, ◌*◌, ◌-◌, ◌%◌, ◌^◌, ◌<◌, ◌≤◌, ◌&&◌, Bool, true, false, length, None, nat_le, nat_lt, refl, ap, ◌∙◌, arith}
use Rattle.std.proofs.lemmas.Bool.Decides.{nat_tests}
use Rattle.c6x_spec.specs.Rounded.{rounded}
use Rattle.c6x_dsbt.specs.Plans.{has_index, has_size, tables_refusal}
use Rattle.c6x_layout.proofs.Bounds.{bounds}
use Rattle.c6x_layout.specs.Layouts.{Laying, data_align, data_end, layout_of, table_at, text_align, text_end, words_at, words_end}
use Rattle.c6x_layout.specs.declared.layout.Layout.{Layout}
use Rattle.c6x_layout.specs.declared.limits.TheConstants.{PAGE}
use Rattle.c6x_link.proofs.ImageParts.{first_none, later_none, must_true}
use Rattle.c6x_link.specs.Worked.{IsWorkedOut, laying_in}
use Rattle.c6x_link.specs.Working.{Working}
use Rattle.c6x_plan.specs.declared.limits.TheConstants.{MOST_SLOTS}
use Rattle.c6x_symbols.specs.Rules.{refusal}
use Rattle.c6x_symbols.specs.declared.link_rule.LinkRule.TheVariants.{BadIndex, BadSize}

-- where the data lies
pub record IsLaid (w : Working) : Type 0 where
  pub table : w.layout.table ≡ table_at (laying_in w)
  pub end : w.layout.end ≡ data_end (laying_in w)
  pub words : w.layout.words ≡ words_at (laying_in w)
  pub text_align : w.layout.text_align ≡ text_align (laying_in w)
  pub data_align : w.layout.data_align ≡ data_align (laying_in w)

pub is_laid : (w : Working) → IsWorkedOut w → IsLaid w
unfolding layout_of
is_laid w worked = record {
  table = ap (λ (l : Layout). l.table) worked.layout;
  end = ap (λ (l : Layout). l.end) worked.layout;
  words = ap (λ (l : Layout). l.words) worked.layout;
  text_align = ap (λ (l : Layout). l.text_align) worked.layout;
  data_align = ap (λ (l : Layout). l.data_align) worked.layout;
}

words_at_is : (l : Laying) → words_at l ≡ table_at l + 4 * l.plan.table
unfolding words_at
words_at_is l = refl

words_end_is : (l : Laying) → words_end l ≡ words_at l + 4 * (length l.words + length l.stubs)
unfolding words_end
words_end_is l = refl

pub record HasPlace (w : Working) : Type 0 where
  pub end : w.layout.end < 2 ^ 22
  pub memory : w.layout.table + (w.layout.end - w.layout.table) ≡ w.layout.end
  pub words : w.layout.words ≡ w.layout.table + 4 * w.plan.table
  pub words_end : w.layout.words + 4 * (length w.words + length w.stubs) ≤ w.layout.end

pub has_place : (w : Working) → IsWorkedOut w → HasPlace w
has_place w worked =
    let l = laying_in w in
    let b = bounds l worked.sized in
    let is = is_laid w worked in
    let start : words_at l + 4 * (length w.words + length w.stubs) ≤ data_end l = omega (arith, words_end_is l, b.start_file, b.file) in
    record {
      end = omega (arith, is.end, b.data_below);
      memory = omega (arith, is.table, is.end, b.table, b.file);
      words = omega (arith, words_at_is l, is.words, is.table);
      words_end = omega (arith, is.words, is.end, start);
    }

page_multiple : (n : ℕ) → rounded n PAGE % 4 ≡ 0
page_multiple n = omega arith

pub aligned : (w : Working) → IsWorkedOut w → w.layout.table % 4 ≡ 0
unfolding table_at
aligned w worked =
    let is = is_laid w worked in
    ap (λ n. n % 4) is.table ∙ page_multiple (text_end (laying_in w) + PAGE)

-- the plan's numbers
pub record HasSlots (index slots : ℕ) : Type 0 where
  pub some : 1 ≤ slots
  pub few : slots ≤ MOST_SLOTS
  pub within : index < slots

and_both : (a b : Bool) → (a && b) ≡ true → (a ≡ true) × (b ≡ true)
and_both true true is = (refl, refl)
and_both true false is = absurd (cc is)
and_both false b is = absurd (cc is)

pub has_slots : (library : Bool) (index table : ℕ) → tables_refusal library index table ≡ None → HasSlots index table
unfolding tables_refusal has_index has_size
has_slots library index table none =
    let first = must_true _ (refusal BadIndex 0 index) (first_none _ _ none) in
    let second = must_true _ (refusal BadSize 0 table) (later_none _ _ none) in
    let below : nat_lt index table ≡ true = (and_both _ _ first).1 in
    let some : nat_le 1 table ≡ true = (and_both _ _ second).0 in
    let few : nat_le table MOST_SLOTS ≡ true = (and_both _ _ second).1 in
    record { some = grind (arith, nat_tests); few = grind (arith, nat_tests); within = grind (arith, nat_tests) }
