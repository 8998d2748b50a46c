-- Facts of the text and the data range of a module that was read.
use Rattle.std.proofs.Common.{◌≡◌, ℕ, ◌+◌, ◌*◌, ◌%◌, ◌≤◌, ◌==◌, ◌&&◌, ◌||◌, Bool, true, false, not, List, refl, sym, ap, ◌∙◌, arith, inl, inr}
use Rattle.std.proofs.lemmas.Bool.Decides.{nat_tests}
use Rattle.std.specs.Prelude.{◌⊎◌, Option, None, Some, Ok, nat_le, if◌then◌else◌}
use Rattle.std.specs.List.{count_by, list_all}
use Rattle.c6x_spec.specs.Fields.{bits_of}
use Rattle.c6x_elf.specs.Abi.{PT_LOAD}
use Rattle.c6x_elf.specs.declared.segment.Segment.{Segment}
use Rattle.c6x_module.specs.Alignment.{is_alignment}
use Rattle.c6x_module.specs.Valid.{AreApart, IsInside, IsLoadable, MayRun, MayWrite}
use Rattle.c6x_module.specs.declared.module_rule.ModuleRule.TheVariants.{Segments, TextAlign, TableOutside, EntryOutside}
use Rattle.c6x_module.specs.Fields.{entry_refusal}
use Rattle.c6x_module.specs.Ranges.{AreRanges, HasRoom, both_apart, fits_memory, first_where, is_load, is_range, is_text, ranges_in, ranges_of, share_none}
use Rattle.c6x_module.specs.Refusals.{must}
use Rattle.c6x_module.specs.Shape.{align_refusal, is_inside, table_refusal}
use Rattle.c6x_module.proofs.RangeWalks.{and_first, and_second, are_ranges}
use Rattle.c6x_module.proofs.Through.{both_none, found_value, must_holds}

abbrev pair : Segment → Segment → Segment × Segment
pair a b = (a, b)

one_apart : (x y : Segment) (two : Segment × Segment) (t : Bool) → share_none x y ≡ t → (if t then Some (pair x y) else None) ≡ Some two → (Some x ≡ Some two.0) × (Some y ≡ Some two.1) × (share_none two.0 two.1 ≡ true)
one_apart x y two true is e =
    let same : pair x y ≡ two = cc in
    let first : x ≡ two.0 = ap (λ (p : Segment × Segment). p.0) same in
    let second : y ≡ two.1 = ap (λ (p : Segment × Segment). p.1) same in
    (ap (λ (s : Segment). Some s) first, ap (λ (s : Segment). Some s) second, ap (λ (p : Segment × Segment). share_none p.0 p.1) (sym same) ∙ is)
one_apart x y two false is e = absurd (cc)

both_some : (t : Bool) (x y : Option Segment) (two : Segment × Segment) → (if t then both_apart x y else None) ≡ Some two → (t ≡ true) × (x ≡ Some two.0) × (y ≡ Some two.1) × (share_none two.0 two.1 ≡ true)
both_some true (Some x) (Some y) two e =
    let facts = one_apart x y two (share_none x y) refl e in
    (refl, facts.0, facts.1, facts.2)
both_some true None y two e = absurd (cc)
both_some true (Some x) None two e = absurd (cc)
both_some false x y two e = absurd (cc)

pub ranges_facts : (ss : List Segment) (two : Segment × Segment) → ranges_in ss ≡ Ok two → AreRanges two.0 two.1
unfolding ranges_in ranges_of
ranges_facts ss two e =
    let t = count_by is_text ss == 1 && count_by is_range ss == 1 && list_all fits_memory ss in
    let facts = both_some t (first_where is_text ss) (first_where is_range ss) two (found_value _ Segments (count_by is_load ss) two e) in
    are_ranges ss two.0 two.1 (and_second _ (list_all fits_memory ss) facts.0) facts.1 facts.2 facts.3

-- bits and numbers that a test compares
is_number : (a b : ℕ) → (a == b) ≡ true → a ≡ b
is_number a b t = grind (arith, nat_tests)

pub text_runs : (s : Segment) → is_text s ≡ true → MayRun s
text_runs s t = (is_number (bits_of s.flags 0 1) 1 (and_second (is_load s) _ (and_first _ (bits_of s.flags 1 1 == 0) t)), is_number (bits_of s.flags 1 1) 0 (and_second (is_load s && bits_of s.flags 0 1 == 1) _ t))

pub range_writes : (s : Segment) → is_range s ≡ true → MayWrite s
range_writes s t = (is_number (bits_of s.flags 0 1) 0 (and_second (is_load s) _ (and_first _ (bits_of s.flags 1 1 == 1) t)), is_number (bits_of s.flags 1 1) 1 (and_second (is_load s && bits_of s.flags 0 1 == 0) _ t))

pub loadable : (s : Segment) → is_load s ≡ true → HasRoom s → is_alignment s.align ≡ true → IsLoadable s
loadable s load room aligned = record {
  kind = is_number s.kind PT_LOAD load;
  filled = room.filled;
  size = room.size;
  range = room.range;
  alignment = aligned;
}

pub text_loads : (s : Segment) → is_text s ≡ true → is_load s ≡ true
text_loads s t = and_first (is_load s) _ (and_first (is_load s && bits_of s.flags 0 1 == 1) _ t)

pub range_loads : (s : Segment) → is_range s ≡ true → is_load s ≡ true
range_loads s t = and_first (is_load s) _ (and_first (is_load s && bits_of s.flags 0 1 == 0) _ t)

or_cases : (a b : Bool) → (a || b) ≡ true → (a ≡ true) ⊎ (b ≡ true)
or_cases true b e = inl refl
or_cases false b e = inr e

order_holds : (a b : ℕ) → nat_le a b ≡ true → a ≤ b
order_holds a b t = grind (arith, nat_tests)

pub apart_facts : (a b : Segment) → share_none a b ≡ true → AreApart a b
unfolding share_none
apart_facts a b t =
    elim (or_cases (a.memsz == 0 || b.memsz == 0 || nat_le (a.vaddr + a.memsz) b.vaddr) (nat_le (b.vaddr + b.memsz) a.vaddr) t) [
      | inl front ↦ elim (or_cases (a.memsz == 0 || b.memsz == 0) (nat_le (a.vaddr + a.memsz) b.vaddr) front) [
        | inl none ↦ elim (or_cases (a.memsz == 0) (b.memsz == 0) none) [
          | inl first ↦ inl (inl (is_number a.memsz 0 first))
          | inr second ↦ inl (inr (is_number b.memsz 0 second))
        ]
        | inr below ↦ inr (inl (order_holds (a.vaddr + a.memsz) b.vaddr below))
      ]
      | inr above ↦ inr (inr (order_holds (b.vaddr + b.memsz) a.vaddr above))
    ]

pub inside_facts : (s : Segment) (at count : ℕ) → is_inside s at count ≡ true → IsInside s at count
unfolding is_inside
inside_facts s at count t = record {
  above = order_holds s.vaddr at (and_first (nat_le s.vaddr at) _ t);
  within = order_holds (at + count) (s.vaddr + s.memsz) (and_second (nat_le s.vaddr at) _ t);
}

-- L3
pub align_facts : (text range : Segment) → align_refusal text range ≡ None → (text.vaddr % 32 ≡ 0) × (is_alignment text.align ≡ true) × (is_alignment range.align ≡ true)
unfolding align_refusal
align_facts text range e =
    let one = both_none (must (text.vaddr % 32 == 0) TextAlign text.vaddr) _ e in
    let two = both_none (must (is_alignment text.align) TextAlign text.align) _ one.1 in
    (is_number (text.vaddr % 32) 0 (must_holds _ TextAlign text.vaddr one.0), must_holds _ TextAlign text.align two.0, must_holds _ TextAlign range.align two.1)

-- L4
pub table_facts : (range : Segment) (table slots : ℕ) → table_refusal range table slots ≡ None → (table % 4 ≡ 0) × (1 ≤ slots) × IsInside range table (4 * slots)
unfolding table_refusal
table_facts range table slots e =
    let t = must_holds (table % 4 == 0 && nat_le 1 slots && is_inside range table (4 * slots)) TableOutside table e in
    let front = and_first (table % 4 == 0 && nat_le 1 slots) _ t in
    (is_number (table % 4) 0 (and_first (table % 4 == 0) _ front), order_holds 1 slots (and_second (table % 4 == 0) _ front), inside_facts range table (4 * slots) (and_second (table % 4 == 0 && nat_le 1 slots) _ t))

-- L10
no_index : (index : ℕ) (t : Bool) → (not (index == 0) || t) ≡ true → index ≡ 0 → t ≡ true
no_index index true e none = refl
no_index index false e none =
    let is : (index == 0) ≡ true = grind (arith, nat_tests) in
    rw is at e

pub entry_facts : (text : Segment) (index entry : ℕ) → entry_refusal text index entry ≡ None → index ≡ 0 → (entry % 4 ≡ 0) × IsInside text entry 1
unfolding entry_refusal
entry_facts text index entry e none =
    let t = no_index index (entry % 4 == 0 && is_inside text entry 1) (must_holds _ EntryOutside entry e) none in
    (is_number (entry % 4) 0 (and_first (entry % 4 == 0) _ t), inside_facts text entry 1 (and_second (entry % 4 == 0) _ t))
