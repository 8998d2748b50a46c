-- How many dynamic symbols there are where no rule on sizes is broken.
use Rattle.std.proofs.Common.{◌≡◌, ℕ, zero, suc, ◌+◌, ◌-◌, ◌^◌, ◌<◌, ◌≤◌, Bool, true, false, List, [], ◌∷◌, ◌++◌, length, map, take, get_or, nat_le, nat_lt, cond, None, refl, ◌∙◌, length-append, if◌then◌else◌, arith}
use Rattle.std.specs.Prelude.{count_by}
use Rattle.std.proofs.lemmas.Bool.Decides.{nat_tests}
use Rattle.std.proofs.lemmas.List.{length-map, take_all}
use Rattle.std.proofs.lemmas.List.FromFn.{get_or-map-range_with_len, length-range_with_len, map-range_with_len_more}
use Rattle.std.specs.List.{fold, range_with_len}
use Rattle.c6x_dsbt.specs.declared.wanted.Wanted.{Wanted}
use Rattle.c6x_dsbt.specs.declared.wanted.Wanted.TheVariants.{Bound, Local}
use Rattle.c6x_layout.specs.Dynamics.{shared_numbers}
use Rattle.c6x_layout.specs.Layouts.{Laying, counts_of, data_end, most_32, size_refusal, table_at, word_refusal}
use Rattle.c6x_layout.specs.Regions.{wanted_region}
use Rattle.c6x_layout.specs.FilePlaces.{dynamic_at, hash_at, jumps_at, relas_at, strings_at, symbols_at, text_size}
use Rattle.c6x_layout.specs.declared.counts.Counts.{Counts}
use Rattle.c6x_layout.specs.declared.file_limits.TheConstants.{MOST_SEGMENT_BYTES}
use Rattle.c6x_symbols.specs.declared.region.Region.{Region}
use Rattle.c6x_symbols.specs.declared.region.Region.TheVariants.{Absolute, Data, Import, Text}
use Rattle.c6x_symbols.specs.Bindings.{BoundName, exports_of, imports_of, is_imported, numbers_where}
use Rattle.c6x_symbols.specs.Rules.{◌<|>◌, must, refusal}
use Rattle.c6x_symbols.specs.declared.link_rule.LinkRule.TheVariants.{Large}
use Rattle.c6x_link.specs.Targets.{dynamic_symbol, import_symbol, number_of_bound, target_of}
use Rattle.c6x_link.specs.Working.{Working}
use Rattle.c6x_link.specs.Worked.{HasFewSymbols, IsWorkedOut, laying_in}
use Rattle.c6x_link.proofs.ImageParts.{first_none, must_true}

count_from : (n : ℕ) (bs : List BoundName) → fold (λ a x. a + cond (is_imported x) 1 0) n bs ≡ n + fold (λ a x. a + cond (is_imported x) 1 0) 0 bs
count_from n [] = omega arith
count_from n (b ∷ bs) =
    let here = count_from (n + cond (is_imported b) 1 0) bs in
    let there = count_from (0 + cond (is_imported b) 1 0) bs in
    omega (arith, here, there)

count_cons : (b : BoundName) (bs : List BoundName) → count_by is_imported (b ∷ bs) ≡ (if is_imported b then 1 else 0) + count_by is_imported bs
count_cons b bs = let from = count_from (0 + cond (is_imported b) 1 0) bs in omega (arith, from)

imports_count : (n : ℕ) (bs : List BoundName) → length (numbers_where is_imported n bs) ≡ count_by is_imported bs
imports_count n [] = refl
imports_count n (b ∷ bs) = either (is_imported b) refl (imports_count (n + 1) bs)
  where
    either : (t : Bool) → is_imported b ≡ t → length (numbers_where is_imported (n + 1) bs) ≡ count_by is_imported bs → length (numbers_where is_imported n (b ∷ bs)) ≡ count_by is_imported (b ∷ bs)
    either true is rest = rw (count_cons b bs, is) (omega (arith, rest))
    either false is rest = rw (count_cons b bs, is) (omega (arith, rest))

take_count : (n : ℕ) (bs : List BoundName) → count_by is_imported (take n bs) ≤ count_by is_imported bs
take_count zero bs = omega arith
take_count (suc n) [] = omega arith
take_count (suc n) (b ∷ bs) = omega (arith, take_count n bs, count_cons b bs, count_cons b (take n bs))

symbol_within : (bs : List BoundName) (n : ℕ) → import_symbol bs n ≤ 3 + length (shared_numbers bs)
unfolding import_symbol imports_of
symbol_within bs n = omega (arith, take_count n bs, imports_count 0 bs, length-append (exports_of bs) (numbers_where is_imported 0 bs))

symbols_within : (c : Counts) → text_size c ≤ MOST_SEGMENT_BYTES → c.symbols ≤ 65536
unfolding text_size dynamic_at jumps_at relas_at strings_at symbols_at hash_at
symbols_within c small = omega (arith, small)

text_small : (l : Laying) → size_refusal l ≡ None → text_size (counts_of l) ≤ MOST_SEGMENT_BYTES
unfolding size_refusal
text_small l sized =
    let first = first_none (must (nat_le (text_size (counts_of l)) MOST_SEGMENT_BYTES) (refusal Large 0 (most_32 (text_size (counts_of l))))) (must (nat_le (data_end l - table_at l) MOST_SEGMENT_BYTES) (refusal Large 0 (most_32 (data_end l - table_at l))) <|> word_refusal l) sized in
    let holds : nat_le (text_size (counts_of l)) MOST_SEGMENT_BYTES ≡ true = must_true (nat_le (text_size (counts_of l)) MOST_SEGMENT_BYTES) (refusal Large 0 (most_32 (text_size (counts_of l)))) first in
    grind (arith, nat_tests)

imports_small : (w : Working) → IsWorkedOut w → (number : ℕ) → import_symbol w.bindings number < 2 ^ 24
unfolding counts_of
imports_small w is number =
    let few = symbols_within (counts_of (laying_in w)) (text_small (laying_in w) is.sized) in
    let within = symbol_within w.bindings number in
    omega (arith, few, within)

pub few_symbols : (w : Working) → IsWorkedOut w → HasFewSymbols w
unfolding target_of
few_symbols w is = record {
  imports = imports_small w is;
  targets = λ wanted. of_region (wanted_region w.objects w.bindings wanted) wanted;
}
  where
    of_wanted : (wanted : Wanted) → number_of_bound w.bindings wanted < 2 ^ 24
    of_wanted (Bound number) = one (nat_lt number (length w.bindings))
      where
        one : (b : Bool) → (if b then import_symbol w.bindings number else 0) < 2 ^ 24
        one true = imports_small w is number
        one false = omega arith
    of_wanted (Local object symbol) = omega arith

    of_region : (region : Region) (wanted : Wanted) → dynamic_symbol w.bindings region wanted < 2 ^ 24
    of_region Text wanted = omega arith
    of_region Data wanted = omega arith
    of_region Import wanted = of_wanted wanted
    of_region Absolute wanted = omega arith

-- the numbers of imports by the numbers of their names
pub past_is_last : (bs : List BoundName) (n : ℕ) → length bs ≤ n → import_symbol bs n ≡ import_symbol bs (length bs)
unfolding import_symbol
past_is_last bs n past = rw (take_all n bs past, take_all (length bs) bs (omega arith)) refl

abbrev pub symbols_to : List BoundName → ℕ → List ℕ
symbols_to bs count = map (import_symbol bs) (range_with_len 0 count)

pub symbols_more : (bs : List BoundName) (n : ℕ) → symbols_to bs (n + 1) ≡ symbols_to bs n ++ import_symbol bs n ∷ []
symbols_more bs n = map-range_with_len_more (import_symbol bs) 0 n n (omega arith)

pub symbols_length : (bs : List BoundName) (n : ℕ) → length (symbols_to bs n) ≡ n
symbols_length bs n = length-map (range_with_len 0 n) (import_symbol bs) ∙ length-range_with_len 0 n

pub symbol_here : (bs : List BoundName) (n k d : ℕ) → k < n → get_or (symbols_to bs n) k d ≡ import_symbol bs k
symbol_here bs n k d below = get_or-map-range_with_len (import_symbol bs) 0 n k k d below (omega arith)
