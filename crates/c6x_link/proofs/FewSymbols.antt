-- A module's dynamic symbols are few, since its text has room for them.
use Rattle.std.proofs.Common.{◌≡◌, ℕ, zero, suc, ◌+◌, ◌*◌, ◌^◌, ◌<◌, ◌≤◌, Bool, true, false, List, [], ◌∷◌, ◌++◌, Option, None, Some, length, take, drop, cond, get_or, if◌then◌else◌, nat_le, nat_lt, refl, sym, ap, ◌∙◌, arith, length-append}
use Rattle.std.specs.Prelude.{count_by, All}
use Rattle.std.proofs.lemmas.Bool.Decides.{nat_tests}
use Rattle.std.proofs.lemmas.List.{take-append-drop}
use Rattle.std.proofs.lemmas.List.Sums.{sum_by-append}
use Rattle.c6x_dsbt.specs.declared.wanted.Wanted.{Wanted}
use Rattle.c6x_dsbt.specs.declared.wanted.Wanted.TheVariants.{Bound, Local}
use Rattle.c6x_layout.specs.Dynamics.{shared_numbers}
use Rattle.c6x_layout.specs.Layouts.{Laying, counts_of, size_refusal}
use Rattle.c6x_layout.specs.Regions.{wanted_region}
use Rattle.c6x_layout.specs.FilePlaces.{dynamic_at, hash_at, jumps_at, relas_at, strings_at, symbols_at, text_size, entry_count}
use Rattle.c6x_layout.specs.declared.counts.Counts.{Counts}
use Rattle.c6x_layout.specs.declared.file_limits.TheConstants.{MOST_SEGMENT_BYTES}
use Rattle.c6x_symbols.specs.declared.region.Region.{Region}
use Rattle.c6x_symbols.specs.declared.region.Region.TheVariants.{Absolute, Data, Import, Text}
use Rattle.c6x_symbols.specs.Bindings.{BoundName, exports_of, imports_of, is_imported, numbers_where}
use Rattle.c6x_symbols.specs.Rules.{Refusal, ◌<|>◌, must}
use Rattle.c6x_link.specs.Targets.{import_symbol, number_of_bound, symbol_of_region, target_of}
use Rattle.c6x_link.specs.Working.{Working}

pub first_none : {A : Type 0} (a b : Option A) → (a <|> b) ≡ None → a ≡ None
first_none None b is = refl
first_none (Some x) b is = is

pub later_none : {A : Type 0} (a b : Option A) → (a <|> b) ≡ None → b ≡ None
later_none None b is = is
later_none (Some x) b is = absurd (cc is)

pub holds : (b : Bool) (broken : Refusal) → must b broken ≡ None → b ≡ true
unfolding must
holds true broken is = refl
holds false broken is = absurd (cc is)

pub text_fits : (l : Laying) → size_refusal l ≡ None → text_size (counts_of l) ≤ MOST_SEGMENT_BYTES
unfolding size_refusal
text_fits l is =
    let test : nat_le (text_size (counts_of l)) MOST_SEGMENT_BYTES ≡ true = holds (nat_le (text_size (counts_of l)) MOST_SEGMENT_BYTES) _ (first_none _ _ is) in
    grind (arith, nat_tests, test)

symbols_in_text : (c : Counts) → 16 * c.symbols ≤ text_size c
unfolding text_size dynamic_at jumps_at relas_at strings_at symbols_at hash_at
symbols_in_text c = omega arith

counted_cons : (test : BoundName → Bool) (b : BoundName) (bs : List BoundName) → count_by test (b ∷ bs) ≡ count_by test (b ∷ []) + count_by test bs
counted_cons test b bs = sum_by-append (λ x. cond (test x) 1 0) (b ∷ []) bs

one : (test : BoundName → Bool) (t : Bool) (n : ℕ) (b : BoundName) (xs : List ℕ) (rest : ℕ) → length xs ≡ rest → length (if t then n ∷ xs else xs) ≡ cond t 1 0 + rest
one test true n b xs rest is = omega arith
one test false n b xs rest is = omega arith

alone : (test : BoundName → Bool) (b : BoundName) → cond (test b) 1 0 ≡ count_by test (b ∷ [])
alone test b = omega arith

numbers_counted : (test : BoundName → Bool) (n : ℕ) (bs : List BoundName) → length (numbers_where test n bs) ≡ count_by test bs
numbers_counted test n [] = refl
numbers_counted test n (b ∷ bs) =
    one test (test b) n b (numbers_where test (n + 1) bs) (count_by test bs) (numbers_counted test (n + 1) bs)
    ∙ ap (λ k. k + count_by test bs) (alone test b)
    ∙ sym (counted_cons test b bs)

front_less : (test : BoundName → Bool) (n : ℕ) (bs : List BoundName) → count_by test (take n bs) ≤ count_by test bs
front_less test n bs =
    let whole : count_by test (take n bs ++ drop n bs) ≡ count_by test (take n bs) + count_by test (drop n bs) = sum_by-append (λ x. cond (test x) 1 0) (take n bs) (drop n bs) in
    let same : count_by test (take n bs ++ drop n bs) ≡ count_by test bs = ap (count_by test) (take-append-drop n bs) in
    omega (arith, whole, same)

-- the number of an import's symbol is below the number of symbols, and 65,536 of them fill the text
pub import_small : (l : Laying) (n : ℕ) → size_refusal l ≡ None → import_symbol l.bindings n ≤ 65536
unfolding import_symbol counts_of imports_of
import_small l n is =
    let room = text_fits l is in
    let all = symbols_in_text (counts_of l) in
    let both : length (shared_numbers l.bindings) ≡ length (exports_of l.bindings) + length (imports_of l.bindings) = length-append (exports_of l.bindings) (imports_of l.bindings) in
    let few = front_less is_imported n l.bindings in
    let same = numbers_counted is_imported 0 l.bindings in
    omega (arith, room, all, both, few, same)
