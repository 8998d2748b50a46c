use Rattle.std.proofs.Common.{◌≡◌, ℕ, ◌==◌, ◌&&◌, Bool, true, false, List, [], ◌∷◌, ◌++◌, refl, ◌∙◌}
use Rattle.std.specs.Prelude.{Option, None, Some, Ok, IsOk, IsSome, if◌then◌else◌}
use Rattle.std.specs.List.{count_by, list_all}
use Rattle.c6x_elf.specs.declared.segment.Segment.{Segment}
use Rattle.c6x_module.specs.declared.module_rule.ModuleRule.TheVariants.{Segments}
use Rattle.c6x_module.specs.Ranges.{both_apart, first_where, fits_memory, is_load, is_range, is_text, ranges_in, ranges_of, share_none}
use Rattle.c6x_module.specs.Refusals.{found}
use Rattle.c6x_modules.specs.Surveyed.{or_later}

-- the first of a list with one segment more
here : (x : Segment) (old : Option Segment) (t : Bool) → or_later (if t then Some x else None) old ≡ (if t then Some x else old)
here x old true = refl
here x old false = refl

behind : (test : Segment → Bool) (x s : Segment) (xs : List Segment) (old : Option Segment) (t : Bool) → or_later (first_where test (xs ++ s ∷ [])) old ≡ or_later (first_where test xs) (if test s then Some s else old) → or_later (if t then Some x else first_where test (xs ++ s ∷ [])) old ≡ or_later (if t then Some x else first_where test xs) (if test s then Some s else old)
behind test x s xs old true rest = refl
behind test x s xs old false rest = rest

pub first_behind : (test : Segment → Bool) (xs : List Segment) (s : Segment) (old : Option Segment) → or_later (first_where test (xs ++ s ∷ [])) old ≡ or_later (first_where test xs) (if test s then Some s else old)
first_behind test [] s old = here s old (test s)
first_behind test (x ∷ xs) s old = behind test x s xs old (test x) (first_behind test xs s old)

-- where there are ranges, they are the first two
abbrev pair : Segment → Segment → Segment × Segment
pair a b = (a, b)

one_found : (a b : Segment) (n : ℕ) (t : Bool) → IsOk (found (if t then Some (pair a b) else None) Segments n) → found (if t then Some (pair a b) else None) Segments n ≡ Ok (pair a b)
one_found a b n true ok = refl
one_found a b n false ok = cc

both_found : (t : Bool) (x y : Option Segment) (a b : Segment) (n : ℕ) → x ≡ Some a → y ≡ Some b → IsOk (found (if t then both_apart x y else None) Segments n) → found (if t then both_apart x y else None) Segments n ≡ Ok (pair a b)
both_found true (Some x) (Some y) a b n text range ok =
    let first : x ≡ a = cc in
    let second : y ≡ b = cc in
    one_found x y n (share_none x y) ok ∙ cc
both_found true None y a b n text range ok = cc
both_found true (Some x) None a b n text range ok = cc
both_found false x y a b n text range ok = cc

pub ranges_found : (ss : List Segment) (a b : Segment) → IsOk (ranges_in ss) → first_where is_text ss ≡ Some a → first_where is_range ss ≡ Some b → ranges_in ss ≡ Ok (pair a b)
unfolding ranges_in ranges_of
ranges_found ss a b ok text range =
    both_found (count_by is_text ss == 1 && count_by is_range ss == 1 && list_all fits_memory ss) (first_where is_text ss) (first_where is_range ss) a b (count_by is_load ss) text range ok

some_both : (t : Bool) (x y : Option Segment) (n : ℕ) → IsOk (found (if t then both_apart x y else None) Segments n) → IsSome x × IsSome y
some_both true (Some x) (Some y) n ok = (refl, refl)
some_both true None y n ok = absurd (cc)
some_both true (Some x) None n ok = absurd (cc)
some_both false x y n ok = absurd (cc)

some_found : (ss : List Segment) → IsOk (ranges_in ss) → IsSome (first_where is_text ss) × IsSome (first_where is_range ss)
unfolding ranges_in ranges_of
some_found ss ok =
    some_both (count_by is_text ss == 1 && count_by is_range ss == 1 && list_all fits_memory ss) (first_where is_text ss) (first_where is_range ss) (count_by is_load ss) ok

pub text_found : (ss : List Segment) → IsOk (ranges_in ss) → IsSome (first_where is_text ss)
text_found ss ok = (some_found ss ok).0

pub range_found : (ss : List Segment) → IsOk (ranges_in ss) → IsSome (first_where is_range ss)
range_found ss ok = (some_found ss ok).1
