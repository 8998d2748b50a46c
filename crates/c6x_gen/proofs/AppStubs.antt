-- The first places of numbers that come round.
use Rattle.std.proofs.Common.{◌≡◌, ℕ, zero, suc, ◌+◌, ◌%◌, ◌<◌, ◌≤◌, ◌||◌, min, nat_eq, nat_lt, Bool, true, false, List, [], ◌∷◌, ◌++◌, refl, ap, sym, ◌∙◌, arith}
use Rattle.std.specs.List.{fold, list_any, range_with_len}
use Rattle.std.proofs.lemmas.Bool.Decides.{nat_tests}
use Rattle.std.proofs.lemmas.Grind.{fold-append}
use Rattle.c6x_dsbt.proofs.Folded.{stubs_folded}
use Rattle.c6x_dsbt.specs.Firsts.{firsts}
use Rattle.c6x_dsbt.specs.Growth.{with_stub}
use Rattle.c6x_gen.specs.Lists.{each_below}

range_more : (a n : ℕ) → range_with_len a (suc n) ≡ range_with_len a n ++ (a + n) ∷ []
range_more a zero = let same : a ≡ a + zero = omega arith in ap (λ k. k ∷ []) same
range_more a (suc n) =
    let same : a + 1 + n ≡ a + suc n = omega arith in
    ap (λ xs. a ∷ xs) (range_more (a + 1) n ∙ ap (λ k. range_with_len (a + 1) n ++ k ∷ []) same)

-- a number is among these, or is not
eq_other : (x y : ℕ) → (x ≡ y → ⊥) → nat_eq x y ≡ false
eq_other x y other = grind (arith, nat_tests)

pub or_false : (a b : Bool) → a ≡ false → b ≡ false → (a || b) ≡ false
or_false a b first second = rw first second

none_there : (x a n : ℕ) → a + n ≤ x → list_any (nat_eq x) (range_with_len a n) ≡ false
none_there x a zero behind = refl
none_there x a (suc n) behind =
    or_false (nat_eq x a) (list_any (nat_eq x) (range_with_len (a + 1) n)) (eq_other x a (omega (arith, behind))) (none_there x (a + 1) n (omega (arith, behind)))

there_by : (x a n : ℕ) (b : Bool) → nat_eq x a ≡ b → ((x ≡ a → ⊥) → list_any (nat_eq x) (range_with_len (a + 1) n) ≡ true) → (nat_eq x a || list_any (nat_eq x) (range_with_len (a + 1) n)) ≡ true
there_by x a n true is later = rw is refl
there_by x a n false is later =
    let other : x ≡ a → ⊥ = grind (arith, nat_tests) in
    rw is (later other)

one_there : (x a n : ℕ) → a ≤ x → x < a + n → list_any (nat_eq x) (range_with_len a n) ≡ true
one_there x a zero least below = absurd (omega (arith, least, below))
one_there x a (suc n) least below =
    there_by x a n (nat_eq x a) refl (λ other. one_there x (a + 1) n (omega (arith, least, other)) (omega (arith, below)))

-- the numbers behind 0 of what remains of each line by 11
abbrev pub rounds : ℕ → List ℕ
rounds count = each_below count (λ line. (1 + line % 11) ∷ [])

round_more : (last : ℕ) → with_stub (range_with_len 1 (min last 11)) (1 + last % 11) ≡ range_with_len 1 (min (suc last) 11)
round_more last = either (nat_lt last 11) refl
  where
    either : (b : Bool) → nat_lt last 11 ≡ b → with_stub (range_with_len 1 (min last 11)) (1 + last % 11) ≡ range_with_len 1 (min (suc last) 11)
    either true is =
        let below : last < 11 = grind (arith, nat_tests) in
        let few : min last 11 ≡ last = omega (arith, below) in
        let more : min (suc last) 11 ≡ suc last = omega (arith, below) in
        let same : 1 + last % 11 ≡ 1 + last = omega (arith, below) in
        rw (few, more, same, none_there (1 + last) 1 last (omega arith)) (sym (range_more 1 last))
    either false is =
        let above : 11 ≤ last = grind (arith, nat_tests) in
        let few : min last 11 ≡ 11 = omega (arith, above) in
        let more : min (suc last) 11 ≡ 11 = omega (arith, above) in
        rw (few, more, one_there (1 + last % 11) 1 11 (omega arith) (omega arith)) refl

folded : (count : ℕ) → fold with_stub [] (rounds count) ≡ range_with_len 1 (min count 11)
unfolding each_below
folded zero = refl
folded (suc last) =
    fold-append with_stub [] (rounds last) ((1 + last % 11) ∷ [])
    ∙ (ap (λ numbers. with_stub numbers (1 + last % 11)) (folded last) ∙ round_more last)

pub first_rounds : (count : ℕ) → firsts nat_eq (rounds count) ≡ range_with_len 1 (min count 11)
first_rounds count = sym (stubs_folded (rounds count)) ∙ folded count
