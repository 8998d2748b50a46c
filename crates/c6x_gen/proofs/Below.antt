-- What a test says of each number below another.
use Rattle.std.proofs.Common.{◌≡◌, ℕ, zero, suc, ◌<◌, Bool, true, ◌&&◌, subst, sym, arith, ⊎_elim}
use Rattle.std.proofs.lemmas.Bool.{and_parts, cases_eq}

abbrev pub all_below : ℕ → (ℕ → Bool) → Bool
all_below zero test = true
all_below (suc last) test = test last && all_below last test

pub each_below_all : (count : ℕ) (test : ℕ → Bool) → all_below count test ≡ true → (number : ℕ) → number < count → test number ≡ true
each_below_all zero test all number below = absurd (omega (arith, below))
each_below_all (suc last) test all number below =
    let both = and_parts (test last) (all_below last test) all in
    ⊎_elim (λ (is : number ≡ last). subst (λ k. test k ≡ true) (sym is) both.0)
    (λ (other : number ≡ last → ⊥). each_below_all last test both.1 number (omega (arith, below, other)))
    (cases_eq number last)
