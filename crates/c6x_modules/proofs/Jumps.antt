use Rattle.std.proofs.Common.{◌≡◌, ℕ, suc, ◌+◌, ◌-◌, ◌<◌, Bool, true, false, List, [], ◌∷◌, ◌++◌, map, refl, ap, sym, ◌∙◌, append_assoc, arith}
use Rattle.std.specs.Prelude.{filter, if◌then◌else◌}
use Rattle.std.specs.List.{range_with_len}
use Rattle.c6x_elf.specs.TableEntries.{rela_at}
use Rattle.c6x_elf.specs.Types.{Rela}
use Rattle.c6x_module.specs.Tables.{is_outside}

-- the walk along the entries of JMPREL, one on
range_more : (k n : ℕ) → k < n → range_with_len k (n - k) ≡ k ∷ range_with_len (k + 1) (n - (k + 1))
range_more k n below =
    let e : n - k ≡ suc (n - (k + 1)) = omega arith in
    ap (range_with_len k) e

mapped : (f : ℕ → Rela) (test : ℕ → Bool) (k : ℕ) (ks : List ℕ) (t : Bool) → test k ≡ t → map f (filter test (k ∷ ks)) ≡ (if t then f k ∷ map f (filter test ks) else map f (filter test ks))
mapped f test k ks true is = rw is refl
mapped f test k ks false is = rw is refl

pub jumps_more : (big : Bool) (at : ℕ) (bytes : List ℕ) (from count k n : ℕ) → k < n → map (rela_at big bytes) (filter (is_outside at from count) (range_with_len k (n - k))) ≡ (if is_outside at from count k then rela_at big bytes k ∷ map (rela_at big bytes) (filter (is_outside at from count) (range_with_len (k + 1) (n - (k + 1)))) else map (rela_at big bytes) (filter (is_outside at from count) (range_with_len (k + 1) (n - (k + 1)))))
jumps_more big at bytes from count k n below =
    ap (λ (ks : List ℕ). map (rela_at big bytes) (filter (is_outside at from count) ks)) (range_more k n below)
    ∙ mapped (rela_at big bytes) (is_outside at from count) k (range_with_len (k + 1) (n - (k + 1))) (is_outside at from count k) refl

abbrev jumps_from : Bool → ℕ → List ℕ → ℕ → ℕ → ℕ → ℕ → List Rela
jumps_from big at bytes from count k n = map (rela_at big bytes) (filter (is_outside at from count) (range_with_len k (n - k)))

pub kept_step : (big : Bool) (at : ℕ) (bytes : List ℕ) (from count k n : ℕ) (before after : List Rela) (r : Rela) → k < n → is_outside at from count k ≡ true → r ≡ rela_at big bytes k → after ≡ before ++ r ∷ [] → after ++ jumps_from big at bytes from count (k + 1) n ≡ before ++ jumps_from big at bytes from count k n
kept_step big at bytes from count k n before after r below is entry put =
    ap (λ (xs : List Rela). xs ++ jumps_from big at bytes from count (k + 1) n) put
    ∙ append_assoc before (r ∷ []) (jumps_from big at bytes from count (k + 1) n)
    ∙ ap (λ (x : Rela). before ++ (x ∷ jumps_from big at bytes from count (k + 1) n)) entry
    ∙ ap (λ (xs : List Rela). before ++ xs) (sym (jumps_more big at bytes from count k n below ∙ rw is refl))

pub left_step : (big : Bool) (at : ℕ) (bytes : List ℕ) (from count k n : ℕ) (before after : List Rela) → k < n → is_outside at from count k ≡ false → after ≡ before → after ++ jumps_from big at bytes from count (k + 1) n ≡ before ++ jumps_from big at bytes from count k n
left_step big at bytes from count k n before after below is same =
    ap (λ (xs : List Rela). xs ++ jumps_from big at bytes from count (k + 1) n) same
    ∙ ap (λ (xs : List Rela). before ++ xs) (sym (jumps_more big at bytes from count k n below ∙ rw is refl))
