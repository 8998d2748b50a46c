-- Names under a front.
use Rattle.std.proofs.Common.{◌≡◌, ℕ, true, List, [], ◌∷◌, ◌++◌, length, take, drop, refl, sym, ap, ◌∙◌, subst, append-nil, take-append-drop, arith}
use Rattle.std.proofs.lemmas.Bool.Decides.{nat_tests}
use Rattle.std.proofs.lemmas.Slice.Eq.{bytes_eq-Decides}
use Rattle.std.proofs.Math.Seq.{drop-append_seam, take-append_seam}
use Rattle.std.specs.Prelude.{IsTrue}
use Rattle.std.specs.Str.{bytes_eq}
use Rattle.c6x_elf.specs.Lists.{IsUnder, dotted, is_end, is_under, itself}
use Rattle.c6x_elf.proofs.Kept.{and_first, and_later}

-- what stands behind the front
ends : (front name rest : List ℕ) → name ≡ front ++ rest → is_end rest ≡ true → IsUnder front name
ends front name [] is end = itself (is ∙ append-nil front)
ends front name (byte ∷ bytes) is end =
    let dot : byte ≡ 46 = grind (arith, nat_tests) in
    dotted bytes (subst (λ b. name ≡ front ++ b ∷ bytes) dot is)

pub under_says : (front name : List ℕ) → IsTrue (is_under front name) → IsUnder front name
unfolding is_under
under_says front name is =
    let begins = (bytes_eq-Decides (take (length front) name) front).0 (and_first _ (is_end (drop (length front) name)) is) in
    let end = and_later (bytes_eq (take (length front) name) front) _ is in
    ends front name (drop (length front) name) (sym (take-append-drop (length front) name) ∙ ap (λ xs. xs ++ drop (length front) name) begins) end

begun : (front rest : List ℕ) → is_end rest ≡ true → IsTrue (is_under front (front ++ rest))
unfolding is_under
begun front rest end =
    let same = (bytes_eq-Decides (take (length front) (front ++ rest)) front).1 (take-append_seam front rest) in
    rw (same, drop-append_seam front rest) end

pub under_from : (front name : List ℕ) → IsUnder front name → IsTrue (is_under front name)
under_from front name (itself is) = subst (λ n. IsTrue (is_under front n)) (sym (is ∙ sym (append-nil front))) (begun front [] refl)
under_from front name (dotted rest is) = subst (λ n. IsTrue (is_under front n)) (sym is) (begun front (46 ∷ rest) refl)
