-- One section or block more is summed up.
use Rattle.std.proofs.Common.{◌≡◌, ℕ, ◌+◌, ◌-◌, ◌<◌, List, [], ◌∷◌, ◌++◌, length, get_or, min, drop, take, inl, inr, refl, sym, ap, ◌∙◌, arith}
use Rattle.std.proofs.lemmas.Bool.{cases_lt}
use Rattle.std.proofs.lemmas.List.{length-drop, take_all, take_more}
use Rattle.c6x_asm_object.specs.declared.asm_section.AsmSection.{AsmSection}
use Rattle.c6x_asm_object.specs.declared.summary.Summary.{Summary}
use Rattle.c6x_asm_object.specs.Sums.{joined, joined_all, section_summary, summed}

summed_push : (text : List ℕ) (s : Summary) (sections : List AsmSection) (p : AsmSection) → summed text s (sections ++ p ∷ []) ≡ joined (summed text s sections) (section_summary text p)
summed_push text s [] p = refl
summed_push text s (q ∷ sections) p = summed_push text (joined s (section_summary text q)) sections p

pub summed_more : (text : List ℕ) (s : Summary) (sections : List AsmSection) (i : ℕ) (d : AsmSection) → i < length sections → joined (summed text s (take i sections)) (section_summary text (get_or sections i d)) ≡ summed text s (take (i + 1) sections)
summed_more text s sections i d inside = sym (ap (summed text s) (take_more sections i d inside) ∙ summed_push text s (take i sections) (get_or sections i d))

joined_push : (s : Summary) (blocks : List Summary) (block : Summary) → joined_all s (blocks ++ block ∷ []) ≡ joined (joined_all s blocks) block
joined_push s [] block = refl
joined_push s (first ∷ blocks) block = joined_push (joined s first) blocks block

pub joined_more : (s : Summary) (blocks : List Summary) (i : ℕ) (d : Summary) → i < length blocks → joined (joined_all s (take i blocks)) (get_or blocks i d) ≡ joined_all s (take (i + 1) blocks)
joined_more s blocks i d inside = sym (ap (joined_all s) (take_more blocks i d inside) ∙ joined_push s (take i blocks) (get_or blocks i d))

-- a front of so many, where there are as many
take_least : (n : ℕ) (sections : List AsmSection) → take (min (length sections) n) sections ≡ take n sections
take_least n sections = elim (cases_lt n (length sections)) [
  | inl less ↦ ap (λ m. take m sections) (omega (arith, less))
  | inr more ↦ take_all (min (length sections) n) sections (omega (arith, more)) ∙ sym (take_all n sections more)
]

-- the same, where the rest of a list is cut at its length
pub front_of : (at n m : ℕ) (sections : List AsmSection) → m ≡ min (length (take (length sections - at) (drop at sections))) n → take m (take (length sections - at) (drop at sections)) ≡ take n (drop at sections)
front_of at n m sections is =
    let rest : take (length sections - at) (drop at sections) ≡ drop at sections = take_all (length sections - at) (drop at sections) (omega (arith, length-drop at sections)) in
    rw (is, rest) (take_least n (drop at sections))
