use Rattle.std.proofs.Common.{◌≡◌, ℕ, Bool, true, false, not, cond, List, [], ◌∷◌, refl, sym, ◌∙◌, ap}
use Rattle.std.specs.Prelude.{◌&&◌, ◌||◌}
use Rattle.std.specs.List.{list_any}
use Rattle.std.specs.Str.{bytes_eq}
use Rattle.std.specs.Cmp.{first_so, second_so}
use Rattle.std.proofs.lemmas.Bool.{false_from_ne_true, false≢true}
use Rattle.std.proofs.lemmas.Slice.Eq.{bytes_eq-Decides}
use Rattle.c6x_spec.specs.Files.{Files, stored}
use Rattle.c6x_ports.specs.Told.{are_distinct}

-- some file has this name
abbrev has : Files → List ℕ → Bool
has files name = list_any (λ file. bytes_eq file.0 name) files

-- names that differ one way differ the other way
differs_back : (a b : List ℕ) → bytes_eq a b ≡ false → bytes_eq b a ≡ false
differs_back a b differs =
    false_from_ne_true _ (λ same. false≢true (sym differs ∙ (bytes_eq-Decides a b).1 (sym ((bytes_eq-Decides b a).0 same))))

-- a store adds no other name
has-stored : (files : Files) (name bytes other : List ℕ) → bytes_eq name other ≡ false → has (stored files name bytes) other ≡ has files other
has-stored [] name bytes other apart = rw apart refl
has-stored (file ∷ files) name bytes other apart =
    elim (bytes_eq file.0 name) as (λ b. bytes_eq file.0 name ≡ b → has (cond b ((name, bytes) ∷ files) (file ∷ stored files name bytes)) other ≡ has (file ∷ files) other) [
      | true ↦ λ same. ap (λ n. bytes_eq n other || has files other) (sym ((bytes_eq-Decides file.0 name).0 same))
      | false ↦ λ differs. ap (λ rest. bytes_eq file.0 other || rest) (has-stored files name bytes other apart)
    ] refl

-- names that are distinct stay so where one more is stored
pub are_distinct-stored : (files : Files) (name bytes : List ℕ) → are_distinct files ≡ true → are_distinct (stored files name bytes) ≡ true
are_distinct-stored [] name bytes apart = refl
are_distinct-stored (file ∷ files) name bytes apart =
    elim (bytes_eq file.0 name) as (λ b. bytes_eq file.0 name ≡ b → are_distinct (cond b ((name, bytes) ∷ files) (file ∷ stored files name bytes)) ≡ true) [
      | true ↦ λ same. ap (λ n. not (has files n) && are_distinct files) (sym ((bytes_eq-Decides file.0 name).0 same)) ∙ apart
      | false ↦ λ differs.
          let alone : not (has files file.0) ≡ true = first_so (not (has files file.0)) (are_distinct files) apart in
          let others : are_distinct files ≡ true = second_so (not (has files file.0)) (are_distinct files) apart in
          let same : has (stored files name bytes) file.0 ≡ has files file.0 = has-stored files name bytes file.0 (differs_back file.0 name differs) in
          let kept : are_distinct (stored files name bytes) ≡ true = are_distinct-stored files name bytes others in
          rw (same, kept, alone) refl
    ] refl

-- the same of the pairs that a shelf holds afterwards
pub stays_distinct : (before after : Files) (name bytes : List ℕ) → after ≡ stored before name bytes → are_distinct before ≡ true → are_distinct after ≡ true
stays_distinct before after name bytes is apart = rw is (are_distinct-stored before name bytes apart)
