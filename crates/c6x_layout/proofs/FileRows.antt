-- The rows of entries, put one group behind the other.
use Rattle.std.proofs.Common.{◌≡◌, ℕ, ◌+◌, ◌<◌, ◌≤◌, false, List, ◌∷◌, ◌++◌, length, get_or, drop, drop-cons, add-one, sym, ap, ◌∙◌, append_assoc}
use Rattle.std.proofs.lemmas.List.{append-nil, drop_all}
use Rattle.std.proofs.lemmas.List.Concat.{flat_map-append}
use Rattle.std.specs.List.{flat_map}
use Rattle.c6x_elf.specs.EntryRows.{dynamic_row, dynamic_rows}
use Rattle.c6x_elf.specs.Types.{Dyn}

pub rows_step : {A : Type 0} (f : A → List ℕ) (bytes more : List ℕ) (xs : List A) (i : ℕ) (d : A) → i < length xs
    → more ≡ bytes ++ f (get_or xs i d) → more ++ flat_map f (drop (i + 1) xs) ≡ bytes ++ flat_map f (drop i xs)
rows_step f bytes more xs i d below put =
    let cut : drop i xs ≡ get_or xs i d ∷ drop (i + 1) xs = rw (add-one i) (drop-cons xs i d below) in
    rw put (append_assoc bytes (f (get_or xs i d)) (flat_map f (drop (i + 1) xs)) ∙ ap (λ ys. bytes ++ flat_map f ys) (sym cut))

pub rows_done : {A : Type 0} (f : A → List ℕ) (bytes : List ℕ) (xs : List A) (i : ℕ) → length xs ≤ i → bytes ≡ bytes ++ flat_map f (drop i xs)
rows_done f bytes xs i past = sym (rw (drop_all i xs past) (append-nil bytes))

pub four_groups : (bytes : List ℕ) (a b c d : List Dyn) → (((bytes ++ dynamic_rows false a) ++ dynamic_rows false b) ++ dynamic_rows false c) ++ dynamic_rows false d ≡ bytes ++ dynamic_rows false (a ++ (b ++ (c ++ d)))
four_groups bytes a b c d =
    append_assoc ((bytes ++ dynamic_rows false a) ++ dynamic_rows false b) (dynamic_rows false c) (dynamic_rows false d)
    ∙ append_assoc (bytes ++ dynamic_rows false a) (dynamic_rows false b) (dynamic_rows false c ++ dynamic_rows false d)
    ∙ append_assoc bytes (dynamic_rows false a) (dynamic_rows false b ++ (dynamic_rows false c ++ dynamic_rows false d))
    ∙ ap (λ rest. bytes ++ (dynamic_rows false a ++ (dynamic_rows false b ++ rest))) (sym (flat_map-append (dynamic_row false) c d))
    ∙ ap (λ rest. bytes ++ (dynamic_rows false a ++ rest)) (sym (flat_map-append (dynamic_row false) b (c ++ d)))
    ∙ ap (λ rest. bytes ++ rest) (sym (flat_map-append (dynamic_row false) a (b ++ (c ++ d))))
