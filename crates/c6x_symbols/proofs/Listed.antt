-- Lists that a loop makes, one item on.
use Rattle.std.proofs.Common.{◌≡◌, ℕ, ◌+◌, ◌<◌, Bool, true, false, List, [], ◌∷◌, ◌++◌, length, take, get_or, map, refl, sym, ap, ◌∙◌, append_assoc, cond, if◌then◌else◌}
use Rattle.std.proofs.lemmas.List.{append-nil, map-append, take_more}
use Rattle.std.proofs.lemmas.List.Elements.{filter_more}
use Rattle.std.proofs.lemmas.Grind.{flat_map-append}
use Rattle.std.specs.List.{filter, flat_map}

pub mapped_more : {X Y : Type 0} (f : X → Y) (had : List Y) (xs : List X) (i : ℕ) (d : X) → i < length xs → had ++ map f (take (i + 1) xs) ≡ (had ++ map f (take i xs)) ++ f (get_or xs i d) ∷ []
mapped_more f had xs i d below =
    ap (λ ys. had ++ map f ys) (take_more xs i d below) ∙ ap (λ ys. had ++ ys) (map-append f (take i xs) (get_or xs i d ∷ []))
    ∙ sym (append_assoc had (map f (take i xs)) (f (get_or xs i d) ∷ []))

kept : {X Y : Type 0} (f : X → List Y) (x : X) (b : Bool) → flat_map f (cond b (x ∷ []) []) ≡ (if b then f x else [])
kept f x true = append-nil (f x)
kept f x false = refl

pub filtered_more : {X Y : Type 0} (f : X → List Y) (p : X → Bool) (had : List Y) (xs : List X) (i : ℕ) (d : X) → i < length xs → had ++ flat_map f (filter p (take (i + 1) xs)) ≡ (had ++ flat_map f (filter p (take i xs))) ++ (if p (get_or xs i d) then f (get_or xs i d) else [])
filtered_more f p had xs i d below =
    ap (λ ys. had ++ flat_map f ys) (filter_more p xs i d below)
    ∙ ap (λ ys. had ++ ys) (flat_map-append f (filter p (take i xs)) (cond (p (get_or xs i d)) (get_or xs i d ∷ []) []) ∙ ap (λ ys. flat_map f (filter p (take i xs)) ++ ys) (kept f (get_or xs i d) (p (get_or xs i d))))
    ∙ sym (append_assoc had (flat_map f (filter p (take i xs))) (if p (get_or xs i d) then f (get_or xs i d) else []))
