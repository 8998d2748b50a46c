-- Sections laid one behind the other, one section on.
use Rattle.std.proofs.Common.{◌≡◌, ℕ, ◌+◌, ◌<◌, ◌≤◌, max, Bool, true, false, List, [], ◌∷◌, ◌++◌, length, drop, get_or, refl, sym, ap, ◌∙◌, append_assoc, cond, arith}
use Rattle.std.proofs.lemmas.List.{append-nil, drop_all, drop_more}
use Rattle.std.specs.List.{filter}
use Rattle.c6x_spec.proofs.RoundedUp.{rounded_is_least}
use Rattle.c6x_symbols.specs.declared.part.Part.{Part}
use Rattle.c6x_layout.specs.Groups.{end_with, place_with}
use Rattle.c6x_layout.specs.Places.{place_of, places_end, places_from, start_of}
use Rattle.c6x_layout.specs.declared.place.Place.{Place}

end_case : (b : Bool) (at : ℕ) (p : Part) (rest : List Part) → places_end at (cond b (p ∷ rest) rest) ≡ places_end (end_with b at p) rest
end_case true at p rest = refl
end_case false at p rest = refl

pub end_drop : (test : Part → Bool) (at : ℕ) (ps : List Part) (i : ℕ) (d : Part) → i < length ps → places_end at (filter test (drop i ps)) ≡ places_end (end_with (test (get_or ps i d)) at (get_or ps i d)) (filter test (drop (i + 1) ps))
end_drop test at ps i d below =
    ap (λ xs. places_end at (filter test xs)) (drop_more ps i d below)
    ∙ end_case (test (get_or ps i d)) at (get_or ps i d) (filter test (drop (i + 1) ps))

pub end_all : (test : Part → Bool) (at : ℕ) (ps : List Part) (i : ℕ) → length ps ≤ i → places_end at (filter test (drop i ps)) ≡ at
end_all test at ps i past = ap (λ xs. places_end at (filter test xs)) (drop_all i ps past)

places_case : (b : Bool) (had : List Place) (at : ℕ) (p : Part) (rest : List Part) → had ++ places_from at (cond b (p ∷ rest) rest) ≡ (had ++ place_with b at p) ++ places_from (end_with b at p) rest
places_case true had at p rest = sym (append_assoc had (place_of (start_of at p.align) p ∷ []) (places_from (start_of at p.align + p.size) rest))
places_case false had at p rest = ap (λ xs. xs ++ places_from at rest) (sym (append-nil had))

pub places_drop : (test : Part → Bool) (had : List Place) (at : ℕ) (ps : List Part) (i : ℕ) (d : Part) → i < length ps → had ++ places_from at (filter test (drop i ps)) ≡ (had ++ place_with (test (get_or ps i d)) at (get_or ps i d)) ++ places_from (end_with (test (get_or ps i d)) at (get_or ps i d)) (filter test (drop (i + 1) ps))
places_drop test had at ps i d below =
    ap (λ xs. had ++ places_from at (filter test xs)) (drop_more ps i d below)
    ∙ places_case (test (get_or ps i d)) had at (get_or ps i d) (filter test (drop (i + 1) ps))

pub places_all : (test : Part → Bool) (had : List Place) (at : ℕ) (ps : List Part) (i : ℕ) → length ps ≤ i → had ++ places_from at (filter test (drop i ps)) ≡ had
places_all test had at ps i past = ap (λ xs. had ++ places_from at (filter test xs)) (drop_all i ps past) ∙ append-nil had

-- a part begins at or behind the end before it, and so does the end behind all
pub start_above : (at align : ℕ) → at ≤ start_of at align
unfolding start_of
start_above at align = (rounded_is_least at (max align 1) (omega arith)).not_below

pub end_above : (at : ℕ) (ps : List Part) → at ≤ places_end at ps
end_above at [] = omega arith
end_above at (p ∷ ps) = omega (arith, start_above at p.align, end_above (start_of at p.align + p.size) ps)

-- a part that is laid ends at or before the end behind all
pub part_below : (test : Part → Bool) (at : ℕ) (ps : List Part) (i : ℕ) (d : Part) (end limit : ℕ) → i < length ps → places_end at (filter test (drop i ps)) ≡ end → end < limit → end_with (test (get_or ps i d)) at (get_or ps i d) < limit
part_below test at ps i d end limit below is small =
    omega (arith, end_above (end_with (test (get_or ps i d)) at (get_or ps i d)) (filter test (drop (i + 1) ps)), end_drop test at ps i d below, is)
