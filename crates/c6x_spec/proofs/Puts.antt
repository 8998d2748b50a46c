use Rattle.std.proofs.Common.{◌≡◌, ℕ, ◌+◌, List, ◌++◌, length, take, drop, get_or, ◌<◌, [], refl, sym, ◌∙◌, ap, arith}
use Rattle.std.specs.Prelude.{Option, None, Some, Result, Ok, Err, OnErr}
use Rattle.std.proofs.lemmas.Grind.{common_steps}
use Rattle.std.proofs.lemmas.List.{append_assoc, take-append-le, take-append-drop, take_more, flat_map_more}
use Rattle.std.proofs.lemmas.List.Concat.{flat_map-append}
use Rattle.std.specs.List.{flat_map}
use Rattle.std.proofs.Math.Seq.{take-append-add}
use Rattle.c6x_spec.specs.Sinks.{Takes, TakesFront}

-- bytes taken behind bytes taken are all of them
pub takes_then : (first second : List ℕ) (before amid now : Option (List ℕ)) → Takes first before amid → Takes second amid now → Takes (first ++ second) before now
takes_then first second None amid now a b = record { appended = rw (b.appended, a.appended) refl }
takes_then first second (Some had) amid now a b = record { appended = rw (b.appended, a.appended) (ap Some (append_assoc had first second)) }

-- a front of the second bytes behind the first is a front of all of them
pub takes_then_front : (first second : List ℕ) (before amid now : Option (List ℕ)) → Takes first before amid → TakesFront second amid now → TakesFront (first ++ second) before now
takes_then_front first second None amid now a b = record {
  count = length first + b.count;
  within = grind (arith, common_steps, b.within);
  appended = rw (b.appended, a.appended) refl;
}
takes_then_front first second (Some had) amid now a b = record {
  count = length first + b.count;
  within = grind (arith, common_steps, b.within);
  appended = rw (b.appended, a.appended, take-append-add) (ap Some (append_assoc had first (take b.count second)));
}

-- a front of some bytes is a front of more
pub front_of_more : (bytes more : List ℕ) (before now : Option (List ℕ)) → TakesFront bytes before now → TakesFront (bytes ++ more) before now
front_of_more bytes more before now b = record {
  count = b.count;
  within = grind (arith, common_steps, b.within);
  appended = let h : take b.count (bytes ++ more) ≡ take b.count bytes = take-append-le b.count bytes more b.within in rw h b.appended;
}

-- the pieces of a list up to one, that one, and the rest
pieces_at : {A : Type 0} (f : A → List ℕ) (xs : List A) (i : ℕ) (d : A) → i < length xs → flat_map f xs ≡ (flat_map f (take i xs) ++ f (get_or xs i d)) ++ flat_map f (drop (i + 1) xs)
pieces_at f xs i d inside =
    ap (flat_map f) (sym (take-append-drop (i + 1) xs))
    ∙ flat_map-append f (take (i + 1) xs) (drop (i + 1) xs)
    ∙ ap (λ ys. flat_map f ys ++ flat_map f (drop (i + 1) xs)) (take_more xs i d inside)
    ∙ ap (λ ys. ys ++ flat_map f (drop (i + 1) xs)) (sym (flat_map_more f [] (take i xs) (get_or xs i d)))

-- a front of one piece behind the pieces before it is a front of all pieces
pub front_of_pieces : {A : Type 0} (f : A → List ℕ) (xs : List A) (i : ℕ) (d : A) (before amid now : Option (List ℕ)) → i < length xs → Takes (flat_map f (take i xs)) before amid → TakesFront (f (get_or xs i d)) amid now → TakesFront (flat_map f xs) before now
front_of_pieces f xs i d before amid now inside all front =
    rw (pieces_at f xs i d inside) (front_of_more _ _ before now (takes_then_front _ _ before amid now all front))

-- what holds anyway holds after an error
pub on_err : {A E : Type 0} {P : Type 0} (r : Result A E) → P → OnErr r P
on_err (Ok _) _ = tt
on_err (Err _) holds = holds
