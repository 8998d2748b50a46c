-- How each list is walked: what is left of it, one member further.
use Rattle.std.proofs.Common.{◌≡◌, ℕ, ◌+◌, ◌<◌, Bool, List, ◌∷◌, length, drop, get_or, ap, ◌∙◌}
use Rattle.std.specs.Prelude.{Option}
use Rattle.std.proofs.lemmas.List.{drop_more}
use Rattle.c6x_spec.specs.Options.{◌>>=◌}
use Rattle.c6x_module.specs.declared.module.Module.{Module}
use Rattle.c6x_place.specs.Rooms.{range_of, wanted_text}
use Rattle.c6x_place.specs.Places.{bases_from, one_base, one_text, texts_from}

pub texts_more : (front : List (Option ℕ)) (cursor end : ℕ) (ms : List Module) (us : List Bool) (k : ℕ) (m : Module) (u : Bool) → k < length ms → k < length us → texts_from front cursor end (drop k ms) (drop k us) ≡ (one_text front cursor end (wanted_text (get_or us k u) (get_or ms k m).text) >>= λ next. texts_from next.0 next.1 end (drop (k + 1) ms) (drop (k + 1) us))
texts_more front cursor end ms us k m u below within =
    ap (λ (xs : List Module). texts_from front cursor end xs (drop k us)) (drop_more ms k m below)
    ∙ ap (λ (ys : List Bool). texts_from front cursor end (get_or ms k m ∷ drop (k + 1) ms) ys) (drop_more us k u within)

pub bases_more : (modules : List Module) (front : List ℕ) (cursor end : ℕ) (list : List ℕ) (i d : ℕ) → i < length list → bases_from modules front cursor end (drop i list) ≡ (one_base front cursor end (range_of modules (get_or list i d)) >>= λ next. bases_from modules next.0 next.1 end (drop (i + 1) list))
bases_more modules front cursor end list i d below =
    ap (bases_from modules front cursor end) (drop_more list i d below)
