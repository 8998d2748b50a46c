use Rattle.std.proofs.Common.{◌≡◌, ℕ, ◌+◌, ◌<◌, List, ◌∷◌, length, drop, get_or, ap, ◌∙◌}
use Rattle.std.specs.Prelude.{slice_get}
use Rattle.std.proofs.lemmas.List.{drop_more}
use Rattle.c6x_module.specs.declared.module.Module.{Module}
use Rattle.c6x_load.specs.Values.{slot_of, slot_or, slot_word}

pub slot_more : (modules : List Module) (list bases : List ℕ) (index i d e : ℕ) → i < length list → i < length bases → slot_word modules (drop i list) (drop i bases) index ≡ slot_or (slot_of (slice_get modules (get_or list i d)) (get_or bases i e) index) (slot_word modules (drop (i + 1) list) (drop (i + 1) bases) index)
slot_more modules list bases index i d e below within =
    ap (λ (xs : List ℕ). slot_word modules xs (drop i bases) index) (drop_more list i d below)
    ∙ ap (λ (ys : List ℕ). slot_word modules (get_or list i d ∷ drop (i + 1) list) ys index) (drop_more bases i e within)
