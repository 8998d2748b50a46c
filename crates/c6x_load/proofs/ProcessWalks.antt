use Rattle.std.proofs.Common.{◌≡◌, ℕ, ◌+◌, ◌<◌, List, ◌∷◌, length, drop, get_or, ap, ◌∙◌}
use Rattle.std.specs.Prelude.{Option, slice_get}
use Rattle.std.proofs.lemmas.List.{drop_more}
use Rattle.c6x_module.specs.declared.module.Module.{Module}
use Rattle.c6x_load.specs.Values.{text_at}
use Rattle.c6x_load.specs.Areas.{range_areas, range_size, readable, text_areas, text_size, writable}

pub texts_more : (modules : List Module) (texts : List (Option ℕ)) (list : List ℕ) (i d : ℕ) → i < length list → text_areas modules texts (drop i list) ≡ (readable (text_at texts (get_or list i d)) (text_size (slice_get modules (get_or list i d))) ∷ text_areas modules texts (drop (i + 1) list))
texts_more modules texts list i d below = ap (text_areas modules texts) (drop_more list i d below)

pub ranges_more : (modules : List Module) (list bases : List ℕ) (i d e : ℕ) → i < length list → i < length bases → range_areas modules (drop i list) (drop i bases) ≡ (writable (get_or bases i e) (range_size (slice_get modules (get_or list i d))) ∷ range_areas modules (drop (i + 1) list) (drop (i + 1) bases))
ranges_more modules list bases i d e below within =
    ap (λ (xs : List ℕ). range_areas modules xs (drop i bases)) (drop_more list i d below)
    ∙ ap (λ (ys : List ℕ). range_areas modules (get_or list i d ∷ drop (i + 1) list) ys) (drop_more bases i e within)
