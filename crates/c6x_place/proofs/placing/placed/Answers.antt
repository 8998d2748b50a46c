use Rattle.std.proofs.Common.{Bool, List, length, sym, ap, ◌∙◌}
use Rattle.c6x_module.specs.declared.module.Module.{Module}
use Rattle.c6x_place.proofs.Walks.{length_used}
use Rattle.c6x_place.proofs.placing.placed.Goals as goal

pub place_texts-requires-clause-same : goal.place_texts-requires-clause-same
place_texts-requires-clause-same c =
    ap (λ (ms : List Module). length ms) c.as_slice.ensures.value
    ∙ sym (length_used c.as_slice-bounds.result.now 0 c.args.modules.now)
    ∙ ap (λ (us : List Bool). length us) (sym (c.deref.ensures.value ∙ c.in_ok-used.ensures))
