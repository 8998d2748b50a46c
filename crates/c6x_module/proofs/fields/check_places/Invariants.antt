use Rattle.std.proofs.Common.{◌≡◌, drop, ℕ, ◌<◌}
use Rattle.std.specs.Prelude.{slice_index_or}
use Rattle.c6x_spec.specs.Firsts.{first_along}
use Rattle.c6x_module.specs.declared.field.Field.{Field}
use Rattle.c6x_module.specs.Fields.{place_refusal, IsPlaced}
use Rattle.c6x_module.proofs.fields.check_places.Given as goal

abbrev pub invariant-loop-field : goal.invariant-loop-field
invariant-loop-field l = record {
  rules : first_along (place_refusal l.range) (drop l.field-index l.fields) ≡ first_along (place_refusal l.range) l.fields;
  inside : (k : ℕ) (d : Field) → k < l.field-index → IsPlaced l.range (slice_index_or l.fields k d);
}
