use Rattle.std.proofs.Common.{◌<◌, length, arith}
use Rattle.std.proofs.lemmas.Grind.{common_steps}
use Rattle.std.proofs.lemmas.List.FromFn.{map-range_with_len_more}
use Rattle.c6x_link.specs.TargetRows.{bound_target}
use Rattle.c6x_link.proofs.Counted.{exports_few, next_symbol}
use Rattle.c6x_link.proofs.bound_names.bound_targets.Goals as goal

pub overflow_cast-import : goal.overflow_cast-import
overflow_cast-import c =
    let few = exports_few c.args.link.now.bindings in
    grind (arith, common_steps, few)

pub overflow_add-import : goal.overflow_add-import
overflow_add-import c =
    let few = exports_few c.args.link.now.bindings in
    grind (arith, common_steps, few)

pub loop-number-preserved : goal.loop-number-preserved
loop-number-preserved c = record {
  targets =
      let more = map-range_with_len_more (bound_target c.args.link.now) 0 c.loop-number.number c.loop-number.number (omega arith) in
      grind (arith, common_steps, more);
  import =
      let below : c.loop-number.number < length c.args.link.now.bindings = grind (arith, common_steps) in
      let next = next_symbol c.args.link.now.bindings c.loop-number.number below in
      grind (arith, common_steps, next);
}
