use Rattle.std.proofs.Common.{Bool, ◌-◌, not, ◌∙◌, subst, arith}
use Rattle.c6x_module.specs.declared.module_rule.ModuleRule.TheVariants.{FieldOverlap}
use Rattle.c6x_module.specs.Fields.{overlap_refusal}
use Rattle.c6x_module.specs.Refusals.{Passes, must}
use Rattle.c6x_module.proofs.Marks.{same_test}
use Rattle.c6x_module.proofs.overlaps.check_free.Goals as goal

pub returns : goal.returns
unfolding overlap_refusal
returns c = λ earlier m.
    let above = c.requires.place.above in
    let within = c.requires.place.within in
    let size = c.requires.size in
    let same = same_test c.args.range.now.vaddr c.args.table c.args.slots (c.args.field.now.place - c.args.range.now.vaddr) c.args.field.now.place earlier c.args.taken.now m (omega arith) (omega arith) in
    subst (λ (t : Bool). Passes c.check.result (must (not t) FieldOverlap c.args.field.now.place)) (c.is_shared-free.ensures ∙ same) c.check.ensures.passes
