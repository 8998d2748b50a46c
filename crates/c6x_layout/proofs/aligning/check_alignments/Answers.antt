use Rattle.std.proofs.Common.{◌≡◌, sym, ◌∙◌, ◌+◌, drop, rules}
use Rattle.std.specs.List.{enumerate_from}
use Rattle.c6x_symbols.specs.Rules.{◌<|>◌, first_along}
use Rattle.c6x_layout.specs.Alignments.{alignments_refusal, object_align_refusal}
use Rattle.c6x_layout.proofs.Aligned.{objects_here, objects_pass}
use Rattle.c6x_layout.proofs.aligning.check_alignments.Goals as goal

pub returns-in_err-check_object : goal.returns-in_err-check_object
unfolding alignments_refusal
returns-in_err-check_object c =
    let whole : alignments_refusal c.args.objects.now ≡ (object_align_refusal (c.loop-number.number, c.index-objects-number.result) <|> first_along object_align_refusal (drop (c.loop-number.number + 1) (enumerate_from 0 c.args.objects.now))) =
    objects_here c.args.objects.now c.loop-number.number c.index-objects-number.result (alignments_refusal c.args.objects.now) c.loop-number-test.true c.index-objects-number.is c.loop-number.invariant in
    rw whole (search rules)

pub loop-number-preserved : goal.loop-number-preserved
loop-number-preserved c =
    sym (objects_pass c.args.objects.now c.loop-number.number c.index-objects-number.result c.loop-number-test.true c.index-objects-number.is c.in_ok-check_object.ensures)
    ∙ c.loop-number.invariant
