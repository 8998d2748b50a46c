use Rattle.std.proofs.Common.{refl, rules, arith}
use Rattle.c6x_spec.proofs.Puts.{on_err}
use Rattle.c6x_cli_show.specs.Lines.{segment_line}
use Rattle.c6x_dis.proofs.Behind.{behind_all, behind_cut, behind_next, behind_none}
use Rattle.c6x_cli_show.proofs.TableLines.{members_end, members_more}
use Rattle.c6x_cli_show.proofs.headers.put_segments.Goals as goal

pub loop-segment-init : goal.loop-segment-init
loop-segment-init g c = record { text = behind_none _ _ _ refl; kept = omega arith }

pub loop-segment-preserved : goal.loop-segment-preserved
loop-segment-preserved g c = record {
  text = behind_next _ _ _ _ _ _ _ (members_more segment_line c.args.segments.now c.loop-segment.segment-index c.segment-item.result c.loop-segment-test.true c.segment-item.is) c.in_ok-put_segment.ensures.all c.loop-segment.invariant.text;
  kept = search rules;
}

pub returns-in_err-put_segment : goal.returns-in_err-put_segment
returns-in_err-put_segment g c = record {
  all = search rules;
  front = on_err _ (behind_cut _ _ _ _ _ _ _ (members_more segment_line c.args.segments.now c.loop-segment.segment-index c.segment-item.result c.loop-segment-test.true c.segment-item.is) c.in_err-put_segment.ensures.front c.loop-segment.invariant.text);
  failed = search rules;
  kept = search rules;
}

pub returns : goal.returns
returns g c = record {
  all = behind_all _ _ _ _ (members_end segment_line c.args.segments.now c.loop-segment.segment-index c.loop-segment-test.false) c.loop-segment.invariant.text;
  front = search rules;
  failed = search rules;
  kept = c.loop-segment.invariant.kept;
}
