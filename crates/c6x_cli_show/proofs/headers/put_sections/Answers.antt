use Rattle.std.proofs.Common.{refl, rules, arith}
use Rattle.c6x_spec.proofs.Puts.{on_err}
use Rattle.c6x_cli_show.specs.Shown.{section_line_in}
use Rattle.c6x_dis.proofs.Behind.{behind_all, behind_cut, behind_next, behind_none}
use Rattle.c6x_cli_show.proofs.TableLines.{members_end, members_more}
use Rattle.c6x_cli_show.proofs.headers.put_sections.Goals as goal

pub loop-section-init : goal.loop-section-init
loop-section-init g c = record { text = behind_none _ _ _ refl; kept = omega arith }

pub loop-section-preserved : goal.loop-section-preserved
loop-section-preserved g c = record {
  text = behind_next _ _ _ _ _ _ _ (members_more (section_line_in c.args.file.now) c.args.sections.now c.loop-section.section-index c.section-item.result c.loop-section-test.true c.section-item.is) c.in_ok-put_named.ensures.all c.loop-section.invariant.text;
  kept = search rules;
}

pub returns-in_err-put_named : goal.returns-in_err-put_named
returns-in_err-put_named g c = record {
  all = search rules;
  front = on_err _ (behind_cut _ _ _ _ _ _ _ (members_more (section_line_in c.args.file.now) c.args.sections.now c.loop-section.section-index c.section-item.result c.loop-section-test.true c.section-item.is) c.in_err-put_named.ensures.front c.loop-section.invariant.text);
  failed = search rules;
  kept = search rules;
}

pub returns : goal.returns
returns g c = record {
  all = behind_all _ _ _ _ (members_end (section_line_in c.args.file.now) c.args.sections.now c.loop-section.section-index c.loop-section-test.false) c.loop-section.invariant.text;
  front = search rules;
  failed = search rules;
  kept = c.loop-section.invariant.kept;
}
