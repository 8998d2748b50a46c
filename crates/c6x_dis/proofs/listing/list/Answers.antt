use Rattle.std.proofs.Common.{◌/◌, ap, rules, arith, false, length}
use Rattle.std.specs.List.{flat_map}
use Rattle.c6x_spec.proofs.Puts.{on_err}
use Rattle.c6x_dis.specs.Listed.{listed, numbered_line}
use Rattle.c6x_dis.proofs.Behind.{behind_all, behind_cut, behind_next, behind_none, numbers_all, numbers_end, numbers_more}
use Rattle.c6x_dis.proofs.listing.list.Goals as goal

pub loop-number-init : goal.loop-number-init
unfolding listed
loop-number-init g c = record { text = behind_none _ _ _ (ap (flat_map (numbered_line false c.args.bytes.now c.args.at)) (numbers_all (length c.args.bytes.now / 4))); kept = omega arith }

pub loop-number-preserved : goal.loop-number-preserved
loop-number-preserved g c = record {
  text = behind_next _ _ _ _ _ _ _ (ap (flat_map (numbered_line false c.args.bytes.now c.args.at)) (numbers_more c.loop-number.number _ (omega arith))) c.in_ok-put_numbered.ensures.all c.loop-number.invariant.text;
  kept = search rules;
}

pub returns-in_err-put_numbered : goal.returns-in_err-put_numbered
returns-in_err-put_numbered g c = record {
  all = search rules;
  front = on_err _ (behind_cut _ _ _ _ _ _ _ (ap (flat_map (numbered_line false c.args.bytes.now c.args.at)) (numbers_more c.loop-number.number _ (omega arith))) c.in_err-put_numbered.ensures.front c.loop-number.invariant.text);
  failed = search rules;
  kept = search rules;
}

pub returns : goal.returns
returns g c = record {
  all = behind_all _ _ _ _ (ap (flat_map (numbered_line false c.args.bytes.now c.args.at)) (numbers_end c.loop-number.number _ (omega arith))) c.loop-number.invariant.text;
  front = search rules;
  failed = search rules;
  kept = c.loop-number.invariant.kept;
}
