use Rattle.std.proofs.Common.{◌∙◌, sym, arith}
use Rattle.std.specs.Prelude.{None}
use Rattle.c6x_load.proofs.PlanWalks.{texts_step, texts_left}
use Rattle.c6x_load.proofs.texts.fill_texts.Goals as goal

pub loop-k-preserved : goal.loop-k-preserved
loop-k-preserved c =
    let inv = c.loop-k.invariant in
    let after = c.fill_text.ensures.after in
    record {
      rest = sym (texts_step c.args.modules.now c.args.texts.now c.loop-k.k c.index-modules-k.result None c.loop-k.board c.fill_text.new.board c.index-modules-k.is (omega arith) (omega arith) after) ∙ inv.rest;
      room = texts_left c.args.modules.now c.args.texts.now c.loop-k.k c.index-modules-k.result None c.loop-k.board c.fill_text.new.board c.index-modules-k.is (omega arith) (omega arith) after inv.room;
      memory = c.fill_text.ensures.memory;
    }
