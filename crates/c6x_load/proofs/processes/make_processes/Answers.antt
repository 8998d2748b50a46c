use Rattle.std.proofs.Common.{◌≤◌, sym, subst, arith}
use Rattle.std.specs.Prelude.{length}
use Rattle.c6x_plan.specs.Limits.{IsProcess}
use Rattle.c6x_plan.specs.declared.process_plan.ProcessPlan.{ProcessPlan}
use Rattle.c6x_load.specs.Made.{IsMade}
use Rattle.c6x_load.specs.Starts.{origins_of, process_origin}
use Rattle.c6x_load.proofs.Walks.{below_more, here_below, made_all, made_more}
use Rattle.c6x_load.proofs.processes.make_processes.Goals as goal

pub make_process-requires : goal.make_process-requires
make_process-requires c =
    let i = c.loop-number.number in
    let plan = c.index-processes-number.result in
    let bound = c.index-bounds-number.result in
    let seat = c.index-seats-number.result in
    let below = here_below c.args.modules.now c.args.texts.now c.args.processes.now c.args.bounds.now c.args.seats.now i plan bound seat (omega arith) (omega arith) (omega arith) c.index-processes-number.is c.index-bounds-number.is c.index-seats-number.is c.loop-number.invariant.below in
    let P : ProcessPlan → Type 0 = λ (p : ProcessPlan). IsProcess (length c.args.modules.now) p in
    let each = subst P (sym c.index-processes-number.is) (c.requires.each i plan (omega arith)) in
    let sizes = each.sizes in
    let least = sizes.least in
    record {
      seated = below.seated;
      texts = below.readable;
      ranges = below.ranges;
      stack = below.stack;
      word = omega arith;
      some = sizes.some;
      most = sizes.few;
    }

pub loop-number-preserved : goal.loop-number-preserved
loop-number-preserved c =
    let i = c.loop-number.number in
    let plan = c.index-processes-number.result in
    let bound = c.index-bounds-number.result in
    let seat = c.index-seats-number.result in
    let made = c.in_ok-process.ensures in
    record {
      made = λ bytes rest left.
          let is : IsMade c.in_ok-process.process (process_origin c.args.modules.now c.args.texts.now bytes plan bound seat) = record {
            stands = λ memory holds. made.stands memory bytes holds;
            areas = made.areas;
            running = made.running;
          } in
          made_more c.args.modules.now c.args.texts.now bytes c.args.processes.now c.args.bounds.now c.args.seats.now i plan bound seat c.loop-number.made.items c.push.new.self.items rest c.in_ok-process.process (origins_of c.args.modules.now c.args.texts.now bytes c.args.processes.now c.args.bounds.now c.args.seats.now) (omega arith) (omega arith) (omega arith) c.index-processes-number.is c.index-bounds-number.is c.index-seats-number.is c.in_ok-push.ensures.items is (c.loop-number.invariant.made bytes) left;
      below = (below_more c.args.modules.now c.args.texts.now c.args.processes.now c.args.bounds.now c.args.seats.now i plan bound seat (omega arith) (omega arith) (omega arith) c.loop-number.invariant.below).1;
    }

pub returns : goal.returns
returns c =
    let i = c.loop-number.number in
    let past : length c.args.processes.now ≤ i = omega arith in
    λ bytes. made_all c.args.modules.now c.args.texts.now bytes c.args.processes.now c.args.bounds.now c.args.seats.now i c.loop-number.made.items (origins_of c.args.modules.now c.args.texts.now bytes c.args.processes.now c.args.bounds.now c.args.seats.now) past (c.loop-number.invariant.made bytes)
