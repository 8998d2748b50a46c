use Rattle.std.proofs.Common.{◌≡◌, drop, false}
use Rattle.c6x_spec.specs.Parts.{AreOn, filled_with}
use Rattle.c6x_load.specs.Loaded.{AreAllSeated, seats_parts}
use Rattle.c6x_load.proofs.plan_loading.fill_seats.Given as goal

abbrev pub invariant-loop-process : goal.invariant-loop-process
invariant-loop-process l = record {
  rest : filled_with (seats_parts false l.modules l.texts (drop l.process l.processes) (drop l.process l.bounds) (drop l.process l.seats)) l.board ≡ filled_with (seats_parts false l.modules l.texts l.processes l.bounds l.seats) l.fn.board;
  room : AreOn l.board (seats_parts false l.modules l.texts (drop l.process l.processes) (drop l.process l.bounds) (drop l.process l.seats));
  seated : AreAllSeated l.modules (drop l.process l.bounds) (drop l.process l.seats);
}
