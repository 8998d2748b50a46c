use Rattle.std.proofs.Common.{◌≡◌, drop, length}
use Rattle.c6x_spec.specs.Memory.{CanStart}
use Rattle.c6x_spec.specs.Parts.{filled_with, AreOn}
use Rattle.c6x_load.specs.Values.{slot_word, target_address}
use Rattle.c6x_load.specs.Loaded.{range_parts, AreReady}
use Rattle.c6x_load.proofs.filling.fill_ranges.Given as goal

abbrev pub invariant-loop-position : goal.invariant-loop-position
invariant-loop-position l =
    let word = slot_word l.modules l.list l.bases in
    let address = target_address l.modules l.list l.texts l.bases in
    record {
      rest : filled_with (range_parts l.big l.modules word address (drop l.position l.list) (drop l.position l.bases) (drop l.position l.rows)) l.board ≡ filled_with (range_parts l.big l.modules word address l.list l.bases l.rows) l.fn.board;
      room : AreOn l.board (range_parts l.big l.modules word address (drop l.position l.list) (drop l.position l.bases) (drop l.position l.rows));
      ready : AreReady l.modules (drop l.position l.list) (drop l.position l.rows);
      memory : CanStart l.board.base (length l.board.bytes);
    }
