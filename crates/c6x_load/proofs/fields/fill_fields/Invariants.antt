use Rattle.std.proofs.Common.{◌≡◌, drop}
use Rattle.c6x_spec.specs.Memory.{IsOnMemory}
use Rattle.c6x_spec.specs.Parts.{filled_with}
use Rattle.c6x_load.specs.Values.{field_parts, moved_parts, target_address}
use Rattle.c6x_load.proofs.fields.fill_fields.Given as goal

abbrev pub invariant-loop-k : goal.invariant-loop-k
invariant-loop-k l =
    let address = target_address l.modules l.list l.texts l.bases in
    record {
      rest : filled_with (moved_parts l.vaddr l.at (field_parts l.big address (drop l.k l.fields) (drop l.k l.targets))) l.board ≡ filled_with (moved_parts l.vaddr l.at (field_parts l.big address l.fields l.targets)) l.fn.board;
      room : IsOnMemory l.board l.at l.size;
    }
