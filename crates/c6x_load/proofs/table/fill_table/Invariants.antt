use Rattle.std.proofs.Common.{◌≡◌}
use Rattle.c6x_spec.specs.Memory.{written}
use Rattle.c6x_load.specs.Values.{slot_word, table_bytes}
use Rattle.c6x_load.proofs.table.fill_table.Given as goal

abbrev pub invariant-loop-index : goal.invariant-loop-index
invariant-loop-index l =
    l.board ≡ written l.fn.board l.at (table_bytes l.big (slot_word l.modules l.list l.bases) l.index)
