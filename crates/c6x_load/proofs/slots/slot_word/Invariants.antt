use Rattle.std.proofs.Common.{◌≡◌, drop}
use Rattle.c6x_load.specs.Values.{slot_word}
use Rattle.c6x_load.proofs.slots.slot_word.Given as goal

abbrev pub invariant-loop-position : goal.invariant-loop-position
invariant-loop-position l =
    slot_word l.modules (drop l.position l.list) (drop l.position l.bases) l.index ≡ slot_word l.modules l.list l.bases l.index
