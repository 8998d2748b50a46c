use Rattle.std.proofs.Common.{◌≡◌, take}
use Rattle.std.specs.List.{enumerate_from, flat_map, fold}
use Rattle.c6x_dsbt.specs.Growth.{with_stub, with_word}
use Rattle.c6x_dsbt.specs.Needs.{file_stubs, file_words}
use Rattle.c6x_dsbt.proofs.needing.add_objects.Given as goal

abbrev pub invariant-loop-number : goal.invariant-loop-number
invariant-loop-number l = record {
  words : l.tables.words ≡ fold with_word l.fn.tables.words (flat_map (file_words l.bindings) (enumerate_from 0 (take l.number l.objects)));
  stubs : l.tables.stubs ≡ fold with_stub l.fn.tables.stubs (flat_map (file_stubs l.bindings) (enumerate_from 0 (take l.number l.objects)));
  slots : l.tables.slots ≡ l.fn.tables.slots;
}
