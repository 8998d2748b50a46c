use Rattle.std.proofs.Common.{◌≡◌, take}
use Rattle.std.specs.List.{flat_map, fold}
use Rattle.c6x_dsbt.specs.Growth.{with_stub, with_word}
use Rattle.c6x_dsbt.specs.Needs.{stub_need, word_need}
use Rattle.c6x_dsbt.proofs.needing.add_entries.Given as goal

abbrev pub invariant-loop-entry : goal.invariant-loop-entry
invariant-loop-entry l = record {
  words : l.tables.words ≡ fold with_word l.fn.tables.words (flat_map (word_need l.wanted) (take l.entry-index l.entries));
  stubs : l.tables.stubs ≡ fold with_stub l.fn.tables.stubs (flat_map (stub_need l.bindings l.wanted) (take l.entry-index l.entries));
  slots : l.tables.slots ≡ l.fn.tables.slots;
}
