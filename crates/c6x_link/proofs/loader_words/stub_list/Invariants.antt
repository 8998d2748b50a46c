use Rattle.std.proofs.Common.{◌≡◌, take}
use Rattle.c6x_link.proofs.loader_words.stub_list.Given as goal

abbrev pub invariant-loop-place : goal.invariant-loop-place
invariant-loop-place l = l.list.items ≡ take l.place l.stubs
