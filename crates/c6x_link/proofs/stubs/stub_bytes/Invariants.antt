use Rattle.std.proofs.Common.{◌≡◌}
use Rattle.c6x_link.specs.Sections.{stub_bytes}
use Rattle.c6x_link.proofs.stubs.stub_bytes.Given as goal

abbrev pub invariant-loop-place : goal.invariant-loop-place
invariant-loop-place l = l.bytes.items ≡ stub_bytes l.first l.place
