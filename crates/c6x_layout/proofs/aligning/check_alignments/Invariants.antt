use Rattle.std.proofs.Common.{◌≡◌, drop}
use Rattle.std.specs.List.{enumerate_from}
use Rattle.c6x_symbols.specs.Rules.{first_along}
use Rattle.c6x_layout.specs.Alignments.{object_align_refusal}
use Rattle.c6x_layout.proofs.aligning.check_alignments.Given as goal

abbrev pub invariant-loop-number : goal.invariant-loop-number
invariant-loop-number l = (first_along object_align_refusal (drop l.number (enumerate_from 0 l.objects)) ≡ first_along object_align_refusal (enumerate_from 0 l.objects))
