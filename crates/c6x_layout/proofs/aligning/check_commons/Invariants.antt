use Rattle.std.proofs.Common.{◌≡◌, drop}
use Rattle.std.specs.Prelude.{filter}
use Rattle.c6x_symbols.specs.Rules.{first_along}
use Rattle.c6x_layout.specs.Alignments.{common_align_refusal, is_shared_common}
use Rattle.c6x_layout.proofs.aligning.check_commons.Given as goal

abbrev pub invariant-loop-symbol : goal.invariant-loop-symbol
invariant-loop-symbol l = (first_along (common_align_refusal l.object) (filter is_shared_common (drop l.symbol-index l.symbols)) ≡ first_along (common_align_refusal l.object) (filter is_shared_common l.symbols))
