use Rattle.std.proofs.Common.{◌≡◌, drop}
use Rattle.std.specs.Prelude.{filter}
use Rattle.c6x_symbols.specs.Sections.{is_allocated}
use Rattle.c6x_symbols.specs.Rules.{first_along}
use Rattle.c6x_layout.specs.Alignments.{section_align_refusal}
use Rattle.c6x_layout.proofs.aligning.check_sections.Given as goal

abbrev pub invariant-loop-section : goal.invariant-loop-section
invariant-loop-section l = (first_along (section_align_refusal l.object) (filter is_allocated (drop l.section-index l.sections)) ≡ first_along (section_align_refusal l.object) (filter is_allocated l.sections))
