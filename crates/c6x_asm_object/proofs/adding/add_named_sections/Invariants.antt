use Rattle.std.proofs.Common.{◌≡◌, drop, map}
use Rattle.c6x_asm_object.specs.Filing.{named_section}
use Rattle.c6x_asm_object.specs.Adding.{added}
use Rattle.c6x_asm_object.proofs.adding.add_named_sections.Given as goal

abbrev pub invariant-loop-section : goal.invariant-loop-section
invariant-loop-section l = added (map (named_section l.text) (drop l.section-index l.sections)) l.table ≡ added (map (named_section l.text) l.sections) l.initial.table
