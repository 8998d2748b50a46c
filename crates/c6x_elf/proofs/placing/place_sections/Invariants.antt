use Rattle.std.proofs.Common.{◌≡◌, ◌++◌, ◌≤◌, drop}
use Rattle.c6x_base.specs.declared.limits.TheConstants.{MOST_FILE_BYTES}
use Rattle.c6x_elf.specs.Writing.{offsets, offsets_end}
use Rattle.c6x_elf.proofs.placing.place_sections.Given as goal

abbrev pub invariant-loop-section : goal.invariant-loop-section
invariant-loop-section l = record {
  offsets : l.made.items ++ offsets l.at (drop l.section-index l.sections) ≡ offsets l.from l.sections;
  end : offsets_end l.at (drop l.section-index l.sections) ≡ offsets_end l.from l.sections;
  few : l.at ≤ MOST_FILE_BYTES;
}
