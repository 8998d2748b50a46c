use Rattle.std.proofs.Common.{◌≡◌, ◌≤◌, map, take, drop}
use Rattle.c6x_base.specs.declared.limits.TheConstants.{MOST_HELD_BYTES}
use Rattle.c6x_elf_headers.specs.Rules.{along_parts}
use Rattle.c6x_elf.specs.Parts.{section_of, section_refusal, section_size}
use Rattle.c6x_elf.proofs.reading.sections_along.Given as goal

abbrev pub invariant-loop-head : goal.invariant-loop-head
invariant-loop-head l = record {
  rules : along_parts section_size (section_refusal l.bytes l.count) l.total (drop l.head-index l.heads)
      ≡ along_parts section_size (section_refusal l.bytes l.count) l.before l.heads;
  made : l.sections.items ≡ map (section_of l.bytes) (take l.head-index l.heads);
  few : l.total ≤ MOST_HELD_BYTES;
}
