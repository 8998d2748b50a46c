use Rattle.std.proofs.Common.{◌≡◌, drop}
use Rattle.c6x_elf_headers.specs.Rules.{along_both}
use Rattle.c6x_elf.specs.Entries.{ArePlaced, named_refusal}
use Rattle.c6x_elf.proofs.names.check_names.Given as goal

abbrev pub invariant-loop-k : goal.invariant-loop-k
invariant-loop-k l = record {
  rules : along_both (named_refusal l.big l.names l.sections) (drop l.k l.heads) (drop l.k l.sections)
      ≡ along_both (named_refusal l.big l.names l.sections) l.heads l.sections;
  placed : ArePlaced (drop l.k l.heads) (drop l.k l.sections);
}
