use Rattle.std.proofs.Common.{◌≡◌, ◌+◌, drop}
use Rattle.c6x_asm_object.specs.Filing.{named_relas}
use Rattle.c6x_asm_object.specs.Adding.{added}
use Rattle.c6x_asm_object.proofs.adding.add_relas.Given as goal

abbrev pub invariant-loop-section : goal.invariant-loop-section
invariant-loop-section l = record {
  made : added (named_relas l.text l.numbers l.symtab l.number (drop l.section-index l.sections)) l.table ≡ added (named_relas l.text l.numbers l.symtab 1 l.sections) l.initial.table;
  number : l.number ≡ l.section-index + 1;
}
