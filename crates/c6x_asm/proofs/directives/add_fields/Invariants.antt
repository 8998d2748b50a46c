use Rattle.std.proofs.Common.{◌≡◌, drop, vec_len}
use Rattle.c6x_asm.specs.States.{state_of, IsSound}
use Rattle.c6x_asm.specs.Directives.{with_fields}
use Rattle.c6x_asm.proofs.directives.add_fields.Given as goal

abbrev pub invariant-loop-field : goal.invariant-loop-field
invariant-loop-field l = record {
  added : with_fields l.text l.i l.size (state_of l.object) (drop l.field-index l.fields) ≡ with_fields l.text l.i l.size (state_of l.initial.object) l.fields;
  sections : vec_len l.object.sections ≡ vec_len l.initial.object.sections;
  sound : IsSound l.text l.object;
}
