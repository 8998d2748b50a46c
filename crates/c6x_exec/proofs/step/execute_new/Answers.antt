use Rattle.std.proofs.Common.{ap, sym, subst, refl, length, ◌∙◌, List}
use Rattle.std.specs.List.{All}
use Rattle.c6x_encoding.specs.declared.instr.Instr.{Instr}
use Rattle.c6x_encoding.specs.Spelling.{IsValid}
use Rattle.c6x_exec.proofs.Knowing.{spelled_lengths}
use Rattle.c6x_exec.proofs.Steps.{all_valid}
use Rattle.c6x_exec.proofs.step.execute_new.Goals as goal

pub add-requires-clause-same : goal.add-requires-clause-same
add-requires-clause-same c =
    ap length c.as_slice-instrs.ensures ∙ spelled_lengths c.args.words.now c.in-Ok.packet ((c.in-Ok.ensures.packet c.in-Ok.packet).0 refl).spelled

pub add-requires-clause-valid : goal.add-requires-clause-valid
add-requires-clause-valid c =
    let P : List Instr → Type 0 = λ all. All IsValid all in
    subst P (sym c.as_slice-instrs.ensures) (all_valid _ c.in-Ok.ensures.valid)

pub execute_instrs-requires-clause-valid : goal.execute_instrs-requires-clause-valid
execute_instrs-requires-clause-valid c =
    let P : List Instr → Type 0 = λ all. All IsValid all in
    subst P (sym c.as_slice-instrs.ensures) (all_valid _ c.in-Ok.ensures.valid)
