use Rattle.std.proofs.Common.{◌≡◌, ◌≤◌, drop}
use Rattle.c6x_asm.specs.States.{state_of, IsSound}
use Rattle.c6x_asm_object.specs.Sums.{AreBlocks}
use Rattle.c6x_asm.specs.Running.{run_from}
use Rattle.c6x_asm.proofs.running.run.Given as goal

abbrev pub invariant-loop-token : goal.invariant-loop-token
invariant-loop-token l = record {
  ran : run_from l.text l.end l.line l.lexemes.items (state_of l.object) (drop l.token-index l.tokens) ≡ run_from l.text l.end 1 l.initial.lexemes.items (state_of l.initial.object) l.tokens;
  lines : l.line ≤ 65537;
  sound : IsSound l.text l.object;
  outline : AreBlocks l.text l.object.sections.items l.outline;
}
