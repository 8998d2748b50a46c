use Rattle.std.proofs.Common.{◌≡◌, take}
use Rattle.c6x_asm_object.specs.Sums.{empty_summary, joined_all}
use Rattle.c6x_asm_object.proofs.summing.joined_all.Given as goal

abbrev pub invariant-loop-block : goal.invariant-loop-block
invariant-loop-block l = l.sum ≡ joined_all empty_summary (take l.block-index l.blocks)
