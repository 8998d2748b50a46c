-- Each valid instruction's line is assembled to its word.
use Rattle.std.proofs.Common.{ℕ}
use Rattle.c6x_encoding.specs.Spelling.{Spells}
use Rattle.c6x_encoding.specs.declared.instr.Instr.{Instr}
use Rattle.c6x_dis.proofs.ShownValid.{lines_read, shown_operands}
use Rattle.c6x_dis.specs.Words.{AssemblesTo}
use Rattle.c6x_dis.proofs.Assembled.{line_assembled}
use Rattle.c6x_dis.specs.Shown.{shown}

pub shown_assembled : (i : Instr) (word : ℕ) → Spells i word → AssemblesTo (shown i) word
shown_assembled i word spells = line_assembled i word (shown_operands i (word, spells)) (lines_read i (word, spells)) spells
