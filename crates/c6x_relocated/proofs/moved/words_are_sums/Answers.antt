use Rattle.c6x_relocated.proofs.MovedWords.{start_sum, shift_place, shift_whole}
use Rattle.c6x_relocated.proofs.moved.words_are_sums.Goals as goal

pub returns-clause-start : goal.returns-clause-start
returns-clause-start c = λ s a d start below. start_sum s a d start below

pub returns-clause-place : goal.returns-clause-place
returns-clause-place c = λ at vaddr place below fits. shift_place at vaddr place below fits

pub returns-clause-text : goal.returns-clause-text
returns-clause-text c = λ at vaddr step same whole packet below. shift_whole at vaddr step same whole packet below
