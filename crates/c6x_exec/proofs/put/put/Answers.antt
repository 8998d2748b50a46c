use Rattle.std.proofs.Common.{◌∙◌, ◌%◌, ap, refl, arith, ℕ}
use Rattle.c6x_exec.proofs.Amid.{amid}
use Rattle.c6x_exec.proofs.Steps.{put_branches, put_full, put_goes, next_target, full_output, register_read}
use Rattle.c6x_exec.proofs.put.put.Goals as goal

pub returns-then-is_target_pending-clause-comes : goal.returns-then-is_target_pending-clause-comes
returns-then-is_target_pending-clause-comes c b s h n k =
    rw (put_branches s h n (next_target _ b s h n _ k c.if-is_target_pending.ensures)) (refl, amid _ _ s h n k)

pub returns-then-is_full-clause-comes : goal.returns-then-is_full-clause-comes
returns-then-is_full-clause-comes c b s h n k =
    rw (put_full s h n (next_target _ b s h n _ k c.if-is_target_pending.ensures) (full_output _ b s h n _ k c.if-is_full.ensures.value)) (refl, amid _ _ s h n k)

pub returns-clause-comes : goal.returns-clause-comes
returns-clause-comes c b s h n k =
    rw (put_goes s h n _ _ (next_target _ b s h n _ k c.if-is_target_pending.ensures) (full_output _ b s h n _ k c.if-is_full.ensures.value)
    (ap (λ (v : ℕ). v % 256) (c.get-byte.ensures ∙ register_read s h n 4 _ (omega arith) k.registers))
    (c.get-target.ensures ∙ register_read s h n 35 _ (omega arith) k.registers))
    (c.note_branch.ensures.tracks b s _ n (c.note_issue.ensures.tracks b s _ n (c.note_put.ensures.tracks b s h n (amid _ _ s h n k))))
