use Rattle.std.proofs.Common.{◌∙◌, sym, refl, subst, ℕ, List, Ok, Err}
use Rattle.c6x_packet.specs.Packets.{split_of}
use Rattle.c6x_machine.specs.Machine.{instructed}
use Rattle.c6x_exec.specs.Stands.{Comes}
use Rattle.c6x_exec.proofs.Amid.{amid, holds_now}
use Rattle.c6x_exec.proofs.Steps.{words_agree, words_found}
use Rattle.c6x_exec.proofs.step.packet.Goals as goal

pub returns-in-Ok-clause-comes : goal.returns-in-Ok-clause-comes
returns-in-Ok-clause-comes c s h n areas k =
    let P : List ℕ → Type 0 = λ words. Comes c.execute_words.result (instructed s h n c.args.at (split_of words)) c.execute_words.new.p c.execute_words.new.board s h n in
    rw (words_found s h n c.args.at (Ok c.in-Ok.chain) (sym (words_agree c.args.board.now s h n c.args.at c.args.map.now areas (holds_now _ _ s h n k)) ∙ sym c.in-Ok.ensures.value))
    (subst P c.as_slice.ensures.value (c.execute_words.ensures.comes s h n areas k))

pub returns-in-Err-clause-comes : goal.returns-in-Err-clause-comes
returns-in-Err-clause-comes c s h n areas k =
    rw (words_found s h n c.args.at (Err c.in-Err.bad) (sym (words_agree c.args.board.now s h n c.args.at c.args.map.now areas (holds_now _ _ s h n k)) ∙ sym c.in-Err.ensures.value))
    (refl, amid _ _ s h n k)
