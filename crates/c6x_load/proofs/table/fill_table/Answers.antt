use Rattle.std.proofs.Common.{arith, refl, ◌∙◌, ◌+◌, ◌*◌, ap, ℕ}
use Rattle.c6x_spec.specs.Memory.{written}
use Rattle.c6x_spec.proofs.Writes.{written_nothing}
use Rattle.c6x_load.specs.Values.{slot_word, word_bytes, words_of}
use Rattle.c6x_load.proofs.Tables.{one_word, room_left}
use Rattle.c6x_load.proofs.table.fill_table.Goals as goal

pub loop-index-init : goal.loop-index-init
unfolding words_of
loop-index-init c = written_nothing c.args.board.now c.args.at

pub put_word-requires : goal.put_word-requires
put_word-requires c =
    room_left c.args.big (slot_word c.args.modules.now c.args.list.now c.args.bases.now) c.args.board.now c.loop-index.board c.args.at c.loop-index.index c.args.slots _ c.loop-index.invariant (omega arith) c.requires.room refl

pub loop-index-preserved : goal.loop-index-preserved
loop-index-preserved c =
    let above = c.requires.room.above in
    let within = c.requires.room.within in
    let last = c.put_word.ensures.after ∙ ap (λ (value : ℕ). written c.loop-index.board (c.args.at + 4 * c.loop-index.index) (word_bytes c.args.big value)) c.slot_word-value.ensures in
    one_word c.args.big (slot_word c.args.modules.now c.args.list.now c.args.bases.now) c.args.board.now c.loop-index.board c.put_word.new.board c.args.at _ c.loop-index.index c.loop-index.invariant last refl (record { above = above; within = omega arith })
