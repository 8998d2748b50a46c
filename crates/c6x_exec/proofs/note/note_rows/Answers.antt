use Rattle.std.proofs.Common.{◌+◌, sym, subst, rules, List}
use Rattle.std.proofs.lemmas.List.Sums.{fold_more}
use Rattle.c6x_machine.specs.History.{Effect}
use Rattle.c6x_machine.specs.Packet.{with_row}
use Rattle.c6x_exec.specs.Stands.{Tracks}
use Rattle.c6x_exec.proofs.Amid.{stays_on}
use Rattle.c6x_exec.proofs.note.note_rows.Goals as goal

pub loop-row-preserved : goal.loop-row-preserved
loop-row-preserved c = record {
  sound = c.note_row.ensures.sound;
  stays = stays_on _ _ _ c.loop-row.invariant.stays c.note_row.ensures.stays;
  tracks = λ s g h n holds clean k.
      let P : List Effect → Type 0 = λ all. Tracks c.note_row.new.p c.args.board.now s all n (n + 1) in
      subst P (sym (fold_more (with_row s g n) h c.args.rows.now c.loop-row.row-index _ (search rules)))
      (c.note_row.ensures.tracks s g _ n holds (clean c.loop-row.row-index _ (search rules)) (c.loop-row.invariant.tracks s g h n holds clean k));
}
