use Rattle.std.proofs.Common.{false, ◌+◌, ◌≡◌, sym, subst, rules, arith, take, take_all, List}
use Rattle.std.specs.List.{fold}
use Rattle.std.proofs.lemmas.List.Sums.{fold_more}
use Rattle.c6x_encoding.specs.declared.effect.Effects.{Effects}
use Rattle.c6x_machine.specs.History.{Effect}
use Rattle.c6x_machine.specs.Packet.{with_stored}
use Rattle.c6x_exec.specs.Stands.{Tracks}
use Rattle.c6x_exec.proofs.Loads.{framed_on, sized_on, lie_sized}
use Rattle.c6x_exec.proofs.note.store_rows.Goals as goal

pub loop-row-preserved : goal.loop-row-preserved
loop-row-preserved c = record {
  sized = sized_on _ _ _ c.loop-row.invariant.sized c.store_row.ensures.sized;
  tracks = λ p s h n lie k.
      let P : List Effect → Type 0 = λ all. Tracks p c.store_row.new.board s all n (n + 1) in
      subst P (sym (fold_more (with_stored false n) h c.args.rows.now c.loop-row.row-index _ (search rules)))
      (c.store_row.ensures.tracks p s _ n (lie_sized _ _ s.areas c.loop-row.invariant.sized lie) (c.loop-row.invariant.tracks p s h n lie k));
  frame = λ areas clean. framed_on areas _ _ _ (c.loop-row.invariant.frame areas clean) (c.store_row.ensures.frame areas (clean c.loop-row.row-index _ (search rules)));
}

pub returns-clause-tracks : goal.returns-clause-tracks
returns-clause-tracks c p s h n lie k =
    let whole : take c.loop-row.row-index c.args.rows.now ≡ c.args.rows.now = grind (arith, take_all {A = Effects}) in
    let P : List Effects → Type 0 = λ all. Tracks p c.loop-row.board s (fold (with_stored false n) h all) n (n + 1) in
    subst P whole (c.loop-row.invariant.tracks p s h n lie k)
