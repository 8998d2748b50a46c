use Rattle.std.proofs.Common.{◌≡◌, ◌<◌, ◌+◌, Some, length, drop, get_or, sym, ◌∙◌, arith}
use Rattle.std.proofs.lemmas.List.{take_rest}
use Rattle.c6x_lex.specs.Tokens.{piece_after}
use Rattle.c6x_lex.proofs.Steps.{tokens_step}
use Rattle.c6x_lex.proofs.lexer.lex.Goals as goal

pub loop-place-preserved : goal.loop-place-preserved
loop-place-preserved c =
    let inside : c.loop-place.place.at < length c.args.text.now = omega arith in
    let is : piece_after (get_or c.args.text.now c.loop-place.place.at 0) (drop (c.loop-place.place.at + 1) c.args.text.now) ≡ Some c.in-Some.piece = rw (take_rest c.args.text.now (c.loop-place.place.at + 1)) at (sym c.in-Some.ensures.piece) in
    record {
      within = omega (arith, c.in-Some.ensures.within);
      lines = c.behind-place.ensures.lines;
      starts = c.behind-place.ensures.starts c.loop-place.invariant.starts;
      rest = rw (c.in_ok-push.ensures, c.behind-place.ensures.place) (sym (tokens_step c.args.text.now c.loop-place.place c.in-Some.piece c.loop-place.tokens.items inside is c.in-Some.ensures.some) ∙ c.loop-place.invariant.rest);
    }
