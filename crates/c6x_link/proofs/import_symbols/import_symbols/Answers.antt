use Rattle.std.proofs.Common.{◌≡◌, ◌+◌, ◌∙◌, ◌++◌, ◌∷◌, [], length, ap, sym, arith}
use Rattle.c6x_link.proofs.Few.{symbols_more, symbols_to}
use Rattle.c6x_link.proofs.import_symbols.import_symbols.Goals as goal

pub returns : goal.returns
returns c =
    let bs = c.args.bindings.now in
    let end : c.loop-number.number ≡ length bs = omega arith in
    c.in_ok-push-2.ensures.items
    ∙ ap (λ xs. xs ++ c.loop-number.symbol ∷ []) c.loop-number.invariant.symbols
    ∙ ap (λ n. symbols_to bs c.loop-number.number ++ n ∷ []) c.loop-number.invariant.next
    ∙ sym (symbols_more bs c.loop-number.number)
    ∙ ap (λ n. symbols_to bs (n + 1)) end
