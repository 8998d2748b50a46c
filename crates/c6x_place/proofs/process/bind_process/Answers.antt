use Rattle.std.proofs.Common.{ℕ, List, length, sym, ap, subst, arith}
use Rattle.c6x_base.specs.Search.{AreNeeds}
use Rattle.c6x_place.proofs.NeedsKnown.{length_needs, needs_known}
use Rattle.c6x_place.proofs.process.bind_process.Goals as goal

pub search-requires-clause-first : goal.search-requires-clause-first
search-requires-clause-first c =
    let e = ap (λ (xs : List (List ℕ)). length xs) c.requires.known in
    let h = length_needs c.args.modules.now in
    omega arith

pub search-requires-clause-known : goal.search-requires-clause-known
search-requires-clause-known c =
    let P : List (List ℕ) → Type 0 = λ (xs : List (List ℕ)). AreNeeds (length xs) xs in
    subst P (sym c.requires.known) (needs_known c.args.modules.now)

pub bind_list-requires-clause-short : goal.bind_list-requires-clause-short
bind_list-requires-clause-short c =
    let e = ap (λ (xs : List (List ℕ)). length xs) c.requires.known in
    let h = length_needs c.args.modules.now in
    let few = c.in_ok-list.ensures.few in
    omega arith
