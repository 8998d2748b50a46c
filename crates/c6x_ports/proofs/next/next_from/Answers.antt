use Rattle.std.proofs.Common.{ℕ, sym, subst}
use Rattle.std.specs.List.{Contains}
use Rattle.c6x_ports.proofs.ReadyFound.{next_by}
use Rattle.c6x_ports.proofs.next.next_from.Goals as goal

pub returns-clause-ready : goal.returns-clause-ready
returns-clause-ready c =
    let P : ℕ → Type 0 = λ x. Contains c.args.ready.now x in
    subst P (sym c.unwrap_or.ensures)
    (next_by c.args.ready.now c.args.from c.first_from.result c.requires.some c.first_from.ensures.value)
