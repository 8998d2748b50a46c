use Rattle.std.proofs.Common.{◌∙◌}
use Rattle.std.proofs.lemmas.List.{length-set}
use Rattle.std.proofs.lemmas.List.Elements.{All-set}
use Rattle.c6x_exec.specs.Known.{IsKnown}
use Rattle.c6x_exec.proofs.known.KnownPackets.add.Goals as goal

pub invariant_of-self : goal.invariant_of-self
invariant_of-self c =
    let places = c.self.inside.places in (
      length-set places c.place_of.result c.entry_of.result ∙ c.self.invariant.0,
      All-set IsKnown places c.place_of.result c.entry_of.result c.entry_of.ensures c.self.invariant.1,
    )
