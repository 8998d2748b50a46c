use Rattle.c6x_ports.proofs.Distinct.{stays_distinct}
use Rattle.c6x_ports.specs.Told.{pairs_of}
use Rattle.c6x_ports.proofs.memory_shelf.MemoryShelfShelf.store.Goals as goal

pub invariant_of-self-2 : goal.invariant_of-self-2
invariant_of-self-2 c =
    stays_distinct (pairs_of c.self.inside.files.items) _ c.args.name.now c.args.bytes.now c.in_ok-put_file.ensures.ok c.self.invariant
