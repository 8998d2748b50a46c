use Rattle.std.proofs.Common.{arith}
use Rattle.std.proofs.lemmas.Grind.{common_steps}
use Rattle.c6x_ports.proofs.Fetches.{fetched-None, fetched-Some, front_answers}
use Rattle.c6x_ports.proofs.memory_shelf.MemoryShelfShelf.fetch.Goals as goal

pub returns-in-None-clause-answer : goal.returns-in-None-clause-answer
returns-in-None-clause-answer c =
    fetched-None c.args.self.now c.args.name.now c.args.most (grind (arith, common_steps)) (grind (arith, common_steps))

pub returns-in-Some-clause-answer : goal.returns-in-Some-clause-answer
returns-in-Some-clause-answer c =
    let wanted = fetched-Some c.args.self.now c.args.name.now c.args.most c.in-Some.bytes.now (grind (arith, common_steps)) (grind (arith, common_steps)) in
    front_answers c.args.self.now c.args.name.now c.args.most _ _ wanted c.front_of.ensures.front c.front_of.ensures.memory
