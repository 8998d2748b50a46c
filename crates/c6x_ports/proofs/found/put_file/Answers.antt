use Rattle.std.proofs.Common.{arith, sym}
use Rattle.std.proofs.lemmas.Grind.{common_steps}
use Rattle.c6x_ports.proofs.Places.{stored-None, stored-Some}
use Rattle.c6x_ports.proofs.found.put_file.Goals as goal

pub returns-in_ok-push-in-None-clause-ok : goal.returns-in_ok-push-in-None-clause-ok
returns-in_ok-push-in-None-clause-ok c =
    rw (c.in_ok-push-in-None.ensures.items, c.in_ok-name-in-None.ensures, c.in_ok-copied.ensures)
    (sym (stored-None c.args.files.now.items c.args.name.now c.args.bytes.now (grind (arith, common_steps))))

pub returns-in-Some-clause-ok : goal.returns-in-Some-clause-ok
returns-in-Some-clause-ok c =
    rw (c.in_ok-copied.ensures, c.index_mut.ensures.value)
    (sym (stored-Some c.args.files.now.items c.args.name.now c.args.bytes.now _ c.index_mut.result.now (grind (arith, common_steps))))
