use Rattle.c6x_asm.proofs.Tidiness.{object_fits}
use Rattle.c6x_asm.proofs.assembling.assemble.Goals as goal

pub file_of-requires : goal.file_of-requires
file_of-requires c =
    rw (c.as_slice.ensures.value, c.as_slice-2.ensures.value) (object_fits c.args.text.now c.in_ok-object.object c.in_ok-object.ensures)
