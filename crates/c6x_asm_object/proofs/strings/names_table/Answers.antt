use Rattle.std.proofs.Common.{ap, true, length, arith}
use Rattle.c6x_asm_object.proofs.GroupNames.{names_first, none_size}
use Rattle.c6x_asm_object.proofs.strings.names_table.Goals as goal

-- The table of no names leaves room for those of the first group.
pub put_names-requires : goal.put_names-requires
put_names-requires c =
    omega (arith, none_size, ap length c.in_ok-table.ensures, names_first c.args.text.now true c.args.symbols.now, c.requires)
