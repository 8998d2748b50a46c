use Rattle.std.proofs.Common.{◌≡◌, ◌++◌, drop, map}
use Rattle.c6x_symbols.specs.Bindings.{is_exported, numbers_where}
use Rattle.c6x_link.specs.Exports.{export_of}
use Rattle.c6x_link.proofs.sharing.put_exports.Given as goal

abbrev pub invariant-loop-number : goal.invariant-loop-number
invariant-loop-number l = l.row ++ map (export_of l.link) (numbers_where is_exported l.number (drop l.number l.link.bindings)) ≡ l.fn.row ++ map (export_of l.link) (numbers_where is_exported 0 l.link.bindings)
