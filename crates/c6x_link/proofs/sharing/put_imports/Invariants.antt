use Rattle.std.proofs.Common.{◌≡◌, ◌++◌, drop, map}
use Rattle.c6x_symbols.specs.Bindings.{is_imported, numbers_where}
use Rattle.c6x_link.specs.Exports.{import_of}
use Rattle.c6x_link.proofs.sharing.put_imports.Given as goal

abbrev pub invariant-loop-number : goal.invariant-loop-number
invariant-loop-number l = l.row ++ map (import_of l.link) (numbers_where is_imported l.number (drop l.number l.link.bindings)) ≡ l.fn.row ++ map (import_of l.link) (numbers_where is_imported 0 l.link.bindings)
