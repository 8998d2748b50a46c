use Rattle.std.proofs.Common.{false, rules}
use Rattle.c6x_module.proofs.Validity.{module_valid}
use Rattle.c6x_modules.proofs.reading.read_module.Goals as goal

pub returns-clause-valid : goal.returns-clause-valid
returns-clause-valid c = module_valid false c.args.name c.args.file _ (search rules)
