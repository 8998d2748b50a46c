use Rattle.c6x_relocated.proofs.RangePatched.{loaded_patched}
use Rattle.c6x_relocated.proofs.patched.loading_is_patching.Goals as goal

pub returns : goal.returns
returns c = λ m valid word address targets old links small linked. loaded_patched m valid word address targets old links small linked
