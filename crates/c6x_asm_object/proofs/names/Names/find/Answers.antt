use Rattle.std.proofs.Common.{ap, ◌∙◌}
use Rattle.c6x_asm_object.proofs.Finding.{place_of_slice}
use Rattle.c6x_asm_object.specs.Names.{name_at}
use Rattle.c6x_asm_object.proofs.names.Names.find.Goals as goal

pub returns-clause-is : goal.returns-clause-is
returns-clause-is c = c.get_index_of.ensures.index ∙ place_of_slice c.self.inside.slices.keys c.args.name.now ∙ ap (λ names. name_at names c.args.name.now) c.self.view_is
