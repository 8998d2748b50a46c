use Rattle.std.proofs.Common.{◌≡◌, drop, length}
use Rattle.std.specs.Prelude.{Result}
use Rattle.c6x_modules.specs.declared.modules.Modules.{Modules}
use Rattle.c6x_ports.specs.Shelf.{Shelved}
use Rattle.c6x_cli_steps.specs.declared.prepare_error.PrepareError.{PrepareError}
use Rattle.c6x_cli_steps.specs.Steps.{Prepares}
use Rattle.c6x_cli_run.specs.Loading.{AreNamed, images_behind, modules_steps}
use Rattle.c6x_cli_run.proofs.images.fetch_modules.Given as goal

-- what the modules that are still to come lead to, all lead to
abbrev pub invariant-loop-image : goal.invariant-loop-image
invariant-loop-image g l = record {
  leads : (after : Shelved) (result : Result Modules PrepareError) → Prepares (λ modules. modules) (λ told. images_behind l.modules told (drop l.image-index l.planned)) (g.S.Shelf.seen l.shelf) after result → Prepares (λ modules. modules) (λ told. modules_steps told l.planned) (g.S.Shelf.seen l.fn.shelf) after result;
  named : AreNamed l.modules l.planned;
  count : length l.modules ≡ l.image-index;
}
