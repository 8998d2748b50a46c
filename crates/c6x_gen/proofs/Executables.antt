-- The file of each executable is read as a module.
use Rattle.std.proofs.Common.{◌≡◌, ℕ, [], ◌∷◌, None}
use Rattle.c6x_gen.specs.Links.{app_link, app_name}
use Rattle.c6x_gen.specs.Assembles.{SourcesAreAssembled}
use Rattle.c6x_gen.specs.Objects.{app_object}
use Rattle.c6x_gen.specs.LinkedPlans.{ExecutablesAreLinked}
use Rattle.c6x_gen.specs.Readable.{ObjectsAreRead}
use Rattle.c6x_link.proofs.FieldsHeld.{linked_rule}
use Rattle.c6x_link.specs.Linked.{link_refusal}
use Rattle.c6x_gen.specs.Modules.{ExecutablesAreRead}
use Rattle.c6x_gen.specs.Parts.{IsApp}
use Rattle.c6x_gen.proofs.AppModule.{app_is, app_keeps}
use Rattle.c6x_gen.proofs.Linkable.{app_linkable}
use Rattle.c6x_gen.proofs.Reading.{is_module}

none_refused : ExecutablesAreLinked → (number : ℕ) → link_refusal (app_object number ∷ []) app_link ≡ None
none_refused linked number = linked_rule (app_object number ∷ []) app_link (linked number).0 (linked number).1

pub executables_read : ObjectsAreRead → SourcesAreAssembled → ExecutablesAreLinked → ExecutablesAreRead
executables_read read assembled linked number =
    is_module app_name (app_object number) app_link (IsApp number)
    (app_linkable read assembled number) (none_refused linked number) (app_keeps number) (app_is number)
