-- What the sources are assembled to is linked.
use Rattle.c6x_gen.specs.Assembles.{SourcesAreAssembled}
use Rattle.c6x_gen.specs.Objects.{app_object, library_object}
use Rattle.c6x_gen.specs.LinkedSources.{SourcesAreLinked}
use Rattle.c6x_gen.proofs.AppLinked.{executables_linked}
use Rattle.c6x_gen.proofs.Libraries.{libraries_linked}

pub sources_linked : SourcesAreAssembled → SourcesAreLinked
sources_linked are number = (
  (app_object number, (are number).0, executables_linked number),
  λ library least most. (library_object number library, (are number).1 library least most, libraries_linked number library least most),
)
