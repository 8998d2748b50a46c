-- What a number generates: sources and link plans in the order of the modules, the executable first, and the plan of a run.
use Rattle.std.specs.Prelude.{ℕ, ◌∷◌}
use Rattle.c6x_gen.specs.declared.generated.Generated.{Generated}
use Rattle.c6x_gen.specs.Lists.{each_library}
use Rattle.c6x_gen.specs.Links.{app_link, library_link}
use Rattle.c6x_gen.specs.Plans.{plan_numbered}
use Rattle.c6x_gen.specs.Sources.{app_source, library_source}

unfoldable pub generated : ℕ → Generated
generated number = record {
  sources = app_source number ∷ each_library (library_source number);
  links = app_link ∷ each_library library_link;
  plan = plan_numbered number;
}
