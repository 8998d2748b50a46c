-- The link plans of the generated sources: each of one object, under a table of twelve slots.
use Rattle.std.specs.Prelude.{ℕ, true, false, List, [], ◌∷◌, ◌++◌, codes, None, Some}
use Rattle.c6x_plan.specs.declared.link_plan.LinkPlan.{LinkPlan}
use Rattle.c6x_gen.specs.Lists.{each_library}
use Rattle.c6x_gen.specs.Sources.{library_name}

abbrev pub app_name : List ℕ
app_name = codes "app"

-- The object of a module.
abbrev pub object_name : List ℕ → List ℕ
object_name image = image ++ codes ".o"

-- The executable needs every library, in order.
abbrev pub app_link : LinkPlan
app_link = record {
  library = false;
  index = 0;
  table = 12;
  entry = Some (codes "start");
  soname = None;
  needed = each_library library_name;
  objects = object_name app_name ∷ [];
}

-- A library has its number as index, and its name for others.
abbrev pub library_link : ℕ → LinkPlan
library_link library = record {
  library = true;
  index = library;
  table = 12;
  entry = None;
  soname = Some (library_name library);
  needed = [];
  objects = object_name (library_name library) ∷ [];
}
