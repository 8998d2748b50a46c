-- What a link has worked out.
use Rattle.std.specs.Prelude.{ℕ, List}
use Rattle.c6x_dsbt.specs.Needs.{stubs_of, words_of}
use Rattle.c6x_dsbt.specs.declared.wanted.Wanted.{Wanted}
use Rattle.c6x_elf.specs.declared.file.File.{File}
use Rattle.c6x_layout.specs.Layouts.{Laying, layout_of}
use Rattle.c6x_layout.specs.declared.layout.Layout.{Layout}
use Rattle.c6x_plan.specs.declared.link_plan.LinkPlan.{LinkPlan}
use Rattle.c6x_symbols.specs.Bindings.{BoundName, bindings_of}

-- The objects and the plan, what the names are bound to, the value words, the imports with a stub, and the addresses.
pub record Working : Type 0 where
  pub objects : List File
  pub plan : LinkPlan
  pub bindings : List BoundName
  pub words : List Wanted
  pub stubs : List ℕ
  pub layout : Layout

abbrev pub laying_with : List File → LinkPlan → List BoundName → Laying
laying_with objects plan bindings = record {
  objects = objects;
  bindings = bindings;
  words = words_of objects bindings;
  stubs = stubs_of objects bindings;
  plan = plan;
}

abbrev pub worked_out : Laying → Working
worked_out l = record {
  objects = l.objects;
  plan = l.plan;
  bindings = l.bindings;
  words = l.words;
  stubs = l.stubs;
  layout = layout_of l;
}

-- What the link of objects by a plan works out.
unfoldable pub laying_of : List File → LinkPlan → Laying
laying_of objects plan = laying_with objects plan (bindings_of objects)

unfoldable pub working_of : List File → LinkPlan → Working
working_of objects plan = worked_out (laying_of objects plan)
