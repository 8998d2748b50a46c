-- What the lines of a link plan have said so far, as the reader keeps it.
use Rattle.std.specs.Prelude.{false, unwrap_or, ◌++◌, if◌then◌else◌, List, [], ◌∷◌, Option, Some, Result}
use Rattle.std.specs.List.{filter_map, list_any}
use Rattle.std.specs.Str.{bytes_eq}
use Rattle.c6x_plan.specs.declared.limits.TheConstants.{MOST_NEEDED, MOST_OBJECTS, TABLE}
use Rattle.c6x_plan.specs.declared.link_draft.LinkDraft.{LinkDraft}
use Rattle.c6x_plan.specs.declared.link_plan.LinkPlan.{LinkPlan}
use Rattle.c6x_plan.specs.declared.link_line.LinkLine.{LinkLine}
use Rattle.c6x_plan.specs.declared.link_line.LinkLine.TheVariants.{Output, Index, Table, Entry, Soname, Needed, Object}
use Rattle.c6x_plan.specs.PlanRules.{Broken}
use Rattle.c6x_plan.specs.PlanRules.{PlanRule}
use Rattle.c6x_plan.specs.PlanRules.{Name}
use Rattle.c6x_plan.specs.LinkPlans.{entry_in, index_in, needed_in, object_in, output_in, passes, soname_in, table_in, with_object}
use Rattle.c6x_plan.specs.Rules.{first_given, once}

-- What lines have said that mean these.
abbrev pub link_draft_of : List LinkLine → LinkDraft
link_draft_of lines = record {
  output = first_given output_in lines;
  index = first_given index_in lines;
  table = first_given table_in lines;
  entry = first_given entry_in lines;
  soname = first_given soname_in lines;
  needed = filter_map needed_in lines;
  objects = filter_map object_in lines;
}

-- The rule that a line breaks behind what was said.
unfoldable pub draft_rule : LinkDraft → LinkLine → Option PlanRule
draft_rule draft (Output library) = once draft.output
draft_rule draft (Index index) = once draft.index
draft_rule draft (Table slots) = once draft.table
draft_rule draft (Entry name) = once draft.entry
draft_rule draft (Soname name) = once draft.soname
draft_rule draft (Needed name) =
    if list_any (λ other. bytes_eq other name) draft.needed then Some Name else passes MOST_NEEDED draft.needed
draft_rule draft (Object file) = passes MOST_OBJECTS draft.objects

-- What is said with one more line, which breaks no rule.
unfoldable pub draft_with : LinkDraft → LinkLine → LinkDraft
draft_with draft (Output library) = record draft { output = Some library }
draft_with draft (Index index) = record draft { index = Some index }
draft_with draft (Table slots) = record draft { table = Some slots }
draft_with draft (Entry name) = record draft { entry = Some name }
draft_with draft (Soname name) = record draft { soname = Some name }
draft_with draft (Needed name) = record draft { needed = draft.needed ++ name ∷ [] }
draft_with draft (Object file) = record draft { objects = draft.objects ++ file ∷ [] }

-- The plan of what all lines said.
abbrev pub plan_drafted : LinkDraft → LinkPlan
plan_drafted draft = record {
  library = unwrap_or draft.output false;
  index = unwrap_or draft.index 0;
  table = unwrap_or draft.table TABLE;
  entry = draft.entry;
  soname = draft.soname;
  needed = draft.needed;
  objects = draft.objects;
}

unfoldable pub finished : LinkDraft → Result LinkPlan Broken
finished draft = with_object (plan_drafted draft)
