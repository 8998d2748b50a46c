-- Link plans: what each line means, and the plan of all.
use Rattle.std.specs.Prelude.{ℕ, Bool, true, false, ◌==◌, nat_le, unwrap_or, if◌then◌else◌, codes, List, [], ◌∷◌, length, Option, None, Some, Result, Ok, Err}
use Rattle.std.specs.List.{filter_map, list_any}
use Rattle.std.specs.Option.{option_map}
use Rattle.std.specs.Str.{bytes_eq}
use Rattle.c6x_spec.specs.Results.{◌>>=◌}
use Rattle.c6x_plan.specs.declared.limits.TheConstants.{MOST_NEEDED, MOST_OBJECTS, TABLE}
use Rattle.c6x_plan.specs.declared.link_line.LinkLine.{LinkLine}
use Rattle.c6x_plan.specs.declared.link_line.LinkLine.TheVariants.{Output, Index, Table, Entry, Soname, Needed, Object}
use Rattle.c6x_plan.specs.declared.link_plan.LinkPlan.{LinkPlan}
use Rattle.c6x_plan.specs.PlanRules.{Broken, broken_at, Count as CountRule}
use Rattle.c6x_plan.specs.PlanRules.{PlanRule}
use Rattle.c6x_plan.specs.PlanRules.{Name, Count}
use Rattle.c6x_plan.specs.Lines.{said_lines}
use Rattle.c6x_plan.specs.Rules.{behind_first, first_given, meanings, once}
use Rattle.c6x_plan.specs.Words.{is_name, number_in}

abbrev pub any_number : List ℕ → Option ℕ
any_number word = number_in 0 4294967295 word

abbrev pub library_of : List ℕ → Option Bool
library_of word = if bytes_eq word (codes "executable") then Some false else (if bytes_eq word (codes "library") then Some true else None)

-- What a line with a name means: `entry NAME`, `soname NAME`, `needed NAME`, `object FILE`.
unfoldable pub named_line : List ℕ → List ℕ → Option LinkLine
named_line key name =
    if bytes_eq key (codes "entry") then Some (Entry name)
    else if bytes_eq key (codes "soname") then Some (Soname name)
    else if bytes_eq key (codes "needed") then Some (Needed name)
    else if bytes_eq key (codes "object") then Some (Object name)
    else None

-- What a line of two words means: `output executable` or `output library`, `index N`, `table N`, or a line with a name.
unfoldable pub keyed_line : List ℕ → List ℕ → Option LinkLine
keyed_line key word =
    if bytes_eq key (codes "output") then option_map Output (library_of word)
    else if bytes_eq key (codes "index") then option_map Index (any_number word)
    else if bytes_eq key (codes "table") then option_map Table (any_number word)
    else if is_name word then named_line key word
    else None

unfoldable pub link_line : List (List ℕ) → Option LinkLine
link_line (key ∷ word ∷ []) = keyed_line key word
link_line _ = None

abbrev pub output_in : LinkLine → Option Bool
output_in (Output library) = Some library
output_in _ = None

abbrev pub index_in : LinkLine → Option ℕ
index_in (Index index) = Some index
index_in _ = None

abbrev pub table_in : LinkLine → Option ℕ
table_in (Table slots) = Some slots
table_in _ = None

abbrev pub entry_in : LinkLine → Option (List ℕ)
entry_in (Entry name) = Some name
entry_in _ = None

abbrev pub soname_in : LinkLine → Option (List ℕ)
soname_in (Soname name) = Some name
soname_in _ = None

abbrev pub needed_in : LinkLine → Option (List ℕ)
needed_in (Needed name) = Some name
needed_in _ = None

abbrev pub object_in : LinkLine → Option (List ℕ)
object_in (Object file) = Some file
object_in _ = None

-- A line that may come once has an earlier one of its kind.
abbrev pub again : {X : Type 0} → (LinkLine → Option X) → List LinkLine → Option PlanRule
again given earlier = once (first_given given earlier)

abbrev pub passes : ℕ → List (List ℕ) → Option PlanRule
passes most names = if nat_le most (length names) then Some Count else None

-- The rule that a line breaks behind earlier ones.
unfoldable pub link_rule : List LinkLine → LinkLine → Option PlanRule
link_rule earlier (Output library) = again output_in earlier
link_rule earlier (Index index) = again index_in earlier
link_rule earlier (Table slots) = again table_in earlier
link_rule earlier (Entry name) = again entry_in earlier
link_rule earlier (Soname name) = again soname_in earlier
link_rule earlier (Needed name) =
    if list_any (λ other. bytes_eq other name) (filter_map needed_in earlier) then Some Name
    else passes MOST_NEEDED (filter_map needed_in earlier)
link_rule earlier (Object file) = passes MOST_OBJECTS (filter_map object_in earlier)

-- The plan of lines that mean these.
unfoldable pub link_plan_of : List LinkLine → LinkPlan
link_plan_of lines = record {
  library = unwrap_or (first_given output_in lines) false;
  index = unwrap_or (first_given index_in lines) 0;
  table = unwrap_or (first_given table_in lines) TABLE;
  entry = first_given entry_in lines;
  soname = first_given soname_in lines;
  needed = filter_map needed_in lines;
  objects = filter_map object_in lines;
}

-- A plan names an object.
abbrev pub with_object : LinkPlan → Result LinkPlan Broken
with_object plan = if length plan.objects == 0 then Err (broken_at 0 CountRule) else Ok plan

-- The link plan of a text, or the first rule that the text breaks, by line and then by number.
unfoldable pub link_plan : List ℕ → Result LinkPlan Broken
link_plan text = do
  lines ← behind_first (codes "c6x-link") (said_lines 0 text)
  meant ← meanings link_line link_rule [] lines
  with_object (link_plan_of meant)
