-- Names and groups with one mention more.
use Rattle.std.specs.Prelude.{◌≡◌, ℕ, ◌^◌, ◌<◌, ◌≤◌, ◌&&◌, ◌||◌, max, nat_lt, Bool, true, false, List, [], ◌∷◌, length, slice_index_or, Option, None, Some, if◌then◌else◌}
use Rattle.c6x_symbols.specs.Bindings.{BoundName}
use Rattle.c6x_symbols.specs.Groups.{group_of, is_common, is_near, is_strong, is_weak, is_weak_definition, names_of, no_group, of_name, source_of, stricter}
use Rattle.c6x_symbols.specs.Mentions.{Named}
use Rattle.c6x_symbols.specs.Names.{name_at}
use Rattle.c6x_symbols.specs.declared.common.Common.{Common}
use Rattle.c6x_symbols.specs.declared.group.Group.{Group}
use Rattle.c6x_symbols.specs.declared.mention.Mention.{Mention}

abbrev pub with_common : Option Common → Mention → Common
with_common None m = record { size = m.symbol.size; align = m.symbol.value; near = is_near m; source = source_of m }
with_common (Some had) m = record {
  size = max had.size m.symbol.size;
  align = max had.align m.symbol.value;
  near = had.near || is_near m;
  source = if nat_lt had.size m.symbol.size then source_of m else had.source;
}

unfoldable pub common_more : Option Common → Mention → Option Common
common_more common m = if is_common m then Some (with_common common m) else common

abbrev pub first_or : {A : Type 0} → Option A → Bool → A → Option A
first_or (Some had) test new = Some had
first_or None true new = Some new
first_or None false new = None

abbrev pub second_or : {A B : Type 0} → Option A → Option B → Bool → B → Option B
second_or None second test new = second
second_or (Some first) second test new = first_or second test new

unfoldable pub with_mention : Group → Mention → Group
with_mention g m = record {
  strong = first_or g.strong (is_strong m) (source_of m);
  second = second_or g.strong g.second (is_strong m) m.object;
  common = common_more g.common m;
  weak = first_or g.weak (is_weak_definition m) (source_of m);
  all_weak = g.all_weak && is_weak m;
  visibility = stricter g.visibility m;
}

abbrev pub group_at : List Group → Option ℕ → Group
group_at groups None = no_group
group_at groups (Some place) = slice_index_or groups place no_group

-- The kept names and groups are those of the mentions so far.
pub record AreGroups (xs : List Named) (names : List (List ℕ)) (groups : List Group) : Type 0 where
  pub listed : names ≡ names_of xs
  pub size : length groups ≡ length names
  pub own : (place : ℕ) → place < length names → name_at names (slice_index_or names place []) ≡ Some place
  pub each : (name : List ℕ) → group_at groups (name_at names name) ≡ group_of (of_name name xs)

-- Names, each with its group.
abbrev pub bound_names : List (List ℕ) → List Group → List BoundName
bound_names [] groups = []
bound_names (name ∷ names) [] = []
bound_names (name ∷ names) (group ∷ groups) = record { name = name; group = group } ∷ bound_names names groups

-- As many groups as names, of which there are not too many to number.
pub record AreInStep (names : List (List ℕ)) (groups : List Group) : Type 0 where
  pub size : length groups ≡ length names
  pub few : length names ≤ 2 ^ 28
