-- What is worked out apart is the layout.
use Rattle.std.proofs.Common.{◌≡◌, ℕ, ◌+◌, true, false, List, ◌++◌, length, map, ap, ◌∙◌, arith, length-append}
use Rattle.std.proofs.lemmas.List.{map-append}
use Rattle.c6x_elf.specs.Names.{name_table}
use Rattle.c6x_plan.specs.declared.link_plan.LinkPlan.{LinkPlan}
use Rattle.c6x_symbols.specs.Bindings.{BoundName, exports_of, imports_of}
use Rattle.c6x_layout.proofs.SharedCounts.{rows_size_append}
use Rattle.c6x_layout.specs.Dynamics.{bound_name_at, module_names, own_name, shared_names, shared_numbers, strings_of_link}
use Rattle.c6x_layout.specs.Shared.{numbers_of, rows_size}

-- two lists of names counted, the exports and the imports
pub symbols_are : (bindings : List BoundName) → 3 + length (numbers_of true bindings) + length (numbers_of false bindings) ≡ 3 + length (shared_numbers bindings)
unfolding exports_of imports_of
symbols_are bindings = omega (arith, length-append (exports_of bindings) (imports_of bindings))

shared_rows : (bindings : List BoundName) → rows_size (shared_names bindings) ≡ rows_size (map (bound_name_at bindings) (numbers_of true bindings)) + rows_size (map (bound_name_at bindings) (numbers_of false bindings))
unfolding shared_names exports_of imports_of
shared_rows bindings =
    ap rows_size (map-append (bound_name_at bindings) (numbers_of true bindings) (numbers_of false bindings))
    ∙ rows_size_append (map (bound_name_at bindings) (numbers_of true bindings)) (map (bound_name_at bindings) (numbers_of false bindings))

table_size : (names : List (List ℕ)) → length (name_table names) ≡ 1 + rows_size names
unfolding name_table
table_size names = omega arith

pub strings_are : (bindings : List BoundName) (plan : LinkPlan) → 1 + rows_size (map (bound_name_at bindings) (numbers_of true bindings)) + rows_size (map (bound_name_at bindings) (numbers_of false bindings)) + rows_size (module_names plan) ≡ length (strings_of_link bindings plan)
unfolding strings_of_link
strings_are bindings plan =
    omega (arith, table_size (shared_names bindings ++ module_names plan), rows_size_append (shared_names bindings) (module_names plan), shared_rows bindings)

pub named_are : (plan : LinkPlan) → length (module_names plan) ≡ length plan.needed + length (own_name plan.soname)
unfolding module_names
named_are plan = omega (arith, length-append (own_name plan.soname) plan.needed)
