-- No process of a number breaks a rule of binding.
use Rattle.std.proofs.Common.{◌≡◌, ℕ, zero, suc, ◌+◌, ◌<◌, ◌≤◌, List, length, map, codes, None, Some, slice_get, refl, ap, sym, subst, arith}
use Rattle.std.specs.List.{range_with_len}
use Rattle.std.proofs.lemmas.List.{length-map}
use Rattle.c6x_place.specs.Binding.{found_refusal, list_refusal, must, outside_from, outside_refusal, process_refusal, unresolved_from}
use Rattle.c6x_gen.specs.Lists.{each_below}
use Rattle.c6x_gen.specs.Plans.{plan_numbered, process_name}
use Rattle.c6x_gen.specs.Sources.{called, library_name}
use Rattle.c6x_gen.specs.BoundModules.{ProcessesAreBound}
use Rattle.c6x_gen.proofs.Found.{stub_found, stub_inside}
use Rattle.c6x_gen.proofs.Lists.{each_get, none_along}
use Rattle.c6x_gen.proofs.Members.{counts_pass, exec_passes, indices_pass, members, none_missing, search_is}
use Rattle.c6x_gen.proofs.Shapes.{in_text, IsInText, Rest, rest_of, shaped, shapes, symbols_with}
use Rattle.c6x_gen.specs.Parts.{callee_names, callees, stub_field}
use Rattle.c6x_module.specs.declared.field.Field.{Field}
use Rattle.c6x_module.specs.declared.module.Module.{Module}
use Rattle.c6x_place.specs.Plans.{plans_refusal}

-- the words of the stubs of a number's executable
abbrev stubs : ℕ → ℕ → List Field
stubs number words = map (stub_field words) (range_with_len 0 (callees number))

range_length : (from count : ℕ) → length (range_with_len from count) ≡ count
range_length from zero = refl
range_length from (suc count) = ap suc (range_length (from + 1) count)

few_stubs : (number words : ℕ) → length (stubs number words) ≤ 11
few_stubs number words =
    omega (arith, length-map (range_with_len 0 (callees number)) (stub_field words), range_length 0 (callees number))

name_there : (number place : ℕ) → place < callees number → slice_get (callee_names number) place ≡ Some (library_name (called number place))
name_there number place below = each_get (λ line. library_name (called number line)) (callees number) place below

stub_resolved : (rest : Rest) (rests : ℕ → Rest) (fields : List Field) (number words process place : ℕ) → place < callees number → found_refusal (shapes rest rests (callee_names number) fields) members process 0 0 (symbols_with rest.table (codes "start") rest.start (callee_names number)) (stub_field words place) ≡ None
unfolding found_refusal must
stub_resolved rest rests fields number words process place below =
    rw (stub_found rest rests (callee_names number) fields words place (called number place) (name_there number place below) (omega arith) (omega arith)) refl

stub_within : (rest : Rest) (rests : ℕ → Rest) (fields : List Field) (number words process place : ℕ) → place < callees number → IsInText (rests (called number place)) → outside_refusal (shapes rest rests (callee_names number) fields) members process 0 0 (symbols_with rest.table (codes "start") rest.start (callee_names number)) (stub_field words place) ≡ None
unfolding outside_refusal must
stub_within rest rests fields number words process place below is =
    rw (stub_inside rest rests (callee_names number) fields words place (called number place) (name_there number place below) (omega arith) (omega arith) is) refl

none_unresolved : (rest : Rest) (rests : ℕ → Rest) (number words process : ℕ) → unresolved_from (shapes rest rests (callee_names number) (stubs number words)) members process 0 members ≡ None
unfolding shapes each_below
none_unresolved rest rests number words process =
    let modules = shapes rest rests (callee_names number) (stubs number words) in
    let symbols = symbols_with rest.table (codes "start") rest.start (callee_names number) in
    rw (none_along (found_refusal modules members process 0 0 symbols) (stub_field words) 0 (callees number) (λ place least below. stub_resolved rest rests (stubs number words) number words process place (omega (arith, below)))) refl

none_outside : (rest : Rest) (rests : ℕ → Rest) (number words process : ℕ) → ((library : ℕ) → 1 ≤ library → library ≤ 11 → IsInText (rests library)) → outside_from (shapes rest rests (callee_names number) (stubs number words)) members process 0 members ≡ None
unfolding shapes each_below
none_outside rest rests number words process are =
    let modules = shapes rest rests (callee_names number) (stubs number words) in
    let symbols = symbols_with rest.table (codes "start") rest.start (callee_names number) in
    rw (none_along (outside_refusal modules members process 0 0 symbols) (stub_field words) 0 (callees number) (λ place least below. stub_within rest rests (stubs number words) number words process place (omega (arith, below)) (are (called number place) (omega arith) (omega arith)))) refl

shapes_bound : (rest : Rest) (rests : ℕ → Rest) (number words : ℕ) → ((library : ℕ) → 1 ≤ library → library ≤ 11 → IsInText (rests library)) → (process : ℕ) (name : List ℕ) → process_refusal (shapes rest rests (callee_names number) (stubs number words)) process name 0 ≡ None
unfolding process_refusal list_refusal
shapes_bound rest rests number words are process name =
    let imports = callee_names number in
    let fields = stubs number words in
    rw (
      search_is rest rests imports fields,
      exec_passes rest rests imports fields process name,
      none_missing rest rests imports fields process,
      indices_pass rest rests imports fields process name,
      none_unresolved rest rests number words process,
      none_outside rest rests number words process are,
      counts_pass rest rests imports fields process name (few_stubs number words),
    )
    refl

plans_bound : (number : ℕ) (modules : List Module) → ((process : ℕ) (name : List ℕ) → process_refusal modules process name 0 ≡ None) → plans_refusal modules 0 (plan_numbered number).processes ≡ None
unfolding plan_numbered each_below
plans_bound number modules bound =
    rw (
      bound 0 (process_name 0),
      bound 1 (process_name 1),
      bound 2 (process_name 2),
      bound 3 (process_name 3),
      bound 4 (process_name 4),
      bound 5 (process_name 5),
      bound 6 (process_name 6),
      bound 7 (process_name 7),
    )
    refl

pub all_bound : ProcessesAreBound
all_bound number modules are =
    plans_bound number modules
    (subst (λ ms. (process : ℕ) (name : List ℕ) → process_refusal ms process name 0 ≡ None) (sym (shaped number modules are))
    (shapes_bound (rest_of are.app) (λ library. rest_of (are.libraries library)) number (are.app.table + 48) (λ library least most. in_text library (are.libraries library) (are.are_libraries library least most))))
