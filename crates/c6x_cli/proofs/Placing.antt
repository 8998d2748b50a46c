-- What a placed plan is.
use Rattle.std.proofs.Common.{◌≡◌, ℕ, ◌+◌, List, refl, sym, ap, subst}
use Rattle.std.specs.Prelude.{Option, None, Some, Result, Ok, Err}
use Rattle.c6x_spec.specs.Results.{◌>>=◌}
use Rattle.c6x_plan.specs.declared.run_plan.RunPlan.{RunPlan}
use Rattle.c6x_module.specs.declared.module.Module.{Module}
use Rattle.c6x_place.specs.Binding.{Refusal as BindRefusal}
use Rattle.c6x_place.specs.declared.bound.Bound.{Bound}
use Rattle.c6x_place.specs.declared.placement.Placement.{Placement}
use Rattle.c6x_place.specs.Plans.{bound_plans, placement_of, plans_refusal}
use Rattle.c6x_cli_run.specs.Placing.{binding, bound_or, placed_or, placing}
use Rattle.c6x_cli_run.specs.declared.loading.Loading.{Loading}

-- a value behind another
then_value :
    {A B E : Type 0} (r : Result A E) (f : A → Result B E) (b : B)
    → (r >>= f) ≡ Ok b
    → (x : A) × (r ≡ Ok x) × (f x ≡ Ok b)
then_value (Ok x) f b is = (x, refl, is)
then_value (Err e) f b is = absurd (cc is)

is_bound : (bound made : Bound) (o : Option BindRefusal) → bound_or bound o ≡ Ok made → bound ≡ made
is_bound bound made None is = cc is
is_bound bound made (Some broken) is = absurd (cc is)

is_placed :
    (name : List ℕ) (len : ℕ) (o : Option Placement) (placement : Placement)
    → placed_or name len o ≡ Ok placement
    → o ≡ Some placement
is_placed name len None placement is = absurd (cc is)
is_placed name len (Some made) placement is = let same : made ≡ placement = cc is in ap (λ (p : Placement). Some p) same

-- the plan and the modules, what their processes are bound to, and their placement
pub record IsPlaced (plan : RunPlan) (modules : List Module) (base len : ℕ) (loading : Loading) : Type 0 where
  pub plan_is : loading.plan ≡ plan
  pub modules_is : loading.modules ≡ modules
  pub bound_is : loading.bound.processes ≡ bound_plans modules plan.processes
  pub placement_is : placement_of modules plan.processes loading.bound.processes base (base + len) ≡ Some
      loading.placement

bound_of :
    (modules : List Module) (plan : RunPlan) (bound : Bound)
    → binding modules plan.processes ≡ Ok bound
    → bound.processes ≡ bound_plans modules plan.processes
unfolding binding
bound_of modules plan bound is =
    let same = is_bound (record { processes = bound_plans modules plan.processes }) bound
    (plans_refusal modules 0 plan.processes) is in
    ap (λ (b : Bound). b.processes) (sym same)

pub placing_is :
    (name : List ℕ) (plan : RunPlan) (modules : List Module) (base len : ℕ) (loading : Loading)
    → placing name plan modules base len ≡ Ok loading
    → IsPlaced plan modules base len loading
unfolding placing
placing_is name plan modules base len loading is =
    let a = then_value (binding modules plan.processes)
    (λ bound. placed_or name len (placement_of modules plan.processes bound.processes base (base + len)) >>= λ
    placement. Ok (record { plan = plan; modules = modules; bound = bound; placement = placement })) loading is in
    let bound : Bound = a.0 in
    let b = then_value (placed_or name len (placement_of modules plan.processes bound.processes base (base + len)))
    (λ placement. Ok (record { plan = plan; modules = modules; bound = bound; placement = placement })) loading
    a.2 in
    let placement : Placement = b.0 in
    let made : Loading = record { plan = plan; modules = modules; bound = bound; placement = placement } in
    let same : made ≡ loading = cc b.2 in
    let first : IsPlaced plan modules base len made = record {
      plan_is = refl;
      modules_is = refl;
      bound_is = bound_of modules plan bound a.1;
      placement_is = is_placed name len (placement_of modules plan.processes bound.processes base (base + len))
          placement b.1;
    } in
    subst (IsPlaced plan modules base len) same first
