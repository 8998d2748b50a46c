-- What is true of all that a number generates.
use Rattle.std.specs.Prelude.{◌≡◌, ℕ, ◌^◌, ◌<◌, All, List, length}
use Rattle.c6x_plan.specs.Limits.{IsLinkPlan, IsRunPlan}
use Rattle.c6x_gen.specs.declared.generated.Generated.{Generated}

abbrev pub IsText : List ℕ → Type 0
IsText text = length text < 2 ^ 32

-- The plans are within their limits, as if they had been read, and each module has a source and a link plan.
pub record IsWithin (made : Generated) : Type 0 where
  pub plan : IsRunPlan made.plan
  pub links : All IsLinkPlan made.links
  pub texts : All IsText made.sources
  pub sourced : length made.sources ≡ length made.plan.modules
  pub linked : length made.links ≡ length made.plan.modules
