-- The broken rules of a link, and the first of several.
use Rattle.std.specs.Prelude.{◌≡◌, ℕ, Bool, List, [], ◌∷◌, Option, None, Some, Result, Ok, Err, if◌then◌else◌}
use Rattle.c6x_symbols.specs.declared.link_error.LinkError.{LinkError}
use Rattle.c6x_symbols.specs.declared.link_error.LinkError.TheVariants.{Rule, NoMemory}
use Rattle.c6x_symbols.specs.declared.link_rule.LinkRule.{LinkRule}

-- A broken rule with what it tells: an object, a number, a name.
pub record Refusal : Type 0 where
  pub rule : LinkRule
  pub object : ℕ
  pub place : ℕ
  pub name : List ℕ

-- A rule that tells no name.
abbrev pub refusal : LinkRule → ℕ → ℕ → Refusal
refusal rule object place = record { rule = rule; object = object; place = place; name = [] }

-- The first refusal.
infixr 5 ◌<|>◌
abbrev pub ◌<|>◌ : {A : Type 0} → Option A → Option A → Option A
None <|> later = later
(Some broken) <|> later = Some broken

-- A rule is broken exactly where the test fails.
unfoldable pub must : Bool → Refusal → Option Refusal
must holds broken = if holds then None else Some broken

-- A list of rules.
abbrev pub first_along : {A B : Type 0} → (A → Option B) → List A → Option B
first_along test [] = None
first_along test (x ∷ xs) = test x <|> first_along test xs

-- An error tells this refusal; want of memory may come in its stead.
abbrev pub Tells : LinkError → Refusal → Type 0
Tells (Rule rule object place name) broken =
    record { rule = rule; object = object; place = place; name = name } ≡ broken
Tells NoMemory broken = Unit {0}

-- An answer is Ok exactly where no rule is broken, and else tells the first broken rule; want of memory may come in
-- their stead.
abbrev pub Passes : {T : Type 0} → Result T LinkError → Option Refusal → Type 0
Passes (Ok x) broken = broken ≡ None
Passes (Err (Rule rule object place name)) broken =
    broken ≡ Some (record { rule = rule; object = object; place = place; name = name })
Passes (Err NoMemory) broken = Unit {0}
