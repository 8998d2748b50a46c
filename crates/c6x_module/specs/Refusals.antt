use Rattle.std.specs.Prelude.{◌≡◌, ℕ, Bool, Option, None, Some, Result, Ok, Err, if◌then◌else◌}
use Rattle.c6x_module.specs.declared.module_error.ModuleError.{ModuleError}
use Rattle.c6x_module.specs.declared.module_error.ModuleError.TheVariants.{Rule, NoMemory}
use Rattle.c6x_module.specs.declared.module_rule.ModuleRule.{ModuleRule}

-- A broken rule and its number.
abbrev pub Refusal : Type 0
Refusal = ModuleRule × ℕ

-- A rule with its number, broken exactly where the test fails.
unfoldable pub must : Bool → ModuleRule → ℕ → Option Refusal
must holds rule number = if holds then None else Some (rule, number)

-- What later rules speak of, or the rule by which there is none.
abbrev pub found : {A : Type 0} → Option A → ModuleRule → ℕ → Result A Refusal
found None rule number = Err (rule, number)
found (Some x) rule number = Ok x

-- What stands behind rules, where none of them is broken.
abbrev pub kept : {A : Type 0} → Option Refusal → Result A Refusal → Result A Refusal
kept None later = later
kept (Some refusal) later = Err refusal

-- An answer is Ok exactly where no rule is broken, and else tells the first broken rule and its number; want of memory may
-- come in their stead.
abbrev pub Passes : {X : Type 0} → Result X ModuleError → Option Refusal → Type 0
Passes (Ok x) refusal = refusal ≡ None
Passes (Err (Rule rule number)) refusal = refusal ≡ Some (rule, number)
Passes (Err NoMemory) refusal = Unit {0}

-- An answer is what is read, as the view sees it, or the rule by which there is none; want of memory may come in their
-- stead.
abbrev pub Answers : {X A : Type 0} → (X → A) → Result X ModuleError → Result A Refusal → Type 0
Answers view (Ok x) read = read ≡ Ok (view x)
Answers view (Err (Rule rule number)) read = read ≡ Err (rule, number)
Answers view (Err NoMemory) read = Unit {0}
