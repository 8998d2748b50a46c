use Rattle.std.proofs.Common.{◌≡◌, ℕ, ◌+◌, ◌<◌, ◌⊎◌, inl, inr, Bool, true, false, List, [], ◌∷◌, ◌++◌, get_or, length, refl, sym, subst, ◌∙◌, ap, arith, length-append}
use Rattle.std.proofs.Math.ListN.{get_or-append}
use Rattle.std.proofs.Math.Seq.{get_or-append_seam}
use Rattle.std.proofs.lemmas.Bool.Decides.{nat_tests}
use Rattle.std.proofs.lemmas.List.{get_or_default}
use Rattle.std.specs.Prelude.{AllPairs, nat_lt, Option, None, Some, Result, Ok, Err}
use Rattle.c6x_spec.specs.Firsts.{◌<|>◌}
use Rattle.c6x_spec.specs.Results.{◌>>=◌}
use Rattle.c6x_elf.specs.Types.{Dyn}
use Rattle.c6x_elf.specs.declared.file.File.{File}
use Rattle.c6x_elf.specs.declared.segment.Segment.{Segment}
use Rattle.c6x_module.specs.declared.module.Module.{Module}
use Rattle.c6x_module.specs.declared.module_rule.ModuleRule.{ModuleRule}
use Rattle.c6x_module.specs.Entries.{dsbt_refusal, entries_in}
use Rattle.c6x_module.specs.Modules.{module_in, module_of, ranges_then, relocs_refusal, tables_then}
use Rattle.c6x_module.specs.Ranges.{ranges_in}
use Rattle.c6x_module.specs.Refusals.{Refusal, kept}
use Rattle.c6x_module.specs.Shape.{shape_refusal}
use Rattle.c6x_module.specs.Tables.{Tables, tables_in, tables_refusal}
use Rattle.c6x_modules.specs.Owned.{IsNew, refusal_of, with_module}
use Rattle.c6x_plan.specs.Limits.{HaveOtherNames}
use Rattle.c6x_plan.specs.declared.module_plan.ModulePlan.{ModulePlan}
use Rattle.c6x_cli_steps.specs.declared.cause.Cause.TheVariants.{Refused}
use Rattle.c6x_cli_run.specs.Loading.{AreNamed, HasAdded, broken_module, taken}

-- what is read has the name that it is read under
abbrev IsCalled : List ℕ → Result Module Refusal → Type 0
IsCalled name (Ok m) = m.name ≡ name
IsCalled name (Err refusal) = Unit {0}

kept_called : (name : List ℕ) (refusal : Option Refusal) (m : Module) → m.name ≡ name → IsCalled name (kept refusal (Ok m))
kept_called name None m is = is
kept_called name (Some refusal) m is = tt

then_called : {A : Type 0} (name : List ℕ) (first : Result A Refusal) (next : A → Result Module Refusal) → ((x : A) → IsCalled name (next x)) → IsCalled name (first >>= next)
then_called name (Ok x) next all = all x
then_called name (Err refusal) next all = tt

tables_called : (name : List ℕ) (file : File) (two : Segment × Segment) (ds : List Dyn) (t : Tables) → IsCalled name (tables_then name file two ds t)
unfolding tables_then module_of
tables_called name file two ds t =
    kept_called name (tables_refusal ds t <|> relocs_refusal file two ds (t.relas ++ t.jumps)) (module_of name file two ds t) refl

ranges_called : (name : List ℕ) (file : File) (two : Segment × Segment) (ds : List Dyn) → IsCalled name (ranges_then false name file two ds)
unfolding ranges_then
ranges_called name file two ds =
    then_called name (kept (shape_refusal two.0 two.1 ds) (tables_in false two.0 two.1 ds)) (λ t. tables_then name file two ds t) (tables_called name file two ds)

is_called : (name : List ℕ) (file : File) → IsCalled name (module_in false name file)
unfolding module_in
is_called name file =
    then_called name (entries_in false file.segments) (λ ds. kept (dsbt_refusal ds) (ranges_in file.segments) >>= λ two. ranges_then false name file two ds)
    (λ ds. then_called name (kept (dsbt_refusal ds) (ranges_in file.segments)) (λ two. ranges_then false name file two ds) (λ two. ranges_called name file two ds))

-- one more was taken, or refused
pub is_taken : (modules : List Module) (name : List ℕ) (read : Result Module Refusal) → refusal_of read ≡ None → taken modules name read ≡ Ok (with_module modules read)
is_taken modules name (Ok m) none = refl
is_taken modules name (Err refusal) none = absurd (cc)

pub is_refused : (modules : List Module) (name : List ℕ) (read : Result Module Refusal) (rule : ModuleRule) (number : ℕ) → refusal_of read ≡ Some (rule, number) → taken modules name read ≡ Err (Refused (broken_module name (rule, number)))
is_refused modules name (Ok m) rule number is = absurd (cc)
is_refused modules name (Err refusal) rule number is = let same : refusal ≡ (rule, number) = cc in ap (λ (r : Refusal). Err (Refused (broken_module name r))) same

added_by : (modules : List Module) (name : List ℕ) (read : Result Module Refusal) → IsCalled name read → refusal_of read ≡ None → HasAdded modules name (with_module modules read)
added_by modules name (Ok m) called none = record { last = m; behind = refl; named = called }
added_by modules name (Err refusal) called none = absurd (cc)

pub has_added : (modules : List Module) (name : List ℕ) (file : File) → refusal_of (module_in false name file) ≡ None → HasAdded modules name (with_module modules (module_in false name file))
has_added modules name file none = added_by modules name (module_in false name file) (is_called name file) none

-- the modules so far have the first names of the plan, so the next name is new
pub next_is_new : (modules : List Module) (planned : List ModulePlan) (p : ModulePlan) → AllPairs HaveOtherNames planned → AreNamed modules planned → length modules < length planned → IsNew modules (get_or planned (length modules) p).name
next_is_new modules planned p distinct named inside k m below same =
    distinct k (length modules) p below inside (sym (named k m p below) ∙ same)

pub none_named : (planned : List ModulePlan) → AreNamed [] planned
none_named planned k m p below = absurd (omega (arith, below))

-- and with that one behind them they still have the first names
named_at : (modules : List Module) (last : Module) (planned : List ModulePlan) (p : ModulePlan) (k : ℕ) (m : Module) (q : ModulePlan) → AreNamed modules planned → last.name ≡ (get_or planned (length modules) p).name → length modules < length planned → (k < length modules) ⊎ (k ≡ length modules) → (get_or (modules ++ last ∷ []) k m).name ≡ (get_or planned k q).name
named_at modules last planned p k m q named is inside (inl below) =
    ap (λ (x : Module). x.name) (get_or-append modules (last ∷ []) m k below) ∙ named k m q below
named_at modules last planned p k m q named is inside (inr same) =
    subst (λ (n : ℕ). (get_or (modules ++ last ∷ []) n m).name ≡ (get_or planned n q).name) (sym same)
    (ap (λ (x : Module). x.name) (get_or-append_seam modules last [] m) ∙ is ∙ ap (λ (x : ModulePlan). x.name) (get_or_default planned (length modules) p q inside))

at_end : (k n : ℕ) (t : Bool) → nat_lt k n ≡ t → k < n + 1 → (k < n) ⊎ (k ≡ n)
at_end k n true is below = inl (grind (arith, nat_tests))
at_end k n false is below = inr (grind (arith, nat_tests))

pub still_named : (modules more : List Module) (planned : List ModulePlan) (p : ModulePlan) → AreNamed modules planned → HasAdded modules (get_or planned (length modules) p).name more → length modules < length planned → AreNamed more planned
still_named modules more planned p named added inside =
    subst (λ (xs : List Module). AreNamed xs planned) (sym added.behind)
    (λ k m q below. named_at modules added.last planned p k m q named added.named inside (at_end k (length modules) (nat_lt k (length modules)) refl (subst (λ (n : ℕ). k < n) (length-append modules (added.last ∷ [])) below)))

pub one_longer : (modules more : List Module) (name : List ℕ) → HasAdded modules name more → length more ≡ length modules + 1
one_longer modules more name added = ap length added.behind ∙ length-append modules (added.last ∷ [])
