-- The plan of a run that is read is within its limits.
use Rattle.std.proofs.Common.{◌≡◌, ℕ, ◌≤◌, ◌==◌, Bool, true, false, List, [], length, refl, sym, ◌∙◌, subst, arith}
use Rattle.std.proofs.Common.{if◌then◌else◌}
use Rattle.std.specs.Prelude.{Result, Ok, Err, codes}
use Rattle.std.proofs.lemmas.Bool.Decides.{nat_tests}
use Rattle.c6x_spec.specs.Files.{Files}
use Rattle.c6x_spec.specs.Results.{◌>>=◌}
use Rattle.c6x_plan.specs.Limits.{IsRunPlan}
use Rattle.c6x_plan.specs.Lines.{Said, said_lines}
use Rattle.c6x_plan.specs.PlanRules.{Broken, Count as CountRule, broken_at}
use Rattle.c6x_plan.specs.Rules.{behind_first, drafted}
use Rattle.c6x_plan.specs.RunDrafts.{draft_rule, draft_with, finished, plan_drafted, run_draft_of}
use Rattle.c6x_plan.specs.RunLines.{run_line}
use Rattle.c6x_plan.specs.RunPlans.{run_plan, with_process}
use Rattle.c6x_plan.specs.declared.run_draft.RunDraft.{RunDraft}
use Rattle.c6x_plan.specs.declared.run_plan.RunPlan.{RunPlan}
use Rattle.c6x_plan.proofs.RunDrafting.{run_plan_is}
use Rattle.c6x_plan.proofs.RunWithin.{draft_within}
use Rattle.c6x_cli_steps.specs.Plans.{or_bad_plan, run_plan_steps}
use Rattle.c6x_cli_steps.specs.Lines.{whole_file}
use Rattle.c6x_cli_steps.specs.Steps.{own}
use Rattle.c6x_cli.proofs.Came.{came}

-- a plan has a process
kept_plan : (made plan : RunPlan) → with_process made ≡ Ok plan → (made ≡ plan) × (1 ≤ length made.processes)
kept_plan made plan is = by (length made.processes == 0) refl is
  where
    by :
        (t : Bool)
        → (length made.processes == 0) ≡ t
        → (if t then Err (broken_at 0 CountRule) else Ok made) ≡ Ok plan
        → (made ≡ plan) × (1 ≤ length made.processes)
    by true here e = absurd (cc e)
    by false here e = (cc e, grind (arith, nat_tests))

draft_finished :
    (lines : List Said) (draft : RunDraft) (plan : RunPlan)
    → drafted run_line draft_rule draft_with (run_draft_of []) lines ≡ Ok draft
    → finished draft ≡ Ok plan
    → IsRunPlan plan
unfolding finished
draft_finished lines draft plan all is =
    let kept = kept_plan (plan_drafted draft) plan is in
    subst IsRunPlan kept.0 (draft_within lines draft all kept.1)

lines_within :
    (lines : List Said) (plan : RunPlan) (r : Result RunDraft Broken)
    → drafted run_line draft_rule draft_with (run_draft_of []) lines ≡ r
    → (r >>= finished) ≡ Ok plan
    → IsRunPlan plan
lines_within lines plan (Ok draft) all is = draft_finished lines draft plan all is
lines_within lines plan (Err broken) all is = absurd (cc is)

no_lines :
    (text : List ℕ) (broken : Broken) (plan : RunPlan)
    → behind_first (codes "c6x-plan") (said_lines 0 text) ≡ Err broken
    → run_plan text ≡ Ok plan
    → IsRunPlan plan
unfolding run_plan
no_lines text broken plan here is = let e = rw here at is in absurd (cc e)

plan_within : (text : List ℕ) (plan : RunPlan) → run_plan text ≡ Ok plan → IsRunPlan plan
plan_within text plan is = by (behind_first (codes "c6x-plan") (said_lines 0 text)) refl
  where
    by : (r : Result (List Said) Broken) → behind_first (codes "c6x-plan") (said_lines 0 text) ≡ r → IsRunPlan plan
    by (Ok lines) here =
        lines_within lines plan (drafted run_line draft_rule draft_with (run_draft_of []) lines) refl
        (sym (run_plan_is text lines here) ∙ is)
    by (Err broken) here = no_lines text broken plan here is

plan_read : (name : List ℕ) (r : Result RunPlan Broken) (plan : RunPlan) → or_bad_plan name r ≡ Ok plan → r ≡ Ok plan
plan_read name (Ok x) plan is = cc is
plan_read name (Err x) plan is = absurd (cc is)

pub steps_within :
    (files : Files) (name : List ℕ) (plan : RunPlan)
    → (run_plan_steps files name).result ≡ Ok plan
    → IsRunPlan plan
unfolding run_plan_steps
steps_within files name plan is =
    let c = came (whole_file files name) (λ text. own (or_bad_plan name (run_plan text))) plan is in
    plan_within c.middle plan (plan_read name (run_plan c.middle) plan c.next_is)
