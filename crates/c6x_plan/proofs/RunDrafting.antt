use Rattle.std.proofs.Common.{◌≡◌, ℕ, ◌≤◌, Bool, true, false, List, ◌++◌, ◌∷◌, [], length, refl, sym, ◌∙◌, ap, lit≤, arith, length-append}
use Rattle.std.specs.Prelude.{Option, None, Some, Result, Ok, Err, codes, not, ◌||◌, nat_le}
use Rattle.std.proofs.lemmas.Bool.Decides.{nat_tests}
use Rattle.c6x_spec.specs.Results.{◌>>=◌}
use Rattle.c6x_plan.specs.declared.limits.TheConstants.{MOST_MODULES, MOST_PROCESSES}
use Rattle.c6x_plan.specs.declared.module_plan.ModulePlan.{ModulePlan}
use Rattle.c6x_plan.specs.declared.plan_error.PlanError.{PlanError}
use Rattle.c6x_plan.specs.declared.plan_error.PlanError.TheVariants.{Syntax, Name, Count, NoMemory}
use Rattle.c6x_plan.specs.declared.run_draft.RunDraft.{RunDraft}
use Rattle.c6x_plan.specs.declared.run_line.ProcessLine.{ProcessLine}
use Rattle.c6x_plan.specs.declared.run_line.RunLine.{RunLine}
use Rattle.c6x_plan.specs.declared.run_line.RunLine.TheVariants.{Quantum, Module, Process}
use Rattle.c6x_plan.specs.declared.run_plan.RunPlan.{RunPlan}
use Rattle.c6x_plan.specs.PlanRules.{Broken, Name as NameRule, broken_at}
use Rattle.c6x_plan.specs.Lines.{Said, said_lines}
use Rattle.c6x_plan.specs.RunDrafts.{draft_rule, draft_with, finished, run_draft_of}
use Rattle.c6x_plan.specs.RunLines.{has_module, has_process, module_in, name_or_count, process_in, quantum_in, run_line, run_rule}
use Rattle.c6x_plan.specs.RunPlans.{run_plan, run_plan_of, with_process}
use Rattle.c6x_plan.specs.Rules.{AddsWithin, Drafts, Reads, ReadsBy, behind_first, drafted, drafted_by, first_given, meanings, ruled}
use Rattle.c6x_plan.specs.TextLines.{lines_left}
use Rattle.c6x_plan.proofs.Drafting.{drafted_keeps, drafted_meant, given_first, given_kept, listed_kept, listed_more, not_said, same_line, stops}

-- a module whose name was given, and one whose name was not
pub module_again : (draft : RunDraft) (image : ModulePlan) (line : ℕ) → has_module draft.modules image.name ≡ true → drafted_by draft_with draft (ruled line (Some (Module image)) (draft_rule draft (Module image))) ≡ Err (broken_at line NameRule)
unfolding draft_rule
module_again draft image line is = rw is refl

pub module_added : {A : Type 0} (result : Result A PlanError) (draft : RunDraft) (after : List ModulePlan) (image : ModulePlan) (line : ℕ) → has_module draft.modules image.name ≡ false → AddsWithin result draft.modules after image MOST_MODULES line → Drafts result (record draft { modules = after }) (drafted_by draft_with draft (ruled line (Some (Module image)) (draft_rule draft (Module image))))
unfolding draft_rule draft_with
module_added (Ok done) draft after image line new is = rw (new, is.0, is.1) refl
module_added (Err NoMemory) draft after image line new is = tt
module_added (Err (Syntax n)) draft after image line new is = absurd (cc is.1)
module_added (Err (Name n)) draft after image line new is = absurd (cc is.1)
module_added (Err (Count n)) draft after image line new is = rw (new, is.0, same_line n line is.1) refl

-- the same of a process
is_refused : (named : Bool) → not named ≡ false → named ≡ true
is_refused true is = refl
is_refused false is = absurd (cc)

is_allowed : (named : Bool) → not named ≡ true → named ≡ false
is_allowed true is = absurd (cc)
is_allowed false is = refl

abbrev pub is_named : RunDraft → ProcessLine → Bool
is_named draft process = not (has_module draft.modules process.image) || has_process draft.processes process.name

pub process_again : (draft : RunDraft) (process : ProcessLine) (line : ℕ) → not (is_named draft process) ≡ false → drafted_by draft_with draft (ruled line (Some (Process process)) (draft_rule draft (Process process))) ≡ Err (broken_at line NameRule)
unfolding draft_rule
process_again draft process line is = rw (is_refused (is_named draft process) is) refl

pub process_added : {A : Type 0} (result : Result A PlanError) (draft : RunDraft) (after : List ProcessLine) (process : ProcessLine) (line : ℕ) → not (is_named draft process) ≡ true → AddsWithin result draft.processes after process MOST_PROCESSES line → Drafts result (record draft { processes = after }) (drafted_by draft_with draft (ruled line (Some (Process process)) (draft_rule draft (Process process))))
unfolding draft_rule draft_with
process_added (Ok done) draft after process line new is = rw (is_allowed (is_named draft process) new, is.0, is.1) refl
process_added (Err NoMemory) draft after process line new is = tt
process_added (Err (Syntax n)) draft after process line new is = absurd (cc is.1)
process_added (Err (Name n)) draft after process line new is = absurd (cc is.1)
process_added (Err (Count n)) draft after process line new is = rw (is_allowed (is_named draft process) new, is.0, same_line n line is.1) refl

abbrev draft : Option ℕ → List ModulePlan → List ProcessLine → RunDraft
draft quantum modules processes = record { quantum = quantum; modules = modules; processes = processes }

-- a draft by its parts
draft_is : (q r : Option ℕ) (m n : List ModulePlan) (p s : List ProcessLine) → q ≡ r → m ≡ n → p ≡ s → draft q m p ≡ draft r n s
draft_is q r m n p s first second third = cc

-- the rule by the draft is the rule by the lines
rule_same : (earlier : List RunLine) (line : RunLine) → draft_rule (run_draft_of earlier) line ≡ run_rule earlier line
unfolding draft_rule run_rule
rule_same earlier (Quantum quantum) = refl
rule_same earlier (Module image) = refl
rule_same earlier (Process process) = refl

-- and the draft with a line more is that of the lines with it
line_more : (earlier : List RunLine) (line : RunLine) → run_rule earlier line ≡ None → draft_with (run_draft_of earlier) line ≡ run_draft_of (earlier ++ line ∷ [])
unfolding draft_with run_rule
line_more earlier (Quantum quantum) none =
    let m = Quantum quantum in
    draft_is _ _ _ _ _ _ (sym (given_first quantum_in earlier m quantum (not_said (first_given quantum_in earlier) none) refl)) (sym (listed_kept module_in earlier m refl)) (sym (listed_kept process_in earlier m refl))
line_more earlier (Module image) none =
    let m = Module image in
    draft_is _ _ _ _ _ _ (sym (given_kept quantum_in earlier m refl)) (sym (listed_more module_in earlier m image refl)) (sym (listed_kept process_in earlier m refl))
line_more earlier (Process process) none =
    let m = Process process in
    draft_is _ _ _ _ _ _ (sym (given_kept quantum_in earlier m refl)) (sym (listed_kept module_in earlier m refl)) (sym (listed_more process_in earlier m process refl))

-- so what the reader finishes is the plan of the text
finish_meant : (meant : Result (List RunLine) Broken) → ((meant >>= λ lines. Ok (run_draft_of lines)) >>= finished) ≡ (meant >>= λ lines. with_process (run_plan_of lines))
unfolding finished run_plan_of
finish_meant (Ok lines) = refl
finish_meant (Err broken) = refl

pub run_plan_is : (text : List ℕ) (lines : List Said) → behind_first (codes "c6x-plan") (said_lines 0 text) ≡ Ok lines → run_plan text ≡ (drafted run_line draft_rule draft_with (run_draft_of []) lines >>= finished)
unfolding run_plan
run_plan_is text lines is =
    rw is (sym (ap (λ (told : Result RunDraft Broken). told >>= finished) (drafted_meant run_line draft_rule draft_with run_rule run_draft_of rule_same line_more lines [])
    ∙ finish_meant (meanings run_line run_rule [] lines)))

-- a text whose first line is refused, one with a line that breaks a rule, and one that is read
pub first_refused : (text : List ℕ) (broken : PlanError) → ReadsBy lines_left (Err broken) (behind_first (codes "c6x-plan") (said_lines 0 text)) → Reads (Err broken) (run_plan text)
unfolding run_plan
first_refused text broken is = stops lines_left broken (behind_first (codes "c6x-plan") (said_lines 0 text)) _ is

pub line_refused : (text : List ℕ) (lines : List Said) (broken : PlanError) → behind_first (codes "c6x-plan") (said_lines 0 text) ≡ Ok lines → Reads {A = RunDraft} (Err broken) (drafted run_line draft_rule draft_with (run_draft_of []) lines) → Reads (Err broken) (run_plan text)
line_refused text lines broken behind is =
    rw (run_plan_is text lines behind) (stops {A = RunDraft} (λ draft. draft) broken (drafted run_line draft_rule draft_with (run_draft_of []) lines) finished is)

pub text_read : (text : List ℕ) (lines : List Said) (draft : RunDraft) (result : Result RunPlan PlanError) → behind_first (codes "c6x-plan") (said_lines 0 text) ≡ Ok lines → drafted run_line draft_rule draft_with (run_draft_of []) lines ≡ Ok draft → Reads result (finished draft) → Reads result (run_plan text)
text_read text lines draft result behind all is = rw (run_plan_is text lines behind, all) is

-- no draft has more modules than there may be
count_none : (named full : Bool) → name_or_count named full ≡ None → full ≡ false
count_none true full none = absurd (cc)
count_none false true none = absurd (cc)
count_none false false none = refl

one_more : (modules : List ModulePlan) (image : ModulePlan) → nat_le MOST_MODULES (length modules) ≡ false → length (modules ++ image ∷ []) ≤ 32
one_more modules image below = let size = length-append modules (image ∷ []) in grind (arith, nat_tests)

with_few : (draft : RunDraft) (m : RunLine) → draft_rule draft m ≡ None → length draft.modules ≤ 32 → length (draft_with draft m).modules ≤ 32
unfolding draft_rule draft_with
with_few draft (Quantum quantum) none few = few
with_few draft (Module image) none few = one_more draft.modules image (count_none _ _ none)
with_few draft (Process process) none few = few

abbrev IsFew : RunDraft → Type 0
IsFew draft = length draft.modules ≤ 32

pub few_modules : (lines : List Said) (end : RunDraft) → drafted run_line draft_rule draft_with (run_draft_of []) lines ≡ Ok end → length end.modules ≤ 32
few_modules lines end all = drafted_keeps run_line draft_rule draft_with IsFew (λ d words m meant is few. with_few d m is few) lines (run_draft_of []) end all (lit≤ tt)
