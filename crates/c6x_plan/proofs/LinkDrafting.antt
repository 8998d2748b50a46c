use Rattle.std.proofs.Common.{◌≡◌, ℕ, Bool, true, false, List, ◌++◌, ◌∷◌, [], refl, sym, ◌∙◌, ap}
use Rattle.std.specs.Prelude.{Option, None, Some, Result, Ok, Err, codes}
use Rattle.std.specs.List.{list_any}
use Rattle.std.specs.Str.{bytes_eq}
use Rattle.c6x_spec.specs.Results.{◌>>=◌}
use Rattle.c6x_plan.specs.declared.link_draft.LinkDraft.{LinkDraft}
use Rattle.c6x_plan.specs.declared.link_line.LinkLine.{LinkLine}
use Rattle.c6x_plan.specs.declared.link_line.LinkLine.TheVariants.{Output, Index, Table, Entry, Soname, Needed, Object}
use Rattle.c6x_plan.specs.declared.link_plan.LinkPlan.{LinkPlan}
use Rattle.c6x_plan.specs.declared.limits.TheConstants.{MOST_NEEDED}
use Rattle.c6x_plan.specs.declared.plan_error.PlanError.{PlanError}
use Rattle.c6x_plan.specs.declared.plan_error.PlanError.TheVariants.{Syntax, Name, Count, NoMemory}
use Rattle.c6x_plan.specs.PlanRules.{Broken, Name as NameRule, broken_at}
use Rattle.c6x_plan.specs.Lines.{Said, said_lines}
use Rattle.c6x_plan.specs.LinkDrafts.{draft_rule, draft_with, finished, link_draft_of}
use Rattle.c6x_plan.specs.LinkPlans.{again, entry_in, index_in, link_line, link_plan, link_plan_of, link_rule, needed_in, object_in, output_in, soname_in, table_in, with_object}
use Rattle.c6x_plan.specs.Rules.{AddsWithin, Drafts, Reads, ReadsBy, behind_first, drafted, drafted_by, first_given, meanings, ruled}
use Rattle.c6x_plan.specs.TextLines.{lines_left}
use Rattle.c6x_plan.proofs.Drafting.{drafted_meant, given_first, given_kept, listed_kept, listed_more, not_said, same_line, stops}

abbrev draft : Option Bool → Option ℕ → Option ℕ → Option (List ℕ) → Option (List ℕ) → List (List ℕ) → List (List ℕ) → LinkDraft
draft output index table entry soname needed objects = record { output = output; index = index; table = table; entry = entry; soname = soname; needed = needed; objects = objects }

-- a needed name that was said
pub needed_again : (draft : LinkDraft) (name : List ℕ) (line : ℕ) → list_any (λ other. bytes_eq other name) draft.needed ≡ true → drafted_by draft_with draft (ruled line (Some (Needed name)) (draft_rule draft (Needed name))) ≡ Err (broken_at line NameRule)
unfolding draft_rule
needed_again draft name line is = rw is refl

-- and one that was not
pub needed_added : {A : Type 0} (result : Result A PlanError) (draft : LinkDraft) (after : List (List ℕ)) (name : List ℕ) (line : ℕ) → list_any (λ other. bytes_eq other name) draft.needed ≡ false → AddsWithin result draft.needed after name MOST_NEEDED line → Drafts result (record draft { needed = after }) (drafted_by draft_with draft (ruled line (Some (Needed name)) (draft_rule draft (Needed name))))
unfolding draft_rule draft_with
needed_added (Ok done) draft after name line new is = rw (new, is.0, is.1) refl
needed_added (Err NoMemory) draft after name line new is = tt
needed_added (Err (Syntax n)) draft after name line new is = absurd (cc is.1)
needed_added (Err (Name n)) draft after name line new is = absurd (cc is.1)
needed_added (Err (Count n)) draft after name line new is = rw (new, is.0, same_line n line is.1) refl

not_again : {X : Type 0} (given : LinkLine → Option X) (earlier : List LinkLine) → again given earlier ≡ None → first_given given earlier ≡ None
not_again given earlier none = not_said (first_given given earlier) none

-- a draft by its parts
draft_is : (o p : Option Bool) (i j t u : Option ℕ) (e f s v : Option (List ℕ)) (n m b d : List (List ℕ)) → o ≡ p → i ≡ j → t ≡ u → e ≡ f → s ≡ v → n ≡ m → b ≡ d → draft o i t e s n b ≡ draft p j u f v m d
draft_is o p i j t u e f s v n m b d first second third fourth fifth sixth seventh = cc

-- the rule by the draft is the rule by the lines
rule_same : (earlier : List LinkLine) (line : LinkLine) → draft_rule (link_draft_of earlier) line ≡ link_rule earlier line
unfolding draft_rule link_rule
rule_same earlier (Output library) = refl
rule_same earlier (Index index) = refl
rule_same earlier (Table slots) = refl
rule_same earlier (Entry name) = refl
rule_same earlier (Soname name) = refl
rule_same earlier (Needed name) = refl
rule_same earlier (Object file) = refl

-- and the draft with a line more is that of the lines with it
line_more : (earlier : List LinkLine) (line : LinkLine) → link_rule earlier line ≡ None → draft_with (link_draft_of earlier) line ≡ link_draft_of (earlier ++ line ∷ [])
unfolding draft_with link_rule
line_more earlier (Output library) none =
    let m = Output library in
    draft_is _ _ _ _ _ _ _ _ _ _ _ _ _ _ (sym (given_first output_in earlier m library (not_again output_in earlier none) refl)) (sym (given_kept index_in earlier m refl)) (sym (given_kept table_in earlier m refl)) (sym (given_kept entry_in earlier m refl)) (sym (given_kept soname_in earlier m refl)) (sym (listed_kept needed_in earlier m refl)) (sym (listed_kept object_in earlier m refl))
line_more earlier (Index index) none =
    let m = Index index in
    draft_is _ _ _ _ _ _ _ _ _ _ _ _ _ _ (sym (given_kept output_in earlier m refl)) (sym (given_first index_in earlier m index (not_again index_in earlier none) refl)) (sym (given_kept table_in earlier m refl)) (sym (given_kept entry_in earlier m refl)) (sym (given_kept soname_in earlier m refl)) (sym (listed_kept needed_in earlier m refl)) (sym (listed_kept object_in earlier m refl))
line_more earlier (Table slots) none =
    let m = Table slots in
    draft_is _ _ _ _ _ _ _ _ _ _ _ _ _ _ (sym (given_kept output_in earlier m refl)) (sym (given_kept index_in earlier m refl)) (sym (given_first table_in earlier m slots (not_again table_in earlier none) refl)) (sym (given_kept entry_in earlier m refl)) (sym (given_kept soname_in earlier m refl)) (sym (listed_kept needed_in earlier m refl)) (sym (listed_kept object_in earlier m refl))
line_more earlier (Entry name) none =
    let m = Entry name in
    draft_is _ _ _ _ _ _ _ _ _ _ _ _ _ _ (sym (given_kept output_in earlier m refl)) (sym (given_kept index_in earlier m refl)) (sym (given_kept table_in earlier m refl)) (sym (given_first entry_in earlier m name (not_again entry_in earlier none) refl)) (sym (given_kept soname_in earlier m refl)) (sym (listed_kept needed_in earlier m refl)) (sym (listed_kept object_in earlier m refl))
line_more earlier (Soname name) none =
    let m = Soname name in
    draft_is _ _ _ _ _ _ _ _ _ _ _ _ _ _ (sym (given_kept output_in earlier m refl)) (sym (given_kept index_in earlier m refl)) (sym (given_kept table_in earlier m refl)) (sym (given_kept entry_in earlier m refl)) (sym (given_first soname_in earlier m name (not_again soname_in earlier none) refl)) (sym (listed_kept needed_in earlier m refl)) (sym (listed_kept object_in earlier m refl))
line_more earlier (Needed name) none =
    let m = Needed name in
    draft_is _ _ _ _ _ _ _ _ _ _ _ _ _ _ (sym (given_kept output_in earlier m refl)) (sym (given_kept index_in earlier m refl)) (sym (given_kept table_in earlier m refl)) (sym (given_kept entry_in earlier m refl)) (sym (given_kept soname_in earlier m refl)) (sym (listed_more needed_in earlier m name refl)) (sym (listed_kept object_in earlier m refl))
line_more earlier (Object file) none =
    let m = Object file in
    draft_is _ _ _ _ _ _ _ _ _ _ _ _ _ _ (sym (given_kept output_in earlier m refl)) (sym (given_kept index_in earlier m refl)) (sym (given_kept table_in earlier m refl)) (sym (given_kept entry_in earlier m refl)) (sym (given_kept soname_in earlier m refl)) (sym (listed_kept needed_in earlier m refl)) (sym (listed_more object_in earlier m file refl))

-- so what the reader finishes is the plan of the text
finish_meant : (meant : Result (List LinkLine) Broken) → ((meant >>= λ lines. Ok (link_draft_of lines)) >>= finished) ≡ (meant >>= λ lines. with_object (link_plan_of lines))
unfolding finished link_plan_of
finish_meant (Ok lines) = refl
finish_meant (Err broken) = refl

pub link_plan_is : (text : List ℕ) (lines : List Said) → behind_first (codes "c6x-link") (said_lines 0 text) ≡ Ok lines → link_plan text ≡ (drafted link_line draft_rule draft_with (link_draft_of []) lines >>= finished)
unfolding link_plan
link_plan_is text lines is =
    rw is (sym (ap (λ (told : Result LinkDraft Broken). told >>= finished) (drafted_meant link_line draft_rule draft_with link_rule link_draft_of rule_same line_more lines [])
    ∙ finish_meant (meanings link_line link_rule [] lines)))

-- a text whose first line is refused, one with a line that breaks a rule, and one that is read
pub first_refused : (text : List ℕ) (broken : PlanError) → ReadsBy lines_left (Err broken) (behind_first (codes "c6x-link") (said_lines 0 text)) → Reads (Err broken) (link_plan text)
unfolding link_plan
first_refused text broken is = stops lines_left broken (behind_first (codes "c6x-link") (said_lines 0 text)) _ is

pub line_refused : (text : List ℕ) (lines : List Said) (broken : PlanError) → behind_first (codes "c6x-link") (said_lines 0 text) ≡ Ok lines → Reads {A = LinkDraft} (Err broken) (drafted link_line draft_rule draft_with (link_draft_of []) lines) → Reads (Err broken) (link_plan text)
line_refused text lines broken behind is =
    rw (link_plan_is text lines behind) (stops {A = LinkDraft} (λ draft. draft) broken (drafted link_line draft_rule draft_with (link_draft_of []) lines) finished is)

pub text_read : (text : List ℕ) (lines : List Said) (draft : LinkDraft) (result : Result LinkPlan PlanError) → behind_first (codes "c6x-link") (said_lines 0 text) ≡ Ok lines → drafted link_line draft_rule draft_with (link_draft_of []) lines ≡ Ok draft → Reads result (finished draft) → Reads result (link_plan text)
text_read text lines draft result behind all is = rw (link_plan_is text lines behind, all) is
