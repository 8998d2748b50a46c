use Rattle.std.proofs.Common.{◌≡◌, ℕ, List, [], ◌∷◌, ◌++◌, refl, subst, ◌∙◌, ap}
use Rattle.std.specs.Prelude.{Option, None, Some, Result, Ok, Err}
use Rattle.std.specs.List.{filter_map, cons_option}
use Rattle.c6x_spec.specs.Results.{◌>>=◌}
use Rattle.c6x_plan.specs.declared.plan_error.PlanError.{PlanError}
use Rattle.c6x_plan.specs.declared.plan_error.PlanError.TheVariants.{Syntax, Name, Count, NoMemory}
use Rattle.c6x_plan.specs.PlanRules.{Broken, PlanRule}
use Rattle.c6x_plan.specs.Lines.{Said}
use Rattle.c6x_plan.specs.Rules.{once, Drafts, Reads, ReadsBy, drafted, drafted_by, first_given, line_drafted, meanings, or_later, rule_of, ruled}

-- a line that was taken leads to what the others come to
pub line_taken : {D L : Type 0} (form : List (List ℕ) → Option L) (rule : D → L → Option PlanRule) (with : D → L → D) (draft more : D) (line : Said) (lines : List Said) → line_drafted form rule with draft line ≡ Ok more → drafted form rule with draft (line ∷ lines) ≡ drafted form rule with more lines
line_taken form rule with draft more line lines is = rw is refl

-- a line that breaks a rule is what all come to
pub line_broken : {D L : Type 0} (A : Type 0) (form : List (List ℕ) → Option L) (rule : D → L → Option PlanRule) (with : D → L → D) (draft more : D) (line : Said) (lines : List Said) (broken : PlanError) → Drafts {A = A} (Err broken) more (line_drafted form rule with draft line) → Reads {A = D} (Err broken) (drafted form rule with draft (line ∷ lines))
line_broken A form rule with draft more line lines NoMemory is = tt
line_broken A form rule with draft more line lines (Syntax n) is = rw is refl
line_broken A form rule with draft more line lines (Name n) is = rw is refl
line_broken A form rule with draft more line lines (Count n) is = rw is refl

-- what is broken first stops all that would follow
pub stops : {A B C : Type 0} (view : A → B) (broken : PlanError) (told : Result B Broken) (next : B → Result C Broken) → ReadsBy view (Err broken) told → Reads {A = C} (Err broken) (told >>= next)
stops view NoMemory told next is = tt
stops view (Syntax n) told next is = rw is refl
stops view (Name n) told next is = rw is refl
stops view (Count n) told next is = rw is refl

-- the reader's draft of lines is that of their meanings: `same` says that both rules are one, `more` that a line more is added
rule_step : {D L : Type 0} (form : List (List ℕ) → Option L) (rule : D → L → Option PlanRule) (with : D → L → D) (listed : List L → L → Option PlanRule) (of : List L → D) (more : (earlier : List L) (m : L) → listed earlier m ≡ None → with (of earlier) m ≡ of (earlier ++ m ∷ [])) (lines : List Said) (later : (earlier : List L) → drafted form rule with (of earlier) lines ≡ (meanings form listed earlier lines >>= λ meant. Ok (of meant))) (earlier : List L) (number : ℕ) (m : L) (broken : Option PlanRule) → listed earlier m ≡ broken →
    (drafted_by with (of earlier) (ruled number (Some m) broken) >>= λ draft. drafted form rule with draft lines)
    ≡ ((ruled number (Some m) broken >>= λ meaning. meanings form listed (earlier ++ meaning ∷ []) lines) >>= λ meant. Ok (of meant))
rule_step form rule with listed of more lines later earlier number m None is = rw (more earlier m is) (later (earlier ++ m ∷ []))
rule_step form rule with listed of more lines later earlier number m (Some broken) is = refl

form_step : {D L : Type 0} (form : List (List ℕ) → Option L) (rule : D → L → Option PlanRule) (with : D → L → D) (listed : List L → L → Option PlanRule) (of : List L → D) (same : (earlier : List L) (m : L) → rule (of earlier) m ≡ listed earlier m) (more : (earlier : List L) (m : L) → listed earlier m ≡ None → with (of earlier) m ≡ of (earlier ++ m ∷ [])) (lines : List Said) (later : (earlier : List L) → drafted form rule with (of earlier) lines ≡ (meanings form listed earlier lines >>= λ meant. Ok (of meant))) (earlier : List L) (number : ℕ) (found : Option L) →
    (drafted_by with (of earlier) (ruled number found (rule_of (rule (of earlier)) found)) >>= λ draft. drafted form rule with draft lines)
    ≡ ((ruled number found (rule_of (listed earlier) found) >>= λ meaning. meanings form listed (earlier ++ meaning ∷ []) lines) >>= λ meant. Ok (of meant))
form_step form rule with listed of same more lines later earlier number None = refl
form_step form rule with listed of same more lines later earlier number (Some m) =
    rw (same earlier m) (rule_step form rule with listed of more lines later earlier number m (listed earlier m) refl)

pub drafted_meant : {D L : Type 0} (form : List (List ℕ) → Option L) (rule : D → L → Option PlanRule) (with : D → L → D) (listed : List L → L → Option PlanRule) (of : List L → D) (same : (earlier : List L) (m : L) → rule (of earlier) m ≡ listed earlier m) (more : (earlier : List L) (m : L) → listed earlier m ≡ None → with (of earlier) m ≡ of (earlier ++ m ∷ [])) (lines : List Said) (earlier : List L) → drafted form rule with (of earlier) lines ≡ (meanings form listed earlier lines >>= λ meant. Ok (of meant))
drafted_meant form rule with listed of same more [] earlier = refl
drafted_meant form rule with listed of same more (line ∷ lines) earlier =
    form_step form rule with listed of same more lines (drafted_meant form rule with listed of same more lines) earlier line.line (form line.words)

-- one line more: what it gives where nothing was given, and where it gives nothing
pub given_kept : {L X : Type 0} (given : L → Option X) (lines : List L) (line : L) → given line ≡ None → first_given given (lines ++ line ∷ []) ≡ first_given given lines
given_kept given [] line none = rw none refl
given_kept given (first ∷ lines) line none = ap (or_later (given first)) (given_kept given lines line none)

later_none : {X : Type 0} (first later : Option X) → or_later first later ≡ None → (first ≡ None) × (later ≡ None)
later_none None later none = (refl, none)
later_none (Some value) later none = absurd (cc)

pub given_first : {L X : Type 0} (given : L → Option X) (lines : List L) (line : L) (value : X) → first_given given lines ≡ None → given line ≡ Some value → first_given given (lines ++ line ∷ []) ≡ Some value
given_first given [] line value none some = rw some refl
given_first given (first ∷ lines) line value none some =
    let both = later_none (given first) (first_given given lines) none in
    rw both.0 (given_first given lines line value both.1 some)

pub listed_kept : {L X : Type 0} (given : L → Option X) (lines : List L) (line : L) → given line ≡ None → filter_map given (lines ++ line ∷ []) ≡ filter_map given lines
listed_kept given [] line none = rw none refl
listed_kept given (first ∷ lines) line none = ap (cons_option (given first)) (listed_kept given lines line none)

cons_behind : {X : Type 0} (first : Option X) (values : List X) (value : X) → cons_option first (values ++ value ∷ []) ≡ cons_option first values ++ value ∷ []
cons_behind None values value = refl
cons_behind (Some x) values value = refl

pub listed_more : {L X : Type 0} (given : L → Option X) (lines : List L) (line : L) (value : X) → given line ≡ Some value → filter_map given (lines ++ line ∷ []) ≡ filter_map given lines ++ value ∷ []
listed_more given [] line value some = rw some refl
listed_more given (first ∷ lines) line value some =
    ap (cons_option (given first)) (listed_more given lines line value some) ∙ cons_behind (given first) (filter_map given lines) value

-- what may be said once, and breaks no rule, was not said
pub not_said : {X : Type 0} (slot : Option X) → once slot ≡ None → slot ≡ None
not_said None none = refl
not_said (Some value) none = absurd (cc)

-- what holds of a draft, and of each with a line more, holds of the draft of all lines
kept_ruled : {D L : Type 0} (form : List (List ℕ) → Option L) (rule : D → L → Option PlanRule) (with : D → L → D) (P : D → Type 0) (step : (d : D) (words : List (List ℕ)) (m : L) → form words ≡ Some m → rule d m ≡ None → P d → P (with d m)) (draft end : D) (number : ℕ) (words : List (List ℕ)) (m : L) (broken : Option PlanRule) (next : D → Result D Broken) → form words ≡ Some m → rule draft m ≡ broken → P draft → ((more : D) → next more ≡ Ok end → P more → P end) → (drafted_by with draft (ruled number (Some m) broken) >>= next) ≡ Ok end → P end
kept_ruled form rule with P step draft end number words m None next meant is has later all = later (with draft m) all (step draft words m meant is has)
kept_ruled form rule with P step draft end number words m (Some broken) next meant is has later all = absurd (cc)

kept_formed : {D L : Type 0} (form : List (List ℕ) → Option L) (rule : D → L → Option PlanRule) (with : D → L → D) (P : D → Type 0) (step : (d : D) (words : List (List ℕ)) (m : L) → form words ≡ Some m → rule d m ≡ None → P d → P (with d m)) (draft end : D) (number : ℕ) (words : List (List ℕ)) (found : Option L) (next : D → Result D Broken) → form words ≡ found → P draft → ((more : D) → next more ≡ Ok end → P more → P end) → (drafted_by with draft (ruled number found (rule_of (rule draft) found)) >>= next) ≡ Ok end → P end
kept_formed form rule with P step draft end number words None next meant has later all = absurd (cc)
kept_formed form rule with P step draft end number words (Some m) next meant has later all = kept_ruled form rule with P step draft end number words m (rule draft m) next meant refl has later all

pub drafted_keeps : {D L : Type 0} (form : List (List ℕ) → Option L) (rule : D → L → Option PlanRule) (with : D → L → D) (P : D → Type 0) (step : (d : D) (words : List (List ℕ)) (m : L) → form words ≡ Some m → rule d m ≡ None → P d → P (with d m)) (lines : List Said) (draft end : D) → drafted form rule with draft lines ≡ Ok end → P draft → P end
drafted_keeps form rule with P step [] draft end all has = let same : draft ≡ end = cc in subst P same has
drafted_keeps form rule with P step (line ∷ lines) draft end all has =
    kept_formed form rule with P step draft end line.line line.words (form line.words) (λ more. drafted form rule with more lines) refl has (λ more. drafted_keeps form rule with P step lines more end) all

pub same_line : (n line : ℕ) → Count n ≡ Count line → n ≡ line
same_line n line is = cc
