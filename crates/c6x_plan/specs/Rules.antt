-- What the lines of a plan's text mean, one after the other, up to the first that breaks a rule.
use Rattle.std.specs.Prelude.{◌≡◌, ℕ, Bool, true, false, nat_le, is_some, length, ◌&&◌, if◌then◌else◌, codes, List, [], ◌∷◌, ◌++◌, Option, None, Some, Result, Ok, Err}
use Rattle.std.specs.Str.{bytes_eq}
use Rattle.c6x_spec.specs.Results.{◌>>=◌}
use Rattle.c6x_plan.specs.declared.plan_error.PlanError.{PlanError}
use Rattle.c6x_plan.specs.declared.plan_error.PlanError.TheVariants.{Syntax as SyntaxAt, Name as NameAt, Count as CountAt, NoMemory}
use Rattle.c6x_plan.specs.PlanRules.{Broken, PlanRule, Syntax, Name, Count, broken_at}
use Rattle.c6x_plan.specs.Lines.{Said}

-- The first line of a text: the format's name and version 1.
abbrev pub is_first : List ℕ → List (List ℕ) → Bool
is_first format (name ∷ version ∷ []) = bytes_eq name format && bytes_eq version (codes "1")
is_first format _ = false

-- The lines behind the first, which names the format. A text without a first line is refused at line 0.
unfoldable pub behind_first : List ℕ → List Said → Result (List Said) Broken
behind_first format [] = Err (broken_at 0 Syntax)
behind_first format (first ∷ lines) = if is_first format first.words then Ok lines else Err (broken_at first.line Syntax)

-- What a line means behind lines that mean these, or the rule that it breaks there: Syntax where it has no form.
abbrev pub ruled : {L : Type 0} → ℕ → Option L → Option PlanRule → Result L Broken
ruled number None rule = Err (broken_at number Syntax)
ruled number (Some meaning) None = Ok meaning
ruled number (Some meaning) (Some rule) = Err (broken_at number rule)

abbrev pub rule_of : {L : Type 0} → (L → Option PlanRule) → Option L → Option PlanRule
rule_of rule None = None
rule_of rule (Some meaning) = rule meaning

-- What lines mean, the earlier ones first, or the first rule that one breaks. `form` says what a line's words mean, and
-- `rule` which rule a line breaks behind earlier ones.
abbrev pub meanings : {L : Type 0} → (List (List ℕ) → Option L) → (List L → L → Option PlanRule) → List L → List Said → Result (List L) Broken
meanings form rule earlier [] = Ok earlier
meanings form rule earlier (line ∷ lines) =
    ruled line.line (form line.words) (rule_of (rule earlier) (form line.words)) >>= λ meaning. meanings form rule (earlier ++ meaning ∷ []) lines

abbrev pub or_later : {X : Type 0} → Option X → Option X → Option X
or_later None later = later
or_later (Some value) later = Some value

-- The first value that some lines give.
abbrev pub first_given : {L X : Type 0} → (L → Option X) → List L → Option X
first_given given [] = None
first_given given (line ∷ lines) = or_later (given line) (first_given given lines)

-- What may be said once breaks a rule where it was said.
abbrev pub once : {X : Type 0} → Option X → Option PlanRule
once slot = if is_some slot then Some Syntax else None

-- An answer, seen by `view`, is what the text says, or its first broken rule. Want of memory is free.
abbrev pub ReadsBy : {A B : Type 0} → (A → B) → Result A PlanError → Result B Broken → Type 0
ReadsBy view (Ok plan) told = told ≡ Ok (view plan)
ReadsBy view (Err NoMemory) told = Unit {0}
ReadsBy view (Err (SyntaxAt line)) told = told ≡ Err (broken_at line Syntax)
ReadsBy view (Err (NameAt line)) told = told ≡ Err (broken_at line Name)
ReadsBy view (Err (CountAt line)) told = told ≡ Err (broken_at line Count)

abbrev pub Reads : {A : Type 0} → Result A PlanError → Result A Broken → Type 0
Reads result told = ReadsBy (λ plan. plan) result told

-- What is kept of lines so far, with one more line, or the rule that it breaks: `rule` and `with` say both.
abbrev pub drafted_by : {D L : Type 0} → (D → L → D) → D → Result L Broken → Result D Broken
drafted_by with draft (Ok meaning) = Ok (with draft meaning)
drafted_by with draft (Err broken) = Err broken

abbrev pub line_drafted : {D L : Type 0} → (List (List ℕ) → Option L) → (D → L → Option PlanRule) → (D → L → D) → D → Said → Result D Broken
line_drafted form rule with draft line =
    drafted_by with draft (ruled line.line (form line.words) (rule_of (rule draft) (form line.words)))

-- The same of more lines, one after the other.
abbrev pub drafted : {D L : Type 0} → (List (List ℕ) → Option L) → (D → L → Option PlanRule) → (D → L → D) → D → List Said → Result D Broken
drafted form rule with draft [] = Ok draft
drafted form rule with draft (line ∷ lines) = line_drafted form rule with draft line >>= λ more. drafted form rule with more lines

-- A call that changes what is kept: it is then what is told, or the call answers the rule that is broken.
abbrev pub Drafts : {D A : Type 0} → Result A PlanError → D → Result D Broken → Type 0
Drafts (Ok done) draft told = told ≡ Ok draft
Drafts (Err NoMemory) draft told = Unit {0}
Drafts (Err (SyntaxAt line)) draft told = told ≡ Err (broken_at line Syntax)
Drafts (Err (NameAt line)) draft told = told ≡ Err (broken_at line Name)
Drafts (Err (CountAt line)) draft told = told ≡ Err (broken_at line Count)

-- A slot is set where nothing was in it; else the line says again what was said.
abbrev pub SetsOnce : {A X : Type 0} → Result A PlanError → Option X → Option X → X → ℕ → Type 0
SetsOnce (Ok done) before after value line = (before ≡ None) × (after ≡ Some value)
SetsOnce (Err broken) before after value line = (is_some before ≡ true) × (broken ≡ SyntaxAt line)

-- An item is added to fewer than the most that there may be; else the line passes the count.
abbrev pub AddsWithin : {A X : Type 0} → Result A PlanError → List X → List X → X → ℕ → ℕ → Type 0
AddsWithin (Ok done) before after item most line = (nat_le most (length before) ≡ false) × (after ≡ before ++ item ∷ [])
AddsWithin (Err NoMemory) before after item most line = Unit {0}
AddsWithin (Err broken) before after item most line = (nat_le most (length before) ≡ true) × (broken ≡ CountAt line)
