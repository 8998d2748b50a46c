use Rattle.std.proofs.Common.{◌≡◌, ℕ, ◌≤◌, Bool, true, false, List, ◌++◌, ◌∷◌, [], length, refl, sym, subst, arith, lit≤, length-append}
use Rattle.std.specs.Prelude.{Option, None, Some, Result, Ok, Err, All, IfOk, IfSome, codes, nat_le, if◌then◌else◌}
use Rattle.std.specs.Option.{option_map}
use Rattle.std.specs.Str.{bytes_eq}
use Rattle.std.proofs.lemmas.Bool.Decides.{nat_tests}
use Rattle.std.proofs.lemmas.List.Elements.{All-nil, All-push}
use Rattle.c6x_plan.specs.declared.limits.TheConstants.{MOST_NEEDED, MOST_OBJECTS}
use Rattle.c6x_plan.specs.declared.link_draft.LinkDraft.{LinkDraft}
use Rattle.c6x_plan.specs.declared.link_line.LinkLine.{LinkLine}
use Rattle.c6x_plan.specs.declared.link_line.LinkLine.TheVariants.{Output, Index, Table, Entry, Soname, Needed, Object}
use Rattle.c6x_plan.specs.declared.link_plan.LinkPlan.{LinkPlan}
use Rattle.c6x_plan.specs.PlanRules.{PlanRule}
use Rattle.c6x_plan.specs.PlanRules.{Name, Count}
use Rattle.c6x_plan.specs.Limits.{IsLinkPlan, IsShortName}
use Rattle.c6x_plan.specs.Lines.{Said}
use Rattle.c6x_plan.specs.LinkDrafts.{draft_rule, draft_with, link_draft_of, plan_drafted}
use Rattle.c6x_plan.specs.LinkPlans.{any_number, keyed_line, library_of, link_line, named_line, passes}
use Rattle.c6x_plan.specs.Rules.{drafted}
use Rattle.c6x_plan.specs.Words.{is_name}
use Rattle.c6x_plan.proofs.Drafting.{drafted_keeps}

-- a draft within the limits of a link plan
record IsWithin (draft : LinkDraft) : Type 0 where
  pub needed : length draft.needed ≤ 32
  pub objects : length draft.objects ≤ 256
  pub names : All IsShortName draft.needed
  pub soname : IfSome draft.soname IsShortName
  pub entry : IfSome draft.entry IsShortName

-- the name of a line is short
abbrev HasShort : LinkLine → Type 0
HasShort (Entry name) = IsShortName name
HasShort (Soname name) = IsShortName name
HasShort (Needed name) = IsShortName name
HasShort _ = Unit {0}

either : (test : Bool) (a b : Option LinkLine) (m : LinkLine) → (a ≡ Some m → HasShort m) → (b ≡ Some m → HasShort m) → (if test then a else b) ≡ Some m → HasShort m
either true a b m first second is = first is
either false a b m first second is = second is

where_true : (test : Bool) (a : Option LinkLine) (m : LinkLine) → (test ≡ true → a ≡ Some m → HasShort m) → (if test then a else None) ≡ Some m → HasShort m
where_true true a m first is = first refl is
where_true false a m first is = absurd (cc)

this : (line m : LinkLine) → HasShort line → Some line ≡ Some m → HasShort m
this line m short is = let same : line ≡ m = cc in subst HasShort same short

no_name : {X : Type 0} (of : X → LinkLine) (o : Option X) (m : LinkLine) → ((x : X) → HasShort (of x)) → option_map of o ≡ Some m → HasShort m
no_name of None m all is = absurd (cc)
no_name of (Some x) m all is = this (of x) m (all x) is

short_name : (word : List ℕ) → is_name word ≡ true → IsShortName word
unfolding is_name
short_name word is = grind (arith, nat_tests)

named_short : (key word : List ℕ) (m : LinkLine) → IsShortName word → named_line key word ≡ Some m → HasShort m
unfolding named_line
named_short key word m short is =
    either (bytes_eq key (codes "entry")) _ _ m (this (Entry word) m short)
    (either (bytes_eq key (codes "soname")) _ _ m (this (Soname word) m short)
    (either (bytes_eq key (codes "needed")) _ _ m (this (Needed word) m short)
    (either (bytes_eq key (codes "object")) _ _ m (this (Object word) m tt) (λ none. absurd (cc))))) is

keyed_short : (key word : List ℕ) (m : LinkLine) → keyed_line key word ≡ Some m → HasShort m
unfolding keyed_line
keyed_short key word m is =
    either (bytes_eq key (codes "output")) _ _ m (no_name Output (library_of word) m (λ x. tt))
    (either (bytes_eq key (codes "index")) _ _ m (no_name Index (any_number word) m (λ x. tt))
    (either (bytes_eq key (codes "table")) _ _ m (no_name Table (any_number word) m (λ x. tt))
    (where_true (is_name word) _ m (λ name. named_short key word m (short_name word name))))) is

line_short : (words : List (List ℕ)) (m : LinkLine) → link_line words ≡ Some m → HasShort m
unfolding link_line
line_short [] m is = absurd (cc)
line_short (key ∷ []) m is = absurd (cc)
line_short (key ∷ word ∷ []) m is = keyed_short key word m is
line_short (key ∷ word ∷ more ∷ words) m is = absurd (cc)

-- a list that may have one more has no more than the most
passes_none : (most : ℕ) (names : List (List ℕ)) (name : List ℕ) → passes most names ≡ None → length (names ++ name ∷ []) ≤ most
passes_none most names name none = not_full most names name (nat_le most (length names)) refl none
  where
    not_full : (most : ℕ) (names : List (List ℕ)) (name : List ℕ) (full : Bool) → nat_le most (length names) ≡ full → (if full then Some Count else None) ≡ None → length (names ++ name ∷ []) ≤ most
    not_full most names name true is none = absurd (cc)
    not_full most names name false is none = let size = length-append names (name ∷ []) in grind (arith, nat_tests)

needed_none : (has : Bool) (rest : Option PlanRule) → (if has then Some Name else rest) ≡ None → rest ≡ None
needed_none true rest none = absurd (cc)
needed_none false rest none = none

by_line : (d : LinkDraft) (m : LinkLine) → HasShort m → draft_rule d m ≡ None → IsWithin d → IsWithin (draft_with d m)
unfolding draft_rule draft_with
by_line d (Output library) short is w = record { needed = w.needed; objects = w.objects; names = w.names; soname = w.soname; entry = w.entry }
by_line d (Index index) short is w = record { needed = w.needed; objects = w.objects; names = w.names; soname = w.soname; entry = w.entry }
by_line d (Table slots) short is w = record { needed = w.needed; objects = w.objects; names = w.names; soname = w.soname; entry = w.entry }
by_line d (Entry name) short is w = record { needed = w.needed; objects = w.objects; names = w.names; soname = w.soname; entry = short }
by_line d (Soname name) short is w = record { needed = w.needed; objects = w.objects; names = w.names; soname = short; entry = w.entry }
by_line d (Needed name) short is w = record { needed = passes_none MOST_NEEDED d.needed name (needed_none _ _ is); objects = w.objects; names = All-push IsShortName d.needed name w.names short; soname = w.soname; entry = w.entry }
by_line d (Object file) short is w = record { needed = w.needed; objects = passes_none MOST_OBJECTS d.objects file is; names = w.names; soname = w.soname; entry = w.entry }

step : (d : LinkDraft) (words : List (List ℕ)) (m : LinkLine) → link_line words ≡ Some m → draft_rule d m ≡ None → IsWithin d → IsWithin (draft_with d m)
step d words m meant is within = by_line d m (line_short words m meant) is within

none_within : IsWithin (link_draft_of [])
none_within = record { needed = lit≤ tt; objects = lit≤ tt; names = All-nil IsShortName; soname = tt; entry = tt }

-- so a link plan that was read is within its limits
pub draft_within : (lines : List Said) (draft : LinkDraft) → drafted link_line draft_rule draft_with (link_draft_of []) lines ≡ Ok draft → IsLinkPlan (plan_drafted draft)
draft_within lines draft all =
    let w = drafted_keeps link_line draft_rule draft_with IsWithin step lines (link_draft_of []) draft all none_within in
    record { needed = w.needed; objects = w.objects; names = w.names; soname = w.soname; entry = w.entry }

pub all_within : {E : Type 0} (result : Result LinkPlan E) (draft : LinkDraft) → IfOk result (λ plan. plan ≡ plan_drafted draft) → IsLinkPlan (plan_drafted draft) → IfOk result IsLinkPlan
all_within (Ok plan) draft is within = subst IsLinkPlan (sym is) within
all_within (Err error) draft is within = tt
