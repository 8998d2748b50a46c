-- The names of a link plan that is read are names that a string table can have.
use Rattle.std.proofs.Common.{◌≡◌, ◌≢◌, ℕ, ◌≤◌, ◌==◌, ◌&&◌, Bool, true, false, List, ◌++◌, ◌∷◌, [], length, refl, subst, arith, nat_le, if◌then◌else◌}
use Rattle.std.specs.Prelude.{Option, None, Some, Result, Ok, Err, All, codes}
use Rattle.std.specs.List.{filter_map, list_all}
use Rattle.std.specs.Option.{option_map}
use Rattle.std.specs.Str.{bytes_eq}
use Rattle.std.proofs.lemmas.Bool.Decides.{nat_tests}
use Rattle.std.proofs.lemmas.List.Elements.{All-append, All-cons, All-head, All-nil, All-tail}
use Rattle.c6x_base.specs.declared.limits.TheConstants.{MOST_NAME_BYTES}
use Rattle.c6x_elf.specs.Names.{IsName}
use Rattle.c6x_plan.specs.declared.link_line.LinkLine.{LinkLine}
use Rattle.c6x_plan.specs.declared.link_line.LinkLine.TheVariants.{Output, Index, Table, Entry, Soname, Needed, Object}
use Rattle.c6x_plan.specs.declared.link_plan.LinkPlan.{LinkPlan}
use Rattle.c6x_plan.specs.Lines.{Said, said_lines}
use Rattle.c6x_plan.specs.LinkPlans.{any_number, keyed_line, library_of, link_line, link_plan, link_plan_of, link_rule, named_line, needed_in, with_object}
use Rattle.c6x_plan.specs.PlanRules.{Broken, PlanRule, broken_at, Count as CountRule}
use Rattle.c6x_plan.specs.Rules.{behind_first, meanings, rule_of, ruled}
use Rattle.c6x_plan.specs.Words.{is_name, is_shown}
use Rattle.c6x_spec.specs.Results.{◌>>=◌}

-- a word that is a name
abbrev NotZero : ℕ → Type 0
NotZero b = b ≢ 0

first_true : (a c : Bool) → (a && c) ≡ true → a ≡ true
first_true true c is = refl
first_true false c is = absurd (cc is)

last_true : (a c : Bool) → (a && c) ≡ true → c ≡ true
last_true true c is = is
last_true false c is = absurd (cc is)

shown_more : (b : ℕ) → is_shown b ≡ true → NotZero b
shown_more b is =
    let below : nat_le 33 b ≡ true = first_true (nat_le 33 b) (nat_le b 126) is in
    let least : 33 ≤ b = grind (arith, nat_tests) in
    λ none. absurd (omega (arith, least, none))

shown_bytes : (bytes : List ℕ) → list_all is_shown bytes ≡ true → All NotZero bytes
shown_bytes [] is = All-nil NotZero
shown_bytes (b ∷ bs) is =
    All-cons NotZero b bs (shown_more b (first_true (is_shown b) (list_all is_shown bs) is))
    (shown_bytes bs (last_true (is_shown b) (list_all is_shown bs) is))

named : (word : List ℕ) → is_name word ≡ true → IsName word
unfolding is_name
named word is = record { bytes = shown_bytes word (last_true (nat_le 1 (length word) && nat_le (length word) MOST_NAME_BYTES) (list_all is_shown word) is) }

-- the name of a line
abbrev HasName : LinkLine → Type 0
HasName (Needed name) = IsName name
HasName _ = Unit {0}

either : (test : Bool) (a b : Option LinkLine) (m : LinkLine) → (a ≡ Some m → HasName m) → (b ≡ Some m → HasName m) → (if test then a else b) ≡ Some m → HasName m
either true a b m first second is = first is
either false a b m first second is = second is

where_true : (test : Bool) (a : Option LinkLine) (m : LinkLine) → (test ≡ true → a ≡ Some m → HasName m) → (if test then a else None) ≡ Some m → HasName m
where_true true a m first is = first refl is
where_true false a m first is = absurd (cc is)

this : (line m : LinkLine) → HasName line → Some line ≡ Some m → HasName m
this line m has is = let same : line ≡ m = cc is in subst HasName same has

no_name : {X : Type 0} (of : X → LinkLine) (o : Option X) (m : LinkLine) → ((x : X) → HasName (of x)) → option_map of o ≡ Some m → HasName m
no_name of None m all is = absurd (cc is)
no_name of (Some x) m all is = this (of x) m (all x) is

named_has : (key word : List ℕ) (m : LinkLine) → IsName word → named_line key word ≡ Some m → HasName m
unfolding named_line
named_has key word m has is =
    either (bytes_eq key (codes "entry")) _ _ m (this (Entry word) m tt)
    (either (bytes_eq key (codes "soname")) _ _ m (this (Soname word) m tt)
    (either (bytes_eq key (codes "needed")) _ _ m (this (Needed word) m has)
    (either (bytes_eq key (codes "object")) _ _ m (this (Object word) m tt) (λ none. absurd (cc none))))) is

keyed_has : (key word : List ℕ) (m : LinkLine) → keyed_line key word ≡ Some m → HasName m
unfolding keyed_line
keyed_has key word m is =
    either (bytes_eq key (codes "output")) _ _ m (no_name Output (library_of word) m (λ x. tt))
    (either (bytes_eq key (codes "index")) _ _ m (no_name Index (any_number word) m (λ x. tt))
    (either (bytes_eq key (codes "table")) _ _ m (no_name Table (any_number word) m (λ x. tt))
    (where_true (is_name word) _ m (λ name. named_has key word m (named word name))))) is

line_has : (words : List (List ℕ)) (m : LinkLine) → link_line words ≡ Some m → HasName m
unfolding link_line
line_has [] m is = absurd (cc is)
line_has (key ∷ []) m is = absurd (cc is)
line_has (key ∷ word ∷ []) m is = keyed_has key word m is
line_has (key ∷ word ∷ more ∷ words) m is = absurd (cc is)

-- all lines of a plan
ruled_is : (number : ℕ) (o : Option LinkLine) (rule : Option PlanRule) (m : LinkLine) → ruled number o rule ≡ Ok m → o ≡ Some m
ruled_is number None rule m is = absurd (cc is)
ruled_is number (Some x) None m is = cc is
ruled_is number (Some x) (Some r) m is = absurd (cc is)

lines_have : (lines : List Said) (earlier meant : List LinkLine) → All HasName earlier → meanings link_line link_rule earlier lines ≡ Ok meant → All HasName meant
lines_have [] earlier meant have is = let same : earlier ≡ meant = cc is in let P : List LinkLine → Type 0 = λ ls. All HasName ls in subst P same have
lines_have (line ∷ lines) earlier meant have is =
    by (ruled line.line (link_line line.words) (rule_of (link_rule earlier) (link_line line.words))) refl is (λ m all. lines_have lines (earlier ++ m ∷ []) meant all)
  where
    by : (r : Result LinkLine Broken) → ruled line.line (link_line line.words) (rule_of (link_rule earlier) (link_line line.words)) ≡ r → (r >>= λ meaning. meanings link_line link_rule (earlier ++ meaning ∷ []) lines) ≡ Ok meant
        → ((m : LinkLine) → All HasName (earlier ++ m ∷ []) → meanings link_line link_rule (earlier ++ m ∷ []) lines ≡ Ok meant → All HasName meant) → All HasName meant
    by (Ok m) here e later =
        let meaning : link_line line.words ≡ Some m = ruled_is line.line (link_line line.words) (rule_of (link_rule earlier) (link_line line.words)) m here in
        later m (All-append HasName earlier (m ∷ []) have (All-cons HasName m [] (line_has line.words m meaning) (All-nil HasName))) e
    by (Err broken) here e later = absurd (cc e)

needed_have : (lines : List LinkLine) → All HasName lines → All IsName (filter_map needed_in lines)
needed_have [] have = All-nil IsName
needed_have (Output x ∷ ls) have = needed_have ls (All-tail HasName (Output x) ls have)
needed_have (Index x ∷ ls) have = needed_have ls (All-tail HasName (Index x) ls have)
needed_have (Table x ∷ ls) have = needed_have ls (All-tail HasName (Table x) ls have)
needed_have (Entry x ∷ ls) have = needed_have ls (All-tail HasName (Entry x) ls have)
needed_have (Soname x ∷ ls) have = needed_have ls (All-tail HasName (Soname x) ls have)
needed_have (Object x ∷ ls) have = needed_have ls (All-tail HasName (Object x) ls have)
needed_have (Needed x ∷ ls) have =
    All-cons IsName x (filter_map needed_in ls) (All-head HasName (Needed x) ls have) (needed_have ls (All-tail HasName (Needed x) ls have))

object_kept : (made plan : LinkPlan) → with_object made ≡ Ok plan → made ≡ plan
object_kept made plan is = by (length made.objects == 0) is
  where
    by : (t : Bool) → (if t then Err (broken_at 0 CountRule) else Ok made) ≡ Ok plan → made ≡ plan
    by true e = absurd (cc e)
    by false e = cc e

pub plan_names : (text : List ℕ) (plan : LinkPlan) → link_plan text ≡ Ok plan → All IsName plan.needed
unfolding link_plan link_plan_of
plan_names text plan is = first (behind_first (codes "c6x-link") (said_lines 0 text)) is
  where
    P : LinkPlan → Type 0
    P made = All IsName made.needed

    second : (r : Result (List LinkLine) Broken) → ((meant : List LinkLine) → r ≡ Ok meant → All HasName meant) → (r >>= λ meant. with_object (link_plan_of meant)) ≡ Ok plan → All IsName plan.needed
    second (Ok meant) have e = subst P (object_kept (link_plan_of meant) plan e) (needed_have meant (have meant refl))
    second (Err broken) have e = absurd (cc e)

    first : (r : Result (List Said) Broken) → (r >>= λ lines. meanings link_line link_rule [] lines >>= λ meant. with_object (link_plan_of meant)) ≡ Ok plan → All IsName plan.needed
    first (Ok lines) e = second (meanings link_line link_rule [] lines) (λ meant here. lines_have lines [] meant (All-nil HasName) here) e
    first (Err broken) e = absurd (cc e)
