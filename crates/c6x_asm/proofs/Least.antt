-- The lowest of the rules that parts of a line break.
use Rattle.std.proofs.Common.{◌≡◌, ◌≤◌, ◌⊎◌, inl, inr, Bool, true, false, Option, Some, None, Result, Ok, Err, nat_le, refl, sym, ◌∙◌, ap, subst, arith}
use Rattle.std.specs.Prelude.{if◌then◌else◌}
use Rattle.std.proofs.lemmas.Bool.Decides.{nat_tests}
use Rattle.c6x_spec.specs.Results.{◌>>=◌}
use Rattle.c6x_asm_lines.specs.declared.rule.AsmRule.{AsmRule}
use Rattle.c6x_asm_lines.specs.declared.rule.AsmRule.TheVariants.{BadByte, Syntax, UnknownWord, Operand, Range, Packet, DuplicateLabel, NoSection, Large}
use Rattle.c6x_asm_lines.specs.Rules.{lower, lowest, number_of}
use Rattle.c6x_asm.specs.Instructions.{fails}

-- no rule is broken
abbrev pub Holds : (AsmRule → Type 0) → Type 0
Holds P = (rule : AsmRule) → P rule → ⊥

-- this one is the lowest
abbrev pub IsLowest : (AsmRule → Type 0) → AsmRule → Type 0
IsLowest P rule = P rule × ((other : AsmRule) → P other → number_of rule ≤ number_of other)

-- what a part of a line finds
abbrev pub Finds : (AsmRule → Type 0) → Option AsmRule → Type 0
Finds P None = Holds P
Finds P (Some rule) = IsLowest P rule

-- what a line comes to: no rule is broken, or the lowest one, or none of these but a limit is passed, as the first of these
-- types says
abbrev pub Judges : {T : Type 0} → Type 0 → (AsmRule → Type 0) → Result T AsmRule → Type 0
Judges L P (Ok x) = Holds P
Judges L P (Err rule) = ((rule ≡ Large) × Holds P × L) ⊎ IsLowest P rule

-- the lower of two is one of them, and below neither
lower_test : (a b : AsmRule) (P : AsmRule → Type 0) → ((number_of a ≤ number_of b) → P a) → ((number_of b ≤ number_of a) → P b) → P (lower a b)
unfolding lower
lower_test a b P first second = by (nat_le (number_of a) (number_of b)) refl
  where
    by : (t : Bool) → nat_le (number_of a) (number_of b) ≡ t → P (if t then a else b)
    by true is = first (grind (arith, nat_tests))
    by false is = second (grind (arith, nat_tests))

lower_large : (a : AsmRule) → lower a Large ≡ a
unfolding lower
lower_large BadByte = refl
lower_large Syntax = refl
lower_large UnknownWord = refl
lower_large Operand = refl
lower_large Range = refl
lower_large Packet = refl
lower_large DuplicateLabel = refl
lower_large NoSection = refl
lower_large Large = refl

-- two sets of rules together
pub record IsUnion (P Q R : AsmRule → Type 0) : Type 0 where
  pub first : (rule : AsmRule) → P rule → R rule
  pub second : (rule : AsmRule) → Q rule → R rule
  pub split : (rule : AsmRule) → R rule → P rule ⊎ Q rule

none_both : (P Q R : AsmRule → Type 0) → IsUnion P Q R → Holds P → Holds Q → Holds R
none_both P Q R union p q rule is = by (union.split rule is)
  where
    by : P rule ⊎ Q rule → ⊥
    by (inl here) = p rule here
    by (inr here) = q rule here

lowest_first : (P Q R : AsmRule → Type 0) (rule : AsmRule) → IsUnion P Q R → IsLowest P rule → ((other : AsmRule) → Q other → number_of rule ≤ number_of other) → IsLowest R rule
lowest_first P Q R rule union is above = (union.first rule is.0, λ other here. by other (union.split other here))
  where
    by : (other : AsmRule) → P other ⊎ Q other → number_of rule ≤ number_of other
    by other (inl here) = is.1 other here
    by other (inr here) = above other here

lowest_second : (P Q R : AsmRule → Type 0) (rule : AsmRule) → IsUnion P Q R → IsLowest Q rule → ((other : AsmRule) → P other → number_of rule ≤ number_of other) → IsLowest R rule
lowest_second P Q R rule union is above = (union.second rule is.0, λ other here. by other (union.split other here))
  where
    by : (other : AsmRule) → P other ⊎ Q other → number_of rule ≤ number_of other
    by other (inl here) = above other here
    by other (inr here) = is.1 other here

lowest_lower : (P Q R : AsmRule → Type 0) (a b : AsmRule) → IsUnion P Q R → IsLowest P a → IsLowest Q b → IsLowest R (lower a b)
lowest_lower P Q R a b union p q =
    lower_test a b (IsLowest R)
    (λ below. lowest_first P Q R a union p (λ other here. let above : number_of b ≤ number_of other = q.1 other here in omega arith))
    (λ below. lowest_second P Q R b union q (λ other here. let above : number_of a ≤ number_of other = p.1 other here in omega arith))

pub finds_lowest : (P Q R : AsmRule → Type 0) (a b : Option AsmRule) → IsUnion P Q R → Finds P a → Finds Q b → Finds R (lowest a b)
finds_lowest P Q R None None union p q = none_both P Q R union p q
finds_lowest P Q R None (Some rule) union p q = lowest_second P Q R rule union q (λ other here. absurd (p other here))
finds_lowest P Q R (Some rule) None union p q = lowest_first P Q R rule union p (λ other here. absurd (q other here))
finds_lowest P Q R (Some a) (Some b) union p q = lowest_lower P Q R a b union p q

pub judges_fails : {T : Type 0} (L : Type 0) (P Q R : AsmRule → Type 0) (fault : Option AsmRule) (r : Result T AsmRule) → IsUnion P Q R → Finds P fault → Judges L Q r → Judges L R (fails fault r)
judges_fails L P Q R None (Ok x) union p q = none_both P Q R union p q
judges_fails L P Q R None (Err rule) union p (inl large) = inl (large.0, none_both P Q R union p large.1, large.2)
judges_fails L P Q R None (Err rule) union p (inr q) = inr (lowest_second P Q R rule union q (λ other here. absurd (p other here)))
judges_fails L P Q R (Some rule) (Ok x) union p q = inr (lowest_first P Q R rule union p (λ other here. absurd (q other here)))
judges_fails L P Q R (Some rule) (Err other) union p (inl large) =
    inr (subst (IsLowest R) (sym (ap (lower rule) large.0 ∙ lower_large rule)) (lowest_first P Q R rule union p (λ o here. absurd (large.1 o here))))
judges_fails L P Q R (Some rule) (Err other) union p (inr q) = inr (lowest_lower P Q R rule other union p q)

-- what follows where no rule is broken
one_of : {T : Type 0} (P Q : AsmRule → Type 0) (r : Result T AsmRule) (rule : AsmRule) → P rule ⊎ ((x : T) × (r ≡ Ok x) × Q rule) → P rule ⊎ Q rule
one_of P Q r rule (inl here) = inl here
one_of P Q r rule (inr here) = inr here.2

never_next : {T : Type 0} (P Q : AsmRule → Type 0) (r : Result T AsmRule) (rule other : AsmRule) → r ≡ Err rule → P other ⊎ ((x : T) × (r ≡ Ok x) × Q other) → P other
never_next P Q r rule other is (inl here) = here
never_next P Q r rule other is (inr here) = let e : r ≡ Ok here.0 = here.1 in absurd (cc)

judge_next : {U : Type 0} (L : Type 0) (P Q R : AsmRule → Type 0) (r : Result U AsmRule) → IsUnion P Q R → Holds P → Judges L Q r → Judges L R r
judge_next L P Q R (Ok x) union p q = none_both P Q R union p q
judge_next L P Q R (Err rule) union p (inl large) = inl (large.0, none_both P Q R union p large.1, large.2)
judge_next L P Q R (Err rule) union p (inr q) = inr (lowest_second P Q R rule union q (λ other here. absurd (p other here)))

pub judges_then : {T U : Type 0} (L : Type 0) (P Q R : AsmRule → Type 0) (r : Result T AsmRule) (next : T → Result U AsmRule) → Judges L P r → ((x : T) → r ≡ Ok x → Judges L Q (next x)) → ((rule : AsmRule) → P rule → R rule) → ((x : T) → r ≡ Ok x → (rule : AsmRule) → Q rule → R rule) → ((rule : AsmRule) → R rule → P rule ⊎ ((x : T) × (r ≡ Ok x) × Q rule)) → Judges L R (r >>= next)
judges_then L P Q R (Ok x) next p q first second split =
    judge_next L P Q R (next x) (record { first = first; second = λ rule. second x refl rule; split = λ rule is. one_of P Q (Ok x) rule (split rule is) }) p (q x refl)
judges_then L P Q R (Err rule) next (inl large) q first second split = inl (large.0, λ other is. large.1 other (never_next P Q (Err rule) rule other refl (split other is)), large.2)
judges_then L P Q R (Err rule) next (inr p) q first second split = inr (first rule p.0, λ other is. p.1 other (never_next P Q (Err rule) rule other refl (split other is)))

-- the same rules in other words
pub finds_same : (P Q : AsmRule → Type 0) (fault : Option AsmRule) → ((rule : AsmRule) → P rule → Q rule) → ((rule : AsmRule) → Q rule → P rule) → Finds P fault → Finds Q fault
finds_same P Q None to back p = λ rule is. p rule (back rule is)
finds_same P Q (Some rule) to back p = (to rule p.0, λ other is. p.1 other (back other is))

pub judges_same : {T : Type 0} (L : Type 0) (P Q : AsmRule → Type 0) (r : Result T AsmRule) → ((rule : AsmRule) → P rule → Q rule) → ((rule : AsmRule) → Q rule → P rule) → Judges L P r → Judges L Q r
judges_same L P Q (Ok x) to back p = λ rule is. p rule (back rule is)
judges_same L P Q (Err rule) to back (inl large) = inl (large.0, λ other is. large.1 other (back other is), large.2)
judges_same L P Q (Err rule) to back (inr p) = inr (to rule p.0, λ other is. p.1 other (back other is))

-- the same limit in other words
pub judges_limit : {T : Type 0} (K L : Type 0) (P : AsmRule → Type 0) (r : Result T AsmRule) → (K → L) → Judges K P r → Judges L P r
judges_limit K L P (Ok x) to p = p
judges_limit K L P (Err rule) to (inl large) = inl (large.0, large.1, to large.2)
judges_limit K L P (Err rule) to (inr p) = inr p

-- a result that breaks no rule, or passes a limit alone
abbrev pub IsRoomy : {T : Type 0} → Type 0 → Result T AsmRule → Type 0
IsRoomy L (Ok x) = Unit {0}
IsRoomy L (Err rule) = (rule ≡ Large) × L

pub roomy_judges : {T : Type 0} (L : Type 0) (P : AsmRule → Type 0) (r : Result T AsmRule) → IsRoomy L r → Holds P → Judges L P r
roomy_judges L P (Ok x) roomy holds = holds
roomy_judges L P (Err rule) roomy holds = inl (roomy.0, holds, roomy.1)

pub roomy_if : {T : Type 0} (L : Type 0) (b : Bool) (x : T) → (b ≡ false → L) → IsRoomy L (if b then Ok x else Err Large)
roomy_if L true x full = tt
roomy_if L false x full = (refl, full refl)

pub roomy_then : {T U : Type 0} (L : Type 0) (r : Result T AsmRule) (next : T → Result U AsmRule) → IsRoomy L r → ((x : T) → r ≡ Ok x → IsRoomy L (next x)) → IsRoomy L (r >>= next)
roomy_then L (Ok x) next roomy rest = rest x refl
roomy_then L (Err rule) next roomy rest = roomy
