-- What holds of the value of a result or an option, if there is one.
use Rattle.std.proofs.Common.{◌≡◌, Bool, true, false, Option, Some, None, Result, Ok, Err, IfOk, refl, subst}
use Rattle.std.specs.Prelude.{IfSome, if◌then◌else◌}
use Rattle.c6x_asm_lines.specs.declared.rule.AsmRule.{AsmRule}
use Rattle.c6x_spec.specs.Results.{◌>>=◌}
use Rattle.c6x_asm.specs.Instructions.{fails}

-- what holds if there is a value holds of the value
pub at_some : {T : Type 0} (P : T → Type 0) (o : Option T) (x : T) → IfSome o P → o ≡ Some x → P x
at_some P None x holds is = absurd (cc)
at_some P (Some y) x holds is = let same : y ≡ x = cc in subst P same holds

-- of two results by a test
pub if_either : {T : Type 0} (P : T → Type 0) (test : Bool) (r q : Result T AsmRule) → IfOk r P → IfOk q P → IfOk (if test then r else q) P
if_either P true r q first other = first
if_either P false r q first other = other

-- of a result where no rule is broken
pub if_kept : {T : Type 0} (P : T → Type 0) (fault : Option AsmRule) (r : Result T AsmRule) → (fault ≡ None → IfOk r P) → IfOk (fails fault r) P
if_kept P None r holds = holds refl
if_kept P (Some rule) (Ok x) holds = tt
if_kept P (Some rule) (Err other) holds = tt

-- a value says that no rule is broken
pub kept : {T : Type 0} (fault : Option AsmRule) (r : Result T AsmRule) (x : T) → fails fault r ≡ Ok x → (fault ≡ None) × (r ≡ Ok x)
kept None r x is = (refl, is)
kept (Some rule) (Ok y) x is = absurd (cc)
kept (Some rule) (Err other) x is = absurd (cc)

-- of what follows a result
pub if_next : {T U : Type 0} (P : U → Type 0) (r : Result T AsmRule) (next : T → Result U AsmRule) → ((x : T) → r ≡ Ok x → IfOk (next x) P) → IfOk (r >>= next) P
if_next P (Ok x) next holds = holds x refl
if_next P (Err rule) next holds = tt
