-- What a reading that gave something came through.
use Rattle.std.proofs.Common.{◌≡◌, ℕ, Bool, true, false, refl}
use Rattle.std.specs.Prelude.{Option, None, Some, Result, Ok, Err}
use Rattle.c6x_spec.specs.Firsts.{◌<|>◌}
use Rattle.c6x_spec.specs.Results.{◌>>=◌}
use Rattle.c6x_module.specs.declared.module_rule.ModuleRule.{ModuleRule}
use Rattle.c6x_module.specs.Refusals.{Refusal, found, kept, must}

pub then_value : {A B : Type 0} (r : Result A Refusal) (f : A → Result B Refusal) (b : B) → (r >>= f) ≡ Ok b → (x : A) × (r ≡ Ok x) × (f x ≡ Ok b)
then_value (Ok x) f b e = (x, refl, e)
then_value (Err refusal) f b e = absurd (cc)

pub kept_value : {A : Type 0} (o : Option Refusal) (later : Result A Refusal) (x : A) → kept o later ≡ Ok x → (o ≡ None) × (later ≡ Ok x)
kept_value None later x e = (refl, e)
kept_value (Some refusal) later x e = absurd (cc)

pub both_none : (a b : Option Refusal) → (a <|> b) ≡ None → (a ≡ None) × (b ≡ None)
both_none None b e = (refl, e)
both_none (Some refusal) b e = absurd (cc)

pub must_holds : (t : Bool) (rule : ModuleRule) (number : ℕ) → must t rule number ≡ None → t ≡ true
unfolding must
must_holds true rule number e = refl
must_holds false rule number e = absurd (cc)

pub found_value : {A : Type 0} (o : Option A) (rule : ModuleRule) (number : ℕ) (x : A) → found o rule number ≡ Ok x → o ≡ Some x
found_value None rule number x e = absurd (cc)
found_value (Some y) rule number x e = cc
