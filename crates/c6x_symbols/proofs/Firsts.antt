-- The first and the second mention of a list, with one more.
use Rattle.std.proofs.Common.{◌≡◌, Bool, true, false, List, [], ◌∷◌, ◌++◌, Option, Some, None, option_map, refl, if◌then◌else◌}
use Rattle.c6x_symbols.specs.Groups.{first_where, second_where}
use Rattle.c6x_symbols.specs.Growth.{first_or, second_or}
use Rattle.c6x_symbols.specs.declared.mention.Mention.{Mention}

pub first_more : (p : Mention → Bool) (ms : List Mention) (m : Mention) → first_where p (ms ++ m ∷ []) ≡ first_or (first_where p ms) (p m) m
first_more p [] m = one (p m)
  where
    one : (b : Bool) → (if b then Some m else None) ≡ first_or None b m
    one true = refl
    one false = refl
first_more p (x ∷ ms) m = step (p x) (first_more p ms m)
  where
    step : (b : Bool) → first_where p (ms ++ m ∷ []) ≡ first_or (first_where p ms) (p m) m → (if b then Some x else first_where p (ms ++ m ∷ [])) ≡ first_or (if b then Some x else first_where p ms) (p m) m
    step true rest = refl
    step false rest = rest

pub second_more : (p : Mention → Bool) (ms : List Mention) (m : Mention) → second_where p (ms ++ m ∷ []) ≡ second_or (first_where p ms) (second_where p ms) (p m) m
second_more p [] m = one (p m)
  where
    one : (b : Bool) → (if b then None else None) ≡ second_or {A = Mention} None None b m
    one true = refl
    one false = refl
second_more p (x ∷ ms) m = step (p x) (second_more p ms m)
  where
    step : (b : Bool) → second_where p (ms ++ m ∷ []) ≡ second_or (first_where p ms) (second_where p ms) (p m) m → (if b then first_where p (ms ++ m ∷ []) else second_where p (ms ++ m ∷ [])) ≡ second_or (if b then Some x else first_where p ms) (if b then first_where p ms else second_where p ms) (p m) m
    step true rest = first_more p ms m
    step false rest = rest

pub first_map : {A B : Type 0} (f : A → B) (o : Option A) (b : Bool) (m : A) → option_map f (first_or o b m) ≡ first_or (option_map f o) b (f m)
first_map f (Some x) b m = refl
first_map f None true m = refl
first_map f None false m = refl

pub second_map : {A B C : Type 0} (f : A → B) (g : A → C) (o s : Option A) (b : Bool) (m : A) → option_map g (second_or o s b m) ≡ second_or (option_map f o) (option_map g s) b (g m)
second_map f g None s b m = refl
second_map f g (Some x) s b m = first_map g s b m
