-- What a module needs are modules.
use Rattle.std.proofs.Common.{◌≡◌, ℕ, ◌+◌, ◌<◌, Bool, true, false, List, [], ◌∷◌, length, map, refl, sym, subst, arith}
use Rattle.std.specs.Prelude.{Option, None, Some, if◌then◌else◌}
use Rattle.std.specs.Str.{bytes_eq}
use Rattle.std.proofs.lemmas.Grind.{common_steps}
use Rattle.c6x_base.specs.Search.{AreBelow, AreNeeds}
use Rattle.c6x_module.specs.declared.module.Module.{Module}
use Rattle.c6x_place.specs.Needs.{named_from, numbers_of, with_number, needs_row, needs_of}

same_some : (a b : ℕ) → Some a ≡ Some b → a ≡ b
same_some a b is = cc

named_here : (t : Bool) (from k : ℕ) (rest : Option ℕ) (count : ℕ) → (if t then Some from else rest) ≡ Some k → (rest ≡ Some k → k < (from + 1) + count) → k < from + (1 + count)
named_here true from k rest count is later = let e : from ≡ k = same_some from k is in omega arith
named_here false from k rest count is later = let h = later is in omega arith

named_below : (name : List ℕ) (from : ℕ) (ms : List Module) (k : ℕ) → named_from name from ms ≡ Some k → k < from + length ms
named_below name from [] k is = absurd (cc)
named_below name from (m ∷ ms) k is =
    let h = named_here (bytes_eq m.name name) from k (named_from name (from + 1) ms) (length ms) is (named_below name (from + 1) ms k) in
    omega arith

with_below : (o : Option ℕ) (count : ℕ) (numbers : List ℕ) → ((k : ℕ) → o ≡ Some k → k < count) → AreBelow count numbers → AreBelow count (with_number o numbers)
with_below None count numbers here rest = rest
with_below (Some k) count numbers here rest = (here k refl, rest)

row_below : (modules : List Module) (names : List (List ℕ)) → AreBelow (length modules) (numbers_of modules names)
row_below modules [] = tt
row_below modules (name ∷ names) =
    with_below (named_from name 0 modules) (length modules) (numbers_of modules names) (λ k is. let h = named_below name 0 modules k is in omega arith) (row_below modules names)

rows_known : (modules ms : List Module) → AreNeeds (length modules) (map (needs_row modules) ms)
rows_known modules [] = tt
rows_known modules (m ∷ ms) = (row_below modules m.needed, rows_known modules ms)

pub length_needs : (modules : List Module) → length (needs_of modules) ≡ length modules
unfolding needs_of
length_needs modules = search common_steps

pub needs_known : (modules : List Module) → AreNeeds (length (needs_of modules)) (needs_of modules)
unfolding needs_of
needs_known modules =
    let P : ℕ → Type 0 = λ (n : ℕ). AreNeeds n (map (needs_row modules) modules) in
    subst P (sym (length_needs modules)) (rows_known modules modules)
