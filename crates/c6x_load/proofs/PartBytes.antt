-- What the parts of a memory say of one address.
use Rattle.std.proofs.Common.{◌≡◌, ◌≢◌, ℕ, zero, suc, ◌+◌, ◌-◌, ◌<◌, ◌≤◌, ◌||◌, ◌⊎◌, inl, inr, Bool, true, false, List, [], ◌∷◌, ◌++◌, length, refl, ap, subst, arith}
use Rattle.std.specs.Prelude.{slice_get, slice_index, Some, if◌then◌else◌}
use Rattle.std.proofs.lemmas.Bool.Decides.{nat_tests}
use Rattle.c6x_spec.specs.Memory.{Memory, IsOnMemory, byte_in}
use Rattle.c6x_spec.specs.Parts.{AreApart, AreOn, HoldsAll, IsApartFrom, Part, is_in}
use Rattle.c6x_access.specs.Rights.{is_inside}
use Rattle.c6x_load.specs.Starts.{start_byte}

pub or_left : (a b : Bool) → a ≡ true → (a || b) ≡ true
or_left true b is = refl
or_left false b is = absurd (cc)

pub or_right : (a b : Bool) → b ≡ true → (a || b) ≡ true
or_right true b is = refl
or_right false b is = is

pub either : (a b : Bool) → (a || b) ≡ true → (a ≡ true) ⊎ (b ≡ true)
either true b is = inl refl
either false b is = inr is

pub not_both : (a : Bool) → a ≡ true → a ≡ false → ⊥
not_both true one other = cc
not_both false one other = cc

-- an address in one of two lists of parts
pub in_front : (ps qs : List Part) (x : ℕ) → is_in ps x ≡ true → is_in (ps ++ qs) x ≡ true
in_front [] qs x is = absurd (cc)
in_front (p ∷ ps) qs x is = elim (either (is_inside p.at (length p.bytes) x) (is_in ps x) is) [
  | inl here ↦ or_left (is_inside p.at (length p.bytes) x) (is_in (ps ++ qs) x) here
  | inr there ↦ or_right (is_inside p.at (length p.bytes) x) (is_in (ps ++ qs) x) (in_front ps qs x there)
]

pub in_back : (ps qs : List Part) (x : ℕ) → is_in qs x ≡ true → is_in (ps ++ qs) x ≡ true
in_back [] qs x is = is
in_back (p ∷ ps) qs x is = or_right (is_inside p.at (length p.bytes) x) (is_in (ps ++ qs) x) (in_back ps qs x is)

-- parts that are apart share no address
away : (p : Part) (qs : List Part) (x : ℕ) → IsApartFrom p qs → is_inside p.at (length p.bytes) x ≡ true → is_in qs x ≡ false
away p [] x all inside = refl
away p (q ∷ qs) x all inside =
    let here : is_inside q.at (length q.bytes) x ≡ false = elim all.0 [ inl h ↦ grind (arith, nat_tests) | inr h ↦ grind (arith, nat_tests) ] in
    rw here (away p qs x all.1 inside)

from_back : (p : Part) (ps qs : List Part) → IsApartFrom p (ps ++ qs) → IsApartFrom p qs
from_back p [] qs all = all
from_back p (q ∷ ps) qs all = from_back p ps qs all.1

pub apart_back : (ps qs : List Part) → AreApart (ps ++ qs) → AreApart qs
apart_back [] qs all = all
apart_back (p ∷ ps) qs all = apart_back ps qs all.1

pub apart_lists : (ps qs : List Part) (x : ℕ) → AreApart (ps ++ qs) → is_in ps x ≡ true → is_in qs x ≡ false
apart_lists [] qs x all is = absurd (cc)
apart_lists (p ∷ ps) qs x all is = elim (either (is_inside p.at (length p.bytes) x) (is_in ps x) is) [
  | inl here ↦ away p qs x (from_back p ps qs all.0) here
  | inr there ↦ apart_lists ps qs x all.1 there
]

-- parts one list after another
abbrev pub joined : List (List Part) → List Part
joined [] = []
joined (g ∷ gs) = g ++ joined gs

pub in_joined : (gs : List (List Part)) (i : ℕ) (g : List Part) (x : ℕ) → slice_get gs i ≡ Some g → is_in g x ≡ true → is_in (joined gs) x ≡ true
in_joined [] i g x is inside = absurd (cc)
in_joined (h ∷ gs) zero g x is inside =
    let same : h ≡ g = cc in
    in_front h (joined gs) x (rw same inside)
in_joined (h ∷ gs) (suc i) g x is inside = in_back h (joined gs) x (in_joined gs i g x is inside)

-- no address is in two of the lists
not_in : (t u : Bool) → (t ≡ true → u ≡ true) → u ≡ false → t ≡ false
not_in true u gives is = absurd (not_both u (gives refl) is)
not_in false u gives is = refl

pub not_when : (t : Bool) → (t ≡ true → ⊥) → t ≡ false
not_when true never = absurd (never refl)
not_when false never = refl

pub joined_apart : (gs : List (List Part)) (i j : ℕ) (g h : List Part) (x : ℕ) → AreApart (joined gs) → i ≢ j → slice_get gs i ≡ Some g → slice_get gs j ≡ Some h → is_in g x ≡ true → is_in h x ≡ false
joined_apart [] i j g h x all other one two inside = absurd (cc)
joined_apart (k ∷ gs) zero zero g h x all other one two inside = absurd (other refl)
joined_apart (k ∷ gs) zero (suc j) g h x all other one two inside =
    let same : k ≡ g = cc in
    not_in (is_in h x) (is_in (joined gs) x) (in_joined gs j h x two) (apart_lists k (joined gs) x all (rw same inside))
joined_apart (k ∷ gs) (suc i) zero g h x all other one two inside =
    let same : k ≡ h = cc in
    let there = in_joined gs i g x one inside in
    let P : List Part → Type 0 = λ (l : List Part). is_in l x ≡ false in
    subst P same (not_when (is_in k x) (λ here. not_both (is_in (joined gs) x) there (apart_lists k (joined gs) x all here)))
joined_apart (k ∷ gs) (suc i) (suc j) g h x all other one two inside =
    joined_apart gs i j g h x (apart_back k (joined gs) all) (λ same. other (ap suc same)) one two inside

-- a memory that holds the parts has the start byte at each address in them
pub held_byte : (ps : List Part) (m : Memory) (x : ℕ) → HoldsAll m ps → is_in ps x ≡ true → byte_in m x ≡ start_byte ps x
held_byte [] m x all is = absurd (cc)
held_byte (p ∷ ps) m x all is = elim (is_inside p.at (length p.bytes) x) as (λ t. is_inside p.at (length p.bytes) x ≡ t → byte_in m x ≡ (if t then slice_index p.bytes (x - p.at) else start_byte ps x)) [
  | true ↦ λ here.
      let low : p.at ≤ x = grind (arith, nat_tests) in
      let high : x - p.at < length p.bytes = grind (arith, nat_tests) in
      let P : ℕ → Type 0 = λ (n : ℕ). byte_in m n ≡ slice_index p.bytes (x - p.at) in
      let same : p.at + (x - p.at) ≡ x = omega arith in
      subst P same (all.0 (x - p.at) high)
  | false ↦ λ here. held_byte ps m x all.1 (rw here at is)
] refl

-- and has the address
pub on_byte : (ps : List Part) (m : Memory) (x : ℕ) → AreOn m ps → is_in ps x ≡ true → IsOnMemory m x 1
on_byte [] m x on is = absurd (cc)
on_byte (p ∷ ps) m x on is = elim (either (is_inside p.at (length p.bytes) x) (is_in ps x) is) [
  | inl here ↦
      let above = on.0.above in
      let within = on.0.within in
      record { above = grind (arith, nat_tests); within = grind (arith, nat_tests) }
  | inr there ↦ on_byte ps m x on.1 there
]
