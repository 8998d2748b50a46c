-- Each section with bytes lies in the image of its segment.
use Rattle.std.proofs.Common.{◌≡◌, ℕ, zero, suc, ◌+◌, ◌-◌, ◌*◌, ◌<◌, ◌≤◌, ◌==◌, ◌&&◌, not, max, Bool, true, false, List, [], ◌∷◌, ◌++◌, Option, None, Some, length, get_or, map, refl, sym, ap, subst, ◌∙◌, arith, if◌then◌else◌}
use Rattle.std.specs.Prelude.{filter, slice_get}
use Rattle.c6x_layout.specs.Places.{place_of, places_end, places_from, start_of}
use Rattle.c6x_layout.specs.declared.place.Place.{Place}
use Rattle.c6x_link.specs.Addresses.{address_in}
use Rattle.c6x_symbols.specs.declared.part.Part.{Part}

abbrev pub is_of : ℕ → ℕ → Place → Bool
is_of object section p = p.object == object && p.section == section

abbrev pub of_part : ℕ → ℕ → Part → Bool
of_part object section p = p.object == object && p.section == section

-- whether a list of places, or of parts, has one of this section
abbrev pub has_place : List Place → ℕ → ℕ → Bool
has_place [] object section = false
has_place (p ∷ ps) object section = if is_of object section p then true else has_place ps object section

abbrev pub has_part : List Part → ℕ → ℕ → Bool
has_part [] object section = false
has_part (p ∷ ps) object section = if of_part object section p then true else has_part ps object section

start_above : (from align : ℕ) → from ≤ start_of from align
unfolding start_of
start_above from align = omega arith

pub end_above : (from : ℕ) (parts : List Part) → from ≤ places_end from parts
end_above from [] = omega arith
end_above from (p ∷ ps) =
    let s = start_above from p.align in
    let e = end_above (start_of from p.align + p.size) ps in
    omega (arith, s, e)

-- the address that is found in two lists
first_has : (b : Bool) (address x y : ℕ) (rest : Bool) → (if b then true else rest) ≡ true → (rest ≡ true → x ≡ y) → (if b then address else x) ≡ (if b then address else y)
first_has true address x y rest has next = refl
first_has false address x y rest has next = next has

pub found_first : (ps qs : List Place) (object section : ℕ) → has_place ps object section ≡ true → address_in (ps ++ qs) object section ≡ address_in ps object section
found_first [] qs object section has = absurd (cc has)
found_first (p ∷ ps) qs object section has =
    first_has (is_of object section p) p.address (address_in (ps ++ qs) object section) (address_in ps object section) (has_place ps object section) has (found_first ps qs object section)

second_has : (b : Bool) (address x y : ℕ) (rest : Bool) → (if b then true else rest) ≡ false → (rest ≡ false → x ≡ y) → (if b then address else x) ≡ y
second_has true address x y rest has next = absurd (cc has)
second_has false address x y rest has next = next has

pub found_second : (ps qs : List Place) (object section : ℕ) → has_place ps object section ≡ false → address_in (ps ++ qs) object section ≡ address_in qs object section
found_second [] qs object section has = refl
found_second (p ∷ ps) qs object section has =
    second_has (is_of object section p) p.address (address_in (ps ++ qs) object section) (address_in qs object section) (has_place ps object section) has (found_second ps qs object section)

-- places have a section where their parts have
pub has_same : (from : ℕ) (parts : List Part) (object section : ℕ) → has_place (places_from from parts) object section ≡ has_part parts object section
has_same from [] object section = refl
has_same from (p ∷ ps) object section =
    ap (λ rest. if of_part object section p then true else rest) (has_same (start_of from p.align + p.size) ps object section)

-- parts of this section are one part
abbrev pub AreThe : ℕ → ℕ → Part → List Part → Type 0
AreThe object section the [] = Unit {0}
AreThe object section the (p ∷ ps) = (of_part object section p ≡ true → p ≡ the) × AreThe object section the ps

-- so its place lies between the places in front of it and the end
pub record LiesIn (from size end address : ℕ) : Type 0 where
  pub above : from ≤ address
  pub below : address + size ≤ end

here : (b : Bool) (from align size end x : ℕ) (the : Part) (p : Part) (rest : Bool) → (b ≡ true → p ≡ the) → p.align ≡ align → p.size ≡ size → start_of from align + size ≤ end → (if b then true else rest) ≡ true → (rest ≡ true → LiesIn (start_of from align + size) the.size end x) → LiesIn from the.size end (if b then start_of from align else x)
here true from align size end x the p rest is al si within has next =
    let same : size ≡ the.size = sym si ∙ ap (λ (q : Part). q.size) (is refl) in
    let s = start_above from align in
    record { above = s; below = omega (arith, same, within) }
here false from align size end x the p rest is al si within has next =
    let later = next has in
    let s = start_above from align in
    let above = later.above in
    let below = later.below in
    record { above = omega (arith, s, above); below = below }

pub lies_in : (from : ℕ) (parts : List Part) (object section : ℕ) (the : Part) → AreThe object section the parts → has_part parts object section ≡ true → LiesIn from the.size (places_end from parts) (address_in (places_from from parts) object section)
lies_in from [] object section the are has = absurd (cc has)
lies_in from (p ∷ ps) object section the are has =
    here (of_part object section p) from p.align p.size (places_end (start_of from p.align + p.size) ps) (address_in (places_from (start_of from p.align + p.size) ps) object section) the p (has_part ps object section) are.0 refl refl
    (end_above (start_of from p.align + p.size) ps)
    has
    (lies_in (start_of from p.align + p.size) ps object section the are.1)

-- of the parts that meet a test
keep_are : (b : Bool) (object section : ℕ) (the p : Part) (ps : List Part) → (of_part object section p ≡ true → p ≡ the) → AreThe object section the ps → AreThe object section the (if b then p ∷ ps else ps)
keep_are true object section the p ps is rest = (is, rest)
keep_are false object section the p ps is rest = rest

pub filter_are : (test : Part → Bool) (object section : ℕ) (the : Part) (ps : List Part) → AreThe object section the ps → AreThe object section the (filter test ps)
filter_are test object section the [] are = tt
filter_are test object section the (p ∷ ps) are = keep_are (test p) object section the p (filter test ps) are.0 (filter_are test object section the ps are.1)

kept_has : (t b : Bool) (object section : ℕ) (the p : Part) (ps : List Part) (rest : Bool) → of_part object section p ≡ b → (b ≡ true → t ≡ true) → (if b then true else rest) ≡ true → (rest ≡ true → has_part ps object section ≡ true) → has_part (if t then p ∷ ps else ps) object section ≡ true
kept_has true true object section the p ps rest is ok has next = ap (λ b. if b then true else has_part ps object section) is
kept_has true false object section the p ps rest is ok has next = ap (λ b. if b then true else has_part ps object section) is ∙ next has
kept_has false true object section the p ps rest is ok has next = absurd (cc (ok refl))
kept_has false false object section the p ps rest is ok has next = next has

pub filter_has : (test : Part → Bool) (object section : ℕ) (the : Part) (ps : List Part) → test the ≡ true → AreThe object section the ps → has_part ps object section ≡ true → has_part (filter test ps) object section ≡ true
filter_has test object section the [] ok are has = has
filter_has test object section the (p ∷ ps) ok are has =
    kept_has (test p) (of_part object section p) object section the p (filter test ps) (has_part ps object section) refl (λ is. ap test (are.0 is) ∙ ok) has
    (filter_has test object section the ps ok are.1)

dropped_has : (t b : Bool) (object section : ℕ) (p : Part) (ps : List Part) → of_part object section p ≡ b → (b ≡ true → t ≡ false) → has_part ps object section ≡ false → has_part (if t then p ∷ ps else ps) object section ≡ false
dropped_has true true object section p ps is lacks rest = absurd (cc (lacks refl))
dropped_has true false object section p ps is lacks rest = ap (λ b. if b then true else has_part ps object section) is ∙ rest
dropped_has false b object section p ps is lacks rest = rest

pub filter_lacks : (test : Part → Bool) (object section : ℕ) (the : Part) (ps : List Part) → test the ≡ false → AreThe object section the ps → has_part (filter test ps) object section ≡ false
filter_lacks test object section the [] lacks are = refl
filter_lacks test object section the (p ∷ ps) lacks are =
    dropped_has (test p) (of_part object section p) object section p (filter test ps) refl (λ is. ap test (are.0 is) ∙ lacks) (filter_lacks test object section the ps lacks are.1)
