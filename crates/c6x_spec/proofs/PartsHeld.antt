use Rattle.std.proofs.Common.{◌≡◌, ℕ, ◌+◌, ◌-◌, ◌<◌, ◌≤◌, ◌⊎◌, ◌&&◌, ◌||◌, inl, inr, Bool, true, false, List, [], ◌∷◌, ◌++◌, length, refl, ◌∙◌, arith}
use Rattle.std.specs.Prelude.{nat_le, nat_lt}
use Rattle.std.proofs.lemmas.Bool.Decides.{nat_tests}
use Rattle.c6x_spec.specs.Memory.{Memory, IsOnMemory, byte_in, written}
use Rattle.c6x_spec.proofs.Splices.{length_spliced, spliced_inside, spliced_outside}
use Rattle.c6x_spec.specs.Parts.{Part, filled_with, IsApartFrom, AreApart, AreOn, is_in, HoldsPart, HoldsParts}

pub written_size : (m : Memory) (p : Part) → IsOnMemory m p.at (length p.bytes) → length (written m p.at p.bytes).bytes ≡ length m.bytes
written_size m p on = length_spliced m.bytes (p.at - m.base) p.bytes (let a = on.above in let b = on.within in omega arith)

written_own : (m : Memory) (p : Part) → IsOnMemory m p.at (length p.bytes) → HoldsPart (written m p.at p.bytes) p
written_own m p on offset inside =
    let a = on.above in
    let b = on.within in
    spliced_inside m.bytes (p.at - m.base) p.bytes (p.at + offset - m.base) offset (omega arith) (omega arith) inside

either_false : (a b : Bool) → (a || b) ≡ false → (a ≡ false) × (b ≡ false)
either_false false b is = (refl, is)
either_false true b is = (is, grind (arith, nat_tests))

outside : (lo len address : ℕ) → (nat_le lo address && nat_lt address (lo + len)) ≡ false → (address < lo) ⊎ (lo + len ≤ address)
outside lo len address is = elim (nat_lt address lo) as (λ t. nat_lt address lo ≡ t → (address < lo) ⊎ (lo + len ≤ address)) [
  | true ↦ λ h. inl (grind (arith, nat_tests))
  | false ↦ λ h. inr (grind (arith, nat_tests))
] refl

written_other : (m : Memory) (p : Part) → IsOnMemory m p.at (length p.bytes) → (address : ℕ) → m.base ≤ address → (nat_le p.at address && nat_lt address (p.at + length p.bytes)) ≡ false → byte_in (written m p.at p.bytes) address ≡ byte_in m address
written_other m p on address low is =
    let a = on.above in
    let b = on.within in
    elim (outside p.at (length p.bytes) address is) [
      | inl h ↦ spliced_outside m.bytes (p.at - m.base) p.bytes (address - m.base) (omega arith) (inl (omega arith))
      | inr h ↦ spliced_outside m.bytes (p.at - m.base) p.bytes (address - m.base) (omega arith) (inr (omega arith))
    ]

pub kept_on : (m : Memory) (p : Part) (qs : List Part) → IsOnMemory m p.at (length p.bytes) → AreOn m qs → AreOn (written m p.at p.bytes) qs
kept_on m p [] on all = tt
kept_on m p (q ∷ qs) on all =
    let size = written_size m p on in
    let above = all.0.above in
    let within = all.0.within in
    (record { above = above; within = omega arith }, kept_on m p qs on all.1)

apart_in : (p : Part) (qs : List Part) (offset : ℕ) → IsApartFrom p qs → offset < length p.bytes → is_in qs (p.at + offset) ≡ false
apart_in p [] offset all inside = refl
apart_in p (q ∷ qs) offset all inside =
    let here : (nat_le q.at (p.at + offset) && nat_lt (p.at + offset) (q.at + length q.bytes)) ≡ false = elim all.0 [ inl h ↦ grind (arith, nat_tests) | inr h ↦ grind (arith, nat_tests) ] in
    rw here (apart_in p qs offset all.1 inside)

-- parts that share no address are all held once they are written, and nothing else has changed
pub holds_parts : (parts : List Part) (m : Memory) → AreApart parts → AreOn m parts → HoldsParts parts m (filled_with parts m)
holds_parts [] m apart on = record { base = refl; size = refl; own = tt; others = λ address low is. refl }
holds_parts (p ∷ ps) m apart on =
    let rest = holds_parts ps (written m p.at p.bytes) apart.1 (kept_on m p ps on.0 on.1) in
    let a = on.0.above in
    record {
      base = rest.base;
      size = rest.size ∙ written_size m p on.0;
      own = (λ offset inside. rest.others (p.at + offset) (omega arith) (apart_in p ps offset apart.0 inside) ∙ written_own m p on.0 offset inside, rest.own);
      others = λ address low is.
          let both = either_false _ _ is in
          rest.others address low both.1 ∙ written_other m p on.0 address low both.0;
    }

-- parts written behind parts are one list of them
pub filled_append : (ps qs : List Part) (m : Memory) → filled_with (ps ++ qs) m ≡ filled_with qs (filled_with ps m)
filled_append [] qs m = refl
filled_append (p ∷ ps) qs m = filled_append ps qs (written m p.at p.bytes)

-- they keep the size, so what lay on the memory still does
pub filled_size : (ps : List Part) (m : Memory) → AreOn m ps → length (filled_with ps m).bytes ≡ length m.bytes
filled_size [] m on = refl
filled_size (p ∷ ps) m on = filled_size ps (written m p.at p.bytes) (kept_on m p ps on.0 on.1) ∙ written_size m p on.0

pub filled_base : (ps : List Part) (m : Memory) → (filled_with ps m).base ≡ m.base
filled_base [] m = refl
filled_base (p ∷ ps) m = filled_base ps (written m p.at p.bytes)

pub filled_on : (ps qs : List Part) (m : Memory) → AreOn m ps → AreOn m qs → AreOn (filled_with ps m) qs
filled_on [] qs m on others = others
filled_on (p ∷ ps) qs m on others =
    filled_on ps qs (written m p.at p.bytes) (kept_on m p ps on.0 on.1) (kept_on m p qs on.0 others)

pub on_front : (ps qs : List Part) (m : Memory) → AreOn m (ps ++ qs) → AreOn m ps
on_front [] qs m on = tt
on_front (p ∷ ps) qs m on = (on.0, on_front ps qs m on.1)

pub on_back : (ps qs : List Part) (m : Memory) → AreOn m (ps ++ qs) → AreOn m qs
on_back [] qs m on = on
on_back (p ∷ ps) qs m on = on_back ps qs m on.1
