-- Addresses of sections, found.
use Rattle.std.proofs.Common.{◌≡◌, ℕ, ◌+◌, ◌<◌, ◌≤◌, List, [], ◌∷◌, Option, None, Some, length, drop, get_or, drop-cons, add-one, Bool, true, false, ◌==◌, ◌&&◌, if◌then◌else◌, refl, ap, ◌∙◌}
use Rattle.std.proofs.Math.ListN.{drop_of_length-le}
use Rattle.c6x_layout.specs.declared.place.Place.{Place}
use Rattle.c6x_link.specs.Addresses.{address_in}
use Rattle.c6x_link.specs.SectionAddresses.{address_or_zero, found_in, key_of, same_key}
use Rattle.c6x_link.specs.declared.section_key.SectionKey.{SectionKey}

pub found_front : (ps : List Place) (i : ℕ) (d : Place) (key : SectionKey) → i < length ps → found_in (drop i ps) key ≡ (if same_key (key_of (get_or ps i d)) key then Some (get_or ps i d).address else found_in (drop (i + 1) ps) key)
found_front ps i d key below = ap (λ qs. found_in qs key) (drop-cons ps i d below) ∙ rw add-one refl

pub found_none : (ps : List Place) (i : ℕ) (key : SectionKey) → length ps ≤ i → found_in (drop i ps) key ≡ None
found_none ps i key past = ap (λ qs. found_in qs key) (drop_of_length-le ps past)

either : (b : Bool) (address : ℕ) (found : Option ℕ) (rest : ℕ) → address_or_zero found ≡ rest → address_or_zero (if b then Some address else found) ≡ (if b then address else rest)
either true address found rest is = refl
either false address found rest is = is

pub found_is : (ps : List Place) (object section : ℕ) → address_or_zero (found_in ps (record { object = object; section = section })) ≡ address_in ps object section
found_is [] object section = refl
found_is (p ∷ ps) object section =
    either (p.object == object && p.section == section) p.address (found_in ps (record { object = object; section = section })) (address_in ps object section) (found_is ps object section)

-- what the places give
pub address_is : (ps : List Place) (found : Option ℕ) (object section : ℕ) → found ≡ found_in ps (record { object = object; section = section }) → address_or_zero found ≡ address_in ps object section
address_is ps found object section is = ap address_or_zero is ∙ found_is ps object section
