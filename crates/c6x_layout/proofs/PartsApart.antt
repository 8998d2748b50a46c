-- Parts laid one behind the other lie apart.
use Rattle.std.proofs.Common.{◌≡◌, ◌⊎◌, inl, inr, ℕ, ◌+◌, ◌*◌, ◌==◌, ◌≤◌, Bool, true, false, List, [], ◌∷◌, ◌++◌, Option, None, Some, length, refl, arith, if◌then◌else◌}
use Rattle.std.proofs.lemmas.Bool.Decides.{nat_tests}
use Rattle.c6x_spec.specs.Rounded.{rounded}
use Rattle.c6x_spec.proofs.RoundedUp.{rounded_is_least}
use Rattle.c6x_layout.specs.declared.file_limits.TheConstants.{TEXT_START}
use Rattle.c6x_symbols.specs.declared.part.Part.{Part}
use Rattle.c6x_symbols.specs.Bindings.{BoundName}
use Rattle.c6x_layout.proofs.Bounds.{stubs_end}
use Rattle.c6x_layout.proofs.Laid.{start_above}
use Rattle.c6x_layout.proofs.Sized.{ordered}
use Rattle.c6x_layout.specs.Layouts.{Laying, data_end, far_zeros_end, file_end, group_in, near_bytes_end, near_end, near_zeros_end, places_of, sections_end, stubs_at, table_at, words_at, words_end}
use Rattle.c6x_layout.specs.Places.{AreApart as PlacesAreApart, CommonRoom, address_or, common_room, commons_end, commons_from, end_or, in_far_bytes, in_far_zeros, in_near_bytes, in_near_zeros, in_text, places_end, places_from, start_of}
use Rattle.c6x_layout.specs.declared.limits.TheConstants.{STUB_ALIGN}
use Rattle.c6x_layout.specs.declared.place.Place.{Place}
use Rattle.c6x_layout.specs.Apart.{AreApart, CommonIsApart, CommonsAreApart}

apart_from : (from : ℕ) (ps : List Part) (end : ℕ) → places_end from ps ≤ end → PlacesAreApart from (places_from from ps) end
apart_from from [] end within = within
apart_from from (p ∷ ps) end within = (start_above from p.align, apart_from (start_of from p.align + p.size) ps end within)

apart_earlier : (early from : ℕ) (ps : List Place) (end : ℕ) → early ≤ from → PlacesAreApart from ps end → PlacesAreApart early ps end
apart_earlier early from [] end before within = omega (arith, before, within)
apart_earlier early from (p ∷ ps) end before within = (omega (arith, before, within.0), within.1)

apart_append : (from mid later : ℕ) (ps qs : List Place) (end : ℕ) → PlacesAreApart from ps mid → mid ≤ later → PlacesAreApart later qs end → PlacesAreApart from (ps ++ qs) end
apart_append from mid later [] qs end front between back = apart_earlier from later qs end (omega (arith, front, between)) back
apart_append from mid later (p ∷ ps) qs end front between back =
    (front.0, apart_append (p.address + p.len) mid later ps qs end front.1 between back)

common_case : (near : Bool) (bs : List BoundName) (room : Option CommonRoom) (from end : ℕ) → ((at : ℕ) → commons_end near at bs ≤ end → CommonsAreApart near bs (commons_from near at bs) end at) → commons_end near (end_or from room) bs ≤ end → CommonIsApart room from (address_or from room) (CommonsAreApart near bs (commons_from near (end_or from room) bs) end)
common_case near bs None from end each within = each from within
common_case near bs (Some room) from end each within =
    (start_above from room.align, each (start_of from room.align + room.size) within)

commons_apart : (near : Bool) (bs : List BoundName) (from end : ℕ) → commons_end near from bs ≤ end → CommonsAreApart near bs (commons_from near from bs) end from
commons_apart near [] from end within = within
commons_apart near (b ∷ bs) from end within =
    common_case near bs (common_room near b) from end (λ at. commons_apart near bs at end) within

stubs_case : (b : Bool) (stubs sections : ℕ) → (stubs == 0) ≡ b → (stubs ≡ 0) ⊎ (sections ≤ (if b then 0 else rounded sections STUB_ALIGN))
stubs_case true stubs sections is = let none : stubs ≡ 0 = grind (arith, nat_tests) in inl none
stubs_case false stubs sections is = inr (rounded_is_least sections STUB_ALIGN (omega arith)).not_below

stubs_apart : (l : Laying) → (length l.stubs ≡ 0) ⊎ (sections_end l ≤ stubs_at l)
unfolding stubs_at
stubs_apart l = stubs_case (length l.stubs == 0) (length l.stubs) (sections_end l) refl

slots_apart : (l : Laying) → table_at l + 4 * l.plan.table ≤ words_at l
unfolding words_at
slots_apart l = omega arith

words_apart : (l : Laying) → words_at l + 4 * (length l.words + length l.stubs) ≤ words_end l
unfolding words_end
words_apart l = omega arith

near_commons_apart : (l : Laying) → CommonsAreApart true l.bindings (commons_from true (near_zeros_end l) l.bindings) (near_end l) (near_zeros_end l)
unfolding near_end
near_commons_apart l = commons_apart true l.bindings (near_zeros_end l) (commons_end true (near_zeros_end l) l.bindings) (omega arith)

far_commons_apart : (l : Laying) → CommonsAreApart false l.bindings (commons_from false (far_zeros_end l) l.bindings) (data_end l) (far_zeros_end l)
unfolding data_end
far_commons_apart l = commons_apart false l.bindings (far_zeros_end l) (commons_end false (far_zeros_end l) l.bindings) (omega arith)

text_group : (l : Laying) → PlacesAreApart TEXT_START (places_from TEXT_START (group_in in_text l)) (sections_end l)
unfolding sections_end
text_group l = apart_from TEXT_START (group_in in_text l) (places_end TEXT_START (group_in in_text l)) (omega arith)

near_bytes_group : (l : Laying) → PlacesAreApart (words_end l) (places_from (words_end l) (group_in in_near_bytes l)) (near_bytes_end l)
unfolding near_bytes_end
near_bytes_group l = apart_from (words_end l) (group_in in_near_bytes l) (places_end (words_end l) (group_in in_near_bytes l)) (omega arith)

near_zeros_group : (l : Laying) → PlacesAreApart (near_bytes_end l) (places_from (near_bytes_end l) (group_in in_near_zeros l)) (near_zeros_end l)
unfolding near_zeros_end
near_zeros_group l = apart_from (near_bytes_end l) (group_in in_near_zeros l) (places_end (near_bytes_end l) (group_in in_near_zeros l)) (omega arith)

far_bytes_group : (l : Laying) → PlacesAreApart (near_end l) (places_from (near_end l) (group_in in_far_bytes l)) (file_end l)
unfolding file_end
far_bytes_group l = apart_from (near_end l) (group_in in_far_bytes l) (places_end (near_end l) (group_in in_far_bytes l)) (omega arith)

far_zeros_group : (l : Laying) → PlacesAreApart (file_end l) (places_from (file_end l) (group_in in_far_zeros l)) (far_zeros_end l)
unfolding far_zeros_end
far_zeros_group l = apart_from (file_end l) (group_in in_far_zeros l) (places_end (file_end l) (group_in in_far_zeros l)) (omega arith)

apart_later : (from : ℕ) (ps : List Place) (end later : ℕ) → end ≤ later → PlacesAreApart from ps end → PlacesAreApart from ps later
apart_later from [] end later behind within = omega (arith, behind, within)
apart_later from (p ∷ ps) end later behind within = (within.0, apart_later (p.address + p.len) ps end later behind within.1)

sections_apart : (l : Laying) → PlacesAreApart TEXT_START (places_of l) (data_end l)
unfolding places_of
sections_apart l =
    let o = ordered l in
    let behind_text : sections_end l ≤ words_end l = omega (arith, o.code, o.text, o.below, o.words, o.start) in
    apart_append TEXT_START (sections_end l) (words_end l) (places_from TEXT_START (group_in in_text l)) _ (data_end l) (text_group l) behind_text
    (apart_append (words_end l) (near_bytes_end l) (near_bytes_end l) (places_from (words_end l) (group_in in_near_bytes l)) _ (data_end l) (near_bytes_group l) (omega arith)
    (apart_append (near_bytes_end l) (near_zeros_end l) (near_end l) (places_from (near_bytes_end l) (group_in in_near_zeros l)) _ (data_end l) (near_zeros_group l) o.near
    (apart_append (near_end l) (file_end l) (file_end l) (places_from (near_end l) (group_in in_far_bytes l)) _ (data_end l) (far_bytes_group l) (omega arith)
    (apart_later (file_end l) (places_from (file_end l) (group_in in_far_zeros l)) (far_zeros_end l) (data_end l) o.far (far_zeros_group l)))))

pub apart : (l : Laying) → AreApart l
apart l =
    let o = ordered l in
    record {
      sections = sections_apart l;
      text = o.first;
      stubs = stubs_apart l;
      stubs_end = stubs_end l;
      code = o.code;
      tables = o.text;
      table = o.below;
      slots = slots_apart l;
      words = words_apart l;
      near_sections = o.near_bytes;
      near_zeros = o.near_zeros;
      near_commons = near_commons_apart l;
      near = o.near;
      file = o.far_bytes;
      far_zeros = o.far_zeros;
      far_commons = far_commons_apart l;
    }
