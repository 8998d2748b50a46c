use Rattle.std.proofs.Common.{◌≡◌, ℕ, ◌+◌, ◌<◌, ◌≤◌, Bool, true, false, List, [], ◌∷◌, ◌++◌, Option, None, Some, length, take, drop, get_or, refl, sym, ap, ◌∙◌, append_assoc, cond, max, arith}
use Rattle.std.proofs.lemmas.List.{drop_more, take_more}
use Rattle.c6x_base.specs.declared.limits.TheConstants.{MOST_FILE_BYTES}
use Rattle.c6x_spec.specs.Rounded.{rounded}
use Rattle.c6x_spec.proofs.LeastPlaces.{above_place}
use Rattle.c6x_elf.specs.Parts.{has_bytes}
use Rattle.c6x_elf.specs.Writing.{AreWithin, end_of, home_of, is_inside, offset_end, offsets_end, spot_from, spot_of, spots, spots_end, step_of}
use Rattle.c6x_elf.specs.declared.section.Section.{Section}
use Rattle.c6x_elf.specs.declared.segment.Segment.{Segment}
use Rattle.c6x_elf.specs.declared.spot.Spot.{Spot}

-- a list from its element number k on, and with that element
pub from_element : {A : Type 0} (xs : List A) (k : ℕ) (x : A) → k < length xs → x ≡ get_or xs k x → drop k xs ≡ x ∷ drop (k + 1) xs
from_element xs k x below is = drop_more xs k x below ∙ ap (λ y. y ∷ drop (k + 1) xs) (sym is)

pub to_element : {A : Type 0} (xs : List A) (k : ℕ) (x : A) → k < length xs → x ≡ get_or xs k x → take (k + 1) xs ≡ take k xs ++ x ∷ []
to_element xs k x below is = take_more xs k x below ∙ ap (λ y. take k xs ++ y ∷ []) (sym is)

end_above_from : (home : Option ℕ) (from : ℕ) (segment : Segment) → from ≤ end_of (spot_from home from segment) from segment
unfolding end_of
end_above_from None from segment = omega (arith, above_place from segment.vaddr (step_of segment.align))
end_above_from (Some at) from segment = omega arith

pub end_of_above : (earlier : List Segment) (had : List Spot) (from : ℕ) (segment : Segment) → from ≤ end_of (spot_of earlier had from segment) from segment
unfolding spot_of
end_of_above earlier had from segment = end_above_from (home_of segment earlier had) from segment

pub spots_end_above : (earlier : List Segment) (had : List Spot) (from : ℕ) (segments : List Segment) → from ≤ spots_end earlier had from segments
spots_end_above earlier had from [] = omega arith
spots_end_above earlier had from (segment ∷ segments) =
    let spot = spot_of earlier had from segment in
    let here : from ≤ end_of spot from segment = end_of_above earlier had from segment in
    let later : end_of spot from segment ≤ spots_end (earlier ++ segment ∷ []) (had ++ spot ∷ []) (end_of spot from segment) segments =
    spots_end_above (earlier ++ segment ∷ []) (had ++ spot ∷ []) (end_of spot from segment) segments in
    omega arith

-- one segment on
spots_end_step : (segments : List Segment) (had : List Spot) (from k : ℕ) (segment : Segment) → k < length segments → segment ≡ get_or segments k segment → spots_end (take k segments) had from (drop k segments) ≡ spots_end (take (k + 1) segments) (had ++ spot_of (take k segments) had from segment ∷ []) (end_of (spot_of (take k segments) had from segment) from segment) (drop (k + 1) segments)
spots_end_step segments had from k segment below is =
    let spot = spot_of (take k segments) had from segment in
    ap (spots_end (take k segments) had from) (from_element segments k segment below is)
    ∙ ap (λ front. spots_end front (had ++ spot ∷ []) (end_of spot from segment) (drop (k + 1) segments))
    (sym (to_element segments k segment below is))

spots_step : (segments : List Segment) (had : List Spot) (from k : ℕ) (segment : Segment) → k < length segments → segment ≡ get_or segments k segment → spots (take k segments) had from (drop k segments) ≡ spot_of (take k segments) had from segment ∷ spots (take (k + 1) segments) (had ++ spot_of (take k segments) had from segment ∷ []) (end_of (spot_of (take k segments) had from segment) from segment) (drop (k + 1) segments)
spots_step segments had from k segment below is =
    let spot = spot_of (take k segments) had from segment in
    ap (spots (take k segments) had from) (from_element segments k segment below is)
    ∙ ap (λ front. spot ∷ spots front (had ++ spot ∷ []) (end_of spot from segment) (drop (k + 1) segments))
    (sym (to_element segments k segment below is))

-- one spot more
pub spots_pushed : (segments : List Segment) (had new : List Spot) (from k : ℕ) (segment : Segment) (spot : Spot) (end : ℕ) (all : List Spot) → k < length segments → segment ≡ get_or segments k segment → spot ≡ spot_of (take k segments) had from segment → new ≡ had ++ spot ∷ [] → end ≡ end_of spot from segment → had ++ spots (take k segments) had from (drop k segments) ≡ all → new ++ spots (take (k + 1) segments) new end (drop (k + 1) segments) ≡ all
spots_pushed segments had new from k segment spot end all below is made pushed ends was =
    rw (ends, pushed, made, append_assoc) (ap (λ rest. had ++ rest) (sym (spots_step segments had from k segment below is)) ∙ was)

pub spots_end_pushed : (segments : List Segment) (had new : List Spot) (from k : ℕ) (segment : Segment) (spot : Spot) (end total : ℕ) → k < length segments → segment ≡ get_or segments k segment → spot ≡ spot_of (take k segments) had from segment → new ≡ had ++ spot ∷ [] → end ≡ end_of spot from segment → spots_end (take k segments) had from (drop k segments) ≡ total → spots_end (take (k + 1) segments) new end (drop (k + 1) segments) ≡ total
spots_end_pushed segments had new from k segment spot end total below is made pushed ends was =
    rw (ends, pushed, made) (sym (spots_end_step segments had from k segment below is) ∙ was)

within_push : (segments : List Segment) (had : List Spot) (segment : Segment) (spot : Spot) → length had ≡ length segments → AreWithin segments had → spot.at + length segment.bytes ≤ MOST_FILE_BYTES → AreWithin (segments ++ segment ∷ []) (had ++ spot ∷ [])
within_push [] [] segment spot same within fits = (fits, tt)
within_push [] (x ∷ xs) segment spot same within fits = absurd (omega arith)
within_push (s ∷ ss) [] segment spot same within fits = absurd (omega arith)
within_push (s ∷ ss) (x ∷ xs) segment spot same within fits = (within.0, within_push ss xs segment spot (omega arith) within.1 fits)

pub within_pushed : (segments : List Segment) (had new : List Spot) (k : ℕ) (segment : Segment) (spot : Spot) → k < length segments → segment ≡ get_or segments k segment → length had ≡ length (take k segments) → new ≡ had ++ spot ∷ [] → AreWithin (take k segments) had → spot.at + length segment.bytes ≤ MOST_FILE_BYTES → AreWithin (take (k + 1) segments) new
within_pushed segments had new k segment spot below is same pushed within fits =
    rw (pushed, to_element segments k segment below is) (within_push (take k segments) had segment spot same within fits)

-- an earlier segment that has not the bytes is passed over
pub home_more : (segment : Segment) (earlier : List Segment) (had : List Spot) (k : ℕ) (other : Segment) (d : Spot) → k < length earlier → k < length had → other ≡ get_or earlier k other → is_inside segment other ≡ false → home_of segment (drop k earlier) (drop k had) ≡ home_of segment (drop (k + 1) earlier) (drop (k + 1) had)
home_more segment earlier had k other d below within is outside =
    rw (from_element earlier k other below is, drop_more had k d within, outside) refl

pub within_more : (earlier : List Segment) (had : List Spot) (k : ℕ) (other : Segment) (d : Spot) → k < length earlier → k < length had → AreWithin (drop k earlier) (drop k had) → AreWithin (drop (k + 1) earlier) (drop (k + 1) had)
within_more earlier had k other d below inside within =
    (rw (drop_more earlier k other below, drop_more had k d inside) at within).1

-- sections on the way
pub rounded_above : (from align : ℕ) → 1 ≤ align → from ≤ rounded from align
rounded_above from align some = omega arith

above_if : (bytes : Bool) (from a b : ℕ) → from ≤ a → from ≤ cond bytes (a + b) from
above_if true from a b above = omega arith
above_if false from a b above = omega arith

offset_end_above : (from : ℕ) (section : Section) → from ≤ offset_end from section
unfolding offset_end
offset_end_above from section =
    above_if (has_bytes section.kind) from (rounded from (max section.align 1)) (length section.bytes)
    (rounded_above from (max section.align 1) (omega arith))

pub offsets_end_above : (from : ℕ) (sections : List Section) → from ≤ offsets_end from sections
offsets_end_above from [] = omega arith
offsets_end_above from (section ∷ sections) =
    omega (arith, offset_end_above from section, offsets_end_above (offset_end from section) sections)

-- the whole is past the limit where a part of it is
pub place_past : (segments : List Segment) (had : List Spot) (from k : ℕ) (segment : Segment) (total : ℕ) → k < length segments → segment ≡ get_or segments k segment → spots_end (take k segments) had from (drop k segments) ≡ total → MOST_FILE_BYTES < end_of (spot_of (take k segments) had from segment) from segment → MOST_FILE_BYTES < total
place_past segments had from k segment total below is whole past =
    let spot = spot_of (take k segments) had from segment in
    let above = spots_end_above (take (k + 1) segments) (had ++ spot ∷ []) (end_of spot from segment) (drop (k + 1) segments) in
    omega (arith, above, spots_end_step segments had from k segment below is, whole)

pub offset_past : (sections : List Section) (at k : ℕ) (section : Section) (total : ℕ) → k < length sections → section ≡ get_or sections k section → offsets_end at (drop k sections) ≡ total → MOST_FILE_BYTES < offset_end at section → MOST_FILE_BYTES < total
offset_past sections at k section total below is whole past =
    let step : offsets_end at (drop k sections) ≡ offsets_end (offset_end at section) (drop (k + 1) sections) =
    ap (offsets_end at) (from_element sections k section below is) in
    omega (arith, offsets_end_above (offset_end at section) (drop (k + 1) sections), step, whole)
