use Rattle.std.proofs.Common.{◌≡◌, ℕ, cond, ◌+◌, ◌*◌, ◌<◌, ◌≤◌, Bool, true, false, List, [], ◌∷◌, ◌++◌, length, drop, get_or, refl, sym, ap, ◌∙◌, append_assoc, subst}
use Rattle.std.proofs.lemmas.List.{drop_more}
use Rattle.c6x_base.specs.declared.limits.TheConstants.{MOST_FILE_BYTES}
use Rattle.c6x_elf_headers.specs.HeadRows.{SectionsFit, SegmentsFit, section_rows, section_words, segment_rows, segment_words}
use Rattle.c6x_elf_headers.specs.Laid.{InOrder, Part, laid}
use Rattle.c6x_elf_headers.specs.Rows.{AreWords, word_row}
use Rattle.c6x_elf_headers.specs.declared.section_head.SectionHead.{SectionHead}
use Rattle.c6x_elf_headers.specs.declared.segment_head.SegmentHead.{SegmentHead}
use Rattle.c6x_elf.specs.Parts.{has_bytes}
use Rattle.c6x_elf.specs.Writing.{AreWithin, section_head_at, section_heads_at, section_parts, segment_head_at, segment_heads_at, segment_parts, with_section, with_segment}
use Rattle.c6x_elf.specs.declared.section.Section.{Section}
use Rattle.c6x_elf.specs.declared.segment.Segment.{Segment}
use Rattle.c6x_elf.specs.declared.spot.Spot.{Spot}
use Rattle.c6x_elf.proofs.Spots.{from_element}

-- a part that is there or not
with_part-append : (there : Bool) (part : Part) (parts rest : List Part) → cond there (part ∷ (parts ++ rest)) (parts ++ rest) ≡ cond there (part ∷ parts) parts ++ rest
with_part-append true part parts rest = refl
with_part-append false part parts rest = refl

part_alone : (there : Bool) (from : ℕ) (part : Part) (rest : List Part) → InOrder from (cond there (part ∷ rest) rest) → InOrder from (cond there (part ∷ []) [])
part_alone true from part rest order = (order.0, tt)
part_alone false from part rest order = tt

-- segments: headers and parts from number k on
segment_heads_step : (at : ℕ) (segments : List Segment) (spots : List Spot) (k : ℕ) (segment : Segment) (d : Spot) → k < length segments → k < length spots → segment ≡ get_or segments k segment → segment_heads_at at k (drop k segments) (drop k spots) ≡ segment_head_at (at + 32 * k) segment (get_or spots k d) ∷ segment_heads_at at (k + 1) (drop (k + 1) segments) (drop (k + 1) spots)
segment_heads_step at segments spots k segment d below within is =
    rw (from_element segments k segment below is, drop_more spots k d within) refl

pub segment_rows_step : (at : ℕ) (segments : List Segment) (spots : List Spot) (k : ℕ) (segment : Segment) (d : Spot) (head : SegmentHead) (out new all : List ℕ) → k < length segments → k < length spots → segment ≡ get_or segments k segment → head ≡ segment_head_at (at + 32 * k) segment (get_or spots k d) → new ≡ out ++ word_row false (segment_words head) → out ++ segment_rows false (segment_heads_at at k (drop k segments) (drop k spots)) ≡ all → new ++ segment_rows false (segment_heads_at at (k + 1) (drop (k + 1) segments) (drop (k + 1) spots)) ≡ all
unfolding segment_rows
segment_rows_step at segments spots k segment d head out new all below within is made put was =
    let rest = segment_heads_at at (k + 1) (drop (k + 1) segments) (drop (k + 1) spots) in
    let heads : segment_heads_at at k (drop k segments) (drop k spots) ≡ head ∷ rest =
    segment_heads_step at segments spots k segment d below within is ∙ ap (λ h. h ∷ rest) (sym made) in
    ap (λ front. front ++ segment_rows false rest) put
    ∙ append_assoc out (word_row false (segment_words head)) (segment_rows false rest)
    ∙ ap (λ hs. out ++ segment_rows false hs) (sym heads) ∙ was

pub segment_fit_step : (at : ℕ) (segments : List Segment) (spots : List Spot) (k : ℕ) (segment : Segment) (d : Spot) (head : SegmentHead) (all : List SegmentHead) → k < length segments → k < length spots → segment ≡ get_or segments k segment → head ≡ segment_head_at (at + 32 * k) segment (get_or spots k d) → AreWords (segment_words head) → (SegmentsFit (segment_heads_at at k (drop k segments) (drop k spots)) → SegmentsFit all) → SegmentsFit (segment_heads_at at (k + 1) (drop (k + 1) segments) (drop (k + 1) spots)) → SegmentsFit all
segment_fit_step at segments spots k segment d head all below within is made fits was rest =
    let P : List SegmentHead → Type 0 = λ hs. SegmentsFit hs in
    let Q : SegmentHead → Type 0 = λ h. AreWords (segment_words h) in
    was (subst P (sym (segment_heads_step at segments spots k segment d below within is)) (subst Q made fits, rest))

segment_parts_step : (segments : List Segment) (spots : List Spot) (k : ℕ) (segment : Segment) (d : Spot) → k < length segments → k < length spots → segment ≡ get_or segments k segment → segment_parts (drop k segments) (drop k spots) ≡ with_segment segment (get_or spots k d) (segment_parts (drop (k + 1) segments) (drop (k + 1) spots))
segment_parts_step segments spots k segment d below within is =
    rw (from_element segments k segment below is, drop_more spots k d within) refl

pub with_segment-append : (segment : Segment) (x : Spot) (parts rest : List Part) → with_segment segment x (parts ++ rest) ≡ with_segment segment x parts ++ rest
unfolding with_segment
with_segment-append segment x parts rest = with_part-append (x.fresh) _ parts rest

segment_alone : (from : ℕ) (segment : Segment) (x : Spot) (rest : List Part) → InOrder from (with_segment segment x rest) → InOrder from (with_segment segment x [])
unfolding with_segment
segment_alone from segment x rest order = part_alone (x.fresh) from _ rest order

pub segment_order_here : (segments : List Segment) (spots : List Spot) (k : ℕ) (segment : Segment) (d : Spot) (from : ℕ) → k < length segments → k < length spots → segment ≡ get_or segments k segment → InOrder from (segment_parts (drop k segments) (drop k spots)) → InOrder from (with_segment segment (get_or spots k d) [])
segment_order_here segments spots k segment d from below within is order =
    let P : List Part → Type 0 = λ ps. InOrder from ps in
    segment_alone from segment (get_or spots k d) (segment_parts (drop (k + 1) segments) (drop (k + 1) spots))
    (subst P (segment_parts_step segments spots k segment d below within is) order)

pub segment_order_step : (segments : List Segment) (spots : List Spot) (k : ℕ) (segment : Segment) (d : Spot) (from new : ℕ) → k < length segments → k < length spots → segment ≡ get_or segments k segment → ((rest : List Part) → InOrder from (with_segment segment (get_or spots k d) rest) → InOrder new rest) → InOrder from (segment_parts (drop k segments) (drop k spots)) → InOrder new (segment_parts (drop (k + 1) segments) (drop (k + 1) spots))
segment_order_step segments spots k segment d from new below within is put order =
    let P : List Part → Type 0 = λ ps. InOrder from ps in
    put (segment_parts (drop (k + 1) segments) (drop (k + 1) spots)) (subst P (segment_parts_step segments spots k segment d below within is) order)

pub segment_laid_step : (segments : List Segment) (spots : List Spot) (k : ℕ) (segment : Segment) (d : Spot) (out new all : List ℕ) (from end : ℕ) (rest : List Part) → k < length segments → k < length spots → segment ≡ get_or segments k segment → ((parts : List Part) → new ++ laid end parts ≡ out ++ laid from (with_segment segment (get_or spots k d) parts)) → out ++ laid from (segment_parts (drop k segments) (drop k spots) ++ rest) ≡ all → new ++ laid end (segment_parts (drop (k + 1) segments) (drop (k + 1) spots) ++ rest) ≡ all
segment_laid_step segments spots k segment d out new all from end rest below within is put was =
    let parts = segment_parts (drop (k + 1) segments) (drop (k + 1) spots) in
    put (parts ++ rest)
    ∙ ap (λ ps. out ++ laid from ps)
    (with_segment-append segment (get_or spots k d) parts rest
    ∙ ap (λ ps. ps ++ rest) (sym (segment_parts_step segments spots k segment d below within is)))
    ∙ was

-- sections: headers and parts from number k on
section_heads_step : (at : ℕ) (sections : List Section) (offsets : List ℕ) (k : ℕ) (section : Section) (d : ℕ) → k < length sections → k < length offsets → section ≡ get_or sections k section → section_heads_at at k (drop k sections) (drop k offsets) ≡ section_head_at (at + 40 * k) section (get_or offsets k d) ∷ section_heads_at at (k + 1) (drop (k + 1) sections) (drop (k + 1) offsets)
section_heads_step at sections offsets k section d below within is =
    rw (from_element sections k section below is, drop_more offsets k d within) refl

pub section_rows_step : (at : ℕ) (sections : List Section) (offsets : List ℕ) (k : ℕ) (section : Section) (d : ℕ) (head : SectionHead) (out new all : List ℕ) → k < length sections → k < length offsets → section ≡ get_or sections k section → head ≡ section_head_at (at + 40 * k) section (get_or offsets k d) → new ≡ out ++ word_row false (section_words head) → out ++ section_rows false (section_heads_at at k (drop k sections) (drop k offsets)) ≡ all → new ++ section_rows false (section_heads_at at (k + 1) (drop (k + 1) sections) (drop (k + 1) offsets)) ≡ all
unfolding section_rows
section_rows_step at sections offsets k section d head out new all below within is made put was =
    let rest = section_heads_at at (k + 1) (drop (k + 1) sections) (drop (k + 1) offsets) in
    let heads : section_heads_at at k (drop k sections) (drop k offsets) ≡ head ∷ rest =
    section_heads_step at sections offsets k section d below within is ∙ ap (λ h. h ∷ rest) (sym made) in
    ap (λ front. front ++ section_rows false rest) put
    ∙ append_assoc out (word_row false (section_words head)) (section_rows false rest)
    ∙ ap (λ hs. out ++ section_rows false hs) (sym heads) ∙ was

pub section_fit_step : (at : ℕ) (sections : List Section) (offsets : List ℕ) (k : ℕ) (section : Section) (d : ℕ) (head : SectionHead) (all : List SectionHead) → k < length sections → k < length offsets → section ≡ get_or sections k section → head ≡ section_head_at (at + 40 * k) section (get_or offsets k d) → AreWords (section_words head) → (SectionsFit (section_heads_at at k (drop k sections) (drop k offsets)) → SectionsFit all) → SectionsFit (section_heads_at at (k + 1) (drop (k + 1) sections) (drop (k + 1) offsets)) → SectionsFit all
section_fit_step at sections offsets k section d head all below within is made fits was rest =
    let P : List SectionHead → Type 0 = λ hs. SectionsFit hs in
    let Q : SectionHead → Type 0 = λ h. AreWords (section_words h) in
    was (subst P (sym (section_heads_step at sections offsets k section d below within is)) (subst Q made fits, rest))

section_parts_step : (sections : List Section) (offsets : List ℕ) (k : ℕ) (section : Section) (d : ℕ) → k < length sections → k < length offsets → section ≡ get_or sections k section → section_parts (drop k sections) (drop k offsets) ≡ with_section section (get_or offsets k d) (section_parts (drop (k + 1) sections) (drop (k + 1) offsets))
section_parts_step sections offsets k section d below within is =
    rw (from_element sections k section below is, drop_more offsets k d within) refl

pub with_section-append : (section : Section) (x : ℕ) (parts rest : List Part) → with_section section x (parts ++ rest) ≡ with_section section x parts ++ rest
unfolding with_section
with_section-append section x parts rest = with_part-append (has_bytes section.kind) _ parts rest

section_alone : (from : ℕ) (section : Section) (x : ℕ) (rest : List Part) → InOrder from (with_section section x rest) → InOrder from (with_section section x [])
unfolding with_section
section_alone from section x rest order = part_alone (has_bytes section.kind) from _ rest order

pub section_order_here : (sections : List Section) (offsets : List ℕ) (k : ℕ) (section : Section) (d : ℕ) (from : ℕ) → k < length sections → k < length offsets → section ≡ get_or sections k section → InOrder from (section_parts (drop k sections) (drop k offsets)) → InOrder from (with_section section (get_or offsets k d) [])
section_order_here sections offsets k section d from below within is order =
    let P : List Part → Type 0 = λ ps. InOrder from ps in
    section_alone from section (get_or offsets k d) (section_parts (drop (k + 1) sections) (drop (k + 1) offsets))
    (subst P (section_parts_step sections offsets k section d below within is) order)

pub section_order_step : (sections : List Section) (offsets : List ℕ) (k : ℕ) (section : Section) (d : ℕ) (from new : ℕ) → k < length sections → k < length offsets → section ≡ get_or sections k section → ((rest : List Part) → InOrder from (with_section section (get_or offsets k d) rest) → InOrder new rest) → InOrder from (section_parts (drop k sections) (drop k offsets)) → InOrder new (section_parts (drop (k + 1) sections) (drop (k + 1) offsets))
section_order_step sections offsets k section d from new below within is put order =
    let P : List Part → Type 0 = λ ps. InOrder from ps in
    put (section_parts (drop (k + 1) sections) (drop (k + 1) offsets)) (subst P (section_parts_step sections offsets k section d below within is) order)

pub section_laid_step : (sections : List Section) (offsets : List ℕ) (k : ℕ) (section : Section) (d : ℕ) (out new all : List ℕ) (from end : ℕ) (rest : List Part) → k < length sections → k < length offsets → section ≡ get_or sections k section → ((parts : List Part) → new ++ laid end parts ≡ out ++ laid from (with_section section (get_or offsets k d) parts)) → out ++ laid from (section_parts (drop k sections) (drop k offsets) ++ rest) ≡ all → new ++ laid end (section_parts (drop (k + 1) sections) (drop (k + 1) offsets) ++ rest) ≡ all
section_laid_step sections offsets k section d out new all from end rest below within is put was =
    let parts = section_parts (drop (k + 1) sections) (drop (k + 1) offsets) in
    put (parts ++ rest)
    ∙ ap (λ ps. out ++ laid from ps)
    (with_section-append section (get_or offsets k d) parts rest
    ∙ ap (λ ps. ps ++ rest) (sym (section_parts_step sections offsets k section d below within is)))
    ∙ was

-- the first bound of those that are left
pub within_here : (segments : List Segment) (spots : List Spot) (k : ℕ) (segment : Segment) (d : Spot) → k < length segments → k < length spots → segment ≡ get_or segments k segment → AreWithin (drop k segments) (drop k spots) → (get_or spots k d).at + length segment.bytes ≤ MOST_FILE_BYTES
within_here segments spots k segment d below inside is within =
    (rw (from_element segments k segment below is, drop_more spots k d inside) at within).0

pub segment_orders_step : (segments : List Segment) (spots : List Spot) (k : ℕ) (segment : Segment) (d : Spot) (from new : ℕ) (rest : List Part) → k < length segments → k < length spots → segment ≡ get_or segments k segment → ((parts : List Part) → InOrder from (with_segment segment (get_or spots k d) parts) → InOrder new parts) → InOrder from (segment_parts (drop k segments) (drop k spots) ++ rest) → InOrder new (segment_parts (drop (k + 1) segments) (drop (k + 1) spots) ++ rest)
segment_orders_step segments spots k segment d from new rest below within is put order =
    let P : List Part → Type 0 = λ ps. InOrder from ps in
    let parts = segment_parts (drop (k + 1) segments) (drop (k + 1) spots) in
    put (parts ++ rest)
    (subst P
    (ap (λ ps. ps ++ rest) (segment_parts_step segments spots k segment d below within is)
    ∙ sym (with_segment-append segment (get_or spots k d) parts rest))
    order)

pub section_orders_step : (sections : List Section) (offsets : List ℕ) (k : ℕ) (section : Section) (d : ℕ) (from new : ℕ) (rest : List Part) → k < length sections → k < length offsets → section ≡ get_or sections k section → ((parts : List Part) → InOrder from (with_section section (get_or offsets k d) parts) → InOrder new parts) → InOrder from (section_parts (drop k sections) (drop k offsets) ++ rest) → InOrder new (section_parts (drop (k + 1) sections) (drop (k + 1) offsets) ++ rest)
section_orders_step sections offsets k section d from new rest below within is put order =
    let P : List Part → Type 0 = λ ps. InOrder from ps in
    let parts = section_parts (drop (k + 1) sections) (drop (k + 1) offsets) in
    put (parts ++ rest)
    (subst P
    (ap (λ ps. ps ++ rest) (section_parts_step sections offsets k section d below within is)
    ∙ sym (with_section-append section (get_or offsets k d) parts rest))
    order)
