use Rattle.std.proofs.Common.{◌≡◌, ℕ, suc, ◌+◌, ◌-◌, ◌*◌, ◌≤◌, ◌==◌, Bool, true, false, cond, max, List, [], ◌∷◌, ◌++◌, Option, None, Some, length, replicate, refl, sym, ap, ◌∙◌, length-append, zero-add, subst, arith}
use Rattle.std.proofs.lemmas.List.{length-replicate}
use Rattle.c6x_base.specs.declared.limits.TheConstants.{MOST_FILE_BYTES}
use Rattle.c6x_spec.specs.Rounded.{rounded}
use Rattle.c6x_elf_headers.specs.declared.file_head.FileHead.{FileHead}
use Rattle.c6x_elf_headers.specs.declared.section_head.SectionHead.{SectionHead}
use Rattle.c6x_elf_headers.specs.declared.segment_head.SegmentHead.{SegmentHead}
use Rattle.c6x_elf_headers.specs.HeadRows.{file_counts, file_kinds, file_row, file_words, ident, section_rows, section_words, segment_rows, segment_words}
use Rattle.c6x_elf_headers.specs.Laid.{InOrder, Part, laid}
use Rattle.c6x_elf_headers.specs.Rows.{half_row, word_row}
use Rattle.c6x_elf_headers.proofs.NumberRows.{length-half_row, length-word_row}
use Rattle.c6x_elf.specs.Parts.{has_bytes}
use Rattle.c6x_elf.specs.Writing.{end_of, front_part, head_of, home_of, offset_end, offset_of, offsets, offsets_end, offsets_of, section_heads_at, section_parts, sections_at, sections_end, segment_heads_at, segment_parts, segments_end, spot_from, spot_of, spots, spots_end, spots_of, start_of, step_of, table_parts, with_section, with_segment, written, written_size}
use Rattle.c6x_elf.specs.declared.file.File.{File}
use Rattle.c6x_elf.specs.declared.section.Section.{Section}
use Rattle.c6x_elf.specs.declared.segment.Segment.{Segment}
use Rattle.c6x_elf.specs.declared.spot.Spot.{Spot}
use Rattle.c6x_elf.proofs.Puts.{with_section-append, with_segment-append}
use Rattle.c6x_spec.proofs.LeastPlaces.{above_place}
use Rattle.c6x_elf.proofs.Spots.{rounded_above}

-- as many spots and offsets as parts
pub length-spots : (earlier : List Segment) (had : List Spot) (from : ℕ) (segments : List Segment) → length (spots earlier had from segments) ≡ length segments
length-spots earlier had from [] = refl
length-spots earlier had from (segment ∷ segments) =
    let spot = spot_of earlier had from segment in
    ap suc (length-spots (earlier ++ segment ∷ []) (had ++ spot ∷ []) (end_of spot from segment) segments)

pub length-offsets : (from : ℕ) (sections : List Section) → length (offsets from sections) ≡ length sections
length-offsets from [] = refl
length-offsets from (section ∷ sections) = ap suc (length-offsets (offset_end from section) sections)

-- as many headers, of their sizes
pub length-segment_heads_at : (at k : ℕ) (segments : List Segment) (xs : List Spot) → length xs ≡ length segments → length (segment_heads_at at k segments xs) ≡ length segments
length-segment_heads_at at k [] xs same = refl
length-segment_heads_at at k (segment ∷ segments) [] same = absurd (omega arith)
length-segment_heads_at at k (segment ∷ segments) (x ∷ xs) same =
    ap suc (length-segment_heads_at at (k + 1) segments xs (omega arith))

pub length-section_heads_at : (at k : ℕ) (sections : List Section) (xs : List ℕ) → length xs ≡ length sections → length (section_heads_at at k sections xs) ≡ length sections
length-section_heads_at at k [] xs same = refl
length-section_heads_at at k (section ∷ sections) [] same = absurd (omega arith)
length-section_heads_at at k (section ∷ sections) (x ∷ xs) same =
    ap suc (length-section_heads_at at (k + 1) sections xs (omega arith))

length-segment_rows : (big : Bool) (heads : List SegmentHead) → length (segment_rows big heads) ≡ 32 * length heads
unfolding segment_rows
length-segment_rows big [] = refl
length-segment_rows big (head ∷ heads) =
    length-append (word_row big (segment_words head)) (segment_rows big heads)
    ∙ omega (arith, length-word_row big (segment_words head), length-segment_rows big heads)

length-section_rows : (big : Bool) (heads : List SectionHead) → length (section_rows big heads) ≡ 40 * length heads
unfolding section_rows
length-section_rows big [] = refl
length-section_rows big (head ∷ heads) =
    length-append (word_row big (section_words head)) (section_rows big heads)
    ∙ omega (arith, length-word_row big (section_words head), length-section_rows big heads)

pub length-file_row : (big : Bool) (head : FileHead) → length (file_row big head) ≡ 52
unfolding file_row
length-file_row big head =
    let kinds = half_row big (file_kinds head) in
    let words = word_row big (file_words head) in
    let counts = half_row big (file_counts head) in
    omega (
      arith,
      length-append (ident big) (kinds ++ (words ++ counts)),
      length-append kinds (words ++ counts),
      length-append words counts,
      length-half_row big (file_kinds head),
      length-word_row big (file_words head),
      length-half_row big (file_counts head),
    )

-- Parts in order from a place on, of which the last ends at another.
abbrev pub Chain : ℕ → List Part → ℕ → Type 0
Chain from [] end = from ≡ end
Chain from (part ∷ parts) end = (from ≤ part.at) × Chain (part.at + length part.bytes) parts end

pub chain_order : (from : ℕ) (parts : List Part) (end : ℕ) → Chain from parts end → InOrder from parts
chain_order from [] end chain = tt
chain_order from (part ∷ parts) end chain = (chain.0, chain_order (part.at + length part.bytes) parts end chain.1)

pub chain_length : (from : ℕ) (parts : List Part) (end : ℕ) → Chain from parts end → from + length (laid from parts) ≡ end
chain_length from [] end chain = omega (arith, chain)
chain_length from (part ∷ parts) end chain =
    let rest = laid (part.at + length part.bytes) parts in
    let above : from ≤ part.at = chain.0 in
    omega (
      arith,
      length-append (replicate (part.at - from) 0) (part.bytes ++ rest),
      length-append part.bytes rest,
      length-replicate {A = ℕ} (part.at - from) 0,
      chain_length (part.at + length part.bytes) parts end chain.1,
    )

pub order_front : (from : ℕ) (a b : List Part) → InOrder from (a ++ b) → InOrder from a
order_front from [] b order = tt
order_front from (part ∷ parts) b order = (order.0, order_front (part.at + length part.bytes) parts b order.1)

-- segments at their spots
spot_chain : (home : Option ℕ) (from : ℕ) (segment : Segment) (parts : List Part) (end : ℕ) → Chain (end_of (spot_from home from segment) from segment) parts end → Chain from (with_segment segment (spot_from home from segment) parts) end
unfolding end_of with_segment
spot_chain None from segment parts end chain = (above_place from segment.vaddr (step_of segment.align), chain)
spot_chain (Some at) from segment parts end chain = chain

spot_of_chain : (earlier : List Segment) (had : List Spot) (from : ℕ) (segment : Segment) (parts : List Part) (end : ℕ) → Chain (end_of (spot_of earlier had from segment) from segment) parts end → Chain from (with_segment segment (spot_of earlier had from segment) parts) end
unfolding spot_of
spot_of_chain earlier had from segment = spot_chain (home_of segment earlier had) from segment

pub spots_chain : (earlier : List Segment) (had : List Spot) (from : ℕ) (segments : List Segment) (rest : List Part) (end : ℕ) → Chain (spots_end earlier had from segments) rest end → Chain from (segment_parts segments (spots earlier had from segments) ++ rest) end
spots_chain earlier had from [] rest end chain = chain
spots_chain earlier had from (segment ∷ segments) rest end chain =
    let spot = spot_of earlier had from segment in
    let parts = segment_parts segments (spots (earlier ++ segment ∷ []) (had ++ spot ∷ []) (end_of spot from segment) segments) in
    let P : List Part → Type 0 = λ ps. Chain from ps end in
    subst P (with_segment-append segment spot parts rest)
    (spot_of_chain earlier had from segment (parts ++ rest) end
    (spots_chain (earlier ++ segment ∷ []) (had ++ spot ∷ []) (end_of spot from segment) segments rest end chain))

-- sections at their offsets
section_chain : (bytes : Bool) (from place : ℕ) (held : List ℕ) (parts : List Part) (end : ℕ) → from ≤ place → Chain (cond bytes (place + length held) from) parts end → Chain from (cond bytes (record { at = cond bytes place 0; bytes = held } ∷ parts) parts) end
section_chain true from place held parts end above chain = (above, chain)
section_chain false from place held parts end above chain = chain

offset_chain : (from : ℕ) (section : Section) (parts : List Part) (end : ℕ) → Chain (offset_end from section) parts end → Chain from (with_section section (offset_of from section) parts) end
unfolding offset_end offset_of with_section
offset_chain from section parts end chain =
    section_chain (has_bytes section.kind) from (rounded from (max section.align 1)) section.bytes parts end
    (rounded_above from (max section.align 1) (omega arith)) chain

pub offsets_chain : (from : ℕ) (sections : List Section) (rest : List Part) (end : ℕ) → Chain (offsets_end from sections) rest end → Chain from (section_parts sections (offsets from sections) ++ rest) end
offsets_chain from [] rest end chain = chain
offsets_chain from (section ∷ sections) rest end chain =
    let parts = section_parts sections (offsets (offset_end from section) sections) in
    let P : List Part → Type 0 = λ ps. Chain from ps end in
    subst P (with_section-append section (offset_of from section) parts rest)
    (offset_chain from section (parts ++ rest) end (offsets_chain (offset_end from section) sections rest end chain))

-- the section headers
table_chain_if : (none : Bool) (end n : ℕ) (rows : List ℕ) → length rows ≡ 40 * n → Chain end (cond none [] (record { at = cond none 0 (rounded end 4); bytes = rows } ∷ [])) (cond none end (rounded end 4 + 40 * n))
table_chain_if true end n rows long = refl
table_chain_if false end n rows long = (rounded_above end 4 (omega arith), ap (λ m. rounded end 4 + m) long)

length-table : (file : File) → length (section_rows false (section_heads_at (sections_at file) 0 file.sections (offsets_of file))) ≡ 40 * length file.sections
length-table file =
    length-section_rows false (section_heads_at (sections_at file) 0 file.sections (offsets_of file))
    ∙ ap (λ n. 40 * n) (length-section_heads_at (sections_at file) 0 file.sections (offsets_of file) (length-offsets (segments_end file) file.sections))

table_chain : (file : File) → Chain (sections_end file) (table_parts false file) (written_size file)
unfolding table_parts written_size sections_at
table_chain file =
    table_chain_if (length file.sections == 0) (sections_end file) (length file.sections)
    (section_rows false (section_heads_at (sections_at file) 0 file.sections (offsets_of file))) (length-table file)

-- the parts of a file
pub file_chain : (file : File) → Chain (start_of file) (segment_parts file.segments (spots_of file) ++ (section_parts file.sections (offsets_of file) ++ table_parts false file)) (written_size file)
file_chain file =
    spots_chain [] [] (start_of file) file.segments (section_parts file.sections (offsets_of file) ++ table_parts false file) (written_size file)
    (offsets_chain (segments_end file) file.sections (table_parts false file) (written_size file) (table_chain file))

pub length-front : (file : File) → length (front_part false file).bytes ≡ start_of file
unfolding front_part
length-front file =
    let rows = segment_rows false (segment_heads_at 52 0 file.segments (spots_of file)) in
    omega (
      arith,
      length-append (file_row false (head_of file)) rows,
      length-file_row false (head_of file),
      length-segment_rows false (segment_heads_at 52 0 file.segments (spots_of file)),
      length-segment_heads_at 52 0 file.segments (spots_of file) (length-spots [] [] (start_of file) file.segments),
    )

pub front-at : (file : File) → (front_part false file).at ≡ 0
unfolding front_part
front-at file = refl

pub written_chain : (file : File) → Chain 0 (front_part false file ∷ (segment_parts file.segments (spots_of file) ++ (section_parts file.sections (offsets_of file) ++ table_parts false file))) (written_size file)
written_chain file =
    let rest = segment_parts file.segments (spots_of file) ++ (section_parts file.sections (offsets_of file) ++ table_parts false file) in
    let P : ℕ → Type 0 = λ from. Chain from rest (written_size file) in
    let end : start_of file ≡ (front_part false file).at + length (front_part false file).bytes = omega (arith, front-at file, length-front file) in
    (omega arith, subst P end (file_chain file))

pub length-written : (file : File) → length (written false file) ≡ written_size file
unfolding written
length-written file =
    let rest = segment_parts file.segments (spots_of file) ++ (section_parts file.sections (offsets_of file) ++ table_parts false file) in
    sym (zero-add (length (laid 0 (front_part false file ∷ rest)))) ∙ chain_length 0 (front_part false file ∷ rest) (written_size file) (written_chain file)

-- the bytes of a file, front first
pub written_from : (file : File) (front : List ℕ) (from : ℕ) → front ≡ (front_part false file).bytes → from ≡ start_of file → front ++ laid from (segment_parts file.segments (spots_of file) ++ (section_parts file.sections (offsets_of file) ++ table_parts false file)) ≡ written false file
unfolding written
written_from file front from is at =
    let rest = segment_parts file.segments (spots_of file) ++ (section_parts file.sections (offsets_of file) ++ table_parts false file) in
    let end : from ≡ (front_part false file).at + length (front_part false file).bytes = omega (arith, front-at file, length-front file) in
    let gap : replicate ((front_part false file).at - 0) 0 ≡ [] = ap (λ n. replicate (n - 0) 0) (front-at file) in
    ap (λ n. front ++ laid n rest) end ∙ ap (λ xs. xs ++ laid ((front_part false file).at + length (front_part false file).bytes) rest) is
    ∙ ap (λ zeros. zeros ++ ((front_part false file).bytes ++ laid ((front_part false file).at + length (front_part false file).bytes) rest)) (sym gap)

-- the section headers lie in the written form
fits_if : (none : Bool) (end n : ℕ) → none ≡ false → cond none end (rounded end 4 + 40 * n) ≤ MOST_FILE_BYTES → cond none 0 (rounded end 4) + 40 * n ≤ MOST_FILE_BYTES
fits_if true end n some fits = cc
fits_if false end n some fits = fits

pub table_fits : (file : File) → (length file.sections == 0) ≡ false → written_size file ≤ MOST_FILE_BYTES → sections_at file + 40 * length file.sections ≤ MOST_FILE_BYTES
unfolding written_size sections_at
table_fits file some fits = fits_if (length file.sections == 0) (sections_end file) (length file.sections) some fits
