use Rattle.std.proofs.Common.{◌≡◌, ℕ, ◌+◌, ◌*◌, ◌≤◌, ◌==◌, ◌||◌, Bool, true, false, cond, List, [], ◌∷◌, ◌++◌, None, length, map, sum_by, nat_le, refl, sym, ap, ◌∙◌, zero-add, subst, arith}
use Rattle.std.proofs.lemmas.List.{nil_from_length}
use Rattle.std.proofs.lemmas.Bool.Decides.{nat_tests}
use Rattle.c6x_base.specs.declared.limits.TheConstants.{MOST_FILE_BYTES}
use Rattle.c6x_spec.specs.Rounded.{rounded}
use Rattle.c6x_elf_headers.specs.Header.{HeadKeeps, header_refusal}
use Rattle.c6x_elf_headers.specs.Heads.{file_head, is_big, section_heads, segment_heads}
use Rattle.c6x_elf_headers.specs.Rules.{along_both, along_parts, must}
use Rattle.c6x_elf_headers.specs.declared.elf_rule.ElfRule.TheVariants.{Short}
use Rattle.c6x_elf_headers.specs.declared.section_head.SectionHead.{SectionHead}
use Rattle.c6x_elf_headers.specs.declared.segment_head.SegmentHead.{SegmentHead}
use Rattle.c6x_elf_headers.proofs.Rows.{section_heads_none, segment_heads_none}
use Rattle.c6x_elf_headers.specs.HeadRows.{file_row, section_rows, segment_rows}
use Rattle.c6x_elf_headers.specs.Held.{Holds}
use Rattle.c6x_elf_headers.specs.Laid.{AllHeld}
use Rattle.c6x_elf_headers.proofs.HeadRows.{ReadsHead, file_held, file_read, sections_held as section_heads_held, segments_held as segment_heads_held}
use Rattle.c6x_elf_headers.proofs.Holdings.{holds_all, holds_left, holds_right, holds_within}
use Rattle.c6x_elf_headers.proofs.Layouts.{laid_held}
use Rattle.c6x_elf_headers.proofs.Passing.{header_passes, is_little, must_is}
use Rattle.c6x_elf.specs.Entries.{named_refusal}
use Rattle.c6x_elf.specs.Form.{IsTidy, segment_length}
use Rattle.c6x_elf.specs.Parts.{are_within, section_of, section_refusal, section_size, segment_of, segment_refusal, segment_size}
use Rattle.c6x_elf.specs.Reading.{file_of, file_with, names_refusal, parts_refusal, refusal_of, section_heads_of, sections_of, sections_refusal, segment_heads_of, segments_refusal, segments_total, tables_refusal}
use Rattle.c6x_elf.specs.Writing.{FileSizes, front_part, head_of, offsets_of, section_heads_at, section_parts, sections_at, sections_end, segment_heads_at, segment_parts, segments_end, spots_of, start_of, table_parts, written, written_size}
use Rattle.c6x_elf.specs.declared.file.File.{File}
use Rattle.c6x_elf.proofs.Kept.{SectionsHeld, SegmentsHeld, held_back, held_front, names_keep, sections_back, sections_held, sections_keep, sections_stand, segments_back, segments_held, segments_keep, segments_stand, segments_sum}
use Rattle.c6x_elf.proofs.Moves.{both_none}
use Rattle.c6x_elf.proofs.Orders.{chain_order, front-at, length-file_row, length-front, length-offsets, length-section_heads_at, length-segment_heads_at, length-spots, length-written, written_chain}

-- What the written bytes hold, and what their headers read as.
record IsBack (file : File) (bytes : List ℕ) : Type 0 where
  reads : ReadsHead false bytes (head_of file)
  long : 52 ≤ length bytes
  short : length bytes ≤ MOST_FILE_BYTES
  room : start_of file ≤ length bytes
  table_room : (length file.sections == 0) ≡ false → sections_at file + 40 * length file.sections ≤ length bytes
  segments : SegmentsHeld bytes file.segments (spots_of file)
  sections : SectionsHeld bytes file.sections (offsets_of file)
  segment_heads_are : segment_heads_of false bytes (head_of file) ≡ segment_heads_at 52 0 file.segments (spots_of file)
  section_heads_are : section_heads_of false bytes (head_of file) ≡ section_heads_at (sections_at file) 0 file.sections (offsets_of file)

-- headers that there are none of stand anywhere
segments_anywhere : (bytes : List ℕ) (n : ℕ) (t : Bool) (heads : List SegmentHead) → (n == 0) ≡ t → segment_heads false bytes 52 n ≡ heads → segment_heads false bytes (cond t 0 52) n ≡ heads
segments_anywhere bytes n true heads none is =
    let zero : n ≡ 0 = grind (arith, nat_tests) in
    ap (segment_heads false bytes 0) zero ∙ segment_heads_none false bytes 0
    ∙ sym (ap (segment_heads false bytes 52) zero ∙ segment_heads_none false bytes 52) ∙ is
segments_anywhere bytes n false heads some is = is

back_segments : (file : File) (bytes : List ℕ) → FileSizes file → Holds bytes 52 (segment_rows false (segment_heads_at 52 0 file.segments (spots_of file))) → segment_heads_of false bytes (head_of file) ≡ segment_heads_at 52 0 file.segments (spots_of file)
unfolding segment_heads_of head_of
back_segments file bytes sizes held =
    let heads = segment_heads_at 52 0 file.segments (spots_of file) in
    let count : length heads ≡ length file.segments =
    length-segment_heads_at 52 0 file.segments (spots_of file) (length-spots [] [] (start_of file) file.segments) in
    segments_anywhere bytes (length file.segments) (length file.segments == 0) heads refl
    (ap (segment_heads false bytes 52) (sym count)
    ∙ segment_heads_held false bytes 52 heads (segments_stand 52 0 file.segments (spots_of file)) sizes.segments held)

-- the section headers, if there are any
table_case : (bytes : List ℕ) (n at : ℕ) (t : Bool) (heads : List SectionHead) → (n == 0) ≡ t → length heads ≡ n → (Holds bytes at (section_rows false heads) → section_heads false bytes at (length heads) ≡ heads) → AllHeld bytes (cond t [] (record { at = at; bytes = section_rows false heads } ∷ [])) → section_heads false bytes at n ≡ heads
table_case bytes n at true heads none count reads held =
    let zero : n ≡ 0 = grind (arith, nat_tests) in
    ap (section_heads false bytes at) zero ∙ section_heads_none false bytes at ∙ sym (nil_from_length heads (count ∙ zero))
table_case bytes n at false heads some count reads held = ap (section_heads false bytes at) (sym count) ∙ reads held.0

back_sections : (file : File) (bytes : List ℕ) → FileSizes file → AllHeld bytes (table_parts false file) → section_heads_of false bytes (head_of file) ≡ section_heads_at (sections_at file) 0 file.sections (offsets_of file)
unfolding section_heads_of head_of table_parts
back_sections file bytes sizes held =
    let heads = section_heads_at (sections_at file) 0 file.sections (offsets_of file) in
    let count : length heads ≡ length file.sections =
    length-section_heads_at (sections_at file) 0 file.sections (offsets_of file) (length-offsets (segments_end file) file.sections) in
    table_case bytes (length file.sections) (sections_at file) (length file.sections == 0) heads refl count
    (section_heads_held false bytes (sections_at file) heads (sections_stand (sections_at file) 0 file.sections (offsets_of file)) sizes.sections) held

room_if : (t : Bool) (end n len : ℕ) → t ≡ false → len ≡ cond t end (rounded end 4 + 40 * n) → cond t 0 (rounded end 4) + 40 * n ≤ len
room_if true end n len some is = cc
room_if false end n len some is = omega arith

back_table_room : (file : File) (bytes : List ℕ) → length bytes ≡ written_size file → (length file.sections == 0) ≡ false → sections_at file + 40 * length file.sections ≤ length bytes
unfolding written_size sections_at
back_table_room file bytes long some = room_if (length file.sections == 0) (sections_end file) (length file.sections) (length bytes) some long

front_held : (file : File) (bytes : List ℕ) → Holds bytes (front_part false file).at (front_part false file).bytes → Holds bytes 0 (file_row false (head_of file) ++ segment_rows false (segment_heads_at 52 0 file.segments (spots_of file)))
unfolding front_part
front_held file bytes held = held

file_back : (file : File) (bytes : List ℕ) → bytes ≡ written false file → IsTidy false file → FileSizes file → IsBack file bytes
unfolding written
file_back file bytes is tidy sizes =
    let segments = segment_parts file.segments (spots_of file) in
    let sections = section_parts file.sections (offsets_of file) in
    let parts = front_part false file ∷ (segments ++ (sections ++ table_parts false file)) in
    let P : List ℕ → Type 0 = λ xs. Holds bytes 0 xs in
    let all : AllHeld bytes parts = laid_held bytes 0 parts (subst P is (holds_all bytes)) (chain_order 0 parts (written_size file) (written_chain file)) in
    let size : length bytes ≡ written_size file = ap length is ∙ length-written file in
    let front = front_held file bytes all.0 in
    let rows = segment_rows false (segment_heads_at 52 0 file.segments (spots_of file)) in
    let head = holds_left bytes 0 (file_row false (head_of file)) rows front in
    let table = holds_right bytes 0 (file_row false (head_of file)) rows 52 front
    (zero-add (length (file_row false (head_of file))) ∙ length-file_row false (head_of file)) in
    let later = held_back bytes segments (sections ++ table_parts false file) all.1 in
    record {
      reads = file_held false bytes (head_of file) sizes.head head;
      long = omega (arith, holds_within bytes 0 (file_row false (head_of file)) head, length-file_row false (head_of file));
      short = omega (arith, size, tidy.small);
      room = omega (arith, holds_within bytes (front_part false file).at (front_part false file).bytes all.0, length-front file, front-at file);
      table_room = back_table_room file bytes size;
      segments = segments_held bytes [] [] (start_of file) file.segments refl tt (held_front bytes segments (sections ++ table_parts false file) all.1);
      sections = sections_held bytes (segments_end file) file.sections (held_front bytes sections (table_parts false file) later);
      segment_heads_are = back_segments file bytes sizes table;
      section_heads_are = back_sections file bytes sizes (held_back bytes sections (table_parts false file) later);
    }

-- the values read back
back_segments_of : (file : File) (bytes : List ℕ) → IsBack file bytes → map (segment_of bytes) (segment_heads_of false bytes (head_of file)) ≡ file.segments
back_segments_of file bytes b =
    ap (map (segment_of bytes)) b.segment_heads_are
    ∙ segments_back bytes 52 0 file.segments (spots_of file) (length-spots [] [] (start_of file) file.segments) b.segments

back_sections_of : (file : File) (bytes : List ℕ) → IsTidy false file → IsBack file bytes → sections_of false bytes (head_of file) ≡ file.sections
unfolding sections_of
back_sections_of file bytes tidy b =
    ap (map (section_of bytes)) b.section_heads_are
    ∙ sections_back bytes (sections_at file) 0 file.sections (offsets_of file) (length-offsets (segments_end file) file.sections)
    tidy.form.sized b.sections

back_file : (file : File) (bytes : List ℕ) → IsTidy false file → IsBack file bytes → file_with false bytes (head_of file) ≡ file
unfolding file_with head_of
back_file file bytes tidy b = λ i. record {
  kind = file.kind;
  entry = file.entry;
  flags = file.flags;
  names = file.names;
  segments = back_segments_of file bytes b i;
  sections = back_sections_of file bytes tidy b i;
}

-- the rules
head_keeps : (file : File) → IsTidy false file → HeadKeeps (head_of file)
unfolding head_of
head_keeps file tidy = record {
  kind = tidy.form.kind;
  segments = tidy.form.segments;
  sections = tidy.form.sections;
  names = tidy.form.names;
}

segments_room : (t : Bool) (n len : ℕ) → (n == 0) ≡ t → 52 + 32 * n ≤ len → (n == 0 || nat_le (cond t 0 52 + 32 * n) len) ≡ true
segments_room true n len none room = rw none refl
segments_room false n len some room = grind (arith, nat_tests)

segments_within : (file : File) (bytes : List ℕ) → IsBack file bytes → are_within bytes (head_of file).segments_at 32 (head_of file).segment_count ≡ true
unfolding are_within head_of
segments_within file bytes b = segments_room (length file.segments == 0) (length file.segments) (length bytes) refl b.room

segments_pass : (file : File) (bytes : List ℕ) → IsTidy false file → IsBack file bytes → segments_refusal false bytes (head_of file) ≡ None
unfolding segments_refusal
segments_pass file bytes tidy b =
    both_none (must (are_within bytes (head_of file).segments_at 32 (head_of file).segment_count) Short 28) _
    (must_is (are_within bytes (head_of file).segments_at 32 (head_of file).segment_count) Short 28 (segments_within file bytes b))
    (ap (along_parts segment_size (segment_refusal bytes) 0) b.segment_heads_are
    ∙ segments_keep bytes 52 0 0 file.segments (spots_of file) b.segments (omega (arith, tidy.form.held)))

sections_room : (t : Bool) (n at len : ℕ) → (n == 0) ≡ t → ((n == 0) ≡ false → at + 40 * n ≤ len) → (n == 0 || nat_le (at + 40 * n) len) ≡ true
sections_room true n at len none room = rw none refl
sections_room false n at len some room =
    let fits : at + 40 * n ≤ len = room some in
    grind (arith, nat_tests)

sections_within : (file : File) (bytes : List ℕ) → IsBack file bytes → are_within bytes (head_of file).sections_at 40 (head_of file).section_count ≡ true
unfolding are_within head_of
sections_within file bytes b =
    sections_room (length file.sections == 0) (length file.sections) (sections_at file) (length bytes) refl b.table_room

sections_pass : (file : File) (bytes : List ℕ) → IsTidy false file → IsBack file bytes → sections_refusal false bytes (head_of file) ≡ None
unfolding sections_refusal segments_total head_of
sections_pass file bytes tidy b =
    let rule = section_refusal bytes (length file.sections) in
    both_none (must (are_within bytes (head_of file).sections_at 40 (head_of file).section_count) Short 32) _
    (must_is (are_within bytes (head_of file).sections_at 40 (head_of file).section_count) Short 32 (sections_within file bytes b))
    (ap (λ hs. along_parts section_size rule (sum_by segment_size (segment_heads_of false bytes (head_of file))) hs) b.section_heads_are
    ∙ ap (λ hs. along_parts section_size rule (sum_by segment_size hs) (section_heads_at (sections_at file) 0 file.sections (offsets_of file))) b.segment_heads_are
    ∙ ap (λ n. along_parts section_size rule n (section_heads_at (sections_at file) 0 file.sections (offsets_of file)))
    (segments_sum 52 0 file.segments (spots_of file) (length-spots [] [] (start_of file) file.segments))
    ∙ sections_keep bytes (length file.sections) (sections_at file) 0 (sum_by segment_length file.segments) file.sections (offsets_of file)
    tidy.form.sized b.sections tidy.form.held tidy.form.fields)

names_pass : (file : File) (bytes : List ℕ) → IsTidy false file → IsBack file bytes → names_refusal false bytes (head_of file) ≡ None
unfolding names_refusal head_of
names_pass file bytes tidy b =
    ap (λ ss. along_both (named_refusal false file.names ss) (section_heads_of false bytes (head_of file)) ss) (back_sections_of file bytes tidy b)
    ∙ ap (λ hs. along_both (named_refusal false file.names file.sections) hs file.sections) b.section_heads_are
    ∙ names_keep file.names file.sections (sections_at file) 0 file.sections (offsets_of file) tidy.form.entries

parts_pass : (file : File) (bytes : List ℕ) → IsTidy false file → IsBack file bytes → parts_refusal false bytes (head_of file) ≡ None
unfolding parts_refusal tables_refusal
parts_pass file bytes tidy b =
    both_none (segments_refusal false bytes (head_of file)) _ (segments_pass file bytes tidy b)
    (both_none (sections_refusal false bytes (head_of file)) (names_refusal false bytes (head_of file))
    (sections_pass file bytes tidy b) (names_pass file bytes tidy b))

-- the written form of a tidy file breaks no rule, and stands for the file
pub written_passes : (file : File) (bytes : List ℕ) → bytes ≡ written false file → IsTidy false file → FileSizes file → refusal_of bytes ≡ None
unfolding refusal_of
written_passes file bytes is tidy sizes =
    let b = file_back file bytes is tidy sizes in
    let big = is_little bytes (head_of file) b.reads in
    let head = file_read false bytes (head_of file) b.reads in
    both_none (header_refusal bytes) (parts_refusal (is_big bytes) bytes (file_head (is_big bytes) bytes))
    (header_passes bytes (head_of file) b.reads b.long b.short (head_keeps file tidy))
    (ap (λ x. parts_refusal x bytes (file_head x bytes)) big ∙ ap (parts_refusal false bytes) head ∙ parts_pass file bytes tidy b)

pub written_reads : (file : File) (bytes : List ℕ) → bytes ≡ written false file → IsTidy false file → FileSizes file → file_of bytes ≡ file
unfolding file_of
written_reads file bytes is tidy sizes =
    let b = file_back file bytes is tidy sizes in
    let big = is_little bytes (head_of file) b.reads in
    let head = file_read false bytes (head_of file) b.reads in
    ap (λ x. file_with x bytes (file_head x bytes)) big ∙ ap (file_with false bytes) head ∙ back_file file bytes tidy b
