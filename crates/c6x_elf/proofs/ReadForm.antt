use Rattle.std.proofs.Common.{◌≡◌, ℕ, zero, suc, ◌+◌, ◌*◌, ◌≤◌, true, false, List, [], ◌∷◌, None, length, map, take, drop, sum_by, nat_le, refl, sym, ◌∙◌, subst, arith}
use Rattle.std.specs.Prelude.{All}
use Rattle.std.proofs.lemmas.List.{length-drop, length-map, length-take}
use Rattle.std.proofs.lemmas.List.FromFn.{length-map-range_with_len}
use Rattle.std.proofs.lemmas.List.Sums.{sum_by-cons}
use Rattle.std.proofs.lemmas.Bool.Decides.{nat_tests}
use Rattle.c6x_base.specs.declared.limits.TheConstants.{MOST_HELD_BYTES}
use Rattle.c6x_elf_headers.specs.Header.{HeadKeeps, is_none_or_below}
use Rattle.c6x_elf_headers.specs.Heads.{section_head, section_heads, segment_head, segment_heads}
use Rattle.c6x_elf_headers.specs.Rules.{along_both, along_parts, first_along, must}
use Rattle.c6x_elf_headers.specs.declared.elf_rule.ElfRule.TheVariants.{Short, Large}
use Rattle.c6x_elf_headers.specs.declared.file_head.FileHead.{FileHead}
use Rattle.c6x_elf_headers.specs.declared.section_head.SectionHead.{SectionHead}
use Rattle.c6x_elf_headers.specs.declared.segment_head.SegmentHead.{SegmentHead}
use Rattle.c6x_elf.specs.Entries.{named_refusal}
use Rattle.c6x_elf.specs.Form.{HasReadForm, IsSized, own_head, section_length, segment_length}
use Rattle.c6x_elf.specs.Parts.{fields_refusal, is_within, part_refusal, section_of, section_refusal, section_size, segment_of, segment_refusal, segment_size}
use Rattle.c6x_elf.specs.Reading.{file_with, names_refusal, parts_refusal, section_heads_of, sections_of, sections_refusal, segment_heads_of, segments_refusal, segments_total, tables_refusal}
use Rattle.c6x_elf.specs.Writing.{section_head_at}
use Rattle.c6x_elf.specs.declared.section.Section.{Section}
use Rattle.c6x_elf.proofs.Moves.{both_none, fields_move, named_moves}
use Rattle.c6x_elf.proofs.Placed.{must_holds, none_first, none_later}

-- the bytes of a part that lies in the file are as many as its size
within_length : (bytes : List ℕ) (at size : ℕ) → is_within bytes at size ≡ true → length (take size (drop at bytes)) ≡ size
unfolding is_within
within_length bytes at size is = grind (arith, nat_tests, length-take {A = ℕ}, length-drop {A = ℕ})

-- What a part that breaks no rule keeps.
record PartKeeps (bytes : List ℕ) (before at size : ℕ) : Type 0 where
  whole : length (take size (drop at bytes)) ≡ size
  few : before + size ≤ MOST_HELD_BYTES

part_keeps : (bytes : List ℕ) (before at size place : ℕ) → part_refusal bytes before at size place ≡ None → PartKeeps bytes before at size
unfolding part_refusal
part_keeps bytes before at size place kept =
    let within = must (is_within bytes at size) Short place in
    let few = must (nat_le (before + size) MOST_HELD_BYTES) Large place in
    let test = must_holds (nat_le (before + size) MOST_HELD_BYTES) Large place (none_later within few kept) in
    record {
      whole = within_length bytes at size (must_holds (is_within bytes at size) Short place (none_first within few kept));
      few = grind (arith, nat_tests);
    }

segment_keeps : (bytes : List ℕ) (before : ℕ) (head : SegmentHead) → segment_refusal bytes before head ≡ None → PartKeeps bytes before head.offset head.filesz
unfolding segment_refusal
segment_keeps bytes before head kept = part_keeps bytes before head.offset head.filesz (head.at + 4) kept

segment_of-length : (bytes : List ℕ) (head : SegmentHead) → segment_length (segment_of bytes head) ≡ length (take head.filesz (drop head.offset bytes))
unfolding segment_of
segment_of-length bytes head = refl

section_of-length : (bytes : List ℕ) (head : SectionHead) → section_length (section_of bytes head) ≡ length (take (section_size head) (drop head.offset bytes))
unfolding section_of
section_of-length bytes head = refl

-- the sums of the bytes
segments_sum : (bytes : List ℕ) (before : ℕ) (heads : List SegmentHead) → before ≤ MOST_HELD_BYTES → along_parts segment_size (segment_refusal bytes) before heads ≡ None → (sum_by segment_length (map (segment_of bytes) heads) ≡ sum_by segment_size heads) × (before + sum_by segment_size heads ≤ MOST_HELD_BYTES)
segments_sum bytes before [] few kept = (refl, omega arith)
segments_sum bytes before (head ∷ heads) few kept =
    let rest = along_parts segment_size (segment_refusal bytes) (before + segment_size head) heads in
    let here = segment_keeps bytes before head (none_first (segment_refusal bytes before head) rest kept) in
    let later = segments_sum bytes (before + segment_size head) heads here.few (none_later (segment_refusal bytes before head) rest kept) in
    let a = sum_by-cons segment_length (segment_of bytes head) (map (segment_of bytes) heads) in
    let b = sum_by-cons segment_size head heads in
    let c = segment_of-length bytes head in
    let d : sum_by segment_length (map (segment_of bytes) heads) ≡ sum_by segment_size heads = later.0 in
    let e : before + segment_size head + sum_by segment_size heads ≤ MOST_HELD_BYTES = later.1 in
    let f : length (take head.filesz (drop head.offset bytes)) ≡ head.filesz = here.whole in
    (omega arith, omega arith)

section_keeps : (bytes : List ℕ) (count before : ℕ) (head : SectionHead) → section_refusal bytes count before head ≡ None → PartKeeps bytes before head.offset (section_size head)
unfolding section_refusal
section_keeps bytes count before head kept =
    part_keeps bytes before head.offset (section_size head) (head.at + 16)
    (none_later (fields_refusal count head) (part_refusal bytes before head.offset (section_size head) (head.at + 16)) kept)

section_fields : (bytes : List ℕ) (count before : ℕ) (head : SectionHead) → section_refusal bytes count before head ≡ None → fields_refusal count (own_head (section_of bytes head)) ≡ None
unfolding section_refusal section_of section_head_at
section_fields bytes count before head kept =
    fields_move count head 0 0
    (none_first (fields_refusal count head) (part_refusal bytes before head.offset (section_size head) (head.at + 16)) kept)

own_size : (bytes : List ℕ) (head : SectionHead) → section_size (own_head (section_of bytes head)) ≡ section_size head
unfolding section_of section_head_at section_size
own_size bytes head = refl

-- What sections that break no rule keep.
record SectionsKeep (bytes : List ℕ) (count before : ℕ) (heads : List SectionHead) : Type 0 where
  few : before + sum_by section_length (map (section_of bytes) heads) ≤ MOST_HELD_BYTES
  fields : first_along (fields_refusal count) (map own_head (map (section_of bytes) heads)) ≡ None
  sized : All IsSized (map (section_of bytes) heads)

sized_more : (section : Section) (sections : List Section) → IsSized section → All IsSized sections → All IsSized (section ∷ sections)
sized_more section sections here later zero d below = here
sized_more section sections here later (suc k) d below = later k d (omega arith)

sections_keep : (bytes : List ℕ) (count before : ℕ) (heads : List SectionHead) → before ≤ MOST_HELD_BYTES → along_parts section_size (section_refusal bytes count) before heads ≡ None → SectionsKeep bytes count before heads
sections_keep bytes count before [] few kept = record {
  few = omega arith;
  fields = refl;
  sized = λ k d below. absurd (omega arith);
}
sections_keep bytes count before (head ∷ heads) few kept =
    let rest = along_parts section_size (section_refusal bytes count) (before + section_size head) heads in
    let own = none_first (section_refusal bytes count before head) rest kept in
    let here = section_keeps bytes count before head own in
    let later = sections_keep bytes count (before + section_size head) heads here.few (none_later (section_refusal bytes count before head) rest kept) in
    let sum = sum_by-cons section_length (section_of bytes head) (map (section_of bytes) heads) in
    let size : section_length (section_of bytes head) ≡ section_size head = section_of-length bytes head ∙ here.whole in
    let last : before + section_size head + sum_by section_length (map (section_of bytes) heads) ≤ MOST_HELD_BYTES = later.few in
    record {
      few = omega arith;
      fields = both_none (fields_refusal count (own_head (section_of bytes head)))
          (first_along (fields_refusal count) (map own_head (map (section_of bytes) heads)))
          (section_fields bytes count before head own) later.fields;
      sized = sized_more (section_of bytes head) (map (section_of bytes) heads)
          (record { size = size ∙ sym (own_size bytes head) }) later.sized;
    }

named_own : (bytes : List ℕ) (names : ℕ) (all : List Section) (head : SectionHead) → named_refusal false names all head (section_of bytes head) ≡ None → named_refusal false names all (own_head (section_of bytes head)) (section_of bytes head) ≡ None
unfolding section_of section_head_at
named_own bytes names all head kept = named_moves false names all head _ 0 0 kept

entries_own : (bytes : List ℕ) (names : ℕ) (all : List Section) (heads : List SectionHead) → along_both (named_refusal false names all) heads (map (section_of bytes) heads) ≡ None → along_both (named_refusal false names all) (map own_head (map (section_of bytes) heads)) (map (section_of bytes) heads) ≡ None
entries_own bytes names all [] kept = refl
entries_own bytes names all (head ∷ heads) kept =
    let here = named_refusal false names all head (section_of bytes head) in
    let rest = along_both (named_refusal false names all) heads (map (section_of bytes) heads) in
    both_none (named_refusal false names all (own_head (section_of bytes head)) (section_of bytes head))
    (along_both (named_refusal false names all) (map own_head (map (section_of bytes) heads)) (map (section_of bytes) heads))
    (named_own bytes names all head (none_first here rest kept))
    (entries_own bytes names all heads (none_later here rest kept))

-- as many parts as the file header says
segment_count : (bytes : List ℕ) (head : FileHead) → length (map (segment_of bytes) (segment_heads_of false bytes head)) ≡ head.segment_count
unfolding segment_heads_of segment_heads
segment_count bytes head =
    length-map (segment_heads_of false bytes head) (segment_of bytes)
    ∙ length-map-range_with_len (λ k. segment_head false bytes (head.segments_at + 32 * k)) 0 head.segment_count

section_count : (bytes : List ℕ) (head : FileHead) → length (sections_of false bytes head) ≡ head.section_count
unfolding sections_of section_heads_of section_heads
section_count bytes head =
    length-map (section_heads_of false bytes head) (section_of bytes)
    ∙ length-map-range_with_len (λ k. section_head false bytes (head.sections_at + 40 * k)) 0 head.section_count

segments_kept : (bytes : List ℕ) (head : FileHead) → segments_refusal false bytes head ≡ None → along_parts segment_size (segment_refusal bytes) 0 (segment_heads_of false bytes head) ≡ None
unfolding segments_refusal
segments_kept bytes head kept = none_later (must _ Short 28) _ kept

sections_kept : (bytes : List ℕ) (head : FileHead) → sections_refusal false bytes head ≡ None → along_parts section_size (section_refusal bytes head.section_count) (sum_by segment_size (segment_heads_of false bytes head)) (section_heads_of false bytes head) ≡ None
unfolding sections_refusal segments_total
sections_kept bytes head kept = none_later (must _ Short 32) _ kept

names_kept : (bytes : List ℕ) (head : FileHead) → names_refusal false bytes head ≡ None → along_both (named_refusal false head.names (sections_of false bytes head)) (map own_head (sections_of false bytes head)) (sections_of false bytes head) ≡ None
unfolding names_refusal sections_of
names_kept bytes head kept = entries_own bytes head.names (sections_of false bytes head) (section_heads_of false bytes head) kept

-- What the parts keep where none of their rules is broken.
record PartsKept (bytes : List ℕ) (head : FileHead) : Type 0 where
  segments : segments_refusal false bytes head ≡ None
  sections : sections_refusal false bytes head ≡ None
  names : names_refusal false bytes head ≡ None

parts_kept : (bytes : List ℕ) (head : FileHead) → parts_refusal false bytes head ≡ None → PartsKept bytes head
unfolding parts_refusal tables_refusal
parts_kept bytes head kept =
    let tables = none_later (segments_refusal false bytes head) (tables_refusal false bytes head) kept in
    record {
      segments = none_first (segments_refusal false bytes head) (tables_refusal false bytes head) kept;
      sections = none_first (sections_refusal false bytes head) (names_refusal false bytes head) tables;
      names = none_later (sections_refusal false bytes head) (names_refusal false bytes head) tables;
    }

sections_keep_of : (bytes : List ℕ) (head : FileHead) → sum_by segment_size (segment_heads_of false bytes head) ≤ MOST_HELD_BYTES → sections_refusal false bytes head ≡ None → SectionsKeep bytes head.section_count (sum_by segment_size (segment_heads_of false bytes head)) (section_heads_of false bytes head)
sections_keep_of bytes head few kept =
    sections_keep bytes head.section_count (sum_by segment_size (segment_heads_of false bytes head)) (section_heads_of false bytes head) few
    (sections_kept bytes head kept)

-- a file whose parts break no rule has read form
pub parts_have_form : (bytes : List ℕ) (head : FileHead) → HeadKeeps head → parts_refusal false bytes head ≡ None → HasReadForm false (file_with false bytes head)
unfolding file_with sections_of
parts_have_form bytes head keeps kept =
    let parts = parts_kept bytes head kept in
    let sums = segments_sum bytes 0 (segment_heads_of false bytes head) (omega arith) (segments_kept bytes head parts.segments) in
    let same : sum_by segment_length (map (segment_of bytes) (segment_heads_of false bytes head)) ≡ sum_by segment_size (segment_heads_of false bytes head) = sums.0 in
    let total : 0 + sum_by segment_size (segment_heads_of false bytes head) ≤ MOST_HELD_BYTES = sums.1 in
    let tables = sections_keep_of bytes head (omega arith) parts.sections in
    let last : sum_by segment_size (segment_heads_of false bytes head) + sum_by section_length (map (section_of bytes) (section_heads_of false bytes head)) ≤ MOST_HELD_BYTES = tables.few in
    let count : length (map (section_of bytes) (section_heads_of false bytes head)) ≡ head.section_count = section_count bytes head in
    let Names : ℕ → Type 0 = λ n. is_none_or_below head.names n ≡ true in
    let Fields : ℕ → Type 0 = λ n. first_along (fields_refusal n) (map own_head (map (section_of bytes) (section_heads_of false bytes head))) ≡ None in
    record {
      segments = omega (arith, segment_count bytes head, keeps.segments);
      sections = omega (arith, count, keeps.sections);
      held = omega arith;
      sized = tables.sized;
      kind = keeps.kind;
      names = subst Names (sym count) keeps.names;
      fields = subst Fields (sym count) tables.fields;
      entries = names_kept bytes head parts.names;
    }
