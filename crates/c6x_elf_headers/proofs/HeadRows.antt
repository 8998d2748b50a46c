use Rattle.std.proofs.Common.{◌≡◌, ℕ, ◌+◌, ◌*◌, ◌<◌, Bool, List, [], ◌∷◌, ◌++◌, length, map, get_or, refl, sym, ap, ◌∙◌, append_assoc, add-zero, zero-add, subst, arith}
use Rattle.std.specs.List.{range_with_len}
use Rattle.c6x_spec.specs.Numbers.{word_at}
use Rattle.c6x_elf_headers.specs.Heads.{file_head, section_head, section_heads, segment_head, segment_heads}
use Rattle.c6x_elf_headers.specs.declared.file_head.FileHead.{FileHead}
use Rattle.c6x_elf_headers.specs.declared.section_head.SectionHead.{SectionHead}
use Rattle.c6x_elf_headers.specs.declared.segment_head.SegmentHead.{SegmentHead}
use Rattle.c6x_elf_headers.specs.HeadRows.{FileFits, SectionsFit, SectionsStand, SegmentsFit, SegmentsStand, file_counts, file_kinds, file_row, file_words, ident, section_rows, section_words, segment_rows, segment_words}
use Rattle.c6x_elf_headers.specs.Held.{Holds}
use Rattle.c6x_elf_headers.specs.Rows.{AreWords, SpellsHalves, SpellsWords, half_row, word_row}
use Rattle.c6x_elf_headers.proofs.Holdings.{holds_byte, holds_left, holds_right}
use Rattle.c6x_elf_headers.proofs.NumberRows.{halves_held, length-half_row, length-word_row, words_held}

-- a file header put piece by piece
pub file_row_put : (old a b c d : List ℕ) → (((old ++ a) ++ b) ++ c) ++ d ≡ old ++ (a ++ (b ++ (c ++ d)))
file_row_put old a b c d = simp append_assoc

-- a held program header is read
segment_read : (big : Bool) (bytes : List ℕ) (at : ℕ) (head : SegmentHead) → head.at ≡ at → SpellsWords big bytes at 0 (segment_words head) → segment_head big bytes at ≡ head
unfolding segment_head
segment_read big bytes at head here s =
    let first : word_at big bytes at ≡ head.kind = ap (word_at big bytes) (sym (add-zero at)) ∙ s.0 in
    λ i. record {
      at = sym here i;
      kind = first i;
      offset = s.1.0 i;
      vaddr = s.1.1.0 i;
      filesz = s.1.1.1.1.0 i;
      memsz = s.1.1.1.1.1.0 i;
      flags = s.1.1.1.1.1.1.0 i;
      align = s.1.1.1.1.1.1.1.0 i;
    }

pub segment_held : (big : Bool) (bytes : List ℕ) (at : ℕ) (head : SegmentHead) → head.at ≡ at → AreWords (segment_words head) → Holds bytes at (word_row big (segment_words head)) → segment_head big bytes at ≡ head
segment_held big bytes at head here fit h =
    let P : ℕ → Type 0 = λ n. Holds bytes n (word_row big (segment_words head)) in
    segment_read big bytes at head here (words_held big bytes at 0 (segment_words head) fit (subst P (sym (add-zero at)) h))

section_read : (big : Bool) (bytes : List ℕ) (at : ℕ) (head : SectionHead) → head.at ≡ at → SpellsWords big bytes at 0 (section_words head) → section_head big bytes at ≡ head
unfolding section_head
section_read big bytes at head here s =
    let first : word_at big bytes at ≡ head.name = ap (word_at big bytes) (sym (add-zero at)) ∙ s.0 in
    λ i. record {
      at = sym here i;
      name = first i;
      kind = s.1.0 i;
      flags = s.1.1.0 i;
      addr = s.1.1.1.0 i;
      offset = s.1.1.1.1.0 i;
      size = s.1.1.1.1.1.0 i;
      link = s.1.1.1.1.1.1.0 i;
      info = s.1.1.1.1.1.1.1.0 i;
      align = s.1.1.1.1.1.1.1.1.0 i;
      entsize = s.1.1.1.1.1.1.1.1.1.0 i;
    }

pub section_held : (big : Bool) (bytes : List ℕ) (at : ℕ) (head : SectionHead) → head.at ≡ at → AreWords (section_words head) → Holds bytes at (word_row big (section_words head)) → section_head big bytes at ≡ head
section_held big bytes at head here fit h =
    let P : ℕ → Type 0 = λ n. Holds bytes n (word_row big (section_words head)) in
    section_read big bytes at head here (words_held big bytes at 0 (section_words head) fit (subst P (sym (add-zero at)) h))

-- held headers are read
segments_held_from : (big : Bool) (bytes : List ℕ) (at k : ℕ) (heads : List SegmentHead) → SegmentsStand at k heads → SegmentsFit heads → Holds bytes (at + 32 * k) (segment_rows big heads) → map (λ j. segment_head big bytes (at + 32 * j)) (range_with_len k (length heads)) ≡ heads
unfolding segment_rows
segments_held_from big bytes at k [] stand fit h = refl
segments_held_from big bytes at k (head ∷ heads) stand fit h =
    let here = segment_held big bytes (at + 32 * k) head stand.0 fit.0
    (holds_left bytes (at + 32 * k) (word_row big (segment_words head)) (segment_rows big heads) h) in
    let next : at + 32 * k + length (word_row big (segment_words head)) ≡ at + 32 * (k + 1) =
    omega (arith, length-word_row big (segment_words head)) in
    let later = segments_held_from big bytes at (k + 1) heads stand.1 fit.1
    (holds_right bytes (at + 32 * k) (word_row big (segment_words head)) (segment_rows big heads) (at + 32 * (k + 1)) h next) in
    cc

pub segments_held : (big : Bool) (bytes : List ℕ) (at : ℕ) (heads : List SegmentHead) → SegmentsStand at 0 heads → SegmentsFit heads → Holds bytes at (segment_rows big heads) → segment_heads big bytes at (length heads) ≡ heads
unfolding segment_heads
segments_held big bytes at heads stand fit h =
    let P : ℕ → Type 0 = λ n. Holds bytes n (segment_rows big heads) in
    segments_held_from big bytes at 0 heads stand fit (subst P (sym (add-zero at)) h)

sections_held_from : (big : Bool) (bytes : List ℕ) (at k : ℕ) (heads : List SectionHead) → SectionsStand at k heads → SectionsFit heads → Holds bytes (at + 40 * k) (section_rows big heads) → map (λ j. section_head big bytes (at + 40 * j)) (range_with_len k (length heads)) ≡ heads
unfolding section_rows
sections_held_from big bytes at k [] stand fit h = refl
sections_held_from big bytes at k (head ∷ heads) stand fit h =
    let here = section_held big bytes (at + 40 * k) head stand.0 fit.0
    (holds_left bytes (at + 40 * k) (word_row big (section_words head)) (section_rows big heads) h) in
    let next : at + 40 * k + length (word_row big (section_words head)) ≡ at + 40 * (k + 1) =
    omega (arith, length-word_row big (section_words head)) in
    let later = sections_held_from big bytes at (k + 1) heads stand.1 fit.1
    (holds_right bytes (at + 40 * k) (word_row big (section_words head)) (section_rows big heads) (at + 40 * (k + 1)) h next) in
    cc

pub sections_held : (big : Bool) (bytes : List ℕ) (at : ℕ) (heads : List SectionHead) → SectionsStand at 0 heads → SectionsFit heads → Holds bytes at (section_rows big heads) → section_heads big bytes at (length heads) ≡ heads
unfolding section_heads
sections_held big bytes at heads stand fit h =
    let P : ℕ → Type 0 = λ n. Holds bytes n (section_rows big heads) in
    sections_held_from big bytes at 0 heads stand fit (subst P (sym (add-zero at)) h)

-- a held file header is read
pub record ReadsHead (big : Bool) (bytes : List ℕ) (head : FileHead) : Type 0 where
  pub kinds : SpellsHalves big bytes 16 0 (file_kinds head)
  pub words : SpellsWords big bytes 20 0 (file_words head)
  pub counts : SpellsHalves big bytes 40 0 (file_counts head)
  pub marks : (i : ℕ) → i < 16 → get_or bytes i 0 ≡ get_or (ident big) i 0

pub file_held : (big : Bool) (bytes : List ℕ) (head : FileHead) → FileFits head → Holds bytes 0 (file_row big head) → ReadsHead big bytes head
unfolding file_row
file_held big bytes head fit h =
    let kinds = half_row big (file_kinds head) in
    let words = word_row big (file_words head) in
    let counts = half_row big (file_counts head) in
    let marks : Holds bytes 0 (ident big) = holds_left bytes 0 (ident big) (kinds ++ (words ++ counts)) h in
    let rest : Holds bytes 16 (kinds ++ (words ++ counts)) = holds_right bytes 0 (ident big) (kinds ++ (words ++ counts)) 16 h refl in
    let tail : Holds bytes 20 (words ++ counts) = holds_right bytes 16 kinds (words ++ counts) 20 rest (omega (arith, length-half_row big (file_kinds head))) in
    record {
      kinds = halves_held big bytes 16 0 (file_kinds head) fit.kinds (holds_left bytes 16 kinds (words ++ counts) rest);
      words = words_held big bytes 20 0 (file_words head) fit.words (holds_left bytes 20 words counts tail);
      counts = halves_held big bytes 40 0 (file_counts head) fit.counts (holds_right bytes 20 words counts 40 tail (omega (arith, length-word_row big (file_words head))));
      marks = λ i below. holds_byte bytes 0 (ident big) i i marks below (zero-add i);
    }

pub file_read : (big : Bool) (bytes : List ℕ) (head : FileHead) → ReadsHead big bytes head → file_head big bytes ≡ head
unfolding file_head
file_read big bytes head r = λ i. record {
  kind = r.kinds.0 i;
  entry = r.words.1.0 i;
  segments_at = r.words.1.1.0 i;
  sections_at = r.words.1.1.1.0 i;
  flags = r.words.1.1.1.1.0 i;
  segment_count = r.counts.1.1.0 i;
  section_count = r.counts.1.1.1.1.0 i;
  names = r.counts.1.1.1.1.1.0 i;
}
