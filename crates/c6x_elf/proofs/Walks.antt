use Rattle.std.proofs.Common.{◌≡◌, ℕ, ◌+◌, ◌<◌, ◌≤◌, List, Option, None, length, drop, get_or, ap}
use Rattle.std.proofs.lemmas.List.{drop_more, drop_all}
use Rattle.c6x_elf_headers.specs.Rules.{Refusal, ◌<|>◌, along_parts}
use Rattle.c6x_elf_headers.specs.declared.section_head.SectionHead.{SectionHead}
use Rattle.c6x_elf_headers.specs.declared.segment_head.SegmentHead.{SegmentHead}
use Rattle.c6x_elf.specs.Parts.{section_refusal, section_size, segment_refusal, segment_size}

-- a walk along parts, one part on
along_drop : {A : Type 0} (size : A → ℕ) (test : ℕ → A → Option Refusal) (before : ℕ) (xs : List A) (i : ℕ) (d : A) → i < length xs → along_parts size test before (drop i xs) ≡ (test before (get_or xs i d) <|> along_parts size test (before + size (get_or xs i d)) (drop (i + 1) xs))
along_drop size test before xs i d within = ap (along_parts size test before) (drop_more xs i d within)

along_all : {A : Type 0} (size : A → ℕ) (test : ℕ → A → Option Refusal) (before : ℕ) (xs : List A) (i : ℕ) → length xs ≤ i → along_parts size test before (drop i xs) ≡ None
along_all size test before xs i past = ap (along_parts size test before) (drop_all i xs past)

pub segments_drop : (bytes : List ℕ) (before : ℕ) (xs : List SegmentHead) (i : ℕ) (d : SegmentHead) → i < length xs → along_parts segment_size (segment_refusal bytes) before (drop i xs) ≡ (segment_refusal bytes before (get_or xs i d) <|> along_parts segment_size (segment_refusal bytes) (before + segment_size (get_or xs i d)) (drop (i + 1) xs))
segments_drop bytes = along_drop segment_size (segment_refusal bytes)

pub segments_all : (bytes : List ℕ) (before : ℕ) (xs : List SegmentHead) (i : ℕ) → length xs ≤ i → along_parts segment_size (segment_refusal bytes) before (drop i xs) ≡ None
segments_all bytes = along_all segment_size (segment_refusal bytes)

pub sections_drop : (bytes : List ℕ) (count before : ℕ) (xs : List SectionHead) (i : ℕ) (d : SectionHead) → i < length xs → along_parts section_size (section_refusal bytes count) before (drop i xs) ≡ (section_refusal bytes count before (get_or xs i d) <|> along_parts section_size (section_refusal bytes count) (before + section_size (get_or xs i d)) (drop (i + 1) xs))
sections_drop bytes count = along_drop section_size (section_refusal bytes count)

pub sections_all : (bytes : List ℕ) (count before : ℕ) (xs : List SectionHead) (i : ℕ) → length xs ≤ i → along_parts section_size (section_refusal bytes count) before (drop i xs) ≡ None
sections_all bytes count = along_all section_size (section_refusal bytes count)
