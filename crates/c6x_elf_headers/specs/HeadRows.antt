use Rattle.std.specs.Prelude.{◌≡◌, ℕ, ◌+◌, ◌*◌, ◌==◌, Bool, List, [], ◌∷◌, ◌++◌, if◌then◌else◌}
use Rattle.c6x_elf_headers.specs.Rows.{AreHalves, AreWords, half_row, word_row}
use Rattle.c6x_elf_headers.specs.declared.abi.TheConstants.{ELFCLASS32, ELFDATA2LSB, ELFDATA2MSB, EM_TI_C6000, EV_CURRENT}
use Rattle.c6x_elf_headers.specs.declared.file_head.FileHead.{FileHead}
use Rattle.c6x_elf_headers.specs.declared.section_head.SectionHead.{SectionHead}
use Rattle.c6x_elf_headers.specs.declared.segment_head.SegmentHead.{SegmentHead}

-- The words of a program header (gABI chapter 5, "Program Header"). The physical address is the virtual one.
abbrev pub segment_words : SegmentHead → List ℕ
segment_words head =
    head.kind ∷ head.offset ∷ head.vaddr ∷ head.vaddr ∷ head.filesz ∷ head.memsz ∷ head.flags ∷ head.align ∷ []

-- The words of a section header (gABI chapter 4, "Section Header").
abbrev pub section_words : SectionHead → List ℕ
section_words head =
    head.name ∷ head.kind ∷ head.flags ∷ head.addr ∷ head.offset ∷ head.size ∷ head.link ∷ head.info ∷ head.align
    ∷ head.entsize ∷ []

unfoldable pub segment_rows : Bool → List SegmentHead → List ℕ
segment_rows big [] = []
segment_rows big (head ∷ heads) = word_row big (segment_words head) ++ segment_rows big heads

unfoldable pub section_rows : Bool → List SectionHead → List ℕ
section_rows big [] = []
section_rows big (head ∷ heads) = word_row big (section_words head) ++ section_rows big heads

-- The identification (gABI chapter 4, "ELF Identification"): the class, the encoding, the version, and zeros.
abbrev pub ident : Bool → List ℕ
ident big =
    0x7F ∷ 0x45 ∷ 0x4C ∷ 0x46 ∷ ELFCLASS32 ∷ (if big then ELFDATA2MSB else ELFDATA2LSB) ∷ EV_CURRENT ∷ 0 ∷ 0 ∷ 0 ∷ 0 ∷ 0 ∷ 0 ∷ 0 ∷ 0 ∷ 0 ∷ []

-- The size of headers, and 0 where there are none.
abbrev pub size_of : ℕ → ℕ → ℕ
size_of count size = if count == 0 then 0 else size

-- The numbers of the file header (gABI chapter 4, "ELF Header"), in their three runs of one size.
abbrev pub file_kinds : FileHead → List ℕ
file_kinds head = head.kind ∷ EM_TI_C6000 ∷ []

abbrev pub file_words : FileHead → List ℕ
file_words head = EV_CURRENT ∷ head.entry ∷ head.segments_at ∷ head.sections_at ∷ head.flags ∷ []

abbrev pub file_counts : FileHead → List ℕ
file_counts head =
    52 ∷ size_of head.segment_count 32 ∷ head.segment_count ∷ size_of head.section_count 40 ∷ head.section_count
    ∷ head.names ∷ []

unfoldable pub file_row : Bool → FileHead → List ℕ
file_row big head =
    ident big ++ (half_row big (file_kinds head) ++ (word_row big (file_words head) ++ half_row big (file_counts head)))

-- The header's numbers have their sizes.
pub record FileFits (head : FileHead) : Type 0 where
  pub kinds : AreHalves (file_kinds head)
  pub words : AreWords (file_words head)
  pub counts : AreHalves (file_counts head)

abbrev pub SegmentsFit : List SegmentHead → Type 0
SegmentsFit [] = Unit {0}
SegmentsFit (head ∷ heads) = AreWords (segment_words head) × SegmentsFit heads

abbrev pub SectionsFit : List SectionHead → Type 0
SectionsFit [] = Unit {0}
SectionsFit (head ∷ heads) = AreWords (section_words head) × SectionsFit heads

-- Headers stand one behind the other from a place on, header k being the first.
abbrev pub SegmentsStand : ℕ → ℕ → List SegmentHead → Type 0
SegmentsStand at k [] = Unit {0}
SegmentsStand at k (head ∷ heads) = (head.at ≡ at + 32 * k) × SegmentsStand at (k + 1) heads

abbrev pub SectionsStand : ℕ → ℕ → List SectionHead → Type 0
SectionsStand at k [] = Unit {0}
SectionsStand at k (head ∷ heads) = (head.at ≡ at + 40 * k) × SectionsStand at (k + 1) heads
