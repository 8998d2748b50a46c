use Rattle.std.specs.Prelude.{ℕ, ◌≤◌, ◌==◌, IsTrue, ◌&&◌, ◌||◌, Bool, List, Option, length, nat_le, nat_lt, slice_index}
use Rattle.c6x_spec.specs.Numbers.{half_at, word_at}
use Rattle.c6x_base.specs.declared.limits.TheConstants.{MOST_FILE_BYTES, MOST_SECTIONS, MOST_SEGMENTS}
use Rattle.c6x_elf_headers.specs.declared.abi.TheConstants.{ELFCLASS32, ELFDATA2LSB, EM_TI_C6000, ET_DYN, ET_EXEC, ET_REL, EV_CURRENT}
use Rattle.c6x_elf_headers.specs.Heads.{is_big}
use Rattle.c6x_elf_headers.specs.declared.file_head.FileHead.{FileHead}
use Rattle.c6x_elf_headers.specs.Rules.{Refusal, ◌<|>◌, must, whole}
use Rattle.c6x_elf_headers.specs.declared.elf_rule.ElfRule.TheVariants.{Magic, Class, Data, Version, Machine, FileType, EntrySize, Index, Large}

-- 0x7F, `E`, `L`, `F`.
unfoldable pub is_magic : List ℕ → Bool
is_magic bytes =
    slice_index bytes 0 == 0x7F && slice_index bytes 1 == 0x45 && slice_index bytes 2 == 0x4C && slice_index bytes 3 == 0x46

-- A relocatable file, an executable or a shared object.
unfoldable pub is_file_type : ℕ → Bool
is_file_type kind = kind == ET_REL || kind == ET_EXEC || kind == ET_DYN

-- A number is 0 or names one of count things.
unfoldable pub is_none_or_below : ℕ → ℕ → Bool
is_none_or_below number count = number == 0 || nat_lt number count

-- There are none of these, or the size is as it must be.
unfoldable pub is_none_or_sized : ℕ → ℕ → ℕ → Bool
is_none_or_sized count size wanted = count == 0 || size == wanted

-- The length, and the identification in the first 16 bytes: the class, the encoding, which is little-endian, the
-- version, and nine bytes that may be any.
unfoldable pub ident_refusal : List ℕ → Option Refusal
ident_refusal bytes =
    must (nat_le (length bytes) MOST_FILE_BYTES) Large 0
    <|> whole bytes 0 4 <|> must (is_magic bytes) Magic 0
    <|> whole bytes 4 1 <|> must (slice_index bytes 4 == ELFCLASS32) Class 4
    <|> whole bytes 5 1 <|> must (slice_index bytes 5 == ELFDATA2LSB) Data 5
    <|> whole bytes 6 1 <|> must (slice_index bytes 6 == EV_CURRENT) Version 6
    <|> whole bytes 7 9

-- The type, the machine, the version, and four words.
unfoldable pub numbers_refusal : Bool → List ℕ → Option Refusal
numbers_refusal big bytes =
    whole bytes 16 2 <|> must (is_file_type (half_at big bytes 16)) FileType 16
    <|> whole bytes 18 2 <|> must (half_at big bytes 18 == EM_TI_C6000) Machine 18
    <|> whole bytes 20 4 <|> must (word_at big bytes 20 == EV_CURRENT) Version 20
    <|> whole bytes 24 4 <|> whole bytes 28 4 <|> whole bytes 32 4 <|> whole bytes 36 4

-- The sizes and counts of headers, at most 64 program and 4,096 section headers, and the section of the
-- names.
unfoldable pub counts_refusal : Bool → List ℕ → Option Refusal
counts_refusal big bytes =
    whole bytes 40 2 <|> whole bytes 42 2
    <|> whole bytes 44 2 <|> must (nat_le (half_at big bytes 44) MOST_SEGMENTS) Large 44
    <|> whole bytes 46 2
    <|> whole bytes 48 2 <|> must (nat_le (half_at big bytes 48) MOST_SECTIONS) Large 48
    <|> whole bytes 50 2 <|> must (is_none_or_below (half_at big bytes 50) (half_at big bytes 48)) Index 50

-- Program headers have 32 bytes each, and section headers 40.
unfoldable pub sizes_refusal : Bool → List ℕ → Option Refusal
sizes_refusal big bytes =
    must (is_none_or_sized (half_at big bytes 44) (half_at big bytes 42) 32) EntrySize 42
    <|> must (is_none_or_sized (half_at big bytes 48) (half_at big bytes 46) 40) EntrySize 46

-- The first broken rule of the length and the file header: each field in its order, first whether it is
-- cut, and at last the sizes of the other headers.
unfoldable pub header_refusal : List ℕ → Option Refusal
header_refusal bytes =
    ident_refusal bytes <|> numbers_refusal (is_big bytes) bytes <|> counts_refusal (is_big bytes) bytes
    <|> sizes_refusal (is_big bytes) bytes

-- What the header says of the file keeps the rules on its type, its counts and the section of the names.
pub record HeadKeeps (head : FileHead) : Type 0 where
  pub kind : IsTrue (is_file_type head.kind)
  pub segments : head.segment_count ≤ MOST_SEGMENTS
  pub sections : head.section_count ≤ MOST_SECTIONS
  pub names : IsTrue (is_none_or_below head.names head.section_count)
