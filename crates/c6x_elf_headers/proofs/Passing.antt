use Rattle.std.proofs.Common.{◌≡◌, ℕ, ◌+◌, ◌≤◌, ◌==◌, ◌||◌, Bool, true, false, List, None, length, nat_le, cond, refl, ap, ◌∙◌, lit<, arith}
use Rattle.std.proofs.lemmas.Bool.Decides.{nat_tests}
use Rattle.std.specs.Prelude.{slice_index}
use Rattle.c6x_base.specs.declared.limits.TheConstants.{MOST_FILE_BYTES, MOST_SECTIONS, MOST_SEGMENTS}
use Rattle.c6x_spec.specs.Numbers.{half_at, word_at}
use Rattle.c6x_elf_headers.specs.declared.abi.TheConstants.{ELFCLASS32, ELFDATA2LSB, EM_TI_C6000, EV_CURRENT}
use Rattle.c6x_elf_headers.specs.Header.{HeadKeeps, counts_refusal, header_refusal, ident_refusal, is_file_type, is_magic, is_none_or_below, is_none_or_sized, numbers_refusal, sizes_refusal}
use Rattle.c6x_elf_headers.specs.Heads.{is_big}
use Rattle.c6x_elf_headers.specs.Rules.{must, whole}
use Rattle.c6x_elf_headers.specs.declared.elf_rule.ElfRule.{ElfRule}
use Rattle.c6x_elf_headers.specs.declared.elf_rule.ElfRule.TheVariants.{Short, Magic, Class, Data, Version, Machine, FileType, EntrySize, Index, Large}
use Rattle.c6x_elf_headers.specs.declared.file_head.FileHead.{FileHead}
use Rattle.c6x_elf_headers.specs.HeadRows.{size_of}
use Rattle.c6x_elf_headers.proofs.HeadRows.{ReadsHead}

-- a rule that is kept
pub must_is : (holds : Bool) (rule : ElfRule) (place : ℕ) → holds ≡ true → must holds rule place ≡ None
unfolding must
must_is true rule place is = refl
must_is false rule place is = cc

pub whole_is : (bytes : List ℕ) (at count : ℕ) → at + count ≤ length bytes → whole bytes at count ≡ None
unfolding whole
whole_is bytes at count within = must_is (nat_le (at + count) (length bytes)) Short at (grind (arith, nat_tests))

same_number : (a b : ℕ) → a ≡ b → (a == b) ≡ true
same_number a b is = grind (arith, nat_tests)

not_big : (bytes : List ℕ) (head : FileHead) → ReadsHead false bytes head → is_big bytes ≡ false
unfolding is_big
not_big bytes head r = rw (r.marks 5 (lit< tt)) refl

ident_passes : (bytes : List ℕ) (head : FileHead) → ReadsHead false bytes head → 52 ≤ length bytes → length bytes ≤ MOST_FILE_BYTES → ident_refusal bytes ≡ None
unfolding ident_refusal is_magic
ident_passes bytes head r long few =
    let b0 = r.marks 0 (lit< tt) in
    let b1 = r.marks 1 (lit< tt) in
    let b2 = r.marks 2 (lit< tt) in
    let b3 = r.marks 3 (lit< tt) in
    let b4 = r.marks 4 (lit< tt) in
    let b5 = r.marks 5 (lit< tt) in
    let b6 = r.marks 6 (lit< tt) in
    let magic : is_magic bytes ≡ true = rw (b0, b1, b2, b3) refl in
    let m0 = must_is (nat_le (length bytes) MOST_FILE_BYTES) Large 0 (grind (arith, nat_tests)) in
    let m1 = must_is (is_magic bytes) Magic 0 magic in
    let m2 = must_is (slice_index bytes 4 == ELFCLASS32) Class 4 (same_number _ _ b4) in
    let m3 = must_is (slice_index bytes 5 == ELFDATA2LSB) Data 5 (same_number _ _ b5) in
    let m4 = must_is (slice_index bytes 6 == EV_CURRENT) Version 6 (same_number _ _ b6) in
    let w0 = whole_is bytes 0 4 (omega arith) in
    let w4 = whole_is bytes 4 1 (omega arith) in
    let w5 = whole_is bytes 5 1 (omega arith) in
    let w6 = whole_is bytes 6 1 (omega arith) in
    let w7 = whole_is bytes 7 9 (omega arith) in
    rw (m0, w0, m1, w4, m2, w5, m3, w6, m4, w7) refl

numbers_pass : (bytes : List ℕ) (head : FileHead) → ReadsHead false bytes head → 52 ≤ length bytes → is_file_type head.kind ≡ true → numbers_refusal false bytes ≡ None
unfolding numbers_refusal
numbers_pass bytes head r long kind =
    let m0 = must_is (is_file_type (half_at false bytes 16)) FileType 16 (ap is_file_type r.kinds.0 ∙ kind) in
    let m1 = must_is (half_at false bytes 18 == EM_TI_C6000) Machine 18 (same_number _ _ r.kinds.1.0) in
    let m2 = must_is (word_at false bytes 20 == EV_CURRENT) Version 20 (same_number _ _ r.words.0) in
    let w16 = whole_is bytes 16 2 (omega arith) in
    let w18 = whole_is bytes 18 2 (omega arith) in
    let w20 = whole_is bytes 20 4 (omega arith) in
    let w24 = whole_is bytes 24 4 (omega arith) in
    let w28 = whole_is bytes 28 4 (omega arith) in
    let w32 = whole_is bytes 32 4 (omega arith) in
    let w36 = whole_is bytes 36 4 (omega arith) in
    rw (w16, m0, w18, m1, w20, m2, w24, w28, w32, w36) refl

counts_pass : (bytes : List ℕ) (head : FileHead) → ReadsHead false bytes head → 52 ≤ length bytes → head.segment_count ≤ MOST_SEGMENTS → head.section_count ≤ MOST_SECTIONS → is_none_or_below head.names head.section_count ≡ true → counts_refusal false bytes ≡ None
unfolding counts_refusal
counts_pass bytes head r long segments sections names =
    let segment_count : half_at false bytes 44 ≡ head.segment_count = r.counts.1.1.0 in
    let section_count : half_at false bytes 48 ≡ head.section_count = r.counts.1.1.1.1.0 in
    let name_section : half_at false bytes 50 ≡ head.names = r.counts.1.1.1.1.1.0 in
    let m0 = must_is (nat_le (half_at false bytes 44) 64) Large 44 (grind (arith, nat_tests)) in
    let m1 = must_is (nat_le (half_at false bytes 48) 4096) Large 48 (grind (arith, nat_tests)) in
    let m2 = must_is (is_none_or_below (half_at false bytes 50) (half_at false bytes 48)) Index 50
    (rw (name_section, section_count) names) in
    let w40 = whole_is bytes 40 2 (omega arith) in
    let w42 = whole_is bytes 42 2 (omega arith) in
    let w44 = whole_is bytes 44 2 (omega arith) in
    let w46 = whole_is bytes 46 2 (omega arith) in
    let w48 = whole_is bytes 48 2 (omega arith) in
    let w50 = whole_is bytes 50 2 (omega arith) in
    rw (w40, w42, w44, m0, w46, w48, m1, w50, m2) refl

or_sized : (none : Bool) (size : ℕ) → (none || (cond none 0 size == size)) ≡ true
or_sized true size = refl
or_sized false size = same_number size size refl

sized : (count size : ℕ) → is_none_or_sized count (size_of count size) size ≡ true
unfolding is_none_or_sized
sized count size = or_sized (count == 0) size

sizes_pass : (bytes : List ℕ) (head : FileHead) → ReadsHead false bytes head → sizes_refusal false bytes ≡ None
unfolding sizes_refusal
sizes_pass bytes head r =
    let segment_count : half_at false bytes 44 ≡ head.segment_count = r.counts.1.1.0 in
    let section_count : half_at false bytes 48 ≡ head.section_count = r.counts.1.1.1.1.0 in
    let segment_size : half_at false bytes 42 ≡ size_of head.segment_count 32 = r.counts.1.0 in
    let section_size : half_at false bytes 46 ≡ size_of head.section_count 40 = r.counts.1.1.1.0 in
    let m0 = must_is (is_none_or_sized (half_at false bytes 44) (half_at false bytes 42) 32) EntrySize 42
    (rw (segment_count, segment_size) (sized head.segment_count 32)) in
    let m1 = must_is (is_none_or_sized (half_at false bytes 48) (half_at false bytes 46) 40) EntrySize 46
    (rw (section_count, section_size) (sized head.section_count 40)) in
    rw (m0, m1) refl

-- a written header breaks no rule
pub header_passes : (bytes : List ℕ) (head : FileHead) → ReadsHead false bytes head → 52 ≤ length bytes → length bytes ≤ MOST_FILE_BYTES → HeadKeeps head → header_refusal bytes ≡ None
unfolding header_refusal
header_passes bytes head r long few keeps =
    let big = not_big bytes head r in
    let ident = ident_passes bytes head r long few in
    let numbers = numbers_pass bytes head r long keeps.kind in
    let counts = counts_pass bytes head r long keeps.segments keeps.sections keeps.names in
    let sizes = sizes_pass bytes head r in
    rw (big, ident, numbers, counts, sizes) refl

pub is_little : (bytes : List ℕ) (head : FileHead) → ReadsHead false bytes head → is_big bytes ≡ false
is_little = not_big
