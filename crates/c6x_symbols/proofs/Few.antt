-- How many parts and entries objects have at most.
use Rattle.std.proofs.Common.{◌≡◌, ℕ, suc, ◌+◌, ◌*◌, ◌/◌, ◌^◌, ◌≤◌, Bool, true, false, List, [], ◌∷◌, Option, length, map, ◌∙◌, cond, arith, length-append, if◌then◌else◌}
use Rattle.std.proofs.lemmas.List.{length-map}
use Rattle.std.proofs.lemmas.List.Elements.{All-head, All-tail}
use Rattle.std.proofs.lemmas.List.FromFn.{length-enumerate_from, length-range_with_len}
use Rattle.std.proofs.lemmas.List.Sums.{sum_by-cons}
use Rattle.std.specs.List.{enumerate_from, filter, flat_map, range_with_len}
use Rattle.std.specs.Prelude.{All, sum_by}
use Rattle.c6x_base.specs.declared.limits.TheConstants.{MOST_HELD_BYTES, MOST_SECTIONS}
use Rattle.c6x_elf.specs.Form.{section_length, segment_length}
use Rattle.c6x_elf.specs.Lists.{symtab_of}
use Rattle.c6x_elf.specs.TableEntries.{rela_at, rela_entries}
use Rattle.c6x_elf.specs.declared.file.File.{File}
use Rattle.c6x_elf.specs.declared.section.Section.{Section}
use Rattle.c6x_elf.specs.Types.{Rela}
use Rattle.c6x_symbols.specs.Entries.{entries_of, entry_of, file_entries, is_used, table_entries, unread}
use Rattle.c6x_symbols.specs.Objects.{HasFewSections, IsObject}
use Rattle.c6x_symbols.specs.Parts.{file_parts, part_at, part_of, parts_of}
use Rattle.c6x_symbols.specs.Sections.{is_allocated}

one_more : (most k n rest : ℕ) → n ≤ most → rest ≤ most * k → n + rest ≤ most * suc k
one_more most k n rest here later = let e : most * suc k ≡ most * k + most = grind arith in omega arith

-- if each item gives at most so many
pub each_few : {X A : Type 0} (f : X → List A) (most : ℕ) → ((x : X) → length (f x) ≤ most) → (xs : List X) → length (flat_map f xs) ≤ most * length xs
each_few f most each [] = omega arith
each_few f most each (x ∷ xs) =
    rw (length-append (f x) (flat_map f xs)) (one_more most (length xs) (length (f x)) (length (flat_map f xs)) (each x) (each_few f most each xs))

pub numbered_few : {X A : Type 0} (f : ℕ × X → List A) (P : X → Type 0) (most : ℕ) → ((n : ℕ) (x : X) → P x → length (f (n, x)) ≤ most) → (n : ℕ) (xs : List X) → All P xs → length (flat_map f (enumerate_from n xs)) ≤ most * length xs
numbered_few f P most each n [] are = omega arith
numbered_few f P most each n (x ∷ xs) are =
    rw (length-append (f (n, x)) (flat_map f (enumerate_from (n + 1) xs)))
    (one_more most (length xs) (length (f (n, x))) (length (flat_map f (enumerate_from (n + 1) xs))) (each n x (All-head P x xs are))
    (numbered_few f P most each (n + 1) xs (All-tail P x xs are)))

-- of parts no more than sections
part_few : (object : ℕ) (file : File) (x : ℕ × Section) → length (part_at object file x) ≤ 1
unfolding part_at
part_few object file x = by (is_allocated x.1)
  where
    by : (b : Bool) → length (if b then part_of object file x.0 x.1 ∷ [] else []) ≤ 1
    by true = omega arith
    by false = omega arith

file_few : (n : ℕ) (file : File) → HasFewSections file → length (file_parts (n, file)) ≤ MOST_SECTIONS
unfolding file_parts
file_few n file few =
    let each : length (flat_map (part_at n file) (enumerate_from 0 file.sections)) ≤ 1 * length (enumerate_from 0 file.sections) =
    each_few (part_at n file) 1 (part_few n file) (enumerate_from 0 file.sections) in
    let same : length (enumerate_from 0 file.sections) ≡ length file.sections = length-enumerate_from 0 file.sections in
    let most : length file.sections ≤ MOST_SECTIONS = few.sections in
    omega arith

pub parts_few : (files : List File) → All HasFewSections files → length (parts_of files) ≤ MOST_SECTIONS * length files
unfolding parts_of
parts_few files few = numbered_few file_parts HasFewSections MOST_SECTIONS file_few 0 files few

-- of entries of a table no more than bytes, and one that stands for it
table_few : (big : Bool) (object : ℕ) (symbols : Option ℕ) (table : Section) → length (table_entries big object symbols table) ≤ length table.bytes + 1
unfolding table_entries rela_entries
table_few big object symbols table = by _
  where
    read : List Rela
    read = map (rela_at big table.bytes) (range_with_len 0 (length table.bytes / 12))

    many : length (map (entry_of object table.info) read) ≡ length table.bytes / 12
    many = length-map read (entry_of object table.info) ∙ length-map (range_with_len 0 (length table.bytes / 12)) (rela_at big table.bytes) ∙ length-range_with_len 0 (length table.bytes / 12)

    by : (b : Bool) → length (if b then map (entry_of object table.info) read else unread object table.info ∷ []) ≤ length table.bytes + 1
    by true = omega (arith, many)
    by false = omega arith

used_step : (n rest held count : ℕ) (b : ℕ) → n ≤ b + 1 → rest ≤ held + count → n + rest ≤ b + held + suc count
used_step n rest held count b here later = omega arith

used_case : (big : Bool) (object : ℕ) (symbols : Option ℕ) (all : List Section) (x : Section) (xs : List Section) (b : Bool) → length (flat_map (table_entries big object symbols) (filter (is_used all) xs)) ≤ sum_by section_length xs + length xs → length (flat_map (table_entries big object symbols) (cond b (x ∷ filter (is_used all) xs) (filter (is_used all) xs))) ≤ length x.bytes + sum_by section_length xs + suc (length xs)
used_case big object symbols all x xs true later =
    rw (length-append (table_entries big object symbols x) (flat_map (table_entries big object symbols) (filter (is_used all) xs)))
    (used_step (length (table_entries big object symbols x)) (length (flat_map (table_entries big object symbols) (filter (is_used all) xs))) (sum_by section_length xs) (length xs) (length x.bytes) (table_few big object symbols x) later)
used_case big object symbols all x xs false later = omega arith

used_few : (big : Bool) (object : ℕ) (symbols : Option ℕ) (all : List Section) (xs : List Section) → length (flat_map (table_entries big object symbols) (filter (is_used all) xs)) ≤ sum_by section_length xs + length xs
used_few big object symbols all [] = omega arith
used_few big object symbols all (x ∷ xs) = rw (sum_by-cons section_length x xs) (used_case big object symbols all x xs (is_used all x) (used_few big object symbols all xs))

-- the entries of an object, and of all
pub file_entries_few : (big : Bool) (n : ℕ) (file : File) → IsObject big file → length (file_entries big (n, file)) ≤ 2 ^ 25
unfolding file_entries
file_entries_few big n file is =
    let most : length (flat_map (table_entries big n (symtab_of file.sections)) (filter (is_used file.sections) file.sections)) ≤ sum_by section_length file.sections + length file.sections =
    used_few big n (symtab_of file.sections) file.sections file.sections in
    let held : sum_by segment_length file.segments + sum_by section_length file.sections ≤ MOST_HELD_BYTES = is.form.held in
    let few : length file.sections ≤ MOST_SECTIONS = is.form.sections in
    omega arith

pub entries_few : (big : Bool) (files : List File) → All (IsObject big) files → length (entries_of big files) ≤ 2 ^ 25 * length files
unfolding entries_of
entries_few big files are = numbered_few (file_entries big) (IsObject big) (2 ^ 25) (file_entries_few big) 0 files are
