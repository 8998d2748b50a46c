-- An executable is small, with so many calls.
use Rattle.std.proofs.Common.{◌≡◌, ℕ, ◌+◌, ◌-◌, ◌*◌, ◌/◌, ◌≤◌, ◌==◌, nat_le, Bool, true, false, List, [], ◌∷◌, length, Option, None, if◌then◌else◌, refl, arith}
use Rattle.std.specs.Prelude.{is_none}
use Rattle.std.specs.List.{list_all}
use Rattle.std.proofs.lemmas.Bool.{and_parts, le-leb, leb-true}
use Rattle.c6x_elf.specs.Entries.{text_of}
use Rattle.c6x_elf.specs.Lists.{is_under, section_name}
use Rattle.c6x_elf.specs.Names.{name_of}
use Rattle.c6x_elf.specs.Parts.{has_bytes}
use Rattle.c6x_asm_object.specs.Filing.{named_shstrtab, sections_of}
use Rattle.c6x_asm_object.specs.Headers.{null_section, table_section}
use Rattle.c6x_gen.specs.Lists.{each_below}
use Rattle.c6x_gen.specs.Links.{app_link}
use Rattle.c6x_dsbt.specs.declared.wanted.Wanted.{Wanted}
use Rattle.c6x_layout.specs.Dynamics.{filled_count, module_names, shared_numbers, strings_of_link}
use Rattle.c6x_layout.specs.Layouts.{Laying, code_end, counts_of, data_end, far_zeros_end, file_end, greatest_word, near_bytes_end, near_end, near_zeros_end, sections_end, size_refusal, table_at, words_at, words_end}
use Rattle.c6x_layout.specs.Places.{common_room, commons_end, start_of}
use Rattle.c6x_layout.specs.FilePlaces.{dynamic_at, entry_count, hash_at, jumps_at, relas_at, strings_at, symbols_at, text_size}
use Rattle.c6x_layout.specs.declared.counts.Counts.{Counts}
use Rattle.c6x_symbols.specs.Parts.{file_parts, part_at, part_of, parts_of}
use Rattle.c6x_symbols.specs.Sections.{has_flag, is_near, is_text, zone_in, zone_of}
use Rattle.c6x_symbols.specs.declared.part.Part.{Part}
use Rattle.c6x_symbols.specs.declared.zone.Zone.TheVariants.{Text}
use Rattle.c6x_symbols.specs.Bindings.{BoundName}
use Rattle.c6x_symbols.specs.Rules.{must}
use Rattle.c6x_gen.proofs.AppFile.{app_file, are_few, bound_of, Contents, has_no_common}
use Rattle.c6x_gen.proofs.Linking.{none_is}

-- its one part
abbrev pub text_part : Contents → Part
text_part c = record { object = 0; section = 1; zone = Text; filled = true; size = c.size; align = 32 }

pub parts_are : (c : Contents) (names : List (List ℕ)) → parts_of (app_file c names ∷ []) ≡ text_part c ∷ []
unfolding app_file parts_of file_parts part_at part_of has_flag zone_of zone_in is_text is_near section_name is_under text_of name_of has_bytes sections_of named_shstrtab null_section table_section
parts_are c names = refl

-- no name is bound to a common, so none has room
no_room : (near : Bool) (b : BoundName) → has_no_common b ≡ true → common_room near b ≡ None
no_room true b is = none_is (common_room true b) (and_parts (is_none (common_room true b)) (is_none (common_room false b)) is).0
no_room false b is = none_is (common_room false b) (and_parts (is_none (common_room true b)) (is_none (common_room false b)) is).1

commons_nowhere : (near : Bool) (from : ℕ) (bs : List BoundName) → list_all has_no_common bs ≡ true → commons_end near from bs ≡ from
commons_nowhere near from [] all = refl
commons_nowhere near from (b ∷ bs) all =
    let both = and_parts (has_no_common b) (list_all has_no_common bs) all in
    rw (no_room near b both.0) (commons_nowhere near from bs both.1)

-- what is laid for an executable
abbrev pub laid : Contents → List (List ℕ) → List Wanted → List ℕ → Laying
laid c names words stubs = record { objects = app_file c names ∷ []; bindings = bound_of c names; words = words; stubs = stubs; plan = app_link }

pub code_ends : (c : Contents) (names : List (List ℕ)) (words : List Wanted) (stubs : List ℕ) → sections_end (laid c names words stubs) ≡ 65536 + c.size
unfolding sections_end start_of
code_ends c names words stubs = rw (parts_are c names) refl

data_ends : (c : Contents) (names : List (List ℕ)) (words : List Wanted) (stubs : List ℕ) → list_all has_no_common (bound_of c names) ≡ true → data_end (laid c names words stubs) ≡ words_end (laid c names words stubs)
unfolding data_end far_zeros_end file_end near_end near_zeros_end near_bytes_end
data_ends c names words stubs all =
    let l = laid c names words stubs in
    rw (parts_are c names, commons_nowhere true (words_end l) (bound_of c names) all, commons_nowhere false (words_end l) (bound_of c names) all) refl

-- counts that are small
record AreLow (c : Counts) : Type 0 where
  code : c.code ≤ 100000
  symbols : c.symbols ≤ 15
  strings : c.strings ≤ 100
  relas : c.relas ≤ 2000
  jumps : c.jumps ≤ 1000
  named : c.named ≤ 11

three_or_none : (b : Bool) → (if b then 0 else 3) ≤ 3
three_or_none true = omega arith
three_or_none false = omega arith

text_low : (c : Counts) → AreLow c → text_size c ≤ 1048576
unfolding text_size dynamic_at jumps_at relas_at strings_at symbols_at hash_at entry_count
text_low c low =
    let code = low.code in
    let symbols = low.symbols in
    let strings = low.strings in
    let relas = low.relas in
    let jumps = low.jumps in
    let named = low.named in
    omega (arith, code, symbols, strings, relas, jumps, named, three_or_none (c.relas == 0), three_or_none (c.jumps == 0))

-- what is small in an executable's laying
pub record IsSmall (c : Contents) (names : List (List ℕ)) (words : List Wanted) (stubs : List ℕ) : Type 0 where
  pub size : c.size ≤ 4016
  pub few_words : length words ≤ 1000
  pub few_stubs : length stubs ≤ 1000
  pub filled : filled_count (app_file c names ∷ []) (bound_of c names) words ≤ 2000
  pub few_names : are_few (bound_of c names) ≡ true
  pub commons : list_all has_no_common (bound_of c names) ≡ true

named_count : length (module_names app_link) ≡ 11
unfolding module_names each_below
named_count = refl

code_or : (b : Bool) (at end : ℕ) → at ≤ end → (if b then at else end) ≤ end
code_or true at end below = below
code_or false at end below = omega arith

code_low : (c : Contents) (names : List (List ℕ)) (words : List Wanted) (stubs : List ℕ) → IsSmall c names words stubs → code_end (laid c names words stubs) ≤ 65536 + 100000
unfolding code_end
code_low c names words stubs small =
    let l = laid c names words stubs in
    let size = small.size in
    let count = small.few_stubs in
    let end = (sections_end l + 31) / 32 * 32 + 16 * length stubs in
    let most = code_or (length stubs == 0) (sections_end l) end (omega arith) in
    let ends = code_ends c names words stubs in
    omega (arith, most, ends, size, count)

counts_low : (c : Contents) (names : List (List ℕ)) (words : List Wanted) (stubs : List ℕ) → IsSmall c names words stubs → AreLow (counts_of (laid c names words stubs))
unfolding counts_of
counts_low c names words stubs small =
    let few = and_parts (nat_le (length (shared_numbers (bound_of c names))) 12) (nat_le (length (strings_of_link (bound_of c names) app_link)) 100) small.few_names in
    let symbols : length (shared_numbers (bound_of c names)) ≤ 12 = leb-true (length (shared_numbers (bound_of c names))) 12 few.0 in
    let strings : length (strings_of_link (bound_of c names) app_link) ≤ 100 = leb-true (length (strings_of_link (bound_of c names) app_link)) 100 few.1 in
    record {
      code = omega (arith, code_low c names words stubs small);
      symbols = omega (arith, symbols);
      strings = strings;
      relas = small.filled;
      jumps = small.few_stubs;
      named = omega (arith, named_count);
    }

data_low : (c : Contents) (names : List (List ℕ)) (words : List Wanted) (stubs : List ℕ) → IsSmall c names words stubs → data_end (laid c names words stubs) - table_at (laid c names words stubs) ≤ 1048576
unfolding words_end words_at
data_low c names words stubs small =
    let end = data_ends c names words stubs small.commons in
    let few = small.few_words in
    let count = small.few_stubs in
    omega (arith, end, few, count)

either_none : {A : Type 0} (b : Bool) (told : Option A) → told ≡ None → (if b then None else told) ≡ None
either_none true told is = refl
either_none false told is = is

pub size_passes : (c : Contents) (names : List (List ℕ)) (words : List Wanted) (stubs : List ℕ) → IsSmall c names words stubs → size_refusal (laid c names words stubs) ≡ None
unfolding size_refusal must greatest_word
size_passes c names words stubs small =
    let l = laid c names words stubs in
    let few = small.few_words in
    let count = small.few_stubs in
    let text = le-leb (text_size (counts_of l)) 1048576 (text_low (counts_of l) (counts_low c names words stubs small)) in
    let range = le-leb (data_end l - table_at l) 1048576 (data_low c names words stubs small) in
    let word = le-leb (12 + length words + length stubs - 1) 32767 (omega (arith, few, count)) in
    rw (text, range, word) (either_none (length stubs == 0) None refl)
