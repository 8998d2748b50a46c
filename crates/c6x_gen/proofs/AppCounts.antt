-- An executable has no more value words, stubs and fields for the loader than calls.
use Rattle.std.proofs.Common.{◌≡◌, ℕ, suc, ◌+◌, ◌≤◌, Bool, true, false, nat_eq, List, [], ◌∷◌, ◌++◌, length, map, cond, filter, if◌then◌else◌, arith}
use Rattle.std.proofs.lemmas.List.{length-append, length-map}
use Rattle.c6x_elf.specs.TableEntries.{rela_entries}
use Rattle.c6x_dsbt.specs.Firsts.{firsts, is_other}
use Rattle.c6x_dsbt.specs.Needs.{file_stubs, file_words, import_of, is_got, is_imported_at, is_packet, number_origin, stub_need, stubs_of, word_need, words_of}
use Rattle.c6x_dsbt.specs.Wanted.{same_wanted, wanted_at, wanted_of}
use Rattle.c6x_dsbt.specs.declared.wanted.Wanted.{Wanted}
use Rattle.c6x_dsbt.specs.declared.wanted.Wanted.TheVariants.{Bound, Local}
use Rattle.c6x_layout.specs.Dynamics.{file_filled, filled_count, is_filled_entry, is_filled_word}
use Rattle.c6x_symbols.proofs.Few.{each_few}
use Rattle.c6x_symbols.specs.Entries.{entry_of, file_entries}
use Rattle.c6x_symbols.specs.declared.object_entry.ObjectEntry.{ObjectEntry}
use Rattle.c6x_symbols.specs.Bindings.{BoundName, name_in}
use Rattle.c6x_gen.proofs.AppFile.{app_file, bound_of, Contents}
use Rattle.c6x_gen.proofs.AppEntries.{entries_are}

kept_case : {A : Type 0} (b : Bool) (x : A) (ys : List A) (n : ℕ) → length ys ≤ n → length (cond b (x ∷ ys) ys) ≤ suc n
kept_case true x ys n few = omega arith
kept_case false x ys n few = omega arith

kept_few : {A : Type 0} (p : A → Bool) (xs : List A) → length (filter p xs) ≤ length xs
kept_few p [] = omega arith
kept_few p (x ∷ xs) = kept_case (p x) x (filter p xs) (length xs) (kept_few p xs)

firsts_few : {A : Type 0} (same : A → A → Bool) (xs : List A) → length (firsts same xs) ≤ length xs
firsts_few same [] = omega arith
firsts_few same (x ∷ xs) = omega (arith, kept_few (is_other same x) (firsts same xs), firsts_few same xs)

one_or_none : {A : Type 0} (b : Bool) (x : A) → length (if b then x ∷ [] else []) ≤ 1
one_or_none true x = omega arith
one_or_none false x = omega arith

word_few : (wanted : List Wanted) (entry : ObjectEntry) → length (word_need wanted entry) ≤ 1
unfolding word_need
word_few wanted entry = one_or_none (is_got (number_origin entry.kind)) (wanted_at wanted entry.object entry.symbol)

import_few : (bindings : List BoundName) (wanted : Wanted) → length (import_of bindings wanted) ≤ 1
import_few bindings (Local object symbol) = omega arith
import_few bindings (Bound number) = one_or_none (is_imported_at bindings number) number

stub_case : (b : Bool) (numbers : List ℕ) → length numbers ≤ 1 → length (if b then numbers else []) ≤ 1
stub_case true numbers few = few
stub_case false numbers few = omega arith

stub_few : (bindings : List BoundName) (wanted : List Wanted) (entry : ObjectEntry) → length (stub_need bindings wanted entry) ≤ 1
unfolding stub_need
stub_few bindings wanted entry =
    stub_case (is_packet (number_origin entry.kind)) (import_of bindings (wanted_at wanted entry.object entry.symbol))
    (import_few bindings (wanted_at wanted entry.object entry.symbol))

-- the entries of the executable
abbrev entries : Contents → List (List ℕ) → List ObjectEntry
entries c names = file_entries false (0, app_file c names)

abbrev pub count_of : Contents → ℕ
count_of c = length (rela_entries false c.relas)

entries_count : (c : Contents) (names : List (List ℕ)) → length (entries c names) ≡ count_of c
entries_count c names = rw (entries_are c names) (length-map (rela_entries false c.relas) (entry_of 0 1))

abbrev stands_for : Contents → List (List ℕ) → List Wanted
stands_for c names = wanted_of (map name_in (bound_of c names)) 0 (app_file c names).sections

pub words_few : (c : Contents) (names : List (List ℕ)) → length (words_of (app_file c names ∷ []) (bound_of c names)) ≤ count_of c
unfolding words_of file_words
words_few c names =
    let need = file_words (bound_of c names) (0, app_file c names) in
    omega (
      arith,
      firsts_few same_wanted (need ++ []),
      length-append need [],
      each_few (word_need (stands_for c names)) 1 (word_few (stands_for c names)) (entries c names),
      entries_count c names,
    )

pub stubs_few : (c : Contents) (names : List (List ℕ)) → length (stubs_of (app_file c names ∷ []) (bound_of c names)) ≤ count_of c
unfolding stubs_of file_stubs
stubs_few c names =
    let need = file_stubs (bound_of c names) (0, app_file c names) in
    omega (
      arith,
      firsts_few nat_eq (need ++ []),
      length-append need [],
      each_few (stub_need (bound_of c names) (stands_for c names)) 1 (stub_few (bound_of c names) (stands_for c names)) (entries c names),
      entries_count c names,
    )

pub filled_few : (c : Contents) (names : List (List ℕ)) (words : List Wanted) → filled_count (app_file c names ∷ []) (bound_of c names) words ≤ length words + count_of c
unfolding filled_count file_filled
filled_few c names words =
    let filled = file_filled (app_file c names ∷ []) (bound_of c names) (0, app_file c names) in
    omega (
      arith,
      kept_few (is_filled_word (app_file c names ∷ []) (bound_of c names)) words,
      length-append filled [],
      kept_few (is_filled_entry (app_file c names ∷ []) (bound_of c names) (stands_for c names)) (entries c names),
      entries_count c names,
    )
