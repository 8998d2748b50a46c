-- There are no more words and stubs than entries.
use Rattle.std.proofs.Common.{ℕ, suc, ◌*◌, ◌^◌, ◌≤◌, Bool, true, false, nat_eq, List, [], ◌∷◌, length, map, cond, arith, if◌then◌else◌}
use Rattle.std.specs.List.{enumerate_from, filter, flat_map}
use Rattle.std.specs.Prelude.{All}
use Rattle.c6x_elf.specs.declared.file.File.{File}
use Rattle.c6x_symbols.proofs.Few.{each_few, file_entries_few, numbered_few}
use Rattle.c6x_symbols.specs.Entries.{file_entries}
use Rattle.c6x_symbols.specs.Objects.{IsObject}
use Rattle.c6x_symbols.specs.declared.object_entry.ObjectEntry.{ObjectEntry}
use Rattle.c6x_symbols.specs.Bindings.{BoundName, name_in}
use Rattle.c6x_dsbt.specs.Firsts.{firsts, is_other}
use Rattle.c6x_dsbt.specs.Needs.{file_stubs, file_words, import_of, is_got, is_imported_at, is_packet, number_origin, stub_need, stubs_of, word_need, words_of}
use Rattle.c6x_dsbt.specs.Wanted.{same_wanted, wanted_at, wanted_of}
use Rattle.c6x_dsbt.specs.declared.wanted.Wanted.{Wanted}
use Rattle.c6x_dsbt.specs.declared.wanted.Wanted.TheVariants.{Bound, Local}

kept_case : {A : Type 0} (b : Bool) (x : A) (ys : List A) (n : ℕ) → length ys ≤ n → length (cond b (x ∷ ys) ys) ≤ suc n
kept_case true x ys n few = omega arith
kept_case false x ys n few = omega arith

kept_few : {A : Type 0} (p : A → Bool) (xs : List A) → length (filter p xs) ≤ length xs
kept_few p [] = omega arith
kept_few p (x ∷ xs) = kept_case (p x) x (filter p xs) (length xs) (kept_few p xs)

firsts_few : {A : Type 0} (same : A → A → Bool) (xs : List A) → length (firsts same xs) ≤ length xs
firsts_few same [] = omega arith
firsts_few same (x ∷ xs) = omega (arith, kept_few (is_other same x) (firsts same xs), firsts_few same xs)

one_or_none : {A : Type 0} (b : Bool) (x : A) → length (if b then x ∷ [] else []) ≤ 1
one_or_none true x = omega arith
one_or_none false x = omega arith

word_few : (wanted : List Wanted) (entry : ObjectEntry) → length (word_need wanted entry) ≤ 1
unfolding word_need
word_few wanted entry = one_or_none (is_got (number_origin entry.kind)) (wanted_at wanted entry.object entry.symbol)

import_few : (bindings : List BoundName) (wanted : Wanted) → length (import_of bindings wanted) ≤ 1
import_few bindings (Local object symbol) = omega arith
import_few bindings (Bound number) = one_or_none (is_imported_at bindings number) number

stub_case : (b : Bool) (numbers : List ℕ) → length numbers ≤ 1 → length (if b then numbers else []) ≤ 1
stub_case true numbers few = few
stub_case false numbers few = omega arith

stub_few : (bindings : List BoundName) (wanted : List Wanted) (entry : ObjectEntry) → length (stub_need bindings wanted entry) ≤ 1
unfolding stub_need
stub_few bindings wanted entry =
    stub_case (is_packet (number_origin entry.kind)) (import_of bindings (wanted_at wanted entry.object entry.symbol))
    (import_few bindings (wanted_at wanted entry.object entry.symbol))

file_words_few : (bindings : List BoundName) (n : ℕ) (file : File) → IsObject false file → length (file_words bindings (n, file)) ≤ 2 ^ 25
unfolding file_words
file_words_few bindings n file is =
    let wanted = wanted_of (map name_in bindings) n file.sections in
    omega (arith, each_few (word_need wanted) 1 (word_few wanted) (file_entries false (n, file)), file_entries_few false n file is)

file_stubs_few : (bindings : List BoundName) (n : ℕ) (file : File) → IsObject false file → length (file_stubs bindings (n, file)) ≤ 2 ^ 25
unfolding file_stubs
file_stubs_few bindings n file is =
    let wanted = wanted_of (map name_in bindings) n file.sections in
    omega (arith, each_few (stub_need bindings wanted) 1 (stub_few bindings wanted) (file_entries false (n, file)), file_entries_few false n file is)

pub words_few : (objects : List File) (bindings : List BoundName) → All (IsObject false) objects → length (words_of objects bindings) ≤ 2 ^ 25 * length objects
unfolding words_of
words_few objects bindings are =
    omega (arith, firsts_few same_wanted (flat_map (file_words bindings) (enumerate_from 0 objects)), numbered_few (file_words bindings) (IsObject false) (2 ^ 25) (file_words_few bindings) 0 objects are)

pub stubs_few : (objects : List File) (bindings : List BoundName) → All (IsObject false) objects → length (stubs_of objects bindings) ≤ 2 ^ 25 * length objects
unfolding stubs_of
stubs_few objects bindings are =
    omega (arith, firsts_few nat_eq (flat_map (file_stubs bindings) (enumerate_from 0 objects)), numbered_few (file_stubs bindings) (IsObject false) (2 ^ 25) (file_stubs_few bindings) 0 objects are)
