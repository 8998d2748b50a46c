-- What the calls of an executable need: stubs of the libraries in order of first call, no value word, and no entry for the
-- loader beside those of the stubs.
use Rattle.std.proofs.Common.{◌≡◌, ℕ, zero, suc, ◌+◌, ◌%◌, ◌<◌, min, nat_eq, false, List, [], ◌∷◌, ◌++◌, map, refl, ap, ap₂, ◌∙◌, arith}
use Rattle.std.specs.List.{flat_map, range_with_len}
use Rattle.std.proofs.lemmas.Grind.{flat_map-append}
use Rattle.std.proofs.lemmas.List.{append-nil, map-append}
use Rattle.c6x_dsbt.specs.Firsts.{firsts}
use Rattle.c6x_dsbt.specs.Needs.{file_stubs, file_words, stub_need, stubs_of, word_need, words_of}
use Rattle.c6x_dsbt.specs.Wanted.{same_wanted}
use Rattle.c6x_dsbt.specs.declared.wanted.Wanted.{Wanted}
use Rattle.c6x_elf.specs.Types.{Rela}
use Rattle.c6x_gen.specs.Lists.{each_below}
use Rattle.c6x_symbols.specs.LinkEntries.{dynamic_relas, relas_at}
use Rattle.c6x_link.specs.LinkEntries.{entry_on, file_link_entries, link_entries, link_entry}
use Rattle.c6x_link.specs.Working.{Working}
use Rattle.c6x_layout.specs.declared.layout.Layout.{Layout}
use Rattle.c6x_symbols.specs.Entries.{entry_of, file_entries}
use Rattle.c6x_symbols.specs.declared.object_entry.ObjectEntry.{ObjectEntry}
use Rattle.c6x_reloc.specs.Table.{kind_or, row_of}
use Rattle.c6x_gen.proofs.AppEntries.{call_rela, entries_are, kind_of, number_of, wanted_in}
use Rattle.c6x_gen.proofs.AppFile.{app_file, bound_of, Contents, working_with}
use Rattle.c6x_gen.proofs.AppPasses.{call_relas, IsExecutable, relas_read, stubs_in, words_in}
use Rattle.c6x_gen.proofs.AppOrders.{IsInOrder}
use Rattle.c6x_gen.proofs.AppStubs.{first_rounds}

-- what each of the calls gives, one behind the other
abbrev call_entry : ℕ → ObjectEntry
call_entry line = entry_of 0 1 (call_rela line (line % 11))

along_calls : {A : Type 0} (f : ObjectEntry → List A) (g : ℕ → List A) (count : ℕ) → ((line : ℕ) → line < count → f (call_entry line) ≡ g line) → flat_map f (map (entry_of 0 1) (call_relas count)) ≡ each_below count g
unfolding each_below
along_calls f g zero each = refl
along_calls f g (suc last) each =
    let one = call_rela last (last % 11) ∷ [] in
    ap (flat_map f) (map-append (entry_of 0 1) (call_relas last) one)
    ∙ (flat_map-append f (map (entry_of 0 1) (call_relas last)) (map (entry_of 0 1) one)
    ∙ ap₂ ◌++◌ (along_calls f g last (λ line below. each line (omega (arith, below)))) (append-nil (f (call_entry last)) ∙ each last (omega arith)))

abbrev nothing : (A : Type 0) → ℕ → List A
nothing A line = []

nothing_along : (A : Type 0) (count : ℕ) → each_below count (nothing A) ≡ []
unfolding each_below
nothing_along A zero = refl
nothing_along A (suc last) = ap (λ xs. xs ++ []) (nothing_along A last)

-- one call
call_stub : (c : Contents) (names : List (List ℕ)) (line place : ℕ) → IsInOrder c names place → stub_need (bound_of c names) (wanted_in c names) (entry_of 0 1 (call_rela line place)) ≡ (1 + place) ∷ []
unfolding stub_need kind_or row_of
call_stub c names line place is = rw (kind_of place, number_of place, is.wanted, is.imported) refl

call_word : (wanted : List Wanted) (line place : ℕ) → word_need wanted (entry_of 0 1 (call_rela line place)) ≡ []
unfolding word_need kind_or row_of
call_word wanted line place = rw (kind_of place) refl

call_dynamic : (w : Working) (wanted : List Wanted) (line place : ℕ) → relas_at (link_entry w wanted (entry_of 0 1 (call_rela line place))) ≡ []
unfolding link_entry entry_on kind_or row_of
call_dynamic w wanted line place = rw (kind_of place) refl

-- the entries of the executable
entries_in : (c : Contents) (names : List (List ℕ)) (count most : ℕ) → IsExecutable c names count most → file_entries false (0, app_file c names) ≡ map (entry_of 0 1) (call_relas count)
entries_in c names count most is = entries_are c names ∙ ap (map (entry_of 0 1)) (relas_read c names count most is)

pub stubs_are : (c : Contents) (names : List (List ℕ)) (count most : ℕ) → IsExecutable c names count most → ((place : ℕ) → place < most → IsInOrder c names place) → stubs_in c names ≡ range_with_len 1 (min count 11)
unfolding stubs_of file_stubs
stubs_are c names count most is ordered =
    let need = stub_need (bound_of c names) (wanted_in c names) in
    ap (firsts nat_eq) (append-nil (flat_map need (file_entries false (0, app_file c names)))
    ∙ (ap (flat_map need) (entries_in c names count most is)
    ∙ along_calls need (λ line. (1 + line % 11) ∷ []) count (λ line below. call_stub c names line (line % 11) (ordered (line % 11) (is.named line below)))))
    ∙ first_rounds count

pub words_are : (c : Contents) (names : List (List ℕ)) (count most : ℕ) → IsExecutable c names count most → words_in c names ≡ []
unfolding words_of file_words
words_are c names count most is =
    let need = word_need (wanted_in c names) in
    ap (firsts same_wanted) (append-nil (flat_map need (file_entries false (0, app_file c names)))
    ∙ (ap (flat_map need) (entries_in c names count most is)
    ∙ (along_calls need (nothing Wanted) count (λ line below. call_word (wanted_in c names) line (line % 11)) ∙ nothing_along Wanted count)))

flat_mapped : {A B C : Type 0} (f : B → List C) (g : A → B) (xs : List A) → flat_map f (map g xs) ≡ flat_map (λ x. f (g x)) xs
flat_mapped f g [] = refl
flat_mapped f g (x ∷ xs) = ap (λ ys. f (g x) ++ ys) (flat_mapped f g xs)

pub dynamic_none : (c : Contents) (names : List (List ℕ)) (words : List Wanted) (stubs : List ℕ) (layout : Layout) (count most : ℕ) → IsExecutable c names count most → dynamic_relas (link_entries (working_with c names words stubs layout)) ≡ []
unfolding dynamic_relas link_entries file_link_entries
dynamic_none c names words stubs layout count most is =
    let w = working_with c names words stubs layout in
    let entry = link_entry w (wanted_in c names) in
    ap (flat_map relas_at) (append-nil (map entry (file_entries false (0, app_file c names))) ∙ ap (map entry) (entries_in c names count most is))
    ∙ (flat_mapped relas_at entry (map (entry_of 0 1) (call_relas count))
    ∙ (along_calls (λ e. relas_at (entry e)) (nothing Rela) count (λ line below. call_dynamic w (wanted_in c names) line (line % 11)) ∙ nothing_along Rela count))
