-- An executable breaks no rule of a link.
use Rattle.std.proofs.Common.{◌≡◌, ℕ, zero, suc, ◌+◌, ◌*◌, ◌%◌, ◌<◌, ◌≤◌, false, List, [], ◌∷◌, ◌++◌, length, map, Option, Some, None, refl, ap, ◌∙◌, arith}
use Rattle.std.specs.Prelude.{All}
use Rattle.std.proofs.lemmas.List.{append-nil, length-append, map-append}
use Rattle.std.proofs.lemmas.List.Elements.{All-append, All-cons, All-nil}
use Rattle.c6x_elf.proofs.EntryRows.{relas_back}
use Rattle.c6x_elf.specs.EntryRows.{RelaFits, rela_rows}
use Rattle.c6x_elf.specs.TableEntries.{rela_entries}
use Rattle.c6x_elf.specs.Types.{Rela}
use Rattle.c6x_dsbt.specs.Needs.{stubs_of, words_of}
use Rattle.c6x_dsbt.specs.Plans.{has_index, has_size, tables_refusal}
use Rattle.c6x_dsbt.specs.Wanted.{wanted_of}
use Rattle.c6x_dsbt.specs.declared.wanted.Wanted.{Wanted}
use Rattle.c6x_gen.specs.Lists.{each_below}
use Rattle.c6x_gen.specs.Links.{app_link}
use Rattle.c6x_layout.specs.Alignments.{alignments_refusal}
use Rattle.c6x_layout.specs.Layouts.{layout_of, layout_refusal, size_refusal}
use Rattle.c6x_link.specs.Linked.{entry_refusal, file_refusal, laid_refusal, link_refusal}
use Rattle.c6x_symbols.specs.LinkEntries.{entries_error, error_at}
use Rattle.c6x_symbols.specs.EntryRules.{◌<|>◌}
use Rattle.c6x_symbols.specs.declared.entry.Entry.{Entry}
use Rattle.c6x_link.specs.LinkEntries.{file_link_entries, link_entries, link_entry}
use Rattle.c6x_link.specs.Working.{Working, laying_of}
use Rattle.c6x_symbols.specs.Entries.{entry_of, file_entries}
use Rattle.c6x_symbols.specs.Bindings.{name_in, names_refusal}
use Rattle.c6x_symbols.specs.Rules.{must}
use Rattle.c6x_gen.proofs.AppCounts.{count_of, filled_few, stubs_few, words_few}
use Rattle.c6x_gen.proofs.AppEntries.{call_fine, call_rela, entries_are, working}
use Rattle.c6x_gen.proofs.AppFile.{app_file, bound_of, Contents}
use Rattle.c6x_gen.proofs.AppNames.{AreGood}
use Rattle.c6x_gen.proofs.AppSizes.{laid, size_passes}
use Rattle.c6x_gen.proofs.Linking.{none_is}

-- the relocations of so many lines
abbrev pub call_relas : ℕ → List Rela
call_relas count = each_below count (λ line. call_rela line (line % 11) ∷ [])

-- An executable of so many calls and names.
pub record IsExecutable (c : Contents) (names : List (List ℕ)) (count most : ℕ) : Type 0 where
  pub good : AreGood c names most
  pub size : c.size ≤ 4016
  pub few : count ≤ 1000
  pub named : (line : ℕ) → line < count → line % 11 < most
  pub code : length c.code ≡ 4 * (count + 4)
  pub relas : c.relas ≡ rela_rows false (call_relas count)

-- the relocations stand in the table as they are
call_fits : (line : ℕ) → line < 1000 → RelaFits (call_rela line (line % 11))
call_fits line few = record { offset = omega (arith, few); info = omega arith; addend = record { sfits = omega arith } }

all_fit : (count : ℕ) → count ≤ 1000 → All RelaFits (call_relas count)
unfolding each_below
all_fit zero few = All-nil RelaFits
all_fit (suc last) few =
    All-append RelaFits (call_relas last) (call_rela last (last % 11) ∷ []) (all_fit last (omega (arith, few)))
    (All-cons RelaFits (call_rela last (last % 11)) [] (call_fits last (omega (arith, few))) (All-nil RelaFits))

pub relas_read : (c : Contents) (names : List (List ℕ)) (count most : ℕ) → IsExecutable c names count most → rela_entries false c.relas ≡ call_relas count
relas_read c names count most is = ap (rela_entries false) is.relas ∙ relas_back false (call_relas count) (all_fit count is.few)

call_count : (count : ℕ) → length (call_relas count) ≡ count
unfolding each_below
call_count zero = refl
call_count (suc last) = omega (arith, call_count last, length-append (call_relas last) (call_rela last (last % 11) ∷ []))

-- no entry breaks a rule where none of its parts does
errors_none : (es : List Entry) (e : Entry) → entries_error es ≡ None → error_at e ≡ None → entries_error (es ++ e ∷ []) ≡ None
errors_none [] e none last = rw last refl
errors_none (first ∷ es) e none last =
    let here : error_at first ≡ None = front (error_at first) (entries_error es) none in
    let rest : entries_error es ≡ None = behind (error_at first) (entries_error es) none in
    rw here (errors_none es e rest last)
  where
    front : {A : Type 0} (a b : Option A) → (a <|> b) ≡ None → a ≡ None
    front None b is = refl
    front (Some x) b is = is

    behind : {A : Type 0} (a b : Option A) → (a <|> b) ≡ None → b ≡ None
    behind None b is = is
    behind (Some x) b is = absurd (cc is)

entries_fine : (w : Working) (wanted : List Wanted) (count : ℕ) → ((line : ℕ) → line < count → error_at (link_entry w wanted (entry_of 0 1 (call_rela line (line % 11)))) ≡ None) → entries_error (map (link_entry w wanted) (map (entry_of 0 1) (call_relas count))) ≡ None
unfolding each_below
entries_fine w wanted zero each = refl
entries_fine w wanted (suc last) each =
    let one = call_rela last (last % 11) ∷ [] in
    rw (map-append (entry_of 0 1) (call_relas last) one, map-append (link_entry w wanted) (map (entry_of 0 1) (call_relas last)) (map (entry_of 0 1) one))
    (errors_none (map (link_entry w wanted) (map (entry_of 0 1) (call_relas last))) (link_entry w wanted (entry_of 0 1 (call_rela last (last % 11))))
    (entries_fine w wanted last (λ line below. each line (omega (arith, below)))) (each last (omega arith)))

abbrev pub words_in : Contents → List (List ℕ) → List Wanted
words_in c names = words_of (app_file c names ∷ []) (bound_of c names)

abbrev pub stubs_in : Contents → List (List ℕ) → List ℕ
stubs_in c names = stubs_of (app_file c names ∷ []) (bound_of c names)

pub sizes : (c : Contents) (names : List (List ℕ)) (count most : ℕ) → IsExecutable c names count most → size_refusal (laid c names (words_in c names) (stubs_in c names)) ≡ None
sizes c names count most is =
    let few = is.few in
    let read : count_of c ≡ count = ap length (relas_read c names count most is) ∙ call_count count in
    let words = words_few c names in
    let stubs = stubs_few c names in
    let filled = filled_few c names (words_in c names) in
    size_passes c names (words_in c names) (stubs_in c names)
    (record {
      size = is.size;
      few_words = omega (arith, few, read, words);
      few_stubs = omega (arith, few, read, stubs);
      filled = omega (arith, few, read, words, filled);
      few_names = is.good.few;
      commons = is.good.commons;
    })

entries_pass : (c : Contents) (names : List (List ℕ)) (count most : ℕ) → IsExecutable c names count most → entries_error (link_entries (working c names (words_in c names) (stubs_in c names))) ≡ None
unfolding link_entries file_link_entries
entries_pass c names count most is =
    let w = working c names (words_in c names) (stubs_in c names) in
    let wanted = wanted_of (map name_in (bound_of c names)) 0 (app_file c names).sections in
    let few = is.few in
    let code = is.code in
    let same : file_entries false (0, app_file c names) ≡ map (entry_of 0 1) (call_relas count) = entries_are c names ∙ ap (map (entry_of 0 1)) (relas_read c names count most is) in
    rw (append-nil (map (link_entry w wanted) (file_entries false (0, app_file c names))), same)
    (entries_fine w wanted count (λ line below.
    call_fine c names (words_in c names) (stubs_in c names) most line (line % 11) (sizes c names count most is) is.good.imports (is.named line below) (omega (arith, code, below)) (omega (arith, few, below))))

tables_pass : tables_refusal false 0 12 ≡ None
unfolding tables_refusal has_index has_size must
tables_pass = refl

pub app_passes : (c : Contents) (names : List (List ℕ)) (count most : ℕ) → IsExecutable c names count most → link_refusal (app_file c names ∷ []) app_link ≡ None
unfolding link_refusal laying_of laid_refusal layout_refusal file_refusal entry_refusal must
app_passes c names count most is =
    let good = is.good in
    rw (
      none_is (names_refusal (bound_of c names)) good.accepted,
      tables_pass,
      none_is (alignments_refusal (app_file c names ∷ [])) good.aligned,
      sizes c names count most is,
      good.starts (words_in c names) (stubs_in c names) (layout_of (laid c names (words_in c names) (stubs_in c names))),
      entries_pass c names count most is,
    ) refl
