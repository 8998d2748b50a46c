-- What a link makes of the object of each number's executable, and that it keeps the rules that are left.
use Rattle.std.proofs.Common.{◌≡◌, ℕ, ◌+◌, ◌*◌, ◌≤◌, min, List, [], ◌∷◌, ◌++◌, map, None, refl, ap, sym, ◌∙◌, subst, arith}
use Rattle.std.specs.List.{enumerate_from, range_with_len}
use Rattle.c6x_dsbt.specs.declared.wanted.Wanted.{Wanted}
use Rattle.c6x_gen.specs.Links.{app_link}
use Rattle.c6x_gen.specs.Sources.{calls}
use Rattle.c6x_gen.specs.Objects.{app_object}
use Rattle.c6x_layout.specs.Layouts.{layout_of, words_at}
use Rattle.c6x_link.specs.Linked.{parts_of}
use Rattle.c6x_symbols.specs.LinkEntries.{dynamic_relas}
use Rattle.c6x_link.specs.Words.{stub_rela, stub_relas, word_relas}
use Rattle.c6x_link.specs.LinkEntries.{link_entries}
use Rattle.c6x_link.specs.Working.{Working, laying_of, working_of}
use Rattle.c6x_layout.specs.declared.parts.Parts.{Parts}
use Rattle.c6x_link_loads.specs.Loads.{fields_of_parts, parts_refusal}
use Rattle.c6x_module.specs.Fields.{fields_of, overlaps_from}
use Rattle.c6x_gen.proofs.AppEntries.{working}
use Rattle.c6x_gen.proofs.AppFile.{Contents}
use Rattle.c6x_gen.proofs.AppLinked.{executable}
use Rattle.c6x_gen.proofs.LinkedAppObject.{app_is as object_is, contents, named, names_in}
use Rattle.c6x_gen.proofs.AppPasses.{IsExecutable, stubs_in, words_in}
use Rattle.c6x_gen.proofs.AppSizes.{laid}
use Rattle.c6x_gen.specs.Parts.{callees, IsApp, stub_field}
use Rattle.c6x_gen.proofs.AppEntry.{entry_keeps, names_begin}
use Rattle.c6x_gen.proofs.AppFields.{AreInTurn, none_overlap, stub_fields}
use Rattle.c6x_gen.proofs.AppNeeds.{dynamic_none, stubs_are, words_are}
use Rattle.c6x_gen.proofs.AppOrders.{IsOrdered, names_ordered}

-- the working of an executable's file
abbrev working_in : Contents → List (List ℕ) → Working
working_in c names = working c names (words_in c names) (stubs_in c names)

no_word : (w : Working) → w.words ≡ [] → word_relas w ≡ []
unfolding word_relas
no_word w none = rw none refl

words_behind : (c : Contents) (names : List (List ℕ)) (words : List Wanted) (stubs : List ℕ) → (layout_of (laid c names words stubs)).words ≡ (layout_of (laid c names words stubs)).table + 48
unfolding layout_of words_at
words_behind c names words stubs = refl

-- the fields, where the words and the stubs are told
fields_with : (w : Working) (at count : ℕ) → AreInTurn w at count → dynamic_relas (link_entries w) ≡ [] → w.stubs ≡ range_with_len 1 count → fields_of ((word_relas w ++ dynamic_relas (link_entries w)) ++ stub_relas w) ≡ map (stub_field at) (range_with_len 0 count)
unfolding stub_relas
fields_with w at count turn none stubs =
    rw (no_word w turn.words, none)
    (ap (λ numbers. fields_of (map (stub_rela w) (enumerate_from 0 numbers))) stubs ∙ stub_fields w at count turn)

fields_in : (c : Contents) (names : List (List ℕ)) (count most : ℕ) → IsExecutable c names count most → IsOrdered c names most → most ≡ min count 11 → fields_of_parts (parts_of (working_in c names)) ≡ map (stub_field ((working_in c names).layout.table + 48)) (range_with_len 0 most)
unfolding fields_of_parts parts_of
fields_in c names count most is ordered few =
    let w = working_in c names in
    let stubs = stubs_are c names count most is ordered.in_order in
    fields_with w (w.layout.table + 48) most
    (record {
      words = words_are c names count most is;
      at_words = words_behind c names (words_in c names) (stubs_in c names);
      symbol = λ place below. (ordered.in_order place below).symbol;
    })
    (dynamic_none c names (words_in c names) (stubs_in c names) w.layout count most is)
    (stubs ∙ ap (range_with_len 1) (sym few))

-- What is told of the parts of an executable.
record IsMade (number : ℕ) (p : Parts) : Type 0 where
  form : IsApp number p
  kept : parts_refusal p ≡ None

refusal_none : (p : Parts) (number : ℕ) → IsApp number p → p.entry ≡ 65536 → parts_refusal p ≡ None
unfolding parts_refusal
refusal_none p number is entry =
    let table_end : p.table + 4 * p.slots ≤ p.table + 48 = omega (arith, is.slots) in
    let overlaps : overlaps_from p.table p.slots [] (fields_of_parts p) ≡ None =
    ap (overlaps_from p.table p.slots []) is.fields ∙ none_overlap p.table p.slots (p.table + 48) (callees number) table_end in
    rw (overlaps, entry_keeps p entry is.index) refl

made : (n : ℕ) → IsMade n (parts_of (working_in (contents n) (names_in n)))
unfolding parts_of
made n =
    let c = contents n in
    let names = names_in n in
    let w = working_in c names in
    let least : 1 ≤ named n = omega arith in
    let most : named n ≤ 11 = omega arith in
    let ordered = names_ordered c n (named n) least most in
    let shared = ordered.shared (words_in c names) (stubs_in c names) w.layout in
    let form : IsApp n (parts_of w) = record {
      library = refl;
      index = refl;
      slots = refl;
      needed = refl;
      start = shared.0;
      shared = shared.1;
      fields = fields_in c names (calls n) (named n) (executable n) ordered refl;
    } in
    record {
      form = form;
      kept = refusal_none (parts_of w) n form (names_begin c n (named n) least most (words_in c names) (stubs_in c names));
    }

all_made : (n : ℕ) → IsMade n (parts_of (working_of (app_object n ∷ []) app_link))
unfolding working_of laying_of
all_made n = subst (λ object. IsMade n (parts_of (working_of (object ∷ []) app_link))) (sym (object_is n)) (made n)

-- The parts of the executable of each number are of this form.
pub app_is : (n : ℕ) → IsApp n (parts_of (working_of (app_object n ∷ []) app_link))
app_is n = (all_made n).form

-- They break no rule on fields and on the entry.
pub app_keeps : (n : ℕ) → parts_refusal (parts_of (working_of (app_object n ∷ []) app_link)) ≡ None
app_keeps n = (all_made n).kept
