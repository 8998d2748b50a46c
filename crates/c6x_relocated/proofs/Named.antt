-- What the symbols of entries, value words and stubs on imports are named by.
use Rattle.std.proofs.Common.{◌≡◌, ℕ, zero, suc, ◌<◌, ◌==◌, Bool, true, false, if◌then◌else◌, nat_lt, List, [], ◌∷◌, ◌++◌, length, map, filter, get_or, Option, None, Some, refl, sym, ap, ◌∙◌, subst, arith}
use Rattle.std.specs.List.{enumerate_from, flat_map}
use Rattle.std.specs.Prelude.{All, slice_get}
use Rattle.std.specs.Str.{bytes_eq}
use Rattle.std.proofs.lemmas.Bool.Decides.{nat_tests}
use Rattle.std.proofs.lemmas.List.{length-map}
use Rattle.std.proofs.lemmas.List.Elements.{All-append, All-cons, All-filter, All-head, All-map, All-nil, All-tail}
use Rattle.std.proofs.lemmas.List.Quantifiers.{position-Some}
use Rattle.c6x_dsbt.specs.Firsts.{firsts, is_other}
use Rattle.c6x_dsbt.specs.Needs.{file_words, is_got, number_origin, stubs_of, word_need, words_of}
use Rattle.c6x_dsbt.specs.Wanted.{by_binding, same_wanted, under_name, under_number, wanted_at, wanted_by, wanted_of}
use Rattle.c6x_dsbt.specs.declared.wanted.Wanted.{Wanted}
use Rattle.c6x_dsbt.specs.declared.wanted.Wanted.TheVariants.{Bound, Local}
use Rattle.c6x_elf.specs.Attributes.{symbol_binding}
use Rattle.c6x_elf.specs.Bindings.{Global, Local as LocalBinding, Weak as WeakBinding}
use Rattle.c6x_elf.specs.Lists.{symbols_of}
use Rattle.c6x_elf.specs.Names.{name_of}
use Rattle.c6x_elf.specs.Types.{Symbol, SymbolBinding}
use Rattle.c6x_elf.specs.declared.file.File.{File}
use Rattle.c6x_elf.specs.declared.section.Section.{Section}
use Rattle.c6x_layout.specs.Regions.{binding_region, bound_region, symbol_region, wanted_region}
use Rattle.c6x_symbols.specs.Entries.{file_entries}
use Rattle.c6x_symbols.specs.declared.object_entry.ObjectEntry.{ObjectEntry}
use Rattle.c6x_symbols.specs.declared.region.Region.TheVariants.{Absolute as Fixed, Import}
use Rattle.c6x_plan.specs.declared.link_plan.LinkPlan.{LinkPlan}
use Rattle.c6x_symbols.specs.Bindings.{BoundName, binding_in, bound_at, is_import, is_imported, name_in}
use Rattle.c6x_symbols.specs.Mentions.{strings_of}
use Rattle.c6x_symbols.specs.Names.{name_at}
use Rattle.c6x_symbols.specs.declared.binding.Binding.{Binding}
use Rattle.c6x_symbols.specs.declared.binding.Binding.TheVariants.{Common, Import as Imported, Strong, Table, Weak}
use Rattle.c6x_symbols.specs.declared.entry.Entry.{Entry}
use Rattle.c6x_link.specs.LinkEntries.{entry_on, file_link_entries, link_entries, link_entry}
use Rattle.c6x_link.specs.Targets.{import_symbol, number_of_bound, symbol_of_region, target_of}
use Rattle.c6x_link.specs.Working.{Working, laying_of, working_of}
use Rattle.c6x_link.specs.declared.target.Target.{Target}
use Rattle.c6x_link.specs.Linked.{parts_of}
use Rattle.c6x_link_loads.proofs.Imports.{IsImportAt, import_at, stubs_import}
use Rattle.c6x_module.specs.declared.module.Module.{Module}
use Rattle.c6x_relocated.specs.Filled.{Finding, definition_address}
use Rattle.c6x_relocated.specs.Named.{IsNamed}
use Rattle.c6x_relocated.specs.Relocated.{IsLinkedModule}
use Rattle.c6x_relocated.proofs.Basics.{listed, of_one}
use Rattle.c6x_relocated.proofs.Imports.{import_named}
use Rattle.c6x_relocated.proofs.LinkedParts.{HasParts, has_parts}
use Rattle.c6x_relocated.proofs.Targeted.{region_of, symbol_is, symbol_no_import}

-- what a symbol of an object stands for is one of the names of the link, or the symbol itself
abbrev pub IsKnown : ℕ → Wanted → Type 0
IsKnown count (Bound number) = number < count
IsKnown count (Local object symbol) = Unit {0}

number_known : (names : List (List ℕ)) (object symbol : ℕ) (o : Option ℕ) → ((n : ℕ) → o ≡ Some n → n < length names)
    → IsKnown (length names) (under_number object symbol o)
number_known names object symbol None small = tt
number_known names object symbol (Some n) small = small n refl

name_small : (names : List (List ℕ)) (name : List ℕ) (n : ℕ) → name_at names name ≡ Some n → n < length names
unfolding name_at
name_small names name n is = let found = position-Some (λ (x : List ℕ). bytes_eq x name) names n [] is in found.0

name_known : (names : List (List ℕ)) (object symbol : ℕ) (o : Option (List ℕ))
    → IsKnown (length names) (under_name names object symbol o)
name_known names object symbol None = tt
name_known names object symbol (Some name) = number_known names object symbol (name_at names name)
    (name_small names name)

binding_known : (b : SymbolBinding) (names : List (List ℕ)) (object symbol : ℕ) (o : Option (List ℕ))
    → IsKnown (length names) (by_binding b names object symbol o)
binding_known LocalBinding names object symbol o = tt
binding_known Global names object symbol o = name_known names object symbol o
binding_known WeakBinding names object symbol o = name_known names object symbol o

symbol_known : (names : List (List ℕ)) (strings : List ℕ) (object : ℕ) (x : ℕ × Symbol)
    → IsKnown (length names) (wanted_by names strings object x)
unfolding wanted_by
symbol_known names strings object x = either (x.0 == 0)
  where
    either : (t : Bool) → IsKnown (length names) (if t then Local object 0 else by_binding (symbol_binding x.1) names
        object x.0 (name_of strings x.1.name))
    either true = tt
    either false = binding_known (symbol_binding x.1) names object x.0 (name_of strings x.1.name)

row_known : (names : List (List ℕ)) (object : ℕ) (sections : List Section)
    → All (IsKnown (length names)) (wanted_of names object sections)
unfolding wanted_of
row_known names object sections =
    All-map (IsKnown (length names)) (wanted_by names (strings_of sections) object)
    (enumerate_from 0 (symbols_of false sections)) (λ k d below.
    symbol_known names (strings_of sections) object (get_or (enumerate_from 0 (symbols_of false sections)) k d))

get_known : (count : ℕ) (xs : List Wanted) (i : ℕ) (d : Wanted) → IsKnown count d → All (IsKnown count) xs
    → IsKnown count (get_or xs i d)
get_known count [] i d known all = known
get_known count (x ∷ xs) zero d known all = All-head (IsKnown count) x xs all
get_known count (x ∷ xs) (suc i) d known all = get_known count xs i d known (All-tail (IsKnown count) x xs all)

at_known : (count : ℕ) (wanted : List Wanted) (object symbol : ℕ) → All (IsKnown count) wanted
    → IsKnown count (wanted_at wanted object symbol)
unfolding wanted_at
at_known count wanted object symbol all = get_known count wanted symbol (Local object symbol) tt all

-- what stands for an import is bound to one
binding_import : (objects : List File) (b : Binding) → binding_region objects b ≡ Import → is_import b ≡ true
binding_import objects (Strong object symbol) is = absurd
    (omega (arith, symbol_no_import objects object symbol is 0 1))
binding_import objects (Weak object symbol) is = absurd (omega (arith, symbol_no_import objects object symbol is 0 1))
binding_import objects (Common size align near) is = absurd (cc is)
binding_import objects (Imported weak) is = refl
binding_import objects Table is = absurd (cc is)

imported_is : (b : BoundName) → is_import (binding_in b) ≡ true → is_imported b ≡ true
unfolding is_imported
imported_is b is = is

named_by : (w : Working) (m : Module) → HasParts (parts_of w) m → (f : Finding) (position symbol n : ℕ)
    → n < length w.bindings → is_imported (bound_at w.bindings n) ≡ true → symbol ≡ import_symbol w.bindings n
    → IsNamed w m f position symbol
named_by w m has_of f position symbol n below imported is = record {
  number = n;
  below = below;
  imported = imported;
  symbol_is = is;
  address = ap (definition_address f position m) is ∙ import_named w m has_of f position n imported below;
}

bound_number : (w : Working) (n : ℕ) → n < length w.bindings
    → number_of_bound w.bindings (Bound n) ≡ import_symbol w.bindings n
bound_number w n below =
    let here : nat_lt n (length w.bindings) ≡ true = grind (arith, nat_tests, below) in
    ap (λ (b : Bool). if b then import_symbol w.bindings n else 0) here

region_named : (w : Working) (m : Module) → HasParts (parts_of w) m → (f : Finding) (position : ℕ) (wanted : Wanted)
    → IsKnown (length w.bindings) wanted → wanted_region w.objects w.bindings wanted ≡ Import
    → IsNamed w m f position (symbol_of_region Import (number_of_bound w.bindings wanted))
unfolding wanted_region bound_region
region_named w m has_of f position (Bound n) known is =
    named_by w m has_of f position (number_of_bound w.bindings (Bound n)) n known
    (imported_is (bound_at w.bindings n) (binding_import w.objects (binding_in (bound_at w.bindings n)) is))
    (bound_number w n known)
region_named w m has_of f position (Local object symbol) known is = absurd (no_import (symbol == 0) is)
  where
    no_import : (t : Bool) → (if t then Fixed else symbol_region w.objects object symbol) ≡ Import → ⊥
    no_import true e = cc e
    no_import false e = omega (arith, symbol_no_import w.objects object symbol e 0 1)

target_named : (w : Working) (m : Module) → HasParts (parts_of w) m → (f : Finding) (position : ℕ) (wanted : Wanted)
    → IsKnown (length w.bindings) wanted → (target_of w wanted).region ≡ Import
    → IsNamed w m f position (target_of w wanted).symbol
target_named w m has_of f position wanted known is =
    let region : wanted_region w.objects w.bindings wanted ≡ Import = sym (region_of w wanted) ∙ is in
    let P : ℕ → Type 0 = λ n. IsNamed w m f position n in
    let same : (target_of w wanted).symbol ≡ symbol_of_region Import (number_of_bound w.bindings wanted) = symbol_is w
    wanted ∙ ap (λ r. symbol_of_region r (number_of_bound w.bindings wanted)) region in
    subst P (sym same) (region_named w m has_of f position wanted known region)

-- the entries of the link
names_count : (w : Working) → length (map name_in w.bindings) ≡ length w.bindings
names_count w = length-map w.bindings name_in

row_counted : (w : Working) (object : ℕ) (sections : List Section)
    → All (IsKnown (length w.bindings)) (wanted_of (map name_in w.bindings) object sections)
row_counted w object sections =
    let P : ℕ → Type 0 = λ n. All (IsKnown n) (wanted_of (map name_in w.bindings) object sections) in
    subst P (names_count w) (row_known (map name_in w.bindings) object sections)

pub record NamesImport (w : Working) (m : Module) (f : Finding) (position : ℕ) (e : Entry) : Type 0 where
  pub named : e.reference.target ≡ Import → IsNamed w m f position e.symbol

entry_named : (w : Working) (m : Module) (f : Finding) (position : ℕ) (x : ObjectEntry) (t : Target)
    → (t.region ≡ Import → IsNamed w m f position t.symbol) → NamesImport w m f position (entry_on w x t)
unfolding entry_on
entry_named w m f position x t named = record { named = named }

link_named : (w : Working) (m : Module) → HasParts (parts_of w) m
    → (f : Finding) (position : ℕ) (wanted : List Wanted) (e : ObjectEntry) → All (IsKnown (length w.bindings)) wanted
    → NamesImport w m f position (link_entry w wanted e)
unfolding link_entry
link_named w m has_of f position wanted e all =
    entry_named w m f position e (target_of w (wanted_at wanted e.object e.symbol))
    (target_named w m has_of f position (wanted_at wanted e.object e.symbol)
    (at_known (length w.bindings) wanted e.object e.symbol all))

file_named : (w : Working) (m : Module) → HasParts (parts_of w) m → (f : Finding) (position : ℕ) (x : ℕ × File)
    → All (NamesImport w m f position) (file_link_entries w x)
unfolding file_link_entries
file_named w m has_of f position x =
    let wanted : List Wanted = wanted_of (map name_in w.bindings) x.0 x.1.sections in
    All-map (NamesImport w m f position) (link_entry w wanted) (file_entries false x) (λ k d below.
    link_named w m has_of f position wanted (get_or (file_entries false x) k d) (row_counted w x.0 x.1.sections))

files_named : (w : Working) (m : Module) → HasParts (parts_of w) m
    → (f : Finding) (position : ℕ) (xs : List (ℕ × File))
    → All (NamesImport w m f position) (flat_map (file_link_entries w) xs)
files_named w m has_of f position [] = All-nil (NamesImport w m f position)
files_named w m has_of f position (x ∷ xs) =
    All-append (NamesImport w m f position) (file_link_entries w x) (flat_map (file_link_entries w) xs)
    (file_named w m has_of f position x) (files_named w m has_of f position xs)

all_named : (w : Working) (m : Module) → HasParts (parts_of w) m → (f : Finding) (position : ℕ)
    → All (NamesImport w m f position) (link_entries w)
unfolding link_entries
all_named w m has_of f position = files_named w m has_of f position (enumerate_from 0 w.objects)

pub entries_named : (objects : List File) (plan : LinkPlan) (m : Module)
    → IsLinkedModule (parts_of (working_of objects plan)) m
    → (f : Finding) (position : ℕ) (before : List Entry) (e : Entry) (after : List Entry)
    → link_entries (working_of objects plan) ≡ before ++ e ∷ after → e.reference.target ≡ Import
    → IsNamed (working_of objects plan) m f position e.symbol
entries_named objects plan m linked f position before e after split is =
    let w = working_of objects plan in
    let P : List Entry → Type 0 = λ es. All (NamesImport w m f position) es in
    let one = of_one (NamesImport w m f position) before e after
    (subst P split (all_named w m (has_parts (parts_of w) m linked) f position)) in
    one.named is

-- the value words
need_known : (w : Working) (wanted : List Wanted) (e : ObjectEntry) → All (IsKnown (length w.bindings)) wanted
    → All (IsKnown (length w.bindings)) (word_need wanted e)
unfolding word_need
need_known w wanted e all = either (is_got (number_origin e.kind))
  where
    either : (t : Bool) → All (IsKnown (length w.bindings))
        (if t then wanted_at wanted e.object e.symbol ∷ [] else [])
    either true =
        All-cons (IsKnown (length w.bindings)) (wanted_at wanted e.object e.symbol) []
        (at_known (length w.bindings) wanted e.object e.symbol all)
        (All-nil (IsKnown (length w.bindings)))
    either false = All-nil (IsKnown (length w.bindings))

needs_known : (w : Working) (wanted : List Wanted) (es : List ObjectEntry) → All (IsKnown (length w.bindings)) wanted
    → All (IsKnown (length w.bindings)) (flat_map (word_need wanted) es)
needs_known w wanted [] all = All-nil (IsKnown (length w.bindings))
needs_known w wanted (e ∷ es) all =
    All-append (IsKnown (length w.bindings)) (word_need wanted e) (flat_map (word_need wanted) es)
    (need_known w wanted e all) (needs_known w wanted es all)

files_known : (w : Working) (xs : List (ℕ × File))
    → All (IsKnown (length w.bindings)) (flat_map (file_words w.bindings) xs)
unfolding file_words
files_known w [] = All-nil (IsKnown (length w.bindings))
files_known w (x ∷ xs) =
    let wanted : List Wanted = wanted_of (map name_in w.bindings) x.0 x.1.sections in
    All-append (IsKnown (length w.bindings)) (flat_map (word_need wanted) (file_entries false x))
    (flat_map (file_words w.bindings) xs)
    (needs_known w wanted (file_entries false x) (row_counted w x.0 x.1.sections)) (files_known w xs)

firsts_known : (P : Wanted → Type 0) (xs : List Wanted) → All P xs → All P (firsts same_wanted xs)
firsts_known P [] all = All-nil P
firsts_known P (x ∷ xs) all =
    All-cons P x (filter (is_other same_wanted x) (firsts same_wanted xs)) (All-head P x xs all)
    (All-filter (is_other same_wanted x) P (firsts same_wanted xs) (firsts_known P xs (All-tail P x xs all)))

words_known : (w : Working) → All (IsKnown (length w.bindings)) (words_of w.objects w.bindings)
unfolding words_of
words_known w =
    firsts_known (IsKnown (length w.bindings)) (flat_map (file_words w.bindings) (enumerate_from 0 w.objects))
    (files_known w (enumerate_from 0 w.objects))

words_are : (objects : List File) (plan : LinkPlan)
    → (working_of objects plan).words ≡ words_of (working_of objects plan).objects (working_of objects plan).bindings
unfolding working_of laying_of
words_are objects plan = refl

stubs_are : (objects : List File) (plan : LinkPlan)
    → (working_of objects plan).stubs ≡ stubs_of (working_of objects plan).objects (working_of objects plan).bindings
unfolding working_of laying_of
stubs_are objects plan = refl

pub words_named : (objects : List File) (plan : LinkPlan) (m : Module)
    → IsLinkedModule (parts_of (working_of objects plan)) m → (f : Finding) (position place : ℕ) (wanted : Wanted)
    → slice_get (working_of objects plan).words place ≡ Some wanted
    → (target_of (working_of objects plan) wanted).region ≡ Import
    → IsNamed (working_of objects plan) m f position (target_of (working_of objects plan) wanted).symbol
words_named objects plan m linked f position place wanted has is =
    let w = working_of objects plan in
    let P : List Wanted → Type 0 = λ xs. All (IsKnown (length w.bindings)) xs in
    target_named w m (has_parts (parts_of w) m linked) f position wanted
    (listed (IsKnown (length w.bindings)) w.words place wanted has
    (subst P (sym (words_are objects plan)) (words_known w))) is

pub stubs_named : (objects : List File) (plan : LinkPlan) (m : Module)
    → IsLinkedModule (parts_of (working_of objects plan)) m → (f : Finding) (position place number : ℕ)
    → slice_get (working_of objects plan).stubs place ≡ Some number
    → IsNamed (working_of objects plan) m f position (import_symbol (working_of objects plan).bindings number)
stubs_named objects plan m linked f position place number has =
    let w = working_of objects plan in
    let P : List ℕ → Type 0 = λ xs. All (IsImportAt w.bindings) xs in
    let is = import_at w.bindings number (listed (IsImportAt w.bindings) w.stubs place number has
    (subst P (sym (stubs_are objects plan)) (stubs_import w.objects w.bindings))) in
    named_by w m (has_parts (parts_of w) m linked) f position (import_symbol w.bindings number) number is.1 is.0 refl
