-- What holds of each relocation entry of a link.
use Rattle.std.proofs.Common.{◌≡◌, ℕ, zero, suc, ◌+◌, ◌<◌, ◌≤◌, ◌==◌, ◌&&◌, ◌||◌, Bool, true, false, List, [], ◌∷◌, ◌++◌, Option, None, Some, length, get_or, map, refl, sym, ap, subst, ◌∙◌, arith, if◌then◌else◌}
use Rattle.std.specs.Prelude.{All, filter, slice_index_or}
use Rattle.std.specs.List.{enumerate_from, flat_map}
use Rattle.std.proofs.lemmas.List.Elements.{All-append, All-cons, All-map, All-nil, All-tail, All-head}
use Rattle.std.proofs.lemmas.List.{get_or-map}
use Rattle.c6x_dsbt.specs.Wanted.{wanted_of}
use Rattle.c6x_dsbt.specs.declared.wanted.Wanted.{Wanted}
use Rattle.c6x_elf.specs.Abi.{SHT_REL, SHT_RELA}
use Rattle.c6x_elf.specs.Lists.{symtab_of}
use Rattle.c6x_elf.specs.TableEntries.{rela_entries}
use Rattle.c6x_elf.specs.Types.{Rela}
use Rattle.c6x_elf.specs.declared.file.File.{File}
use Rattle.c6x_elf.specs.declared.section.Section.{Section}
use Rattle.c6x_layout.specs.Regions.{sections_at, sections_in}
use Rattle.c6x_symbols.specs.declared.entry.Entry.{Entry}
use Rattle.c6x_link.specs.LinkEntries.{file_link_entries, link_entries, link_entry}
use Rattle.c6x_link.specs.Working.{Working}
use Rattle.c6x_symbols.specs.Entries.{entry_of, file_entries, is_own, is_used, table_entries, unread}
use Rattle.c6x_symbols.specs.Sections.{is_allocated_at}
use Rattle.c6x_symbols.specs.declared.object_entry.ObjectEntry.{ObjectEntry}
use Rattle.c6x_symbols.specs.Bindings.{name_in}

flat_all : {X A : Type 0} (P : A → Type 0) (f : X → List A) (xs : List X) → All (λ x. All P (f x)) xs → All P (flat_map f xs)
flat_all P f [] all = All-nil P
flat_all P f (x ∷ xs) all =
    All-append P (f x) (flat_map f xs) (All-head (λ x. All P (f x)) x xs all) (flat_all P f xs (All-tail (λ x. All P (f x)) x xs all))

enumerated : {X : Type 0} (Q : ℕ × X → Type 0) (n : ℕ) (xs : List X) (d : X) → ((i : ℕ) → i < length xs → Q (n + i, get_or xs i d)) → All Q (enumerate_from n xs)
enumerated Q n [] d each = All-nil Q
enumerated {X} Q n (x ∷ xs) d each =
    let z : n + 0 ≡ n = omega arith in
    let R : ℕ → Type 0 = λ k. Q (k, x) in
    All-cons Q (n, x) (enumerate_from (n + 1) xs) (subst R z (each 0 (omega arith)))
    (enumerated Q (n + 1) xs d (λ i below.
    let s : n + suc i ≡ n + 1 + i = omega arith in
    let S : ℕ → Type 0 = λ k. Q (k, get_or xs i d) in
    subst S s (each (suc i) (omega arith))))

-- an entry changes a section with memory of its object
pub record IsOf (object : ℕ) (sections : List Section) (e : ObjectEntry) : Type 0 where
  pub number : e.object ≡ object
  pub allocated : is_allocated_at sections e.section ≡ true

of_relas : (object section : ℕ) (sections : List Section) (relas : List Rela) → is_allocated_at sections section ≡ true → All (IsOf object sections) (map (entry_of object section) relas)
of_relas object section sections [] is = All-nil (IsOf object sections)
of_relas object section sections (r ∷ rs) is =
    All-cons (IsOf object sections) (entry_of object section r) (map (entry_of object section) rs) (record { number = refl; allocated = is })
    (of_relas object section sections rs is)

of_table : (object : ℕ) (sections : List Section) (symbols : Option ℕ) (table : Section) → is_allocated_at sections table.info ≡ true → All (IsOf object sections) (table_entries false object symbols table)
unfolding table_entries
of_table object sections symbols table is = either (table.kind == SHT_RELA && is_own symbols table.link)
  where
    either : (b : Bool) → All (IsOf object sections) (if b then map (entry_of object table.info) (rela_entries false table.bytes) else unread object table.info ∷ [])
    either true = of_relas object table.info sections (rela_entries false table.bytes) is
    either false =
        All-cons (IsOf object sections) (unread object table.info) [] (record { number = refl; allocated = is }) (All-nil (IsOf object sections))

used_allocated : (sections : List Section) (table : Section) → is_used sections table ≡ true → is_allocated_at sections table.info ≡ true
unfolding is_used
used_allocated sections table is = both (table.kind == SHT_RELA || table.kind == SHT_REL) (is_allocated_at sections table.info) is
  where
    both : (a b : Bool) → (a && b) ≡ true → b ≡ true
    both true b e = e
    both false b e = absurd (cc e)

filtered : {X : Type 0} (p : X → Bool) (P : X → Type 0) (xs : List X) → ((x : X) → p x ≡ true → P x) → All P (filter p xs)
filtered p P [] each = All-nil P
filtered p P (x ∷ xs) each = either (p x) refl (filtered p P xs each)
  where
    either : (b : Bool) → p x ≡ b → All P (filter p xs) → All P (if b then x ∷ filter p xs else filter p xs)
    either true is rest = All-cons P x (filter p xs) (each x is) rest
    either false is rest = rest

pub of_file : (object : ℕ) (file : File) → All (IsOf object file.sections) (file_entries false (object, file))
unfolding file_entries
of_file object file =
    flat_all (IsOf object file.sections) (table_entries false object (symtab_of file.sections)) (filter (is_used file.sections) file.sections)
    (filtered (is_used file.sections) (λ table. All (IsOf object file.sections) (table_entries false object (symtab_of file.sections) table)) file.sections
    (λ table used. of_table object file.sections (symtab_of file.sections) table (used_allocated file.sections table used)))

-- what holds of an entry whose section has memory holds of all
pub record Serves (P : Entry → Type 0) (w : Working) : Type 0 where
  pub each : (object : ℕ) (wanted : List Wanted) (e : ObjectEntry) → object < length w.objects → IsOf object (sections_at w.objects object) e → P (link_entry w wanted e)

mapped : (P : Entry → Type 0) (w : Working) (wanted : List Wanted) (object : ℕ) (sections : List Section) (es : List ObjectEntry) → ((e : ObjectEntry) → IsOf object sections e → P (link_entry w wanted e)) → All (IsOf object sections) es → All P (map (link_entry w wanted) es)
mapped P w wanted object sections [] each all = All-nil P
mapped P w wanted object sections (e ∷ es) each all =
    All-cons P (link_entry w wanted e) (map (link_entry w wanted) es) (each e (All-head (IsOf object sections) e es all))
    (mapped P w wanted object sections es each (All-tail (IsOf object sections) e es all))

no_file : File
no_file = record { kind = 0; entry = 0; flags = 0; names = 0; segments = []; sections = [] }

of_object : (P : Entry → Type 0) (w : Working) → Serves P w → (i : ℕ) → i < length w.objects → All P (file_link_entries w (0 + i, get_or w.objects i no_file))
unfolding file_link_entries sections_at
of_object P w serves i below =
    let z : 0 + i ≡ i = omega arith in
    let R : ℕ → Type 0 = λ k. All P (map (link_entry w (wanted_of (map name_in w.bindings) k (get_or w.objects i no_file).sections)) (file_entries false (k, get_or w.objects i no_file))) in
    let same : sections_at w.objects i ≡ (get_or w.objects i no_file).sections = get_or-map sections_in w.objects i no_file [] below in
    let S : List Section → Type 0 = λ ss. (e : ObjectEntry) → IsOf i ss e → P (link_entry w (wanted_of (map name_in w.bindings) i (get_or w.objects i no_file).sections) e) in
    subst R (sym z)
    (mapped P w (wanted_of (map name_in w.bindings) i (get_or w.objects i no_file).sections) i (get_or w.objects i no_file).sections (file_entries false (i, get_or w.objects i no_file))
    (subst S same (λ e is. serves.each i (wanted_of (map name_in w.bindings) i (get_or w.objects i no_file).sections) e below is))
    (of_file i (get_or w.objects i no_file)))

pub all_entries : (P : Entry → Type 0) (w : Working) → Serves P w → All P (link_entries w)
unfolding link_entries
all_entries P w serves =
    flat_all P (file_link_entries w) (enumerate_from 0 w.objects)
    (enumerated (λ x. All P (file_link_entries w x)) 0 w.objects no_file (λ i below. of_object P w serves i below))
