-- The entries for the loader are as many as the layout counts.
use Rattle.std.proofs.Common.{◌≡◌, ℕ, zero, suc, ◌+◌, ◌<◌, ◌==◌, ◌&&◌, Bool, true, false, not, List, [], ◌∷◌, ◌++◌, Option, None, Some, length, get_or, map, refl, sym, ap, ap₂, subst, ◌∙◌, arith, if◌then◌else◌, length-append, eqb-true}
use Rattle.std.specs.Prelude.{All, filter, slice_get}
use Rattle.std.specs.List.{enumerate_from, flat_map, list_all}
use Rattle.std.specs.Option.{ok_or}
use Rattle.std.proofs.lemmas.List.{get_or-map}
use Rattle.std.proofs.lemmas.List.Concat.{flat_map-append}
use Rattle.std.proofs.lemmas.List.Elements.{All-head, All-tail}
use Rattle.c6x_dsbt.specs.Wanted.{wanted_at, wanted_of}
use Rattle.c6x_dsbt.specs.declared.wanted.Wanted.{Wanted}
use Rattle.c6x_elf.specs.Types.{Rela}
use Rattle.c6x_elf.specs.declared.file.File.{File}
use Rattle.c6x_elf.specs.declared.section.Section.{Section}
use Rattle.c6x_layout.specs.Dynamics.{file_filled, filled_count, is_filled_entry, is_filled_word, is_word_kind}
use Rattle.c6x_layout.specs.Regions.{is_data, moves, region_of_section, section_region, sections_at, sections_in, wanted_region, zone_region}
use Rattle.c6x_symbols.specs.LinkEntries.{dynamic_relas, is_dynamic, is_dynamic_kind, rela_of, relas_at}
use Rattle.c6x_symbols.specs.EntryRules.{is_fixed, is_text, is_word}
use Rattle.c6x_symbols.specs.declared.entry.Entry.{Entry}
use Rattle.c6x_link.specs.Words.{rela_on, word_rela, word_relas}
use Rattle.c6x_link.specs.LinkEntries.{entry_on, file_link_entries, kind_of_entry, link_entries, link_entry, ok_kind, stands_in_text}
use Rattle.c6x_link.specs.Targets.{target_of}
use Rattle.c6x_link.specs.Working.{Working}
use Rattle.c6x_symbols.specs.Entries.{file_entries}
use Rattle.c6x_symbols.specs.Sections.{is_allocated, is_allocated_at, is_allocated_one, zone_of}
use Rattle.c6x_symbols.specs.declared.object_entry.ObjectEntry.{ObjectEntry}
use Rattle.c6x_symbols.specs.declared.region.Region.{Region}
use Rattle.c6x_symbols.specs.declared.region.Region.TheVariants.{Absolute, Data, Import as Elsewhere, Text}
use Rattle.c6x_symbols.specs.declared.zone.Zone.{Zone}
use Rattle.c6x_symbols.specs.declared.zone.Zone.TheVariants.{Far, Near, Text as TextZone}
use Rattle.c6x_reloc.specs.Table.{kind_in, kind_or, row_of}
use Rattle.c6x_reloc.specs.declared.reloc_error.RelocError.TheVariants.{Kind}
use Rattle.c6x_reloc.specs.declared.reloc_kind.RelocKind.{RelocKind}
use Rattle.c6x_reloc.specs.declared.reloc_kind.RelocKind.TheVariants.{NONE, ABS32, ABS16, ABS8, PCR_S21, PCR_S12, PCR_S7, ABS_S16, ABS_L16, ABS_H16, SBR_U15_B, SBR_U15_H, SBR_U15_W, SBR_S16, SBR_L16_B, SBR_L16_H, SBR_L16_W, SBR_H16_B, SBR_H16_H, SBR_H16_W, SBR_GOT_U15_W, SBR_GOT_L16_W, SBR_GOT_H16_W, DSBT_INDEX, JUMP_SLOT, ALIGN, FPHEAD, NOCMP}
use Rattle.c6x_symbols.specs.Bindings.{name_in}
use Rattle.c6x_link.proofs.EachEntry.{IsOf, of_file}

-- one item for each that passes
picked : {B C : Type 0} (test : B → Bool) (make : ℕ × B → C) (n : ℕ) (xs : List B) → length (flat_map (λ (x : ℕ × B). if test x.1 then make x ∷ [] else []) (enumerate_from n xs)) ≡ length (filter test xs)
picked test make n [] = refl
picked {B} {C} test make n (x ∷ xs) = either (test x) (picked test make (n + 1) xs)
  where
    either : (b : Bool) → length (flat_map (λ (x : ℕ × B). if test x.1 then make x ∷ [] else []) (enumerate_from (n + 1) xs)) ≡ length (filter test xs) → length ((if b then make (n, x) ∷ [] else []) ++ flat_map (λ (x : ℕ × B). if test x.1 then make x ∷ [] else []) (enumerate_from (n + 1) xs)) ≡ length (if b then x ∷ filter test xs else filter test xs)
    either true same = ap suc same
    either false same = same

words_filled : (w : Working) → length (word_relas w) ≡ length (filter (is_filled_word w.objects w.bindings) w.words)
unfolding word_relas word_rela
words_filled w = picked (is_filled_word w.objects w.bindings) (λ x. rela_on w x.0 (target_of w x.1)) 0 w.words

-- a kind is that of a word by its number alone
no_word : (kinds : List RelocKind) (number : ℕ) (m : Bool) → list_all (λ kind. not (is_word kind)) kinds ≡ true → is_dynamic_kind (ok_kind (ok_or (kind_in kinds number) Kind)) m ≡ false
no_word [] number m none = refl
no_word (kind ∷ kinds) number m none = by_number (number == (row_of kind).number) (is_word kind) none refl (no_word kinds number m)
  where
    by_number : (here word : Bool) → (not word && list_all (λ kind. not (is_word kind)) kinds) ≡ true → is_word kind ≡ word → (list_all (λ kind. not (is_word kind)) kinds ≡ true → is_dynamic_kind (ok_kind (ok_or (kind_in kinds number) Kind)) m ≡ false) → is_dynamic_kind (ok_kind (ok_or (if here then Some kind else kind_in kinds number) Kind)) m ≡ false
    by_number true true all is later = absurd (cc all)
    by_number true false all is later = rw is refl
    by_number false true all is later = absurd (cc all)
    by_number false false all is later = later all

abbrev others : List RelocKind
others =
    ABS16 ∷ ABS8 ∷ PCR_S21 ∷ PCR_S12 ∷ PCR_S7 ∷ ABS_S16 ∷ ABS_L16 ∷ ABS_H16 ∷ SBR_U15_B ∷ SBR_U15_H ∷ SBR_U15_W ∷ SBR_S16
    ∷ SBR_L16_B ∷ SBR_L16_H ∷ SBR_L16_W ∷ SBR_H16_B ∷ SBR_H16_H ∷ SBR_H16_W ∷ SBR_GOT_U15_W ∷ SBR_GOT_L16_W ∷ SBR_GOT_H16_W
    ∷ DSBT_INDEX ∷ JUMP_SLOT ∷ ALIGN ∷ FPHEAD ∷ NOCMP ∷ []

word_number : (number : ℕ) (m : Bool) → is_dynamic_kind (ok_kind (kind_or number)) m ≡ ((number == (row_of ABS32).number) && m)
unfolding kind_or row_of
word_number number m = by_none (number == 0) refl
  where
    by_word : (here : Bool) → is_dynamic_kind (ok_kind (ok_or (if here then Some ABS32 else kind_in others number) Kind)) m ≡ (here && m)
    by_word true = refl
    by_word false = no_word others number m refl

    by_none : (here : Bool) → (number == 0) ≡ here → is_dynamic_kind (ok_kind (ok_or (if here then Some NONE else (if number == 1 then Some ABS32 else kind_in others number)) Kind)) m ≡ ((number == 1) && m)
    by_none true is = let zero_is = eqb-true number 0 is in rw zero_is refl
    by_none false is = by_word (number == 1)

word_kinds : (kind : Option ℕ) (m : Bool) → is_dynamic_kind (kind_of_entry kind) m ≡ (is_word_kind kind && m)
word_kinds None m = refl
word_kinds (Some number) m = word_number number m

moves_is : (r : Region) → not (is_fixed r) ≡ moves r
moves_is Text = refl
moves_is Data = refl
moves_is Elsewhere = refl
moves_is Absolute = refl

zone_is : (z : Zone) → not (is_text (zone_region z)) ≡ is_data (zone_region z)
zone_is TextZone = refl
zone_is Near = refl
zone_is Far = refl

region_is : (names : ℕ) (sections : List Section) (section : Option Section) → is_allocated_one section ≡ true → not (is_text (region_of_section names sections section)) ≡ is_data (region_of_section names sections section)
region_is names sections None is = absurd (cc is)
region_is names sections (Some section) is = rw is (zone_is (zone_of names sections section))

entry_filled : (w : Working) (wanted : List Wanted) (object : ℕ) (e : ObjectEntry) → IsOf object (sections_at w.objects object) e → is_dynamic (link_entry w wanted e).reference ≡ is_filled_entry w.objects w.bindings wanted e
unfolding link_entry entry_on target_of stands_in_text is_filled_entry section_region is_allocated_at
entry_filled w wanted object e of =
    let here : is_allocated_at (sections_at w.objects e.object) e.section ≡ true = rw of.number of.allocated in
    let where_is = region_is _ (sections_at w.objects e.object) (slice_get (sections_at w.objects e.object) e.section) here in
    word_kinds e.kind _ ∙ ap (λ m. is_word_kind e.kind && m) (ap₂ ◌&&◌ where_is (moves_is (wanted_region w.objects w.bindings (wanted_at wanted e.object e.symbol))))

-- the entries of a file
entries_filled : (w : Working) (wanted : List Wanted) (object : ℕ) (es : List ObjectEntry) → All (IsOf object (sections_at w.objects object)) es → length (flat_map relas_at (map (link_entry w wanted) es)) ≡ length (filter (is_filled_entry w.objects w.bindings wanted) es)
entries_filled w wanted object [] all = refl
entries_filled w wanted object (e ∷ es) all =
    either (is_dynamic (link_entry w wanted e).reference) (is_filled_entry w.objects w.bindings wanted e)
    (entry_filled w wanted object e (All-head (IsOf object (sections_at w.objects object)) e es all))
    (entries_filled w wanted object es (All-tail (IsOf object (sections_at w.objects object)) e es all))
  where
    either : (a b : Bool) → a ≡ b → length (flat_map relas_at (map (link_entry w wanted) es)) ≡ length (filter (is_filled_entry w.objects w.bindings wanted) es) → length ((if a then rela_of (link_entry w wanted e) ∷ [] else []) ++ flat_map relas_at (map (link_entry w wanted) es)) ≡ length (if b then e ∷ filter (is_filled_entry w.objects w.bindings wanted) es else filter (is_filled_entry w.objects w.bindings wanted) es)
    either true true is same = ap suc same
    either true false is same = absurd (cc is)
    either false true is same = absurd (cc is)
    either false false is same = same

abbrev IsSame : Working → ℕ × File → Type 0
IsSame w x = length (flat_map relas_at (file_link_entries w x)) ≡ length (file_filled w.objects w.bindings x)

file_same : (w : Working) (object : ℕ) (file : File) → sections_at w.objects object ≡ file.sections → IsSame w (object, file)
unfolding file_link_entries file_filled
file_same w object file is =
    let P : List Section → Type 0 = λ (sections : List Section). All (IsOf object sections) (file_entries false (object, file)) in
    entries_filled w (wanted_of (map name_in w.bindings) object file.sections) object (file_entries false (object, file)) (subst P (sym is) (of_file object file))

no_file : File
no_file = record { kind = 0; entry = 0; flags = 0; names = 0; segments = []; sections = [] }

-- and of all files
files_filled : (w : Working) (n : ℕ) (files : List File) → ((i : ℕ) → i < length files → IsSame w (n + i, get_or files i no_file)) → length (flat_map relas_at (flat_map (file_link_entries w) (enumerate_from n files))) ≡ length (flat_map (file_filled w.objects w.bindings) (enumerate_from n files))
files_filled w n [] each = refl
files_filled w n (file ∷ files) each =
    let z : n + 0 ≡ n = omega arith in
    let R : ℕ → Type 0 = λ (k : ℕ). IsSame w (k, file) in
    let first : IsSame w (n, file) = subst R z (each 0 (omega arith)) in
    let rest = files_filled w (n + 1) files (λ i below.
    let s : n + suc i ≡ n + 1 + i = omega arith in
    let S : ℕ → Type 0 = λ (k : ℕ). IsSame w (k, get_or files i no_file) in
    subst S s (each (suc i) (omega arith))) in
    let cut = flat_map-append relas_at (file_link_entries w (n, file)) (flat_map (file_link_entries w) (enumerate_from (n + 1) files)) in
    ap length cut
    ∙ length-append (flat_map relas_at (file_link_entries w (n, file))) (flat_map relas_at (flat_map (file_link_entries w) (enumerate_from (n + 1) files)))
    ∙ ap₂ ◌+◌ first rest
    ∙ sym (length-append (file_filled w.objects w.bindings (n, file)) (flat_map (file_filled w.objects w.bindings) (enumerate_from (n + 1) files)))

same_at : (w : Working) (i : ℕ) → i < length w.objects → IsSame w (0 + i, get_or w.objects i no_file)
unfolding sections_at
same_at w i below =
    let z : 0 + i ≡ i = omega arith in
    let R : ℕ → Type 0 = λ (k : ℕ). IsSame w (k, get_or w.objects i no_file) in
    subst R (sym z) (file_same w i (get_or w.objects i no_file) (get_or-map sections_in w.objects i no_file [] below))

pub filled_relas : (w : Working) → length (word_relas w) + length (dynamic_relas (link_entries w)) ≡ filled_count w.objects w.bindings w.words
unfolding dynamic_relas link_entries filled_count
filled_relas w = ap₂ ◌+◌ (words_filled w) (files_filled w 0 w.objects (same_at w))
