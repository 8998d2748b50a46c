-- An executable begins with its text, whose first word is `start`'s.
use Rattle.std.proofs.Common.{◌≡◌, ℕ, ◌+◌, ◌%◌, ◌<◌, ◌≤◌, ◌==◌, true, false, List, [], ◌∷◌, ◌++◌, length, drop, None, refl, ap, sym, ◌∙◌, subst, arith}
use Rattle.std.proofs.lemmas.Bool.{eqb-true, le-leb}
use Rattle.std.proofs.lemmas.Grind.{common_steps}
use Rattle.c6x_dsbt.specs.declared.wanted.Wanted.{Wanted}
use Rattle.c6x_elf.specs.Laid.{Part, laid as bytes_laid}
use Rattle.c6x_elf.specs.Rows.{half_bytes, word_bytes, word_row}
use Rattle.c6x_elf.specs.declared.segment.Segment.{Segment}
use Rattle.c6x_layout.specs.Layouts.{layout_of, places_of}
use Rattle.c6x_layout.specs.Places.{start_of}
use Rattle.c6x_layout.specs.declared.layout.Layout.{Layout}
use Rattle.c6x_layout.specs.declared.place.Place.{Place}
use Rattle.c6x_link.specs.Linked.{entry_of, or_zero}
use Rattle.c6x_link.specs.Addresses.{bound_address, section_address, symbol_address}
use Rattle.c6x_layout.specs.File.{text_bytes, text_parts, text_segment}
use Rattle.c6x_layout.specs.Hash.{buckets_of, chains_of, hash_words}
use Rattle.c6x_layout.specs.FilePlaces.{hash_at}
use Rattle.c6x_layout.specs.Tables.{counts_of, shared_names}
use Rattle.c6x_layout.specs.declared.parts.Parts.{Parts}
use Rattle.c6x_module.specs.Fields.{entry_refusal}
use Rattle.c6x_module.specs.Refusals.{must}
use Rattle.c6x_module.specs.Shape.{is_inside}
use Rattle.c6x_gen.proofs.AppFile.{app_file, callee_names, Contents, working_with}
use Rattle.c6x_gen.proofs.AppNames.{every, same_names, tested}
use Rattle.c6x_gen.proofs.AppSizes.{laid, parts_are}
use Rattle.c6x_asm_object.specs.Filing.{named_shstrtab, sections_of}
use Rattle.c6x_asm_object.specs.Headers.{null_section, table_section}
use Rattle.c6x_elf.specs.Attributes.{info_binding, other_visibility, section_class}
use Rattle.c6x_elf.specs.Entries.{text_of}
use Rattle.c6x_elf.specs.EntryRows.{symbol_row}
use Rattle.c6x_elf.specs.Lists.{is_under, section_name, symbols_of, symtab_of}
use Rattle.c6x_elf.specs.Names.{name_of, name_table}
use Rattle.c6x_elf.specs.TableEntries.{symbol_at, symbol_entries}
use Rattle.c6x_gen.specs.Lists.{each_below}
use Rattle.c6x_layout.specs.Regions.{bound_region, names_at, section_region, sections_at, symbol_in, symbol_region}
use Rattle.c6x_symbols.specs.Sections.{has_flag, is_near, is_text, zone_in, zone_of}
use Rattle.c6x_spec.specs.Numbers.{half_at, word_at}
use Rattle.c6x_symbols.specs.Binding.{binding_of, is_table}
use Rattle.c6x_symbols.specs.Bindings.{bindings_of, no_name}
use Rattle.c6x_symbols.specs.Groups.{common_of, group_of, of_name}
use Rattle.c6x_symbols.specs.Mentions.{mention_of, mentions_of, object_mentions, strings_of}
use Rattle.c6x_symbols.specs.Names.{name_at}
use Rattle.std.specs.Fmt.{digits}

-- the one place that there is, and a layout with it
abbrev code_place : Contents → Place
code_place c = record { object = 0; section = 1; address = 65536; len = c.size }

abbrev with_places : Layout → List Place → Layout
with_places l places = record {
  places = places;
  commons = l.commons;
  stubs = l.stubs;
  dynamic = l.dynamic;
  text_end = l.text_end;
  text_align = l.text_align;
  table = l.table;
  words = l.words;
  file_end = l.file_end;
  end = l.end;
  data_align = l.data_align;
}

abbrev starts_at : Contents → List (List ℕ) → List Wanted → List ℕ → Layout → ℕ
starts_at c names words stubs layout = or_zero (entry_of (working_with c names words stubs layout))

all_begin : (c : Contents) (words : List Wanted) (stubs : List ℕ) (layout : Layout) → every (λ n count. starts_at c (callee_names n count) words stubs (with_places layout (code_place c ∷ [])) == 65536) ≡ true
unfolding entry_of bound_address section_address symbol_address no_name bound_region symbol_region symbol_in sections_at names_at section_region zone_of zone_in is_text is_near has_flag section_name is_under app_file each_below digits sections_of named_shstrtab table_section null_section symtab_of symbols_of text_of symbol_entries symbol_at word_at half_at symbol_row word_bytes half_bytes name_of name_table info_binding section_class mentions_of object_mentions mention_of strings_of bindings_of group_of of_name common_of binding_of is_table name_at other_visibility
all_begin c words stubs layout = refl

abbrev pub BeginsAt : Contents → List (List ℕ) → Type 0
BeginsAt c names = (words : List Wanted) (stubs : List ℕ) → starts_at c names words stubs (layout_of (laid c names words stubs)) ≡ 65536

places_are : (c : Contents) (names : List (List ℕ)) (words : List Wanted) (stubs : List ℕ) → (layout_of (laid c names words stubs)).places ≡ code_place c ∷ []
unfolding layout_of places_of start_of
places_are c names words stubs = rw (parts_are c names) refl

begins : (c : Contents) (n count : ℕ) → n < 11 → 1 ≤ count → count ≤ 11 → BeginsAt c (callee_names n count)
begins c n count small least most words stubs =
    let names = callee_names n count in
    let layout = layout_of (laid c names words stubs) in
    let at = tested (λ n count. starts_at c (callee_names n count) words stubs (with_places layout (code_place c ∷ [])) == 65536) (all_begin c words stubs layout) n count small least most in
    ap (λ places. starts_at c names words stubs (with_places layout places)) (places_are c names words stubs)
    ∙ eqb-true (starts_at c names words stubs (with_places layout (code_place c ∷ []))) 65536 at

pub names_begin : (c : Contents) (n count : ℕ) → 1 ≤ count → count ≤ 11 → BeginsAt c (callee_names n count)
names_begin c n count least most =
    let small : n % 11 < 11 = omega arith in
    subst (λ names. BeginsAt c names) (sym (same_names n count)) (begins c (n % 11) count small least most)

-- the text of a linked file is not empty
second_laid : (a b : Part) (ps : List Part) → length b.bytes ≤ length (bytes_laid 0 (a ∷ b ∷ ps))
second_laid a b ps = grind (arith, common_steps)

abbrev hash_part : Parts → Part
hash_part p = record { at = hash_at (counts_of p); bytes = word_row false (hash_words (shared_names p.shared)) }

two_parts : (p : Parts) → text_parts p ≡ record { at = 0; bytes = p.code } ∷ hash_part p ∷ drop 2 (text_parts p)
unfolding text_parts
two_parts p = refl

row_some : (word : ℕ) (words : List ℕ) → 1 ≤ length (word_row false (word ∷ words))
unfolding word_bytes
row_some word words = grind (arith, common_steps)

hash_some : (names : List (List ℕ)) → 1 ≤ length (word_row false (hash_words names))
unfolding hash_words
hash_some names = row_some (length names + 3) ((length names + 3) ∷ (buckets_of (length names + 3) names ++ chains_of (length names + 3) names))

text_some : (p : Parts) → 1 ≤ length (text_bytes p)
unfolding text_bytes
text_some p =
    let some = hash_some (shared_names p.shared) in
    let second = second_laid (record { at = 0; bytes = p.code }) (hash_part p) (drop 2 (text_parts p)) in
    let same = ap (λ ps. length (bytes_laid 0 ps)) (two_parts p) in
    omega (arith, some, second, same)

inside_keeps : (s : Segment) (index entry : ℕ) → s.vaddr ≡ 65536 → 1 ≤ s.memsz → entry ≡ 65536 → index ≡ 0 → entry_refusal s index entry ≡ None
unfolding entry_refusal must is_inside
inside_keeps s index entry vaddr some begin none =
    let end = le-leb (65536 + 1) (65536 + s.memsz) (omega (arith, some)) in
    rw (begin, none, vaddr, end) refl

-- Such parts begin at a word of their text.
pub entry_keeps : (p : Parts) → p.entry ≡ 65536 → p.index ≡ 0 → entry_refusal (text_segment p) p.index p.entry ≡ None
entry_keeps p entry index = inside_keeps (text_segment p) p.index p.entry refl (text_some p) entry index
