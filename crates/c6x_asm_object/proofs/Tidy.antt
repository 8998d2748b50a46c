-- The object file of sound sections and symbols within the limits is tidy.
use Rattle.std.proofs.Common.{◌≡◌, ℕ, suc, ◌+◌, ◌<◌, ◌≤◌, ◌==◌, false, List, [], ◌∷◌, ◌++◌, None, length, map, sum_by, refl, sym, ap, append_assoc, length-append, subst, arith}
use Rattle.std.specs.Prelude.{IsTrue}
use Rattle.std.specs.List.{list_any}
use Rattle.std.proofs.lemmas.Bool.Decides.{nat_tests}
use Rattle.c6x_base.specs.declared.limits.TheConstants.{MOST_FILE_BYTES, MOST_SECTIONS}
use Rattle.c6x_elf.specs.Header.{is_file_type, is_none_or_below}
use Rattle.c6x_elf.specs.Rules.{along_both, first_along}
use Rattle.c6x_elf.specs.Held.{Holds}
use Rattle.c6x_elf.proofs.Holdings.{holds_all, holds_right}
use Rattle.c6x_elf.specs.Entries.{entries_refusal, named_refusal, own_name_refusal, text_of}
use Rattle.c6x_elf.specs.Form.{IsSized, IsTidy, own_head, section_length}
use Rattle.c6x_elf.specs.Parts.{fields_refusal}
use Rattle.c6x_elf.specs.Writing.{section_head_at, written_size}
use Rattle.c6x_elf.specs.declared.file.File.{File}
use Rattle.c6x_elf.specs.declared.section.Section.{Section}
use Rattle.c6x_elf.proofs.Moves.{both_none}
use Rattle.c6x_asm_object.specs.declared.asm_section.AsmSection.{AsmSection}
use Rattle.c6x_asm_object.specs.declared.symbol.Symbol.{Symbol}
use Rattle.c6x_asm_object.specs.Filing.{Named, file_of, named_sections, named_shstrtab, names_of, sections_from, sections_of, symtab_of}
use Rattle.c6x_asm_object.specs.Headers.{null_section, table_section}
use Rattle.c6x_asm_object.specs.Limits.{is_large, is_long}
use Rattle.c6x_asm_object.specs.Sound.{AreSound}
use Rattle.c6x_asm_object.proofs.Keeping.{KeepsNamed, every_keeps}
use Rattle.c6x_asm_object.proofs.Limited.{IsLimited, IsShort, limited, or_later, short_from, sum_within}
use Rattle.c6x_asm_object.proofs.Lists.{Each, all_of, each_back}
use Rattle.c6x_asm_object.proofs.NameEnds.{HasName, name_held, name_passes}
use Rattle.c6x_asm_object.proofs.Places.{every, length-sections_all, sections_all, shstrtab_bytes, shstrtab_text, the_names}
use Rattle.c6x_asm_object.proofs.Tables.{Keeps, keeps_renamed, null_keeps}

-- a section with its name's offset
abbrev pub placed : ℕ → Named → Section
placed at n = record n.section { name = at }

placed_keeps : (all : List Section) (at : ℕ) (n : Named) → KeepsNamed all n → Keeps (length all) all (placed at n)
placed_keeps all at n keeps = keeps_renamed (length all) all at n.section keeps

-- the rules along the sections
sized_along : (all : List Section) (at : ℕ) (named : List Named) → Each (KeepsNamed all) named → Each IsSized (sections_from at named)
sized_along all at [] keeps = tt
sized_along all at (n ∷ named) keeps =
    ((placed_keeps all at n keeps.0).sized, sized_along all (at + (length n.name + 1)) named keeps.1)

fields_along : (all : List Section) (at : ℕ) (named : List Named) → Each (KeepsNamed all) named → first_along (fields_refusal (length all)) (map own_head (sections_from at named)) ≡ None
fields_along all at [] keeps = refl
fields_along all at (n ∷ named) keeps =
    let next = at + (length n.name + 1) in
    both_none (fields_refusal (length all) (own_head (placed at n))) (first_along (fields_refusal (length all)) (map own_head (sections_from next named)))
    (placed_keeps all at n keeps.0).fields (fields_along all next named keeps.1)

-- a section whose name is among the names
named_passes : (names : ℕ) (all : List Section) (section : Section) (strings : List ℕ) (at : ℕ) → (names == 0) ≡ false → text_of all names ≡ strings → HasName strings at → section.name ≡ at → Keeps (length all) all section → named_refusal false names all (own_head section) section ≡ None
unfolding named_refusal own_name_refusal section_head_at
named_passes names all section strings at some is has name keeps =
    both_none (own_name_refusal names all (own_head section)) (entries_refusal false all (own_head section) section.bytes)
    (rw (some, is, name) (name_passes strings at 0 has)) keeps.entries

entries_along : (names : ℕ) (all : List Section) (strings : List ℕ) (at : ℕ) (named : List Named) → (names == 0) ≡ false → text_of all names ≡ strings → length strings ≤ 1048576 → Each (KeepsNamed all) named → Holds strings at (names_of named) → along_both (named_refusal false names all) (map own_head (sections_from at named)) (sections_from at named) ≡ None
entries_along names all strings at [] some is few keeps h = refl
entries_along names all strings at (n ∷ named) some is few keeps h =
    let next = at + (length n.name + 1) in
    let has = name_held strings at n.name (names_of named) h in
    let inside : at < length strings = has.below in
    let ends : at + length (n.name ++ (0 ∷ [])) ≡ next = ap (λ k. at + k) (length-append n.name (0 ∷ [])) in
    let P : List ℕ → Type 0 = λ xs. Holds strings at xs in
    let later : Holds strings at ((n.name ++ (0 ∷ [])) ++ names_of named) = subst P (sym (append_assoc n.name (0 ∷ []) (names_of named))) h in
    both_none (named_refusal false names all (own_head (placed at n)) (placed at n))
    (along_both (named_refusal false names all) (map own_head (sections_from next named)) (sections_from next named))
    (named_passes names all (placed at n) strings at some is has refl (placed_keeps all at n keeps.0))
    (entries_along names all strings next named some is few keeps.1
    (holds_right strings at (n.name ++ (0 ∷ [])) (names_of named) next later ends))

null-name : null_section.name ≡ 0
unfolding null_section table_section
null-name = refl

-- What all sections of an object keep together.
record AllKept (all : List Section) (names : ℕ) : Type 0 where
  sized : Each IsSized all
  fields : first_along (fields_refusal (length all)) (map own_head all) ≡ None
  entries : along_both (named_refusal false names all) (map own_head all) all ≡ None

all_kept : (text : List ℕ) (ps : List AsmSection) (names : List Symbol) → Each (KeepsNamed (sections_all text ps names)) (every text ps names) → length (names_of (every text ps names)) < 1048576 → AllKept (sections_all text ps names) (symtab_of ps + 2)
all_kept text ps names keeps few =
    let all = sections_all text ps names in
    let named = every text ps names in
    let strings = 0 ∷ names_of named in
    let is : text_of all (symtab_of ps + 2) ≡ strings = shstrtab_text text ps names in
    let some : (symtab_of ps + 2 == 0) ≡ false = grind (arith, nat_tests) in
    let whole : Holds strings 0 strings = holds_all strings in
    let later : Holds strings 1 (names_of named) = holds_right strings 0 (0 ∷ []) (names_of named) 1 whole refl in
    let null = null_keeps (length all) all in
    let rest = sections_from 1 named in
    record {
      sized = (null.sized, sized_along all 1 named keeps);
      fields = both_none (fields_refusal (length all) (own_head null_section)) (first_along (fields_refusal (length all)) (map own_head rest))
          null.fields (fields_along all 1 named keeps);
      entries = both_none (named_refusal false (symtab_of ps + 2) all (own_head null_section) null_section)
          (along_both (named_refusal false (symtab_of ps + 2) all) (map own_head rest) rest)
          (named_passes (symtab_of ps + 2) all null_section strings 0 some is (name_held strings 0 [] (names_of named) whole) null-name null)
          (entries_along (symtab_of ps + 2) all strings 1 named some is (omega arith) keeps later);
    }

-- the file with these sections
abbrev pub file_with : ℕ → List Section → File
file_with names sections = record { kind = 1; entry = 0; flags = 0; names = names; segments = []; sections = sections }

relocatable : IsTrue (is_file_type 1)
unfolding is_file_type
relocatable = refl

names_below : (names count : ℕ) → names < count → IsTrue (is_none_or_below names count)
unfolding is_none_or_below
names_below names count below = grind (arith, nat_tests)

tidy_with : (names : ℕ) (all : List Section) → names < length all → IsLimited (file_with names all) → AllKept all names → IsTidy false (file_with names all)
tidy_with names all below limits kept =
    let count : length all ≤ MOST_SECTIONS = limits.count in
    let small : written_size (file_with names all) ≤ MOST_FILE_BYTES = limits.small in
    let sum : sum_by section_length all ≤ written_size (file_with names all) = sum_within (file_with names all) kept.sized in
    record {
      form = record {
        segments = omega arith;
        sections = count;
        held = omega arith;
        sized = all_of IsSized all kept.sized;
        kind = relocatable;
        names = names_below names (length all) below;
        fields = kept.fields;
        entries = kept.entries;
      };
      loaded = λ k d less. absurd (omega arith);
      small = small;
    }

-- the names of the sections are short, as their table is
pub names_short : (text : List ℕ) (ps : List AsmSection) (names : List Symbol) → Each IsShort (every text ps names) → length (names_of (every text ps names)) < 1048576
names_short text ps names short =
    let named = named_sections text ps names in
    let last = each_back IsShort named (the_names text ps names ∷ []) short in
    let few : length (named_shstrtab named).section.bytes ≤ 1048576 = last.0.bytes in
    let same : length (named_shstrtab named).section.bytes ≡ suc (length (names_of (every text ps names))) = ap length (shstrtab_bytes named) in
    omega arith

-- the limits leave only the last of the sections' numbers
tidy_within : (text : List ℕ) (ps : List AsmSection) (names : List Symbol) → AreSound ps names → IsLimited (file_with (symtab_of ps + 2) (sections_all text ps names)) → IsTidy false (file_with (symtab_of ps + 2) (sections_all text ps names))
tidy_within text ps names sound limits =
    let all = sections_all text ps names in
    let most : length all ≤ MOST_SECTIONS = limits.count in
    let count : length all ≡ symtab_of ps + 3 = length-sections_all text ps names in
    let each : list_any is_long all ≡ false = limits.each in
    let short : Each IsShort (every text ps names) =
    short_from 1 (every text ps names) (or_later (is_long null_section) (list_any is_long (sections_from 1 (every text ps names))) each) in
    let kept : AllKept all (symtab_of ps + 2) = all_kept text ps names (every_keeps text ps names sound most short) (names_short text ps names short) in
    tidy_with (symtab_of ps + 2) all (omega arith) limits kept

-- sound sections and symbols within the limits make a tidy file
pub tidy : (text : List ℕ) (ps : List AsmSection) (names : List Symbol) → AreSound ps names → is_large text ps names ≡ false → IsTidy false (file_of text ps names)
unfolding is_large file_of sections_of
tidy text ps names sound small =
    tidy_within text ps names sound (limited (file_with (symtab_of ps + 2) (sections_all text ps names)) small)
