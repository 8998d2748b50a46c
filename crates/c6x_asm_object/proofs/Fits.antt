-- Sound sections and symbols within the limits of an object fit the fields of its file.
use Rattle.std.proofs.Common.{◌≡◌, ℕ, ◌+◌, ◌^◌, ◌<◌, ◌≤◌, Bool, true, false, cond, List, [], ◌∷◌, ◌++◌, length, nat_le, refl, ap, subst, length-append, arith}
use Rattle.std.specs.List.{list_any}
use Rattle.std.proofs.lemmas.Bool.Decides.{nat_tests}
use Rattle.c6x_base.specs.declared.limits.TheConstants.{MOST_SECTIONS}
use Rattle.c6x_asm_object.specs.declared.asm_section.AsmSection.{AsmSection}
use Rattle.c6x_asm_object.specs.declared.symbol.Symbol.{Symbol}
use Rattle.c6x_asm_object.specs.Sound.{AreSound, IsSymbolSound}
use Rattle.c6x_asm_object.specs.Symbols.{names_total}
use Rattle.c6x_asm_object.specs.Filing.{Named, file_of, has_entries, named_rela, named_relas, named_sections, named_strtab, names_of, sections_from, sections_of, symtab_of}
use Rattle.c6x_asm_object.specs.Headers.{null_section, table_section}
use Rattle.c6x_asm_object.specs.Limits.{is_large, is_long}
use Rattle.c6x_asm_object.specs.Relocations.{relocation_rows}
use Rattle.c6x_asm_object.specs.FormSymbols.{symbol_numbers}
use Rattle.c6x_asm_object.proofs.Keeping.{symtab_short}
use Rattle.c6x_asm_object.proofs.Lengths.{length-relocation_rows, length-symbol_table}
use Rattle.c6x_asm_object.proofs.Limited.{IsLimited, IsShort, limited, or_later, short_from}
use Rattle.c6x_asm_object.proofs.Lists.{Each, all_of, each_back, each_front, each_of}
use Rattle.c6x_asm_object.proofs.NameLengths.{length-names_table}
use Rattle.c6x_asm_object.proofs.Places.{arranged, every, length-sections_all, of_relas, of_sections, of_tables, sections_all, the_names}
use Rattle.c6x_asm_object.proofs.SymbolEntries.{option_number}
use Rattle.c6x_asm_object.proofs.Tables.{table_bytes}
use Rattle.c6x_asm_object.proofs.Tidy.{names_short}
use Rattle.c6x_asm_object.specs.Fitting.{FitsFields, IsListed, IsPlaced}
use Rattle.c6x_asm_object.proofs.Adds.{names_append}

-- the sections and the relocation tables of the text are short
split_if : (t : Bool) (n : Named) (rest : List Named) → Each IsShort (cond t (n ∷ rest) rest) → (t ≡ true → IsShort n) × Each IsShort rest
split_if true n rest each = (λ is. each.0, each.1)
split_if false n rest each = (λ is. cc, each)

none_if : (n : ℕ) → nat_le 1 n ≡ false → n ≡ 0
none_if n is = grind (arith, nat_tests)

listed_if : (t : Bool) (text numbers : List ℕ) (symtab number : ℕ) (p : AsmSection) → has_entries p ≡ t → (t ≡ true → IsShort (named_rela text numbers symtab number p)) → IsListed p
listed_if false text numbers symtab number p is short = omega (arith, none_if (length p.entries) is)
listed_if true text numbers symtab number p is short =
    let rows = relocation_rows numbers p.entries in
    let here : IsShort (named_rela text numbers symtab number p) = short refl in
    let few : length (table_section 4 symtab number 4 12 rows).bytes ≤ 1048576 = here.bytes in
    omega (arith, few, ap length (table_bytes 4 symtab number 4 12 rows), length-relocation_rows numbers p.entries)

relas_listed : (text numbers : List ℕ) (symtab number : ℕ) (ps : List AsmSection) → Each IsShort (named_relas text numbers symtab number ps) → Each IsListed ps
relas_listed text numbers symtab number [] short = tt
relas_listed text numbers symtab number (p ∷ ps) short =
    let split = split_if (has_entries p) (named_rela text numbers symtab number p) (named_relas text numbers symtab (number + 1) ps) short in
    (listed_if (has_entries p) text numbers symtab number p refl split.0, relas_listed text numbers symtab (number + 1) ps split.1)

symbols_placed : (sections : ℕ) (names : List Symbol) → sections < MOST_SECTIONS → Each (IsSymbolSound sections) names → Each IsPlaced names
symbols_placed sections [] few sound = tt
symbols_placed sections (s ∷ names) few sound =
    ((option_number sections MOST_SECTIONS s.definition few (omega arith) sound.0.place).1, symbols_placed sections names few sound.1)

strings_few : (text : List ℕ) (names : List Symbol) → IsShort (named_strtab text names) → 1 + names_total text names < 2 ^ 32
unfolding named_strtab table_section
strings_few text names short = omega (arith, short.bytes, length-names_table text names)

fits_within : (text : List ℕ) (ps : List AsmSection) (names : List Symbol) → AreSound ps names → length (sections_all text ps names) ≤ MOST_SECTIONS → Each IsShort (every text ps names) → FitsFields text ps names
fits_within text ps names sound most short =
    let sections = of_sections text ps in
    let relas = of_relas text ps names in
    let tables = of_tables text ps names in
    let count = length-sections_all text ps names in
    let shorts : Each IsShort (sections ++ (relas ++ tables)) = subst (Each IsShort) (arranged text ps names) short in
    let behind : Each IsShort (relas ++ tables) = each_back IsShort sections (relas ++ tables) shorts in
    let last : Each IsShort tables = each_back IsShort relas tables behind in
    let listed : Each IsListed ps = relas_listed text (symbol_numbers (length ps) names) (symtab_of ps) 1 ps (each_front IsShort relas tables behind) in
    let placed : Each IsPlaced names = symbols_placed (length ps) names (omega arith) (each_of (IsSymbolSound (length ps)) names sound.symbols) in
    let named = named_sections text ps names in
    record {
      headers = omega arith;
      numbered = omega (arith, symtab_short text ps names last.0, length-symbol_table text (length ps) names);
      names = strings_few text names last.1.0;
      placed = all_of IsPlaced names placed;
      listed = all_of IsListed ps listed;
      titles =
          omega (
            arith,
            names_short text ps names short,
            ap length (names_append named (the_names text ps names ∷ [])),
            length-append (names_of named) (names_of (the_names text ps names ∷ [])),
          );
    }

pub fits : (text : List ℕ) (ps : List AsmSection) (names : List Symbol) → AreSound ps names → is_large text ps names ≡ false → FitsFields text ps names
unfolding is_large file_of sections_of
fits text ps names sound small =
    let limits : IsLimited (file_of text ps names) = limited (file_of text ps names) small in
    let each : list_any is_long (sections_all text ps names) ≡ false = limits.each in
    let most : length (sections_all text ps names) ≤ MOST_SECTIONS = limits.count in
    fits_within text ps names sound most
    (short_from 1 (every text ps names) (or_later (is_long null_section) (list_any is_long (sections_from 1 (every text ps names))) each))
