-- How long tables and lists of sections are, and how symbols are counted.
use Rattle.std.proofs.Common.{◌≡◌, ℕ, zero, suc, ◌+◌, ◌*◌, ◌<◌, Bool, true, false, cond, List, [], ◌∷◌, ◌++◌, length, map, take, get_or, refl, sym, ap, ◌∙◌, length-append, arith}
use Rattle.c6x_asm_object.specs.Symbols.{symbol_name}
use Rattle.std.specs.Prelude.{count_by, filter}
use Rattle.std.proofs.lemmas.List.{length-map, length-take-le}
use Rattle.std.proofs.lemmas.List.Filters.{length-filter_both}
use Rattle.std.proofs.lemmas.List.Sums.{count_by-le-length, count_by_more_yes, length-filter, sum_by-cons, sum_by-take-le}
use Rattle.c6x_elf.specs.EntryRows.{symbol_rows}
use Rattle.c6x_elf.proofs.EntryRows.{length-rela_rows, length-symbol_rows}
use Rattle.c6x_asm_object.specs.declared.reloc_entry.RelocEntry.{RelocEntry}
use Rattle.c6x_asm_object.specs.declared.asm_section.AsmSection.{AsmSection}
use Rattle.c6x_asm_object.specs.declared.symbol.Symbol.{Symbol}
use Rattle.c6x_asm_object.specs.Bindings.{is_local, is_other}
use Rattle.c6x_asm_object.specs.Filing.{Named, has_entries, named_rela, named_relas, sections_from}
use Rattle.c6x_asm_object.specs.Relocations.{relocation, relocation_rows}
use Rattle.c6x_asm_object.specs.FormSymbols.{entries, name_entries, null_entry, ordered, section_entries, symbol_table}

length-section_entries : (number count : ℕ) → length (section_entries number count) ≡ count
length-section_entries number zero = refl
length-section_entries number (suc count) = ap suc (length-section_entries (number + 1) count)

length-name_entries : (text : List ℕ) (name : ℕ) (symbols : List Symbol) → length (name_entries text name symbols) ≡ length symbols
length-name_entries text name [] = refl
length-name_entries text name (s ∷ symbols) = ap suc (length-name_entries text (name + (length (symbol_name text s) + 1)) symbols)

pub length-section_rows : (number count : ℕ) → length (symbol_rows false (section_entries number count)) ≡ 16 * count
length-section_rows number count =
    length-symbol_rows false (section_entries number count) ∙ ap (λ n. 16 * n) (length-section_entries number count)

pub length-ordered : (symbols : List Symbol) → length (ordered symbols) ≡ length symbols
unfolding ordered
length-ordered symbols =
    length-append (filter is_local symbols) (filter is_other symbols) ∙ length-filter_both is_local is_other (λ s. refl) symbols

pub length-symbol_table : (text : List ℕ) (sections : ℕ) (symbols : List Symbol) → length (symbol_table text sections symbols) ≡ 16 * (1 + sections + length symbols)
unfolding symbol_table entries
length-symbol_table text sections symbols =
    let names = name_entries text 1 (ordered symbols) in
    let all = null_entry ∷ (section_entries 1 sections ++ names) in
    omega (
      arith,
      length-symbol_rows false all,
      length-append (section_entries 1 sections) names,
      length-section_entries 1 sections,
      length-name_entries text 1 (ordered symbols),
      length-ordered symbols,
    )

pub length-relocation_rows : (numbers : List ℕ) (entries : List RelocEntry) → length (relocation_rows numbers entries) ≡ 12 * length entries
length-relocation_rows numbers entries =
    length-rela_rows false (map (relocation numbers) entries) ∙ ap (λ n. 12 * n) (length-map entries (relocation numbers))

pub length-sections_from : (at : ℕ) (named : List Named) → length (sections_from at named) ≡ length named
length-sections_from at [] = refl
length-sections_from at (n ∷ named) = ap suc (length-sections_from (at + (length n.name + 1)) named)

-- the head of a count, where the rest makes so many
relas_if : (t : Bool) (here : Named) (later : List Named) (count : ℕ) → length later ≡ count → length (cond t (here ∷ later) later) ≡ cond t 1 0 + count
relas_if true here later count is = omega arith
relas_if false here later count is = omega arith

pub length-named_relas : (text numbers : List ℕ) (symtab number : ℕ) (ps : List AsmSection) → length (named_relas text numbers symtab number ps) ≡ count_by has_entries ps
length-named_relas text numbers symtab number [] = refl
length-named_relas text numbers symtab number (p ∷ ps) =
    relas_if (has_entries p) (named_rela text numbers symtab number p) (named_relas text numbers symtab (number + 1) ps) (count_by has_entries ps)
    (length-named_relas text numbers symtab (number + 1) ps)
    ∙ sym (sum_by-cons (λ q. cond (has_entries q) 1 0) p ps)

-- the local names and those others that come before another one are fewer than all
pub locals_before : (symbols : List Symbol) (i : ℕ) → i < length symbols → count_by is_local (take i symbols) < length symbols
locals_before symbols i below =
    omega (arith, count_by-le-length is_local (take i symbols), length-take-le i symbols (omega arith))

pub others_before : (symbols : List Symbol) (i : ℕ) (d : Symbol) → i < length symbols → is_other (get_or symbols i d) ≡ true → count_by is_local symbols + count_by is_other (take i symbols) < length symbols
others_before symbols i d below other =
    omega (
      arith,
      length-filter_both is_local is_other (λ s. refl) symbols,
      length-filter is_local symbols,
      length-filter is_other symbols,
      count_by_more_yes is_other symbols i d below other,
      sum_by-take-le (λ s. cond (is_other s) 1 0) symbols (i + 1),
    )
