-- Each section of an object of sound sections and symbols keeps the rules on sizes, fields and entries.
use Rattle.std.proofs.Common.{◌≡◌, ℕ, ◌+◌, ◌*◌, ◌/◌, ◌^◌, ◌<◌, ◌≤◌, ◌==◌, Bool, true, false, cond, List, [], ◌∷◌, ◌++◌, length, map, sym, ap, ◌∙◌, subst, arith}
use Rattle.std.specs.Prelude.{codes, count_by}
use Rattle.std.proofs.lemmas.Bool.Decides.{nat_tests}
use Rattle.c6x_base.specs.declared.limits.TheConstants.{MOST_SECTIONS}
use Rattle.c6x_elf.specs.Entries.{symbols_in, text_of}
use Rattle.c6x_elf.specs.declared.section.Section.{Section}
use Rattle.c6x_asm_object.specs.declared.reloc_entry.RelocEntry.{RelocEntry}
use Rattle.c6x_asm_object.specs.declared.asm_section.AsmSection.{AsmSection}
use Rattle.c6x_asm_object.specs.declared.symbol.Symbol.{Symbol}
use Rattle.c6x_asm_object.specs.Bindings.{is_local}
use Rattle.c6x_asm_object.specs.Filing.{Named, has_entries, named_section, named_rela, named_relas, named_shstrtab, named_strtab, named_symtab, names_of, symtab_of}
use Rattle.c6x_asm_object.specs.Headers.{table_section}
use Rattle.c6x_asm_object.specs.Relocations.{number_at}
use Rattle.c6x_asm_object.specs.Sound.{AreSound, IsEntrySound, IsSectionSound, IsSymbolSound}
use Rattle.c6x_asm_object.specs.FormSymbols.{names_table, symbol_numbers, symbol_table}
use Rattle.c6x_asm_object.proofs.Lengths.{length-symbol_table}
use Rattle.c6x_asm_object.proofs.Limited.{IsShort}
use Rattle.c6x_asm_object.proofs.Lists.{Each, each_append, each_back, each_of, each_weaken}
use Rattle.c6x_asm_object.proofs.Places.{arranged, every, length-sections_all, of_sections, of_relas, of_tables, sections_all, strtab_text, symtab_text}
use Rattle.c6x_asm_object.proofs.RelocationEntries.{entry_below}
use Rattle.c6x_asm_object.proofs.Tables.{Keeps, section_keeps, relas_keep, strings_keep, symbols_keep, table_bytes}

abbrev pub KeepsNamed : List Section → Named → Type 0
KeepsNamed all n = Keeps (length all) all n.section

-- the sections of the text
sections_keep : (all : List Section) (text : List ℕ) (count : ℕ) (ps : List AsmSection) → Each (IsSectionSound count) ps → Each (KeepsNamed all) (map (named_section text) ps)
sections_keep all text count [] sound = tt
sections_keep all text count (p ∷ ps) sound = (section_keeps (length all) count all p sound.0, sections_keep all text count ps sound.1)

-- a table of relocations, if there is one
keeps_if : (t : Bool) (P : Named → Type 0) (here : Named) (later : List Named) → P here → Each P later → Each P (cond t (here ∷ later) later)
keeps_if true P here later first rest = (first, rest)
keeps_if false P here later first rest = rest

rela_keeps : (all : List Section) (text numbers : List ℕ) (symtab number count : ℕ) (p : AsmSection) → symtab < length all → number < length all → symbols_in all symtab ≤ 2 ^ 24 → ((e : RelocEntry) → IsEntrySound count e → number_at numbers e.symbol < symbols_in all symtab) → IsSectionSound count p → KeepsNamed all (named_rela text numbers symtab number p)
rela_keeps all text numbers symtab number count p linked inside numbered known sound =
    relas_keep all symtab number numbers p.entries linked inside numbered
    (each_weaken (IsEntrySound count) (λ (e : RelocEntry). number_at numbers e.symbol < symbols_in all symtab) p.entries known
    (each_of (IsEntrySound count) p.entries sound.entries))

relas_keeps : (all : List Section) (text numbers : List ℕ) (symtab number count : ℕ) (ps : List AsmSection) → symtab < length all → number + length ps ≤ length all → symbols_in all symtab ≤ 2 ^ 24 → ((e : RelocEntry) → IsEntrySound count e → number_at numbers e.symbol < symbols_in all symtab) → Each (IsSectionSound count) ps → Each (KeepsNamed all) (named_relas text numbers symtab number ps)
relas_keeps all text numbers symtab number count [] linked inside numbered known sound = tt
relas_keeps all text numbers symtab number count (p ∷ ps) linked inside numbered known sound =
    keeps_if (has_entries p) (KeepsNamed all) (named_rela text numbers symtab number p)
    (named_relas text numbers symtab (number + 1) ps)
    (rela_keeps all text numbers symtab number count p linked (omega arith) numbered known sound.0)
    (relas_keeps all text numbers symtab (number + 1) count ps linked (omega arith) numbered known sound.1)

-- the three tables at the end
symtab_keeps : (all : List Section) (text : List ℕ) (ps : List AsmSection) (names : List Symbol) → length all ≤ MOST_SECTIONS → symtab_of ps + 1 < length all → length ps < length all → text_of all (symtab_of ps + 1) ≡ names_table text names → length (names_table text names) ≤ 1048576 → Each (IsSymbolSound (length ps)) names → KeepsNamed all (named_symtab text ps names)
unfolding named_symtab
symtab_keeps all text ps names most linked inside strings few sound =
    let info = 1 + length ps + count_by is_local names in
    symbols_keep all (symtab_of ps + 1) info text (length ps) names most linked inside strings (omega arith) sound

pub symtab_short : (text : List ℕ) (ps : List AsmSection) (names : List Symbol) → IsShort (named_symtab text ps names) → length (symbol_table text (length ps) names) ≤ 1048576
unfolding named_symtab
symtab_short text ps names short =
    let info = 1 + length ps + count_by is_local names in
    let bytes = symbol_table text (length ps) names in
    let same : length (table_section 2 (symtab_of ps + 1) info 4 16 bytes).bytes ≡ length bytes = ap length (table_bytes 2 (symtab_of ps + 1) info 4 16 bytes) in
    let small : length (table_section 2 (symtab_of ps + 1) info 4 16 bytes).bytes ≤ 1048576 = short.bytes in
    omega arith

strtab_short : (text : List ℕ) (names : List Symbol) → IsShort (named_strtab text names) → length (names_table text names) ≤ 1048576
unfolding named_strtab
strtab_short text names short =
    let bytes = names_table text names in
    let same : length (table_section 3 0 0 1 0 bytes).bytes ≡ length bytes = ap length (table_bytes 3 0 0 1 0 bytes) in
    let small : length (table_section 3 0 0 1 0 bytes).bytes ≤ 1048576 = short.bytes in
    omega arith

strtab_keeps : (all : List Section) (text : List ℕ) (names : List Symbol) → KeepsNamed all (named_strtab text names)
unfolding named_strtab
strtab_keeps all text names = strings_keep (length all) all (names_table text names)

names_keep : (all : List Section) (named : List Named) → KeepsNamed all (named_shstrtab named)
unfolding named_shstrtab
names_keep all named = strings_keep (length all) all (0 ∷ (names_of named ++ (codes ".shstrtab" ++ (0 ∷ []))))

-- the symbols that the table has
symbols_are : (all : List Section) (symtab n : ℕ) (bytes : List ℕ) → (symtab == 0) ≡ false → text_of all symtab ≡ bytes → length bytes ≡ 16 * n → symbols_in all symtab ≡ n
unfolding symbols_in
symbols_are all symtab n bytes some is long =
    let count : length (text_of all symtab) / 16 ≡ n = ap (λ (xs : List ℕ). length xs / 16) is ∙ omega arith in
    rw some count

-- all sections but the null section
pub every_keeps : (text : List ℕ) (ps : List AsmSection) (names : List Symbol) → AreSound ps names → length (sections_all text ps names) ≤ MOST_SECTIONS → Each IsShort (every text ps names) → Each (KeepsNamed (sections_all text ps names)) (every text ps names)
every_keeps text ps names sound most short =
    let all = sections_all text ps names in
    let sections = of_sections text ps in
    let relas = of_relas text ps names in
    let tables = of_tables text ps names in
    let count : length all ≡ symtab_of ps + 3 = length-sections_all text ps names in
    let shorts : Each IsShort (sections ++ (relas ++ tables)) = subst (Each IsShort) (arranged text ps names) short in
    let behind : Each IsShort (relas ++ tables) = each_back IsShort sections (relas ++ tables) shorts in
    let last : Each IsShort tables = each_back IsShort relas tables behind in
    let some : (symtab_of ps == 0) ≡ false = grind (arith, nat_tests) in
    let has : symbols_in all (symtab_of ps) ≡ 1 + length ps + length names =
    symbols_are all (symtab_of ps) (1 + length ps + length names) (symbol_table text (length ps) names) some
    (symtab_text text ps names) (length-symbol_table text (length ps) names) in
    let P : ℕ → RelocEntry → Type 0 = λ n e. number_at (symbol_numbers (length ps) names) e.symbol < n in
    let known : (e : RelocEntry) → IsEntrySound (length names) e → number_at (symbol_numbers (length ps) names) e.symbol < symbols_in all (symtab_of ps) =
    λ e there. subst (λ (n : ℕ). P n e) (sym has) (entry_below (length ps) names e there) in
    let sound_sections : Each (IsSectionSound (length names)) ps = each_of (IsSectionSound (length names)) ps sound.sections in
    let sound_names : Each (IsSymbolSound (length ps)) names = each_of (IsSymbolSound (length ps)) names sound.symbols in
    let rows = symtab_short text ps names last.0 in
    let numbered : symbols_in all (symtab_of ps) ≤ 2 ^ 24 = omega (arith, length-symbol_table text (length ps) names) in
    let strings = strtab_short text names last.1.0 in
    subst (Each (KeepsNamed all)) (sym (arranged text ps names))
    (each_append (KeepsNamed all) sections (relas ++ tables) (sections_keep all text (length names) ps sound_sections)
    (each_append (KeepsNamed all) relas tables
    (relas_keeps all text (symbol_numbers (length ps) names) (symtab_of ps) 1 (length names) ps (omega arith) (omega arith) numbered known sound_sections) (
      symtab_keeps all text ps names most (omega arith) (omega arith) (strtab_text text ps names) strings sound_names,
      (strtab_keeps all text names, (names_keep all _, tt)),
    )))
