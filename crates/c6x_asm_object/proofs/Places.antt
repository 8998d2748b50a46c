-- Where the sections of an object stand in its list.
use Rattle.std.proofs.Common.{◌≡◌, ℕ, zero, suc, ◌+◌, List, [], ◌∷◌, ◌++◌, length, map, get_or, refl, sym, ap, ◌∙◌, append_assoc, length-append, add-zero, arith}
use Rattle.std.specs.Prelude.{codes, count_by}
use Rattle.std.proofs.lemmas.List.{length-map}
use Rattle.c6x_elf.specs.Entries.{section_bytes, text_of}
use Rattle.c6x_elf.specs.declared.section.Section.{Section}
use Rattle.c6x_asm_object.specs.declared.asm_section.AsmSection.{AsmSection}
use Rattle.c6x_asm_object.specs.declared.symbol.Symbol.{Symbol}
use Rattle.c6x_asm_object.specs.Filing.{Named, has_entries, named_section, named_relas, named_sections, named_shstrtab, named_strtab, named_symtab, names_of, sections_from, symtab_of}
use Rattle.c6x_asm_object.specs.Headers.{null_section}
use Rattle.c6x_asm_object.specs.FormSymbols.{names_table, symbol_numbers, symbol_table}
use Rattle.c6x_asm_object.proofs.Lengths.{length-named_relas, length-sections_from}
use Rattle.c6x_asm_object.proofs.Tables.{table_bytes}

-- the sections of the text, and their relocation tables
abbrev pub of_sections : List ℕ → List AsmSection → List Named
of_sections text ps = map (named_section text) ps

abbrev pub of_relas : List ℕ → List AsmSection → List Symbol → List Named
of_relas text ps names = named_relas text (symbol_numbers (length ps) names) (symtab_of ps) 1 ps

abbrev pub the_names : List ℕ → List AsmSection → List Symbol → Named
the_names text ps names = named_shstrtab (named_sections text ps names)

-- the three tables at the end
abbrev pub of_tables : List ℕ → List AsmSection → List Symbol → List Named
of_tables text ps names = named_symtab text ps names ∷ named_strtab text names ∷ the_names text ps names ∷ []

-- all sections but the null section
abbrev pub every : List ℕ → List AsmSection → List Symbol → List Named
every text ps names = named_sections text ps names ++ (the_names text ps names ∷ [])

abbrev pub sections_all : List ℕ → List AsmSection → List Symbol → List Section
sections_all text ps names = null_section ∷ sections_from 1 (every text ps names)

pub arranged : (text : List ℕ) (ps : List AsmSection) (names : List Symbol) → every text ps names ≡ of_sections text ps ++ (of_relas text ps names ++ of_tables text ps names)
unfolding named_sections
arranged text ps names =
    let two = named_symtab text ps names ∷ named_strtab text names ∷ [] in
    let last = the_names text ps names ∷ [] in
    append_assoc (of_sections text ps) (of_relas text ps names ++ two) last
    ∙ ap (λ xs. of_sections text ps ++ xs) (append_assoc (of_relas text ps names) two last)

length-every : (text : List ℕ) (ps : List AsmSection) (names : List Symbol) → length (every text ps names) ≡ symtab_of ps + 2
length-every text ps names =
    ap length (arranged text ps names)
    ∙ omega (
      arith,
      length-append (of_sections text ps) (of_relas text ps names ++ of_tables text ps names),
      length-append (of_relas text ps names) (of_tables text ps names),
      length-map ps (named_section text),
      length-named_relas text (symbol_numbers (length ps) names) (symtab_of ps) 1 ps,
    )

pub length-sections_all : (text : List ℕ) (ps : List AsmSection) (names : List Symbol) → length (sections_all text ps names) ≡ symtab_of ps + 3
length-sections_all text ps names = omega (arith, length-sections_from 1 (every text ps names), length-every text ps names)

-- the bytes of the sections
abbrev pub named_bytes : Named → List ℕ
named_bytes n = n.section.bytes

bytes_from : (at : ℕ) (named : List Named) → map section_bytes (sections_from at named) ≡ map named_bytes named
bytes_from at [] = refl
bytes_from at (n ∷ named) = ap (λ xs. n.section.bytes ∷ xs) (bytes_from (at + (length n.name + 1)) named)

behind : (front back : List Named) (k j : ℕ) → k ≡ length front + j → get_or (map named_bytes (front ++ back)) k [] ≡ get_or (map named_bytes back) j []
behind [] back k j is = ap (λ n. get_or (map named_bytes back) n []) (omega (arith, is))
behind (n ∷ front) back zero j is = absurd (omega arith)
behind (n ∷ front) back (suc k) j is = behind front back k j (omega arith)

text_behind : (named : List Named) (k n : ℕ) → n ≡ suc k → text_of (null_section ∷ sections_from 1 named) n ≡ get_or (map named_bytes named) k []
unfolding text_of
text_behind named k n is =
    ap (λ m. get_or (map section_bytes (null_section ∷ sections_from 1 named)) m []) is
    ∙ ap (λ xs. get_or xs k []) (bytes_from 1 named)

-- the table with this number among the three at the end
table_text : (text : List ℕ) (ps : List AsmSection) (names : List Symbol) (j : ℕ) → text_of (sections_all text ps names) (symtab_of ps + j) ≡ get_or (map named_bytes (of_tables text ps names)) j []
table_text text ps names j =
    let k = length ps + (count_by has_entries ps + j) in
    text_behind (every text ps names) k (symtab_of ps + j) (omega arith)
    ∙ ap (λ xs. get_or (map named_bytes xs) k []) (arranged text ps names)
    ∙ behind (of_sections text ps) (of_relas text ps names ++ of_tables text ps names) k (count_by has_entries ps + j)
    (omega (arith, length-map ps (named_section text)))
    ∙ behind (of_relas text ps names) (of_tables text ps names) (count_by has_entries ps + j) j
    (omega (arith, length-named_relas text (symbol_numbers (length ps) names) (symtab_of ps) 1 ps))

symtab_bytes : (text : List ℕ) (ps : List AsmSection) (names : List Symbol) → (named_symtab text ps names).section.bytes ≡ symbol_table text (length ps) names
unfolding named_symtab
symtab_bytes text ps names = table_bytes 2 _ _ 4 16 (symbol_table text (length ps) names)

strtab_bytes : (text : List ℕ) (names : List Symbol) → (named_strtab text names).section.bytes ≡ names_table text names
unfolding named_strtab
strtab_bytes text names = table_bytes 3 0 0 1 0 (names_table text names)

pub symtab_text : (text : List ℕ) (ps : List AsmSection) (names : List Symbol) → text_of (sections_all text ps names) (symtab_of ps) ≡ symbol_table text (length ps) names
symtab_text text ps names =
    ap (text_of (sections_all text ps names)) (sym (add-zero (symtab_of ps))) ∙ table_text text ps names 0 ∙ symtab_bytes text ps names

pub strtab_text : (text : List ℕ) (ps : List AsmSection) (names : List Symbol) → text_of (sections_all text ps names) (symtab_of ps + 1) ≡ names_table text names
strtab_text text ps names = table_text text ps names 1 ∙ strtab_bytes text names

-- the names of all sections
names_push : (named : List Named) (last : Named) → names_of (named ++ (last ∷ [])) ≡ names_of named ++ (last.name ++ (0 ∷ []))
names_push [] last = refl
names_push (n ∷ named) last =
    ap (λ xs. n.name ++ (0 ∷ xs)) (names_push named last)
    ∙ sym (append_assoc n.name (0 ∷ names_of named) (last.name ++ (0 ∷ [])))

pub shstrtab_bytes : (named : List Named) → (named_shstrtab named).section.bytes ≡ 0 ∷ names_of (named ++ (named_shstrtab named ∷ []))
unfolding named_shstrtab
shstrtab_bytes named =
    table_bytes 3 0 0 1 0 (0 ∷ (names_of named ++ (codes ".shstrtab" ++ (0 ∷ []))))
    ∙ ap (λ xs. 0 ∷ xs) (sym (names_push named (named_shstrtab named)))

pub shstrtab_text : (text : List ℕ) (ps : List AsmSection) (names : List Symbol) → text_of (sections_all text ps names) (symtab_of ps + 2) ≡ 0 ∷ names_of (every text ps names)
shstrtab_text text ps names = table_text text ps names 2 ∙ shstrtab_bytes (named_sections text ps names)
