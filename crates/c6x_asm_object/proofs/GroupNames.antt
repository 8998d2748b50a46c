-- The names of a group, one symbol at a time.
use Rattle.std.proofs.Common.{◌≡◌, ℕ, suc, ◌+◌, ◌-◌, ◌<◌, ◌≤◌, Bool, true, false, List, [], ◌∷◌, ◌++◌, length, drop, get_or, filter, ap, sym, ◌∙◌, ◌^◌, length-append, refl, arith, append_assoc, append-nil}
use Rattle.std.proofs.lemmas.List.{drop_more, drop_all}
use Rattle.std.proofs.lemmas.List.Elements.{filter-append}
use Rattle.std.proofs.lemmas.Grind.{flat_map-append}
use Rattle.c6x_elf.specs.EntryRows.{symbol_row, symbol_rows}
use Rattle.c6x_elf.specs.Names.{name_row, name_table}
use Rattle.c6x_asm_object.specs.declared.symbol.Symbol.{Symbol}
use Rattle.c6x_asm_object.specs.Bindings.{is_local, is_other}
use Rattle.c6x_asm_object.specs.FormSymbols.{entries, name_entries, names_table, null_entry, ordered, section_entries, section_entry, symbol_table}
use Rattle.c6x_asm_object.specs.Symbols.{symbol_name, names_total}
use Rattle.c6x_asm_object.proofs.NameLengths.{length-name_rows, names_total-append, names_total-both}
use Rattle.c6x_asm_object.specs.FileNames.{is_in, group, name_rows}

pub rows_append : (text : List ℕ) (name : ℕ) (a b : List Symbol) → symbol_rows false (name_entries text name (a ++ b)) ≡ symbol_rows false (name_entries text name a) ++ symbol_rows false (name_entries text (name + names_total text a) b)
rows_append text name [] b = let e : name + 0 ≡ name = omega arith in rw e refl
rows_append text name (s ∷ a) b =
    let more = rows_append text (name + (length (symbol_name text s) + 1)) a b in
    let place : name + (length (symbol_name text s) + 1) + names_total text a ≡ name + names_total text (s ∷ a) = omega arith in
    grind (arith, append_assoc {A = ℕ})

pub names_append : (text : List ℕ) (a b : List Symbol) → name_rows text (a ++ b) ≡ name_rows text a ++ name_rows text b
names_append text [] b = refl
names_append text (s ∷ a) b =
    ap (λ rows. name_row (symbol_name text s) ++ rows) (names_append text a b)
    ∙ sym (append_assoc (name_row (symbol_name text s)) (name_rows text a) (name_rows text b))

-- the next name of a group comes before the others of it
pub group_at : (local : Bool) (symbols : List Symbol) (i : ℕ) (d : Symbol) → i < length symbols → group local (drop i symbols) ≡ group local (get_or symbols i d ∷ []) ++ group local (drop (i + 1) symbols)
unfolding group
group_at local symbols i d inside =
    ap (filter (is_in local)) (drop_more symbols i d inside) ∙ filter-append (is_in local) (get_or symbols i d ∷ []) (drop (i + 1) symbols)

pub group_end : (local : Bool) (symbols : List Symbol) (i : ℕ) → length symbols ≤ i → group local (drop i symbols) ≡ []
unfolding group
group_end local symbols i past = ap (filter (is_in local)) (drop_all i symbols past)

pub total_at : (text : List ℕ) (local : Bool) (symbols : List Symbol) (i : ℕ) (d : Symbol) → i < length symbols → names_total text (group local (drop i symbols)) ≡ names_total text (group local (get_or symbols i d ∷ [])) + names_total text (group local (drop (i + 1) symbols))
total_at text local symbols i d inside =
    ap (names_total text) (group_at local symbols i d inside) ∙ names_total-append text (group local (get_or symbols i d ∷ [])) (group local (drop (i + 1) symbols))

pub total_within : (text : List ℕ) (local : Bool) (symbols : List Symbol) (i : ℕ) (d : Symbol) → i < length symbols → names_total text (group local (get_or symbols i d ∷ [])) ≤ names_total text (group local (drop i symbols))
total_within text local symbols i d inside = omega (arith, total_at text local symbols i d inside)

-- the bytes so far and the rows that are left
pub rows_at : (bytes text : List ℕ) (name : ℕ) (local : Bool) (symbols : List Symbol) (i : ℕ) (d : Symbol) → i < length symbols → bytes ++ symbol_rows false (name_entries text name (group local (drop i symbols))) ≡ bytes ++ symbol_rows false (name_entries text name (group local (get_or symbols i d ∷ []))) ++ symbol_rows false (name_entries text (name + names_total text (group local (get_or symbols i d ∷ []))) (group local (drop (i + 1) symbols)))
rows_at bytes text name local symbols i d inside =
    ap (λ more. bytes ++ symbol_rows false (name_entries text name more)) (group_at local symbols i d inside)
    ∙ ap (λ rows. bytes ++ rows) (rows_append text name (group local (get_or symbols i d ∷ [])) (group local (drop (i + 1) symbols)))
    ∙ sym (append_assoc bytes (symbol_rows false (name_entries text name (group local (get_or symbols i d ∷ [])))) (symbol_rows false (name_entries text (name + names_total text (group local (get_or symbols i d ∷ []))) (group local (drop (i + 1) symbols)))))

pub rows_end : (bytes text : List ℕ) (name : ℕ) (local : Bool) (symbols : List Symbol) (i : ℕ) → length symbols ≤ i → bytes ++ symbol_rows false (name_entries text name (group local (drop i symbols))) ≡ bytes
rows_end bytes text name local symbols i past =
    ap (λ more. bytes ++ symbol_rows false (name_entries text name more)) (group_end local symbols i past) ∙ append-nil bytes

pub total_end : (text : List ℕ) (local : Bool) (symbols : List Symbol) (i : ℕ) → length symbols ≤ i → names_total text (group local (drop i symbols)) ≡ 0
total_end text local symbols i past = ap (names_total text) (group_end local symbols i past)

pub names_at : (bytes text : List ℕ) (local : Bool) (symbols : List Symbol) (i : ℕ) (d : Symbol) → i < length symbols → bytes ++ name_rows text (group local (drop i symbols)) ≡ bytes ++ name_rows text (group local (get_or symbols i d ∷ [])) ++ name_rows text (group local (drop (i + 1) symbols))
names_at bytes text local symbols i d inside =
    ap (λ more. bytes ++ name_rows text more) (group_at local symbols i d inside)
    ∙ ap (λ rows. bytes ++ rows) (names_append text (group local (get_or symbols i d ∷ [])) (group local (drop (i + 1) symbols)))
    ∙ sym (append_assoc bytes (name_rows text (group local (get_or symbols i d ∷ []))) (name_rows text (group local (drop (i + 1) symbols))))

pub names_end : (bytes text : List ℕ) (local : Bool) (symbols : List Symbol) (i : ℕ) → length symbols ≤ i → bytes ++ name_rows text (group local (drop i symbols)) ≡ bytes
names_end bytes text local symbols i past =
    ap (λ more. bytes ++ name_rows text more) (group_end local symbols i past) ∙ append-nil bytes

-- there is room for the next name and the others
pub names_within : (table table0 text : List ℕ) (local : Bool) (symbols : List Symbol) (i : ℕ) (d : Symbol) → i < length symbols → table ++ name_rows text (group local (drop i symbols)) ≡ table0 ++ name_rows text (group local symbols) → length table0 + names_total text (group local symbols) < 2 ^ 32 → length table + names_total text (group local (get_or symbols i d ∷ [])) < 2 ^ 32
names_within table table0 text local symbols i d inside is few =
    omega (
      arith,
      ap length is,
      length-append table (name_rows text (group local (drop i symbols))),
      length-append table0 (name_rows text (group local symbols)),
      length-name_rows text (group local (drop i symbols)),
      length-name_rows text (group local symbols),
      total_within text local symbols i d inside,
    )

-- one more section symbol
pub sections_at : (bytes : List ℕ) (i count : ℕ) → i < count → bytes ++ symbol_rows false (section_entries (i + 1) (count - i)) ≡ bytes ++ symbol_row false (section_entry (i + 1)) ++ symbol_rows false (section_entries (i + 1 + 1) (count - (i + 1)))
sections_at bytes i count more =
    let e : count - i ≡ suc (count - (i + 1)) = omega arith in
    rw e (sym (append_assoc bytes (symbol_row false (section_entry (i + 1))) (symbol_rows false (section_entries (i + 1 + 1) (count - (i + 1))))))

pub sections_end : (bytes : List ℕ) (i count : ℕ) → count ≤ i → bytes ++ symbol_rows false (section_entries (i + 1) (count - i)) ≡ bytes
sections_end bytes i count past = let e : count - i ≡ 0 = omega arith in rw e (append-nil bytes)

-- the two groups have all names
pub groups_total : (text : List ℕ) (symbols : List Symbol) → names_total text (group true symbols) + names_total text (group false symbols) ≡ names_total text symbols
unfolding group
groups_total text symbols = names_total-both text symbols

pub names_first : (text : List ℕ) (local : Bool) (symbols : List Symbol) → names_total text (group local symbols) ≤ names_total text symbols
names_first text true symbols = omega (arith, groups_total text symbols)
names_first text false symbols = omega (arith, groups_total text symbols)

-- the null symbol, the sections, the one group, the other one
pub table_put : (text : List ℕ) (sections : ℕ) (symbols : List Symbol) → symbol_table text sections symbols ≡ symbol_row false null_entry ++ symbol_rows false (section_entries 1 sections) ++ symbol_rows false (name_entries text 1 (group true symbols)) ++ symbol_rows false (name_entries text (1 + names_total text (group true symbols)) (group false symbols))
unfolding symbol_table entries group ordered
table_put text sections symbols =
    let names = name_entries text 1 (filter is_local symbols ++ filter is_other symbols) in
    rw (flat_map-append (symbol_row false) (section_entries 1 sections) names, rows_append text 1 (filter is_local symbols) (filter is_other symbols))
    (simp (append_assoc {A = ℕ}) refl)

-- the one group of names behind the other one
pub names_put : (text : List ℕ) (symbols : List Symbol) → names_table text symbols ≡ name_table [] ++ name_rows text (group true symbols) ++ name_rows text (group false symbols)
unfolding names_table name_table group ordered
names_put text symbols = ap (λ rows. 0 ∷ rows) (names_append text (filter is_local symbols) (filter is_other symbols))

-- how long the table of no names is
pub none_size : length (name_table []) ≡ 1
unfolding name_table
none_size = refl

-- how long the table is behind the first group
pub first_size : (text : List ℕ) (symbols : List Symbol) → length (name_table [] ++ name_rows text symbols) ≡ 1 + names_total text symbols
unfolding name_table
first_size text symbols = omega (arith, length-name_rows text symbols)
