-- The strings of a module as its names are added.
use Rattle.std.proofs.Common.{◌≡◌, ℕ, ◌+◌, ◌<◌, ◌≤◌, ◌^◌, false, List, [], ◌∷◌, ◌++◌, length, Option, None, Some, is_some, if◌then◌else◌, refl, sym, ap, ◌∙◌, length-append, append_assoc, arith}
use Rattle.std.proofs.lemmas.List.{append-nil}
use Rattle.std.proofs.lemmas.List.Concat.{flat_map-append}
use Rattle.c6x_elf.specs.Names.{name_row, name_table}
use Rattle.c6x_elf.specs.EntryRows.{symbol_row, symbol_rows}
use Rattle.c6x_layout.specs.Tables.{first_symbols, if_named, name_rows, names_end, names_of, shared_names, shared_symbols, strings_of, symbols_of}
use Rattle.c6x_layout.specs.declared.file_limits.TheConstants.{MOST_SEGMENT_BYTES}
use Rattle.c6x_layout.specs.declared.parts.Parts.{Parts}

pub one_byte : length (name_table []) ≡ 1
unfolding name_table
one_byte = refl

end_rows : (front : List ℕ) (names : List (List ℕ)) → length (front ++ name_rows names) ≡ names_end (length front) names
end_rows front [] = ap length (append-nil front)
end_rows front (name ∷ names) =
    let more : length (front ++ name_row name) ≡ length front + (length name + 1) = omega (arith, length-append front (name_row name), length-append name (0 ∷ [])) in
    ap length (sym (append_assoc front (name_row name) (name_rows names))) ∙ end_rows (front ++ name_row name) names ∙ ap (λ at. names_end at names) more

end_append : (at : ℕ) (a b : List (List ℕ)) → names_end at (a ++ b) ≡ names_end (names_end at a) b
end_append at [] b = refl
end_append at (name ∷ a) b = end_append (at + (length name + 1)) a b

pub shared_end : (names : List (List ℕ)) → length (name_table [] ++ name_rows names) ≡ names_end 1 names
shared_end names = end_rows (name_table []) names ∙ ap (λ at. names_end at names) one_byte

pub soname_end : (a b : List (List ℕ)) → length ((name_table [] ++ name_rows a) ++ name_rows b) ≡ names_end 1 (a ++ b)
soname_end a b = end_rows (name_table [] ++ name_rows a) b ∙ ap (λ at. names_end at b) (shared_end a) ∙ sym (end_append 1 a b)

table_append : (a b : List (List ℕ)) → name_table (a ++ b) ≡ name_table a ++ name_rows b
unfolding name_table
table_append a b = ap (λ xs. 0 ∷ xs) (flat_map-append name_row a b)

pub strings_are : (p : Parts) → ((name_table [] ++ name_rows (shared_names p.shared)) ++ name_rows (if_named p.soname)) ++ name_rows p.needed ≡ strings_of p
unfolding strings_of names_of
strings_are p =
    let a = shared_names p.shared in
    let b = if_named p.soname in
    ap (λ xs. (xs ++ name_rows b) ++ name_rows p.needed) (sym (table_append [] a))
    ∙ ap (λ xs. xs ++ name_rows p.needed) (sym (table_append a b))
    ∙ sym (table_append (a ++ b) p.needed)
    ∙ ap name_table (append_assoc a b p.needed)

-- there is room for the names, group by group
all_rows : (p : Parts) → length (strings_of p) ≡ 1 + length (name_rows (shared_names p.shared)) + length (name_rows (if_named p.soname)) + length (name_rows p.needed)
all_rows p =
    let a = name_rows (shared_names p.shared) in
    let b = name_rows (if_named p.soname) in
    let c = name_rows p.needed in
    let whole : length (strings_of p) ≡ length (((name_table [] ++ a) ++ b) ++ c) = ap length (sym (strings_are p)) in
    omega (arith, whole, one_byte, length-append ((name_table [] ++ a) ++ b) c, length-append (name_table [] ++ a) b, length-append (name_table []) a)

pub shared_room : (p : Parts) → length (strings_of p) ≤ MOST_SEGMENT_BYTES → length (name_table []) + length (name_rows (shared_names p.shared)) < 2 ^ 32
shared_room p few = omega (arith, few, all_rows p, one_byte)

pub soname_room : (p : Parts) → length (strings_of p) ≤ MOST_SEGMENT_BYTES → length (name_table [] ++ name_rows (shared_names p.shared)) + length (name_rows (if_named p.soname)) < 2 ^ 32
soname_room p few = omega (arith, few, all_rows p, one_byte, length-append (name_table []) (name_rows (shared_names p.shared)))

pub needed_room : (p : Parts) → length (strings_of p) ≤ MOST_SEGMENT_BYTES → length ((name_table [] ++ name_rows (shared_names p.shared)) ++ name_rows (if_named p.soname)) + length (name_rows p.needed) < 2 ^ 32
needed_room p few =
    let a = name_rows (shared_names p.shared) in
    let b = name_rows (if_named p.soname) in
    omega (arith, few, all_rows p, one_byte, length-append (name_table [] ++ a) b, length-append (name_table []) a)

pub named_count : (soname : Option (List ℕ)) (needed : List (List ℕ)) → length (if_named soname ++ needed) ≡ (if is_some soname then 1 else 0) + length needed
named_count None needed = omega arith
named_count (Some name) needed = omega arith

pub symbols_are : (p : Parts) → symbol_rows false (first_symbols p.table) ++ symbol_rows false (shared_symbols (length (name_table [])) p.shared) ≡ symbol_rows false (symbols_of p)
unfolding symbols_of
symbols_are p =
    ap (λ at. symbol_rows false (first_symbols p.table) ++ symbol_rows false (shared_symbols at p.shared)) one_byte
    ∙ sym (flat_map-append (symbol_row false) (first_symbols p.table) (shared_symbols 1 p.shared))
