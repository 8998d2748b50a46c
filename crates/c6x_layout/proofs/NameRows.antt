-- Names and the rows that name them, put one behind the other.
use Rattle.std.proofs.Common.{◌≡◌, ℕ, ◌+◌, ◌<◌, ◌≤◌, false, List, [], ◌∷◌, ◌++◌, length, map, get_or, drop, drop-cons, add-one, sym, ap, ◌∙◌, length-append, append_assoc, arith}
use Rattle.std.proofs.lemmas.List.{append-nil, drop_all}
use Rattle.c6x_elf.specs.EntryRows.{dynamic_row, dynamic_rows, symbol_row, symbol_rows}
use Rattle.c6x_elf.specs.Names.{name_row}
use Rattle.c6x_elf.specs.Types.{Symbol}
use Rattle.c6x_layout.specs.Tables.{entry, name_places, name_rows, shared_names, shared_symbols}
use Rattle.c6x_layout.specs.declared.shared.Shared.{Shared}

pub three_symbols : (bytes : List ℕ) (a b c : Symbol) → ((bytes ++ symbol_row false a) ++ symbol_row false b) ++ symbol_row false c ≡ bytes ++ symbol_rows false (a ∷ b ∷ c ∷ [])
three_symbols bytes a b c =
    append_assoc (bytes ++ symbol_row false a) (symbol_row false b) (symbol_row false c)
    ∙ append_assoc bytes (symbol_row false a) (symbol_row false b ++ symbol_row false c)
    ∙ ap (λ rest. bytes ++ (symbol_row false a ++ (symbol_row false b ++ rest))) (sym (append-nil (symbol_row false c)))

name_more : (strings name : List ℕ) → length (strings ++ name_row name) ≡ length strings + (length name + 1)
name_more strings name = omega (arith, length-append strings (name_row name), length-append name (0 ∷ []))

abbrev pub symbol_at : ℕ → Shared → Symbol
symbol_at at s = record { name = at; value = s.value; size = s.size; info = s.info; other = s.other; section = s.section }

pub shared_step : (bytes more strings longer : List ℕ) (at : ℕ) (shared : List Shared) (i : ℕ) (d : Shared) → i < length shared
    → at ≡ length strings → longer ≡ strings ++ name_row (get_or shared i d).name → more ≡ bytes ++ symbol_row false (symbol_at at (get_or shared i d))
    → more ++ symbol_rows false (shared_symbols (length longer) (drop (i + 1) shared)) ≡ bytes ++ symbol_rows false (shared_symbols (length strings) (drop i shared))
shared_step bytes more strings longer at shared i d below here named put =
    let s : Shared = get_or shared i d in
    let cut : drop i shared ≡ s ∷ drop (i + 1) shared = rw (add-one i) (drop-cons shared i d below) in
    rw (put, here, named, name_more strings s.name)
    (append_assoc bytes (symbol_row false (symbol_at (length strings) s)) (symbol_rows false (shared_symbols (length strings + (length s.name + 1)) (drop (i + 1) shared)))
    ∙ ap (λ ss. bytes ++ symbol_rows false (shared_symbols (length strings) ss)) (sym cut))

pub shared_strings : (strings longer : List ℕ) (shared : List Shared) (i : ℕ) (d : Shared) → i < length shared
    → longer ≡ strings ++ name_row (get_or shared i d).name
    → longer ++ name_rows (shared_names (drop (i + 1) shared)) ≡ strings ++ name_rows (shared_names (drop i shared))
unfolding shared_names
shared_strings strings longer shared i d below named =
    let s : Shared = get_or shared i d in
    let cut : drop i shared ≡ s ∷ drop (i + 1) shared = rw (add-one i) (drop-cons shared i d below) in
    rw named
    (append_assoc strings (name_row s.name) (name_rows (shared_names (drop (i + 1) shared)))
    ∙ ap (λ ss. strings ++ name_rows (shared_names ss)) (sym cut))

pub shared_done : (bytes : List ℕ) (at : ℕ) (shared : List Shared) (i : ℕ) → length shared ≤ i → bytes ≡ bytes ++ symbol_rows false (shared_symbols at (drop i shared))
shared_done bytes at shared i past = sym (rw (drop_all i shared past) (append-nil bytes))

pub strings_done : (strings : List ℕ) (shared : List Shared) (i : ℕ) → length shared ≤ i → strings ≡ strings ++ name_rows (shared_names (drop i shared))
unfolding shared_names
strings_done strings shared i past = sym (rw (drop_all i shared past) (append-nil strings))

pub named_step : (bytes more strings longer : List ℕ) (at tag : ℕ) (names : List (List ℕ)) (i : ℕ) (d : List ℕ) → i < length names
    → at ≡ length strings → longer ≡ strings ++ name_row (get_or names i d) → more ≡ bytes ++ dynamic_row false (entry tag at)
    → more ++ dynamic_rows false (map (entry tag) (name_places (length longer) (drop (i + 1) names))) ≡ bytes ++ dynamic_rows false (map (entry tag) (name_places (length strings) (drop i names)))
named_step bytes more strings longer at tag names i d below here named put =
    let name : List ℕ = get_or names i d in
    let cut : drop i names ≡ name ∷ drop (i + 1) names = rw (add-one i) (drop-cons names i d below) in
    rw (put, here, named, name_more strings name)
    (append_assoc bytes (dynamic_row false (entry tag (length strings))) (dynamic_rows false (map (entry tag) (name_places (length strings + (length name + 1)) (drop (i + 1) names))))
    ∙ ap (λ ns. bytes ++ dynamic_rows false (map (entry tag) (name_places (length strings) ns))) (sym cut))

pub named_strings : (strings longer : List ℕ) (names : List (List ℕ)) (i : ℕ) (d : List ℕ) → i < length names
    → longer ≡ strings ++ name_row (get_or names i d)
    → longer ++ name_rows (drop (i + 1) names) ≡ strings ++ name_rows (drop i names)
named_strings strings longer names i d below named =
    let cut : drop i names ≡ get_or names i d ∷ drop (i + 1) names = rw (add-one i) (drop-cons names i d below) in
    rw named
    (append_assoc strings (name_row (get_or names i d)) (name_rows (drop (i + 1) names))
    ∙ ap (λ ns. strings ++ name_rows ns) (sym cut))

pub named_done : (bytes : List ℕ) (at tag : ℕ) (names : List (List ℕ)) (i : ℕ) → length names ≤ i → bytes ≡ bytes ++ dynamic_rows false (map (entry tag) (name_places at (drop i names)))
named_done bytes at tag names i past = sym (rw (drop_all i names past) (append-nil bytes))

pub name_strings_done : (strings : List ℕ) (names : List (List ℕ)) (i : ℕ) → length names ≤ i → strings ≡ strings ++ name_rows (drop i names)
name_strings_done strings names i past = sym (rw (drop_all i names past) (append-nil strings))

-- a front of bytes is no longer than all
pub front_room : (front rest before rows : List ℕ) → front ++ rest ≡ before ++ rows → length front ≤ length before + length rows
front_room front rest before rows same =
    let e : length (front ++ rest) ≡ length (before ++ rows) = ap length same in
    omega (arith, e, length-append front rest, length-append before rows)
