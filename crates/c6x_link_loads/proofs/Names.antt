-- The names of a linked file's strings, read back.
use Rattle.std.proofs.Common.{◌≡◌, ℕ, zero, suc, ◌+◌, ◌^◌, ◌<◌, ◌≤◌, ◌==◌, false, List, [], ◌∷◌, ◌++◌, length, get_or, map, None, Some, refl, sym, ap, ◌∙◌, length-append, append_assoc, zero-add, subst, arith}
use Rattle.std.proofs.lemmas.List.{append-nil}
use Rattle.std.proofs.lemmas.List.Concat.{flat_map-append}
use Rattle.std.proofs.lemmas.List.Elements.{All-map}
use Rattle.std.specs.Prelude.{All}
use Rattle.c6x_spec.specs.Firsts.{first_along}
use Rattle.c6x_elf.specs.Abi.{DT_NEEDED, STT_SECTION}
use Rattle.c6x_elf.specs.EntryRows.{SymbolFits}
use Rattle.c6x_elf.specs.Names.{IsName, name_of, name_row, name_table}
use Rattle.c6x_elf.specs.Types.{Dyn, Symbol}
use Rattle.c6x_elf_headers.specs.Held.{Holds}
use Rattle.c6x_elf_headers.proofs.Holdings.{holds_all, holds_left, holds_right}
use Rattle.c6x_elf_headers.proofs.NameTables.{name_read}
use Rattle.c6x_layout.proofs.NameEnds.{shared_end}
use Rattle.c6x_layout.proofs.Fitting.{strings_few}
use Rattle.c6x_layout.specs.Tables.{entries_of, entry, first_symbols, if_named, name_places, name_rows, names_end, names_of, needed_entries, shared_name, shared_names, shared_symbols, strings_of, symbol, symbols_of}
use Rattle.c6x_layout.specs.declared.file_limits.TheConstants.{TEXT_START}
use Rattle.c6x_layout.specs.declared.parts.Parts.{Parts}
use Rattle.c6x_layout.specs.declared.shared.Shared.{Shared}
use Rattle.c6x_link_loads.specs.Loads.{AreLoadable, IsShared, shared_symbol, symbols_of as module_symbols, unnamed}
use Rattle.c6x_link_loads.proofs.Entries.{AllAre, at_end, entries_split, later_entries, later_tags, needed_end, end_append}
use Rattle.c6x_module.specs.Modules.{needed_of, symbol_of}
use Rattle.c6x_module.specs.Refusals.{must}
use Rattle.c6x_module.specs.Tables.{name_in, name_or_none, needed_length, needed_refusal, symbol_length, symbol_refusal, total}

-- names stand one behind the other from a place on
abbrev pub NamesStand : List ℕ → ℕ → List (List ℕ) → Type 0
NamesStand strings at [] = Unit {0}
NamesStand strings at (n ∷ ns) = (name_of strings at ≡ Some n) × NamesStand strings (at + (length n + 1)) ns

names_stand : (strings : List ℕ) (at : ℕ) (names : List (List ℕ)) (rest : List ℕ) → Holds strings at (name_rows names ++ rest) → All IsName names → NamesStand strings at names
names_stand strings at [] rest h are = tt
names_stand strings at (n ∷ ns) rest h are =
    let P : List ℕ → Type 0 = λ xs. Holds strings at xs in
    let here : Holds strings at (name_row n ++ (name_rows ns ++ rest)) = subst P (append_assoc (name_row n) (name_rows ns) rest) h in
    let size : length (name_row n) ≡ length n + 1 = length-append n (0 ∷ []) in (
      name_read strings at n (holds_left strings at (name_row n) (name_rows ns ++ rest) here) (are 0 n (omega arith)),
      names_stand strings (at + (length n + 1)) ns rest
          (holds_right strings at (name_row n) (name_rows ns ++ rest) (at + (length n + 1)) here (omega (arith, size)))
          (λ k d below. are (suc k) d (omega (arith, below))),
    )

-- the strings in two halves
halves : (p : Parts) (a b : List (List ℕ)) → names_of p ≡ a ++ b → Holds (strings_of p) (names_end 1 a) (name_rows b)
unfolding strings_of name_table
halves p a b is =
    let whole : List ℕ = 0 ∷ name_rows (names_of p) in
    let Q : List ℕ → Type 0 = λ xs. Holds whole 0 xs in
    let split : whole ≡ (0 ∷ name_rows a) ++ name_rows b = ap (λ names. 0 ∷ name_rows names) is ∙ ap (λ xs. 0 ∷ xs) (flat_map-append name_row a b) in
    holds_right whole 0 (0 ∷ name_rows a) (name_rows b) (names_end 1 a) (subst Q split (holds_all whole)) (zero-add (length (0 ∷ name_rows a)) ∙ shared_end a)

shared_are : (shared : List Shared) → All IsShared shared → All IsName (shared_names shared)
unfolding shared_names
shared_are shared are = All-map IsName shared_name shared (λ k d below. (are k d below).name)

pub shared_stand : (p : Parts) → AreLoadable p → NamesStand (strings_of p) 1 (shared_names p.shared)
unfolding names_of
shared_stand p is =
    let rest = if_named p.soname ++ p.needed in
    let P : List ℕ → Type 0 = λ xs. Holds (strings_of p) 1 xs in
    names_stand (strings_of p) 1 (shared_names p.shared) (name_rows rest)
    (subst P (flat_map-append name_row (shared_names p.shared) rest) (halves p [] (shared_names p.shared ++ rest) refl))
    (shared_are p.shared is.shared)

pub needed_stand : (p : Parts) → AreLoadable p → NamesStand (strings_of p) (names_end 1 (shared_names p.shared ++ if_named p.soname)) p.needed
unfolding names_of
needed_stand p is =
    let at = names_end 1 (shared_names p.shared ++ if_named p.soname) in
    let P : List ℕ → Type 0 = λ xs. Holds (strings_of p) at xs in
    names_stand (strings_of p) at p.needed []
    (subst P (sym (append-nil (name_rows p.needed)))
    (halves p (shared_names p.shared ++ if_named p.soname) p.needed (sym (append_assoc (shared_names p.shared) (if_named p.soname) p.needed))))
    is.needed

pub no_name : (p : Parts) → name_of (strings_of p) 0 ≡ Some []
unfolding strings_of name_table
no_name p =
    let whole : List ℕ = 0 ∷ name_rows (names_of p) in
    name_read whole 0 [] (holds_left whole 0 (0 ∷ []) (name_rows (names_of p)) (holds_all whole)) (record { bytes = λ k d below. absurd (omega (arith, below)) })

-- the symbols with their names
named_all : (strings : List ℕ) (at : ℕ) (shared : List Shared) → NamesStand strings at (shared_names shared) → map (symbol_of strings) (shared_symbols at shared) ≡ map shared_symbol shared
unfolding shared_names symbol_of name_in
named_all strings at [] stand = refl
named_all strings at (s ∷ shared) stand = rw stand.0 (ap (λ rest. shared_symbol s ∷ rest) (named_all strings (at + (length s.name + 1)) shared stand.1))

pub symbols_named : (p : Parts) → AreLoadable p → map (symbol_of (strings_of p)) (symbols_of p) ≡ module_symbols p
unfolding symbols_of first_symbols module_symbols symbol_of name_in
symbols_named p is =
    rw (no_name p)
    (ap (λ rest. unnamed 0 0 0 ∷ unnamed TEXT_START STT_SECTION 1 ∷ unnamed p.table STT_SECTION 2 ∷ rest)
    (named_all (strings_of p) 1 p.shared (shared_stand p is)))

-- the names of the modules that are needed
needed_all : (strings : List ℕ) (at : ℕ) (names : List (List ℕ)) (ds : List Dyn) → NamesStand strings at names → needed_of strings ds ≡ [] → needed_of strings (map (entry DT_NEEDED) (name_places at names) ++ ds) ≡ names
unfolding name_in
needed_all strings at [] ds stand none = none
needed_all strings at (n ∷ ns) ds stand none = rw stand.0 (ap (λ rest. n ∷ rest) (needed_all strings (at + (length n + 1)) ns ds stand.1 none))

abbrev pub IsOther : Dyn → Type 0
IsOther d = (d.tag == DT_NEEDED) ≡ false

none_needed : (strings : List ℕ) (ds : List Dyn) → AllAre IsOther ds → needed_of strings ds ≡ []
none_needed strings [] all = refl
none_needed strings (d ∷ ds) all = rw all.0 (none_needed strings ds all.1)

others : (p : Parts) → AllAre IsOther (later_entries p)
others p = later_tags IsOther p (λ n. refl) (record {
  hash = refl;
  strings = refl;
  symbols = refl;
  size = refl;
  symbol = refl;
  relas = refl;
  relas_size = refl;
  rela = refl;
  jumps = refl;
  jumps_size = refl;
  form = refl;
  base = refl;
  slots = refl;
  index = refl;
})

pub needed_named : (p : Parts) → AreLoadable p → needed_of (strings_of p) (entries_of p) ≡ p.needed
unfolding needed_entries
needed_named p is =
    ap (needed_of (strings_of p)) (entries_split p)
    ∙ needed_all (strings_of p) (names_end 1 (shared_names p.shared ++ if_named p.soname)) p.needed (later_entries p) (needed_stand p is)
    (none_needed (strings_of p) (later_entries p) (others p))

-- the rule on names
shared_pass : (strings : List ℕ) (at : ℕ) (shared : List Shared) → NamesStand strings at (shared_names shared) → first_along (symbol_refusal strings) (shared_symbols at shared) ≡ None
unfolding shared_names symbol_refusal must
shared_pass strings at [] stand = refl
shared_pass strings at (s ∷ shared) stand = rw stand.0 (shared_pass strings (at + (length s.name + 1)) shared stand.1)

pub symbols_pass : (p : Parts) → AreLoadable p → first_along (symbol_refusal (strings_of p)) (symbols_of p) ≡ None
unfolding symbols_of first_symbols symbol_refusal must
symbols_pass p is = rw (no_name p) (shared_pass (strings_of p) 1 p.shared (shared_stand p is))

needed_along : (strings : List ℕ) (at : ℕ) (names : List (List ℕ)) (ds : List Dyn) → NamesStand strings at names → first_along (needed_refusal strings) ds ≡ None → first_along (needed_refusal strings) (map (entry DT_NEEDED) (name_places at names) ++ ds) ≡ None
unfolding needed_refusal must
needed_along strings at [] ds stand rest = rest
needed_along strings at (n ∷ ns) ds stand rest = rw stand.0 (needed_along strings (at + (length n + 1)) ns ds stand.1 rest)

others_pass : (strings : List ℕ) (ds : List Dyn) → AllAre IsOther ds → first_along (needed_refusal strings) ds ≡ None
unfolding needed_refusal must
others_pass strings [] all = refl
others_pass strings (d ∷ ds) all = rw all.0 (others_pass strings ds all.1)

pub needed_pass : (p : Parts) → AreLoadable p → first_along (needed_refusal (strings_of p)) (entries_of p) ≡ None
unfolding needed_entries
needed_pass p is =
    ap (first_along (needed_refusal (strings_of p))) (entries_split p)
    ∙ needed_along (strings_of p) (names_end 1 (shared_names p.shared ++ if_named p.soname)) p.needed (later_entries p) (needed_stand p is)
    (others_pass (strings_of p) (later_entries p) (others p))

-- the lengths of all names together
shared_total : (strings : List ℕ) (at : ℕ) (shared : List Shared) → NamesStand strings at (shared_names shared) → at + total (symbol_length strings) (shared_symbols at shared) ≤ names_end at (shared_names shared)
unfolding shared_names name_in
shared_total strings at [] stand = omega arith
shared_total strings at (s ∷ shared) stand =
    let here : length (name_or_none (name_of strings at)) ≡ length s.name = ap (λ o. length (name_or_none o)) stand.0 in
    let later = shared_total strings (at + (length s.name + 1)) shared stand.1 in
    omega (arith, here, later)

needed_total : (strings : List ℕ) (at : ℕ) (names : List (List ℕ)) (ds : List Dyn) → NamesStand strings at names → total (needed_length strings) ds ≡ 0 → at + total (needed_length strings) (map (entry DT_NEEDED) (name_places at names) ++ ds) ≤ names_end at names
unfolding name_in
needed_total strings at [] ds stand none = omega (arith, none)
needed_total strings at (n ∷ ns) ds stand none =
    let here : length (name_or_none (name_of strings at)) ≡ length n = ap (λ o. length (name_or_none o)) stand.0 in
    let later = needed_total strings (at + (length n + 1)) ns ds stand.1 none in
    omega (arith, here, later)

none_total : (strings : List ℕ) (ds : List Dyn) → AllAre IsOther ds → total (needed_length strings) ds ≡ 0
none_total strings [] all = refl
none_total strings (d ∷ ds) all = rw all.0 (zero-add (total (needed_length strings) ds) ∙ none_total strings ds all.1)

pub names_small : (p : Parts) → AreLoadable p → total (symbol_length (strings_of p)) (symbols_of p) + total (needed_length (strings_of p)) (entries_of p) ≤ length (strings_of p)
unfolding symbols_of first_symbols needed_entries name_in
names_small p is =
    let none : length (name_or_none (name_of (strings_of p) 0)) ≡ 0 = ap (λ o. length (name_or_none o)) (no_name p) in
    let at = names_end 1 (shared_names p.shared ++ if_named p.soname) in
    let mine = shared_total (strings_of p) 1 p.shared (shared_stand p is) in
    let between = at_end (names_end 1 (shared_names p.shared)) (if_named p.soname) in
    let joined = end_append 1 (shared_names p.shared) (if_named p.soname) in
    let theirs = needed_total (strings_of p) at p.needed (later_entries p) (needed_stand p is) (none_total (strings_of p) (later_entries p) (others p)) in
    let split : total (needed_length (strings_of p)) (entries_of p) ≡ total (needed_length (strings_of p)) (map (entry DT_NEEDED) (name_places at p.needed) ++ later_entries p) = ap (total (needed_length (strings_of p))) (entries_split p) in
    let end = needed_end p in
    omega (arith, none, mine, between, joined, theirs, split, end)

-- the numbers of symbols have their sizes
shared_fit : (at : ℕ) (shared : List Shared) → names_end at (shared_names shared) < 2 ^ 32 → All IsShared shared → (k : ℕ) (d : Symbol) → k < length (shared_symbols at shared) → SymbolFits (get_or (shared_symbols at shared) k d)
unfolding shared_names
shared_fit at [] end are k d below = absurd (omega (arith, below))
shared_fit at (s ∷ shared) end are zero d below =
    let is = are 0 s (omega arith) in
    let here = at_end (at + (length s.name + 1)) (map shared_name shared) in
    record { name = omega (arith, here, end); value = is.value; size = is.size; section = is.section }
shared_fit at (s ∷ shared) end are (suc k) d below =
    shared_fit (at + (length s.name + 1)) shared end (λ i x lower. are (suc i) x (omega (arith, lower))) k d (omega (arith, below))

symbol_fits : (value info section : ℕ) → value < 2 ^ 32 → section < 2 ^ 16 → SymbolFits (symbol value info section)
symbol_fits value info section v s = record { name = omega arith; value = v; size = omega arith; section = s }

shared_end_small : (p : Parts) → AreLoadable p → names_end 1 (shared_names p.shared) < 2 ^ 32
shared_end_small p is =
    let few = strings_few p is.sized in
    let own = at_end (names_end 1 (shared_names p.shared)) (if_named p.soname) in
    let joined = end_append 1 (shared_names p.shared) (if_named p.soname) in
    let later = at_end (names_end 1 (shared_names p.shared ++ if_named p.soname)) p.needed in
    let end = needed_end p in
    omega (arith, few, own, joined, later, end)

pub symbols_fit : (p : Parts) → AreLoadable p → (k : ℕ) (d : Symbol) → k < length (symbols_of p) → SymbolFits (get_or (symbols_of p) k d)
unfolding symbols_of first_symbols
symbols_fit p is zero d below = symbol_fits 0 0 0 (omega arith) (omega arith)
symbols_fit p is (suc zero) d below = symbol_fits TEXT_START STT_SECTION 1 (omega arith) (omega arith)
symbols_fit p is (suc (suc zero)) d below = let end = is.end in symbol_fits p.table STT_SECTION 2 (omega (arith, end)) (omega arith)
symbols_fit p is (suc (suc (suc k))) d below = shared_fit 1 p.shared (shared_end_small p is) is.shared k d (omega (arith, below))

length_shared : (at : ℕ) (shared : List Shared) → length (shared_symbols at shared) ≡ length shared
length_shared at [] = refl
length_shared at (s ∷ shared) = ap suc (length_shared (at + (length s.name + 1)) shared)

pub symbols_count : (p : Parts) → length (symbols_of p) ≡ length p.shared + 3
unfolding symbols_of first_symbols
symbols_count p = let n = length_shared 1 p.shared in omega (arith, n)
