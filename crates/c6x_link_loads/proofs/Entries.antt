-- What a linked file's segments and dynamic entries say.
use Rattle.std.proofs.Common.{◌≡◌, ℕ, ◌+◌, ◌*◌, ◌/◌, ◌^◌, ◌<◌, ◌≤◌, ◌==◌, Bool, true, false, List, [], ◌∷◌, ◌++◌, length, map, if◌then◌else◌, Ok, refl, sym, ap, ◌∙◌, append_assoc, arith}
use Rattle.std.specs.List.{range_with_len}
use Rattle.c6x_elf.specs.Abi.{DT_DSBT_BASE, DT_DSBT_INDEX, DT_DSBT_SIZE, DT_HASH, DT_JMPREL, DT_NEEDED, DT_NULL, DT_PLTREL, DT_PLTRELSZ, DT_RELA, DT_RELAENT, DT_RELASZ, DT_SONAME, DT_STRSZ, DT_STRTAB, DT_SYMENT, DT_SYMTAB}
use Rattle.c6x_elf.specs.EntryRows.{DynFits, dynamic_row, dynamic_rows}
use Rattle.c6x_elf.specs.TableEntries.{dynamic_at as dyn_at, dynamic_entries}
use Rattle.c6x_elf.specs.Types.{Dyn}
use Rattle.c6x_elf_headers.specs.Held.{Holds}
use Rattle.c6x_elf_headers.proofs.Holdings.{holds_all, holds_left, holds_right}
use Rattle.c6x_elf_headers.proofs.EntryRows.{dynamic_read, length-dynamic_row, length-dynamic_rows}
use Rattle.c6x_layout.specs.File.{dynamic_bytes, linked_file}
use Rattle.c6x_elf.specs.Names.{name_table}
use Rattle.c6x_layout.proofs.Fitting.{sized_counts, strings_few}
use Rattle.c6x_layout.proofs.NameEnds.{shared_end}
use Rattle.c6x_layout.specs.FilePlaces.{dynamic_at, hash_at, jumps_at, relas_at, strings_at, symbols_at, text_size}
use Rattle.c6x_layout.specs.Tables.{counts_of, entries_of, entry, if_named, jump_entries, name_places, names_end, needed_entries, place_entries, rela_entries, shared_names, names_of, soname_entries, strings_of, table_entries}
use Rattle.c6x_layout.specs.declared.counts.Counts.{Counts}
use Rattle.c6x_layout.specs.declared.file_limits.TheConstants.{MOST_SEGMENT_BYTES, TEXT_START}
use Rattle.c6x_layout.specs.declared.parts.Parts.{Parts}
use Rattle.c6x_link_loads.specs.Loads.{AreLoadable}
use Rattle.c6x_module.specs.Entries.{entries_in, entries_of as entries_read_of, until_null}

-- a property of each entry
abbrev pub AllAre : (Dyn → Type 0) → List Dyn → Type 0
AllAre P [] = Unit {0}
AllAre P (d ∷ ds) = P d × AllAre P ds

pub both_are : (P : Dyn → Type 0) (a b : List Dyn) → AllAre P a → AllAre P b → AllAre P (a ++ b)
both_are P [] b pa pb = pb
both_are P (d ∷ a) b pa pb = (pa.0, both_are P a b pa.1 pb)

pub map_are : (P : Dyn → Type 0) (tag : ℕ) (places : List ℕ) → ((at : ℕ) → P (entry tag at)) → AllAre P (map (entry tag) places)
map_are P tag [] each = tt
map_are P tag (at ∷ places) each = (each at, map_are P tag places each)

-- what holds of each row of the list, with its own number, holds of every entry
pub record Rows (P : Dyn → Type 0) (p : Parts) : Type 0 where
  pub hash : P (entry DT_HASH (TEXT_START + hash_at (counts_of p)))
  pub strings : P (entry DT_STRTAB (TEXT_START + strings_at (counts_of p)))
  pub symbols : P (entry DT_SYMTAB (TEXT_START + symbols_at (counts_of p)))
  pub size : P (entry DT_STRSZ (counts_of p).strings)
  pub symbol : P (entry DT_SYMENT 16)
  pub relas : P (entry DT_RELA (TEXT_START + relas_at (counts_of p)))
  pub relas_size : P (entry DT_RELASZ (12 * (counts_of p).relas))
  pub rela : P (entry DT_RELAENT 12)
  pub jumps : P (entry DT_JMPREL (TEXT_START + jumps_at (counts_of p)))
  pub jumps_size : P (entry DT_PLTRELSZ (12 * (counts_of p).jumps))
  pub form : P (entry DT_PLTREL DT_RELA)
  pub base : P (entry DT_DSBT_BASE p.table)
  pub slots : P (entry DT_DSBT_SIZE p.slots)
  pub index : P (entry DT_DSBT_INDEX p.index)

three_are : (P : Dyn → Type 0) (b : Bool) (x y z : Dyn) → P x → P y → P z → AllAre P (if b then [] else x ∷ y ∷ z ∷ [])
three_are P true x y z px py pz = tt
three_are P false x y z px py pz = (px, (py, (pz, tt)))

-- all behind the names of modules that are needed
unfoldable pub later_entries : Parts → List Dyn
later_entries p =
    soname_entries p ++ (place_entries (counts_of p) ++ (rela_entries (counts_of p) ++ (jump_entries (counts_of p) ++ table_entries p)))

later_are : (P : Dyn → Type 0) (p : Parts) → AllAre P (soname_entries p) → Rows P p → AllAre P (later_entries p)
unfolding later_entries place_entries rela_entries jump_entries table_entries
later_are P p soname r =
    let c = counts_of p in
    both_are P (soname_entries p) (place_entries c ++ (rela_entries c ++ (jump_entries c ++ table_entries p))) soname
    (both_are P (place_entries c) (rela_entries c ++ (jump_entries c ++ table_entries p)) (r.hash, (r.strings, (r.symbols, (r.size, (r.symbol, tt)))))
    (both_are P (rela_entries c) (jump_entries c ++ table_entries p) (three_are P (c.relas == 0) (entry DT_RELA (TEXT_START + relas_at c)) (entry DT_RELASZ (12 * c.relas)) (entry DT_RELAENT 12) r.relas r.relas_size r.rela)
    (both_are P (jump_entries c) (table_entries p) (three_are P (c.jumps == 0) (entry DT_JMPREL (TEXT_START + jumps_at c)) (entry DT_PLTRELSZ (12 * c.jumps)) (entry DT_PLTREL DT_RELA) r.jumps r.jumps_size r.form)
    (r.base, (r.slots, (r.index, tt))))))

pub rows_are : (P : Dyn → Type 0) (p : Parts) → AllAre P (needed_entries p) → AllAre P (soname_entries p) → Rows P p → AllAre P (entries_of p)
unfolding entries_of later_entries
rows_are P p needed soname r = both_are P (needed_entries p) (later_entries p) needed (later_are P p soname r)

pub later_tags : (P : Dyn → Type 0) (p : Parts) → ((n : ℕ) → P (entry DT_SONAME n)) → Rows P p → AllAre P (later_entries p)
unfolding soname_entries
later_tags P p soname r =
    later_are P p (map_are P DT_SONAME (name_places (names_end 1 (shared_names p.shared)) (if_named p.soname)) soname) r

pub entries_split : (p : Parts) → entries_of p ≡ needed_entries p ++ later_entries p
unfolding entries_of later_entries
entries_split p = refl

-- the same where the numbers do not matter
pub tags_are : (P : Dyn → Type 0) (p : Parts) → ((n : ℕ) → P (entry DT_NEEDED n)) → ((n : ℕ) → P (entry DT_SONAME n)) → Rows P p → AllAre P (entries_of p)
unfolding needed_entries soname_entries
tags_are P p needed soname r =
    rows_are P p
    (map_are P DT_NEEDED (name_places (names_end 1 (shared_names p.shared ++ if_named p.soname)) p.needed) needed)
    (map_are P DT_SONAME (name_places (names_end 1 (shared_names p.shared)) (if_named p.soname)) soname)
    r

-- the entries are read back
rows_read : (bytes : List ℕ) (k : ℕ) (ds : List Dyn) → Holds bytes (8 * k) (dynamic_rows false ds) → AllAre DynFits ds → map (dyn_at false bytes) (range_with_len k (length ds)) ≡ ds
rows_read bytes k [] h fits = refl
rows_read bytes k (d ∷ ds) h fits =
    let first : dyn_at false bytes k ≡ d = dynamic_read false bytes k d (holds_left bytes (8 * k) (dynamic_row false d) (dynamic_rows false ds) h) fits.0 in
    let rest : map (dyn_at false bytes) (range_with_len (k + 1) (length ds)) ≡ ds =
    rows_read bytes (k + 1) ds (holds_right bytes (8 * k) (dynamic_row false d) (dynamic_rows false ds) (8 * (k + 1)) h (omega (arith, length-dynamic_row false d))) fits.1 in
    cc

abbrev pub IsSomeTag : Dyn → Type 0
IsSomeTag d = (d.tag == DT_NULL) ≡ false

ends_at_null : (ds : List Dyn) → AllAre IsSomeTag ds → until_null (ds ++ entry DT_NULL 0 ∷ []) ≡ ds
ends_at_null [] none = refl
ends_at_null (d ∷ ds) none = rw (none.0) (ap (λ xs. d ∷ xs) (ends_at_null ds none.1))

entries_back : (ds : List Dyn) → AllAre DynFits (ds ++ entry DT_NULL 0 ∷ []) → AllAre IsSomeTag ds → entries_read_of false (dynamic_rows false (ds ++ entry DT_NULL 0 ∷ [])) ≡ ds
unfolding entries_read_of dynamic_entries
entries_back ds fits none =
    let n : length (dynamic_rows false (ds ++ entry DT_NULL 0 ∷ [])) / 8 ≡ length (ds ++ entry DT_NULL 0 ∷ []) = omega (arith, length-dynamic_rows false (ds ++ entry DT_NULL 0 ∷ [])) in
    rw n (ap until_null (rows_read (dynamic_rows false (ds ++ entry DT_NULL 0 ∷ [])) 0 (ds ++ entry DT_NULL 0 ∷ []) (holds_all (dynamic_rows false (ds ++ entry DT_NULL 0 ∷ []))) fits) ∙ ends_at_null ds none)

none_null : (p : Parts) → AllAre IsSomeTag (entries_of p)
none_null p = tags_are IsSomeTag p (λ n. refl) (λ n. refl) (record {
  hash = refl;
  strings = refl;
  symbols = refl;
  size = refl;
  symbol = refl;
  relas = refl;
  relas_size = refl;
  rela = refl;
  jumps = refl;
  jumps_size = refl;
  form = refl;
  base = refl;
  slots = refl;
  index = refl;
})

-- each number has 32 bits
pub at_end : (at : ℕ) (names : List (List ℕ)) → at ≤ names_end at names
at_end at [] = omega arith
at_end at (name ∷ names) = let later = at_end (at + (length name + 1)) names in omega (arith, later)

places_fit : (tag at : ℕ) (names : List (List ℕ)) → tag < 2 ^ 32 → names_end at names < 2 ^ 32 → AllAre DynFits (map (entry tag) (name_places at names))
places_fit tag at [] small end = tt
places_fit tag at (name ∷ names) small end =
    let here = at_end (at + (length name + 1)) names in
    (record { tag = small; value = omega (arith, here, end) }, places_fit tag (at + (length name + 1)) names small end)

pub end_append : (at : ℕ) (a b : List (List ℕ)) → names_end at (a ++ b) ≡ names_end (names_end at a) b
end_append at [] b = refl
end_append at (name ∷ a) b = end_append (at + (length name + 1)) a b

pub strings_end : (p : Parts) → length (strings_of p) ≡ names_end 1 (names_of p)
unfolding strings_of name_table names_of
strings_end p = shared_end (names_of p)

pub needed_end : (p : Parts) → names_end (names_end 1 (shared_names p.shared ++ if_named p.soname)) p.needed ≡ length (strings_of p)
unfolding names_of
needed_end p =
    sym (end_append 1 (shared_names p.shared ++ if_named p.soname) p.needed)
    ∙ ap (names_end 1) (append_assoc (shared_names p.shared) (if_named p.soname) p.needed) ∙ sym (strings_end p)

soname_within : (p : Parts) → names_end (names_end 1 (shared_names p.shared)) (if_named p.soname) ≤ length (strings_of p)
soname_within p =
    let all = needed_end p in
    let own = end_append 1 (shared_names p.shared) (if_named p.soname) in
    let later = at_end (names_end 1 (shared_names p.shared ++ if_named p.soname)) p.needed in
    omega (arith, all, own, later)

-- the places of the tables stand in the text
small_places : (c : Counts) (bound : ℕ) → text_size c ≤ bound → (hash_at c ≤ bound) × ((strings_at c ≤ bound) × ((symbols_at c ≤ bound) × ((relas_at c ≤ bound) × ((jumps_at c ≤ bound) × ((12 * c.relas ≤ bound) × (12 * c.jumps ≤ bound))))))
unfolding text_size dynamic_at jumps_at relas_at strings_at symbols_at hash_at
small_places c bound small = (omega (arith, small), (omega (arith, small), (omega (arith, small), (omega (arith, small), (omega (arith, small), (omega (arith, small), omega (arith, small)))))))

entries_fit : (p : Parts) → AreLoadable p → AllAre DynFits (entries_of p ++ entry DT_NULL 0 ∷ [])
unfolding needed_entries soname_entries
entries_fit p is =
    let few = strings_few p is.sized in
    let ends = needed_end p in
    let own = soname_within p in
    let s = small_places (counts_of p) MOST_SEGMENT_BYTES is.sized.text in
    let a = s.0 in
    let b = s.1.0 in
    let c = s.1.1.0 in
    let d = s.1.1.1.0 in
    let e = s.1.1.1.1.0 in
    let f = s.1.1.1.1.1.0 in
    let g = s.1.1.1.1.1.1 in
    let strings = (sized_counts p is.sized).few.strings in
    let end = is.end in
    let room = is.room in
    both_are DynFits (entries_of p) (entry DT_NULL 0 ∷ [])
    (rows_are DynFits p
    (places_fit DT_NEEDED (names_end 1 (shared_names p.shared ++ if_named p.soname)) p.needed (omega arith) (omega (arith, few, ends)))
    (places_fit DT_SONAME (names_end 1 (shared_names p.shared)) (if_named p.soname) (omega arith) (omega (arith, few, own)))
    (record {
      hash = record { tag = omega arith; value = omega (arith, a) };
      strings = record { tag = omega arith; value = omega (arith, b) };
      symbols = record { tag = omega arith; value = omega (arith, c) };
      size = record { tag = omega arith; value = omega (arith, strings) };
      symbol = record { tag = omega arith; value = omega arith };
      relas = record { tag = omega arith; value = omega (arith, d) };
      relas_size = record { tag = omega arith; value = omega (arith, f) };
      rela = record { tag = omega arith; value = omega arith };
      jumps = record { tag = omega arith; value = omega (arith, e) };
      jumps_size = record { tag = omega arith; value = omega (arith, g) };
      form = record { tag = omega arith; value = omega arith };
      base = record { tag = omega arith; value = omega (arith, end) };
      slots = record { tag = omega arith; value = omega (arith, end, room) };
      index = record { tag = omega arith; value = is.index };
    }))
    (record { tag = omega arith; value = omega arith }, tt)

pub entries_are : (p : Parts) → AreLoadable p → entries_in false (linked_file p).segments ≡ Ok (entries_of p)
unfolding entries_in linked_file dynamic_bytes
entries_are p is = ap Ok (entries_back (entries_of p) (entries_fit p is) (none_null p))
