-- The tables of a module have the sizes that their places leave them.
use Rattle.std.proofs.Common.{◌≡◌, ℕ, suc, ◌+◌, ◌*◌, ◌≤◌, ◌==◌, ◌-◌, replicate, Bool, true, false, List, [], ◌∷◌, ◌++◌, length, map, if◌then◌else◌, refl, sym, ap, ◌∙◌, subst, length-append, append_assoc, arith}
use Rattle.std.proofs.lemmas.List.{length-map, length-replicate}
use Rattle.std.proofs.lemmas.List.Concat.{flat_map-append}
use Rattle.std.proofs.lemmas.List.FromFn.{length-map-range_with_len}
use Rattle.c6x_elf.proofs.EntryRows.{length-dynamic_rows, length-rela_rows, length-symbol_rows}
use Rattle.c6x_elf.proofs.NumberRows.{length-word_row}
use Rattle.c6x_elf.specs.Abi.{DT_JMPREL, DT_NEEDED, DT_NULL, DT_PLTREL, DT_PLTRELSZ, DT_RELA, DT_RELAENT, DT_RELASZ, DT_SONAME}
use Rattle.std.specs.List.{range_with_len}
use Rattle.c6x_elf.specs.EntryRows.{dynamic_row, dynamic_rows, symbol_rows}
use Rattle.c6x_elf.specs.Laid.{InOrder, Part, laid}
use Rattle.c6x_spec.specs.Rounded.{rounded}
use Rattle.c6x_elf.specs.Rows.{word_row}
use Rattle.c6x_elf.specs.Types.{Dyn}
use Rattle.c6x_layout.specs.File.{dynamic_bytes, text_bytes, text_parts}
use Rattle.c6x_layout.specs.Hash.{buckets_of, chains_from, chains_of, first_in, hash_words}
use Rattle.c6x_layout.specs.FilePlaces.{dynamic_at, entry_count, hash_at, jumps_at, places_of, relas_at, strings_at, symbols_at, text_size}
use Rattle.c6x_layout.specs.FileSizes.{AreFew, AreSized}
use Rattle.c6x_layout.specs.Tables.{counts_of, entries_of, entry, first_symbols, if_named, jump_entries, name_places, names_end, needed_entries, place_entries, rela_entries, shared_name, shared_names, shared_symbols, soname_entries, strings_of, symbols_of, table_entries}
use Rattle.c6x_layout.specs.Text.{AreTables, HaveRoom, parts_at}
use Rattle.c6x_layout.specs.declared.counts.Counts.{Counts}
use Rattle.c6x_layout.specs.declared.file_limits.TheConstants.{MOST_SEGMENT_BYTES, TEXT_START}
use Rattle.c6x_layout.specs.declared.parts.Parts.{Parts}
use Rattle.c6x_layout.specs.declared.places.Places.{Places}
use Rattle.c6x_layout.specs.declared.shared.Shared.{Shared}
use Rattle.c6x_layout.specs.declared.tables.Tables.{Tables}

counts_few : (c : Counts) → text_size c ≤ MOST_SEGMENT_BYTES → AreFew c
unfolding text_size dynamic_at jumps_at relas_at strings_at symbols_at hash_at entry_count
counts_few c small = record {
  code = omega (arith, small);
  symbols = omega (arith, small);
  strings = omega (arith, small);
  relas = omega (arith, small);
  jumps = omega (arith, small);
  named = omega (arith, small);
}

pub record FitCounts (c : Counts) : Type 0 where
  pub few : AreFew c
  pub size : text_size c ≤ MOST_SEGMENT_BYTES

pub sized_counts : (p : Parts) → AreSized p → FitCounts (counts_of p)
sized_counts p are = record { few = counts_few (counts_of p) are.text; size = are.text }

pub strings_few : (p : Parts) → AreSized p → length (strings_of p) ≤ MOST_SEGMENT_BYTES
unfolding counts_of
strings_few p are = (counts_few (counts_of p) are.text).strings

pub shared_few : (p : Parts) → AreSized p → length p.shared ≤ 1048576
unfolding counts_of
shared_few p are = let few = (counts_few (counts_of p) are.text).symbols in omega (arith, few)

-- the dynamic entries, put in three runs
pub dynamic_is : (p : Parts) → (dynamic_rows false (needed_entries p) ++ dynamic_rows false (soname_entries p))
    ++ dynamic_rows false (place_entries (counts_of p) ++ (rela_entries (counts_of p) ++ (jump_entries (counts_of p) ++ (table_entries p ++ entry DT_NULL 0 ∷ []))))
    ≡ dynamic_bytes p
unfolding dynamic_bytes entries_of
dynamic_is p =
    let n = needed_entries p in
    let s = soname_entries p in
    let a = place_entries (counts_of p) in
    let b = rela_entries (counts_of p) in
    let c = jump_entries (counts_of p) in
    let t = table_entries p in
    let z : List Dyn = entry DT_NULL 0 ∷ [] in
    append_assoc (dynamic_rows false n) (dynamic_rows false s) (dynamic_rows false (a ++ (b ++ (c ++ (t ++ z)))))
    ∙ ap (λ rest. dynamic_rows false n ++ rest) (sym (flat_map-append (dynamic_row false) s (a ++ (b ++ (c ++ (t ++ z))))))
    ∙ sym (flat_map-append (dynamic_row false) n (s ++ (a ++ (b ++ (c ++ (t ++ z))))))
    ∙ ap (dynamic_rows false) (all n s a b c t z)
  where
    all : (n s a b c t z : List Dyn) → n ++ (s ++ (a ++ (b ++ (c ++ (t ++ z))))) ≡ (n ++ (s ++ (a ++ (b ++ (c ++ t))))) ++ z
    all n s a b c t z =
        ap (λ xs. n ++ (s ++ (a ++ (b ++ xs)))) (sym (append_assoc c t z))
        ∙ ap (λ xs. n ++ (s ++ (a ++ xs))) (sym (append_assoc b (c ++ t) z))
        ∙ ap (λ xs. n ++ (s ++ xs)) (sym (append_assoc a (b ++ (c ++ t)) z))
        ∙ ap (λ xs. n ++ xs) (sym (append_assoc s (a ++ (b ++ (c ++ t))) z))
        ∙ sym (append_assoc n (s ++ (a ++ (b ++ (c ++ t)))) z)

-- how many bytes the tables have
length_chains : (count number : ℕ) (names : List (List ℕ)) → length (chains_from count number names) ≡ length names
length_chains count number [] = refl
length_chains count number (name ∷ names) = ap suc (length_chains count (number + 1) names)

length_hash : (names : List (List ℕ)) → length (word_row false (hash_words names)) ≡ 4 * (2 + 2 * (length names + 3))
unfolding hash_words buckets_of chains_of
length_hash names =
    let count = length names + 3 in
    let buckets : List ℕ = map (λ bucket. first_in count bucket 3 names) (range_with_len 0 count) in
    let chains : List ℕ = 0 ∷ 0 ∷ 0 ∷ chains_from count 3 names in
    let b : length buckets ≡ count = length-map-range_with_len (λ bucket. first_in count bucket 3 names) 0 count in
    let c : length chains ≡ length names + 3 = omega (arith, length_chains count 3 names) in
    let whole : length (word_row false (count ∷ count ∷ (buckets ++ chains))) ≡ 4 * length (count ∷ count ∷ (buckets ++ chains)) = length-word_row false (count ∷ count ∷ (buckets ++ chains)) in
    omega (arith, whole, length-append buckets chains, b, c)

length_shared : (at : ℕ) (shared : List Shared) → length (shared_symbols at shared) ≡ length shared
length_shared at [] = refl
length_shared at (s ∷ shared) = ap suc (length_shared (at + (length s.name + 1)) shared)

length_symbols : (p : Parts) → length (symbol_rows false (symbols_of p)) ≡ 16 * (length p.shared + 3)
unfolding symbols_of first_symbols
length_symbols p =
    let s : length (shared_symbols 1 p.shared) ≡ length p.shared = length_shared 1 p.shared in
    omega (arith, length-symbol_rows false (first_symbols p.table ++ shared_symbols 1 p.shared), s)

length_places : (at : ℕ) (names : List (List ℕ)) → length (name_places at names) ≡ length names
length_places at [] = refl
length_places at (name ∷ names) = ap suc (length_places (at + (length name + 1)) names)

length_named : (tag at : ℕ) (names : List (List ℕ)) → length (map (entry tag) (name_places at names)) ≡ length names
length_named tag at names = length-map (name_places at names) (entry tag) ∙ length_places at names

length_if : (b : Bool) (x y z : Dyn) → length (if b then [] else x ∷ y ∷ z ∷ []) ≡ (if b then 0 else 3)
length_if true x y z = refl
length_if false x y z = refl

length_entries : (p : Parts) → length (entries_of p ++ entry DT_NULL 0 ∷ []) ≡ entry_count (counts_of p)
unfolding counts_of entries_of entry_count needed_entries soname_entries place_entries rela_entries jump_entries table_entries
length_entries p =
    let c = counts_of p in
    let n = needed_entries p in
    let s = soname_entries p in
    let r = rela_entries c in
    let j = jump_entries c in
    let named : length n ≡ length p.needed = length_named DT_NEEDED (names_end 1 (shared_names p.shared ++ if_named p.soname)) p.needed in
    let own : length s ≡ length (if_named p.soname) = length_named DT_SONAME (names_end 1 (shared_names p.shared)) (if_named p.soname) in
    let relas = length_if (c.relas == 0) (entry DT_RELA (TEXT_START + relas_at c)) (entry DT_RELASZ (12 * c.relas)) (entry DT_RELAENT 12) in
    let jumps = length_if (c.jumps == 0) (entry DT_JMPREL (TEXT_START + jumps_at c)) (entry DT_PLTRELSZ (12 * c.jumps)) (entry DT_PLTREL DT_RELA) in
    let all = length-append (if_named p.soname) p.needed in
    omega (
      arith,
      named,
      own,
      relas,
      jumps,
      all,
      length-append (entries_of p) (entry DT_NULL 0 ∷ []),
      length-append n (s ++ (place_entries c ++ (r ++ (j ++ table_entries p)))),
      length-append s (place_entries c ++ (r ++ (j ++ table_entries p))),
      length-append (place_entries c) (r ++ (j ++ table_entries p)),
      length-append r (j ++ table_entries p),
      length-append j (table_entries p),
    )

pub length_dynamic : (p : Parts) → length (dynamic_bytes p) ≡ 8 * entry_count (counts_of p)
unfolding dynamic_bytes
length_dynamic p = length-dynamic_rows false (entries_of p ++ entry DT_NULL 0 ∷ []) ∙ ap (λ n. 8 * n) (length_entries p)

-- the tables fit into their places
names_length : (shared : List Shared) → length (shared_names shared) ≡ length shared
unfolding shared_names
names_length shared = length-map shared shared_name

rounded_up : (from : ℕ) → from ≤ rounded from 4
rounded_up from = omega arith

room_by_counts : (code : List ℕ) (t : Tables) (c : Counts) → text_size c ≤ MOST_SEGMENT_BYTES → length code ≡ c.code → length t.hash ≡ 4 * (2 + 2 * c.symbols) → length t.symbols ≡ 16 * c.symbols → length t.strings ≡ c.strings → length t.relas ≡ 12 * c.relas → length t.jumps ≡ 12 * c.jumps → HaveRoom code t (places_of c)
unfolding places_of text_size dynamic_at jumps_at relas_at strings_at symbols_at hash_at
room_by_counts code t c small is_code is_hash is_symbols is_strings is_relas is_jumps = record {
  code = omega (arith, is_code);
  hash = omega (arith, is_hash);
  symbols = omega (arith, is_symbols);
  strings = omega (arith, is_strings);
  relas = omega (arith, is_relas);
  jumps = omega (arith, is_jumps);
  most = omega (arith, small);
}

pub tables_have_room : (p : Parts) (t : Tables) (places : Places) → AreSized p → AreTables p t → places ≡ places_of (counts_of p) → HaveRoom p.code t places
unfolding counts_of
tables_have_room p t places are tables is =
    let P : Places → Type 0 = λ places. HaveRoom p.code t places in
    subst P (sym is)
    (room_by_counts p.code t (counts_of p) are.text refl
    (ap length tables.hash ∙ length_hash (shared_names p.shared) ∙ ap (λ n. 4 * (2 + 2 * (n + 3))) (names_length p.shared))
    (ap length tables.symbols ∙ length_symbols p)
    (ap length tables.strings)
    (ap length tables.relas ∙ length-rela_rows false p.relas)
    (ap length tables.jumps ∙ length-rela_rows false p.jumps))

pub text_is : (p : Parts) (t : Tables) (places : Places) (text : List ℕ) → AreTables p t → places ≡ places_of (counts_of p) → text ≡ laid 0 (parts_at p.code t places) → text ≡ text_bytes p
unfolding text_bytes text_parts parts_at places_of
text_is p t places text tables is laid_so =
    laid_so ∙ rw (is, tables.hash, tables.symbols, tables.strings, tables.relas, tables.jumps, tables.dynamic) refl

-- the end of parts in order
abbrev parts_end : ℕ → List Part → ℕ
parts_end from [] = from
parts_end from (part ∷ parts) = parts_end (part.at + length part.bytes) parts

end_behind : (from : ℕ) (parts : List Part) → InOrder from parts → from ≤ parts_end from parts
end_behind from [] order = omega arith
end_behind from (part ∷ parts) order =
    let later = end_behind (part.at + length part.bytes) parts order.1 in
    let front = order.0 in
    omega (arith, later, front)

-- how long the text is
laid_length : (from : ℕ) (parts : List Part) → InOrder from parts → length (laid from parts) ≡ parts_end from parts - from
laid_length from [] order = omega arith
laid_length from (part ∷ parts) order =
    let later = laid_length (part.at + length part.bytes) parts order.1 in
    let end = end_behind (part.at + length part.bytes) parts order.1 in
    let front = order.0 in
    let gap : length (replicate {A = ℕ} (part.at - from) 0) ≡ part.at - from = length-replicate (part.at - from) 0 in
    omega (arith, later, end, front, gap, length-append (replicate (part.at - from) 0) (part.bytes ++ laid (part.at + length part.bytes) parts), length-append part.bytes (laid (part.at + length part.bytes) parts))

pub text_order : (p : Parts) → InOrder 0 (text_parts p)
unfolding text_parts counts_of hash_at symbols_at strings_at relas_at jumps_at dynamic_at
text_order p = (
  omega arith,
  (
    omega arith,
    (
      omega (arith, length_hash (shared_names p.shared), names_length p.shared),
      (
        omega (arith, length_symbols p),
        (
          omega arith,
          (omega (arith, length-rela_rows false p.relas), (omega (arith, length-rela_rows false p.jumps), tt)),
        ),
      ),
    ),
  ),
)

parts_last : (p : Parts) → parts_end 0 (text_parts p) - 0 ≡ dynamic_at (counts_of p) + 8 * entry_count (counts_of p)
unfolding text_parts
parts_last p = omega (arith, length_dynamic p)

pub length_text : (p : Parts) → length (text_bytes p) ≡ text_size (counts_of p)
unfolding text_bytes text_size
length_text p = laid_length 0 (text_parts p) (text_order p) ∙ parts_last p

pub from_none : (bytes : List ℕ) (from : ℕ) (parts : List Part) → bytes ≡ [] → from ≡ 0 → bytes ++ laid from parts ≡ laid 0 parts
from_none bytes from parts none zero = rw (none, zero) refl
