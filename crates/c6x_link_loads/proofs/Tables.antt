-- A linked file's tables, read back.
use Rattle.std.proofs.Common.{◌≡◌, ℕ, zero, suc, ◌+◌, ◌-◌, ◌*◌, ◌/◌, ◌^◌, ◌<◌, ◌≤◌, ◌==◌, ◌&&◌, ◌⊎◌, inl, inr, not, Bool, true, false, List, [], ◌∷◌, ◌++◌, length, map, filter, if◌then◌else◌, nat_le, Some, Ok, refl, ap, append_assoc, subst, arith}
use Rattle.std.proofs.lemmas.Bool.Decides.{nat_tests}
use Rattle.std.specs.Prelude.{All}
use Rattle.std.specs.List.{range_with_len}
use Rattle.c6x_spec.specs.Numbers.{word_at}
use Rattle.c6x_elf.specs.Abi.{DT_HASH, DT_JMPREL, DT_PLTRELSZ, DT_RELA, DT_RELASZ, DT_STRSZ, DT_STRTAB, DT_SYMTAB}
use Rattle.c6x_elf.specs.EntryRows.{RelaFits, SymbolFits, rela_row, rela_rows, symbol_row, symbol_rows}
use Rattle.c6x_elf.specs.Laid.{AllHeld}
use Rattle.c6x_elf.specs.Rows.{SpellsWords, word_row}
use Rattle.c6x_elf.specs.TableEntries.{rela_at, rela_entries as relas_read_of, symbol_at, symbol_entries}
use Rattle.c6x_elf.specs.Types.{Dyn, Rela, Symbol}
use Rattle.c6x_elf.specs.declared.segment.Segment.{Segment}
use Rattle.c6x_elf_headers.specs.Held.{Holds}
use Rattle.c6x_elf_headers.proofs.Holdings.{holds_all, holds_left, holds_right, holds_slice, holds_within}
use Rattle.c6x_elf_headers.proofs.EntryRows.{length-rela_row, length-rela_rows, length-symbol_row, length-symbol_rows, rela_read, symbol_read}
use Rattle.c6x_elf_headers.proofs.NumberRows.{words_held}
use Rattle.c6x_elf_headers.proofs.Layouts.{laid_held}
use Rattle.c6x_layout.proofs.Fitting.{text_order}
use Rattle.c6x_layout.specs.File.{data_segment, text_bytes, text_parts, text_segment}
use Rattle.c6x_layout.specs.Hash.{buckets_of, chains_of, hash_words}
use Rattle.c6x_layout.specs.FilePlaces.{hash_at, jumps_at, relas_at, strings_at, symbols_at}
use Rattle.c6x_layout.specs.Tables.{counts_of, shared_names, strings_of, symbols_of}
use Rattle.c6x_layout.specs.declared.file_limits.TheConstants.{TEXT_START}
use Rattle.c6x_layout.specs.declared.parts.Parts.{Parts}
use Rattle.c6x_link_loads.proofs.Values.{unless}
use Rattle.c6x_module.specs.Entries.{tag_value}
use Rattle.c6x_module.specs.Tables.{addresses_in, bytes_at, bytes_in, count_in, is_outside, jumps_of, placed_at, placed_in, placed_of, slice_in, tables_in, tables_of}

-- the symbols
pub symbols_read : (bytes : List ℕ) (k : ℕ) (ss : List Symbol) → Holds bytes (16 * k) (symbol_rows false ss) → All SymbolFits ss → map (symbol_at false bytes) (range_with_len k (length ss)) ≡ ss
symbols_read bytes k [] h fits = refl
symbols_read bytes k (s ∷ ss) h fits =
    let first : symbol_at false bytes k ≡ s = symbol_read false bytes k s (holds_left bytes (16 * k) (symbol_row false s) (symbol_rows false ss) h) (fits 0 s (omega arith)) in
    let rest : map (symbol_at false bytes) (range_with_len (k + 1) (length ss)) ≡ ss =
    symbols_read bytes (k + 1) ss (holds_right bytes (16 * k) (symbol_row false s) (symbol_rows false ss) (16 * (k + 1)) h (omega (arith, length-symbol_row false s)))
    (λ i d below. fits (suc i) d (omega (arith, below))) in
    cc

pub symbols_back : (ss : List Symbol) → All SymbolFits ss → symbol_entries false (symbol_rows false ss) ≡ ss
unfolding symbol_entries
symbols_back ss fits =
    let n : length (symbol_rows false ss) / 16 ≡ length ss = omega (arith, length-symbol_rows false ss) in
    rw n (symbols_read (symbol_rows false ss) 0 ss (holds_all (symbol_rows false ss)) fits)

-- the relocation entries
relas_read : (bytes : List ℕ) (k : ℕ) (rs : List Rela) → Holds bytes (12 * k) (rela_rows false rs) → All RelaFits rs → map (rela_at false bytes) (range_with_len k (length rs)) ≡ rs
relas_read bytes k [] h fits = refl
relas_read bytes k (r ∷ rs) h fits =
    let first : rela_at false bytes k ≡ r = rela_read false bytes k r (holds_left bytes (12 * k) (rela_row false r) (rela_rows false rs) h) (fits 0 r (omega arith)) in
    let rest : map (rela_at false bytes) (range_with_len (k + 1) (length rs)) ≡ rs =
    relas_read bytes (k + 1) rs (holds_right bytes (12 * k) (rela_row false r) (rela_rows false rs) (12 * (k + 1)) h (omega (arith, length-rela_row false r)))
    (λ i d below. fits (suc i) d (omega (arith, below))) in
    cc

pub relas_back : (rs : List Rela) → All RelaFits rs → relas_read_of false (rela_rows false rs) ≡ rs
unfolding relas_read_of
relas_back rs fits =
    let n : length (rela_rows false rs) / 12 ≡ length rs = omega (arith, length-rela_rows false rs) in
    rw n (relas_read (rela_rows false rs) 0 rs (holds_all (rela_rows false rs)) fits)

-- entries behind another table are not inside it
outside_behind : (at from size k : ℕ) → from + size ≤ at → is_outside at from size k ≡ true
unfolding is_outside
outside_behind at from size k behind =
    let t : nat_le (at + 12 * k + 12) (from + size) ≡ false = grind (arith, nat_tests) in
    rw t (and_false (nat_le from (at + 12 * k)))
  where
    and_false : (b : Bool) → not (b && false) ≡ true
    and_false true = refl
    and_false false = refl

keeps_all : (at from size k n : ℕ) → from + size ≤ at → filter (is_outside at from size) (range_with_len k n) ≡ range_with_len k n
keeps_all at from size k zero behind = refl
keeps_all at from size k (suc n) behind = rw (outside_behind at from size k behind) (ap (λ ks. k ∷ ks) (keeps_all at from size (k + 1) n behind))

pub jumps_all : (at : ℕ) (bytes : List ℕ) (from size : ℕ) → (length bytes ≡ 0) ⊎ (from + size ≤ at) → jumps_of false at bytes from size ≡ relas_read_of false bytes
unfolding jumps_of relas_read_of
jumps_all at bytes from size (inl none) = rw none refl
jumps_all at bytes from size (inr behind) = ap (map (rela_at false bytes)) (keeps_all at from size 0 (length bytes / 12) behind)

-- the bytes of a part of the text
slice_held : (s : Segment) (place at count : ℕ) (part : List ℕ) → Holds s.bytes place part → at ≡ s.vaddr + place → count ≡ length part → slice_in s at count ≡ Some part
unfolding slice_in
slice_held s place at count part h is len =
    let inside = holds_within s.bytes place part h in
    let t1 : nat_le s.vaddr at ≡ true = grind (arith, nat_tests) in
    let t2 : nat_le (at + count) (s.vaddr + length s.bytes) ≡ true = grind (arith, nat_tests) in
    let d : at - s.vaddr ≡ place = omega arith in
    rw (t1, t2, d, len) (ap Some (holds_slice s.bytes place part h))

in_first : (text range : Segment) (at size : ℕ) (part : List ℕ) → slice_in text at size ≡ Some part → size ≡ length part → bytes_at text range at size ≡ Some part
unfolding bytes_at
in_first text range at size [] is len = rw len refl
in_first text range at size (b ∷ bs) is len =
    let t : (size == 0) ≡ false = grind (arith, nat_tests) in
    rw (t, is) refl

pub text_slice : (p : Parts) (place size : ℕ) (part : List ℕ) → Holds (text_bytes p) place part → size ≡ length part → bytes_at (text_segment p) (data_segment p) (TEXT_START + place) size ≡ Some part
text_slice p place size part h len = in_first (text_segment p) (data_segment p) (TEXT_START + place) size part (slice_held (text_segment p) place (TEXT_START + place) size part h refl len) len

-- the parts of the text
text_held : (p : Parts) → AllHeld (text_bytes p) (text_parts p)
unfolding text_bytes
text_held p = laid_held (text_bytes p) 0 (text_parts p) (holds_all (text_bytes p)) (text_order p)

pub record AreHeld (p : Parts) : Type 0 where
  pub hash : Holds (text_bytes p) (hash_at (counts_of p)) (word_row false (hash_words (shared_names p.shared)))
  pub symbols : Holds (text_bytes p) (symbols_at (counts_of p)) (symbol_rows false (symbols_of p))
  pub strings : Holds (text_bytes p) (strings_at (counts_of p)) (strings_of p)
  pub relas : Holds (text_bytes p) (relas_at (counts_of p)) (rela_rows false p.relas)
  pub jumps : Holds (text_bytes p) (jumps_at (counts_of p)) (rela_rows false p.jumps)

pub are_held : (p : Parts) → AreHeld p
unfolding text_parts
are_held p =
    let h = text_held p in
    record { hash = h.1.0; symbols = h.1.1.0; strings = h.1.1.1.0; relas = h.1.1.1.1.0; jumps = h.1.1.1.1.1.0 }

-- the first two words of the hash table
two_words : (a b : ℕ) (rest : List ℕ) → word_row false (a ∷ b ∷ rest) ≡ word_row false (a ∷ b ∷ []) ++ word_row false rest
two_words a b rest = simp append_assoc

pub head_held : (p : Parts) → Holds (text_bytes p) (hash_at (counts_of p)) (word_row false ((length (shared_names p.shared) + 3) ∷ (length (shared_names p.shared) + 3) ∷ []))
unfolding hash_words
head_held p =
    let n = length (shared_names p.shared) + 3 in
    let P : List ℕ → Type 0 = λ xs. Holds (text_bytes p) (hash_at (counts_of p)) xs in
    let rest = buckets_of n (shared_names p.shared) ++ chains_of n (shared_names p.shared) in
    holds_left (text_bytes p) (hash_at (counts_of p)) (word_row false (n ∷ n ∷ [])) (word_row false rest)
    (subst P (two_words n n rest) (are_held p).hash)

pub head_words : (n : ℕ) → n < 2 ^ 32 → SpellsWords false (word_row false (n ∷ n ∷ [])) 0 0 (n ∷ n ∷ [])
head_words n small = words_held false (word_row false (n ∷ n ∷ [])) 0 0 (n ∷ n ∷ []) (small, (small, tt)) (holds_all (word_row false (n ∷ n ∷ [])))

-- a table that is there where it has entries
not_none : (r : Rela) (rs : List Rela) → (length (r ∷ rs) == 0) ≡ false
not_none r rs = grind (arith, nat_tests)

pub table_read : (text range : Segment) (rs : List Rela) (at : ℕ) → bytes_at text range at (12 * length rs) ≡ Some (rela_rows false rs) → placed_of text range (unless (length rs == 0) at) (unless (length rs == 0) (12 * length rs)) ≡ Some (if length rs == 0 then 0 else at, rela_rows false rs)
table_read text range [] at is = refl
table_read text range (r ∷ rs) at is = rw (not_none r rs) (ap (placed_at at) is)

pub tables_apart : (rs js : List Rela) (r j : ℕ) → r + 12 * length rs ≤ j → (length (rela_rows false js) ≡ 0) ⊎ ((if length rs == 0 then 0 else r) + length (rela_rows false rs) ≤ (if length js == 0 then 0 else j))
tables_apart rs [] r j behind = inl refl
tables_apart [] (x ∷ js) r j behind = inr (omega arith)
tables_apart (y ∷ rs) (x ∷ js) r j behind = rw (not_none y rs, not_none x js) (inr (omega (arith, behind, length-rela_rows false (y ∷ rs))))

-- the readings by what they find
pub count_by : (text range : Segment) (hash : ℕ) (head whole : List ℕ) → bytes_at text range hash 8 ≡ Some head → bytes_at text range hash (4 * (2 + word_at false head 0 + word_at false head 4)) ≡ Some whole → count_in false text range hash ≡ Ok (word_at false head 4)
unfolding count_in bytes_in
count_by text range hash head whole h w = rw (h, w) refl

pub tables_by : (text range : Segment) (ds : List Dyn) (hash strtab symtab size count : ℕ) (strings symbols : List ℕ) (rela jump : ℕ × List ℕ) → tag_value DT_HASH ds ≡ Some hash → tag_value DT_STRTAB ds ≡ Some strtab → tag_value DT_SYMTAB ds ≡ Some symtab → tag_value DT_STRSZ ds ≡ Some size → count_in false text range hash ≡ Ok count → bytes_at text range strtab size ≡ Some strings → bytes_at text range symtab (16 * count) ≡ Some symbols → placed_of text range (tag_value DT_RELA ds) (tag_value DT_RELASZ ds) ≡ Some rela → placed_of text range (tag_value DT_JMPREL ds) (tag_value DT_PLTRELSZ ds) ≡ Some jump → tables_in false text range ds ≡ Ok (tables_of false strings symbols rela jump)
unfolding tables_in addresses_in bytes_in placed_in
tables_by text range ds hash strtab symtab size count strings symbols rela jump e4 e5 e6 e10 c s t r j = rw (e4, e5, e6, e10, c, s, t, r, j) refl
