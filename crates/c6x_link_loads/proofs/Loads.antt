-- A linked file is read as the module of its parts, but for the last two rules.
use Rattle.std.proofs.Common.{◌≡◌, ℕ, suc, ◌+◌, ◌*◌, ◌%◌, ◌≤◌, ◌==◌, ◌||◌, ◌⊎◌, inl, inr, Bool, true, false, List, [], ◌∷◌, ◌++◌, length, map, if◌then◌else◌, nat_le, nat_lt, None, Some, Ok, refl, sym, ap, ◌∙◌, length-append, arith}
use Rattle.std.proofs.lemmas.Bool.Decides.{nat_tests}
use Rattle.std.proofs.lemmas.List.Elements.{All-append}
use Rattle.std.proofs.lemmas.List.FromFn.{length-map-range_with_len}
use Rattle.std.specs.Prelude.{All}
use Rattle.std.specs.List.{range_with_len}
use Rattle.c6x_spec.specs.Firsts.{◌<|>◌, first_along}
use Rattle.c6x_spec.specs.Numbers.{word_at}
use Rattle.c6x_elf.specs.Abi.{DT_JMPREL, DT_PLTRELSZ, DT_RELA, DT_RELAENT, DT_RELASZ, DT_SYMENT}
use Rattle.c6x_elf.specs.Attributes.{rela_kind, rela_symbol}
use Rattle.c6x_elf.specs.EntryRows.{RelaFits, rela_rows, symbol_rows}
use Rattle.c6x_elf.specs.Rows.{word_row}
use Rattle.c6x_elf.specs.Types.{Rela, Symbol}
use Rattle.c6x_elf_headers.proofs.EntryRows.{length-rela_rows, length-symbol_rows}
use Rattle.c6x_elf_headers.proofs.NumberRows.{length-word_row}
use Rattle.c6x_layout.proofs.Backward.{names_count}
use Rattle.c6x_layout.proofs.Fitting.{shared_few, strings_few}
use Rattle.c6x_layout.specs.File.{data_segment, linked_file, text_segment}
use Rattle.c6x_layout.specs.Hash.{buckets_of, chains_from, chains_of, first_in, hash_words}
use Rattle.c6x_layout.specs.FilePlaces.{hash_at, jumps_at, relas_at, strings_at, symbols_at}
use Rattle.c6x_layout.specs.Tables.{counts_of, entries_of, shared_names, strings_of, symbols_of}
use Rattle.c6x_layout.specs.declared.file_limits.TheConstants.{TEXT_START}
use Rattle.c6x_layout.specs.declared.parts.Parts.{Parts}
use Rattle.c6x_link_loads.specs.Loads.{AreLoadable, IsForLoader, fields_of_parts, loaded, module_of_parts, parts_refusal}
use Rattle.c6x_link_loads.proofs.Entries.{entries_are}
use Rattle.c6x_link_loads.proofs.Names.{names_small, needed_named, needed_pass, symbols_count, symbols_fit, symbols_named, symbols_pass}
use Rattle.c6x_link_loads.proofs.Tables.{are_held, count_by, head_held, head_words, jumps_all, relas_back, symbols_back, table_read, tables_apart, tables_by, text_slice}
use Rattle.c6x_link_loads.proofs.Values.{base_is, dsbt_passes, index_is, ranges_are, shape_passes, slots_are, unless, value_hash, value_jump, value_jump_size, value_rela, value_rela_entry, value_rela_size, value_size, value_strings, value_symbol, value_symbols}
use Rattle.c6x_module.specs.declared.module_rule.ModuleRule.TheVariants.{DynamicOutside}
use Rattle.c6x_module.specs.Entries.{tag_or, tag_value, value_or}
use Rattle.c6x_module.specs.Fields.{field_of, fields_of, fields_refusal, kind_refusal, place_refusal}
use Rattle.c6x_module.specs.Modules.{module_in, module_of, ranges_then, relocs_refusal, tables_then}
use Rattle.c6x_module.specs.Refusals.{must}
use Rattle.c6x_module.specs.Shape.{is_inside}
use Rattle.c6x_module.specs.Tables.{Tables, count_in, number_refusal, placed_of, sizes_refusal, sum_refusal, tables_in, tables_of, tables_refusal}

-- The tables of the file are the linker's own lists.
unfoldable pub linked_tables : Parts → Tables
linked_tables p = record { symbols = symbols_of p; strings = strings_of p; relas = p.relas; jumps = p.jumps }

all_fit : (p : Parts) (rs : List Rela) → All (IsForLoader p) rs → All RelaFits rs
all_fit p rs are = λ k d below. (are k d below).fits

-- the hash table
length_chains : (count number : ℕ) (names : List (List ℕ)) → length (chains_from count number names) ≡ length names
length_chains count number [] = refl
length_chains count number (name ∷ names) = ap suc (length_chains count (number + 1) names)

hash_length : (names : List (List ℕ)) → length (hash_words names) ≡ 2 + 2 * (length names + 3)
unfolding hash_words buckets_of chains_of
hash_length names =
    let count = length names + 3 in
    let buckets : List ℕ = map (λ bucket. first_in count bucket 3 names) (range_with_len 0 count) in
    let chains : List ℕ = 0 ∷ 0 ∷ 0 ∷ chains_from count 3 names in
    let b : length buckets ≡ count = length-map-range_with_len (λ bucket. first_in count bucket 3 names) 0 count in
    let c : length chains ≡ length names + 3 = omega (arith, length_chains count 3 names) in
    omega (arith, b, c, length-append buckets chains)

count_is : (p : Parts) → AreLoadable p → count_in false (text_segment p) (data_segment p) (TEXT_START + hash_at (counts_of p)) ≡ Ok (length p.shared + 3)
count_is p is =
    let n : ℕ = length (shared_names p.shared) + 3 in
    let head : List ℕ = word_row false (n ∷ n ∷ []) in
    let names = names_count p.shared in
    let few = shared_few p is.sized in
    let w = head_words n (omega (arith, names, few)) in
    let w0 : word_at false head 0 ≡ n = w.0 in
    let w4 : word_at false head 4 ≡ n = w.1.0 in
    let whole : List ℕ = word_row false (hash_words (shared_names p.shared)) in
    let size : 4 * (2 + word_at false head 0 + word_at false head 4) ≡ length whole =
    rw (w0, w4) (omega (arith, length-word_row false (hash_words (shared_names p.shared)), hash_length (shared_names p.shared))) in
    count_by (text_segment p) (data_segment p) (TEXT_START + hash_at (counts_of p)) head whole
    (text_slice p (hash_at (counts_of p)) 8 head (head_held p) (sym (length-word_row false (n ∷ n ∷ []))))
    (text_slice p (hash_at (counts_of p)) (4 * (2 + word_at false head 0 + word_at false head 4)) whole (are_held p).hash size)
    ∙ ap Ok (w4 ∙ ap (λ k. k + 3) names)

-- the tables of relocation entries
rela_table : (p : Parts) → placed_of (text_segment p) (data_segment p) (tag_value DT_RELA (entries_of p)) (tag_value DT_RELASZ (entries_of p)) ≡ Some (if length p.relas == 0 then 0 else TEXT_START + relas_at (counts_of p), rela_rows false p.relas)
unfolding counts_of
rela_table p =
    rw (value_rela p, value_rela_size p)
    (table_read (text_segment p) (data_segment p) p.relas (TEXT_START + relas_at (counts_of p))
    (text_slice p (relas_at (counts_of p)) (12 * length p.relas) (rela_rows false p.relas) (are_held p).relas (sym (length-rela_rows false p.relas))))

jump_table : (p : Parts) → placed_of (text_segment p) (data_segment p) (tag_value DT_JMPREL (entries_of p)) (tag_value DT_PLTRELSZ (entries_of p)) ≡ Some (if length p.jumps == 0 then 0 else TEXT_START + jumps_at (counts_of p), rela_rows false p.jumps)
unfolding counts_of
jump_table p =
    rw (value_jump p, value_jump_size p)
    (table_read (text_segment p) (data_segment p) p.jumps (TEXT_START + jumps_at (counts_of p))
    (text_slice p (jumps_at (counts_of p)) (12 * length p.jumps) (rela_rows false p.jumps) (are_held p).jumps (sym (length-rela_rows false p.jumps))))

abbrev made : List Symbol → List ℕ → List Rela → List Rela → Tables
made a s c e = record { symbols = a; strings = s; relas = c; jumps = e }

same_tables : (a b : List Symbol) (s : List ℕ) (c d e f : List Rela) → a ≡ b → c ≡ d → e ≡ f → made a s c e ≡ made b s d f
same_tables a b s c d e f x y z = λ i. record { symbols = x i; strings = s; relas = y i; jumps = z i }

made_tables : (p : Parts) → AreLoadable p → tables_of false (strings_of p) (symbol_rows false (symbols_of p)) (if length p.relas == 0 then 0 else TEXT_START + relas_at (counts_of p), rela_rows false p.relas) (if length p.jumps == 0 then 0 else TEXT_START + jumps_at (counts_of p), rela_rows false p.jumps) ≡ linked_tables p
unfolding tables_of linked_tables counts_of jumps_at
made_tables p is =
    let r : ℕ = TEXT_START + relas_at (counts_of p) in
    let j : ℕ = TEXT_START + jumps_at (counts_of p) in
    let apart = tables_apart p.relas p.jumps r j (omega arith) in
    same_tables _ (symbols_of p) (strings_of p) _ p.relas _ p.jumps
    (symbols_back (symbols_of p) (symbols_fit p is))
    (relas_back p.relas (all_fit p p.relas is.relas))
    (jumps_all (if length p.jumps == 0 then 0 else j) (rela_rows false p.jumps) (if length p.relas == 0 then 0 else r) (length (rela_rows false p.relas)) apart
    ∙ relas_back p.jumps (all_fit p p.jumps is.jumps))

strings_counted : (p : Parts) → (counts_of p).strings ≡ length (strings_of p)
unfolding counts_of
strings_counted p = refl

tables_are : (p : Parts) → AreLoadable p → tables_in false (text_segment p) (data_segment p) (entries_of p) ≡ Ok (linked_tables p)
tables_are p is =
    let held = are_held p in
    tables_by (text_segment p) (data_segment p) (entries_of p) (TEXT_START + hash_at (counts_of p)) (TEXT_START + strings_at (counts_of p)) (TEXT_START + symbols_at (counts_of p)) (counts_of p).strings (length p.shared + 3)
    (strings_of p) (symbol_rows false (symbols_of p))
    (if length p.relas == 0 then 0 else TEXT_START + relas_at (counts_of p), rela_rows false p.relas)
    (if length p.jumps == 0 then 0 else TEXT_START + jumps_at (counts_of p), rela_rows false p.jumps)
    (value_hash p) (value_strings p) (value_symbols p) (value_size p) (count_is p is)
    (text_slice p (strings_at (counts_of p)) (counts_of p).strings (strings_of p) held.strings (strings_counted p))
    (text_slice p (symbols_at (counts_of p)) (16 * (length p.shared + 3)) (symbol_rows false (symbols_of p)) held.symbols
    (ap (λ n. 16 * n) (sym (symbols_count p)) ∙ sym (length-symbol_rows false (symbols_of p))))
    (rela_table p) (jump_table p)
    ∙ ap Ok (made_tables p is)

-- the sizes of entries
twelve : (n : ℕ) → (12 * n % 12 == 0) ≡ true
twelve n = let z : 12 * n % 12 ≡ 0 = omega arith in rw z refl

size_of_entry : (b : Bool) (tag : ℕ) → must (value_or (unless b 12) 12 == 12) DynamicOutside tag ≡ None
unfolding must
size_of_entry true tag = refl
size_of_entry false tag = refl

size_of_table : (b : Bool) (n tag : ℕ) → must (value_or (unless b (12 * n)) 0 % 12 == 0) DynamicOutside tag ≡ None
unfolding must
size_of_table true n tag = refl
size_of_table false n tag = rw (twelve n) refl

symbol_size : must (16 == 16) DynamicOutside DT_SYMENT ≡ None
unfolding must
symbol_size = refl

sizes_pass : (p : Parts) → sizes_refusal (entries_of p) ≡ None
unfolding sizes_refusal tag_or
sizes_pass p =
    let c = counts_of p in
    rw (value_symbol p, value_rela_entry p, value_rela_size p, value_jump_size p, size_of_entry (c.relas == 0) DT_RELAENT, size_of_table (c.relas == 0) c.relas DT_RELASZ, size_of_table (c.jumps == 0) c.jumps DT_PLTRELSZ)
    (ap (λ first. first <|> None) symbol_size)

-- the entries for the loader
or_right : (a b : Bool) → b ≡ true → (a || b) ≡ true
or_right true b is = refl
or_right false b is = is

numbers_pass : (tag : ℕ) (p : Parts) (rs : List Rela) → All (IsForLoader p) rs → first_along (number_refusal tag (length (symbols_of p))) rs ≡ None
unfolding number_refusal must
numbers_pass tag p [] are = refl
numbers_pass tag p (r ∷ rs) are =
    let below = (are 0 r (omega arith)).symbol in
    let count = symbols_count p in
    let t : nat_lt (rela_symbol r) (length (symbols_of p)) ≡ true = grind (arith, nat_tests) in
    rw (or_right (rela_symbol r == 0) (nat_lt (rela_symbol r) (length (symbols_of p))) t)
    (numbers_pass tag p rs (λ k d lower. are (suc k) d (omega (arith, lower))))

kinds_pass : (p : Parts) (rs : List Rela) → All (IsForLoader p) rs → first_along kind_refusal rs ≡ None
unfolding kind_refusal must
kinds_pass p [] are = refl
kinds_pass p (r ∷ rs) are = one (are 0 r (omega arith)).kind (kinds_pass p rs (λ k d lower. are (suc k) d (omega (arith, lower))))
  where
    one : (r.info % 256 ≡ 1) ⊎ (r.info % 256 ≡ 27) → first_along kind_refusal rs ≡ None → first_along kind_refusal (r ∷ rs) ≡ None
    one (inl is) later = rw is later
    one (inr is) later = rw is later

inside_is : (p : Parts) (r : Rela) → IsForLoader p r → is_inside (data_segment p) r.offset 4 ≡ true
unfolding is_inside
inside_is p r is =
    let above = is.inside.above in
    let within = is.inside.within in
    let t : nat_le p.table r.offset ≡ true = grind (arith, nat_tests) in
    let u : nat_le (r.offset + 4) (p.table + p.memory) ≡ true = grind (arith, nat_tests) in
    rw (t, u) refl

places_pass : (p : Parts) (rs : List Rela) → All (IsForLoader p) rs → first_along (place_refusal (data_segment p)) (fields_of rs) ≡ None
unfolding place_refusal field_of must
places_pass p [] are = refl
places_pass p (r ∷ rs) are = either (rela_kind r == 0) (places_pass p rs (λ k d lower. are (suc k) d (omega (arith, lower))))
  where
    inside : is_inside (data_segment p) r.offset 4 ≡ true
    inside = inside_is p r (are 0 r (omega arith))

    either : (none : Bool) → first_along (place_refusal (data_segment p)) (fields_of rs) ≡ None → first_along (place_refusal (data_segment p)) (if none then fields_of rs else field_of r ∷ fields_of rs) ≡ None
    either true later = later
    either false later = rw inside later

sum_passes : (p : Parts) → AreLoadable p → sum_refusal (entries_of p) (linked_tables p) ≡ None
unfolding sum_refusal linked_tables must
sum_passes p is =
    let names = names_small p is in
    let few = strings_few p is.sized in
    rw (fits names few) refl
  where
    fits : {n m : ℕ} → n ≤ m → m ≤ 1048576 → nat_le n 4194304 ≡ true
    fits below small = grind (arith, nat_tests)

tables_pass : (p : Parts) → AreLoadable p → tables_refusal (entries_of p) (linked_tables p) ≡ None
unfolding tables_refusal linked_tables
tables_pass p is =
    rw (sizes_pass p, symbols_pass p is, needed_pass p is, numbers_pass DT_RELA p p.relas is.relas, numbers_pass DT_JMPREL p p.jumps is.jumps)
    (sum_passes p is)

relocs_are : (p : Parts) → AreLoadable p → relocs_refusal (linked_file p) (text_segment p, data_segment p) (entries_of p) (p.relas ++ p.jumps) ≡ parts_refusal p
unfolding relocs_refusal fields_refusal parts_refusal fields_of_parts linked_file
relocs_are p is =
    let all = All-append (IsForLoader p) p.relas p.jumps is.relas is.jumps in
    rw (kinds_pass p (p.relas ++ p.jumps) all, places_pass p (p.relas ++ p.jumps) all, base_is p, slots_are p, index_is p) refl

module_is : (p : Parts) → AreLoadable p → (name : List ℕ) → module_of name (linked_file p) (text_segment p, data_segment p) (entries_of p) (linked_tables p) ≡ module_of_parts name p
unfolding module_of linked_tables module_of_parts fields_of_parts linked_file
module_is p is name = rw (symbols_named p is, needed_named p is, base_is p, slots_are p, index_is p) refl

pub loads : (p : Parts) → AreLoadable p → (name : List ℕ) → module_in false name (linked_file p) ≡ loaded name p
unfolding module_in ranges_then tables_then loaded relocs_refusal parts_refusal linked_tables fields_of_parts
loads p is name =
    rw (entries_are p is, dsbt_passes p, ranges_are p is, shape_passes p is, tables_are p is, tables_pass p is, relocs_are p is, module_is p is name) refl
