-- The values of the tags of a linked file, and the rules on its segments and entries.
use Rattle.std.proofs.Common.{◌≡◌, ℕ, ◌+◌, ◌*◌, ◌^◌, ◌==◌, ◌||◌, not, Bool, true, false, List, [], ◌∷◌, ◌++◌, length, map, if◌then◌else◌, nat_le, nat_lt, Option, None, Some, Ok, refl, ap, ◌∙◌, arith}
use Rattle.std.proofs.lemmas.Bool.Decides.{nat_tests}
use Rattle.c6x_spec.specs.Firsts.{first_along}
use Rattle.c6x_elf.specs.Abi.{DT_DSBT_BASE, DT_DSBT_INDEX, DT_DSBT_SIZE, DT_HASH, DT_JMPREL, DT_NEEDED, DT_PLTREL, DT_PLTRELSZ, DT_REL, DT_RELA, DT_RELAENT, DT_RELASZ, DT_SONAME, DT_STRSZ, DT_STRTAB, DT_SYMENT, DT_SYMTAB}
use Rattle.c6x_elf.specs.Types.{Dyn}
use Rattle.c6x_layout.proofs.Fitting.{length_text}
use Rattle.c6x_layout.proofs.Tidy.{text_short}
use Rattle.c6x_layout.specs.File.{data_segment, linked_file, text_bytes, text_segment}
use Rattle.c6x_layout.specs.FilePlaces.{hash_at, jumps_at, relas_at, strings_at, symbols_at}
use Rattle.c6x_layout.specs.Tables.{counts_of, entries_of, entry, if_named, jump_entries, name_places, names_end, needed_entries, place_entries, rela_entries, shared_names, soname_entries, table_entries}
use Rattle.c6x_layout.specs.declared.counts.Counts.{Counts}
use Rattle.c6x_layout.specs.declared.file_limits.TheConstants.{TEXT_START}
use Rattle.c6x_layout.specs.declared.parts.Parts.{Parts}
use Rattle.c6x_link_loads.specs.Loads.{AreLoadable}
use Rattle.c6x_link_loads.proofs.Entries.{AllAre, tags_are}
use Rattle.c6x_module.specs.Entries.{dsbt_refusal, tag_or, tag_value}
use Rattle.c6x_module.specs.Ranges.{has_room, fits_memory, ranges_in, ranges_of, share_none}
use Rattle.c6x_module.specs.Refusals.{Refusal, must}
use Rattle.c6x_module.specs.Shape.{align_refusal, form_refusal, forms_along, init_refusal, is_init, is_inside, shape_refusal, table_refusal}

-- the first value of a tag in one list behind another
abbrev pub or_value : Option ℕ → Option ℕ → Option ℕ
or_value None other = other
or_value (Some v) other = Some v

value_both : (tag : ℕ) (a b : List Dyn) → tag_value tag (a ++ b) ≡ or_value (tag_value tag a) (tag_value tag b)
value_both tag [] b = refl
value_both tag (d ∷ a) b = either (value_both tag a b) (d.tag == tag)
  where
    either : tag_value tag (a ++ b) ≡ or_value (tag_value tag a) (tag_value tag b) → (t : Bool) → (if t then Some d.value else tag_value tag (a ++ b)) ≡ or_value (if t then Some d.value else tag_value tag a) (tag_value tag b)
    either later true = refl
    either later false = later

-- entries of another tag are passed over
value_behind : (tag other : ℕ) (places : List ℕ) (ds : List Dyn) → (other == tag) ≡ false → tag_value tag (map (entry other) places ++ ds) ≡ tag_value tag ds
value_behind tag other [] ds differ = refl
value_behind tag other (p ∷ places) ds differ = rw differ (value_behind tag other places ds differ)

pub value_front : (tag : ℕ) (p : Parts) → (DT_NEEDED == tag) ≡ false → (DT_SONAME == tag) ≡ false → tag_value tag (entries_of p) ≡ tag_value tag (place_entries (counts_of p) ++ (rela_entries (counts_of p) ++ (jump_entries (counts_of p) ++ table_entries p)))
unfolding entries_of needed_entries soname_entries
value_front tag p needed own =
    let c = counts_of p in
    let rest = place_entries c ++ (rela_entries c ++ (jump_entries c ++ table_entries p)) in
    let names = map (entry DT_SONAME) (name_places (names_end 1 (shared_names p.shared)) (if_named p.soname)) in
    value_behind tag DT_NEEDED (name_places (names_end 1 (shared_names p.shared ++ if_named p.soname)) p.needed) (names ++ rest) needed
    ∙ value_behind tag DT_SONAME (name_places (names_end 1 (shared_names p.shared)) (if_named p.soname)) rest own

pub value_hash : (p : Parts) → tag_value DT_HASH (entries_of p) ≡ Some (TEXT_START + hash_at (counts_of p))
unfolding place_entries
value_hash p = value_front DT_HASH p refl refl

pub value_strings : (p : Parts) → tag_value DT_STRTAB (entries_of p) ≡ Some (TEXT_START + strings_at (counts_of p))
unfolding place_entries
value_strings p = value_front DT_STRTAB p refl refl

pub value_symbols : (p : Parts) → tag_value DT_SYMTAB (entries_of p) ≡ Some (TEXT_START + symbols_at (counts_of p))
unfolding place_entries
value_symbols p = value_front DT_SYMTAB p refl refl

pub value_size : (p : Parts) → tag_value DT_STRSZ (entries_of p) ≡ Some (counts_of p).strings
unfolding place_entries
value_size p = value_front DT_STRSZ p refl refl

pub value_symbol : (p : Parts) → tag_value DT_SYMENT (entries_of p) ≡ Some 16
unfolding place_entries
value_symbol p = value_front DT_SYMENT p refl refl

-- a tag that none of the fixed rows in front has
value_last : (tag : ℕ) (p : Parts) → (DT_NEEDED == tag) ≡ false → (DT_SONAME == tag) ≡ false → (DT_HASH == tag) ≡ false → (DT_STRTAB == tag) ≡ false → (DT_SYMTAB == tag) ≡ false → (DT_STRSZ == tag) ≡ false → (DT_SYMENT == tag) ≡ false → tag_value tag (entries_of p) ≡ or_value (tag_value tag (rela_entries (counts_of p))) (or_value (tag_value tag (jump_entries (counts_of p))) (tag_value tag (table_entries p)))
unfolding place_entries
value_last tag p needed own hash strings symbols size symbol =
    let c = counts_of p in
    value_front tag p needed own
    ∙ rw (hash, strings, symbols, size, symbol)
    (value_both tag (rela_entries c) (jump_entries c ++ table_entries p) ∙ ap (or_value (tag_value tag (rela_entries c))) (value_both tag (jump_entries c) (table_entries p)))

-- the values of entries that are there where a table has entries
three_value : (tag : ℕ) (b : Bool) (x y z : Dyn) → tag_value tag (if b then [] else x ∷ y ∷ z ∷ []) ≡ (if b then None else tag_value tag (x ∷ y ∷ z ∷ []))
three_value tag true x y z = refl
three_value tag false x y z = refl

value_relas : (tag : ℕ) (c : Counts) → tag_value tag (rela_entries c) ≡ (if c.relas == 0 then None else tag_value tag (entry DT_RELA (TEXT_START + relas_at c) ∷ entry DT_RELASZ (12 * c.relas) ∷ entry DT_RELAENT 12 ∷ []))
unfolding rela_entries
value_relas tag c = three_value tag (c.relas == 0) (entry DT_RELA (TEXT_START + relas_at c)) (entry DT_RELASZ (12 * c.relas)) (entry DT_RELAENT 12)

value_jumps : (tag : ℕ) (c : Counts) → tag_value tag (jump_entries c) ≡ (if c.jumps == 0 then None else tag_value tag (entry DT_JMPREL (TEXT_START + jumps_at c) ∷ entry DT_PLTRELSZ (12 * c.jumps) ∷ entry DT_PLTREL DT_RELA ∷ []))
unfolding jump_entries
value_jumps tag c = three_value tag (c.jumps == 0) (entry DT_JMPREL (TEXT_START + jumps_at c)) (entry DT_PLTRELSZ (12 * c.jumps)) (entry DT_PLTREL DT_RELA)

nothing : (t : Bool) (o : Option ℕ) → (if t then o else o) ≡ o
nothing true o = refl
nothing false o = refl

or_none : (o : Option ℕ) → or_value o None ≡ o
or_none None = refl
or_none (Some n) = refl

-- a number that is there unless a table is empty
abbrev pub unless : Bool → ℕ → Option ℕ
unless none number = if none then None else Some number

pub value_rela : (p : Parts) → tag_value DT_RELA (entries_of p) ≡ unless ((counts_of p).relas == 0) (TEXT_START + relas_at (counts_of p))
unfolding table_entries
value_rela p =
    let c = counts_of p in
    value_last DT_RELA p refl refl refl refl refl refl refl
    ∙ rw (value_relas DT_RELA c, value_jumps DT_RELA c ∙ nothing (c.jumps == 0) None) (or_none (unless (c.relas == 0) (TEXT_START + relas_at c)))

pub value_rela_size : (p : Parts) → tag_value DT_RELASZ (entries_of p) ≡ unless ((counts_of p).relas == 0) (12 * (counts_of p).relas)
unfolding table_entries
value_rela_size p =
    let c = counts_of p in
    value_last DT_RELASZ p refl refl refl refl refl refl refl
    ∙ rw (value_relas DT_RELASZ c, value_jumps DT_RELASZ c ∙ nothing (c.jumps == 0) None) (or_none (unless (c.relas == 0) (12 * c.relas)))

pub value_rela_entry : (p : Parts) → tag_value DT_RELAENT (entries_of p) ≡ unless ((counts_of p).relas == 0) 12
unfolding table_entries
value_rela_entry p =
    let c = counts_of p in
    value_last DT_RELAENT p refl refl refl refl refl refl refl
    ∙ rw (value_relas DT_RELAENT c, value_jumps DT_RELAENT c ∙ nothing (c.jumps == 0) None) (or_none (unless (c.relas == 0) 12))

pub value_jump : (p : Parts) → tag_value DT_JMPREL (entries_of p) ≡ unless ((counts_of p).jumps == 0) (TEXT_START + jumps_at (counts_of p))
unfolding table_entries
value_jump p =
    let c = counts_of p in
    value_last DT_JMPREL p refl refl refl refl refl refl refl
    ∙ rw (value_relas DT_JMPREL c ∙ nothing (c.relas == 0) None, value_jumps DT_JMPREL c) (or_none (unless (c.jumps == 0) (TEXT_START + jumps_at c)))

pub value_jump_size : (p : Parts) → tag_value DT_PLTRELSZ (entries_of p) ≡ unless ((counts_of p).jumps == 0) (12 * (counts_of p).jumps)
unfolding table_entries
value_jump_size p =
    let c = counts_of p in
    value_last DT_PLTRELSZ p refl refl refl refl refl refl refl
    ∙ rw (value_relas DT_PLTRELSZ c ∙ nothing (c.relas == 0) None, value_jumps DT_PLTRELSZ c) (or_none (unless (c.jumps == 0) (12 * c.jumps)))

pub value_base : (p : Parts) → tag_value DT_DSBT_BASE (entries_of p) ≡ Some p.table
unfolding table_entries
value_base p =
    let c = counts_of p in
    value_last DT_DSBT_BASE p refl refl refl refl refl refl refl
    ∙ rw (value_relas DT_DSBT_BASE c ∙ nothing (c.relas == 0) None, value_jumps DT_DSBT_BASE c ∙ nothing (c.jumps == 0) None) refl

pub value_slots : (p : Parts) → tag_value DT_DSBT_SIZE (entries_of p) ≡ Some p.slots
unfolding table_entries
value_slots p =
    let c = counts_of p in
    value_last DT_DSBT_SIZE p refl refl refl refl refl refl refl
    ∙ rw (value_relas DT_DSBT_SIZE c ∙ nothing (c.relas == 0) None, value_jumps DT_DSBT_SIZE c ∙ nothing (c.jumps == 0) None) refl

pub value_index : (p : Parts) → tag_value DT_DSBT_INDEX (entries_of p) ≡ Some p.index
unfolding table_entries
value_index p =
    let c = counts_of p in
    value_last DT_DSBT_INDEX p refl refl refl refl refl refl refl
    ∙ rw (value_relas DT_DSBT_INDEX c ∙ nothing (c.relas == 0) None, value_jumps DT_DSBT_INDEX c ∙ nothing (c.jumps == 0) None) refl

pub base_is : (p : Parts) → tag_or 0 DT_DSBT_BASE (entries_of p) ≡ p.table
unfolding tag_or
base_is p = rw (value_base p) refl

pub slots_are : (p : Parts) → tag_or 0 DT_DSBT_SIZE (entries_of p) ≡ p.slots
unfolding tag_or
slots_are p = rw (value_slots p) refl

pub index_is : (p : Parts) → tag_or 0 DT_DSBT_INDEX (entries_of p) ≡ p.index
unfolding tag_or
index_is p = rw (value_index p) refl

-- L1
pub dsbt_passes : (p : Parts) → dsbt_refusal (entries_of p) ≡ None
unfolding dsbt_refusal must
dsbt_passes p = rw (value_base p, value_slots p, value_index p) refl

-- L2: the two segments
shares_none : (p : Parts) → AreLoadable p → share_none (text_segment p) (data_segment p) ≡ true
unfolding share_none
shares_none p is =
    let behind = is.behind in
    let size = length_text p in
    let t : nat_le (TEXT_START + length (text_bytes p)) p.table ≡ true = grind (arith, nat_tests) in
    rw t (either (length (text_bytes p) == 0) (p.memory == 0) (nat_le (p.table + p.memory) TEXT_START))
  where
    either : (a b c : Bool) → (a || b || true || c) ≡ true
    either true b c = refl
    either false true c = refl
    either false false c = refl

text_room : (p : Parts) → AreLoadable p → has_room (text_segment p) ≡ true
unfolding has_room
text_room p is =
    let size = text_short p is.sized in
    let t1 : nat_le (length (text_bytes p)) (length (text_bytes p)) ≡ true = grind (arith, nat_tests) in
    let t2 : nat_le (length (text_bytes p)) 16777216 ≡ true = grind (arith, nat_tests) in
    let t3 : nat_lt (TEXT_START + length (text_bytes p)) (2 ^ 32) ≡ true = grind (arith, nat_tests) in
    rw (t1, t2, t3) refl

data_room : (p : Parts) → AreLoadable p → has_room (data_segment p) ≡ true
unfolding has_room
data_room p is =
    let filled = is.sized.content in
    let size = is.sized.memory in
    let end = is.end in
    let t1 : nat_le (length p.content) p.memory ≡ true = grind (arith, nat_tests) in
    let t2 : nat_le p.memory 16777216 ≡ true = grind (arith, nat_tests) in
    let t3 : nat_lt (p.table + p.memory) (2 ^ 32) ≡ true = grind (arith, nat_tests) in
    rw (t1, t2, t3) refl

pub ranges_are : (p : Parts) → AreLoadable p → ranges_in (linked_file p).segments ≡ Ok (text_segment p, data_segment p)
unfolding ranges_in ranges_of linked_file fits_memory
ranges_are p is = rw (text_room p is, data_room p is, shares_none p is) refl

-- L3 to L6
inside_table : (p : Parts) → AreLoadable p → is_inside (data_segment p) p.table (4 * p.slots) ≡ true
unfolding is_inside
inside_table p is =
    let room = is.room in
    let t1 : nat_le p.table p.table ≡ true = grind (arith, nat_tests) in
    let t2 : nat_le (p.table + 4 * p.slots) (p.table + p.memory) ≡ true = grind (arith, nat_tests) in
    rw (t1, t2) refl

table_passes : (p : Parts) → AreLoadable p → table_refusal (data_segment p) p.table p.slots ≡ None
unfolding table_refusal must
table_passes p is =
    let some = is.some in
    let t : nat_le 1 p.slots ≡ true = grind (arith, nat_tests) in
    rw (is.aligned, t, inside_table p is) refl

-- rules on single entries
pub along_are : (rule : Dyn → Option Refusal) (ds : List Dyn) → AllAre (λ d. rule d ≡ None) ds → first_along rule ds ≡ None
along_are rule [] all = refl
along_are rule (d ∷ ds) all = rw (all.0) (along_are rule ds all.1)

inits_pass : (p : Parts) → first_along init_refusal (entries_of p) ≡ None
unfolding init_refusal is_init must
inits_pass p = along_are init_refusal (entries_of p) (tags_are (λ d. init_refusal d ≡ None) p (λ n. refl) (λ n. refl) (record {
  hash = refl;
  strings = refl;
  symbols = refl;
  size = refl;
  symbol = refl;
  relas = refl;
  relas_size = refl;
  rela = refl;
  jumps = refl;
  jumps_size = refl;
  form = refl;
  base = refl;
  slots = refl;
  index = refl;
}))

-- no entry says that there are relocation entries without addends
abbrev IsForm : Dyn → Type 0
IsForm d = ((d.tag == DT_REL) ≡ false) × ((not (d.tag == DT_PLTREL) || d.value == DT_RELA) ≡ true)

or_true : (a b c : Bool) → (b || c) ≡ true → (a || b || c) ≡ true
or_true true b c is = refl
or_true false b c is = is

forms_are : (had : Bool) (ds : List Dyn) → AllAre IsForm ds → forms_along had ds ≡ None
unfolding form_refusal must
forms_are had [] all = refl
forms_are had (d ∷ ds) all =
    let or = or_true had (not (d.tag == DT_PLTREL)) (d.value == DT_RELA) all.0.1 in
    rw (all.0.0, or) (forms_are (had || d.tag == DT_PLTREL) ds all.1)

forms_pass : (p : Parts) → forms_along false (entries_of p) ≡ None
forms_pass p = forms_are false (entries_of p) (tags_are IsForm p (λ n. (refl, refl)) (λ n. (refl, refl)) (record {
  hash = (refl, refl);
  strings = (refl, refl);
  symbols = (refl, refl);
  size = (refl, refl);
  symbol = (refl, refl);
  relas = (refl, refl);
  relas_size = (refl, refl);
  rela = (refl, refl);
  jumps = (refl, refl);
  jumps_size = (refl, refl);
  form = (refl, refl);
  base = (refl, refl);
  slots = (refl, refl);
  index = (refl, refl);
}))

pub shape_passes : (p : Parts) → AreLoadable p → shape_refusal (text_segment p) (data_segment p) (entries_of p) ≡ None
unfolding shape_refusal align_refusal must
shape_passes p is = rw (is.align, is.data_align, base_is p, slots_are p, table_passes p is, inits_pass p, forms_pass p) refl
