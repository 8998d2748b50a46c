-- Read form, taken apart section by section, and put together again.
use Rattle.std.proofs.Common.{◌≡◌, ◌≢◌, ℕ, zero, suc, ◌+◌, ◌*◌, ◌/◌, ◌%◌, ◌<◌, ◌≤◌, ◌==◌, ◌&&◌, ◌||◌, ◌⊎◌, inl, inr, not, Bool, true, false, cond, List, [], ◌∷◌, Option, None, is_some, length, map, nat_le, nat_lt, refl, sym, ap, ◌∙◌, subst, zero-add, arith}
use Rattle.std.specs.Prelude.{All, IsSome}
use Rattle.std.specs.List.{range_with_len}
use Rattle.std.proofs.lemmas.Bool.Decides.{nat_tests}
use Rattle.std.proofs.lemmas.List.FromFn.{get_or-map-range_with_len, length-map-range_with_len}
use Rattle.c6x_spec.specs.Numbers.{half_at, word_at}
use Rattle.c6x_elf_headers.specs.Entries.{rela_at, rela_entries, symbol_at, symbol_entries}
use Rattle.c6x_elf_headers.specs.Names.{name_of}
use Rattle.c6x_elf_headers.specs.Rules.{Refusal, along_both, first_along, must}
use Rattle.c6x_elf_headers.specs.declared.elf_rule.ElfRule.TheVariants.{EntrySize, Index, NoNul}
use Rattle.c6x_elf.specs.Entries.{entries_refusal, is_section_number, name_refusal, named_refusal, own_name_refusal, rela_refusal, relas_refusal, symbol_refusal, symbols_in, symbols_refusal, text_of}
use Rattle.c6x_elf.specs.Form.{HasReadForm, IsSized, own_head}
use Rattle.c6x_elf.specs.Parts.{fields_refusal, has_bytes, has_entries, has_target, is_linked, is_relocation_table, is_symbol_table, section_size}
use Rattle.c6x_elf.specs.Tables.{IsRelaOf, IsRelaTable, IsSectionOf, IsSymbolOf, IsSymbolTable, IsWellFormed}
use Rattle.c6x_elf.specs.Writing.{section_head_at}
use Rattle.c6x_elf.specs.declared.file.File.{File}
use Rattle.c6x_elf.specs.declared.section.Section.{Section}
use Rattle.c6x_elf.proofs.Placed.{must_holds, none_first, none_later}

-- a name that its rules let pass
named_by : (table : List ℕ) (name place : ℕ) → name_refusal table name place ≡ None → IsSome (name_of table name)
unfolding name_refusal
named_by table name place kept =
    must_holds (is_some (name_of table name)) NoNul place
    (none_later (must (nat_lt name (length table)) Index place) (must (is_some (name_of table name)) NoNul place) kept)

-- a symbol that its rules let pass
placed_by : (count number : ℕ) → is_section_number count number ≡ true → (65280 ≤ number) ⊎ (number < count)
unfolding is_section_number
placed_by count number is = either (nat_le 65280 number) refl
  where
    either : (t : Bool) → nat_le 65280 number ≡ t → (65280 ≤ number) ⊎ (number < count)
    either true high = inl (grind (arith, nat_tests))
    either false low = inr (let less : nat_lt number count ≡ true = rw low at is in grind (arith, nat_tests))

symbol_by : (big : Bool) (all : List Section) (s : Section) (k : ℕ) → symbol_refusal big all (own_head s) s.bytes k ≡ None → IsSymbolOf all s (symbol_at big s.bytes k)
unfolding symbol_refusal section_head_at symbol_at
symbol_by big all s k kept =
    let name = name_refusal (text_of all s.link) (word_at big s.bytes (16 * k)) (0 + 16 * k) in
    let place = must (is_section_number (length all) (half_at big s.bytes (16 * k + 14))) Index (0 + 16 * k + 14) in
    record {
      named = named_by (text_of all s.link) (word_at big s.bytes (16 * k)) (0 + 16 * k) (none_first name place kept);
      placed = placed_by (length all) (half_at big s.bytes (16 * k + 14))
          (must_holds (is_section_number (length all) (half_at big s.bytes (16 * k + 14))) Index (0 + 16 * k + 14) (none_later name place kept));
    }

rela_by : (big : Bool) (all : List Section) (s : Section) (k : ℕ) → rela_refusal big all (own_head s) s.bytes k ≡ None → IsRelaOf all s (rela_at big s.bytes k)
unfolding rela_refusal section_head_at rela_at
rela_by big all s k kept =
    let less = must_holds (nat_lt (word_at big s.bytes (12 * k + 4) / 256) (symbols_in all s.link)) Index (0 + 12 * k + 4) kept in
    record { symbol = grind (arith, nat_tests) }

-- rules along numbers, one by one
along_at : (test : ℕ → Option Refusal) (from n k : ℕ) → first_along test (range_with_len from n) ≡ None → k < n → test (from + k) ≡ None
along_at test from zero k kept below = absurd (omega arith)
along_at test from (suc n) zero kept below =
    let place : from + 0 ≡ from = omega arith in
    ap test place ∙ none_first (test from) (first_along test (range_with_len (from + 1) n)) kept
along_at test from (suc n) (suc k) kept below =
    let place : from + suc k ≡ from + 1 + k = omega arith in
    ap test place ∙ along_at test (from + 1) n k (none_later (test from) (first_along test (range_with_len (from + 1) n)) kept) (omega arith)

-- what holds of each entry of a list made by number
all_made : {A : Type 0} (P : A → Type 0) (f : ℕ → A) (n : ℕ) → ((k : ℕ) → k < n → P (f k)) → All P (map f (range_with_len 0 n))
all_made P f n each = λ k d below.
    let less : k < n = omega (arith, length-map-range_with_len f 0 n) in
    subst P (sym (get_or-map-range_with_len f 0 n k k d less (zero-add k))) (each k less)

symbols_by : (big : Bool) (all : List Section) (s : Section) → symbols_refusal big all (own_head s) s.bytes ≡ None → All (IsSymbolOf all s) (symbol_entries big s.bytes)
unfolding symbols_refusal symbol_entries
symbols_by big all s kept =
    let test = symbol_refusal big all (own_head s) s.bytes in
    all_made (IsSymbolOf all s) (symbol_at big s.bytes) (length s.bytes / 16) (λ k below.
    symbol_by big all s k (ap test (sym (zero-add k)) ∙ along_at test 0 (length s.bytes / 16) k kept below))

relas_by : (big : Bool) (all : List Section) (s : Section) → relas_refusal big all (own_head s) s.bytes ≡ None → All (IsRelaOf all s) (rela_entries big s.bytes)
unfolding relas_refusal rela_entries
relas_by big all s kept =
    let test = rela_refusal big all (own_head s) s.bytes in
    all_made (IsRelaOf all s) (rela_at big s.bytes) (length s.bytes / 12) (λ k below.
    rela_by big all s k (ap test (sym (zero-add k)) ∙ along_at test 0 (length s.bytes / 12) k kept below))

-- a table has all its bytes in the file, and is no table of the other sort
pub table_bytes : (kind size len : ℕ) → (is_symbol_table kind || is_relocation_table kind) ≡ true → len ≡ cond (has_bytes kind) size 0 → len ≡ size
unfolding is_symbol_table is_relocation_table has_bytes
table_bytes kind size len is sized = grind (arith, nat_tests)

pub sorts_apart : (kind : ℕ) → is_relocation_table kind ≡ true → is_symbol_table kind ≡ false
unfolding is_symbol_table is_relocation_table
sorts_apart kind is = grind (arith, nat_tests)

pub own_length : (s : Section) → IsSized s → length s.bytes ≡ cond (has_bytes s.kind) s.size 0
unfolding section_size section_head_at
own_length s is = is.size

-- the fields of a table
record FieldsSay (count : ℕ) (s : Section) : Type 0 where
  linked : is_linked count s.kind s.link ≡ true
  about : has_target count s.kind s.info ≡ true
  entries : has_entries s.kind s.size s.entsize ≡ true

fields_by : (count : ℕ) (s : Section) → fields_refusal count (own_head s) ≡ None → FieldsSay count s
unfolding fields_refusal section_head_at
fields_by count s kept =
    let linked = must (is_linked count s.kind s.link) Index (0 + 24) in
    let about = must (has_target count s.kind s.info) Index (0 + 28) in
    let entries = must (has_entries s.kind s.size s.entsize) EntrySize (0 + 36) in
    let later = none_later linked _ kept in
    record {
      linked = must_holds (is_linked count s.kind s.link) Index (0 + 24) (none_first linked _ kept);
      about = must_holds (has_target count s.kind s.info) Index (0 + 28) (none_first about entries later);
      entries = must_holds (has_entries s.kind s.size s.entsize) EntrySize (0 + 36) (none_later about entries later);
    }

-- tests with the sort of the section known
linked_by : (symbols relas less : Bool) → (not (symbols || relas) || less) ≡ true → (symbols || relas) ≡ true → less ≡ true
linked_by true relas less is sort = is
linked_by false true less is sort = is
linked_by false false less is sort = cc

about_by : (relas less : Bool) → (not relas || less) ≡ true → relas ≡ true → less ≡ true
about_by true less is sort = is
about_by false less is sort = cc

both_true : (a b : Bool) → (a && b) ≡ true → (a ≡ true) × (b ≡ true)
both_true true b is = (refl, is)
both_true false b is = cc

symbol_sizes : (symbols relas a b : Bool) (other : Bool) → cond symbols (a && b) (not relas || other) ≡ true → symbols ≡ true → (a && b) ≡ true
symbol_sizes true relas a b other is sort = is
symbol_sizes false relas a b other is sort = cc

rela_sizes : (symbols relas a b other : Bool) → cond symbols other (not relas || (a && b)) ≡ true → symbols ≡ false → relas ≡ true → (a && b) ≡ true
rela_sizes true relas a b other is none sort = cc
rela_sizes false true a b other is none sort = is
rela_sizes false false a b other is none sort = cc

pub first_sort : (a b : Bool) → a ≡ true → (a || b) ≡ true
first_sort a b is = rw is refl

pub second_sort : (a b : Bool) → b ≡ true → (a || b) ≡ true
second_sort true b is = refl
second_sort false b is = is

less_by : (a b : ℕ) → nat_lt a b ≡ true → a < b
less_by a b is = grind (arith, nat_tests)

same_by : (a b : ℕ) → (a == b) ≡ true → a ≡ b
same_by a b is = grind (arith, nat_tests)

symbol_table_by : (big : Bool) (all : List Section) (s : Section) → IsSized s → FieldsSay (length all) s → entries_refusal big all (own_head s) s.bytes ≡ None → is_symbol_table s.kind ≡ true → IsSymbolTable big all s
unfolding is_linked has_entries entries_refusal section_head_at
symbol_table_by big all s sized fields kept sort =
    let any = first_sort (is_symbol_table s.kind) (is_relocation_table s.kind) sort in
    let long : length s.bytes ≡ s.size = table_bytes s.kind s.size (length s.bytes) any (own_length s sized) in
    let sizes = both_true (s.entsize == 16) (s.size % 16 == 0)
    (symbol_sizes (is_symbol_table s.kind) (is_relocation_table s.kind) (s.entsize == 16) (s.size % 16 == 0) (s.entsize == 12 && s.size % 12 == 0) fields.entries sort) in
    record {
      linked = less_by s.link (length all) (linked_by (is_symbol_table s.kind) (is_relocation_table s.kind) (nat_lt s.link (length all)) fields.linked any);
      sized = same_by s.entsize 16 sizes.0;
      whole = ap (λ n. n % 16) long ∙ same_by (s.size % 16) 0 sizes.1;
      symbols = symbols_by big all s (rw sort at kept);
    }

rela_table_by : (big : Bool) (all : List Section) (s : Section) → IsSized s → FieldsSay (length all) s → entries_refusal big all (own_head s) s.bytes ≡ None → is_relocation_table s.kind ≡ true → IsRelaTable big all s
unfolding is_linked has_target has_entries entries_refusal section_head_at
rela_table_by big all s sized fields kept sort =
    let any = second_sort (is_symbol_table s.kind) (is_relocation_table s.kind) sort in
    let other = sorts_apart s.kind sort in
    let long : length s.bytes ≡ s.size = table_bytes s.kind s.size (length s.bytes) any (own_length s sized) in
    let sizes = both_true (s.entsize == 12) (s.size % 12 == 0)
    (rela_sizes (is_symbol_table s.kind) (is_relocation_table s.kind) (s.entsize == 12) (s.size % 12 == 0) (s.entsize == 16 && s.size % 16 == 0) fields.entries other sort) in
    record {
      linked = less_by s.link (length all) (linked_by (is_symbol_table s.kind) (is_relocation_table s.kind) (nat_lt s.link (length all)) fields.linked any);
      about = less_by s.info (length all) (about_by (is_relocation_table s.kind) (nat_lt s.info (length all)) fields.about sort);
      sized = same_by s.entsize 12 sizes.0;
      whole = ap (λ n. n % 12) long ∙ same_by (s.size % 12) 0 sizes.1;
      relas = relas_by big all s (rw (other, sort) at kept);
    }

-- a section's own name
own_by : (t : Bool) (names : ℕ) (refusal : Option Refusal) → (names == 0) ≡ t → cond t None refusal ≡ None → names ≢ 0 → refusal ≡ None
own_by true names refusal is kept some = absurd (some (same_by names 0 is))
own_by false names refusal is kept some = kept

own_name_by : (names : ℕ) (all : List Section) (s : Section) → own_name_refusal names all (own_head s) ≡ None → names ≢ 0 → IsSome (name_of (text_of all names) s.name)
unfolding own_name_refusal section_head_at
own_name_by names all s kept some =
    named_by (text_of all names) s.name 0 (own_by (names == 0) names (name_refusal (text_of all names) s.name 0) refl kept some)

section_by : (big : Bool) (names : ℕ) (all : List Section) (s : Section) → IsSized s → fields_refusal (length all) (own_head s) ≡ None → named_refusal big names all (own_head s) s ≡ None → IsSectionOf big names all s
unfolding named_refusal
section_by big names all s sized fields kept =
    let own = own_name_refusal names all (own_head s) in
    let entries = entries_refusal big all (own_head s) s.bytes in
    let say = fields_by (length all) s fields in
    record {
      named = λ some. own_name_by names all s (none_first own entries kept) some;
      symbols = λ sort. symbol_table_by big all s sized say (none_later own entries kept) sort;
      relas = λ sort. rela_table_by big all s sized say (none_later own entries kept) sort;
    }

sections_by : (big : Bool) (names : ℕ) (all ss : List Section) → All IsSized ss → first_along (fields_refusal (length all)) (map own_head ss) ≡ None → along_both (named_refusal big names all) (map own_head ss) ss ≡ None → All (IsSectionOf big names all) ss
sections_by big names all [] sized fields kept k d below = absurd (omega arith)
sections_by big names all (s ∷ ss) sized fields kept zero d below =
    section_by big names all s (sized zero s (omega arith))
    (none_first (fields_refusal (length all) (own_head s)) (first_along (fields_refusal (length all)) (map own_head ss)) fields)
    (none_first (named_refusal big names all (own_head s) s) (along_both (named_refusal big names all) (map own_head ss) ss) kept)
sections_by big names all (s ∷ ss) sized fields kept (suc k) d below =
    sections_by big names all ss (λ j e inside. sized (suc j) e (omega arith))
    (none_later (fields_refusal (length all) (own_head s)) (first_along (fields_refusal (length all)) (map own_head ss)) fields)
    (none_later (named_refusal big names all (own_head s) s) (along_both (named_refusal big names all) (map own_head ss) ss) kept)
    k d (omega arith)

pub form_says : (big : Bool) (file : File) → HasReadForm big file → IsWellFormed big file
form_says big file form = record {
  kind = form.kind;
  segments = form.segments;
  sections = form.sections;
  names = form.names;
  held = form.held;
  sized = form.sized;
  each = sections_by big file.names file.sections file.sections form.sized form.fields form.entries;
}
