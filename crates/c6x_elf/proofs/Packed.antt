-- Read form put together from what its sections, tables and entries say.
use Rattle.std.proofs.Common.{◌≡◌, ◌≢◌, ℕ, zero, suc, ◌+◌, ◌*◌, ◌/◌, ◌%◌, ◌<◌, ◌≤◌, ◌==◌, ◌⊎◌, inl, inr, Bool, true, false, cond, List, [], ◌∷◌, Option, None, is_some, length, map, nat_lt, refl, sym, ap, ◌∙◌, subst, zero-add, arith}
use Rattle.std.specs.Prelude.{All, IsSome}
use Rattle.std.specs.List.{range_with_len}
use Rattle.std.proofs.lemmas.Bool.Decides.{nat_tests}
use Rattle.std.proofs.lemmas.List.FromFn.{get_or-map-range_with_len, length-map-range_with_len}
use Rattle.c6x_spec.specs.Numbers.{half_at, word_at}
use Rattle.c6x_elf_headers.specs.Entries.{rela_at, rela_entries, symbol_at, symbol_entries}
use Rattle.c6x_elf_headers.specs.Names.{name_of}
use Rattle.c6x_elf_headers.specs.Rules.{Refusal, along_both, first_along, must}
use Rattle.c6x_elf_headers.specs.declared.elf_rule.ElfRule.TheVariants.{EntrySize, Index, NoNul}
use Rattle.c6x_elf_headers.proofs.Passing.{must_is}
use Rattle.c6x_elf.specs.Entries.{entries_refusal, is_section_number, name_end, name_refusal, named_refusal, own_name_refusal, rela_refusal, relas_refusal, symbol_refusal, symbols_in, symbols_refusal, text_of}
use Rattle.c6x_elf.specs.Form.{HasReadForm, IsSized, own_head}
use Rattle.c6x_elf.specs.Parts.{fields_refusal, has_entries, has_target, is_linked, is_relocation_table, is_symbol_table}
use Rattle.c6x_elf.specs.Tables.{IsRelaOf, IsSectionOf, IsSymbolOf, IsWellFormed}
use Rattle.c6x_elf.specs.Writing.{section_head_at}
use Rattle.c6x_elf.specs.declared.file.File.{File}
use Rattle.c6x_elf.specs.declared.section.Section.{Section}
use Rattle.c6x_elf.proofs.EntryWalks.{has_end_before, name_end-le}
use Rattle.c6x_elf.proofs.Moves.{both_none}
use Rattle.c6x_elf.proofs.Unpacked.{first_sort, own_length, second_sort, sorts_apart, table_bytes}

-- a name that is there
name_kept : (table : List ℕ) (name place : ℕ) → IsSome (name_of table name) → name_refusal table name place ≡ None
unfolding name_refusal
name_kept table name place is =
    let there : is_some (name_of table name) ≡ true = is in
    let ends : nat_lt name (name_end table) ≡ true = sym (has_end_before table name) ∙ there in
    let most = name_end-le table in
    both_none (must (nat_lt name (length table)) Index place) (must (is_some (name_of table name)) NoNul place)
    (must_is (nat_lt name (length table)) Index place (grind (arith, nat_tests)))
    (must_is (is_some (name_of table name)) NoNul place there)

number_kept : (count number : ℕ) → (65280 ≤ number) ⊎ (number < count) → is_section_number count number ≡ true
unfolding is_section_number
number_kept count number (inl high) = grind (arith, nat_tests)
number_kept count number (inr less) = grind (arith, nat_tests)

symbol_kept : (big : Bool) (all : List Section) (s : Section) (k : ℕ) → IsSymbolOf all s (symbol_at big s.bytes k) → symbol_refusal big all (own_head s) s.bytes k ≡ None
unfolding symbol_refusal section_head_at symbol_at
symbol_kept big all s k is =
    both_none (name_refusal (text_of all s.link) (word_at big s.bytes (16 * k)) (0 + 16 * k))
    (must (is_section_number (length all) (half_at big s.bytes (16 * k + 14))) Index (0 + 16 * k + 14))
    (name_kept (text_of all s.link) (word_at big s.bytes (16 * k)) (0 + 16 * k) is.named)
    (must_is (is_section_number (length all) (half_at big s.bytes (16 * k + 14))) Index (0 + 16 * k + 14)
    (number_kept (length all) (half_at big s.bytes (16 * k + 14)) is.placed))

less_test : (a b : ℕ) → a < b → nat_lt a b ≡ true
less_test a b less = grind (arith, nat_tests)

same_test : (a b : ℕ) → a ≡ b → (a == b) ≡ true
same_test a b is = grind (arith, nat_tests)

rela_kept : (big : Bool) (all : List Section) (s : Section) (k : ℕ) → IsRelaOf all s (rela_at big s.bytes k) → rela_refusal big all (own_head s) s.bytes k ≡ None
unfolding rela_refusal section_head_at rela_at
rela_kept big all s k is =
    must_is (nat_lt (word_at big s.bytes (12 * k + 4) / 256) (symbols_in all s.link)) Index (0 + 12 * k + 4)
    (less_test (word_at big s.bytes (12 * k + 4) / 256) (symbols_in all s.link) is.symbol)

-- rules along numbers
along_all : (test : ℕ → Option Refusal) (from n : ℕ) → ((k : ℕ) → k < n → test (from + k) ≡ None) → first_along test (range_with_len from n) ≡ None
along_all test from zero each = refl
along_all test from (suc n) each =
    let here : from + 0 ≡ from = omega arith in
    both_none (test from) (first_along test (range_with_len (from + 1) n)) (ap test (sym here) ∙ each 0 (omega arith))
    (along_all test (from + 1) n (λ k below.
    let place : from + 1 + k ≡ from + suc k = omega arith in
    ap test place ∙ each (suc k) (omega arith)))

each_made : {A : Type 0} (P : A → Type 0) (f : ℕ → A) (n k : ℕ) → All P (map f (range_with_len 0 n)) → k < n → P (f k)
each_made P f n k all below =
    subst P (get_or-map-range_with_len f 0 n k k (f k) below (zero-add k)) (all k (f k) (omega (arith, length-map-range_with_len f 0 n)))

symbols_kept : (big : Bool) (all : List Section) (s : Section) → All (IsSymbolOf all s) (symbol_entries big s.bytes) → symbols_refusal big all (own_head s) s.bytes ≡ None
unfolding symbols_refusal symbol_entries
symbols_kept big all s are =
    let test = symbol_refusal big all (own_head s) s.bytes in
    along_all test 0 (length s.bytes / 16) (λ k below.
    ap test (zero-add k) ∙ symbol_kept big all s k (each_made (IsSymbolOf all s) (symbol_at big s.bytes) (length s.bytes / 16) k are below))

relas_kept : (big : Bool) (all : List Section) (s : Section) → All (IsRelaOf all s) (rela_entries big s.bytes) → relas_refusal big all (own_head s) s.bytes ≡ None
unfolding relas_refusal rela_entries
relas_kept big all s are =
    let test = rela_refusal big all (own_head s) s.bytes in
    along_all test 0 (length s.bytes / 12) (λ k below.
    ap test (zero-add k) ∙ rela_kept big all s k (each_made (IsRelaOf all s) (rela_at big s.bytes) (length s.bytes / 12) k are below))

-- a section by its sort: the links, the sizes and the entries
record SortKept (big : Bool) (all : List Section) (s : Section) : Type 0 where
  linked : is_linked (length all) s.kind s.link ≡ true
  about : has_target (length all) s.kind s.info ≡ true
  sizes : has_entries s.kind s.size s.entsize ≡ true
  entries : entries_refusal big all (own_head s) s.bytes ≡ None

sort_kept : (big : Bool) (names : ℕ) (all : List Section) (s : Section) (symbols relas : Bool) → is_symbol_table s.kind ≡ symbols → is_relocation_table s.kind ≡ relas → IsSized s → IsSectionOf big names all s → SortKept big all s
unfolding is_linked has_target has_entries entries_refusal section_head_at
sort_kept big names all s true true is_symbols is_relas sized says = absurd (let other = sorts_apart s.kind is_relas in let P : Bool → Type 0 = λ t. cond t (Unit {0}) ⊥ in subst P (sym is_symbols ∙ other) tt)
sort_kept big names all s true false is_symbols is_relas sized says =
    let table = says.symbols is_symbols in
    let long : length s.bytes ≡ s.size = table_bytes s.kind s.size (length s.bytes) (first_sort (is_symbol_table s.kind) (is_relocation_table s.kind) is_symbols) (own_length s sized) in
    let less : nat_lt s.link (length all) ≡ true = less_test s.link (length all) table.linked in
    let size : (s.entsize == 16) ≡ true = same_test s.entsize 16 table.sized in
    let rest : (s.size % 16 == 0) ≡ true = same_test (s.size % 16) 0 (ap (λ n. n % 16) (sym long) ∙ table.whole) in
    let made = symbols_kept big all s table.symbols in
    record {
      linked = rw (is_symbols, less) refl;
      about = rw is_relas refl;
      sizes = rw (is_symbols, size, rest) refl;
      entries = rw is_symbols made;
    }
sort_kept big names all s false true is_symbols is_relas sized says =
    let table = says.relas is_relas in
    let long : length s.bytes ≡ s.size = table_bytes s.kind s.size (length s.bytes) (second_sort (is_symbol_table s.kind) (is_relocation_table s.kind) is_relas) (own_length s sized) in
    let less : nat_lt s.link (length all) ≡ true = less_test s.link (length all) table.linked in
    let info : nat_lt s.info (length all) ≡ true = less_test s.info (length all) table.about in
    let size : (s.entsize == 12) ≡ true = same_test s.entsize 12 table.sized in
    let rest : (s.size % 12 == 0) ≡ true = same_test (s.size % 12) 0 (ap (λ n. n % 12) (sym long) ∙ table.whole) in
    let made = relas_kept big all s table.relas in
    record {
      linked = rw (is_symbols, is_relas, less) refl;
      about = rw (is_relas, info) refl;
      sizes = rw (is_symbols, is_relas, size, rest) refl;
      entries = rw (is_symbols, is_relas) made;
    }
sort_kept big names all s false false is_symbols is_relas sized says = record {
  linked = rw (is_symbols, is_relas) refl;
  about = rw is_relas refl;
  sizes = rw (is_symbols, is_relas) refl;
  entries = rw (is_symbols, is_relas) refl;
}

fields_kept : (big : Bool) (all : List Section) (s : Section) → SortKept big all s → fields_refusal (length all) (own_head s) ≡ None
unfolding fields_refusal section_head_at
fields_kept big all s kept =
    both_none (must (is_linked (length all) s.kind s.link) Index (0 + 24)) _
    (must_is (is_linked (length all) s.kind s.link) Index (0 + 24) kept.linked)
    (both_none (must (has_target (length all) s.kind s.info) Index (0 + 28)) (must (has_entries s.kind s.size s.entsize) EntrySize (0 + 36))
    (must_is (has_target (length all) s.kind s.info) Index (0 + 28) kept.about)
    (must_is (has_entries s.kind s.size s.entsize) EntrySize (0 + 36) kept.sizes))

own_if : (t : Bool) (names : ℕ) (refusal : Option Refusal) → (names == 0) ≡ t → (names ≢ 0 → refusal ≡ None) → cond t None refusal ≡ None
own_if true names refusal is kept = refl
own_if false names refusal is kept = kept (grind (arith, nat_tests))

own_kept : (big : Bool) (names : ℕ) (all : List Section) (s : Section) → IsSectionOf big names all s → own_name_refusal names all (own_head s) ≡ None
unfolding own_name_refusal section_head_at
own_kept big names all s says =
    own_if (names == 0) names (name_refusal (text_of all names) s.name 0) refl (λ some. name_kept (text_of all names) s.name 0 (says.named some))

named_kept : (big : Bool) (names : ℕ) (all : List Section) (s : Section) → IsSectionOf big names all s → SortKept big all s → named_refusal big names all (own_head s) s ≡ None
unfolding named_refusal
named_kept big names all s says kept =
    both_none (own_name_refusal names all (own_head s)) (entries_refusal big all (own_head s) s.bytes) (own_kept big names all s says) kept.entries

-- all sections
record AreKept (big : Bool) (names : ℕ) (all ss : List Section) : Type 0 where
  fields : first_along (fields_refusal (length all)) (map own_head ss) ≡ None
  entries : along_both (named_refusal big names all) (map own_head ss) ss ≡ None

are_kept : (big : Bool) (names : ℕ) (all ss : List Section) → All IsSized ss → All (IsSectionOf big names all) ss → AreKept big names all ss
are_kept big names all [] sized says = record { fields = refl; entries = refl }
are_kept big names all (s ∷ ss) sized says =
    let own : IsSectionOf big names all s = says zero s (omega arith) in
    let here = sort_kept big names all s (is_symbol_table s.kind) (is_relocation_table s.kind) refl refl (sized zero s (omega arith)) own in
    let later = are_kept big names all ss (λ k d below. sized (suc k) d (omega arith)) (λ k d below. says (suc k) d (omega arith)) in
    record {
      fields = both_none (fields_refusal (length all) (own_head s)) (first_along (fields_refusal (length all)) (map own_head ss))
          (fields_kept big all s here) later.fields;
      entries = both_none (named_refusal big names all (own_head s) s) (along_both (named_refusal big names all) (map own_head ss) ss)
          (named_kept big names all s own here) later.entries;
    }

pub form_from : (big : Bool) (file : File) → IsWellFormed big file → HasReadForm big file
form_from big file has =
    let kept = are_kept big file.names file.sections file.sections has.sized has.each in
    record {
      segments = has.segments;
      sections = has.sections;
      held = has.held;
      sized = has.sized;
      kind = has.kind;
      names = has.names;
      fields = kept.fields;
      entries = kept.entries;
    }
