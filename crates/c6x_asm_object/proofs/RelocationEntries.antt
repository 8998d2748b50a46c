-- The entries of a relocation table break no rule.
use Rattle.std.proofs.Common.{◌≡◌, ℕ, ◌+◌, ◌*◌, ◌/◌, ◌^◌, ◌<◌, ◌≤◌, Bool, true, false, cond, not, List, [], ◌∷◌, ◌++◌, None, Option, Some, length, take, get_or, nat_lt, refl, sym, ap, ◌∙◌, IfSome, subst, zero-add, arith}
use Rattle.std.specs.Prelude.{count_by}
use Rattle.std.specs.Int.{cast_signed, cast_unsigned, w32}
use Rattle.std.specs.List.{range_with_len}
use Rattle.std.proofs.lemmas.Bool.Decides.{nat_tests}
use Rattle.std.proofs.lemmas.List.FromFn.{get_or-map-range_with_len, length-map-range_with_len}
use Rattle.std.proofs.lemmas.List.{get_or_past}
use Rattle.c6x_spec.specs.Numbers.{word_at}
use Rattle.c6x_elf.specs.Rules.{first_along}
use Rattle.c6x_elf.specs.ElfRules.{Index}
use Rattle.c6x_elf.specs.Types.{SectionHead}
use Rattle.c6x_elf.specs.Attributes.{rela_info}
use Rattle.c6x_elf.specs.EntryRows.{rela_row}
use Rattle.c6x_elf.specs.Held.{Holds}
use Rattle.c6x_elf.specs.Rows.{word_bytes, word_row}
use Rattle.c6x_elf.proofs.EntryRows.{length-rela_row}
use Rattle.c6x_elf.proofs.Holdings.{holds_all, holds_left, holds_right}
use Rattle.c6x_elf.proofs.Passing.{must_is}
use Rattle.c6x_elf.specs.Entries.{rela_refusal, relas_refusal, symbols_in}
use Rattle.c6x_elf.specs.declared.section.Section.{Section}
use Rattle.c6x_elf.proofs.Moves.{both_none}
use Rattle.c6x_asm_object.specs.declared.reloc_entry.RelocEntry.{RelocEntry}
use Rattle.c6x_asm_object.specs.declared.symbol.Symbol.{Symbol}
use Rattle.c6x_reloc.specs.Table.{row_of}
use Rattle.c6x_reloc.proofs.KindNumbers.{number_small}
use Rattle.c6x_asm_object.specs.Bindings.{is_local, is_other}
use Rattle.c6x_asm_object.specs.Relocations.{number_at, relocation, relocation_rows}
use Rattle.c6x_asm_object.specs.Sound.{IsEntrySound}
use Rattle.c6x_asm_object.specs.FormSymbols.{symbol_number, symbol_numbers}
use Rattle.c6x_asm_object.specs.Symbols.{no_symbol, symbol_of}
use Rattle.c6x_asm_object.proofs.Lengths.{length-relocation_rows, locals_before, others_before}
use Rattle.c6x_asm_object.proofs.Lists.{Each}
use Rattle.c6x_asm_object.proofs.ReadBack.{word_read}

-- the number of a symbol is one of the table's
local_number : (t : Bool) (n before all others total : ℕ) → (t ≡ true → before < total) → (t ≡ false → all + others < total) → cond t (1 + n + before) (1 + n + all + others) < 1 + n + total
local_number true n before all others total local other =
    let below : before < total = local refl in
    omega arith
local_number false n before all others total local other =
    let below : all + others < total = other refl in
    omega arith

symbol_below : (sections : ℕ) (symbols : List Symbol) (i : ℕ) → i < length symbols → symbol_number sections symbols i < 1 + sections + length symbols
unfolding symbol_number
symbol_below sections symbols i below =
    local_number (is_local (symbol_of symbols i)) sections (count_by is_local (take i symbols)) (count_by is_local symbols)
    (count_by is_other (take i symbols)) (length symbols)
    (λ is. locals_before symbols i below)
    (λ is. others_before symbols i no_symbol below (ap not is))

option_below : (sections : ℕ) (symbols : List Symbol) (o : Option ℕ) → IfSome o (λ i. i < length symbols) → number_at (symbol_numbers sections symbols) o < 1 + sections + length symbols
unfolding symbol_numbers
option_below sections symbols None there = omega arith
option_below sections symbols (Some i) there =
    let below : i < length symbols = there in
    let is = get_or-map-range_with_len (symbol_number sections symbols) 0 (length symbols) i i 0 below (zero-add i) in
    omega (arith, is, symbol_below sections symbols i below)

-- any number of the table's
pub numbers_below : (sections : ℕ) (symbols : List Symbol) (k : ℕ) → get_or (symbol_numbers sections symbols) k 0 < 1 + sections + length symbols
unfolding symbol_numbers
numbers_below sections symbols k = by (nat_lt k (length symbols)) refl
  where
    by : (t : Bool) → nat_lt k (length symbols) ≡ t → get_or (symbol_numbers sections symbols) k 0 < 1 + sections + length symbols
    by true is =
        let below : k < length symbols = grind (arith, nat_tests) in
        option_below sections symbols (Some k) below
    by false is =
        let past : length symbols ≤ k = grind (arith, nat_tests) in
        omega (arith, get_or_past (symbol_numbers sections symbols) k 0 (omega (arith, length-map-range_with_len (symbol_number sections symbols) 0 (length symbols))))

pub entry_below : (sections : ℕ) (symbols : List Symbol) (e : RelocEntry) → IsEntrySound (length symbols) e → number_at (symbol_numbers sections symbols) e.symbol < 1 + sections + length symbols
entry_below sections symbols e sound = option_below sections symbols e.symbol sound.there

-- the number above the kind
info_fits : (symbol kind : ℕ) → symbol < 2 ^ 24 → kind < 256 → rela_info symbol kind < 2 ^ 32
info_fits symbol kind few below = omega arith

info_symbol : (symbol kind : ℕ) → kind < 256 → rela_info symbol kind / 256 ≡ symbol
info_symbol symbol kind below = omega arith

info_read : (table : List ℕ) (at : ℕ) (numbers : List ℕ) (e : RelocEntry) → number_at numbers e.symbol < 2 ^ 24 → Holds table at (rela_row false (relocation numbers e)) → word_at false table (at + 4) ≡ rela_info (number_at numbers e.symbol) (row_of e.kind).number
unfolding relocation rela_row word_bytes
info_read table at numbers e few h =
    let info = rela_info (number_at numbers e.symbol) (row_of e.kind).number in
    let last = word_row false (cast_unsigned w32 (cast_signed w32 e.addend) ∷ []) in
    word_read table (at + 4) info (info_fits (number_at numbers e.symbol) (row_of e.kind).number few (number_small e.kind))
    (holds_left table (at + 4) (word_bytes false info) last
    (holds_right table at (word_bytes false e.offset) (word_bytes false info ++ last) (at + 4) h refl))

less_passes : (word info number count : ℕ) → word ≡ info → info ≡ number → number < count → nat_lt word count ≡ true
less_passes word info number count is least below = grind (arith, nat_tests)

entry_passes : (all : List Section) (head : SectionHead) (table : List ℕ) (k : ℕ) (numbers : List ℕ) (e : RelocEntry) → Holds table (12 * k) (rela_row false (relocation numbers e)) → symbols_in all head.link ≤ 2 ^ 24 → number_at numbers e.symbol < symbols_in all head.link → rela_refusal false all head table k ≡ None
unfolding rela_refusal
entry_passes all head table k numbers e h few below =
    let number = number_at numbers e.symbol in
    let reads : word_at false table (12 * k + 4) ≡ rela_info number (row_of e.kind).number = info_read table (12 * k) numbers e (omega arith) h in
    let least : rela_info number (row_of e.kind).number / 256 ≡ number = info_symbol number (row_of e.kind).number (number_small e.kind) in
    let half : word_at false table (12 * k + 4) / 256 ≡ rela_info number (row_of e.kind).number / 256 = ap (λ n. n / 256) reads in
    must_is (nat_lt (word_at false table (12 * k + 4) / 256) (symbols_in all head.link)) Index (head.offset + 12 * k + 4)
    (less_passes (word_at false table (12 * k + 4) / 256) _ (number) (symbols_in all head.link) half least below)

entries_along : (all : List Section) (head : SectionHead) (table : List ℕ) (k : ℕ) (numbers : List ℕ) (entries : List RelocEntry) → symbols_in all head.link ≤ 2 ^ 24 → Each (λ (e : RelocEntry). number_at numbers e.symbol < symbols_in all head.link) entries → Holds table (12 * k) (relocation_rows numbers entries) → first_along (rela_refusal false all head table) (range_with_len k (length entries)) ≡ None
entries_along all head table k numbers [] few below h = refl
entries_along all head table k numbers (e ∷ entries) few below h =
    let row = rela_row false (relocation numbers e) in
    let rows = relocation_rows numbers entries in
    both_none (rela_refusal false all head table k) (first_along (rela_refusal false all head table) (range_with_len (k + 1) (length entries)))
    (entry_passes all head table k numbers e (holds_left table (12 * k) row rows h) few below.0)
    (entries_along all head table (k + 1) numbers entries few below.1
    (holds_right table (12 * k) row rows (12 * (k + 1)) h (omega (arith, length-rela_row false (relocation numbers e)))))

twelfth : (n : ℕ) → 12 * n / 12 ≡ n
twelfth n = omega arith

pub relocation_rows_pass : (all : List Section) (head : SectionHead) (numbers : List ℕ) (entries : List RelocEntry) → symbols_in all head.link ≤ 2 ^ 24 → Each (λ (e : RelocEntry). number_at numbers e.symbol < symbols_in all head.link) entries → relas_refusal false all head (relocation_rows numbers entries) ≡ None
unfolding relas_refusal
relocation_rows_pass all head numbers entries few below =
    let table = relocation_rows numbers entries in
    let count : length table / 12 ≡ length entries = ap (λ n. n / 12) (length-relocation_rows numbers entries) ∙ twelfth (length entries) in
    subst (λ (n : ℕ). first_along (rela_refusal false all head table) (range_with_len 0 n) ≡ None) (sym count)
    (entries_along all head table 0 numbers entries few below (holds_all table))
