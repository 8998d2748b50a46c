-- The numbers of symbols, one symbol at a time.
use Rattle.std.proofs.Common.{◌≡◌, ℕ, ◌+◌, ◌<◌, true, false, List, [], ◌∷◌, ◌++◌, length, take, get_or, map, count_by, sym, subst, refl, arith}
use Rattle.std.specs.List.{range_with_len}
use Rattle.std.proofs.lemmas.List.{get_or_default}
use Rattle.std.proofs.lemmas.List.FromFn.{map-range_with_len_more}
use Rattle.std.proofs.lemmas.List.Sums.{count_by_more_yes, count_by_more_no}
use Rattle.c6x_asm_object.specs.declared.symbol.Symbol.{Symbol}
use Rattle.c6x_asm_object.specs.Bindings.{is_local, is_other}
use Rattle.c6x_asm_object.specs.FormSymbols.{symbol_number, symbol_numbers}
use Rattle.c6x_asm_object.proofs.RelocationEntries.{numbers_below}
use Rattle.c6x_asm_object.specs.Symbols.{no_symbol}

pub number_local : (sections : ℕ) (symbols : List Symbol) (i : ℕ) (d : Symbol) → i < length symbols → is_local (get_or symbols i d) ≡ true → symbol_number sections symbols i ≡ 1 + sections + count_by is_local (take i symbols)
unfolding symbol_number
number_local sections symbols i d inside is = rw (get_or_default symbols i no_symbol d inside, is) refl

pub number_other : (sections : ℕ) (symbols : List Symbol) (i : ℕ) (d : Symbol) → i < length symbols → is_local (get_or symbols i d) ≡ false → symbol_number sections symbols i ≡ 1 + sections + count_by is_local symbols + count_by is_other (take i symbols)
unfolding symbol_number
number_other sections symbols i d inside is = rw (get_or_default symbols i no_symbol d inside, is) refl

-- one more number
pub numbers_more : (sections : ℕ) (symbols : List Symbol) (i : ℕ) → map (symbol_number sections symbols) (range_with_len 0 (i + 1)) ≡ map (symbol_number sections symbols) (range_with_len 0 i) ++ symbol_number sections symbols i ∷ []
numbers_more sections symbols i = map-range_with_len_more (symbol_number sections symbols) 0 i i (omega arith)

pub local_yes : (symbols : List Symbol) (i : ℕ) (d : Symbol) → i < length symbols → is_local (get_or symbols i d) ≡ true → count_by is_local (take (i + 1) symbols) ≡ count_by is_local (take i symbols) + 1
local_yes symbols i d inside is = count_by_more_yes is_local symbols i d inside is

pub local_no : (symbols : List Symbol) (i : ℕ) (d : Symbol) → i < length symbols → is_local (get_or symbols i d) ≡ false → count_by is_local (take (i + 1) symbols) ≡ count_by is_local (take i symbols)
local_no symbols i d inside is = count_by_more_no is_local symbols i d inside is

pub other_yes : (symbols : List Symbol) (i : ℕ) (d : Symbol) → i < length symbols → is_local (get_or symbols i d) ≡ false → count_by is_other (take (i + 1) symbols) ≡ count_by is_other (take i symbols) + 1
other_yes symbols i d inside is = count_by_more_yes is_other symbols i d inside (rw is refl)

pub other_no : (symbols : List Symbol) (i : ℕ) (d : Symbol) → i < length symbols → is_local (get_or symbols i d) ≡ true → count_by is_other (take (i + 1) symbols) ≡ count_by is_other (take i symbols)
other_no symbols i d inside is = count_by_more_no is_other symbols i d inside (rw is refl)

-- all numbers are below the number of the table's symbols
pub numbers_small : (sections : ℕ) (symbols : List Symbol) (numbers : List ℕ) (i : ℕ) → i ≡ length symbols → numbers ≡ map (symbol_number sections symbols) (range_with_len 0 i) → (k : ℕ) → get_or numbers k 0 < 1 + sections + length symbols
unfolding symbol_numbers
numbers_small sections symbols numbers i all is k =
    let whole : numbers ≡ map (symbol_number sections symbols) (range_with_len 0 (length symbols)) =
    subst (λ n. numbers ≡ map (symbol_number sections symbols) (range_with_len 0 n)) all is in
    subst (λ ns. get_or ns k 0 < 1 + sections + length symbols) (sym whole) (numbers_below sections symbols k)
