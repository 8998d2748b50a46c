use Rattle.std.proofs.Common.{◌≡◌, ℕ, ◌+◌, ◌<◌, ◌==◌, List, ◌∷◌, length, map, drop, get_or, ap}
use Rattle.std.proofs.lemmas.List.{drop_more}
use Rattle.std.specs.Prelude.{if◌then◌else◌}
use Rattle.c6x_spec.specs.Firsts.{◌<|>◌, first_along}
use Rattle.c6x_elf.specs.Abi.{DT_NEEDED}
use Rattle.c6x_elf.specs.Types.{Dyn, Rela, Symbol}
use Rattle.c6x_module.specs.Modules.{needed_of, symbol_of}
use Rattle.c6x_module.specs.Tables.{name_in, needed_length, needed_refusal, number_refusal, symbol_length, symbol_refusal, total}

-- walks along symbols, dynamic entries and relocation entries, one on
pub symbols_more : (strings : List ℕ) (ys : List Symbol) (i : ℕ) (d : Symbol) → i < length ys → first_along (symbol_refusal strings) (drop i ys) ≡ (symbol_refusal strings (get_or ys i d) <|> first_along (symbol_refusal strings) (drop (i + 1) ys))
symbols_more strings ys i d below = ap (first_along (symbol_refusal strings)) (drop_more ys i d below)

pub needed_more : (strings : List ℕ) (ds : List Dyn) (i : ℕ) (d : Dyn) → i < length ds → first_along (needed_refusal strings) (drop i ds) ≡ (needed_refusal strings (get_or ds i d) <|> first_along (needed_refusal strings) (drop (i + 1) ds))
needed_more strings ds i d below = ap (first_along (needed_refusal strings)) (drop_more ds i d below)

pub numbers_more : (tag count : ℕ) (rs : List Rela) (i : ℕ) (d : Rela) → i < length rs → first_along (number_refusal tag count) (drop i rs) ≡ (number_refusal tag count (get_or rs i d) <|> first_along (number_refusal tag count) (drop (i + 1) rs))
numbers_more tag count rs i d below = ap (first_along (number_refusal tag count)) (drop_more rs i d below)

pub symbol_total_more : (strings : List ℕ) (ys : List Symbol) (i : ℕ) (d : Symbol) → i < length ys → total (symbol_length strings) (drop i ys) ≡ length (name_in strings (get_or ys i d).name) + total (symbol_length strings) (drop (i + 1) ys)
symbol_total_more strings ys i d below = ap (total (symbol_length strings)) (drop_more ys i d below)

pub needed_total_more : (strings : List ℕ) (ds : List Dyn) (i : ℕ) (d : Dyn) → i < length ds → total (needed_length strings) (drop i ds) ≡ needed_length strings (get_or ds i d) + total (needed_length strings) (drop (i + 1) ds)
needed_total_more strings ds i d below = ap (total (needed_length strings)) (drop_more ds i d below)

pub copied_more : (strings : List ℕ) (ys : List Symbol) (i : ℕ) (d : Symbol) → i < length ys → map (symbol_of strings) (drop i ys) ≡ (symbol_of strings (get_or ys i d) ∷ map (symbol_of strings) (drop (i + 1) ys))
copied_more strings ys i d below = ap (map (symbol_of strings)) (drop_more ys i d below)

pub named_more : (strings : List ℕ) (ds : List Dyn) (i : ℕ) (d : Dyn) → i < length ds → needed_of strings (drop i ds) ≡ (if (get_or ds i d).tag == DT_NEEDED then name_in strings (get_or ds i d).value ∷ needed_of strings (drop (i + 1) ds) else needed_of strings (drop (i + 1) ds))
named_more strings ds i d below = ap (needed_of strings) (drop_more ds i d below)
