-- Exports and imports, counted.
use Rattle.std.proofs.Common.{◌≡◌, ℕ, ◌+◌, ◌<◌, ◌≤◌, Bool, true, false, List, [], ◌∷◌, length, take, get_or, if◌then◌else◌, refl, ◌∙◌, arith}
use Rattle.std.specs.Prelude.{count_by}
use Rattle.std.proofs.lemmas.List.{length-take-le}
use Rattle.std.proofs.lemmas.List.Sums.{count_by-le-length, count_by_more_no, count_by_more_yes}
use Rattle.c6x_symbols.specs.Bindings.{BoundName, bound_at, exports_of, is_exported, is_imported, no_name, numbers_where}
use Rattle.c6x_link.specs.Targets.{import_symbol}

few_more : (t : Bool) (n : ℕ) (xs : List ℕ) (m : ℕ) → length xs ≤ m → length (if t then n ∷ xs else xs) ≤ m + 1
few_more true n xs m few = omega arith
few_more false n xs m few = omega arith

numbers_few : (test : BoundName → Bool) (n : ℕ) (bs : List BoundName) → length (numbers_where test n bs) ≤ length bs
numbers_few test n [] = omega arith
numbers_few test n (b ∷ bs) =
    let more = few_more (test b) n (numbers_where test (n + 1) bs) (length bs) (numbers_few test (n + 1) bs) in
    omega (arith, more)

pub exports_few : (bs : List BoundName) → length (exports_of bs) ≤ length bs
unfolding exports_of
exports_few bs = numbers_few is_exported 0 bs

counted : (bs : List BoundName) (i : ℕ) (t : Bool) → i < length bs → is_imported (get_or bs i no_name) ≡ t → count_by is_imported (take (i + 1) bs) ≡ count_by is_imported (take i bs) + (if t then 1 else 0)
counted bs i true below is = count_by_more_yes is_imported bs i no_name below is
counted bs i false below is = count_by_more_no is_imported bs i no_name below is ∙ omega arith

-- the number of the first import, and of the import behind one name more
pub first_symbol : (bs : List BoundName) → 3 + length (exports_of bs) ≡ import_symbol bs 0
unfolding import_symbol
first_symbol bs = omega arith

pub next_symbol : (bs : List BoundName) (i : ℕ) → i < length bs → import_symbol bs i + (if is_imported (bound_at bs i) then 1 else 0) ≡ import_symbol bs (i + 1)
unfolding import_symbol
next_symbol bs i below =
    let more = counted bs i (is_imported (get_or bs i no_name)) below refl in
    omega (arith, more)

pub symbol_small : (bs : List BoundName) (i : ℕ) → i ≤ length bs → import_symbol bs i ≤ 3 + length bs + i
unfolding import_symbol
symbol_small bs i within =
    let few = exports_few bs in
    let less = count_by-le-length is_imported (take i bs) in
    let len = length-take-le i bs within in
    omega (arith, few, less, len)
