use Rattle.std.proofs.Common.{◌≡◌, ℕ, suc, ◌+◌, ◌%◌, ◌<◌, ◌==◌, ◌&&◌, Bool, true, false, List, [], ◌∷◌, ◌++◌, length, drop, take, get_or, replicate, refl, sym, ap, ◌∙◌, append_assoc, append-nil, length-append, arith}
use Rattle.std.specs.Prelude.{Option, Some, slice_get, slice_index_or, if◌then◌else◌}
use Rattle.std.specs.Str.{bytes_eq}
use Rattle.std.proofs.lemmas.Bool.Decides.{nat_tests}
use Rattle.std.proofs.lemmas.Slice.Eq.{bytes_eq-Decides}
use Rattle.std.proofs.lemmas.List.{drop_more, take_more, get_or-replicate, length-take-le}
use Rattle.c6x_elf.specs.Names.{hash_of}
use Rattle.c6x_module.specs.Lookups.{export_from, is_export}
use Rattle.c6x_module.specs.declared.symbol.DynSymbol.{DynSymbol}
use Rattle.c6x_modules.specs.Indexed.{IsIndex, first_named, is_in, is_named, numbers_in}

-- the look-up along a bucket, one on
pub named_more : (ys : List DynSymbol) (name ns : List ℕ) (i d : ℕ) → i < length ns → first_named ys name (drop i ns) ≡ (if is_named name (slice_get ys (get_or ns i d)) then Some (get_or ns i d) else first_named ys name (drop (i + 1) ns))
named_more ys name ns i d below = ap (first_named ys name) (drop_more ns i d below)

-- a bucket with one symbol more
one_in : (from : ℕ) (t : Bool) → (if t then from ∷ [] else []) ≡ [] ++ (if t then (from + 0) ∷ [] else [])
one_in from true = ap (λ n. n ∷ []) (omega arith)
one_in from false = refl

more_in : (from k : ℕ) (front rest : List ℕ) (t s : Bool) → rest ≡ front ++ (if s then (from + 1 + k) ∷ [] else []) → (if t then from ∷ rest else rest) ≡ (if t then from ∷ front else front) ++ (if s then (from + suc k) ∷ [] else [])
more_in from k front rest true s e = ap (λ (xs : List ℕ). from ∷ xs) (e ∙ ap (λ n. front ++ (if s then n ∷ [] else [])) (omega arith))
more_in from k front rest false s e = e ∙ ap (λ n. front ++ (if s then n ∷ [] else [])) (omega arith)

pub numbers_push : (count bucket from : ℕ) (xs : List DynSymbol) (y : DynSymbol) → numbers_in count bucket from (xs ++ y ∷ []) ≡ numbers_in count bucket from xs ++ (if is_in count bucket y then (from + length xs) ∷ [] else [])
numbers_push count bucket from [] y = one_in from (is_in count bucket y)
numbers_push count bucket from (x ∷ xs) y =
    more_in from (length xs) (numbers_in count bucket (from + 1) xs) (numbers_in count bucket (from + 1) (xs ++ y ∷ [])) (is_in count bucket x) (is_in count bucket y) (numbers_push count bucket (from + 1) xs y)

put_case : (old new front : List ℕ) (i n : ℕ) (t : Bool) → old ≡ front → n ≡ i → new ≡ (if t then old ++ i ∷ [] else old) → new ≡ front ++ (if t then n ∷ [] else [])
put_case old new front i n true same number put = put ∙ rw (same, number) refl
put_case old new front i n false same number put = put ∙ same ∙ sym (append-nil front)

pub row_more : (count bucket : ℕ) (ys : List DynSymbol) (i : ℕ) (y : DynSymbol) (old new : List ℕ) → i < length ys → y ≡ get_or ys i y → old ≡ numbers_in count bucket 0 (take i ys) → new ≡ (if is_in count bucket y then old ++ i ∷ [] else old) → new ≡ numbers_in count bucket 0 (take (i + 1) ys)
row_more count bucket ys i y old new below is before put =
    let long : length (take i ys) ≡ i = length-take-le i ys (omega arith) in
    put_case old new (numbers_in count bucket 0 (take i ys)) i (0 + length (take i ys)) (is_in count bucket y) before (omega arith) put
    ∙ sym (numbers_push count bucket 0 (take i ys) y)
    ∙ ap (λ (x : DynSymbol). numbers_in count bucket 0 (take i ys ++ x ∷ [])) is
    ∙ sym (ap (numbers_in count bucket 0) (take_more ys i y below))

-- one name falls into one bucket
same_bucket : (y : DynSymbol) (name : List ℕ) (count : ℕ) → bytes_eq y.name name ≡ true → (hash_of 0 y.name % count == hash_of 0 name % count) ≡ true
same_bucket y name count e =
    let same : y.name ≡ name = (bytes_eq-Decides y.name name).0 e in
    let hashes : hash_of 0 y.name % count ≡ hash_of 0 name % count = ap (λ (n : List ℕ). hash_of 0 n % count) same in
    grind (arith, nat_tests)

-- the first of a bucket that has the name is the first export that has it
step : (all : List DynSymbol) (name ns : List ℕ) (n : ℕ) (later : Option ℕ) (e i s : Bool) → is_named name (slice_get all n) ≡ s → first_named all name ns ≡ later → (s ≡ true → i ≡ true) → first_named all name (if e && i then n ∷ ns else ns) ≡ (if e && s then Some n else later)
step all name ns n later false i s named rest only = rest
step all name ns n later true true s named rest only = rw (named, rest) refl
step all name ns n later true false true named rest only = absurd (let no = only refl in cc)
step all name ns n later true false false named rest only = rest

got : (xs ys : List DynSymbol) (y : DynSymbol) → slice_get (xs ++ y ∷ ys) (length xs) ≡ Some y
got [] ys y = refl
got (x ∷ xs) ys y = got xs ys y

look : (xs ys : List DynSymbol) (name : List ℕ) (count : ℕ) → first_named (xs ++ ys) name (numbers_in count (hash_of 0 name % count) (length xs) ys) ≡ export_from name (length xs) ys
unfolding is_in
look xs [] name count = refl
look xs (y ∷ ys) name count =
    let more : length (xs ++ y ∷ []) ≡ length xs + 1 = length-append xs (y ∷ []) in
    let all : (xs ++ y ∷ []) ++ ys ≡ xs ++ (y ∷ ys) = append_assoc xs (y ∷ []) ys in
    let rest : first_named (xs ++ (y ∷ ys)) name (numbers_in count (hash_of 0 name % count) (length xs + 1) ys) ≡ export_from name (length xs + 1) ys =
    rw (all, more) at (look (xs ++ y ∷ []) ys name count) in
    step (xs ++ (y ∷ ys)) name (numbers_in count (hash_of 0 name % count) (length xs + 1) ys) (length xs) (export_from name (length xs + 1) ys)
    (is_export y) (hash_of 0 y.name % count == hash_of 0 name % count) (bytes_eq y.name name)
    (ap (is_named name) (got xs ys y)) rest (same_bucket y name count)

pub first_is_export : (buckets : List (List ℕ)) (ys : List DynSymbol) (name : List ℕ) (d : List ℕ) → IsIndex buckets ys → first_named ys name (slice_index_or buckets (hash_of 0 name % length buckets) d) ≡ export_from name 0 ys
first_is_export buckets ys name d index =
    let some = index.some in
    ap (first_named ys name) (index.rows (hash_of 0 name % length buckets) d (omega arith)) ∙ look [] ys name (length buckets)

-- the empty buckets are those of no symbols
pub rows_none : (buckets : List (List ℕ)) (n b : ℕ) (d : List ℕ) → buckets ≡ replicate n [] → b < n → slice_index_or buckets b d ≡ []
rows_none buckets n b d empty below = ap (λ (xs : List (List ℕ)). slice_index_or xs b d) empty ∙ get_or-replicate n b [] d below
