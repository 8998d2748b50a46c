-- The table of the last names, as one name is put in front of them.
use Rattle.std.proofs.Common.{◌≡◌, ℕ, zero, suc, nat_eq, ◌+◌, ◌-◌, ◌%◌, ◌<◌, ◌≤◌, ◌≢◌, Bool, true, false, List, [], ◌∷◌, ◌++◌, length, get_or, set, drop, drop-cons, map, replicate, if◌then◌else◌, refl, sym, ap, ◌∙◌, lit<, subst, append_assoc, arith}
use Rattle.std.proofs.lemmas.Bool.{eqb-true, eq-eqb}
use Rattle.std.proofs.lemmas.List.{drop_all, get_or-set_same, get_or-set_other, length-replicate, length-set, length-map, get_or-map, get_or_default}
use Rattle.std.proofs.lemmas.Grind.{same_number_lists}
use Rattle.std.proofs.lemmas.List.FromFn.{fill_by_all}
use Rattle.c6x_elf.specs.Names.{hash_of}
use Rattle.c6x_elf.specs.Rows.{word_bytes, word_row}
use Rattle.c6x_layout.specs.Hash.{first_in, chains_from, buckets_of, chains_of}
use Rattle.c6x_layout.specs.Tables.{shared_name, shared_names}
use Rattle.c6x_layout.specs.declared.shared.Shared.{Shared}

-- The tables hold the names from number k on.
pub record Holds (count k : ℕ) (names : List (List ℕ)) (buckets chains : List ℕ) : Type 0 where
  pub size : length buckets ≡ count
  pub chain_size : length chains ≡ count
  pub firsts : (b : ℕ) → b < count → get_or buckets b 0 ≡ first_in count b k names
  pub nexts : (j : ℕ) → j < length names → get_or chains (k + j) 0 ≡ get_or (chains_from count k names) j 0
  pub zeros : (j : ℕ) → j < k → get_or chains j 0 ≡ 0

pub put : (count k m bucket : ℕ) (name : List ℕ) (names : List (List ℕ)) (buckets chains : List ℕ) → Holds count k names buckets chains → k ≡ m + 1 → m < count → bucket < count → bucket ≡ hash_of 0 name % count → Holds count m (name ∷ names) (set buckets bucket m) (set chains m (get_or buckets bucket 0))
put count k m bucket name names buckets chains was next below inside is = record {
  size = length-set buckets bucket m ∙ was.size;
  chain_size = length-set chains m (get_or buckets bucket 0) ∙ was.chain_size;
  firsts = λ b few. rw (← is) (pick b few (nat_eq bucket b) refl);
  nexts = λ j few. next_at j few;
  zeros = λ j few. let ne : j ≢ m = omega arith in get_or-set_other chains m j (get_or buckets bucket 0) 0 ne ∙ was.zeros j (omega arith);
}
  where
    pick : (b : ℕ) → b < count → (t : Bool) → nat_eq bucket b ≡ t → get_or (set buckets bucket m) b 0 ≡ (if t then m else first_in count b (m + 1) names)
    pick b few true same =
        let e : bucket ≡ b = eqb-true bucket b same in
        let here : bucket < length buckets = omega (arith, was.size) in
        ap (λ i. get_or (set buckets bucket m) i 0) (sym e) ∙ get_or-set_same buckets bucket m 0 here
    pick b few false differ =
        let ne : b ≢ bucket = λ e. absurd (cc (differ, eq-eqb bucket b (sym e))) in
        get_or-set_other buckets bucket b m 0 ne ∙ was.firsts b few ∙ ap (λ n. first_in count b n names) next

    next_at : (j : ℕ) → j < suc (length names) → get_or (set chains m (get_or buckets bucket 0)) (m + j) 0 ≡ get_or (first_in count (hash_of 0 name % count) (m + 1) names ∷ chains_from count (m + 1) names) j 0
    next_at zero few =
        let e : m + 0 ≡ m = omega arith in
        let here : m < length chains = omega (arith, was.chain_size) in
        ap (λ i. get_or (set chains m (get_or buckets bucket 0)) i 0) e
        ∙ get_or-set_same chains m (get_or buckets bucket 0) 0 here
        ∙ was.firsts bucket inside
        ∙ ap (λ n. first_in count bucket n names) next
        ∙ ap (λ b. first_in count b (m + 1) names) is
    next_at (suc j) few =
        let ne : m + suc j ≢ m = λ e. absurd (omega arith) in
        let e : m + suc j ≡ k + j = omega (arith, next) in
        get_or-set_other chains m (m + suc j) (get_or buckets bucket 0) 0 ne
        ∙ ap (λ i. get_or chains i 0) e ∙ was.nexts j (omega arith)
        ∙ ap (λ n. get_or (chains_from count n names) j 0) next

-- no names yet
pub none_put : (count : ℕ) (k : ℕ) (buckets chains : List ℕ) → length buckets ≡ count → length chains ≡ count → ((b : ℕ) → get_or buckets b 0 ≡ 0) → ((b : ℕ) → get_or chains b 0 ≡ 0) → Holds count k [] buckets chains
none_put count k buckets chains size chain_size zb zc = record {
  size = size;
  chain_size = chain_size;
  firsts = λ b few. zb b;
  nexts = λ j few. absurd (omega arith);
  zeros = λ j few. zc j;
}

zero_all : (n b : ℕ) → get_or (replicate {A = ℕ} n 0) b 0 ≡ 0
zero_all zero b = refl
zero_all (suc n) zero = refl
zero_all (suc n) (suc b) = zero_all n b

pub none_back : (shared : List Shared) (buckets chains : List ℕ) → buckets ≡ replicate (length shared + 3) 0 → chains ≡ replicate (length shared + 3) 0 → Holds (length shared + 3) (3 + (length shared - 0)) (drop (length shared - 0) (shared_names shared)) buckets chains
unfolding shared_names
none_back shared buckets chains zb zc =
    let size : length (replicate {A = ℕ} (length shared + 3) 0) ≡ length shared + 3 = length-replicate (length shared + 3) 0 in
    let many : length (map shared_name shared) ≤ length shared - 0 = omega (arith, length-map shared shared_name) in
    rw (drop_all (length shared - 0) (map shared_name shared) many, zb, zc)
    (none_put (length shared + 3) (3 + (length shared - 0)) (replicate (length shared + 3) 0) (replicate (length shared + 3) 0) size size (zero_all (length shared + 3)) (zero_all (length shared + 3)))

-- the buckets as a list
pub buckets_are : (count : ℕ) (names : List (List ℕ)) (buckets chains : List ℕ) → Holds count 3 names buckets chains → buckets ≡ buckets_of count names
unfolding buckets_of
buckets_are count names buckets chains h = fill_by_all (λ b. first_in count b 3 names) buckets count 0 h.size (λ k few. h.firsts k few)

-- the chains as a list
length-chains : (count k : ℕ) (names : List (List ℕ)) → length (chains_from count k names) ≡ length names
length-chains count k [] = refl
length-chains count k (n ∷ names) = ap suc (length-chains count (k + 1) names)

pub chains_are : (count : ℕ) (names : List (List ℕ)) (buckets chains : List ℕ) → Holds count 3 names buckets chains → count ≡ length names + 3 → chains ≡ chains_of count names
unfolding chains_of
chains_are count names buckets chains h is = same_number_lists chains (0 ∷ 0 ∷ 0 ∷ chains_from count 3 names) (omega (arith, h.chain_size, length-chains count 3 names)) each
  where
    each : (k : ℕ) → k < length chains → get_or chains k 0 ≡ get_or (0 ∷ 0 ∷ 0 ∷ chains_from count 3 names) k 0
    each zero few = h.zeros 0 (lit< tt)
    each (suc zero) few = h.zeros 1 (lit< tt)
    each (suc (suc zero)) few = h.zeros 2 (lit< tt)
    each (suc (suc (suc k))) few =
        let e : suc (suc (suc k)) ≡ 3 + k = omega arith in
        ap (λ i. get_or chains i 0) e ∙ h.nexts k (omega (arith, h.chain_size))

pub done : (count n back : ℕ) (names : List (List ℕ)) (buckets chains : List ℕ) → n ≤ back → Holds count (3 + (n - back)) (drop (n - back) names) buckets chains → Holds count 3 names buckets chains
done count n back names buckets chains end h =
    let P : ℕ → Type 0 = λ z. Holds count (3 + z) (drop z names) buckets chains in
    let zero_left : n - back ≡ 0 = omega arith in
    subst P zero_left h

pub put_back : (n back m hash x : ℕ) (shared : List Shared) (d : Shared) (buckets chains : List ℕ) → length shared ≡ n → back < n → m ≡ n - 1 - back + 3 → hash ≡ hash_of 0 (get_or shared (n - 1 - back) d).name → x ≡ get_or buckets (hash % (n + 3)) x → Holds (n + 3) (3 + (n - back)) (drop (n - back) (shared_names shared)) buckets chains → Holds (n + 3) (3 + (n - (back + 1))) (drop (n - (back + 1)) (shared_names shared)) (set buckets (hash % (n + 3)) m) (set chains m x)
unfolding shared_names
put_back n back m hash x shared d buckets chains len below at hashed had h =
    let i : ℕ = n - (back + 1) in
    let names : List (List ℕ) = map shared_name shared in
    let same : n - 1 - back ≡ i = omega arith in
    let long : length names ≡ n = length-map shared shared_name ∙ len in
    let below_i : i < length names = omega arith in
    let in_shared : i < length shared = omega arith in
    let next : suc i ≡ n - back = omega arith in
    let cut : drop i names ≡ get_or names i [] ∷ drop (n - back) names = drop-cons names i [] below_i ∙ ap (λ (j : ℕ). get_or names i [] ∷ drop j names) next in
    let name : (get_or shared (n - 1 - back) d).name ≡ get_or names i [] = ap (λ (j : ℕ). (get_or shared j d).name) same ∙ sym (get_or-map shared_name shared i d [] in_shared) in
    let bucket : ℕ = hash % (n + 3) in
    let inside : bucket < n + 3 = omega arith in
    let here : bucket < length buckets = omega (arith, h.size) in
    let is : bucket ≡ hash_of 0 (get_or names i []) % (n + 3) = ap (λ (v : ℕ). v % (n + 3)) (hashed ∙ ap (hash_of 0) name) in
    let x_is : x ≡ get_or buckets bucket 0 = had ∙ get_or_default buckets bucket x 0 here in
    let P : List (List ℕ) → Type 0 = λ ns. Holds (n + 3) (3 + i) ns (set buckets bucket m) (set chains m x) in
    let Q : ℕ → Type 0 = λ p. Holds (n + 3) p (get_or names i [] ∷ drop (n - back) names) (set buckets bucket m) (set chains m x) in
    let R : ℕ → Type 0 = λ v. Holds (n + 3) m (get_or names i [] ∷ drop (n - back) names) (set buckets bucket m) (set chains m v) in
    let e : m ≡ 3 + i = omega arith in
    let k : 3 + (n - back) ≡ m + 1 = omega arith in
    let small : m < n + 3 = omega arith in
    subst P (sym cut) (subst Q e (subst R (sym x_is) (put (n + 3) (3 + (n - back)) m bucket (get_or names i []) (drop (n - back) names) buckets chains h k small inside is)))

pub names_count : (shared : List Shared) → length (shared_names shared) ≡ length shared
unfolding shared_names
names_count shared = length-map shared shared_name

row_append : (a b : List ℕ) → word_row false (a ++ b) ≡ word_row false a ++ word_row false b
row_append [] b = refl
row_append (w ∷ a) b = ap (λ xs. word_bytes false w ++ xs) (row_append a b) ∙ sym (append_assoc (word_bytes false w) (word_row false a) (word_row false b))

-- the words of the table, put one group behind the other
pub four_rows : (a b : ℕ) (buckets chains : List ℕ) → (word_row false (a ∷ b ∷ []) ++ word_row false buckets) ++ word_row false chains ≡ word_row false (a ∷ b ∷ (buckets ++ chains))
four_rows a b buckets chains =
    append_assoc (word_row false (a ∷ b ∷ [])) (word_row false buckets) (word_row false chains)
    ∙ ap (λ xs. word_row false (a ∷ b ∷ []) ++ xs) (sym (row_append buckets chains))
    ∙ sym (row_append (a ∷ b ∷ []) (buckets ++ chains))
