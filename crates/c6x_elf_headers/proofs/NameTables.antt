-- Names found again in a table of names.
use Rattle.std.proofs.Common.{◌≡◌, ◌≢◌, ℕ, zero, suc, ◌+◌, ◌<◌, ◌≤◌, ◌==◌, true, false, cond, List, [], ◌∷◌, ◌++◌, Option, None, Some, length, take, drop, get_or, not, is_some, nat_le, nat_lt, option_map, position, refl, sym, ap, ◌∙◌, append_assoc, append-nil, length-append, arith}
use Rattle.std.proofs.lemmas.Bool.Decides.{nat_tests}
use Rattle.std.proofs.lemmas.Grind.{flat_map-append}
use Rattle.std.proofs.lemmas.List.{drop_at}
use Rattle.std.proofs.Math.Seq.{take-append_seam}
use Rattle.std.specs.List.{flat_map, prefix_len}
use Rattle.std.specs.Prelude.{All, IsSome}
use Rattle.c6x_elf_headers.specs.Held.{Holds}
use Rattle.c6x_elf_headers.specs.Names.{IsName, name_of, name_place, name_row, name_table}
use Rattle.c6x_elf_headers.proofs.Holdings.{holds_behind, holds_within}

-- one more name
pub table_more : (names : List (List ℕ)) (old new name : List ℕ) → old ≡ name_table names → new ≡ (old ++ name) ++ 0 ∷ [] → new ≡ name_table (names ++ name ∷ [])
unfolding name_table
table_more names old new name was is =
    is ∙ append_assoc old name (0 ∷ []) ∙ ap (λ xs. xs ++ name_row name) was
    ∙ ap (λ xs. 0 ∷ (flat_map name_row names ++ xs)) (sym (append-nil (name_row name)))
    ∙ ap (λ xs. 0 ∷ xs) (sym (flat_map-append name_row names (name ∷ [])))

-- the first zero byte of a name that is ended
before_zero : (name rest : List ℕ) → All (λ b. b ≢ 0) name → prefix_len (λ b. not (b == 0)) (name ++ (0 ∷ rest)) ≡ length name
before_zero [] rest none = refl
before_zero (b ∷ bs) rest none =
    let other : b ≢ 0 = none zero b (omega arith) in
    let differs : (b == 0) ≡ false = grind (arith, nat_tests) in
    let later = before_zero bs rest (λ k d below. none (suc k) d (omega arith)) in
    rw (differs, later) (omega arith)

first_zero : (name rest : List ℕ) → All (λ b. b ≢ 0) name → position (λ b. b == 0) (name ++ (0 ∷ rest)) ≡ Some (length name)
first_zero name rest none =
    let long = length-append name (0 ∷ rest) in
    let t : nat_lt (length name) (length (name ++ (0 ∷ rest))) ≡ true = grind (arith, nat_tests) in
    rw (before_zero name rest none, t) refl

-- a name that a table holds, with a zero byte behind it, is found there
pub name_read : (table : List ℕ) (at : ℕ) (name : List ℕ) → Holds table at (name_row name) → IsName name → name_of table at ≡ Some name
unfolding name_of
name_read table at name h is =
    let inside = holds_within table at (name ++ (0 ∷ [])) h in
    let t : nat_le at (length table) ≡ true = grind (arith, nat_tests) in
    let behind : drop at table ≡ name ++ (0 ∷ h.back) =
    ap (drop at) h.split ∙ drop_at h.front ((name ++ (0 ∷ [])) ++ h.back) at h.place ∙ append_assoc name (0 ∷ []) h.back in
    rw (t, behind, first_zero name h.back is.bytes) (ap Some (take-append_seam name (0 ∷ h.back)))

pub name_behind : (old new name : List ℕ) → new ≡ (old ++ name) ++ 0 ∷ [] → IsName name → name_of new (length old) ≡ Some name
name_behind old new name is good =
    name_read new (length old) name (holds_behind old (name_row name) new (length old) (is ∙ append_assoc old name (0 ∷ [])) refl) good

-- a name of two parts
joined : (old front name : List ℕ) → ((old ++ front) ++ name) ++ 0 ∷ [] ≡ (old ++ (front ++ name)) ++ 0 ∷ []
joined old front name = ap (λ xs. xs ++ 0 ∷ []) (append_assoc old front name)

pub table_joined : (names : List (List ℕ)) (old new front name : List ℕ) → old ≡ name_table names → new ≡ ((old ++ front) ++ name) ++ 0 ∷ [] → new ≡ name_table (names ++ (front ++ name) ∷ [])
table_joined names old new front name was is = table_more names old new (front ++ name) was (is ∙ joined old front name)

pub joined_behind : (old new front name : List ℕ) → new ≡ ((old ++ front) ++ name) ++ 0 ∷ [] → IsName (front ++ name) → name_of new (length old) ≡ Some (front ++ name)
joined_behind old new front name is good = name_behind old new (front ++ name) (is ∙ joined old front name) good

-- any name that a table holds, with a zero byte behind it, ends there
prefix_within : (name rest : List ℕ) → prefix_len (λ b. not (b == 0)) (name ++ (0 ∷ rest)) ≤ length name
prefix_within [] rest = omega arith
prefix_within (b ∷ bs) rest =
    let later = prefix_within bs rest in
    elim (b == 0) as (λ t. cond (not t) (1 + prefix_len (λ c. not (c == 0)) (bs ++ (0 ∷ rest))) 0 ≤ suc (length bs)) [ true ↦ omega arith | false ↦ omega arith ]

position_some : (text : List ℕ) → prefix_len (λ b. not (b == 0)) text < length text → is_some (position (λ b. b == 0) text) ≡ true
position_some text below =
    let t : nat_lt (prefix_len (λ b. not (b == 0)) text) (length text) ≡ true = grind (arith, nat_tests) in
    rw t refl

mapped_some : (o : Option ℕ) (f : ℕ → List ℕ) → is_some o ≡ true → IsSome (option_map f o)
mapped_some None f is = cc
mapped_some (Some n) f is = refl

pub name_ends : (table : List ℕ) (at : ℕ) (name : List ℕ) → Holds table at (name_row name) → IsSome (name_of table at)
unfolding name_of
name_ends table at name h =
    let inside = holds_within table at (name ++ (0 ∷ [])) h in
    let t : nat_le at (length table) ≡ true = grind (arith, nat_tests) in
    let behind : drop at table ≡ name ++ (0 ∷ h.back) =
    ap (drop at) h.split ∙ drop_at h.front ((name ++ (0 ∷ [])) ++ h.back) at h.place ∙ append_assoc name (0 ∷ []) h.back in
    let most = prefix_within name h.back in
    let long = length-append name (0 ∷ h.back) in
    let found = position_some (name ++ (0 ∷ h.back)) (omega arith) in
    rw (t, behind) (mapped_some (position (λ b. b == 0) (name ++ (0 ∷ h.back))) _ found)

-- each name of a table is found at its place
rows_split : (names : List (List ℕ)) (number : ℕ) (d : List ℕ) → number < length names → Holds (name_table names) (name_place names number) (name_row (get_or names number d))
unfolding name_table
rows_split names number d below = record {
  front = 0 ∷ flat_map name_row (take number names);
  back = flat_map name_row (drop (suc number) names);
  split = ap (λ xs. 0 ∷ xs) (split_at names number d below);
  place = refl;
}
  where
    split_at : (ns : List (List ℕ)) (k : ℕ) (e : List ℕ) → k < length ns → flat_map name_row ns ≡ flat_map name_row (take k ns) ++ (name_row (get_or ns k e) ++ flat_map name_row (drop (suc k) ns))
    split_at [] k e below = absurd (omega arith)
    split_at (n ∷ ns) zero e below = refl
    split_at (n ∷ ns) (suc k) e below =
        ap (λ xs. name_row n ++ xs) (split_at ns k e (omega arith))
        ∙ sym (append_assoc (name_row n) (flat_map name_row (take k ns)) (name_row (get_or ns k e) ++ flat_map name_row (drop (suc k) ns)))

pub names_back : (names : List (List ℕ)) (number : ℕ) (d : List ℕ) → number < length names → IsName (get_or names number d) → name_of (name_table names) (name_place names number) ≡ Some (get_or names number d)
names_back names number d below is =
    name_read (name_table names) (name_place names number) (get_or names number d) (rows_split names number d below) is
