use Rattle.std.proofs.Common.{◌≡◌, ℕ, zero, suc, ◌+◌, ◌<◌, ◌≤◌, ◌==◌, ◌||◌, Bool, true, false, List, [], ◌∷◌, ◌++◌, length, take, get_or, refl, sym, ap, ◌∙◌, cond, arith, append_assoc, add-one, nat_lt}
use Rattle.std.specs.List.{flat_map}
use Rattle.std.proofs.lemmas.Grind.{common_steps, flat_map-append}
use Rattle.std.proofs.lemmas.List.{take-append-le, take_more, take_all, get_or_past}
use Rattle.std.proofs.lemmas.Bool.Decides.{nat_tests}
use Rattle.c6x_base.specs.Search.{Needs, needs_of, has, all_needs, with_new, joined, needs_at, found_after}

-- joining twice is joining once
pub joined-append : (list xs ys : List ℕ) → joined list (xs ++ ys) ≡ joined (joined list xs) ys
joined-append list [] ys = refl
joined-append list (x ∷ xs) ys = joined-append (with_new list x) xs ys

-- what a join adds stands behind
pub record Grows (list after : List ℕ) : Type 0 where
  pub more : List ℕ
  pub split : after ≡ list ++ more

with_new_grows : (list : List ℕ) (x : ℕ) (t : Bool) → has list x ≡ t → Grows list (with_new list x)
with_new_grows list x true is = record { more = []; split = rw is (search common_steps) }
with_new_grows list x false is = record { more = x ∷ []; split = rw is refl }

pub joined_grows : (list xs : List ℕ) → Grows list (joined list xs)
joined_grows list [] = record { more = []; split = search common_steps }
joined_grows list (x ∷ xs) =
    let first = with_new_grows list x (has list x) refl in
    let rest = joined_grows (with_new list x) xs in
    record { more = first.more ++ rest.more; split = rest.split ∙ ap (λ (ys : List ℕ). ys ++ rest.more) first.split ∙ append_assoc list first.more rest.more }

-- the list is what its first members need, joined to the start
member : (needs : Needs) (start n : ℕ) → n < length (found_after needs start n) → all_needs needs (take (n + 1) (found_after needs start (suc n))) ≡ all_needs needs (take n (found_after needs start n)) ++ needs_at needs (found_after needs start n) n
unfolding all_needs
member needs start n inside =
    let now = found_after needs start n in
    let grown = joined_grows now (needs_at needs now n) in
    ap (λ (xs : List ℕ). flat_map (needs_of needs) (take (n + 1) xs)) grown.split
    ∙ ap (flat_map (needs_of needs)) (take-append-le (n + 1) now grown.more (omega arith) ∙ take_more now n (length needs) inside)
    ∙ flat_map-append (needs_of needs) (take n now) (get_or now n (length needs) ∷ [])
    ∙ search common_steps

same_inside : (needs : Needs) (start n : ℕ) → n < length (found_after needs start n) → joined (start ∷ []) (all_needs needs (take n (found_after needs start n))) ≡ found_after needs start n → joined (start ∷ []) (all_needs needs (take (suc n) (found_after needs start (suc n)))) ≡ found_after needs start (suc n)
same_inside needs start n inside before =
    let now = found_after needs start n in
    ap (λ (k : ℕ). joined (start ∷ []) (all_needs needs (take k (found_after needs start (suc n))))) (sym (add-one n))
    ∙ ap (joined (start ∷ [])) (member needs start n inside)
    ∙ joined-append (start ∷ []) (all_needs needs (take n now)) (needs_at needs now n)
    ∙ ap (λ (xs : List ℕ). joined xs (needs_at needs now n)) before

pub past_needs : (needs : Needs) (list : List ℕ) (n : ℕ) → length list ≤ n → needs_at needs list n ≡ []
past_needs needs list n past =
    ap (λ (k : ℕ). get_or needs k []) (get_or_past list n (length needs) past)
    ∙ get_or_past needs (length needs) [] (omega arith)

-- nothing is added past the end
pub still : (needs : Needs) (start n : ℕ) → length (found_after needs start n) ≤ n → found_after needs start (suc n) ≡ found_after needs start n
still needs start n past =
    ap (joined (found_after needs start n)) (past_needs needs (found_after needs start n) n past)

same_past : (needs : Needs) (start n : ℕ) → length (found_after needs start n) ≤ n → joined (start ∷ []) (all_needs needs (take n (found_after needs start n))) ≡ found_after needs start n → joined (start ∷ []) (all_needs needs (take (suc n) (found_after needs start (suc n)))) ≡ found_after needs start (suc n)
same_past needs start n past before =
    let now = found_after needs start n in
    let all : take (suc n) now ≡ take n now = take_all (suc n) now (omega arith) ∙ sym (take_all n now past) in
    ap (λ (xs : List ℕ). joined (start ∷ []) (all_needs needs (take (suc n) xs))) (still needs start n past)
    ∙ ap (λ (xs : List ℕ). joined (start ∷ []) (all_needs needs xs)) all ∙ before ∙ sym (still needs start n past)

pub same_after : (needs : Needs) (start n : ℕ) → joined (start ∷ []) (all_needs needs (take n (found_after needs start n))) ≡ found_after needs start n
unfolding all_needs
same_after needs start zero = refl
same_after needs start (suc n) = elim (nat_lt n (length (found_after needs start n))) as (λ t. nat_lt n (length (found_after needs start n)) ≡ t → joined (start ∷ []) (all_needs needs (take (suc n) (found_after needs start (suc n)))) ≡ found_after needs start (suc n)) [
  | true ↦ λ is. same_inside needs start n (grind (arith, nat_tests)) (same_after needs start n)
  | false ↦ λ is. same_past needs start n (grind (arith, nat_tests)) (same_after needs start n)
] refl

-- what a list has
or_assoc : (a b c : Bool) → ((a || b) || c) ≡ (a || (b || c))
or_assoc true b c = refl
or_assoc false b c = refl

pub has-append : (xs ys : List ℕ) (q : ℕ) → has (xs ++ ys) q ≡ (has xs q || has ys q)
has-append [] ys q = refl
has-append (x ∷ xs) ys q = ap (λ t. (x == q) || t) (has-append xs ys q) ∙ sym (or_assoc (x == q) (has xs q) (has ys q))

or_false : (a : Bool) → (a || false) ≡ a
or_false true = refl
or_false false = refl

had_already : (list : List ℕ) (x q : ℕ) (u : Bool) → (x == q) ≡ u → has list x ≡ true → has list q ≡ (has list q || u)
had_already list x q true same is = let e : x ≡ q = grind (arith, nat_tests) in let h : has list q ≡ true = rw e at is in rw h refl
had_already list x q false same is = sym (or_false (has list q))

with_new_has : (list : List ℕ) (x q : ℕ) (t : Bool) → has list x ≡ t → has (with_new list x) q ≡ (has list q || x == q)
with_new_has list x q true is = ap (λ (t : Bool). has (cond t list (list ++ x ∷ [])) q) is ∙ had_already list x q (x == q) refl is
with_new_has list x q false is =
    ap (λ (t : Bool). has (cond t list (list ++ x ∷ [])) q) is ∙ has-append list (x ∷ []) q
    ∙ ap (λ t. has list q || t) (or_false (x == q))

pub joined_has : (list xs : List ℕ) (q : ℕ) → has (joined list xs) q ≡ (has list q || has xs q)
joined_has list [] q = sym (or_false (has list q))
joined_has list (x ∷ xs) q =
    joined_has (with_new list x) xs q ∙ ap (λ t. t || has xs q) (with_new_has list x q (has list x) refl)
    ∙ or_assoc (has list q) (x == q) (has xs q)
