use Rattle.std.proofs.Common.{◌≡◌, ◌≢◌, ℕ, zero, suc, ◌+◌, ◌<◌, ◌≤◌, ◌==◌, ◌||◌, Bool, true, false, List, [], ◌∷◌, ◌++◌, length, refl, sym, ap, ◌∙◌, cond, arith, nat_eq, true≢false}
use Rattle.std.specs.Prelude.{slice_index}
use Rattle.std.proofs.lemmas.Grind.{common_steps}
use Rattle.std.proofs.lemmas.List.{places}
use Rattle.std.proofs.lemmas.Bool.Decides.{nat_tests}
use Rattle.c6x_base.specs.Search.{has, first_in, joined}
use Rattle.c6x_base.proofs.Joins.{joined_grows, joined_has, has-append}

old_first : (pre xs : List ℕ) (x : ℕ) → has pre x ≡ true → joined pre (x ∷ xs) ≡ joined pre xs
old_first pre xs x is = ap (λ (t : Bool). joined (cond t pre (pre ++ x ∷ [])) xs) is

new_first : (pre xs : List ℕ) (x : ℕ) → has pre x ≡ false → joined pre (x ∷ xs) ≡ joined (pre ++ x ∷ []) xs
new_first pre xs x is = ap (λ (t : Bool). joined (cond t pre (pre ++ x ∷ [])) xs) is

-- the number that is put behind stands there
at_new : (pre xs : List ℕ) (x : ℕ) → slice_index (joined (pre ++ x ∷ []) xs) (length pre) ≡ x
at_new pre xs x =
    let grown = joined_grows (pre ++ x ∷ []) xs in
    ap (λ (l : List ℕ). slice_index l (length pre)) grown.split ∙ grind (arith, places, nat_tests)

length_new : (pre : List ℕ) (x : ℕ) → length (pre ++ x ∷ []) ≡ length pre + 1
length_new pre x = grind (arith, common_steps)

pub either_true : (a b : Bool) → b ≡ true → (a || b) ≡ true
either_true true b is = refl
either_true false b is = is

not_either : (a b : Bool) → (a || b) ≡ false → a ≡ false
not_either false b is = refl
not_either true b is = is

-- a member stands in its list, and one that does not stand there is another
eq_self : (n : ℕ) → (n == n) ≡ true
eq_self n = grind (arith, nat_tests)

pub has_member : (xs : List ℕ) (i : ℕ) → i < length xs → has xs (slice_index xs i) ≡ true
has_member [] i within = absurd (omega arith)
has_member (x ∷ xs) zero within = rw (eq_self x) refl
has_member (x ∷ xs) (suc i) within = either_true (x == slice_index xs i) _ (has_member xs i (omega arith))

pub differ : (pre : List ℕ) (x e : ℕ) → has pre x ≡ true → has pre e ≡ false → x ≢ e
differ pre x e is not same = true≢false (sym is ∙ ap (has pre) same ∙ not)

other_first : (xs : List ℕ) (x e : ℕ) → x ≢ e → first_in (x ∷ xs) e ≡ suc (first_in xs e)
other_first xs x e other = let t : (x == e) ≡ false = grind (arith, nat_tests) in rw t refl

-- what a join puts behind the list was not in it
fresh_old : (pre xs : List ℕ) (x i : ℕ) → has pre x ≡ true → (i < length (joined pre xs) → has pre (slice_index (joined pre xs) i) ≡ false) → i < length (joined pre (x ∷ xs)) → has pre (slice_index (joined pre (x ∷ xs)) i) ≡ false
fresh_old pre xs x i is rest high =
    let same = old_first pre xs x is in
    ap (λ (l : List ℕ). has pre (slice_index l i)) same ∙ rest (rw same at high)

fresh_new : (pre xs : List ℕ) (x i : ℕ) (t : Bool) → nat_eq i (length pre) ≡ t → has pre x ≡ false → (length (pre ++ x ∷ []) ≤ i → i < length (joined (pre ++ x ∷ []) xs) → has (pre ++ x ∷ []) (slice_index (joined (pre ++ x ∷ []) xs) i) ≡ false) → length pre ≤ i → i < length (joined pre (x ∷ xs)) → has pre (slice_index (joined pre (x ∷ xs)) i) ≡ false
fresh_new pre xs x i true here is rest low high =
    let place : i ≡ length pre = grind (arith, nat_tests) in
    ap (λ (k : ℕ). has pre (slice_index (joined pre (x ∷ xs)) k)) place
    ∙ ap (λ (l : List ℕ). has pre (slice_index l (length pre))) (new_first pre xs x is)
    ∙ ap (has pre) (at_new pre xs x) ∙ is
fresh_new pre xs x i false here is rest low high =
    let same = new_first pre xs x is in
    let other : i ≢ length pre = grind (arith, nat_tests) in
    let len = length_new pre x in
    ap (λ (l : List ℕ). has pre (slice_index l i)) same
    ∙ not_either _ _ (sym (has-append pre (x ∷ []) (slice_index (joined (pre ++ x ∷ []) xs) i)) ∙ rest (omega arith) (rw same at high))

pub fresh : (pre xs : List ℕ) (i : ℕ) → length pre ≤ i → i < length (joined pre xs) → has pre (slice_index (joined pre xs) i) ≡ false
fresh pre [] i low high = absurd (omega arith)
fresh pre (x ∷ xs) i low high = elim (has pre x) as (λ t. has pre x ≡ t → has pre (slice_index (joined pre (x ∷ xs)) i) ≡ false) [
  | true ↦ λ is. fresh_old pre xs x i is (fresh pre xs i low) high
  | false ↦ λ is. fresh_new pre xs x i (nat_eq i (length pre)) refl is (fresh (pre ++ x ∷ []) xs i) low high
] refl

-- it comes from what was joined
pub comes : (pre xs : List ℕ) (i : ℕ) → length pre ≤ i → i < length (joined pre xs) → has xs (slice_index (joined pre xs) i) ≡ true
comes pre xs i low high =
    let not = fresh pre xs i low high in
    let all : has (joined pre xs) (slice_index (joined pre xs) i) ≡ true = has_member (joined pre xs) i high in
    let both : (has pre (slice_index (joined pre xs) i) || has xs (slice_index (joined pre xs) i)) ≡ true = sym (joined_has pre xs (slice_index (joined pre xs) i)) ∙ all in
    rw not at both

-- and stands there in the order of its first places
later_old : (pre xs : List ℕ) (x e : ℕ) → has pre x ≡ true → has pre e ≡ false → first_in (x ∷ xs) e ≡ suc (first_in xs e)
later_old pre xs x e is other = other_first xs x e (differ pre x e is other)

order_old : (pre xs : List ℕ) (x i j : ℕ) → has pre x ≡ true → length pre ≤ i → i < j → j < length (joined pre (x ∷ xs)) → (j < length (joined pre xs) → first_in xs (slice_index (joined pre xs) i) < first_in xs (slice_index (joined pre xs) j)) → first_in (x ∷ xs) (slice_index (joined pre (x ∷ xs)) i) < first_in (x ∷ xs) (slice_index (joined pre (x ∷ xs)) j)
order_old pre xs x i j is low less high rest =
    let same = old_first pre xs x is in
    let one = later_old pre xs x (slice_index (joined pre (x ∷ xs)) i) is (fresh pre (x ∷ xs) i low (omega arith)) in
    let two = later_old pre xs x (slice_index (joined pre (x ∷ xs)) j) is (fresh pre (x ∷ xs) j (omega arith) high) in
    let first : slice_index (joined pre (x ∷ xs)) i ≡ slice_index (joined pre xs) i = ap (λ (l : List ℕ). slice_index l i) same in
    let second : slice_index (joined pre (x ∷ xs)) j ≡ slice_index (joined pre xs) j = ap (λ (l : List ℕ). slice_index l j) same in
    let before = rest (rw same at high) in
    let a = ap (first_in xs) first in
    let b = ap (first_in xs) second in
    omega arith

has_new : (pre : List ℕ) (x : ℕ) → has (pre ++ x ∷ []) x ≡ true
has_new pre x = has-append pre (x ∷ []) x ∙ either_true (has pre x) _ (rw (eq_self x) refl)

first_self : (xs : List ℕ) (x : ℕ) → first_in (x ∷ xs) x ≡ 0
first_self xs x = rw (eq_self x) refl

order_new : (pre xs : List ℕ) (x i j : ℕ) (t : Bool) → nat_eq i (length pre) ≡ t → has pre x ≡ false → length pre ≤ i → i < j → j < length (joined pre (x ∷ xs)) → (length (pre ++ x ∷ []) ≤ i → j < length (joined (pre ++ x ∷ []) xs) → first_in xs (slice_index (joined (pre ++ x ∷ []) xs) i) < first_in xs (slice_index (joined (pre ++ x ∷ []) xs) j)) → first_in (x ∷ xs) (slice_index (joined pre (x ∷ xs)) i) < first_in (x ∷ xs) (slice_index (joined pre (x ∷ xs)) j)
order_new pre xs x i j true here is low less high rest =
    let same = new_first pre xs x is in
    let len = length_new pre x in
    let place : i ≡ length pre = grind (arith, nat_tests) in
    let all = joined (pre ++ x ∷ []) xs in
    let high : j < length all = rw same at high in
    let first : slice_index (joined pre (x ∷ xs)) i ≡ x = ap (λ (l : List ℕ). slice_index l i) same ∙ ap (slice_index all) place ∙ at_new pre xs x in
    let second : slice_index (joined pre (x ∷ xs)) j ≡ slice_index all j = ap (λ (l : List ℕ). slice_index l j) same in
    let other = other_first xs x (slice_index all j) (differ (pre ++ x ∷ []) x (slice_index all j) (has_new pre x) (fresh (pre ++ x ∷ []) xs j (omega arith) high)) in
    let a : first_in (x ∷ xs) (slice_index (joined pre (x ∷ xs)) i) ≡ 0 = ap (first_in (x ∷ xs)) first ∙ first_self xs x in
    let b : first_in (x ∷ xs) (slice_index (joined pre (x ∷ xs)) j) ≡ suc (first_in xs (slice_index all j)) = ap (first_in (x ∷ xs)) second ∙ other in
    omega arith
order_new pre xs x i j false here is low less high rest =
    let same = new_first pre xs x is in
    let len = length_new pre x in
    let place : i ≢ length pre = grind (arith, nat_tests) in
    let all = joined (pre ++ x ∷ []) xs in
    let high : j < length all = rw same at high in
    let first : slice_index (joined pre (x ∷ xs)) i ≡ slice_index all i = ap (λ (l : List ℕ). slice_index l i) same in
    let second : slice_index (joined pre (x ∷ xs)) j ≡ slice_index all j = ap (λ (l : List ℕ). slice_index l j) same in
    let one = other_first xs x (slice_index all i) (differ (pre ++ x ∷ []) x (slice_index all i) (has_new pre x) (fresh (pre ++ x ∷ []) xs i (omega arith) (omega arith))) in
    let two = other_first xs x (slice_index all j) (differ (pre ++ x ∷ []) x (slice_index all j) (has_new pre x) (fresh (pre ++ x ∷ []) xs j (omega arith) high)) in
    let before = rest (omega arith) high in
    let a : first_in (x ∷ xs) (slice_index (joined pre (x ∷ xs)) i) ≡ suc (first_in xs (slice_index all i)) = ap (first_in (x ∷ xs)) first ∙ one in
    let b : first_in (x ∷ xs) (slice_index (joined pre (x ∷ xs)) j) ≡ suc (first_in xs (slice_index all j)) = ap (first_in (x ∷ xs)) second ∙ two in
    omega arith

pub in_order : (pre xs : List ℕ) (i j : ℕ) → length pre ≤ i → i < j → j < length (joined pre xs) → first_in xs (slice_index (joined pre xs) i) < first_in xs (slice_index (joined pre xs) j)
in_order pre [] i j low less high = absurd (omega arith)
in_order pre (x ∷ xs) i j low less high = elim (has pre x) as (λ t. has pre x ≡ t → first_in (x ∷ xs) (slice_index (joined pre (x ∷ xs)) i) < first_in (x ∷ xs) (slice_index (joined pre (x ∷ xs)) j)) [
  | true ↦ λ is. order_old pre xs x i j is low less high (in_order pre xs i j low less)
  | false ↦ λ is. order_new pre xs x i j (nat_eq i (length pre)) refl is low less high (λ further. in_order (pre ++ x ∷ []) xs i j further less)
] refl
