use Rattle.std.proofs.Common.{◌≡◌, ◌≢◌, ℕ, zero, suc, ◌<◌, ◌≤◌, ◌==◌, ◌||◌, Bool, true, false, List, [], ◌∷◌, ◌++◌, length, take, drop, refl, sym, ap, ◌∙◌, arith, add-one, nat_lt, true≢false, ◌⊎◌, inl, inr, eqb, subst, ◌↔◌}
use Rattle.std.proofs.lemmas.Map.Steps.{length-le_from_distinct_below}
use Rattle.std.specs.Prelude.{Result, Ok, Err, IfOk, slice_index, slice_index_or}
use Rattle.std.specs.List.{flat_map}
use Rattle.std.specs.List.{list_any, IsDistinct, AllByRecursion}
use Rattle.std.proofs.lemmas.Grind.{common_steps, get_or_default_zero, flat_map-append}
use Rattle.std.proofs.lemmas.List.{take_more, take_all, places, take-append-drop, length-take-le}
use Rattle.std.proofs.lemmas.Bool.Decides.{nat_tests}
use Rattle.c6x_base.specs.Search.{Needs, needs_of, has, first_in, all_needs, joined, needs_at, found_after, search_of, IsSearch, IsNeeded, AreBelow, AreNeeds}
use Rattle.c6x_base.proofs.Joins.{Grows, joined_grows, joined_has, has-append, same_after, past_needs}
use Rattle.c6x_base.proofs.Orders.{fresh, comes, in_order, differ, has_member, either_true}

kept : (list after : List ℕ) (k : ℕ) → Grows list after → k < length list → slice_index after k ≡ slice_index list k
kept list after k grown inside = ap (λ (l : List ℕ). slice_index l k) grown.split ∙ grind (arith, places, nat_tests)

needs_inside : (needs : Needs) (list : List ℕ) (n : ℕ) → n < length list → needs_at needs list n ≡ needs_of needs (slice_index list n)
needs_inside needs list n inside = ap (needs_of needs) (get_or_default_zero list n (length needs) inside)

nothing_past : (needs : Needs) (list : List ℕ) (n q : ℕ) → has (needs_at needs list n) q ≡ true → n < length list
nothing_past needs list n q is = elim (nat_lt n (length list)) as (λ t. nat_lt n (length list) ≡ t → n < length list) [
  | true ↦ λ h. grind (arith, nat_tests)
  | false ↦ λ h. absurd (true≢false (sym is ∙ ap (λ (xs : List ℕ). has xs q) (past_needs needs list n (grind (arith, nat_tests)))))
] refl

kept_needed : (needs : Needs) (list after : List ℕ) (j : ℕ) → Grows list after → j < length list → IsNeeded needs list j → IsNeeded needs after j
kept_needed needs list after j grown inside is =
    let before = is.before in
    let one = kept list after is.by grown (omega arith) in
    let two = kept list after j grown inside in
    record { by = is.by; before = is.before; needed = rw (one, two) is.needed }

new_needed : (needs : Needs) (list : List ℕ) (n j : ℕ) → length list ≤ j → j < length (joined list (needs_at needs list n)) → IsNeeded needs (joined list (needs_at needs list n)) j
new_needed needs list n j low high =
    let after = joined list (needs_at needs list n) in
    let here = comes list (needs_at needs list n) j low high in
    let inside = nothing_past needs list n (slice_index after j) here in
    let one = kept list after n (joined_grows list (needs_at needs list n)) inside in
    let same : needs_at needs list n ≡ needs_of needs (slice_index after n) = needs_inside needs list n inside ∙ ap (needs_of needs) (sym one) in
    record { by = n; before = omega arith; needed = ap (λ (xs : List ℕ). has xs (slice_index after j)) (sym same) ∙ here }

needed_after : (needs : Needs) (start n j : ℕ) → 1 ≤ j → j < length (found_after needs start n) → IsNeeded needs (found_after needs start n) j
needed_after needs start zero j low high = absurd (omega arith)
needed_after needs start (suc n) j low high =
    let now = found_after needs start n in
    elim (nat_lt j (length now)) as (λ t. nat_lt j (length now) ≡ t → IsNeeded needs (found_after needs start (suc n)) j) [
      | true ↦ λ is. kept_needed needs now _ j (joined_grows now (needs_at needs now n)) (grind (arith, nat_tests)) (needed_after needs start n j low (grind (arith, nat_tests)))
      | false ↦ λ is. new_needed needs now n j (grind (arith, nat_tests)) high
    ] refl

or_left : (a b : Bool) → a ≡ true → (a || b) ≡ true
or_left true b is = refl
or_left false b is = absurd (true≢false (sym is))

not_less : (m n : ℕ) → (m < n → ⊥) → n ≤ m
not_less m n no_way = elim (nat_lt m n) as (λ t. nat_lt m n ≡ t → n ≤ m) [
  | true ↦ λ is. absurd (no_way (grind (arith, nat_tests)))
  | false ↦ λ is. grind (arith, nat_tests)
] refl

nat_equal : (m n : ℕ) → (m ≢ n → ⊥) → m ≡ n
nat_equal m n no_way = elim (m == n) as (λ t. (m == n) ≡ t → m ≡ n) [
  | true ↦ λ is. grind (arith, nat_tests)
  | false ↦ λ is. absurd (no_way (grind (arith, nat_tests)))
] refl

-- members are numbers of modules
below_here : (count : ℕ) (xs : List ℕ) (q : ℕ) → AreBelow count xs → has xs q ≡ true → q < count
below_here count [] q all is = absurd (true≢false (sym is))
below_here count (x ∷ xs) q all is = elim (x == q) as (λ t. (x == q) ≡ t → q < count) [
  | true ↦ λ same. let e : x ≡ q = grind (arith, nat_tests) in let h = all.0 in omega arith
  | false ↦ λ other. below_here count xs q all.1 (let h = is in rw other at h)
] refl

below_needs : (count : ℕ) (needs : Needs) (k q : ℕ) → AreNeeds count needs → has (needs_of needs k) q ≡ true → q < count
below_needs count [] k q all is = absurd (true≢false (sym is))
below_needs count (x ∷ xs) zero q all is = below_here count x q all.0 is
below_needs count (x ∷ xs) (suc k) q all is = below_needs count xs k q all.1 is

or_cases : (a b : Bool) → (a || b) ≡ true → (a ≡ true) ⊎ (b ≡ true)
or_cases true b is = inl refl
or_cases false b is = inr is

below_after : (needs : Needs) (start n q : ℕ) → start < length needs → AreNeeds (length needs) needs → has (found_after needs start n) q ≡ true → q < length needs
below_after needs start zero q first all is = below_here (length needs) (start ∷ []) q (first, tt) is
below_after needs start (suc n) q first all is =
    let now = found_after needs start n in
    elim (or_cases (has now q) (has (needs_at needs now n) q) (sym (joined_has now (needs_at needs now n) q) ∙ is)) [
      | inl h ↦ below_after needs start n q first all h
      | inr h ↦ below_needs (length needs) needs (slice_index_or now n (length needs)) q all h
    ]

-- and differ
first_at : (start : ℕ) (xs : List ℕ) → slice_index (joined (start ∷ []) xs) 0 ≡ start
first_at start xs = let grown = joined_grows (start ∷ []) xs in ap (λ (l : List ℕ). slice_index l 0) grown.split

distinct_at : (start : ℕ) (xs : List ℕ) (i j : ℕ) → i < j → j < length (joined (start ∷ []) xs) → slice_index (joined (start ∷ []) xs) i ≢ slice_index (joined (start ∷ []) xs) j
distinct_at start xs zero j less high same =
    differ (start ∷ []) start (slice_index (joined (start ∷ []) xs) j) (has_member (start ∷ []) 0 (omega arith)) (fresh (start ∷ []) xs j (omega arith) high) (sym (first_at start xs) ∙ same)
distinct_at start xs (suc i) j less high same =
    let before = in_order (start ∷ []) xs (suc i) j (omega arith) less high in
    let equal = ap (first_in xs) same in
    absurd (omega arith)

apart : (x : ℕ) (xs : List ℕ) → ((k : ℕ) → k < length xs → x ≢ slice_index xs k) → AllByRecursion (λ y. eqb x y ≡ false) xs
apart x [] all = tt
apart x (y ∷ ys) all =
    let other : x ≢ y = all 0 (omega arith) in
    (grind (arith, nat_tests), apart x ys (λ k h. all (suc k) (omega arith)))

distinct_from : (xs : List ℕ) → ((i j : ℕ) → i < j → j < length xs → slice_index xs i ≢ slice_index xs j) → IsDistinct eqb xs
unfolding IsDistinct
distinct_from [] all = tt
distinct_from (x ∷ xs) all =
    (apart x xs (λ k h. all 0 (suc k) (omega arith) (omega arith)), distinct_from xs (λ i j less h. all (suc i) (suc j) (omega arith) (omega arith)))

any_has : (xs : List ℕ) (q : ℕ) → list_any (eqb q) xs ≡ true → has xs q ≡ true
any_has [] q is = is
any_has (x ∷ xs) q is = elim (x == q) as (λ t. (x == q) ≡ t → ((x == q) || has xs q) ≡ true) [
  | true ↦ λ same. rw same refl
  | false ↦ λ other. let e : eqb q x ≡ false = grind (arith, nat_tests) in let h = is in rw other (any_has xs q (rw e at h))
] refl

few : (needs : Needs) (start : ℕ) → start < length needs → AreNeeds (length needs) needs → length (search_of needs start) ≤ length needs
unfolding search_of
few needs start first all =
    let n = length needs in
    let same = same_after needs start n in
    let P : List ℕ → Type 0 = λ (l : List ℕ). (i j : ℕ) → i < j → j < length l → slice_index l i ≢ slice_index l j in
    length-le_from_distinct_below (found_after needs start n) n (distinct_from _ (subst P same (distinct_at start (all_needs needs (take n (found_after needs start n))))))
    (λ q h. below_after needs start n q first all (any_has _ q h))

pub same_search : (needs : Needs) (start : ℕ) → start < length needs → AreNeeds (length needs) needs → joined (start ∷ []) (all_needs needs (search_of needs start)) ≡ search_of needs start
unfolding search_of
same_search needs start first all =
    ap (λ (l : List ℕ). joined (start ∷ []) (all_needs needs l)) (sym (take_all (length needs) (found_after needs start (length needs)) (few needs start first all)))
    ∙ same_after needs start (length needs)

is_search_by : (needs : Needs) (start : ℕ) (list : List ℕ) → joined (start ∷ []) (all_needs needs list) ≡ list → ((j : ℕ) → 1 ≤ j → j < length list → IsNeeded needs list j) → IsSearch needs start list
is_search_by needs start list same needed =
    let xs = all_needs needs list in
    let D : List ℕ → Type 0 = λ (l : List ℕ). (i j : ℕ) → i < j → j < length l → slice_index l i ≢ slice_index l j in
    let O : List ℕ → Type 0 = λ (l : List ℕ). (i j : ℕ) → 1 ≤ i → i < j → j < length l → first_in xs (slice_index l i) < first_in xs (slice_index l j) in
    let grown = joined_grows (start ∷ []) xs in
    record {
      some = let e = ap (λ (l : List ℕ). length l) (sym same ∙ grown.split) in grind (arith, common_steps);
      first = ap (λ (l : List ℕ). slice_index l 0) (sym same) ∙ first_at start xs;
      distinct = subst D same (distinct_at start xs);
      needed = needed;
      closed = λ q is. ap (λ (l : List ℕ). has l q) (sym same) ∙ joined_has (start ∷ []) xs q ∙ either_true _ _ is;
      ordered = subst O same (λ i j low less high. in_order (start ∷ []) xs i j low less high);
    }

pub search_is : (needs : Needs) (start : ℕ) → start < length needs → AreNeeds (length needs) needs → IsSearch needs start (search_of needs start)
unfolding search_of
search_is needs start first all = is_search_by needs start _ (same_search needs start first all) (needed_after needs start (length needs))

-- a number that a list has stands at a place
pub record Stands (list : List ℕ) (q : ℕ) : Type 0 where
  pub place : ℕ
  pub inside : place < length list
  pub is : slice_index list place ≡ q

stands : (list : List ℕ) (q : ℕ) → has list q ≡ true → Stands list q
stands [] q is = absurd (true≢false (sym is))
stands (x ∷ xs) q is = elim (x == q) as (λ t. (x == q) ≡ t → Stands (x ∷ xs) q) [
  | true ↦ λ same. record { place = 0; inside = omega arith; is = grind (arith, nat_tests) }
  | false ↦ λ other. let rest = stands xs q (let h = is in rw other at h) in let inside = rest.inside in record { place = suc rest.place; inside = omega arith; is = rest.is }
] refl

-- what a member needs is among all needs
has_all : (needs : Needs) (xs : List ℕ) (i q : ℕ) → i < length xs → has (needs_of needs (slice_index xs i)) q ≡ true → has (all_needs needs xs) q ≡ true
unfolding all_needs
has_all needs [] i q inside is = absurd (omega arith)
has_all needs (x ∷ xs) zero q inside is =
    has-append (needs_of needs x) (flat_map (needs_of needs) xs) q ∙ or_left _ _ is
has_all needs (x ∷ xs) (suc i) q inside is =
    has-append (needs_of needs x) (flat_map (needs_of needs) xs) q ∙ either_true _ _ (has_all needs xs i q (omega arith) is)

all_split : (needs : Needs) (xs : List ℕ) (n : ℕ) → all_needs needs xs ≡ all_needs needs (take n xs) ++ all_needs needs (drop n xs)
unfolding all_needs
all_split needs xs n =
    ap (flat_map (needs_of needs)) (sym (take-append-drop n xs)) ∙ flat_map-append (needs_of needs) (take n xs) (drop n xs)

-- the first place of a number is in the front part, where that has it
first_front : (xs ys : List ℕ) (q : ℕ) → has xs q ≡ true → first_in (xs ++ ys) q ≡ first_in xs q
first_front [] ys q is = absurd (true≢false (sym is))
first_front (x ∷ xs) ys q is = elim (x == q) as (λ t. (x == q) ≡ t → first_in ((x ∷ xs) ++ ys) q ≡ first_in (x ∷ xs) q) [
  | true ↦ λ same. rw same refl
  | false ↦ λ other. rw other (ap suc (first_front xs ys q (let h = is in rw other at h)))
] refl

index_take : (xs : List ℕ) (n i : ℕ) → i < n → slice_index (take n xs) i ≡ slice_index xs i
index_take xs n i less = grind (arith, places, nat_tests)

same_index : (xs ys : List ℕ) (n i : ℕ) → take n xs ≡ take n ys → i < n → slice_index xs i ≡ slice_index ys i
same_index xs ys n i same less = sym (index_take xs n i less) ∙ ap (λ (l : List ℕ). slice_index l i) same ∙ index_take ys n i less

-- the member at place n of one list is among the needs of the common front
needed_front : (needs : Needs) (start : ℕ) (xs ys : List ℕ) (n : ℕ) → IsSearch needs start xs → take n xs ≡ take n ys → 1 ≤ n → n < length xs → n ≤ length ys → has (all_needs needs (take n ys)) (slice_index xs n) ≡ true
needed_front needs start xs ys n a same some inside within =
    let is = a.needed n some inside in
    let before = is.before in
    let len : length (take n ys) ≡ n = length-take-le n ys within in
    let e : slice_index xs is.by ≡ slice_index (take n ys) is.by = same_index xs ys n is.by same before ∙ sym (index_take ys n is.by before) in
    has_all needs (take n ys) is.by (slice_index xs n) (omega arith)
    (ap (λ (k : ℕ). has (needs_of needs k) (slice_index xs n)) (sym e) ∙ is.needed)

first_common : (needs : Needs) (ys : List ℕ) (n q : ℕ) → has (all_needs needs (take n ys)) q ≡ true → first_in (all_needs needs ys) q ≡ first_in (all_needs needs (take n ys)) q
first_common needs ys n q is = ap (λ (l : List ℕ). first_in l q) (all_split needs ys n) ∙ first_front _ _ q is

-- of two lists that agree so far and differ next, the second has what it needs first
earlier : (needs : Needs) (start : ℕ) (xs ys : List ℕ) (n : ℕ) → IsSearch needs start xs → IsSearch needs start ys → take n xs ≡ take n ys → 1 ≤ n → n < length xs → n < length ys → slice_index xs n ≢ slice_index ys n → first_in (all_needs needs (take n ys)) (slice_index ys n) < first_in (all_needs needs (take n ys)) (slice_index xs n)
earlier needs start xs ys n a b same some inside within other =
    let one = needed_front needs start xs ys n a same some inside (omega arith) in
    let two = needed_front needs start ys ys n b refl some within (omega arith) in
    let all : has (all_needs needs ys) (slice_index xs n) ≡ true = ap (λ (l : List ℕ). has l (slice_index xs n)) (all_split needs ys n) ∙ has-append _ _ (slice_index xs n) ∙ or_left _ _ one in
    let at = stands ys (slice_index xs n) (b.closed (slice_index xs n) all) in
    let place_inside = at.inside in
    let not_front : n ≤ at.place = not_less at.place n (λ less. a.distinct at.place n less inside (same_index xs ys n at.place same less ∙ at.is)) in
    let not_here : at.place ≢ n = λ e. other (sym (sym (ap (slice_index ys) e) ∙ at.is)) in
    let less = b.ordered n at.place some (omega arith) at.inside in
    let c = first_common needs ys n (slice_index ys n) two in
    let d = first_common needs ys n (slice_index xs n) one in
    let e = ap (first_in (all_needs needs ys)) at.is in
    omega arith

next_same : (needs : Needs) (start : ℕ) (xs ys : List ℕ) (n : ℕ) → IsSearch needs start xs → IsSearch needs start ys → take n xs ≡ take n ys → 1 ≤ n → n < length xs → n < length ys → slice_index xs n ≡ slice_index ys n
next_same needs start xs ys n a b same some inside within =
    nat_equal (slice_index xs n) (slice_index ys n) (λ other.
    let one = earlier needs start xs ys n a b same some inside within other in
    let two = earlier needs start ys xs n b a (sym same) some within inside (λ e. other (sym e)) in
    let c = ap (λ (l : List ℕ). first_in (all_needs needs l) (slice_index xs n)) same in
    let d = ap (λ (l : List ℕ). first_in (all_needs needs l) (slice_index ys n)) same in
    omega arith)

fronts_same : (needs : Needs) (start : ℕ) (xs ys : List ℕ) (n : ℕ) → IsSearch needs start xs → IsSearch needs start ys → n ≤ length xs → n ≤ length ys → take n xs ≡ take n ys
fronts_same needs start xs ys zero a b inside within = refl
fronts_same needs start xs ys (suc zero) a b inside within =
    ap (λ k. take k xs) (sym (add-one 0)) ∙ take_more xs 0 0 (omega arith) ∙ ap (λ (q : ℕ). q ∷ []) (a.first ∙ sym b.first) ∙ sym (take_more ys 0 0 (omega arith))
fronts_same needs start xs ys (suc (suc n)) a b inside within =
    let before = fronts_same needs start xs ys (suc n) a b (omega arith) (omega arith) in
    let next = next_same needs start xs ys (suc n) a b before (omega arith) (omega arith) (omega arith) in
    ap (λ k. take k xs) (sym (add-one (suc n))) ∙ take_more xs (suc n) 0 (omega arith)
    ∙ ap (λ (l : List ℕ). l ++ slice_index xs (suc n) ∷ []) before ∙ ap (λ (q : ℕ). take (suc n) ys ++ q ∷ []) next
    ∙ sym (take_more ys (suc n) 0 (omega arith)) ∙ ap (λ k. take k ys) (add-one (suc n))

-- and neither is longer
no_longer : (needs : Needs) (start : ℕ) (xs ys : List ℕ) → IsSearch needs start xs → IsSearch needs start ys → length ys ≤ length xs
no_longer needs start xs ys a b = not_less (length xs) (length ys) (λ less.
    let n = length xs in
    let front = fronts_same needs start xs ys n a b (omega arith) (omega arith) in
    let some = a.some in
    let one = needed_front needs start ys xs n b (sym front) some less (omega arith) in
    let all : has (all_needs needs xs) (slice_index ys n) ≡ true = ap (λ (l : List ℕ). has (all_needs needs l) (slice_index ys n)) (sym (take_all n xs (omega arith))) ∙ one in
    let at = stands xs (slice_index ys n) (a.closed (slice_index ys n) all) in
    b.distinct at.place n at.inside less (sym (same_index xs ys n at.place front at.inside) ∙ at.is))

pub one_search : (needs : Needs) (start : ℕ) (xs ys : List ℕ) → IsSearch needs start xs → IsSearch needs start ys → xs ≡ ys
one_search needs start xs ys a b =
    let one = no_longer needs start xs ys a b in
    let two = no_longer needs start ys xs b a in
    sym (take_all (length xs) xs (omega arith)) ∙ fronts_same needs start xs ys (length xs) a b (omega arith) (omega arith)
    ∙ take_all (length xs) ys (omega arith)

pub search_law : (needs : Needs) (start : ℕ) → start < length needs → AreNeeds (length needs) needs → (list : List ℕ) → IsSearch needs start list ↔ (list ≡ search_of needs start)
search_law needs start first all list =
    let P : List ℕ → Type 0 = λ (l : List ℕ). IsSearch needs start l in (
      λ is. one_search needs start list (search_of needs start) is (search_is needs start first all),
      λ same. subst P (sym same) (search_is needs start first all),
    )

pub search_is_at : (needs : Needs) (start : ℕ) (list : List ℕ) → list ≡ search_of needs start → start < length needs → AreNeeds (length needs) needs → IsSearch needs start list
search_is_at needs start list same first all =
    let P : List ℕ → Type 0 = λ (l : List ℕ). IsSearch needs start l in
    subst P (sym same) (search_is needs start first all)

-- what the answer of a call then is
below_all : (count : ℕ) (xs : List ℕ) → ((q : ℕ) → has xs q ≡ true → q < count) → AreBelow count xs
below_all count [] all = tt
below_all count (x ∷ xs) all =
    (all x (let e : (x == x) ≡ true = grind (arith, nat_tests) in rw e refl), below_all count xs (λ q is. all q (either_true (x == q) _ is)))

members_below : (needs : Needs) (start : ℕ) → start < length needs → AreNeeds (length needs) needs → AreBelow (length needs) (search_of needs start)
unfolding search_of
members_below needs start first all = below_all (length needs) _ (λ q is. below_after needs start (length needs) q first all is)

pub ok_few : {X E : Type 0} (view : X → List ℕ) (needs : Needs) (start : ℕ) (r : Result X E) → IfOk r (λ list. view list ≡ search_of needs start) → start < length needs → AreNeeds (length needs) needs → IfOk r (λ list. length (view list) ≤ length needs)
ok_few view needs start (Ok list) same first all = let e = ap (λ (l : List ℕ). length l) same in let h = few needs start first all in omega arith
ok_few view needs start (Err e) same first all = tt

pub ok_members : {X E : Type 0} (view : X → List ℕ) (needs : Needs) (start : ℕ) (r : Result X E) → IfOk r (λ list. view list ≡ search_of needs start) → start < length needs → AreNeeds (length needs) needs → IfOk r (λ list. AreBelow (length needs) (view list))
ok_members view needs start (Ok list) same first all = let P : List ℕ → Type 0 = λ (l : List ℕ). AreBelow (length needs) l in subst P (sym same) (members_below needs start first all)
ok_members view needs start (Err e) same first all = tt

pub ok_search : {X E : Type 0} (view : X → List ℕ) (needs : Needs) (start : ℕ) (r : Result X E) → IfOk r (λ list. view list ≡ search_of needs start) → start < length needs → AreNeeds (length needs) needs → IfOk r (λ list. IsSearch needs start (view list))
ok_search view needs start (Ok list) same first all = search_is_at needs start (view list) same first all
ok_search view needs start (Err e) same first all = tt
