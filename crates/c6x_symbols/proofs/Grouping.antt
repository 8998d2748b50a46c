-- Groups of mentions, as they grow.
use Rattle.std.proofs.Common.{◌≡◌, ℕ, ◌+◌, ◌<◌, ◌≤◌, ◌⊎◌, ◌≢◌, ◌&&◌, Bool, true, false, List, [], ◌∷◌, ◌++◌, length, get_or, set, map, Option, Some, None, option_map, position, cond, nat_lt, nat_eq, leb, not, filter, inl, inr, length-append, refl, sym, ap, subst, ◌∙◌, if◌then◌else◌, rules, arith}
use Rattle.std.proofs.lemmas.Bool.Decides.{nat_tests, leb_tells}
use Rattle.std.proofs.lemmas.Slice.Eq.{bytes_eq-Decides}
use Rattle.std.proofs.lemmas.List.{map-append, append-nil, length-set, length-map, get_or_default, same_lists, get_or-map, get_or-set_same, get_or-set_other, get_or_append_left, get_or-append-add}
use Rattle.std.proofs.lemmas.List.Elements.{filter-append}
use Rattle.std.proofs.lemmas.List.Folds.{position_or_len_push, list_all-append}
use Rattle.std.proofs.lemmas.List.Sums.{prefix_len-le-length}
use Rattle.std.proofs.lemmas.List.Quantifiers.{position-Some}
use Rattle.std.specs.List.{fold, list_all, list_any, position_or_len}
use Rattle.std.specs.Str.{bytes_eq}
use Rattle.c6x_elf.specs.Visibilities.{Default}
use Rattle.c6x_symbols.specs.Groups.{common_of, first_where, group_of, has_name, is_common, is_strong, is_weak, is_weak_definition, mention_in, names_of, no_group, object_of, of_name, second_where, source_of, stricter}
use Rattle.c6x_symbols.specs.Growth.{AreGroups, common_more, first_or, group_at, second_or, with_mention}
use Rattle.c6x_symbols.specs.Mentions.{Named}
use Rattle.c6x_symbols.specs.Names.{name_at}
use Rattle.c6x_symbols.specs.declared.group.Group.{Group}
use Rattle.c6x_symbols.specs.declared.mention.Mention.{Mention}
use Rattle.c6x_symbols.proofs.Commons.{commons_more}
use Rattle.c6x_symbols.proofs.Finding.{none_found, some_found}
use Rattle.c6x_symbols.proofs.Firsts.{first_map, first_more, second_map, second_more}
use Rattle.c6x_symbols.proofs.Listing.{names_push, same_bytes, self_bytes}

fold_push : {X Y : Type 0} (f : Y → X → Y) (a : Y) (xs : List X) (x : X) → fold f a (xs ++ x ∷ []) ≡ f (fold f a xs) x
fold_push f a [] x = refl
fold_push f a (y ∷ xs) x = fold_push f (f a y) xs x

and_true : (b : Bool) → (b && true) ≡ b
and_true true = refl
and_true false = refl

pub group_more : (ms : List Mention) (m : Mention) → group_of (ms ++ m ∷ []) ≡ with_mention (group_of ms) m
unfolding group_of with_mention
group_more ms m =
    let strong = ap (option_map source_of) (first_more is_strong ms m) ∙ first_map source_of (first_where is_strong ms) (is_strong m) m in
    let second = ap (option_map object_of) (second_more is_strong ms m) ∙ second_map source_of object_of (first_where is_strong ms) (second_where is_strong ms) (is_strong m) m in
    let common = commons_more ms m in
    let weak = ap (option_map source_of) (first_more is_weak_definition ms m) ∙ first_map source_of (first_where is_weak_definition ms) (is_weak_definition m) m in
    let all = list_all-append is_weak ms (m ∷ []) ∙ ap (λ b. list_all is_weak ms && b) (and_true (is_weak m)) in
    let shown = fold_push stricter Default ms m in
    λ i. record { strong = strong i; second = second i; common = common i; weak = weak i; all_weak = all i; visibility = shown i }

-- a name that is found
found_is : (names : List (List ℕ)) (q : List ℕ) (i : ℕ) → name_at names q ≡ Some i → (i < length names) × (bytes_eq (get_or names i []) q ≡ true)
unfolding name_at
found_is names q i is = let p = position-Some (λ n. bytes_eq n q) names i [] is in (p.0, p.1)

decided : (a l : ℕ) (b : Bool) → a ≤ l → cond (nat_lt (cond (nat_eq a l) (l + cond b 0 1) a) (l + 1)) (Some (cond (nat_eq a l) (l + cond b 0 1) a)) None ≡ first_or (cond (nat_lt a l) (Some a) None) b l
decided a l b within = elim (leb_tells l a) [
  | inr (_, below) ↦
      let t1 : nat_eq a l ≡ false = grind (arith, nat_tests) in
      let t2 : nat_lt a l ≡ true = grind (arith, nat_tests) in
      let t3 : nat_lt a (l + 1) ≡ true = grind (arith, nat_tests) in
      rw (t1, t2, t3) refl
  | inl (_, from) ↦
      let same : a ≡ l = omega arith in
      let t1 : nat_eq a l ≡ true = grind (arith, nat_tests) in
      let t2 : nat_lt a l ≡ false = grind (arith, nat_tests) in
      rw (t1, t2) (last b)
]
  where
    last : (c : Bool) → cond (nat_lt (l + cond c 0 1) (l + 1)) (Some (l + cond c 0 1)) None ≡ first_or None c l
    last true = let t : nat_lt (l + 0) (l + 1) ≡ true = grind (arith, nat_tests) in let e : l + 0 ≡ l = omega arith in rw t (ap Some e)
    last false = let t : nat_lt (l + 1) (l + 1) ≡ false = grind (arith, nat_tests) in rw t refl

place_push : (names : List (List ℕ)) (n q : List ℕ) → name_at (names ++ n ∷ []) q ≡ first_or (name_at names q) (bytes_eq n q) (length names)
unfolding name_at
place_push names n q =
    let more : length (names ++ n ∷ []) ≡ length names + 1 = length-append names (n ∷ []) in
    let within : position_or_len (λ x. bytes_eq x q) names ≤ length names = prefix_len-le-length (λ x. not (bytes_eq x q)) names in
    rw (position_or_len_push (λ x. bytes_eq x q) names n, more) (decided (position_or_len (λ x. bytes_eq x q) names) (length names) (bytes_eq n q) within)

of_more : (q n : List ℕ) (m : Mention) (xs : List Named) (b : Bool) → bytes_eq n q ≡ b → of_name q (xs ++ (n, m) ∷ []) ≡ (if b then of_name q xs ++ m ∷ [] else of_name q xs)
unfolding of_name
of_more q n m xs true is =
    ap (map mention_in) (filter-append (has_name q) xs ((n, m) ∷ []))
    ∙ rw is (map-append mention_in (filter (has_name q) xs) ((n, m) ∷ []))
of_more q n m xs false is =
    ap (map mention_in) (filter-append (has_name q) xs ((n, m) ∷ []))
    ∙ rw is (ap (map mention_in) (append-nil (filter (has_name q) xs)))

is_there : (names : List (List ℕ)) (q : List ℕ) (i : ℕ) → name_at names q ≡ Some i → list_any (λ n. bytes_eq n q) names ≡ true
unfolding name_at
is_there names q i is = some_found (λ n. bytes_eq n q) names i is

is_absent : (names : List (List ℕ)) (q : List ℕ) → name_at names q ≡ None → list_any (λ n. bytes_eq n q) names ≡ false
unfolding name_at
is_absent names q is = none_found (λ n. bytes_eq n q) names is

-- a mention of a name that is there
pub add_known : (xs : List Named) (names : List (List ℕ)) (list : List Group) (n : List ℕ) (m : Mention) (i : ℕ) → AreGroups xs names list → name_at names n ≡ Some i → AreGroups (xs ++ (n, m) ∷ []) names (set list i (with_mention (get_or list i no_group) m))
add_known xs names list n m i was is =
    let there = found_is names n i is in
    let any = is_there names n i is in
    let inside : i < length list = omega (arith, there.0, was.size) in
    record {
      listed = was.listed ∙ sym (names_push xs (n, m) ∙ rw (← was.listed, any) refl);
      size = length-set list i (with_mention (get_or list i no_group) m) ∙ was.size;
      own = was.own;
      each = λ q. by_test q (bytes_eq n q) refl;
    }
  where
    by_test : (q : List ℕ) (b : Bool) → bytes_eq n q ≡ b → group_at (set list i (with_mention (get_or list i no_group) m)) (name_at names q) ≡ group_of (of_name q (xs ++ (n, m) ∷ []))
    by_test q true eq =
        let there = found_is names n i is in
        let inside : i < length list = omega (arith, there.0, was.size) in
        let same : name_at names q ≡ Some i = ap (name_at names) (sym (same_bytes n q eq)) ∙ is in
        let had : get_or list i no_group ≡ group_of (of_name q xs) = ap (group_at list) (sym same) ∙ was.each q in
        ap (group_at (set list i (with_mention (get_or list i no_group) m))) same
        ∙ get_or-set_same list i (with_mention (get_or list i no_group) m) no_group inside
        ∙ ap (λ g. with_mention g m) had
        ∙ sym (group_more (of_name q xs) m)
        ∙ ap group_of (sym (of_more q n m xs true eq))
    by_test q false eq = other (name_at names q) refl ∙ was.each q ∙ ap group_of (sym (of_more q n m xs false eq))
      where
        other : (o : Option ℕ) → name_at names q ≡ o → group_at (set list i (with_mention (get_or list i no_group) m)) (name_at names q) ≡ group_at list (name_at names q)
        other None none = rw none refl
        other (Some j) some =
            let there = found_is names n i is in
            let here = found_is names q j some in
            let apart : j ≢ i = λ e. absurd (cc (
              eq,
              ap (bytes_eq n) (sym (same_bytes (get_or names j []) q here.1) ∙ ap (λ k. get_or names k []) e ∙ same_bytes (get_or names i []) n there.1),
              self_bytes n,
            )) in
            rw some (get_or-set_other list i j (with_mention (get_or list i no_group) m) no_group apart)

-- a mention of a new name
pub add_new : (xs : List Named) (names : List (List ℕ)) (list : List Group) (n : List ℕ) (m : Mention) → AreGroups xs names list → name_at names n ≡ None → AreGroups (xs ++ (n, m) ∷ []) (names ++ n ∷ []) (list ++ with_mention no_group m ∷ [])
add_new xs names list n m was is = record {
  listed = ap (λ ns. ns ++ n ∷ []) was.listed ∙ sym (names_push xs (n, m) ∙ rw (← was.listed, is_absent names n is) refl);
  size = length-append list (with_mention no_group m ∷ []) ∙ ap (λ k. k + 1) was.size ∙ sym (length-append names (n ∷ []));
  own = λ place below. own_place place below (leb_tells (length names) place);
  each = λ q. by_test q (bytes_eq n q) refl;
}
  where
    own_place : (place : ℕ) → place < length (names ++ n ∷ []) → ((leb (length names) place ≡ true) × (length names ≤ place)) ⊎ ((leb (length names) place ≡ false) × (place < length names)) → name_at (names ++ n ∷ []) (get_or (names ++ n ∷ []) place []) ≡ Some place
    own_place place below (inr (_, less)) =
        rw (get_or_append_left names (n ∷ []) [] place less)
        (place_push names n (get_or names place []) ∙ ap (λ o. first_or o (bytes_eq n (get_or names place [])) (length names)) (was.own place less))
    own_place place below (inl (_, from)) =
        let more : length (names ++ n ∷ []) ≡ length names + 1 = length-append names (n ∷ []) in
        let e : length names + 0 ≡ place = omega arith in
        let got : get_or (names ++ n ∷ []) place [] ≡ n = ap (λ k. get_or (names ++ n ∷ []) k []) (sym e) ∙ get_or-append-add names (n ∷ []) 0 [] in
        let z : length names ≡ place = omega arith in
        rw got (place_push names n n ∙ rw (is, self_bytes n) (ap Some z))

    by_test : (q : List ℕ) (b : Bool) → bytes_eq n q ≡ b → group_at (list ++ with_mention no_group m ∷ []) (name_at (names ++ n ∷ []) q) ≡ group_of (of_name q (xs ++ (n, m) ∷ []))
    by_test q true eq =
        let none : name_at names q ≡ None = ap (name_at names) (sym (same_bytes n q eq)) ∙ is in
        let empty : no_group ≡ group_of (of_name q xs) = ap (group_at list) (sym none) ∙ was.each q in
        let e : length list + 0 ≡ length names = omega (arith, was.size) in
        let now : name_at (names ++ n ∷ []) q ≡ Some (length names) = place_push names n q ∙ rw (none, eq) refl in
        ap (group_at (list ++ with_mention no_group m ∷ [])) now
        ∙ ap (λ k. get_or (list ++ with_mention no_group m ∷ []) k no_group) (sym e)
        ∙ get_or-append-add list (with_mention no_group m ∷ []) 0 no_group
        ∙ ap (λ g. with_mention g m) empty
        ∙ sym (group_more (of_name q xs) m)
        ∙ ap group_of (sym (of_more q n m xs true eq))
    by_test q false eq = other (name_at names q) refl ∙ was.each q ∙ ap group_of (sym (of_more q n m xs false eq))
      where
        other : (o : Option ℕ) → name_at names q ≡ o → group_at (list ++ with_mention no_group m ∷ []) (name_at (names ++ n ∷ []) q) ≡ group_at list (name_at names q)
        other None none =
            let now : name_at (names ++ n ∷ []) q ≡ None = place_push names n q ∙ rw (none, eq) refl in
            rw (now, none) refl
        other (Some j) some =
            let here = found_is names q j some in
            let now : name_at (names ++ n ∷ []) q ≡ Some j = place_push names n q ∙ rw some refl in
            rw (now, some) (get_or_append_left list (with_mention no_group m ∷ []) no_group j (omega (arith, here.0, was.size)))

pub no_groups : (names : List (List ℕ)) (list : List Group) → names ≡ [] → list ≡ [] → AreGroups [] names list
unfolding of_name group_of no_group name_at common_of
no_groups names list none empty =
    let P : List (List ℕ) → Type 0 = λ ns. AreGroups [] ns list in
    let Q : List Group → Type 0 = λ gs. AreGroups [] [] gs in
    subst P (sym none) (subst Q (sym empty) (record {
      listed = refl;
      size = refl;
      own = λ place below. absurd (omega arith);
      each = λ name. refl;
    }))

-- the groups are those of the names in order
pub whole : (xs : List Named) (names : List (List ℕ)) (list : List Group) → AreGroups xs names list → list ≡ map (λ name. group_of (of_name name xs)) names
whole xs names list was =
    let f : List ℕ → Group = λ n. group_of (of_name n xs) in
    same_lists list (map f names) (was.size ∙ sym (length-map names f)) (λ k d below.
    let inside : k < length names = omega (arith, was.size) in
    get_or_default list k d no_group below
    ∙ ap (group_at list) (sym (was.own k inside))
    ∙ was.each (get_or names k [])
    ∙ sym (get_or-map f names k [] d inside))

-- nothing is added
pub no_more : (xs : List Named) (names : List (List ℕ)) (list : List Group) → AreGroups xs names list → AreGroups (xs ++ []) names list
no_more xs names list was = let P : List Named → Type 0 = λ ys. AreGroups ys names list in subst P (sym (append-nil xs)) was
