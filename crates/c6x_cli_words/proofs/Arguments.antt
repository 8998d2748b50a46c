use Rattle.std.proofs.Common.{◌≡◌, ℕ, true, false, List, [], ◌∷◌, length, refl, sym, ◌∙◌, ap, subst, arith}
use Rattle.std.specs.Prelude.{IsTrue, Some, codes}
use Rattle.c6x_cli_words.specs.Arguments.{Argument, plan_word, policy_words, seed_words, turns_word, AreSpelled, Begins, is_positional, kind_named, number_of}

-- an option is no file
no_policy_file : (word : List ℕ) → word ≡ codes "--policy" → IsTrue (is_positional word) → ⊥
unfolding is_positional
no_policy_file word is positional =
    let never : false ≡ true = subst (λ w. is_positional w ≡ true) is positional in absurd (cc)

no_seed_file : (word : List ℕ) → word ≡ codes "--seed" → IsTrue (is_positional word) → ⊥
unfolding is_positional
no_seed_file word is positional =
    let never : false ≡ true = subst (λ w. is_positional w ≡ true) is positional in absurd (cc)

no_turns_file : (word : List ℕ) → word ≡ codes "--turns" → IsTrue (is_positional word) → ⊥
unfolding is_positional
no_turns_file word is positional =
    let never : false ≡ true = subst (λ w. is_positional w ≡ true) is positional in absurd (cc)

pub same_head : {A : Type 0} (x y : A) (xs ys : List A) → x ∷ xs ≡ y ∷ ys → x ≡ y
same_head x y xs ys is = cc

pub same_tail : {A : Type 0} (x y : A) (xs ys : List A) → x ∷ xs ≡ y ∷ ys → xs ≡ ys
same_tail x y xs ys is = cc

other_options : codes "--policy" ≡ codes "--seed" → ⊥
other_options is = let long : length (codes "--policy") ≡ length (codes "--seed") = ap length is in omega (arith, long)

policy_turns : codes "--policy" ≡ codes "--turns" → ⊥
policy_turns is = let long : length (codes "--policy") ≡ length (codes "--turns") = ap length is in omega (arith, long)

seed_turns : codes "--seed" ≡ codes "--turns" → ⊥
seed_turns is = let long : length (codes "--seed") ≡ length (codes "--turns") = ap length is in omega (arith, long)

-- words begin with one argument
pub one_argument : (a b : Argument) (words x y : List (List ℕ)) → Begins a words x → Begins b words y → (a ≡ b) × (x ≡ y)
one_argument (plan_word n) (plan_word m) words x y p q =
    (ap plan_word (same_head n m x y (sym p.0 ∙ q.0)), same_tail n m x y (sym p.0 ∙ q.0))
one_argument (plan_word n) (policy_words k) words x y p (name, q) =
    absurd (no_policy_file n (same_head _ _ _ _ (sym p.0 ∙ q.0)) p.1)
one_argument (plan_word n) (seed_words k) words x y p (name, q) = absurd (no_seed_file n (same_head _ _ _ _ (sym p.0 ∙ q.0)) p.1)
one_argument (policy_words k) (plan_word m) words x y (name, p) q =
    absurd (no_policy_file m (same_head _ _ _ _ (sym q.0 ∙ p.0)) q.1)
one_argument (policy_words k) (policy_words l) words x y (name, p) (other, q) =
    let behind = same_tail _ _ _ _ (sym p.0 ∙ q.0) in
    let named : name ≡ other = same_head _ _ _ _ behind in
    let kinds : Some k ≡ Some l = sym p.1 ∙ (ap kind_named named ∙ q.1) in
    (cc, same_tail _ _ _ _ behind)
one_argument (policy_words k) (seed_words l) words x y (name, p) (digits, q) =
    absurd (other_options (same_head _ _ _ _ (sym p.0 ∙ q.0)))
one_argument (seed_words k) (plan_word m) words x y (digits, p) q = absurd (no_seed_file m (same_head _ _ _ _ (sym q.0 ∙ p.0)) q.1)
one_argument (seed_words k) (policy_words l) words x y (digits, p) (name, q) =
    absurd (other_options (same_head _ _ _ _ (sym q.0 ∙ p.0)))
one_argument (seed_words k) (seed_words l) words x y (digits, p) (other, q) =
    let behind = same_tail _ _ _ _ (sym p.0 ∙ q.0) in
    let spelled : digits ≡ other = same_head _ _ _ _ behind in
    let numbers : Some k ≡ Some l = sym p.1 ∙ (ap number_of spelled ∙ q.1) in
    (cc, same_tail _ _ _ _ behind)
one_argument turns_word turns_word words x y p q = (refl, same_tail _ _ _ _ (sym p ∙ q))
one_argument (plan_word n) turns_word words x y p q = absurd (no_turns_file n (same_head _ _ _ _ (sym p.0 ∙ q)) p.1)
one_argument turns_word (plan_word m) words x y p q = absurd (no_turns_file m (same_head _ _ _ _ (sym q.0 ∙ p)) q.1)
one_argument (policy_words k) turns_word words x y (name, p) q = absurd (policy_turns (same_head _ _ _ _ (sym p.0 ∙ q)))
one_argument turns_word (policy_words l) words x y p (name, q) = absurd (policy_turns (same_head _ _ _ _ (sym q.0 ∙ p)))
one_argument (seed_words k) turns_word words x y (digits, p) q = absurd (seed_turns (same_head _ _ _ _ (sym p.0 ∙ q)))
one_argument turns_word (seed_words l) words x y p (digits, q) = absurd (seed_turns (same_head _ _ _ _ (sym q.0 ∙ p)))

pub no_words : {A : Type 0} (x : A) (xs : List A) → [] ≡ x ∷ xs → ⊥
no_words x xs is = let long : 0 ≡ length (x ∷ xs) = ap length is in omega (arith, long)

-- no argument begins where no word is
none_behind : (a : Argument) (rest : List (List ℕ)) → Begins a [] rest → ⊥
none_behind (plan_word n) rest p = absurd (no_words _ _ p.0)
none_behind (policy_words k) rest (name, p) = absurd (no_words _ _ p.0)
none_behind (seed_words k) rest (digits, p) = absurd (no_words _ _ p.0)
none_behind turns_word rest p = absurd (no_words _ _ p)

-- words are spelled by one list of arguments
pub one_spelling : (a b : List Argument) (words : List (List ℕ)) → AreSpelled a words → AreSpelled b words → a ≡ b
one_spelling [] [] words p q = refl
one_spelling [] (y ∷ ys) words p (rest, q) = absurd (none_behind y rest (subst (λ w. Begins y w rest) p q.0))
one_spelling (x ∷ xs) [] words (rest, p) q = absurd (none_behind x rest (subst (λ w. Begins x w rest) q p.0))
one_spelling (x ∷ xs) (y ∷ ys) words (rest, p) (other, q) =
    let same = one_argument x y words rest other p.0 q.0 in
    let later : xs ≡ ys = one_spelling xs ys other (subst (AreSpelled xs) same.1 p.1) q.1 in
    ap (λ a. a ∷ xs) same.0 ∙ ap (λ more. y ∷ more) later
