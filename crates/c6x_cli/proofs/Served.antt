use Rattle.std.proofs.Common.{◌≡◌, ◌∙◌, ℕ, ◌+◌, ◌<◌, Bool, true, false, zero, suc, List, [], ◌∷◌, length, get_or, cond, not, refl, sym, ap, subst, ltb-true, ltb-false, arith}
use Rattle.std.proofs.lemmas.Bool.{lt-ltb, false_from_ne_true}
use Rattle.std.specs.Prelude.{Option, None, Some, IsTrue, Result, is_some, map, nat_lt, set, slice_get, if◌then◌else◌}
use Rattle.std.specs.List.{position, position_or_len, prefix_len}
use Rattle.std.proofs.lemmas.List.Quantifiers.{position-Some}
use Rattle.std.proofs.lemmas.List.Sums.{position_or_len_is}
use Rattle.std.specs.Option.{option_map}
use Rattle.std.proofs.lemmas.Option.{slice_get-map}
use Rattle.c6x_ports.specs.Chooser.{Chooser}
use Rattle.c6x_ports.specs.declared.kind.Kind.{Kind}
use Rattle.c6x_ports.specs.declared.kind.Kind.TheVariants.{Round, Last, Drawn, Other}
use Rattle.c6x_spec.specs.Memory.{Memory}
use Rattle.c6x_ports.specs.Shelf.{Shelved}
use Rattle.c6x_ports.specs.Sink.{Taken}
use Rattle.c6x_cli_steps.specs.declared.commit_error.CommitError.{CommitError}
use Rattle.c6x_cli_run.specs.Exits.{Carries, asking_outcome}
use Rattle.c6x_cli_steps.specs.Policies.{first_of, same_kind, Serves}
use Rattle.c6x_cli_steps.specs.World.{world}
use Rattle.c6x_cli_run.proofs.Performs.{carries_asking}
use Rattle.c6x_cli_steps.proofs.Policies.{map_set}
use Rattle.c6x_cli_run.specs.declared.loading.Loading.{Loading}
use Rattle.c6x_cli_run.specs.Tellings.{Telling, Tells}
use Rattle.c6x_cli_run.specs.Stages.{asked_of}
use Rattle.c6x_cli_words.specs.Requests.{IsReading}
use Rattle.c6x_cli_words.specs.declared.request.Request.{Request}
use Rattle.c6x_cli_words.proofs.Verbs.{one_reading}
use Rattle.c6x_cli.specs.Meaning.{HasPolicy}
use Rattle.c6x_cli.specs.Serving.{served, served_by}

kinds_same : (a b : Kind) → same_kind a b ≡ true → a ≡ b
kinds_same Round Round is = refl
kinds_same Last Last is = refl
kinds_same Drawn Drawn is = refl
kinds_same Other Other is = refl
kinds_same Round Last is = absurd (cc)
kinds_same Round Drawn is = absurd (cc)
kinds_same Round Other is = absurd (cc)
kinds_same Last Round is = absurd (cc)
kinds_same Last Drawn is = absurd (cc)
kinds_same Last Other is = absurd (cc)
kinds_same Drawn Round is = absurd (cc)
kinds_same Drawn Last is = absurd (cc)
kinds_same Drawn Other is = absurd (cc)
kinds_same Other Round is = absurd (cc)
kinds_same Other Last is = absurd (cc)
kinds_same Other Drawn is = absurd (cc)

-- the reading that words have is what was read
pub served_reading : (words : List (List ℕ)) (read parsed : Option Request) (policies : List Chooser) (result : Option Request) → IsReading words parsed → IsReading words read → result ≡ served parsed policies → result ≡ served read policies
served_reading words read parsed policies result is other so =
    so ∙ ap (λ r. served r policies) (one_reading words parsed read is other)

-- what is served has its policy
pub served_there : (request : Request) (kind : Option Kind) (policies : List Chooser) → served_by (Some request) kind policies ≡ Some request → HasPolicy kind policies
served_there request None policies is = tt
served_there request (Some kind) policies is = by_test (is_some (first_of kind policies)) is
  where
    by_test : (test : Bool) → (if test then Some request else None) ≡ Some request → IsTrue test
    by_test true is = refl
    by_test false is = absurd (cc)

prefix_map : {A B : Type 0} (view : A → B) (test : B → Bool) (xs : List A) → prefix_len test (map view xs) ≡ prefix_len (λ x. test (view x)) xs
prefix_map view test [] = refl
prefix_map view test (x ∷ xs) = by_test (test (view x)) _ _ (prefix_map view test xs)
  where
    by_test : (here : Bool) (a b : ℕ) → a ≡ b → cond here (1 + a) 0 ≡ cond here (1 + b) 0
    by_test true a b is = ap (λ n. 1 + n) is
    by_test false a b is = refl

length_map : {A B : Type 0} (view : A → B) (xs : List A) → length (map view xs) ≡ length xs
length_map view [] = refl
length_map view (x ∷ xs) = ap suc (length_map view xs)

-- the first place among what is seen is the first place
pub position_map : {A B : Type 0} (view : A → B) (test : B → Bool) (xs : List A) → position test (map view xs) ≡ position (λ x. test (view x)) xs
position_map view test xs =
    ap (λ n. cond (nat_lt n (length (map view xs))) (Some n) None) (prefix_map view (λ x. not (test x)) xs)
    ∙ ap (λ m. cond (nat_lt (position_or_len (λ x. test (view x)) xs) m) (Some (position_or_len (λ x. test (view x)) xs)) None) (length_map view xs)

got_or : {A : Type 0} (xs : List A) (place : ℕ) (x d : A) → slice_get xs place ≡ Some x → get_or xs place d ≡ x
got_or [] place x d is = absurd (cc)
got_or (y ∷ xs) zero x d is = cc
got_or (y ∷ xs) (suc place) x d is = got_or xs place x d is

got : {A : Type 0} (xs : List A) (place : ℕ) (x : A) → place < length xs → x ≡ get_or xs place x → slice_get xs place ≡ Some x
got [] place x within is = absurd (omega (arith, within))
got (y ∷ xs) zero x within is = ap Some (sym is)
got (y ∷ xs) (suc place) x within is = got xs place x (omega (arith, within)) is

-- one more place that does not pass
pub before_next : {A : Type 0} (test : A → Bool) (xs : List A) (place : ℕ) (x : A) → ((k : ℕ) (d : A) → k < place → test (get_or xs k d) ≡ false) → place < length xs → x ≡ get_or xs place x → test x ≡ false → (k : ℕ) (d : A) → k < place + 1 → test (get_or xs k d) ≡ false
before_next test xs place x before within is here k d below = by_test (nat_lt k place) refl
  where
    by_test : (b : Bool) → nat_lt k place ≡ b → test (get_or xs k d) ≡ false
    by_test true less = before k d (ltb-true k place less)
    by_test false not_less =
        let same : k ≡ place = omega (arith, ltb-false k place not_less, below) in
        subst (λ j. test (get_or xs j d) ≡ false) (sym same) (subst (λ y. test y ≡ false) (sym (got_or xs place x d (got xs place x within is))) here)

-- a first place that passes
pub found_at : {A : Type 0} (test : A → Bool) (xs : List A) (place : ℕ) (x : A) → place < length xs → ((k : ℕ) → k < place → test (get_or xs k x) ≡ false) → x ≡ get_or xs place x → test x ≡ true → position test xs ≡ Some place
found_at test xs place x within before is here =
    let first : position_or_len test xs ≡ place = position_or_len_is test xs place x (omega (arith, within)) before (λ _. subst (λ y. test y ≡ true) is here) in
    ap (λ n. cond (nat_lt n (length xs)) (Some n) None) first ∙ ap (λ b. cond b (Some place) None) (lt-ltb place (length xs) within)

-- or none
pub found_none : {A : Type 0} (test : A → Bool) (xs : List A) (place : ℕ) → place ≡ length xs → ((k : ℕ) (d : A) → k < place → test (get_or xs k d) ≡ false) → position test xs ≡ None
found_none test [] place is before = refl
found_none test (y ∷ xs) place is before =
    let first : position_or_len test (y ∷ xs) ≡ place = position_or_len_is test (y ∷ xs) place y (omega (arith, is)) (λ k. before k y) (λ within. absurd (omega (arith, within, is))) in
    ap (λ n. cond (nat_lt n (length (y ∷ xs))) (Some n) None) first ∙ ap (λ b. cond b (Some place) None) (false_from_ne_true (nat_lt place (length (y ∷ xs))) (λ less. omega (arith, is, ltb-true place (length (y ∷ xs)) less)))

-- the first policy of a kind is of it
first_is : (kind : Kind) (policies : List Chooser) (place : ℕ) (was : Chooser) → first_of kind policies ≡ Some place → slice_get policies place ≡ Some was → was.kind ≡ kind
unfolding first_of
first_is kind policies place was found there =
    let passes = (position-Some (λ policy. same_kind policy.kind kind) policies place was found).1 in
    kinds_same was.kind kind (subst (λ policy. same_kind policy.kind kind ≡ true) (got_or policies place was was there) passes)

-- what is asked of the first policy of a kind carries out a command that asks it
pub asking_carries : {A B : Type 0} (view : B → Chooser) (items now : List B) (place : ℕ) (was new : B) (kind : Kind) (seed : ℕ) (loading : Loading) (telling : Kind → Telling) (out new_out : Taken) (board new_board : Memory) (result : Result A CommitError) (shelf : Shelved) (err : Taken) → first_of kind (map view items) ≡ Some place → place < length items → was ≡ get_or items place was → now ≡ set items place new → Tells (telling (view was).kind) out new_out board new_board result → Serves (asked_of (view was).kind seed loading) (view was) (view new) result → Carries (asking_outcome (telling kind) (asked_of kind seed loading)) result (world shelf out err board (map view items)) (world shelf new_out err new_board (map view now))
asking_carries view items now place was new kind seed loading telling out new_out board new_board result shelf err found within at is tells serves =
    let seen : slice_get (map view items) place ≡ Some (view was) = slice_get-map view items place ∙ ap (option_map view) (got items place was within at) in
    let of : (view was).kind ≡ kind = first_is kind (map view items) place (view was) found seen in
    let told : Tells (telling kind) out new_out board new_board result = subst (λ k. Tells (telling k) out new_out board new_board result) of tells in
    let asked : Serves (asked_of kind seed loading) (view was) (view new) result = subst (λ k. Serves (asked_of k seed loading) (view was) (view new) result) of serves in
    let after : map view now ≡ set (map view items) place (view new) = ap (map view) is ∙ map_set view items place new in
    subst (λ policies. Carries (asking_outcome (telling kind) (asked_of kind seed loading)) result (world shelf out err board (map view items)) (world shelf new_out err new_board policies)) (sym after)
    (carries_asking (telling kind) (asked_of kind seed loading) out new_out board new_board (map view items) place (view was) (view new) result shelf err told asked found seen)

-- a policy that is there is found
pub none_there : (kind : Kind) (policies : List Chooser) → HasPolicy (Some kind) policies → first_of kind policies ≡ None → ⊥
none_there kind policies there none = let never : false ≡ true = subst (λ o. is_some o ≡ true) none there in absurd (cc)
