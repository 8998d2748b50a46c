-- Names with their groups as one list.
use Rattle.std.proofs.Common.{◌≡◌, ℕ, zero, suc, ◌+◌, ◌^◌, ◌<◌, ◌≤◌, Bool, true, false, List, [], ◌∷◌, ◌++◌, length, map, get_or, drop, drop-cons, add-one, Option, refl, sym, ap, ◌∙◌, subst, if◌then◌else◌, arith}
use Rattle.std.proofs.lemmas.List.{length-map, append-nil}
use Rattle.c6x_symbols.specs.Bindings.{BoundName, bound_name, bound_refusal, name_in, no_name, numbers_where}
use Rattle.c6x_symbols.specs.Groups.{group_of, names_of, no_group, of_name}
use Rattle.c6x_symbols.specs.Growth.{AreGroups, AreInStep, bound_names}
use Rattle.c6x_symbols.specs.Mentions.{Named}
use Rattle.c6x_symbols.specs.Rules.{Refusal, ◌<|>◌, first_along}
use Rattle.c6x_symbols.specs.declared.group.Group.{Group}
use Rattle.c6x_symbols.proofs.Grouping.{whole}

pub bound_length : (names : List (List ℕ)) (groups : List Group) → length groups ≡ length names → length (bound_names names groups) ≡ length names
bound_length [] groups same = refl
bound_length (n ∷ names) [] same = absurd (omega arith)
bound_length (n ∷ names) (g ∷ groups) same = ap suc (bound_length names groups (omega arith))

pub bound_here : (names : List (List ℕ)) (groups : List Group) (k : ℕ) → length groups ≡ length names → k < length names → get_or (bound_names names groups) k no_name ≡ record { name = get_or names k []; group = get_or groups k no_group }
bound_here [] groups k same below = absurd (omega arith)
bound_here (n ∷ names) [] k same below = absurd (omega arith)
bound_here (n ∷ names) (g ∷ groups) zero same below = refl
bound_here (n ∷ names) (g ∷ groups) (suc k) same below = bound_here names groups k (omega arith) (omega arith)

pub names_bound : (names : List (List ℕ)) (groups : List Group) → length groups ≡ length names → map name_in (bound_names names groups) ≡ names
names_bound [] groups same = refl
names_bound (n ∷ names) [] same = absurd (omega arith)
names_bound (n ∷ names) (g ∷ groups) same = ap (λ ns. n ∷ ns) (names_bound names groups (omega arith))

bound_map : (xs : List Named) (names : List (List ℕ)) → bound_names names (map (λ name. group_of (of_name name xs)) names) ≡ map (bound_name xs) names
bound_map xs [] = refl
bound_map xs (n ∷ names) = ap (λ bs. bound_name xs n ∷ bs) (bound_map xs names)

pub all_bound : (xs : List Named) (names : List (List ℕ)) (groups : List Group) → AreGroups xs names groups → bound_names names groups ≡ map (bound_name xs) (names_of xs)
all_bound xs names groups was =
    ap (bound_names names) (whole xs names groups was) ∙ bound_map xs names ∙ ap (map (bound_name xs)) was.listed

pub in_step : (xs : List Named) (names : List (List ℕ)) (groups : List Group) → AreGroups xs names groups → length names ≤ 2 ^ 28 → AreInStep names groups
in_step xs names groups was few = record { size = was.size; few = few }

-- one name less to go through
pub numbers_here : (test : BoundName → Bool) (bs : List BoundName) (i : ℕ) → i < length bs → test (get_or bs i no_name) ≡ true → numbers_where test i (drop i bs) ≡ i ∷ numbers_where test (i + 1) (drop (i + 1) bs)
numbers_here test bs i below is = ap (numbers_where test i) (drop-cons bs i no_name below) ∙ rw is (rw (add-one i) refl)

pub numbers_past : (test : BoundName → Bool) (bs : List BoundName) (i : ℕ) → i < length bs → test (get_or bs i no_name) ≡ false → numbers_where test i (drop i bs) ≡ numbers_where test (i + 1) (drop (i + 1) bs)
numbers_past test bs i below is = ap (numbers_where test i) (drop-cons bs i no_name below) ∙ rw is (rw (add-one i) refl)

pub names_drop : (bs : List BoundName) (i : ℕ) → i < length bs → first_along bound_refusal (drop i bs) ≡ (bound_refusal (get_or bs i no_name) <|> first_along bound_refusal (drop (i + 1) bs))
names_drop bs i below = ap (first_along bound_refusal) (drop-cons bs i no_name below) ∙ rw (add-one i) refl
