-- Alignments, one section, common or object on.
use Rattle.std.proofs.Common.{◌≡◌, ℕ, ◌+◌, ◌<◌, ◌≤◌, max, Bool, true, false, List, [], ◌∷◌, Option, None, length, drop, get_or, refl, sym, ap, ◌∙◌, cond, arith, if◌then◌else◌}
use Rattle.std.proofs.lemmas.List.{drop_all, drop_more}
use Rattle.std.proofs.lemmas.List.FromFn.{get_or-enumerate_from, length-enumerate_from}
use Rattle.std.specs.List.{enumerate_from, filter}
use Rattle.c6x_elf.specs.declared.file.File.{File}
use Rattle.c6x_symbols.specs.declared.part.Part.{Part}
use Rattle.c6x_symbols.specs.Bindings.{BoundName, binding_in, no_name}
use Rattle.c6x_symbols.specs.Rules.{Refusal, ◌<|>◌, first_along}
use Rattle.c6x_layout.specs.Alignments.{object_align_refusal}
use Rattle.c6x_layout.specs.Groups.{align_with}
use Rattle.c6x_layout.specs.Layouts.{align_or, greatest_align, greatest_common}
use Rattle.c6x_layout.specs.Places.{common_room, room_of}

filtered_case : {A : Type 0} (refusal : A → Option Refusal) (b : Bool) (x : A) (rest : List A) → first_along refusal (cond b (x ∷ rest) rest) ≡ (if b then refusal x <|> first_along refusal rest else first_along refusal rest)
filtered_case refusal true x rest = refl
filtered_case refusal false x rest = refl

pub filtered_drop : {A : Type 0} (refusal : A → Option Refusal) (test : A → Bool) (xs : List A) (i : ℕ) (d : A) → i < length xs → first_along refusal (filter test (drop i xs)) ≡ (if test (get_or xs i d) then refusal (get_or xs i d) <|> first_along refusal (filter test (drop (i + 1) xs)) else first_along refusal (filter test (drop (i + 1) xs)))
filtered_drop refusal test xs i d below =
    ap (λ ys. first_along refusal (filter test ys)) (drop_more xs i d below)
    ∙ filtered_case refusal (test (get_or xs i d)) (get_or xs i d) (filter test (drop (i + 1) xs))

pub filtered_all : {A : Type 0} (refusal : A → Option Refusal) (test : A → Bool) (xs : List A) (i : ℕ) → length xs ≤ i → first_along refusal (filter test (drop i xs)) ≡ first_along refusal []
filtered_all refusal test xs i past = ap (λ ys. first_along refusal (filter test ys)) (drop_all i xs past)

enumerate_drop : (xs : List File) (i : ℕ) (d : File) → i < length xs → drop i (enumerate_from 0 xs) ≡ (i, get_or xs i d) ∷ drop (i + 1) (enumerate_from 0 xs)
enumerate_drop xs i d below =
    drop_more (enumerate_from 0 xs) i (0, d) (rw (length-enumerate_from 0 xs) below)
    ∙ ap (λ (x : ℕ × File). x ∷ drop (i + 1) (enumerate_from 0 xs)) (get_or-enumerate_from 0 xs i (0, d) below ∙ ap {B = ℕ × File} (λ k. (k, get_or xs i d)) (omega arith))

pub objects_drop : (xs : List File) (i : ℕ) (d : File) → i < length xs → first_along object_align_refusal (drop i (enumerate_from 0 xs)) ≡ (object_align_refusal (i, get_or xs i d) <|> first_along object_align_refusal (drop (i + 1) (enumerate_from 0 xs)))
objects_drop xs i d below = ap (first_along object_align_refusal) (enumerate_drop xs i d below)

-- an object that keeps the rule is passed over, and the first that does not tells the answer
pub objects_pass : (xs : List File) (i : ℕ) (x : File) → i < length xs → x ≡ get_or xs i x → object_align_refusal (i, x) ≡ None → first_along object_align_refusal (drop i (enumerate_from 0 xs)) ≡ first_along object_align_refusal (drop (i + 1) (enumerate_from 0 xs))
objects_pass xs i x below is none =
    objects_drop xs i x below
    ∙ ap (λ r. r <|> first_along object_align_refusal (drop (i + 1) (enumerate_from 0 xs))) (ap {B = Option Refusal} (λ y. object_align_refusal (i, y)) (sym is) ∙ none)

pub objects_here : (xs : List File) (i : ℕ) (x : File) (whole : Option Refusal) → i < length xs → x ≡ get_or xs i x → first_along object_align_refusal (drop i (enumerate_from 0 xs)) ≡ whole → whole ≡ (object_align_refusal (i, x) <|> first_along object_align_refusal (drop (i + 1) (enumerate_from 0 xs)))
objects_here xs i x whole below is was =
    sym was ∙ objects_drop xs i x below
    ∙ ap (λ r. r <|> first_along object_align_refusal (drop (i + 1) (enumerate_from 0 xs))) (ap {B = Option Refusal} (λ y. object_align_refusal (i, y)) (sym is))

pub objects_all : (xs : List File) (i : ℕ) → length xs ≤ i → first_along object_align_refusal (drop i (enumerate_from 0 xs)) ≡ first_along object_align_refusal []
objects_all xs i past =
    ap (first_along object_align_refusal) (drop_all i (enumerate_from 0 xs) (rw (length-enumerate_from 0 xs) past))

-- the greatest so far counts as the least of the rest
greatest_raised : (a least : ℕ) (ps : List Part) → greatest_align (max least a) ps ≡ max a (greatest_align least ps)
greatest_raised a least [] = omega arith
greatest_raised a least (p ∷ ps) = ap (max p.align) (greatest_raised a least ps) ∙ omega arith

greatest_case : (b : Bool) (least : ℕ) (p : Part) (rest : List Part) → greatest_align least (cond b (p ∷ rest) rest) ≡ greatest_align (align_with b least p) rest
greatest_case true least p rest = sym (greatest_raised p.align least rest)
greatest_case false least p rest = refl

pub greatest_drop : (test : Part → Bool) (least : ℕ) (ps : List Part) (i : ℕ) (d : Part) → i < length ps → greatest_align least (filter test (drop i ps)) ≡ greatest_align (align_with (test (get_or ps i d)) least (get_or ps i d)) (filter test (drop (i + 1) ps))
greatest_drop test least ps i d below =
    ap (λ xs. greatest_align least (filter test xs)) (drop_more ps i d below)
    ∙ greatest_case (test (get_or ps i d)) least (get_or ps i d) (filter test (drop (i + 1) ps))

pub greatest_all : (test : Part → Bool) (least : ℕ) (ps : List Part) (i : ℕ) → length ps ≤ i → greatest_align least (filter test (drop i ps)) ≡ least
greatest_all test least ps i past = ap (λ xs. greatest_align least (filter test xs)) (drop_all i ps past)

common_raised : (a least : ℕ) (bs : List BoundName) → greatest_common (max least a) bs ≡ max a (greatest_common least bs)
common_raised a least [] = omega arith
common_raised a least (b ∷ bs) =
    ap (λ n. max (align_or (common_room true b)) (max (align_or (common_room false b)) n)) (common_raised a least bs) ∙ omega arith

pub common_drop : (least : ℕ) (bs : List BoundName) (i : ℕ) → i < length bs → greatest_common least (drop i bs) ≡ greatest_common (max least (max (align_or (room_of true (binding_in (get_or bs i no_name)))) (align_or (room_of false (binding_in (get_or bs i no_name)))))) (drop (i + 1) bs)
unfolding common_room
common_drop least bs i below =
    ap (greatest_common least) (drop_more bs i no_name below)
    ∙ (let near : ℕ = align_or (room_of true (binding_in (get_or bs i no_name))) in
    let far : ℕ = align_or (room_of false (binding_in (get_or bs i no_name))) in
    omega (arith, common_raised (max near far) least (drop (i + 1) bs)))

pub common_all : (least : ℕ) (bs : List BoundName) (i : ℕ) → length bs ≤ i → greatest_common least (drop i bs) ≡ least
common_all least bs i past = ap (greatest_common least) (drop_all i bs past)

pub greatest_next : (test : Part → Bool) (least : ℕ) (ps : List Part) (i : ℕ) (d : Part) (more whole : ℕ) → i < length ps → more ≡ align_with (test (get_or ps i d)) least (get_or ps i d) → greatest_align least (filter test (drop i ps)) ≡ whole → greatest_align more (filter test (drop (i + 1) ps)) ≡ whole
greatest_next test least ps i d more whole below is was =
    ap (λ n. greatest_align n (filter test (drop (i + 1) ps))) is ∙ sym (greatest_drop test least ps i d below) ∙ was
