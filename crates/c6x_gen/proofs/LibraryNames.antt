-- The names of the libraries may stand as symbols, and so may `start`.
use Rattle.std.proofs.Common.{◌≡◌, ℕ, suc, zero, ◌<◌, nat_le, eqb, Bool, true, false, not, ◌&&◌, ◌||◌, length, codes, refl, sym, ◌∙◌, ap, arith, ⊎_elim}
use Rattle.std.proofs.lemmas.Bool.{and_parts, cases_eq, true≢false}
use Rattle.std.specs.Fmt.{digits}
use Rattle.std.specs.Str.{bytes_eq}
use Rattle.c6x_asm_lines.specs.Lexemes.{class_of, register_of}
use Rattle.c6x_asm_lines.specs.declared.word.WordClass.{WordClass}
use Rattle.c6x_asm_lines.specs.declared.word.WordClass.TheVariants.{Other}
use Rattle.c6x_dis.specs.Pieces.{is_word}
use Rattle.c6x_gen.specs.Sources.{library_name}
use Rattle.c6x_gen.proofs.Steps.{IsName}

abbrev is_other : WordClass → Bool
is_other Other = true
is_other _ = false

other_is : (class : WordClass) → is_other class ≡ true → class ≡ Other
other_is Other is = refl
other_is _ is = absurd (true≢false (sym is))

-- what is asked of a library's name
is_good : ℕ → Bool
is_good library =
    is_word (library_name library)
    && (is_other (class_of (library_name library)) && (nat_le (length (library_name library)) 64 && not (bytes_eq (library_name library) (codes "count"))))

pub all_below : ℕ → (ℕ → Bool) → Bool
all_below zero p = true
all_below (suc n) p = p n && all_below n p

pub from_all : (n : ℕ) (p : ℕ → Bool) (k : ℕ) → all_below n p ≡ true → k < n → p k ≡ true
unfolding all_below
from_all zero p k all below = absurd (omega arith)
from_all (suc n) p k all below =
    ⊎_elim
    (λ same. ap p same ∙ (and_parts (p n) (all_below n p) all).0)
    (λ differs. from_all n p k (and_parts (p n) (all_below n p) all).1 (omega arith))
    (cases_eq k n)

all_good : all_below 12 is_good ≡ true
unfolding all_below is_good class_of register_of digits
all_good = refl

pub none : (b : Bool) → not b ≡ true → b ≡ false
none true is = sym is
none false is = refl

pub library_named : (library : ℕ) → library < 12 → IsName (library_name library)
unfolding is_good
library_named library below =
    let all = and_parts (is_word (library_name library)) _ (from_all 12 is_good library all_good below) in
    let behind = and_parts (is_other (class_of (library_name library))) _ all.1 in
    let last = and_parts (nat_le (length (library_name library)) 64) _ behind.1 in
    record { token = all.0; class = other_is (class_of (library_name library)) behind.0; short = last.0 }

pub library_apart : (library : ℕ) → library < 12 → bytes_eq (library_name library) (codes "count") ≡ false
unfolding is_good
library_apart library below =
    let all = and_parts (is_word (library_name library)) _ (from_all 12 is_good library all_good below) in
    let behind = and_parts (is_other (class_of (library_name library))) _ all.1 in
    let last = and_parts (nat_le (length (library_name library)) 64) _ behind.1 in
    none (bytes_eq (library_name library) (codes "count")) last.1

pub start_named : IsName (codes "start")
unfolding class_of register_of
start_named = record { token = refl; class = refl; short = refl }

-- no two libraries have the same name
differ_from : ℕ → ℕ → Bool
differ_from a b = eqb a b || not (bytes_eq (library_name a) (library_name b))

all_differ : all_below 12 (λ a. all_below 12 (differ_from a)) ≡ true
unfolding all_below differ_from digits
all_differ = refl

pub libraries_differ : (a b : ℕ) → a < 12 → b < 12 → eqb a b ≡ false → bytes_eq (library_name a) (library_name b) ≡ false
unfolding differ_from
libraries_differ a b below other differs =
    let one = from_all 12 (differ_from a) b (from_all 12 (λ c. all_below 12 (differ_from c)) a all_differ below) other in
    none (bytes_eq (library_name a) (library_name b)) (ap (λ t. t || not (bytes_eq (library_name a) (library_name b))) (sym differs) ∙ one)

pub start_apart : (library : ℕ) → bytes_eq (codes "start") (library_name library) ≡ false
start_apart library = refl
