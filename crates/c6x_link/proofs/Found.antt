-- The part of a section with memory, and where its place lies.
use Rattle.std.proofs.Common.{◌≡◌, ℕ, zero, suc, ◌+◌, ◌-◌, ◌*◌, ◌<◌, ◌≤◌, ◌==◌, ◌&&◌, not, Bool, true, false, List, [], ◌∷◌, ◌++◌, Option, None, Some, length, get_or, map, refl, sym, ap, subst, ◌∙◌, arith, if◌then◌else◌}
use Rattle.std.specs.Prelude.{filter, slice_get}
use Rattle.std.specs.List.{enumerate_from, flat_map}
use Rattle.std.proofs.lemmas.Bool.Decides.{nat_tests}
use Rattle.c6x_elf.specs.Parts.{has_bytes}
use Rattle.c6x_elf.specs.declared.file.File.{File}
use Rattle.c6x_elf.specs.declared.section.Section.{Section}
use Rattle.c6x_symbols.specs.Parts.{file_parts, part_at, part_of, parts_of}
use Rattle.c6x_symbols.specs.Sections.{is_allocated}
use Rattle.c6x_symbols.specs.declared.part.Part.{Part}
use Rattle.c6x_link.proofs.Inside.{AreThe, has_part, of_part}

are_append : (object section : ℕ) (the : Part) (ps qs : List Part) → AreThe object section the ps → AreThe object section the qs → AreThe object section the (ps ++ qs)
are_append object section the [] qs a b = b
are_append object section the (p ∷ ps) qs a b = (a.0, are_append object section the ps qs a.1 b)

either_has : (b x : Bool) → x ≡ true → (if b then true else x) ≡ true
either_has true x is = refl
either_has false x is = is

has_left : (object section : ℕ) (ps qs : List Part) → has_part ps object section ≡ true → has_part (ps ++ qs) object section ≡ true
has_left object section [] qs has = absurd (cc has)
has_left object section (p ∷ ps) qs has = left (of_part object section p) (has_part ps object section) (has_part (ps ++ qs) object section) has (has_left object section ps qs)
  where
    left : (b x y : Bool) → (if b then true else x) ≡ true → (x ≡ true → y ≡ true) → (if b then true else y) ≡ true
    left true x y is next = refl
    left false x y is next = next is

has_right : (object section : ℕ) (ps qs : List Part) → has_part qs object section ≡ true → has_part (ps ++ qs) object section ≡ true
has_right object section [] qs has = has
has_right object section (p ∷ ps) qs has = either_has (of_part object section p) (has_part (ps ++ qs) object section) (has_right object section ps qs has)

and_left : (a b : Bool) → (a && b) ≡ true → a ≡ true
and_left true b e = refl
and_left false b e = absurd (cc e)

and_right : (a b : Bool) → (a && b) ≡ true → b ≡ true
and_right true b e = e
and_right false b e = absurd (cc e)

same_number : (a b : ℕ) → (a == b) ≡ true → a ≡ b
same_number a b is = grind (arith, nat_tests, is)

number_same : (a : ℕ) → (a == a) ≡ true
number_same a = grind (arith, nat_tests)

-- the section of a part
record Names (object section : ℕ) (file : File) (own : Section) : Type 0 where
  the : Part
  the_is : the ≡ part_of object file section own

one_is : (n m object section : ℕ) (file f : File) (own x : Section) → (n ≡ object → f ≡ file) → (n ≡ object → m ≡ section → x ≡ own) → of_part object section (part_of n f m x) ≡ true → part_of n f m x ≡ part_of object file section own
unfolding part_of
one_is n m object section file f own x same_file same_section is =
    let a : n ≡ object = same_number n object (and_left (n == object) (m == section) is) in
    let b : m ≡ section = same_number m section (and_right (n == object) (m == section) is) in
    ap (λ k. part_of k f m x) a ∙ ap (λ k. part_of object f k x) b ∙ ap (λ g. part_of object g section x) (same_file a) ∙ ap (λ y. part_of object file section y) (same_section a b)

part_are : (b : Bool) (object section : ℕ) (the p : Part) → (of_part object section p ≡ true → p ≡ the) → AreThe object section the (if b then p ∷ [] else [])
part_are true object section the p is = (is, tt)
part_are false object section the p is = tt

sections_are : (n m object section : ℕ) (file f : File) (own : Section) (xs : List Section) → (n ≡ object → f ≡ file) → (n ≡ object → (i : ℕ) (d : Section) → i < length xs → m + i ≡ section → get_or xs i d ≡ own) → AreThe object section (part_of object file section own) (flat_map (part_at n f) (enumerate_from m xs))
unfolding part_at
sections_are n m object section file f own [] same_file same = tt
sections_are n m object section file f own (x ∷ xs) same_file same =
    are_append object section (part_of object file section own) (part_at n f (m, x)) (flat_map (part_at n f) (enumerate_from (m + 1) xs))
    (part_are (is_allocated x) object section (part_of object file section own) (part_of n f m x) (one_is n m object section file f own x same_file (λ a e. same a 0 own (omega arith) (omega (arith, e)))))
    (sections_are n (m + 1) object section file f own xs same_file (λ a i d below e. same a (suc i) d (omega arith) (omega (arith, e))))

at_file : (n object section : ℕ) (file f : File) (own : Section) → (n ≡ object → f ≡ file) → ((i : ℕ) (d : Section) → i < length file.sections → i ≡ section → get_or file.sections i d ≡ own) → n ≡ object → (i : ℕ) (d : Section) → i < length f.sections → 0 + i ≡ section → get_or f.sections i d ≡ own
at_file n object section file f own is own_is a i d below e =
    let L : File → Type 0 = λ g. i < length g.sections in
    let e2 : i ≡ section = omega (arith, e) in
    ap (λ (g : File). get_or g.sections i d) (is a) ∙ own_is i d (subst L (is a) below) e2

files_are : (n object section : ℕ) (file : File) (own : Section) (fs : List File) → ((i : ℕ) (d : File) → i < length fs → n + i ≡ object → get_or fs i d ≡ file) → ((i : ℕ) (d : Section) → i < length file.sections → i ≡ section → get_or file.sections i d ≡ own) → AreThe object section (part_of object file section own) (flat_map file_parts (enumerate_from n fs))
unfolding file_parts
files_are n object section file own [] same own_is = tt
files_are n object section file own (f ∷ fs) same own_is =
    let is : n ≡ object → f ≡ file = λ e. same 0 f (omega arith) (omega (arith, e)) in
    are_append object section (part_of object file section own) (file_parts (n, f)) (flat_map file_parts (enumerate_from (n + 1) fs))
    (sections_are n 0 object section file f own f.sections is (at_file n object section file f own is own_is))
    (files_are (n + 1) object section file own fs (λ i d below e. same (suc i) d (omega arith) (omega (arith, e))) own_is)

-- and there is one
own_has : (object section : ℕ) (file : File) (own : Section) (rest : List Part) → is_allocated own ≡ true → has_part (part_at object file (section, own) ++ rest) object section ≡ true
unfolding part_at part_of
own_has object section file own rest is =
    rw is (rw (number_same object, number_same section) refl)

sections_have : (m object : ℕ) (file : File) (own : Section) (xs : List Section) (i : ℕ) (d : Section) → i < length xs → get_or xs i d ≡ own → is_allocated own ≡ true → has_part (flat_map (part_at object file) (enumerate_from m xs)) object (m + i) ≡ true
sections_have m object file own [] i d below at is = absurd (omega (arith, below))
sections_have m object file own (x ∷ xs) zero d below at is =
    let z : m + 0 ≡ m = omega arith in
    let P : ℕ → Type 0 = λ k. has_part (flat_map (part_at object file) (enumerate_from m (x ∷ xs))) object k ≡ true in
    subst P (sym z) (own_has object m file x (flat_map (part_at object file) (enumerate_from (m + 1) xs)) (ap is_allocated at ∙ is))
sections_have m object file own (x ∷ xs) (suc i) d below at is =
    let s : m + suc i ≡ m + 1 + i = omega arith in
    let P : ℕ → Type 0 = λ k. has_part (flat_map (part_at object file) (enumerate_from m (x ∷ xs))) object k ≡ true in
    subst P (sym s)
    (has_right object (m + 1 + i) (part_at object file (m, x)) (flat_map (part_at object file) (enumerate_from (m + 1) xs))
    (sections_have (m + 1) object file own xs i d (omega (arith, below)) at is))

files_have : (n section : ℕ) (own : Section) (fs : List File) (i : ℕ) (d : File) (e : Section) → i < length fs → section < length (get_or fs i d).sections → get_or (get_or fs i d).sections section e ≡ own → is_allocated own ≡ true → has_part (flat_map file_parts (enumerate_from n fs)) (n + i) section ≡ true
unfolding file_parts
files_have n section own [] i d e below inside at is = absurd (omega (arith, below))
files_have n section own (f ∷ fs) zero d e below inside at is =
    let z : n + 0 ≡ n = omega arith in
    let P : ℕ → Type 0 = λ k. has_part (flat_map file_parts (enumerate_from n (f ∷ fs))) k section ≡ true in
    let y : 0 + section ≡ section = omega arith in
    let Q : ℕ → Type 0 = λ k. has_part (file_parts (n, f)) n k ≡ true in
    subst P (sym z)
    (has_left n section (file_parts (n, f)) (flat_map file_parts (enumerate_from (n + 1) fs))
    (subst Q y (sections_have 0 n f own f.sections section e inside at is)))
files_have n section own (f ∷ fs) (suc i) d e below inside at is =
    let s : n + suc i ≡ n + 1 + i = omega arith in
    let P : ℕ → Type 0 = λ k. has_part (flat_map file_parts (enumerate_from n (f ∷ fs))) k section ≡ true in
    subst P (sym s)
    (has_right (n + 1 + i) section (file_parts (n, f)) (flat_map file_parts (enumerate_from (n + 1) fs))
    (files_have (n + 1) section own fs i d e (omega (arith, below)) inside at is))

-- the part of a section with memory
pub record OwnPart (objects : List File) (object section : ℕ) (the : Part) : Type 0 where
  pub are : AreThe object section the (parts_of objects)
  pub has : has_part (parts_of objects) object section ≡ true

pub own_part : (objects : List File) (object section : ℕ) (file : File) (own : Section) → object < length objects → ((d : File) → get_or objects object d ≡ file) → section < length file.sections → ((d : Section) → get_or file.sections section d ≡ own) → is_allocated own ≡ true → OwnPart objects object section (part_of object file section own)
unfolding parts_of
own_part objects object section file own below file_is inside own_is is = record {
  are =
      files_are 0 object section file own objects (λ i d within e.
      let same : i ≡ object = omega (arith, e) in
      ap (λ k. get_or objects k d) same ∙ file_is d) (λ i d within e. ap (λ k. get_or file.sections k d) e ∙ own_is d);
  has =
      let z : 0 + object ≡ object = omega arith in
      let P : ℕ → Type 0 = λ k. has_part (flat_map file_parts (enumerate_from 0 objects)) k section ≡ true in
      let S : File → Type 0 = λ f. section < length f.sections in
      let at : get_or (get_or objects object file).sections section own ≡ own = ap (λ (f : File). get_or f.sections section own) (file_is file) ∙ own_is own in
      subst P z (files_have 0 section own objects object file own below (subst S (sym (file_is file)) inside) at is);
}
