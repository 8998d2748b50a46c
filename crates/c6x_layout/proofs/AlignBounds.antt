-- Where no alignment breaks its rule, the alignments of the segments are within the greatest one.
use Rattle.std.proofs.Common.{◌≡◌, ℕ, ◌+◌, ◌==◌, ◌&&◌, ◌||◌, ◌≤◌, Bool, true, false, List, [], ◌∷◌, Option, None, Some, nat_le, refl, cond, arith, filter, if◌then◌else◌}
use Rattle.std.proofs.lemmas.Bool.Decides.{nat_tests}
use Rattle.std.proofs.lemmas.List.Elements.{All-append, All-cons, All-filter, All-head, All-nil, All-tail}
use Rattle.std.specs.Int.{is_power_of_two}
use Rattle.std.specs.List.{enumerate_from, flat_map}
use Rattle.std.specs.Prelude.{All}
use Rattle.c6x_elf.specs.Lists.{symbols_of}
use Rattle.c6x_elf.specs.Types.{Symbol}
use Rattle.c6x_elf.specs.declared.file.File.{File}
use Rattle.c6x_elf.specs.declared.section.Section.{Section}
use Rattle.c6x_layout.specs.declared.file_limits.TheConstants.{MOST_ALIGN}
use Rattle.c6x_symbols.specs.Parts.{file_parts, part_at, part_of, parts_of}
use Rattle.c6x_symbols.specs.Sections.{is_allocated}
use Rattle.c6x_symbols.specs.declared.part.Part.{Part}
use Rattle.c6x_symbols.specs.Rules.{Refusal, ◌<|>◌, first_along, must, refusal}
use Rattle.c6x_symbols.specs.declared.link_rule.LinkRule.TheVariants.{Alignment}
use Rattle.c6x_layout.specs.Alignments.{align_refusal, alignments_refusal, common_align_refusal, is_alignment, is_shared_common, object_align_refusal, section_align_refusal}
use Rattle.c6x_layout.specs.Layouts.{Laying, greatest_align, group_in, text_align}
use Rattle.c6x_layout.specs.Places.{in_text}
use Rattle.c6x_layout.specs.declared.limits.TheConstants.{TEXT_ALIGN}

front_none : (a b : Option Refusal) → (a <|> b) ≡ None → a ≡ None
front_none None b is = refl
front_none (Some x) b is = absurd (cc is)

back_none : (a b : Option Refusal) → (a <|> b) ≡ None → b ≡ None
back_none None b is = is
back_none (Some x) b is = absurd (cc is)

must_true : (b : Bool) (broken : Refusal) → must b broken ≡ None → b ≡ true
unfolding must
must_true true broken none = refl
must_true false broken none = absurd (cc none)

small_case : (zero power : Bool) (align : ℕ) → (align == 0) ≡ zero → (zero || (power && nat_le align MOST_ALIGN)) ≡ true → align ≤ MOST_ALIGN
small_case true power align is holds = let none : align ≡ 0 = grind (arith, nat_tests) in omega (arith, none)
small_case false true align is holds = grind (arith, nat_tests)
small_case false false align is holds = absurd (cc holds)

align_small : (object align : ℕ) → align_refusal object align ≡ None → align ≤ MOST_ALIGN
unfolding is_alignment
align_small object align none =
    small_case (align == 0) (is_power_of_two align) align refl (must_true (is_alignment align) (refusal Alignment object align) none)

-- What passes a test is within the greatest alignment.
abbrev pub Within : {A : Type 0} → (A → Bool) → (A → ℕ) → A → Type 0
Within test align x = test x ≡ true → align x ≤ MOST_ALIGN

within_case : {A : Type 0} (b : Bool) (x : A) (xs : List A) (test : A → Option Refusal) → first_along test (cond b (x ∷ xs) xs) ≡ None → (b ≡ true → test x ≡ None) × (first_along test xs ≡ None)
within_case true x xs test none = (λ _. front_none (test x) (first_along test xs) none, back_none (test x) (first_along test xs) none)
within_case false x xs test none = (λ is. absurd (cc is), none)

all_within : {A : Type 0} (object : ℕ) (keep : A → Bool) (align : A → ℕ) (xs : List A) → first_along (λ x. align_refusal object (align x)) (filter keep xs) ≡ None → All (Within keep align) xs
all_within object keep align [] none = All-nil (Within keep align)
all_within object keep align (x ∷ xs) none =
    let both = within_case (keep x) x (filter keep xs) (λ y. align_refusal object (align y)) none in
    All-cons (Within keep align) x xs (λ is. align_small object (align x) (both.0 is)) (all_within object keep align xs both.1)

abbrev section_align : Section → ℕ
section_align s = s.align

abbrev pub symbol_value : Symbol → ℕ
symbol_value s = s.value

-- What the rule says of an object.
pub record IsAligned (file : File) : Type 0 where
  pub sections : All (Within is_allocated section_align) file.sections
  pub commons : All (Within is_shared_common symbol_value) (symbols_of false file.sections)

object_aligned : (object : ℕ) (file : File) → object_align_refusal (object, file) ≡ None → IsAligned file
unfolding object_align_refusal
object_aligned object file none = record {
  sections =
      all_within object is_allocated section_align file.sections
      (front_none (first_along (section_align_refusal object) (filter is_allocated file.sections)) (first_along (common_align_refusal object) (filter is_shared_common (symbols_of false file.sections))) none);
  commons =
      all_within object is_shared_common symbol_value (symbols_of false file.sections)
      (back_none (first_along (section_align_refusal object) (filter is_allocated file.sections)) (first_along (common_align_refusal object) (filter is_shared_common (symbols_of false file.sections))) none);
}

files_aligned : (k : ℕ) (files : List File) → first_along object_align_refusal (enumerate_from k files) ≡ None → All IsAligned files
files_aligned k [] none = All-nil IsAligned
files_aligned k (f ∷ fs) none =
    All-cons IsAligned f fs (object_aligned k f (front_none (object_align_refusal (k, f)) (first_along object_align_refusal (enumerate_from (k + 1) fs)) none))
    (files_aligned (k + 1) fs (back_none (object_align_refusal (k, f)) (first_along object_align_refusal (enumerate_from (k + 1) fs)) none))

pub objects_aligned : (objects : List File) → alignments_refusal objects ≡ None → All IsAligned objects
unfolding alignments_refusal
objects_aligned objects none = files_aligned 0 objects none

-- the parts of aligned objects
abbrev pub IsSmall : Part → Type 0
IsSmall p = p.align ≤ MOST_ALIGN

part_small : (k : ℕ) (file : File) (j : ℕ) (s : Section) → (is_allocated s ≡ true → s.align ≤ MOST_ALIGN) → All IsSmall (part_at k file (j, s))
unfolding part_at part_of
part_small k file j s each = by (is_allocated s) each
  where
    by : (b : Bool) → (b ≡ true → s.align ≤ MOST_ALIGN) → All IsSmall (if b then part_of k file j s ∷ [] else [])
    by true holds = All-cons IsSmall (part_of k file j s) [] (holds refl) (All-nil IsSmall)
    by false holds = All-nil IsSmall

file_small : (k : ℕ) (file : File) (j : ℕ) (ss : List Section) → All (Within is_allocated section_align) ss → All IsSmall (flat_map (part_at k file) (enumerate_from j ss))
file_small k file j [] are = All-nil IsSmall
file_small k file j (s ∷ ss) are =
    All-append IsSmall (part_at k file (j, s)) (flat_map (part_at k file) (enumerate_from (j + 1) ss)) (part_small k file j s (All-head (Within is_allocated section_align) s ss are))
    (file_small k file (j + 1) ss (All-tail (Within is_allocated section_align) s ss are))

files_small : (k : ℕ) (files : List File) → All IsAligned files → All IsSmall (flat_map file_parts (enumerate_from k files))
unfolding file_parts
files_small k [] are = All-nil IsSmall
files_small k (f ∷ fs) are =
    All-append IsSmall (flat_map (part_at k f) (enumerate_from 0 f.sections)) (flat_map file_parts (enumerate_from (k + 1) fs))
    (file_small k f 0 f.sections (All-head IsAligned f fs are).sections)
    (files_small (k + 1) fs (All-tail IsAligned f fs are))

pub parts_small : (objects : List File) → alignments_refusal objects ≡ None → All IsSmall (parts_of objects)
unfolding parts_of
parts_small objects none = files_small 0 objects (objects_aligned objects none)

pub greatest_small : (least : ℕ) (ps : List Part) → least ≤ MOST_ALIGN → All IsSmall ps → greatest_align least ps ≤ MOST_ALIGN
greatest_small least [] small are = small
greatest_small least (p ∷ ps) small are =
    let here : p.align ≤ MOST_ALIGN = All-head IsSmall p ps are in
    let later : greatest_align least ps ≤ MOST_ALIGN = greatest_small least ps small (All-tail IsSmall p ps are) in
    omega (arith, here, later)

pub text_align_small : (l : Laying) → alignments_refusal l.objects ≡ None → text_align l ≤ MOST_ALIGN
unfolding text_align
text_align_small l none =
    greatest_small TEXT_ALIGN (group_in in_text l) (omega arith) (All-filter in_text IsSmall (parts_of l.objects) (parts_small l.objects none))
