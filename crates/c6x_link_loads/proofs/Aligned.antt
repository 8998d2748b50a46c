-- Where no alignment breaks its rule, the alignments of the two segments are ones that a module may have.
use Rattle.std.proofs.Common.{◌≡◌, ℕ, ◌+◌, ◌==◌, ◌&&◌, ◌||◌, ◌≤◌, Bool, true, false, List, [], ◌∷◌, Option, None, Some, map, max, nat_le, refl, ap, subst, cond, arith, filter, option_map, if◌then◌else◌}
use Rattle.std.proofs.lemmas.Bool.Decides.{nat_tests}
use Rattle.std.proofs.lemmas.List.Elements.{All-append, All-cons, All-filter, All-head, All-map, All-nil, All-tail}
use Rattle.std.specs.Int.{is_power_of_two}
use Rattle.std.specs.List.{enumerate_from, flat_map}
use Rattle.std.specs.Prelude.{All, IsTrue}
use Rattle.c6x_elf.specs.Attributes.{symbol_binding, symbol_class}
use Rattle.c6x_elf.specs.Bindings.{Global, Local, Weak}
use Rattle.c6x_elf.specs.Lists.{symbols_of}
use Rattle.c6x_elf.specs.Names.{name_of}
use Rattle.c6x_elf.specs.Types.{Symbol, SymbolBinding}
use Rattle.c6x_elf.specs.declared.file.File.{File}
use Rattle.c6x_elf.specs.declared.section.Section.{Section}
use Rattle.c6x_layout.specs.declared.file_limits.TheConstants.{MOST_ALIGN}
use Rattle.c6x_module.specs.Alignment.{is_alignment as is_module_alignment}
use Rattle.c6x_symbols.specs.Parts.{file_parts, part_at, part_of, parts_of}
use Rattle.c6x_symbols.specs.Sections.{is_allocated}
use Rattle.c6x_symbols.specs.declared.part.Part.{Part}
use Rattle.c6x_symbols.specs.Binding.{binding_of, bound_to}
use Rattle.c6x_symbols.specs.Bindings.{bindings_of, bound_name}
use Rattle.c6x_symbols.specs.Groups.{class_is_common, common_of, common_with, first_where, greatest_size, greatest_value, group_of, has_name, has_size, is_common, mention_in, names_of, of_name}
use Rattle.c6x_symbols.specs.Mentions.{Named, mention_by, mention_of, mentions_along, mentions_from, mentions_of, object_mentions, strings_of, under_name}
use Rattle.c6x_symbols.specs.Rules.{Refusal, ◌<|>◌, first_along, must, refusal}
use Rattle.c6x_symbols.specs.declared.common.Common.{Common}
use Rattle.c6x_symbols.specs.declared.link_rule.LinkRule.TheVariants.{Alignment}
use Rattle.c6x_symbols.specs.declared.mention.Mention.{Mention}
use Rattle.c6x_symbols.specs.declared.source.Source.{Source}
use Rattle.c6x_layout.specs.Alignments.{align_refusal, alignments_refusal, common_align_refusal, is_alignment, is_shared_common, object_align_refusal, section_align_refusal}
use Rattle.c6x_layout.specs.Layouts.{Laying, align_or, data_align, greatest_align, greatest_common, group_in, in_data, text_align}
use Rattle.c6x_layout.specs.Places.{common_room, in_text, room_if, room_of, same_nearness}
use Rattle.c6x_layout.specs.declared.limits.TheConstants.{DATA_ALIGN, TEXT_ALIGN}

-- An alignment that a link may have.
abbrev pub Fits : ℕ → Type 0
Fits align = is_alignment align ≡ true

front_none : (a b : Option Refusal) → (a <|> b) ≡ None → a ≡ None
front_none None b is = refl
front_none (Some x) b is = absurd (cc is)

back_none : (a b : Option Refusal) → (a <|> b) ≡ None → b ≡ None
back_none None b is = is
back_none (Some x) b is = absurd (cc is)

must_true : (b : Bool) (broken : Refusal) → must b broken ≡ None → b ≡ true
unfolding must
must_true true broken none = refl
must_true false broken none = absurd (cc none)

align_fits : (object align : ℕ) → align_refusal object align ≡ None → Fits align
align_fits object align none = must_true (is_alignment align) (refusal Alignment object align) none

-- The greatest of alignments is one of them.
max_fits : (a b : ℕ) → Fits a → Fits b → Fits (max a b)
max_fits a b fa fb = either (nat_le a b) refl
  where
    either : (t : Bool) → nat_le a b ≡ t → Fits (max a b)
    either true is = let le : a ≤ b = grind (arith, nat_tests) in let m : b ≡ max a b = omega (arith, le) in subst Fits m fb
    either false is = let le : b ≤ a = grind (arith, nat_tests) in let m : a ≡ max a b = omega (arith, le) in subst Fits m fa

least_fits : Fits 0
unfolding is_alignment
least_fits = refl

text_least : Fits TEXT_ALIGN
unfolding is_alignment lib.Count.ones
text_least = refl

data_least : Fits DATA_ALIGN
unfolding is_alignment lib.Count.ones
data_least = refl

-- and one that a module may have
module_fits : (align : ℕ) → Fits align → IsTrue (is_module_alignment align)
unfolding is_alignment
module_fits align fits = either (align == 0) (is_power_of_two align) fits
  where
    either : (none power : Bool) → (none || (power && nat_le align MOST_ALIGN)) ≡ true → (none || (power && nat_le align 65536)) ≡ true
    either true power is = refl
    either false true is = grind (arith, nat_tests)
    either false false is = absurd (cc is)

-- What passes a test is within the greatest alignment.
abbrev pub Within : {A : Type 0} → (A → Bool) → (A → ℕ) → A → Type 0
Within test align x = test x ≡ true → Fits (align x)

within_case : {A : Type 0} (b : Bool) (x : A) (xs : List A) (test : A → Option Refusal) → first_along test (cond b (x ∷ xs) xs) ≡ None → (b ≡ true → test x ≡ None) × (first_along test xs ≡ None)
within_case true x xs test none = (λ _. front_none (test x) (first_along test xs) none, back_none (test x) (first_along test xs) none)
within_case false x xs test none = (λ is. absurd (cc is), none)

all_within : {A : Type 0} (object : ℕ) (keep : A → Bool) (align : A → ℕ) (xs : List A) → first_along (λ x. align_refusal object (align x)) (filter keep xs) ≡ None → All (Within keep align) xs
all_within object keep align [] none = All-nil (Within keep align)
all_within object keep align (x ∷ xs) none =
    let both = within_case (keep x) x (filter keep xs) (λ y. align_refusal object (align y)) none in
    All-cons (Within keep align) x xs (λ is. align_fits object (align x) (both.0 is)) (all_within object keep align xs both.1)

abbrev section_align : Section → ℕ
section_align s = s.align

abbrev pub symbol_value : Symbol → ℕ
symbol_value s = s.value

-- What the rule says of an object.
pub record IsAligned (file : File) : Type 0 where
  pub sections : All (Within is_allocated section_align) file.sections
  pub commons : All (Within is_shared_common symbol_value) (symbols_of false file.sections)

object_aligned : (object : ℕ) (file : File) → object_align_refusal (object, file) ≡ None → IsAligned file
unfolding object_align_refusal
object_aligned object file none = record {
  sections =
      all_within object is_allocated section_align file.sections
      (front_none (first_along (section_align_refusal object) (filter is_allocated file.sections)) (first_along (common_align_refusal object) (filter is_shared_common (symbols_of false file.sections))) none);
  commons =
      all_within object is_shared_common symbol_value (symbols_of false file.sections)
      (back_none (first_along (section_align_refusal object) (filter is_allocated file.sections)) (first_along (common_align_refusal object) (filter is_shared_common (symbols_of false file.sections))) none);
}

files_aligned : (k : ℕ) (files : List File) → first_along object_align_refusal (enumerate_from k files) ≡ None → All IsAligned files
files_aligned k [] none = All-nil IsAligned
files_aligned k (f ∷ fs) none =
    All-cons IsAligned f fs (object_aligned k f (front_none (object_align_refusal (k, f)) (first_along object_align_refusal (enumerate_from (k + 1) fs)) none))
    (files_aligned (k + 1) fs (back_none (object_align_refusal (k, f)) (first_along object_align_refusal (enumerate_from (k + 1) fs)) none))

pub objects_aligned : (objects : List File) → alignments_refusal objects ≡ None → All IsAligned objects
unfolding alignments_refusal
objects_aligned objects none = files_aligned 0 objects none

-- the parts of aligned objects
abbrev pub IsSmall : Part → Type 0
IsSmall p = Fits p.align

part_small : (k : ℕ) (file : File) (j : ℕ) (s : Section) → (is_allocated s ≡ true → Fits s.align) → All IsSmall (part_at k file (j, s))
unfolding part_at part_of
part_small k file j s each = by (is_allocated s) each
  where
    by : (b : Bool) → (b ≡ true → Fits s.align) → All IsSmall (if b then part_of k file j s ∷ [] else [])
    by true holds = All-cons IsSmall (part_of k file j s) [] (holds refl) (All-nil IsSmall)
    by false holds = All-nil IsSmall

file_small : (k : ℕ) (file : File) (j : ℕ) (ss : List Section) → All (Within is_allocated section_align) ss → All IsSmall (flat_map (part_at k file) (enumerate_from j ss))
file_small k file j [] are = All-nil IsSmall
file_small k file j (s ∷ ss) are =
    All-append IsSmall (part_at k file (j, s)) (flat_map (part_at k file) (enumerate_from (j + 1) ss)) (part_small k file j s (All-head (Within is_allocated section_align) s ss are))
    (file_small k file (j + 1) ss (All-tail (Within is_allocated section_align) s ss are))

files_small : (k : ℕ) (files : List File) → All IsAligned files → All IsSmall (flat_map file_parts (enumerate_from k files))
unfolding file_parts
files_small k [] are = All-nil IsSmall
files_small k (f ∷ fs) are =
    All-append IsSmall (flat_map (part_at k f) (enumerate_from 0 f.sections)) (flat_map file_parts (enumerate_from (k + 1) fs))
    (file_small k f 0 f.sections (All-head IsAligned f fs are).sections)
    (files_small (k + 1) fs (All-tail IsAligned f fs are))

pub parts_small : (objects : List File) → alignments_refusal objects ≡ None → All IsSmall (parts_of objects)
unfolding parts_of
parts_small objects none = files_small 0 objects (objects_aligned objects none)

pub greatest_small : (least : ℕ) (ps : List Part) → Fits least → All IsSmall ps → Fits (greatest_align least ps)
greatest_small least [] small are = small
greatest_small least (p ∷ ps) small are =
    let here : Fits p.align = All-head IsSmall p ps are in
    let later : Fits (greatest_align least ps) = greatest_small least ps small (All-tail IsSmall p ps are) in
    max_fits p.align (greatest_align least ps) here later

pub text_align_kept : (l : Laying) → alignments_refusal l.objects ≡ None → Fits (text_align l)
unfolding text_align
text_align_kept l none =
    greatest_small TEXT_ALIGN (group_in in_text l) text_least (All-filter in_text IsSmall (parts_of l.objects) (parts_small l.objects none))

-- A mention that is a common has an alignment within the greatest.
abbrev CommonSmall : Mention → Type 0
CommonSmall m = is_common m ≡ true → Fits m.symbol.value

abbrev NamedSmall : Named → Type 0
NamedSmall x = CommonSmall x.1

under_small : (object number : ℕ) (symbol : Symbol) (name : Option (List ℕ)) → (class_is_common (symbol_class symbol) ≡ true → Fits symbol.value) → All NamedSmall (under_name object number symbol name)
under_small object number symbol None small = All-nil NamedSmall
under_small object number symbol (Some name) small =
    All-cons NamedSmall (name, record { object = object; number = number; symbol = symbol }) [] small (All-nil NamedSmall)

by_small : (b : SymbolBinding) (object number : ℕ) (symbol : Symbol) (name : Option (List ℕ)) → symbol_binding symbol ≡ b → Within is_shared_common symbol_value symbol → All NamedSmall (mention_by b object number symbol name)
by_small Local object number symbol name is small = All-nil NamedSmall
by_small Global object number symbol name is small = under_small object number symbol name (λ common. small (rw is common))
by_small Weak object number symbol name is small = under_small object number symbol name (λ common. small (rw is common))

along_small : (strings : List ℕ) (object number : ℕ) (symbols : List Symbol) → All (Within is_shared_common symbol_value) symbols → All NamedSmall (mentions_along strings object number symbols)
unfolding mention_of
along_small strings object number [] are = All-nil NamedSmall
along_small strings object number (s ∷ ss) are =
    All-append NamedSmall (mention_of strings object number s) (mentions_along strings object (number + 1) ss)
    (by_small (symbol_binding s) object number s (name_of strings s.name) refl (All-head (Within is_shared_common symbol_value) s ss are))
    (along_small strings object (number + 1) ss (All-tail (Within is_shared_common symbol_value) s ss are))

object_small : (object : ℕ) (file : File) → IsAligned file → All NamedSmall (object_mentions object file.sections)
unfolding object_mentions
object_small object file is = along_small (strings_of file.sections) object 0 (symbols_of false file.sections) is.commons

from_small : (object : ℕ) (files : List File) → All IsAligned files → All NamedSmall (mentions_from object files)
from_small object [] are = All-nil NamedSmall
from_small object (f ∷ fs) are =
    All-append NamedSmall (object_mentions object f.sections) (mentions_from (object + 1) fs) (object_small object f (All-head IsAligned f fs are))
    (from_small (object + 1) fs (All-tail IsAligned f fs are))

mentions_small : (objects : List File) → All IsAligned objects → All NamedSmall (mentions_of objects)
unfolding mentions_of
mentions_small objects are = from_small 0 objects are

name_small : (name : List ℕ) (xs : List Named) → All NamedSmall xs → All CommonSmall (of_name name xs)
unfolding of_name
name_small name xs are =
    All-map CommonSmall mention_in (filter (has_name name) xs) (All-filter (has_name name) NamedSmall xs are)

-- the greatest value of commons
values_small : (ms : List Mention) → All (λ m. Fits m.symbol.value) ms → Fits (greatest_value ms)
values_small [] are = least_fits
values_small (m ∷ ms) are =
    let here : Fits m.symbol.value = All-head (λ (m : Mention). Fits m.symbol.value) m ms are in
    let later : Fits (greatest_value ms) = values_small ms (All-tail (λ (m : Mention). Fits m.symbol.value) m ms are) in
    max_fits m.symbol.value (greatest_value ms) here later

kept_case : (b : Bool) (m : Mention) (rest : List Mention) → (b ≡ true → Fits m.symbol.value) → All (λ m. Fits m.symbol.value) rest → All (λ m. Fits m.symbol.value) (cond b (m ∷ rest) rest)
kept_case true m rest here later = All-cons (λ (m : Mention). Fits m.symbol.value) m rest (here refl) later
kept_case false m rest here later = later

kept_small : (ms : List Mention) → All CommonSmall ms → All (λ m. Fits m.symbol.value) (filter is_common ms)
kept_small [] are = All-nil (λ (m : Mention). Fits m.symbol.value)
kept_small (m ∷ ms) are = kept_case (is_common m) m (filter is_common ms) (All-head CommonSmall m ms are) (kept_small ms (All-tail CommonSmall m ms are))

-- the alignment of commons together
abbrev IsSmallCommon : Option Common → Type 0
IsSmallCommon o = (c : Common) → o ≡ Some c → Fits c.align

with_small : (commons : List Mention) (o : Option Mention) → Fits (greatest_value commons) → IsSmallCommon (option_map (common_with commons) o)
with_small commons None small c is = absurd (cc is)
with_small commons (Some first) small c is =
    let same : common_with commons first ≡ c = cc is in
    let e : greatest_value commons ≡ c.align = ap (λ (x : Common). x.align) same in
    subst Fits e small

common_small : (commons : List Mention) → Fits (greatest_value commons) → IsSmallCommon (common_of commons)
unfolding common_of
common_small commons small = with_small commons (first_where (has_size (greatest_size commons)) commons) small

if_small : (b : Bool) (size align : ℕ) → Fits align → Fits (align_or (room_if b size align))
if_small true size align small = small
if_small false size align small = least_fits

bound_small : (near : Bool) (strong : Option Source) (common : Option Common) (weak : Option Source) (table all_weak : Bool) → IsSmallCommon common → Fits (align_or (room_of near (bound_to strong common weak table all_weak)))
bound_small near (Some s) common weak table all_weak small = least_fits
bound_small near None (Some c) weak table all_weak small = if_small (same_nearness near c.near) c.size c.align (small c refl)
bound_small near None None (Some w) table all_weak small = least_fits
bound_small near None None None true all_weak small = least_fits
bound_small near None None None false all_weak small = least_fits

name_align : (near : Bool) (xs : List Named) (name : List ℕ) → All NamedSmall xs → Fits (align_or (common_room near (bound_name xs name)))
unfolding common_room binding_of group_of
name_align near xs name are =
    bound_small near _ _ _ _ _ (common_small (filter is_common (of_name name xs)) (values_small (filter is_common (of_name name xs)) (kept_small (of_name name xs) (name_small name xs are))))

names_align : (xs : List Named) (names : List (List ℕ)) (least : ℕ) → All NamedSmall xs → Fits least → Fits (greatest_common least (map (bound_name xs) names))
names_align xs [] least are small = small
names_align xs (n ∷ ns) least are small =
    max_fits (align_or (common_room true (bound_name xs n))) (max (align_or (common_room false (bound_name xs n))) (greatest_common least (map (bound_name xs) ns)))
    (name_align true xs n are)
    (max_fits (align_or (common_room false (bound_name xs n))) (greatest_common least (map (bound_name xs) ns)) (name_align false xs n are) (names_align xs ns least are small))

common_align_small : (objects : List File) → alignments_refusal objects ≡ None → Fits (greatest_common DATA_ALIGN (bindings_of objects))
unfolding bindings_of
common_align_small objects none =
    names_align (mentions_of objects) (names_of (mentions_of objects)) DATA_ALIGN (mentions_small objects (objects_aligned objects none)) data_least

pub data_align_kept : (l : Laying) → l.bindings ≡ bindings_of l.objects → alignments_refusal l.objects ≡ None → Fits (data_align l)
unfolding data_align
data_align_kept l bound none =
    greatest_small (greatest_common DATA_ALIGN l.bindings) (group_in in_data l)
    (rw bound (common_align_small l.objects none))
    (All-filter in_data IsSmall (parts_of l.objects) (parts_small l.objects none))

pub text_align_fits : (l : Laying) → alignments_refusal l.objects ≡ None → IsTrue (is_module_alignment (text_align l))
text_align_fits l none = module_fits (text_align l) (text_align_kept l none)

pub data_align_fits : (l : Laying) → l.bindings ≡ bindings_of l.objects → alignments_refusal l.objects ≡ None → IsTrue (is_module_alignment (data_align l))
data_align_fits l bound none = module_fits (data_align l) (data_align_kept l bound none)
