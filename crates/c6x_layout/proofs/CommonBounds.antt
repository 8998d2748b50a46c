-- Where no alignment breaks its rule, the alignment of the data is within the greatest one.
use Rattle.std.proofs.Common.{◌≡◌, ℕ, ◌+◌, ◌≤◌, Bool, true, false, List, [], ◌∷◌, Option, None, Some, map, refl, ap, cond, arith, filter, option_map}
use Rattle.std.proofs.lemmas.List.Elements.{All-append, All-cons, All-filter, All-head, All-map, All-nil, All-tail}
use Rattle.std.specs.Prelude.{All}
use Rattle.c6x_elf.specs.Attributes.{symbol_binding, symbol_class}
use Rattle.c6x_elf.specs.Bindings.{Global, Local, Weak}
use Rattle.c6x_elf.specs.Lists.{symbols_of}
use Rattle.c6x_elf.specs.Names.{name_of}
use Rattle.c6x_elf.specs.Types.{Symbol, SymbolBinding}
use Rattle.c6x_elf.specs.declared.file.File.{File}
use Rattle.c6x_layout.specs.declared.file_limits.TheConstants.{MOST_ALIGN}
use Rattle.c6x_symbols.specs.Parts.{parts_of}
use Rattle.c6x_symbols.specs.Binding.{binding_of, bound_to}
use Rattle.c6x_symbols.specs.Bindings.{bindings_of, bound_name}
use Rattle.c6x_symbols.specs.Groups.{class_is_common, common_of, common_with, first_where, greatest_size, greatest_value, group_of, has_name, has_size, is_common, mention_in, names_of, of_name}
use Rattle.c6x_symbols.specs.Mentions.{Named, mention_by, mention_of, mentions_along, mentions_from, mentions_of, object_mentions, strings_of, under_name}
use Rattle.c6x_symbols.specs.declared.common.Common.{Common}
use Rattle.c6x_symbols.specs.declared.mention.Mention.{Mention}
use Rattle.c6x_symbols.specs.declared.source.Source.{Source}
use Rattle.c6x_layout.proofs.AlignBounds.{IsAligned, IsSmall, Within, greatest_small, objects_aligned, parts_small, symbol_value}
use Rattle.c6x_layout.specs.Alignments.{alignments_refusal, is_shared_common}
use Rattle.c6x_layout.specs.Layouts.{Laying, align_or, data_align, greatest_common, group_in, in_data}
use Rattle.c6x_layout.specs.Places.{common_room, room_if, room_of, same_nearness}
use Rattle.c6x_layout.specs.declared.limits.TheConstants.{DATA_ALIGN}

-- A mention that is a common has an alignment within the greatest.
abbrev CommonSmall : Mention → Type 0
CommonSmall m = is_common m ≡ true → m.symbol.value ≤ MOST_ALIGN

abbrev NamedSmall : Named → Type 0
NamedSmall x = CommonSmall x.1

under_small : (object number : ℕ) (symbol : Symbol) (name : Option (List ℕ)) → (class_is_common (symbol_class symbol) ≡ true → symbol.value ≤ MOST_ALIGN) → All NamedSmall (under_name object number symbol name)
under_small object number symbol None small = All-nil NamedSmall
under_small object number symbol (Some name) small =
    All-cons NamedSmall (name, record { object = object; number = number; symbol = symbol }) [] small (All-nil NamedSmall)

by_small : (b : SymbolBinding) (object number : ℕ) (symbol : Symbol) (name : Option (List ℕ)) → symbol_binding symbol ≡ b → Within is_shared_common symbol_value symbol → All NamedSmall (mention_by b object number symbol name)
by_small Local object number symbol name is small = All-nil NamedSmall
by_small Global object number symbol name is small = under_small object number symbol name (λ common. small (rw is common))
by_small Weak object number symbol name is small = under_small object number symbol name (λ common. small (rw is common))

along_small : (strings : List ℕ) (object number : ℕ) (symbols : List Symbol) → All (Within is_shared_common symbol_value) symbols → All NamedSmall (mentions_along strings object number symbols)
unfolding mention_of
along_small strings object number [] are = All-nil NamedSmall
along_small strings object number (s ∷ ss) are =
    All-append NamedSmall (mention_of strings object number s) (mentions_along strings object (number + 1) ss)
    (by_small (symbol_binding s) object number s (name_of strings s.name) refl (All-head (Within is_shared_common symbol_value) s ss are))
    (along_small strings object (number + 1) ss (All-tail (Within is_shared_common symbol_value) s ss are))

object_small : (object : ℕ) (file : File) → IsAligned file → All NamedSmall (object_mentions object file.sections)
unfolding object_mentions
object_small object file is = along_small (strings_of file.sections) object 0 (symbols_of false file.sections) is.commons

from_small : (object : ℕ) (files : List File) → All IsAligned files → All NamedSmall (mentions_from object files)
from_small object [] are = All-nil NamedSmall
from_small object (f ∷ fs) are =
    All-append NamedSmall (object_mentions object f.sections) (mentions_from (object + 1) fs) (object_small object f (All-head IsAligned f fs are))
    (from_small (object + 1) fs (All-tail IsAligned f fs are))

mentions_small : (objects : List File) → All IsAligned objects → All NamedSmall (mentions_of objects)
unfolding mentions_of
mentions_small objects are = from_small 0 objects are

name_small : (name : List ℕ) (xs : List Named) → All NamedSmall xs → All CommonSmall (of_name name xs)
unfolding of_name
name_small name xs are =
    All-map CommonSmall mention_in (filter (has_name name) xs) (All-filter (has_name name) NamedSmall xs are)

-- the greatest value of commons
values_small : (ms : List Mention) → All (λ m. m.symbol.value ≤ MOST_ALIGN) ms → greatest_value ms ≤ MOST_ALIGN
values_small [] are = omega arith
values_small (m ∷ ms) are =
    let here : m.symbol.value ≤ MOST_ALIGN = All-head (λ (m : Mention). m.symbol.value ≤ MOST_ALIGN) m ms are in
    let later : greatest_value ms ≤ MOST_ALIGN = values_small ms (All-tail (λ (m : Mention). m.symbol.value ≤ MOST_ALIGN) m ms are) in
    omega (arith, here, later)

kept_case : (b : Bool) (m : Mention) (rest : List Mention) → (b ≡ true → m.symbol.value ≤ MOST_ALIGN) → All (λ m. m.symbol.value ≤ MOST_ALIGN) rest → All (λ m. m.symbol.value ≤ MOST_ALIGN) (cond b (m ∷ rest) rest)
kept_case true m rest here later = All-cons (λ (m : Mention). m.symbol.value ≤ MOST_ALIGN) m rest (here refl) later
kept_case false m rest here later = later

kept_small : (ms : List Mention) → All CommonSmall ms → All (λ m. m.symbol.value ≤ MOST_ALIGN) (filter is_common ms)
kept_small [] are = All-nil (λ (m : Mention). m.symbol.value ≤ MOST_ALIGN)
kept_small (m ∷ ms) are = kept_case (is_common m) m (filter is_common ms) (All-head CommonSmall m ms are) (kept_small ms (All-tail CommonSmall m ms are))

-- the alignment of commons together
abbrev IsSmallCommon : Option Common → Type 0
IsSmallCommon o = (c : Common) → o ≡ Some c → c.align ≤ MOST_ALIGN

with_small : (commons : List Mention) (o : Option Mention) → greatest_value commons ≤ MOST_ALIGN → IsSmallCommon (option_map (common_with commons) o)
with_small commons None small c is = absurd (cc is)
with_small commons (Some first) small c is =
    let same : common_with commons first ≡ c = cc is in
    let e : greatest_value commons ≡ c.align = ap (λ (x : Common). x.align) same in
    omega (arith, e, small)

common_small : (commons : List Mention) → greatest_value commons ≤ MOST_ALIGN → IsSmallCommon (common_of commons)
unfolding common_of
common_small commons small = with_small commons (first_where (has_size (greatest_size commons)) commons) small

if_small : (b : Bool) (size align : ℕ) → align ≤ MOST_ALIGN → align_or (room_if b size align) ≤ MOST_ALIGN
if_small true size align small = small
if_small false size align small = omega arith

bound_small : (near : Bool) (strong : Option Source) (common : Option Common) (weak : Option Source) (table all_weak : Bool) → IsSmallCommon common → align_or (room_of near (bound_to strong common weak table all_weak)) ≤ MOST_ALIGN
bound_small near (Some s) common weak table all_weak small = omega arith
bound_small near None (Some c) weak table all_weak small = if_small (same_nearness near c.near) c.size c.align (small c refl)
bound_small near None None (Some w) table all_weak small = omega arith
bound_small near None None None true all_weak small = omega arith
bound_small near None None None false all_weak small = omega arith

name_align : (near : Bool) (xs : List Named) (name : List ℕ) → All NamedSmall xs → align_or (common_room near (bound_name xs name)) ≤ MOST_ALIGN
unfolding common_room binding_of group_of
name_align near xs name are =
    bound_small near _ _ _ _ _ (common_small (filter is_common (of_name name xs)) (values_small (filter is_common (of_name name xs)) (kept_small (of_name name xs) (name_small name xs are))))

names_align : (xs : List Named) (names : List (List ℕ)) (least : ℕ) → All NamedSmall xs → least ≤ MOST_ALIGN → greatest_common least (map (bound_name xs) names) ≤ MOST_ALIGN
names_align xs [] least are small = small
names_align xs (n ∷ ns) least are small =
    omega (arith, name_align true xs n are, name_align false xs n are, names_align xs ns least are small)

common_align_small : (objects : List File) → alignments_refusal objects ≡ None → greatest_common DATA_ALIGN (bindings_of objects) ≤ MOST_ALIGN
unfolding bindings_of
common_align_small objects none =
    names_align (mentions_of objects) (names_of (mentions_of objects)) DATA_ALIGN (mentions_small objects (objects_aligned objects none)) (omega arith)

pub data_align_small : (l : Laying) → l.bindings ≡ bindings_of l.objects → alignments_refusal l.objects ≡ None → data_align l ≤ MOST_ALIGN
unfolding data_align
data_align_small l bound none =
    greatest_small (greatest_common DATA_ALIGN l.bindings) (group_in in_data l)
    (rw bound (common_align_small l.objects none))
    (All-filter in_data IsSmall (parts_of l.objects) (parts_small l.objects none))
