-- The dynamic symbols of a link: their names are names, and their numbers have their sizes.
use Rattle.std.proofs.Common.{◌≡◌, ◌≢◌, ℕ, zero, suc, ◌+◌, ◌*◌, ◌/◌, ◌%◌, ◌^◌, ◌<◌, ◌≤◌, ◌==◌, not, Bool, true, false, List, [], ◌∷◌, length, get_or, map, filter, take, drop, option_map, position, nat_le, nat_lt, Option, None, Some, refl, sym, ap, subst, ◌∙◌, arith, if◌then◌else◌}
use Rattle.std.proofs.lemmas.Bool.Decides.{nat_tests}
use Rattle.std.proofs.lemmas.List.Elements.{All-append, All-cons, All-filter, All-head, All-map, All-nil, All-tail}
use Rattle.std.specs.List.{prefix_len, range_with_len}
use Rattle.std.specs.Prelude.{All, slice_get, slice_index, slice_index_or}
use Rattle.c6x_spec.specs.Numbers.{half_at, word_at}
use Rattle.c6x_elf.specs.Attributes.{symbol_binding, symbol_class}
use Rattle.c6x_elf.specs.Bindings.{Global, Local, Weak as WeakSymbol}
use Rattle.c6x_elf.specs.Entries.{section_bytes, text_of}
use Rattle.c6x_elf.specs.EntryRows.{SymbolFits}
use Rattle.c6x_elf.specs.Lists.{symbols_from, symbols_of, symtab_of}
use Rattle.c6x_elf.specs.Names.{IsName, name_of}
use Rattle.c6x_elf.specs.SectionClasses.{Absolute as AbsoluteClass, Common as CommonClass, NearCommon, Section as SectionNumber, Undefined}
use Rattle.c6x_elf.specs.TableEntries.{symbol_at, symbol_entries}
use Rattle.c6x_elf.specs.Types.{SectionClass, Symbol, SymbolBinding}
use Rattle.c6x_elf.specs.declared.file.File.{File}
use Rattle.c6x_elf.specs.declared.section.Section.{Section}
use Rattle.c6x_reloc.specs.FieldBits.{AreBytes}
use Rattle.c6x_layout.proofs.Bounds.{bounds}
use Rattle.c6x_layout.proofs.Sized.{ordered}
use Rattle.c6x_layout.specs.Layouts.{commons_of, data_end, far_zeros_end, layout_of, near_end, near_zeros_end}
use Rattle.c6x_layout.specs.Places.{CommonRoom, added, address_or, common_room, commons_end, commons_from, end_or, start_of}
use Rattle.c6x_layout.specs.Regions.{bound_region, moves, section_region, sections_at, sections_in, symbol_in}
use Rattle.c6x_layout.specs.declared.layout.Layout.{Layout}
use Rattle.c6x_link.specs.Exports.{export_of, import_of, section_number, shared_of, size_of, source_symbol, symbol_at_source}
use Rattle.c6x_link.specs.Worked.{IsWorkedOut, laying_in}
use Rattle.c6x_link_loads.specs.Linkable.{HasBytes, IsOfBytes}
use Rattle.c6x_link.specs.Addresses.{address_in, address_of_symbol, binding_address, bound_address, class_address, section_address, symbol_address}
use Rattle.c6x_link.specs.Working.{Working}
use Rattle.c6x_link_loads.specs.Loads.{IsShared}
use Rattle.c6x_symbols.specs.declared.region.Region.{Region}
use Rattle.c6x_symbols.specs.declared.region.Region.TheVariants.{Absolute, Data, Import as Elsewhere, Text}
use Rattle.c6x_symbols.specs.Bindings.{BoundName, binding_in, bindings_of, bound_at, bound_name, exports_of, imports_of, no_name, source_in}
use Rattle.c6x_symbols.specs.Groups.{is_other, names_of}
use Rattle.c6x_symbols.specs.Mentions.{Named, mention_by, mention_of, mentions_along, mentions_from, mentions_of, object_mentions, strings_of, under_name}
use Rattle.c6x_symbols.specs.declared.binding.Binding.{Binding}
use Rattle.c6x_symbols.specs.declared.binding.Binding.TheVariants.{Common, Import, Strong, Table, Weak}
use Rattle.c6x_symbols.specs.declared.source.Source.{Source}
use Rattle.c6x_link_loads.proofs.Laid.{has_place}

-- a name that is read has no zero byte
before_zero : (xs : List ℕ) → All (λ b. b ≢ 0) (take (prefix_len (λ b. not (b == 0)) xs) xs)
before_zero [] = All-nil (λ b. b ≢ 0)
before_zero (b ∷ bs) = either (b == 0) refl (before_zero bs)
  where
    either : (t : Bool) → (b == 0) ≡ t → All (λ b. b ≢ 0) (take (prefix_len (λ b. not (b == 0)) bs) bs) → All (λ b. b ≢ 0) (take (if not t then 1 + prefix_len (λ b. not (b == 0)) bs else 0) (b ∷ bs))
    either true is later = All-nil (λ b. b ≢ 0)
    either false is later =
        let one : 1 + prefix_len (λ b. not (b == 0)) bs ≡ suc (prefix_len (λ b. not (b == 0)) bs) = omega arith in
        rw one (All-cons (λ b. b ≢ 0) b (take (prefix_len (λ b. not (b == 0)) bs) bs) (grind (arith, nat_tests)) later)

taken_name : (xs : List ℕ) (o : Option ℕ) (name : List ℕ) → position (λ b. b == 0) xs ≡ o → option_map (λ len. take len xs) o ≡ Some name → IsName name
taken_name xs None name is found = absurd (cc found)
taken_name xs (Some n) name is found = by (nat_lt (prefix_len (λ b. not (b == 0)) xs) (length xs)) is
  where
    same : take n xs ≡ name
    same = cc found

    by : (t : Bool) → (if t then Some (prefix_len (λ b. not (b == 0)) xs) else None) ≡ Some n → IsName name
    by true e =
        let count : prefix_len (λ b. not (b == 0)) xs ≡ n = cc e in
        let P : List ℕ → Type 0 = λ ys. All (λ b. b ≢ 0) ys in
        record { bytes = subst P (ap (λ k. take k xs) count ∙ same) (before_zero xs) }
    by false e = absurd (cc e)

pub name_read : (table : List ℕ) (at : ℕ) (name : List ℕ) → name_of table at ≡ Some name → IsName name
unfolding name_of
name_read table at name is = by (nat_le at (length table)) is
  where
    by : (t : Bool) → (if t then option_map (λ len. take len (drop at table)) (position (λ b. b == 0) (drop at table)) else None) ≡ Some name → IsName name
    by true e = taken_name (drop at table) (position (λ b. b == 0) (drop at table)) name refl e
    by false e = absurd (cc e)

-- so the names of the link are names
abbrev IsNamed : Named → Type 0
IsNamed x = IsName x.0

under_named : (object number : ℕ) (symbol : Symbol) (o : Option (List ℕ)) → ((name : List ℕ) → o ≡ Some name → IsName name) → All IsNamed (under_name object number symbol o)
under_named object number symbol None are = All-nil IsNamed
under_named object number symbol (Some name) are =
    All-cons IsNamed (name, record { object = object; number = number; symbol = symbol }) [] (are name refl) (All-nil IsNamed)

by_named : (b : SymbolBinding) (object number : ℕ) (symbol : Symbol) (o : Option (List ℕ)) → ((name : List ℕ) → o ≡ Some name → IsName name) → All IsNamed (mention_by b object number symbol o)
by_named Local object number symbol o are = All-nil IsNamed
by_named Global object number symbol o are = under_named object number symbol o are
by_named WeakSymbol object number symbol o are = under_named object number symbol o are

along_named : (strings : List ℕ) (object number : ℕ) (symbols : List Symbol) → All IsNamed (mentions_along strings object number symbols)
unfolding mention_of
along_named strings object number [] = All-nil IsNamed
along_named strings object number (s ∷ ss) =
    All-append IsNamed (mention_by (symbol_binding s) object number s (name_of strings s.name)) (mentions_along strings object (number + 1) ss)
    (by_named (symbol_binding s) object number s (name_of strings s.name) (λ name is. name_read strings s.name name is))
    (along_named strings object (number + 1) ss)

from_named : (object : ℕ) (files : List File) → All IsNamed (mentions_from object files)
unfolding object_mentions
from_named object [] = All-nil IsNamed
from_named object (f ∷ fs) =
    All-append IsNamed (mentions_along (strings_of f.sections) object 0 (symbols_of false f.sections)) (mentions_from (object + 1) fs)
    (along_named (strings_of f.sections) object 0 (symbols_of false f.sections)) (from_named (object + 1) fs)

names_named : (xs : List Named) → All IsNamed xs → All IsName (names_of xs)
names_named [] are = All-nil IsName
names_named (x ∷ xs) are =
    All-cons IsName x.0 (filter (is_other x.0) (names_of xs)) (All-head IsNamed x xs are)
    (All-filter (is_other x.0) IsName (names_of xs) (names_named xs (All-tail IsNamed x xs are)))

abbrev IsBoundName : BoundName → Type 0
IsBoundName b = IsName b.name

bound_all : (xs : List Named) (names : List (List ℕ)) → All IsName names → All IsBoundName (map (bound_name xs) names)
bound_all xs names are = All-map IsBoundName (bound_name xs) names are

bindings_named : (objects : List File) → All IsBoundName (bindings_of objects)
unfolding bindings_of mentions_of
bindings_named objects = bound_all (mentions_from 0 objects) (names_of (mentions_from 0 objects)) (names_named (mentions_from 0 objects) (from_named 0 objects))

empty_named : IsName []
empty_named = record { bytes = All-nil (λ b. b ≢ 0) }

at_named : (bs : List BoundName) (n : ℕ) → All IsBoundName bs → IsName (bound_at bs n).name
unfolding no_name
at_named [] n are = empty_named
at_named (b ∷ bs) zero are = All-head IsBoundName b bs are
at_named (b ∷ bs) (suc n) are = at_named bs n (All-tail IsBoundName b bs are)

-- the numbers of an object's symbols
word_small : (bytes : List ℕ) (at : ℕ) → AreBytes bytes → word_at false bytes at < 2 ^ 32
unfolding word_at
word_small bytes at are =
    let a = are at in
    let b = are (at + 1) in
    let c = are (at + 2) in
    let d = are (at + 3) in
    omega (arith, a, b, c, d)

half_small : (bytes : List ℕ) (at : ℕ) → AreBytes bytes → half_at false bytes at < 2 ^ 16
unfolding half_at
half_small bytes at are =
    let a = are at in
    let b = are (at + 1) in
    omega (arith, a, b)

at_fits : (bytes : List ℕ) (number : ℕ) → AreBytes bytes → SymbolFits (symbol_at false bytes number)
unfolding symbol_at
at_fits bytes number are = record {
  name = word_small bytes (16 * number) are;
  value = word_small bytes (16 * number + 4) are;
  size = word_small bytes (16 * number + 8) are;
  section = half_small bytes (16 * number + 14) are;
}

mapped_fit : (bytes : List ℕ) (numbers : List ℕ) → AreBytes bytes → All SymbolFits (map (symbol_at false bytes) numbers)
mapped_fit bytes [] are = All-nil SymbolFits
mapped_fit bytes (n ∷ ns) are =
    All-cons SymbolFits (symbol_at false bytes n) (map (symbol_at false bytes) ns) (at_fits bytes n are) (mapped_fit bytes ns are)

no_bytes : AreBytes []
no_bytes i = omega arith

bytes_at : (sections : List Section) (number : ℕ) → All HasBytes sections → AreBytes (slice_index_or (map section_bytes sections) number [])
bytes_at [] number are = no_bytes
bytes_at (s ∷ ss) zero are = All-head HasBytes s ss are
bytes_at (s ∷ ss) (suc n) are = bytes_at ss n (All-tail HasBytes s ss are)

from_fit : (sections : List Section) (o : Option ℕ) → All HasBytes sections → All SymbolFits (symbols_from false sections o)
unfolding symbol_entries text_of
from_fit sections None are = All-nil SymbolFits
from_fit sections (Some n) are =
    mapped_fit (slice_index_or (map section_bytes sections) n []) (range_with_len 0 (length (slice_index_or (map section_bytes sections) n []) / 16)) (bytes_at sections n are)

symbols_fit : (sections : List Section) → All HasBytes sections → All SymbolFits (symbols_of false sections)
unfolding symbols_of
symbols_fit sections are = from_fit sections (symtab_of sections) are

got_fits : (ss : List Symbol) (n : ℕ) (s : Symbol) → All SymbolFits ss → slice_get ss n ≡ Some s → SymbolFits s
got_fits [] n s are is = absurd (cc is)
got_fits (x ∷ xs) zero s are is = let same : x ≡ s = cc is in subst SymbolFits same (All-head SymbolFits x xs are)
got_fits (x ∷ xs) (suc n) s are is = got_fits xs n s (All-tail SymbolFits x xs are) is

sections_bytes : (objects : List File) (object : ℕ) → All IsOfBytes objects → All HasBytes (slice_index_or (map sections_in objects) object [])
sections_bytes [] object are = All-nil HasBytes
sections_bytes (f ∷ fs) zero are = All-head IsOfBytes f fs are
sections_bytes (f ∷ fs) (suc n) are = sections_bytes fs n (All-tail IsOfBytes f fs are)

pub symbol_fits : (objects : List File) (object number : ℕ) (s : Symbol) → All IsOfBytes objects → symbol_in objects object number ≡ Some s → SymbolFits s
unfolding symbol_in sections_at
symbol_fits objects object number s are is =
    let sections = slice_index_or (map sections_in objects) object [] in
    got_fits (symbols_of false sections) number s (symbols_fit sections (sections_bytes objects object are)) is

-- addresses
modulo_small : (n : ℕ) → n % 2 ^ 32 < 2 ^ 32
modulo_small n = omega arith

if_small : (b : Bool) (x y : ℕ) → x < 2 ^ 32 → y < 2 ^ 32 → (if b then x else y) < 2 ^ 32
if_small true x y sx sy = sx
if_small false x y sx sy = sy

class_small : (w : Working) (object value : ℕ) (c : SectionClass) → value < 2 ^ 32 → class_address w object value c < 2 ^ 32
unfolding section_address
class_small w object value (SectionNumber section) small =
    if_small (moves (section_region w.objects object section)) ((address_in w.layout.places object section + value) % 2 ^ 32) value (modulo_small (address_in w.layout.places object section + value)) small
class_small w object value Undefined small = small
class_small w object value AbsoluteClass small = small
class_small w object value CommonClass small = small
class_small w object value NearCommon small = small

of_symbol_small : (w : Working) (object : ℕ) (o : Option Symbol) → ((s : Symbol) → o ≡ Some s → SymbolFits s) → address_of_symbol w object o < 2 ^ 32
of_symbol_small w object None fits = omega arith
of_symbol_small w object (Some s) fits = class_small w object s.value (symbol_class s) (fits s refl).value

symbol_small : (w : Working) (object number : ℕ) → All IsOfBytes w.objects → symbol_address w object number < 2 ^ 32
unfolding symbol_address
symbol_small w object number are = of_symbol_small w object (symbol_in w.objects object number) (λ s is. symbol_fits w.objects object number s are is)

-- the addresses of commons
start_above : (from align : ℕ) → from ≤ start_of from align
unfolding start_of
start_above from align = omega arith

end_above : (from : ℕ) (o : Option CommonRoom) → from ≤ end_or from o
end_above from None = omega arith
end_above from (Some room) = let s = start_above from room.align in omega (arith, s)

commons_above : (near : Bool) (from : ℕ) (bs : List BoundName) → from ≤ commons_end near from bs
commons_above near from [] = omega arith
commons_above near from (b ∷ bs) =
    let here = end_above from (common_room near b) in
    let later = commons_above near (end_or from (common_room near b)) bs in
    omega (arith, here, later)

address_within : (from : ℕ) (o : Option CommonRoom) → address_or from o ≤ end_or from o
address_within from None = omega arith
address_within from (Some room) = omega arith

commons_within : (near : Bool) (from : ℕ) (bs : List BoundName) (n : ℕ) → get_or (commons_from near from bs) n 0 ≤ commons_end near from bs
commons_within near from [] n = omega arith
commons_within near from (b ∷ bs) zero =
    let here = address_within from (common_room near b) in
    let later = commons_above near (end_or from (common_room near b)) bs in
    omega (arith, here, later)
commons_within near from (b ∷ bs) (suc n) = commons_within near (end_or from (common_room near b)) bs n

added_within : (xs ys : List ℕ) (n : ℕ) → get_or (added xs ys) n 0 ≤ get_or xs n 0 + get_or ys n 0
added_within [] ys n = omega arith
added_within (x ∷ xs) [] n = omega arith
added_within (x ∷ xs) (y ∷ ys) zero = omega arith
added_within (x ∷ xs) (y ∷ ys) (suc n) = added_within xs ys n

common_small : (w : Working) (n : ℕ) → IsWorkedOut w → slice_index w.layout.commons n < 2 ^ 32
unfolding layout_of commons_of near_end data_end
common_small w n worked =
    let l = laying_in w in
    let b = bounds l worked.sized in
    let o = ordered l in
    let near : get_or (commons_from true (near_zeros_end l) l.bindings) n 0 ≤ near_end l = commons_within true (near_zeros_end l) l.bindings n in
    let far : get_or (commons_from false (far_zeros_end l) l.bindings) n 0 ≤ data_end l = commons_within false (far_zeros_end l) l.bindings n in
    let both = added_within (commons_from true (near_zeros_end l) l.bindings) (commons_from false (far_zeros_end l) l.bindings) n in
    let is : w.layout.commons ≡ commons_of l = ap (λ (y : Layout). y.commons) worked.layout in
    let same : get_or w.layout.commons n 0 ≡ get_or (added (commons_from true (near_zeros_end l) l.bindings) (commons_from false (far_zeros_end l) l.bindings)) n 0 = ap (λ xs. get_or xs n 0) is in
    omega (arith, near, far, both, same, b.data_below, o.far_bytes, o.far_zeros, o.far)

binding_small : (w : Working) (n : ℕ) (b : Binding) → IsWorkedOut w → All IsOfBytes w.objects → binding_address w n b < 2 ^ 32
binding_small w n (Strong object symbol) worked are = symbol_small w object symbol are
binding_small w n (Weak object symbol) worked are = symbol_small w object symbol are
binding_small w n (Common size align near) worked are = common_small w n worked
binding_small w n (Import weak) worked are = omega arith
binding_small w n Table worked are =
    let place = has_place w worked in
    let end = place.end in
    let memory = place.memory in
    omega (arith, end, memory)

pub bound_small : (w : Working) (n : ℕ) → IsWorkedOut w → All IsOfBytes w.objects → bound_address w n < 2 ^ 32
unfolding bound_address
bound_small w n worked are = binding_small w n (binding_in (bound_at w.bindings n)) worked are

-- a dynamic symbol
size_small : (o : Option Symbol) → ((s : Symbol) → o ≡ Some s → SymbolFits s) → size_of o < 2 ^ 32
size_small None fits = omega arith
size_small (Some s) fits = (fits s refl).size

at_source_fits : (w : Working) (o : Option Source) (s : Symbol) → All IsOfBytes w.objects → symbol_at_source w o ≡ Some s → SymbolFits s
at_source_fits w None s are is = absurd (cc is)
at_source_fits w (Some source) s are is = symbol_fits w.objects source.object source.symbol s are is

section_small : (region : Region) → section_number region < 2 ^ 16
section_small Text = omega arith
section_small Data = omega arith
section_small Absolute = omega arith
section_small Elsewhere = omega arith

export_shared : (w : Working) (n : ℕ) → IsWorkedOut w → w.bindings ≡ bindings_of w.objects → All IsOfBytes w.objects → IsShared (export_of w n)
unfolding export_of bound_address source_symbol
export_shared w n worked bound are =
    let P : List BoundName → Type 0 = λ bs. IsName (bound_at bs n).name in
    record {
      name = subst P (sym bound) (at_named (bindings_of w.objects) n (bindings_named w.objects));
      value = binding_small w n (binding_in (bound_at w.bindings n)) worked are;
      size = size_small (symbol_at_source w (source_in (bound_at w.bindings n))) (λ s is. at_source_fits w (source_in (bound_at w.bindings n)) s are is);
      section = section_small (bound_region w.objects w.bindings n);
    }

import_shared : (w : Working) (n : ℕ) → w.bindings ≡ bindings_of w.objects → IsShared (import_of w n)
unfolding import_of
import_shared w n bound =
    let P : List BoundName → Type 0 = λ bs. IsName (bound_at bs n).name in
    record {
      name = subst P (sym bound) (at_named (bindings_of w.objects) n (bindings_named w.objects));
      value = omega arith;
      size = omega arith;
      section = omega arith;
    }

exports_shared : (w : Working) (ns : List ℕ) → IsWorkedOut w → w.bindings ≡ bindings_of w.objects → All IsOfBytes w.objects → All IsShared (map (export_of w) ns)
exports_shared w [] worked bound are = All-nil IsShared
exports_shared w (n ∷ ns) worked bound are =
    All-cons IsShared (export_of w n) (map (export_of w) ns) (export_shared w n worked bound are) (exports_shared w ns worked bound are)

imports_shared : (w : Working) (ns : List ℕ) → w.bindings ≡ bindings_of w.objects → All IsShared (map (import_of w) ns)
imports_shared w [] bound = All-nil IsShared
imports_shared w (n ∷ ns) bound =
    All-cons IsShared (import_of w n) (map (import_of w) ns) (import_shared w n bound) (imports_shared w ns bound)

pub all_shared : (w : Working) → IsWorkedOut w → w.bindings ≡ bindings_of w.objects → All IsOfBytes w.objects → All IsShared (shared_of w)
unfolding shared_of
all_shared w worked bound are =
    All-append IsShared (map (export_of w) (exports_of w.bindings)) (map (import_of w) (imports_of w.bindings))
    (exports_shared w (exports_of w.bindings) worked bound are) (imports_shared w (imports_of w.bindings) bound)
