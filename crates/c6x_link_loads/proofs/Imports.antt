-- The symbols that the entries for the loader name are among the dynamic symbols.
use Rattle.std.proofs.Common.{◌≡◌, ℕ, zero, suc, ◌+◌, ◌<◌, ◌≤◌, Bool, true, false, List, [], ◌∷◌, length, map, filter, take, nat_eq, nat_lt, Option, None, Some, refl, sym, subst, arith, length-append, if◌then◌else◌}
use Rattle.std.proofs.lemmas.Bool.Decides.{nat_tests}
use Rattle.std.proofs.lemmas.List.{length-map}
use Rattle.std.proofs.lemmas.List.Sums.{sum_by-cons}
use Rattle.std.proofs.lemmas.List.Elements.{All-append, All-cons, All-filter, All-head, All-nil, All-tail}
use Rattle.std.specs.List.{count_by, enumerate_from, flat_map}
use Rattle.std.specs.Prelude.{All, slice_get}
use Rattle.c6x_dsbt.specs.Firsts.{firsts, is_other}
use Rattle.c6x_dsbt.specs.Needs.{file_stubs, import_of as stub_of, is_imported_at, is_imported_one, is_packet, number_origin, stub_need, stubs_of}
use Rattle.c6x_dsbt.specs.Wanted.{wanted_at, wanted_of}
use Rattle.c6x_dsbt.specs.declared.wanted.Wanted.{Wanted}
use Rattle.c6x_dsbt.specs.declared.wanted.Wanted.TheVariants.{Bound, Local}
use Rattle.c6x_elf.specs.Attributes.{symbol_class}
use Rattle.c6x_elf.specs.SectionClasses.{Absolute as AbsoluteClass, Common as CommonClass, NearCommon, Section as SectionNumber, Undefined}
use Rattle.c6x_elf.specs.Types.{SectionClass, Symbol}
use Rattle.c6x_elf.specs.declared.file.File.{File}
use Rattle.c6x_elf.specs.declared.section.Section.{Section}
use Rattle.c6x_layout.specs.Regions.{binding_region, bound_region, class_region, names_at, region_of_section, region_of_symbol, section_region, sections_at, symbol_in, symbol_region, wanted_region, zone_region}
use Rattle.c6x_link.specs.Exports.{export_of, import_of, shared_of}
use Rattle.c6x_link.specs.Targets.{import_symbol, number_of_bound, symbol_of_region, target_of}
use Rattle.c6x_link.specs.Working.{Working}
use Rattle.c6x_symbols.specs.Entries.{file_entries}
use Rattle.c6x_symbols.specs.Sections.{is_allocated, zone_of}
use Rattle.c6x_symbols.specs.declared.object_entry.ObjectEntry.{ObjectEntry}
use Rattle.c6x_symbols.specs.declared.region.Region.{Region}
use Rattle.c6x_symbols.specs.declared.region.Region.TheVariants.{Absolute, Data, Import as Elsewhere, Text}
use Rattle.c6x_symbols.specs.declared.zone.Zone.{Zone}
use Rattle.c6x_symbols.specs.declared.zone.Zone.TheVariants.{Far, Near, Text as TextZone}
use Rattle.c6x_symbols.specs.Bindings.{BoundName, binding_in, bound_at, exports_of, imports_of, is_import, is_imported, name_in, numbers_where}
use Rattle.c6x_symbols.specs.declared.binding.Binding.{Binding}
use Rattle.c6x_symbols.specs.declared.binding.Binding.TheVariants.{Common, Import, Strong, Table, Weak}

-- how many imports stand in front of one
count_cons : (b : BoundName) (bs : List BoundName) → count_by is_imported (b ∷ bs) ≡ (if is_imported b then 1 else 0) + count_by is_imported bs
count_cons b bs = sum_by-cons (λ (x : BoundName). if is_imported x then 1 else 0) b bs

-- and one more, where the name behind them is an import
import_here : (t : Bool) (n from : ℕ) (ns : List ℕ) → suc n ≤ length ns → suc ((if t then 1 else 0) + n) ≤ length (if t then from ∷ ns else ns)
import_here true n from ns few = omega (arith, few)
import_here false n from ns few = omega (arith, few)

import_few : (bs : List BoundName) (n from : ℕ) → is_imported (bound_at bs n) ≡ true → n < length bs → suc (count_by is_imported (take n bs)) ≤ length (numbers_where is_imported from bs)
import_few [] n from is below = absurd (omega (arith, below))
import_few (b ∷ bs) zero from is below = rw is (omega arith)
import_few (b ∷ bs) (suc n) from is below =
    let P : ℕ → Type 0 = λ k. suc k ≤ length (if is_imported b then from ∷ numbers_where is_imported (from + 1) bs else numbers_where is_imported (from + 1) bs) in
    subst P (sym (count_cons b (take n bs)))
    (import_here (is_imported b) (count_by is_imported (take n bs)) from (numbers_where is_imported (from + 1) bs) (import_few bs n (from + 1) is (omega (arith, below))))

shared_count : (w : Working) → length (shared_of w) ≡ length (exports_of w.bindings) + length (imports_of w.bindings)
unfolding shared_of
shared_count w =
    omega (
      arith,
      length-append (map (export_of w) (exports_of w.bindings)) (map (import_of w) (imports_of w.bindings)),
      length-map (exports_of w.bindings) (export_of w),
      length-map (imports_of w.bindings) (import_of w),
    )

pub import_among : (w : Working) (n : ℕ) → is_imported (bound_at w.bindings n) ≡ true → n < length w.bindings → import_symbol w.bindings n < length (shared_of w) + 3
unfolding import_symbol imports_of
import_among w n is below =
    let count = shared_count w in
    let few : suc (count_by is_imported (take n w.bindings)) ≤ length (imports_of w.bindings) = import_few w.bindings n 0 is below in
    omega (arith, count, few)

-- no section lies in another module
zone_here : (z : Zone) → zone_region z ≡ Elsewhere → ⊥
zone_here TextZone is = cc is
zone_here Near is = cc is
zone_here Far is = cc is

section_here : (names : ℕ) (sections : List Section) (o : Option Section) → region_of_section names sections o ≡ Elsewhere → ⊥
section_here names sections None is = cc is
section_here names sections (Some s) is = either (is_allocated s) is
  where
    either : (t : Bool) → (if t then zone_region (zone_of names sections s) else Absolute) ≡ Elsewhere → ⊥
    either true e = zone_here (zone_of names sections s) e
    either false e = cc e

class_here : (objects : List File) (object : ℕ) (c : SectionClass) → class_region objects object c ≡ Elsewhere → ⊥
unfolding section_region
class_here objects object (SectionNumber section) is = section_here (names_at objects object) (sections_at objects object) (slice_get (sections_at objects object) section) is
class_here objects object Undefined is = cc is
class_here objects object AbsoluteClass is = cc is
class_here objects object CommonClass is = cc is
class_here objects object NearCommon is = cc is

symbol_here : (objects : List File) (object : ℕ) (o : Option Symbol) → region_of_symbol objects object o ≡ Elsewhere → ⊥
symbol_here objects object None is = cc is
symbol_here objects object (Some s) is = class_here objects object (symbol_class s) is

binding_imported : (objects : List File) (b : Binding) → binding_region objects b ≡ Elsewhere → is_import b ≡ true
unfolding symbol_region
binding_imported objects (Strong object symbol) is = absurd (symbol_here objects object (symbol_in objects object symbol) is)
binding_imported objects (Weak object symbol) is = absurd (symbol_here objects object (symbol_in objects object symbol) is)
binding_imported objects (Common size align near) is = absurd (cc is)
binding_imported objects (Import weak) is = refl
binding_imported objects Table is = absurd (cc is)

imported_is : (b : BoundName) → is_import (binding_in b) ≡ true → is_imported b ≡ true
unfolding is_imported
imported_is b is = is

-- so the dynamic symbol of every target is one
imported_among : (w : Working) (wanted : Wanted) → wanted_region w.objects w.bindings wanted ≡ Elsewhere → number_of_bound w.bindings wanted < length (shared_of w) + 3
unfolding wanted_region bound_region
imported_among w (Local object symbol) is = omega arith
imported_among w (Bound n) is =
    either (nat_lt n (length w.bindings)) refl (imported_is (bound_at w.bindings n) (binding_imported w.objects (binding_in (bound_at w.bindings n)) is))
  where
    either : (t : Bool) → nat_lt n (length w.bindings) ≡ t → is_imported (bound_at w.bindings n) ≡ true → (if t then import_symbol w.bindings n else 0) < length (shared_of w) + 3
    either true below here = import_among w n here (grind (arith, nat_tests))
    either false below here = omega arith

region_among : (w : Working) (wanted : Wanted) (r : Region) → wanted_region w.objects w.bindings wanted ≡ r → symbol_of_region r (number_of_bound w.bindings wanted) < length (shared_of w) + 3
region_among w wanted Text is = omega arith
region_among w wanted Data is = omega arith
region_among w wanted Absolute is = omega arith
region_among w wanted Elsewhere is = imported_among w wanted is

pub target_among : (w : Working) (wanted : Wanted) → (target_of w wanted).symbol < length (shared_of w) + 3
unfolding target_of
target_among w wanted = region_among w wanted (wanted_region w.objects w.bindings wanted) refl

-- each stub is an import's
abbrev pub IsImportAt : List BoundName → ℕ → Type 0
IsImportAt bindings n = is_imported_at bindings n ≡ true

firsts_all : (P : ℕ → Type 0) (xs : List ℕ) → All P xs → All P (firsts nat_eq xs)
firsts_all P [] are = All-nil P
firsts_all P (x ∷ xs) are =
    All-cons P x (filter (is_other nat_eq x) (firsts nat_eq xs)) (All-head P x xs are)
    (All-filter (is_other nat_eq x) P (firsts nat_eq xs) (firsts_all P xs (All-tail P x xs are)))

stub_import : (bs : List BoundName) (wanted : Wanted) → All (IsImportAt bs) (stub_of bs wanted)
stub_import bs (Local object symbol) = All-nil (IsImportAt bs)
stub_import bs (Bound n) = either (is_imported_at bs n) refl
  where
    either : (t : Bool) → is_imported_at bs n ≡ t → All (IsImportAt bs) (if t then n ∷ [] else [])
    either true is = All-cons (IsImportAt bs) n [] is (All-nil (IsImportAt bs))
    either false is = All-nil (IsImportAt bs)

need_import : (bs : List BoundName) (wanted : List Wanted) (e : ObjectEntry) → All (IsImportAt bs) (stub_need bs wanted e)
unfolding stub_need
need_import bs wanted e = either (is_packet (number_origin e.kind))
  where
    either : (t : Bool) → All (IsImportAt bs) (if t then stub_of bs (wanted_at wanted e.object e.symbol) else [])
    either true = stub_import bs (wanted_at wanted e.object e.symbol)
    either false = All-nil (IsImportAt bs)

needs_import : (bs : List BoundName) (wanted : List Wanted) (es : List ObjectEntry) → All (IsImportAt bs) (flat_map (stub_need bs wanted) es)
needs_import bs wanted [] = All-nil (IsImportAt bs)
needs_import bs wanted (e ∷ es) =
    All-append (IsImportAt bs) (stub_need bs wanted e) (flat_map (stub_need bs wanted) es) (need_import bs wanted e) (needs_import bs wanted es)

files_import : (bs : List BoundName) (k : ℕ) (files : List File) → All (IsImportAt bs) (flat_map (file_stubs bs) (enumerate_from k files))
unfolding file_stubs
files_import bs k [] = All-nil (IsImportAt bs)
files_import bs k (f ∷ fs) =
    All-append (IsImportAt bs) (flat_map (stub_need bs (wanted_of (map name_in bs) k f.sections)) (file_entries false (k, f))) (flat_map (file_stubs bs) (enumerate_from (k + 1) fs))
    (needs_import bs (wanted_of (map name_in bs) k f.sections) (file_entries false (k, f))) (files_import bs (k + 1) fs)

pub stubs_import : (objects : List File) (bs : List BoundName) → All (IsImportAt bs) (stubs_of objects bs)
unfolding stubs_of
stubs_import objects bs =
    firsts_all (IsImportAt bs) (flat_map (file_stubs bs) (enumerate_from 0 objects)) (files_import bs 0 objects)

one_import : (bs : List BoundName) (n : ℕ) → is_imported_one (slice_get bs n) ≡ true → (is_imported (bound_at bs n) ≡ true) × (n < length bs)
one_import [] n is = absurd (cc is)
one_import (b ∷ bs) zero is = (is, omega arith)
one_import (b ∷ bs) (suc n) is = let later = one_import bs n is in let below = later.1 in (later.0, omega (arith, below))

pub import_at : (bs : List BoundName) (n : ℕ) → IsImportAt bs n → (is_imported (bound_at bs n) ≡ true) × (n < length bs)
unfolding is_imported_at
import_at bs n is = one_import bs n is
