-- The dynamic symbol of an import is found by the import's name.
use Rattle.std.proofs.Common.{◌≡◌, ℕ, zero, suc, ◌+◌, ◌<◌, ◌==◌, ◌||◌, Bool, true, false, if◌then◌else◌, List, [], ◌∷◌, ◌++◌, length, map, take, drop, Option, Some, refl, ap, ◌∙◌, arith}
use Rattle.std.specs.List.{count_by}
use Rattle.std.specs.Prelude.{slice_get}
use Rattle.std.proofs.lemmas.Bool.Decides.{nat_tests}
use Rattle.std.proofs.lemmas.List.{length-map}
use Rattle.std.proofs.lemmas.List.Sums.{sum_by-cons}
use Rattle.c6x_elf_headers.specs.Attributes.{info_binding, section_class}
use Rattle.c6x_symbols.specs.Bindings.{BoundName, bound_at, exports_of, imports_of, is_imported, numbers_where}
use Rattle.c6x_link.specs.Exports.{export_of, import_info, import_of, shared_of}
use Rattle.c6x_link.specs.Targets.{import_symbol}
use Rattle.c6x_link.specs.Working.{Working}
use Rattle.c6x_link.specs.Linked.{parts_of}
use Rattle.c6x_link_loads.specs.Loads.{shared_symbol}
use Rattle.c6x_module.specs.Lookups.{is_local, is_own, is_weak_symbol}
use Rattle.c6x_module.specs.declared.module.Module.{Module}
use Rattle.c6x_module.specs.declared.symbol.DynSymbol.{DynSymbol}
use Rattle.c6x_place.specs.Definitions.{field_found, field_target, first_export, found_target, or_weak, symbol_found, target_or_zero}
use Rattle.c6x_place.specs.declared.found.Found.{Found}
use Rattle.c6x_place.specs.declared.found.Found.TheVariants.{At, Missing, Nothing}
use Rattle.c6x_relocated.specs.Filled.{Finding, address_in, definition_address, word_on}
use Rattle.c6x_relocated.specs.Named.{named_address}
use Rattle.c6x_relocated.proofs.Basics.{get_map}
use Rattle.c6x_relocated.proofs.LinkedParts.{HasParts}
use Rattle.c6x_relocated.proofs.Segments.{numbered_found}

-- items of lists
behind_three : {X : Type 0} (xs : List X) (k : ℕ) → slice_get xs (suc (suc (suc k))) ≡ slice_get (drop 3 xs) k
behind_three [] k = refl
behind_three (a ∷ []) k = refl
behind_three (a ∷ (b ∷ [])) k = refl
behind_three (a ∷ (b ∷ (c ∷ xs))) k = refl

get_behind : {X : Type 0} (xs ys : List X) (n k : ℕ) → length xs ≡ n → slice_get (xs ++ ys) (n + k) ≡ slice_get ys k
get_behind [] ys n k is = let z : n + k ≡ k = omega (arith, is) in ap (slice_get ys) z
get_behind (x ∷ xs) ys n k is =
    let s : n + k ≡ suc (length xs + k) = omega (arith, is) in
    ap (slice_get (x ∷ (xs ++ ys))) s ∙ get_behind xs ys (length xs) k refl

-- the imports by their numbers
count_cons : (b : BoundName) (bs : List BoundName)
    → count_by is_imported (b ∷ bs) ≡ (if is_imported b then 1 else 0) + count_by is_imported bs
count_cons b bs = sum_by-cons (λ (x : BoundName). if is_imported x then 1 else 0) b bs

import_next : (t : Bool) (from c : ℕ) (rest : List ℕ) (o : Option ℕ) → slice_get rest c ≡ o
    → slice_get (if t then from ∷ rest else rest) ((if t then 1 else 0) + c) ≡ o
import_next true from c rest o is = let s : 1 + c ≡ suc c = omega arith in ap (slice_get (from ∷ rest)) s ∙ is
import_next false from c rest o is = let s : 0 + c ≡ c = omega arith in ap (slice_get rest) s ∙ is

first_import : (t : Bool) (from : ℕ) (rest : List ℕ) → t ≡ true
    → slice_get (if t then from ∷ rest else rest) 0 ≡ Some from
first_import true from rest is = refl
first_import false from rest is = absurd (cc is)

import_number : (bs : List BoundName) (n from : ℕ) → is_imported (bound_at bs n) ≡ true → n < length bs
    → slice_get (numbers_where is_imported from bs) (count_by is_imported (take n bs)) ≡ Some (from + n)
import_number [] n from is below = absurd (omega (arith, below))
import_number (b ∷ bs) zero from is below =
    let z : from ≡ from + 0 = omega arith in
    first_import (is_imported b) from (numbers_where is_imported (from + 1) bs) is ∙ ap Some z
import_number (b ∷ bs) (suc n) from is below =
    let s : from + 1 + n ≡ from + suc n = omega arith in
    ap (slice_get (numbers_where is_imported from (b ∷ bs))) (count_cons b (take n bs))
    ∙ import_next (is_imported b) from (count_by is_imported (take n bs)) (numbers_where is_imported (from + 1) bs)
    (Some (from + 1 + n)) (import_number bs n (from + 1) is (omega (arith, below)))
    ∙ ap Some s

-- its dynamic symbol
three_more : (a b : ℕ) → 3 + a + b ≡ suc (suc (suc (a + b)))
three_more a b = omega arith

shared_import : (w : Working) (n : ℕ) → is_imported (bound_at w.bindings n) ≡ true → n < length w.bindings
    → slice_get (shared_of w) (length (exports_of w.bindings) + count_by is_imported (take n w.bindings)) ≡ Some
    (import_of w n)
unfolding shared_of imports_of
shared_import w n is below =
    let z : 0 + n ≡ n = omega arith in
    get_behind (map (export_of w) (exports_of w.bindings))
    (map (import_of w) (numbers_where is_imported 0 w.bindings)) (length (exports_of w.bindings))
    (count_by is_imported (take n w.bindings)) (length-map (exports_of w.bindings) (export_of w))
    ∙ get_map (import_of w) (numbers_where is_imported 0 w.bindings) (count_by is_imported (take n w.bindings)) n
    (import_number w.bindings n 0 is below ∙ ap Some z)

import_here : (w : Working) (m : Module) → HasParts (parts_of w) m → (n : ℕ)
    → is_imported (bound_at w.bindings n) ≡ true → n < length w.bindings
    → slice_get m.symbols (import_symbol w.bindings n) ≡ Some (shared_symbol (import_of w n))
unfolding import_symbol parts_of
import_here w m has_of n is below =
    let k : ℕ = length (exports_of w.bindings) + count_by is_imported (take n w.bindings) in
    ap (slice_get m.symbols) (three_more (length (exports_of w.bindings)) (count_by is_imported (take n w.bindings)))
    ∙ behind_three m.symbols k
    ∙ ap (λ xs. slice_get xs k) has_of.shared
    ∙ get_map shared_symbol (shared_of w) k (import_of w n) (shared_import w n is below)

-- is not the module's own
info_shared : (b : Bool) → is_local (info_binding (import_info b)) ≡ false
unfolding info_binding
info_shared true = refl
info_shared false = refl

not_own : (w : Working) (n : ℕ) → is_own (shared_symbol (import_of w n)) ≡ false
unfolding is_own import_of section_class
not_own w n = ap (λ (b : Bool). b || false) (info_shared (bound_at w.bindings n).group.all_weak)

name_is : (w : Working) (n : ℕ) → (shared_symbol (import_of w n)).name ≡ (bound_at w.bindings n).name
unfolding import_of
name_is w n = refl

weak_same : (modules : List Module) (list : List ℕ) (weak : Bool) (o : Found)
    → target_or_zero (found_target modules list (or_weak weak o)) ≡ target_or_zero (found_target modules list o)
weak_same modules list true Missing = refl
weak_same modules list false Missing = refl
weak_same modules list weak Nothing = refl
weak_same modules list weak (At position symbol) = refl

not_none : (w : Working) (n : ℕ) → (import_symbol w.bindings n == 0) ≡ false
unfolding import_symbol
not_none w n = grind (arith, nat_tests)

found_import : (f : Finding) (position : ℕ) (n : ℕ) (y : DynSymbol) → is_own y ≡ false
    → symbol_found f.modules f.list position n (Some y) ≡ or_weak (is_weak_symbol y)
    (first_export f.modules y.name 0 f.list)
found_import f position n y own =
    ap (λ (b : Bool). if b then At position n else or_weak (is_weak_symbol y)
    (first_export f.modules y.name 0 f.list)) own

pub import_named : (w : Working) (m : Module) → HasParts (parts_of w) m → (f : Finding) (position n : ℕ)
    → is_imported (bound_at w.bindings n) ≡ true → n < length w.bindings
    → definition_address f position m (import_symbol w.bindings n) ≡ named_address f (bound_at w.bindings n).name
unfolding definition_address named_address field_target
import_named w m has_of f position n is below =
    let s : ℕ = import_symbol w.bindings n in
    let y : DynSymbol = shared_symbol (import_of w n) in
    let found : field_found f.modules f.list position m.symbols (word_on s) ≡ or_weak (is_weak_symbol y)
    (first_export f.modules y.name 0 f.list) =
    numbered_found f position m s (not_none w n)
    ∙ ap (symbol_found f.modules f.list position s) (import_here w m has_of n is below)
    ∙ found_import f position s y (not_own w n) in
    ap (λ o. address_in f (target_or_zero (found_target f.modules f.list o))) found
    ∙ ap (address_in f) (weak_same f.modules f.list (is_weak_symbol y) (first_export f.modules y.name 0 f.list))
    ∙ ap (λ name. address_in f (target_or_zero (found_target f.modules f.list
    (first_export f.modules name 0 f.list)))) (name_is w n)
