-- Each stub's word of a number's executable stands for the function of a library.
use Rattle.std.proofs.Common.{◌≡◌, ℕ, zero, suc, ◌+◌, ◌≤◌, true, List, [], ◌∷◌, map, codes, None, Some, slice_get, is_some, refl, ap, ◌∙◌, subst, arith, le-leb, ne_eqb}
use Rattle.std.specs.Fmt.{digits}
use Rattle.c6x_place.specs.Definitions.{field_found, field_target, first_export, found_target, inside}
use Rattle.c6x_place.specs.declared.found.Found.TheVariants.{At}
use Rattle.c6x_elf_headers.specs.Attributes.{info_binding, other_visibility, section_class}
use Rattle.c6x_gen.specs.Lists.{each_below}
use Rattle.c6x_gen.specs.Sources.{library_name}
use Rattle.c6x_gen.proofs.Lists.{below_is, EachBelow, map_get}
use Rattle.c6x_gen.proofs.Members.{members}
use Rattle.c6x_gen.proofs.Shapes.{IsInText, library_shape, Rest, shapes, symbols_with}
use Rattle.c6x_gen.specs.Parts.{import_shared, stub_field}
use Rattle.c6x_link_loads.specs.Loads.{shared_symbol}
use Rattle.c6x_module.specs.Lookups.{export_from, is_export, is_own, is_weak_symbol}
use Rattle.c6x_module.specs.declared.field.Field.{Field}

-- an import is no export
no_export : (name : List ℕ) (from : ℕ) (imports : List (List ℕ)) → export_from name from (map shared_symbol (map import_shared imports)) ≡ None
unfolding is_export info_binding section_class other_visibility
no_export name from [] = refl
no_export name from (first ∷ imports) = no_export name (from + 1) imports

-- the executable has no export of a library's name
none_there : (table start : ℕ) (library : ℕ) (imports : List (List ℕ)) → export_from (library_name library) 0 (symbols_with table (codes "start") start imports) ≡ None
unfolding is_export info_binding section_class other_visibility
none_there table start library imports = no_export (library_name library) 4 imports

-- the libraries of a search list
abbrev libraries : List ℕ
libraries = 1 ∷ 2 ∷ 3 ∷ 4 ∷ 5 ∷ 6 ∷ 7 ∷ 8 ∷ 9 ∷ 10 ∷ 11 ∷ []

found_later : (rest : Rest) (rests : ℕ → Rest) (imports : List (List ℕ)) (fields : List Field) (library : ℕ) → first_export (shapes rest rests imports fields) (library_name library) 0 members ≡ first_export (shapes rest rests imports fields) (library_name library) 1 libraries
unfolding shapes
found_later rest rests imports fields library = rw (none_there rest.table rest.start library imports) refl

each_found : (rest : Rest) (rests : ℕ → Rest) (imports : List (List ℕ)) (fields : List Field) → EachBelow 11 (λ before. first_export (shapes rest rests imports fields) (library_name (before + 1)) 1 libraries ≡ At (before + 1) 3)
unfolding shapes each_below digits is_export info_binding section_class other_visibility
each_found rest rests imports fields = (refl, (refl, (refl, (refl, (refl, (refl, (refl, (refl, (refl, (refl, (refl, tt)))))))))))

each_target : (rest : Rest) (rests : ℕ → Rest) (imports : List (List ℕ)) (fields : List Field) → EachBelow 11 (λ before. found_target (shapes rest rests imports fields) members (At (before + 1) 3) ≡ inside (library_shape (before + 1) (rests (before + 1))) (before + 1) 3 (rests (before + 1)).start)
unfolding shapes each_below section_class
each_target rest rests imports fields = (refl, (refl, (refl, (refl, (refl, (refl, (refl, (refl, (refl, (refl, (refl, tt)))))))))))

-- what is said of each number below 11 is said of the number of each library
of_library : (P : ℕ → Type 0) → EachBelow 11 (λ before. P (before + 1)) → (library : ℕ) → 1 ≤ library → library ≤ 11 → P library
of_library P each zero least most = absurd (omega (arith, least))
of_library P each (suc before) least most =
    let is : before + 1 ≡ suc before = omega arith in
    subst P is (below_is 11 (λ b. P (b + 1)) each before (omega (arith, most)))

library_found : (rest : Rest) (rests : ℕ → Rest) (imports : List (List ℕ)) (fields : List Field) (library : ℕ) → 1 ≤ library → library ≤ 11 → first_export (shapes rest rests imports fields) (library_name library) 0 members ≡ At library 3
library_found rest rests imports fields library least most =
    found_later rest rests imports fields library
    ∙ of_library (λ k. first_export (shapes rest rests imports fields) (library_name k) 1 libraries ≡ At k 3) (each_found rest rests imports fields) library least most

-- a function in its text is no definition outside
some_inside : (library : ℕ) (rest : Rest) → IsInText rest → is_some (inside (library_shape library rest) library 3 rest.start) ≡ true
some_inside library rest is = rw (le-leb rest.text.vaddr rest.start is.above, le-leb rest.start (rest.text.vaddr + rest.text.memsz) is.below) refl

library_inside : (rest : Rest) (rests : ℕ → Rest) (imports : List (List ℕ)) (fields : List Field) (library : ℕ) → 1 ≤ library → library ≤ 11 → IsInText (rests library) → is_some (found_target (shapes rest rests imports fields) members (At library 3)) ≡ true
library_inside rest rests imports fields library least most is =
    ap is_some (of_library (λ k. found_target (shapes rest rests imports fields) members (At k 3) ≡ inside (library_shape k (rests k)) k 3 (rests k).start) (each_target rest rests imports fields) library least most)
    ∙ some_inside library (rests library) is

-- the definition of a stub's word, whose symbol is the import of a library
pub stub_found : (rest : Rest) (rests : ℕ → Rest) (imports : List (List ℕ)) (fields : List Field) (words place library : ℕ) → slice_get imports place ≡ Some (library_name library) → 1 ≤ library → library ≤ 11 → field_found (shapes rest rests imports fields) members 0 (symbols_with rest.table (codes "start") rest.start imports) (stub_field words place) ≡ At library 3
unfolding field_found is_own is_weak_symbol info_binding section_class other_visibility
stub_found rest rests imports fields words place library is least most =
    let behind : 4 + place ≡ suc (suc (suc (suc place))) = omega arith in
    let symbol = map_get shared_symbol (map import_shared imports) place (import_shared (library_name library)) (map_get import_shared imports place (library_name library) is) in
    rw (behind, ne_eqb (suc (suc (suc (suc place)))) 0 (λ same. omega (arith, same)), symbol, library_found rest rests imports fields library least most) refl

-- it stands for an address of that library's text
pub stub_inside : (rest : Rest) (rests : ℕ → Rest) (imports : List (List ℕ)) (fields : List Field) (words place library : ℕ) → slice_get imports place ≡ Some (library_name library) → 1 ≤ library → library ≤ 11 → IsInText (rests library) → is_some (field_target (shapes rest rests imports fields) members 0 (symbols_with rest.table (codes "start") rest.start imports) (stub_field words place)) ≡ true
unfolding field_target
stub_inside rest rests imports fields words place library named least most is =
    rw (stub_found rest rests imports fields words place library named least most) (library_inside rest rests imports fields library least most is)
