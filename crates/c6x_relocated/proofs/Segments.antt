-- Where the dynamic symbols of the two segments stand.
use Rattle.std.proofs.Common.{◌≡◌, ◌⊎◌, inl, inr, ℕ, ◌+◌, ◌≤◌, ◌==◌, ◌||◌, Bool, true, false, if◌then◌else◌, List, None, Some, refl, ap, ◌∙◌, arith}
use Rattle.std.specs.Prelude.{slice_get}
use Rattle.std.proofs.lemmas.Bool.Decides.{nat_tests}
use Rattle.c6x_elf_headers.specs.Attributes.{info_binding, section_class}
use Rattle.c6x_module.specs.Lookups.{is_own, is_weak_symbol}
use Rattle.c6x_module.specs.Valid.{IsValid}
use Rattle.c6x_module.specs.declared.module.Module.{Module}
use Rattle.c6x_module.specs.declared.symbol.DynSymbol.{DynSymbol}
use Rattle.c6x_place.specs.Definitions.{class_target, field_found, field_target, field_value, first_export, found_target, inside, is_in_or_at_end, member_target, number_target, or_weak, symbol_found, symbol_target, target_or_zero}
use Rattle.c6x_place.specs.declared.found.Found.TheVariants.{At, Nothing}
use Rattle.c6x_place.specs.declared.target.Target.TheVariants.{Inside}
use Rattle.c6x_load.specs.Values.{is_within, member_address, moved, moved_by as moved_from, shift_of, symbol_moved, target_address, text_at, value_moved}
use Rattle.c6x_reloc.specs.Shift.{moved_by}
use Rattle.c6x_relocated.specs.Filled.{Finding, IsMember, address_in, definition_address, word_on}
use Rattle.c6x_relocated.proofs.LinkedParts.{segment_symbol}

own_is : (value section : ℕ) → is_own (segment_symbol value section) ≡ true
unfolding is_own info_binding
own_is value section = refl

-- an own symbol is found where it is
own_found : (modules : List Module) (list : List ℕ) (position n : ℕ) (y : DynSymbol) → is_own y ≡ true
    → symbol_found modules list position n (Some y) ≡ At position n
own_found modules list position n y is =
    ap (λ (b : Bool). if b then At position n else or_weak (is_weak_symbol y) (first_export modules y.name 0 list)) is

pub numbered_found : (f : Finding) (position : ℕ) (m : Module) (n : ℕ) → (n == 0) ≡ false
    → field_found f.modules f.list position m.symbols (word_on n) ≡ symbol_found f.modules f.list position n (slice_get m.symbols n)
unfolding field_found
numbered_found f position m n some =
    ap (λ (b : Bool). if b then Nothing else symbol_found f.modules f.list position n (slice_get m.symbols n)) some

target_at : (f : Finding) (position number : ℕ) (m : Module) (n value section : ℕ) → (n == 0) ≡ false
    → slice_get f.list position ≡ Some number → slice_get f.modules number ≡ Some m
    → slice_get m.symbols n ≡ Some (segment_symbol value section)
    → class_target m position n value (section_class section) ≡ Some (Inside position n)
    → field_value f.modules f.list position m.symbols (word_on n) ≡ Inside position n
unfolding field_target
target_at f position number m n value section some listed is has class =
    let found : field_found f.modules f.list position m.symbols (word_on n) ≡ At position n =
    numbered_found f position m n some ∙ ap (symbol_found f.modules f.list position n) has ∙ own_found f.modules f.list position n (segment_symbol value section) (own_is value section) in
    ap (λ o. target_or_zero (found_target f.modules f.list o)) found
    ∙ ap (λ o. target_or_zero (number_target f.modules o position n)) listed
    ∙ ap (λ o. target_or_zero (member_target o position n)) is
    ∙ ap (λ o. target_or_zero (symbol_target m position n o)) has
    ∙ ap target_or_zero class

-- and stands where its module does
stands_at : (f : Finding) (position number : ℕ) (m : Module) (n value section text base : ℕ)
    → slice_get f.list position ≡ Some number → slice_get f.modules number ≡ Some m
    → slice_get m.symbols n ≡ Some (segment_symbol value section) → text_at f.texts number ≡ text
    → slice_get f.bases position ≡ Some base → address_in f (Inside position n) ≡ moved m text base value
unfolding target_address
stands_at f position number m n value section text base listed is has text_is base_is =
    ap (λ o. member_address f.modules f.texts o (slice_get f.bases position) n) listed
    ∙ ap (λ o. member_address f.modules f.texts (Some number) o n) base_is
    ∙ ap (λ o. symbol_moved o (text_at f.texts number) base n) is
    ∙ ap (λ t. value_moved m t base (slice_get m.symbols n)) text_is
    ∙ ap (value_moved m text base) has

-- the start of the text moves with it, and that of the data range with that
text_moved : (m : Module) (text base value : ℕ) → value ≡ m.text.vaddr → 1 ≤ m.text.memsz
    → moved m text base value ≡ moved_by (shift_of text m.text.vaddr) value
unfolding moved
text_moved m text base value is some =
    let here : is_within m.text.vaddr m.text.memsz value ≡ true = grind (arith, nat_tests, is, some) in
    ap (λ (b : Bool). if b then moved_from (shift_of text m.text.vaddr) value else (if is_within m.memory.vaddr m.memory.memsz value then moved_from (shift_of base m.memory.vaddr) value else (if value == m.memory.vaddr + m.memory.memsz then moved_from (shift_of base m.memory.vaddr) value else moved_from (shift_of text m.text.vaddr) value))) here

data_moved : (m : Module) (text base value : ℕ) → value ≡ m.memory.vaddr → IsValid m
    → moved m text base value ≡ moved_by (shift_of base m.memory.vaddr) value
unfolding moved
data_moved m text base value is valid =
    let some = valid.table.some in
    let in_it = valid.table.inside.within in
    let from = valid.table.inside.above in
    let size : 1 ≤ m.memory.memsz = omega (arith, some, in_it, from) in
    let away : is_within m.text.vaddr m.text.memsz value ≡ false = off valid.apart size in
    let here : is_within m.memory.vaddr m.memory.memsz value ≡ true = grind (arith, nat_tests, is, size) in
    ap (λ (b : Bool). if b then moved_from (shift_of text m.text.vaddr) value else (if is_within m.memory.vaddr m.memory.memsz value then moved_from (shift_of base m.memory.vaddr) value else (if value == m.memory.vaddr + m.memory.memsz then moved_from (shift_of base m.memory.vaddr) value else moved_from (shift_of text m.text.vaddr) value))) away
    ∙ ap (λ (b : Bool). if b then moved_from (shift_of base m.memory.vaddr) value else (if value == m.memory.vaddr + m.memory.memsz then moved_from (shift_of base m.memory.vaddr) value else moved_from (shift_of text m.text.vaddr) value)) here
  where
    off : ((m.text.memsz ≡ 0) ⊎ (m.memory.memsz ≡ 0)) ⊎ ((m.text.vaddr + m.text.memsz ≤ m.memory.vaddr) ⊎ (m.memory.vaddr + m.memory.memsz ≤ m.text.vaddr)) → 1 ≤ m.memory.memsz → is_within m.text.vaddr m.text.memsz value ≡ false
    off (inl (inl none)) size = grind (arith, nat_tests, is, none)
    off (inl (inr none)) size = absurd (omega (arith, none, size))
    off (inr (inl below)) size = grind (arith, nat_tests, is, below)
    off (inr (inr above)) size = grind (arith, nat_tests, is, above, size)

-- each lies in its segment
in_text : (m : Module) (position n value : ℕ) → value ≡ m.text.vaddr
    → inside m position n value ≡ Some (Inside position n)
in_text m position n value is =
    let here : (is_in_or_at_end m.text value || is_in_or_at_end m.memory value) ≡ true = grind (arith, nat_tests, is) in
    ap (λ (b : Bool). if b then Some (Inside position n) else None) here

in_data : (m : Module) (position n value : ℕ) → value ≡ m.memory.vaddr
    → inside m position n value ≡ Some (Inside position n)
in_data m position n value is =
    let second : is_in_or_at_end m.memory value ≡ true = grind (arith, nat_tests, is) in
    let here : (is_in_or_at_end m.text value || is_in_or_at_end m.memory value) ≡ true = either (is_in_or_at_end m.text value) (is_in_or_at_end m.memory value) second in
    ap (λ (b : Bool). if b then Some (Inside position n) else None) here
  where
    either : (a b : Bool) → b ≡ true → (a || b) ≡ true
    either true b is = refl
    either false b is = is

class_1 : (m : Module) (position n value : ℕ)
    → class_target m position n value (section_class 1) ≡ inside m position n value
unfolding section_class
class_1 m position n value = refl

class_2 : (m : Module) (position n value : ℕ)
    → class_target m position n value (section_class 2) ≡ inside m position n value
unfolding section_class
class_2 m position n value = refl

pub text_definition : (f : Finding) (position : ℕ) (m : Module) (text base value : ℕ)
    → IsMember f position m text base → slice_get m.symbols 1 ≡ Some (segment_symbol value 1) → value ≡ m.text.vaddr
    → 1 ≤ m.text.memsz → definition_address f position m 1 ≡ moved_by (shift_of text m.text.vaddr) value
unfolding definition_address
text_definition f position m text base value member has is some =
    ap (address_in f) (target_at f position member.number m 1 value 1 refl member.listed member.module_is has (class_1 m position 1 value ∙ in_text m position 1 value is))
    ∙ stands_at f position member.number m 1 value 1 text base member.listed member.module_is has member.text_is member.base_is
    ∙ text_moved m text base value is some

pub data_definition : (f : Finding) (position : ℕ) (m : Module) (text base value : ℕ)
    → IsMember f position m text base → slice_get m.symbols 2 ≡ Some (segment_symbol value 2) → value ≡ m.memory.vaddr
    → IsValid m → definition_address f position m 2 ≡ moved_by (shift_of base m.memory.vaddr) value
unfolding definition_address
data_definition f position m text base value member has is valid =
    ap (address_in f) (target_at f position member.number m 2 value 2 refl member.listed member.module_is has (class_2 m position 2 value ∙ in_data m position 2 value is))
    ∙ stands_at f position member.number m 2 value 2 text base member.listed member.module_is has member.text_is member.base_is
    ∙ data_moved m text base value is valid
