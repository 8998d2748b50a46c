-- What the names of an executable are bound to, in each order that there is.
use Rattle.std.proofs.Common.{◌≡◌, ℕ, ◌+◌, ◌%◌, ◌<◌, ◌≤◌, ◌==◌, ◌&&◌, Bool, true, false, List, [], ◌∷◌, codes, map, refl, ap, ap₂, sym, ◌∙◌, subst, arith}
use Rattle.std.specs.Str.{bytes_eq}
use Rattle.std.proofs.lemmas.Bool.{and_parts, eqb-true}
use Rattle.std.proofs.lemmas.Slice.Eq.{bytes_eq-Decides}
use Rattle.c6x_dsbt.specs.Needs.{is_imported_at}
use Rattle.c6x_dsbt.specs.Wanted.{same_wanted, wanted_at, wanted_by, wanted_of}
use Rattle.c6x_dsbt.specs.declared.wanted.Wanted.{Wanted}
use Rattle.c6x_dsbt.specs.declared.wanted.Wanted.TheVariants.{Bound, Local}
use Rattle.c6x_layout.specs.declared.layout.Layout.{Layout}
use Rattle.c6x_layout.specs.declared.shared.Shared.{Shared}
use Rattle.c6x_link.specs.Exports.{export_of, import_of, shared_of, source_symbol}
use Rattle.c6x_link.specs.Targets.{import_symbol}
use Rattle.c6x_link.specs.Working.{Working}
use Rattle.c6x_gen.proofs.AppFile.{app_file, bound_of, callee_names, Contents, working_with}
use Rattle.c6x_gen.proofs.AppNames.{every, same_names, tested}
use Rattle.c6x_gen.proofs.AppEntries.{wanted_in}
use Rattle.c6x_gen.proofs.Below.{all_below, each_below_all}
use Rattle.c6x_gen.specs.Parts.{function_shared, import_shared}
use Rattle.c6x_asm_object.specs.Filing.{named_shstrtab, sections_of}
use Rattle.c6x_asm_object.specs.Headers.{null_section, table_section}
use Rattle.c6x_elf.specs.Attributes.{info_binding, other_visibility, section_class}
use Rattle.c6x_elf.specs.Entries.{text_of}
use Rattle.c6x_elf.specs.EntryRows.{symbol_row}
use Rattle.c6x_elf.specs.Lists.{is_under, section_name, symbols_of, symtab_of}
use Rattle.c6x_elf.specs.Names.{name_of, name_table}
use Rattle.c6x_elf.specs.Rows.{half_bytes, word_bytes}
use Rattle.c6x_elf.specs.TableEntries.{symbol_at, symbol_entries}
use Rattle.c6x_gen.specs.Lists.{each_below}
use Rattle.c6x_layout.specs.Regions.{bound_region, names_at, section_region, sections_at, symbol_in, symbol_region}
use Rattle.c6x_symbols.specs.Sections.{has_flag, is_near, is_text, zone_in, zone_of}
use Rattle.c6x_spec.specs.Numbers.{half_at, word_at}
use Rattle.c6x_symbols.specs.Binding.{binding_of, is_table}
use Rattle.c6x_symbols.specs.Bindings.{bindings_of, exports_of, imports_of, is_exported, is_imported, no_name, source_in}
use Rattle.c6x_symbols.specs.Groups.{common_of, group_of, of_name}
use Rattle.c6x_symbols.specs.Mentions.{mention_of, mentions_of, object_mentions, strings_of}
use Rattle.c6x_symbols.specs.Names.{name_at}
use Rattle.std.specs.Fmt.{digits}

-- the same symbol, but for the address
abbrev same_form : Shared → Shared → Bool
same_form a b =
    bytes_eq a.name b.name && (a.size == b.size && (a.info == b.info && (a.other == b.other && a.section == b.section)))

abbrev same_shared : List Shared → List Shared → Bool
same_shared [] [] = true
same_shared [] (b ∷ bs) = false
same_shared (a ∷ rest) [] = false
same_shared (a ∷ rest) (b ∷ bs) = same_form a b && (a.value == b.value && same_shared rest bs)

-- the first one's address may be another
abbrev same_behind : List Shared → List Shared → Bool
same_behind [] bs = false
same_behind (a ∷ rest) [] = false
same_behind (a ∷ rest) (b ∷ bs) = same_form a b && same_shared rest bs

abbrev app_shared : List (List ℕ) → List Shared
app_shared names = function_shared (codes "start") 0 ∷ map import_shared names

all_shared : (c : Contents) (words : List Wanted) (stubs : List ℕ) (layout : Layout) → every (λ n count. same_behind (shared_of (working_with c (callee_names n count) words stubs layout)) (app_shared (callee_names n count))) ≡ true
unfolding shared_of export_of import_of source_symbol source_in no_name exports_of imports_of is_exported is_imported bound_region symbol_region symbol_in sections_at names_at section_region zone_of zone_in is_text is_near has_flag section_name is_under app_file each_below digits sections_of named_shstrtab table_section null_section symtab_of symbols_of text_of symbol_entries symbol_at word_at half_at symbol_row word_bytes half_bytes name_of name_table info_binding section_class mentions_of object_mentions mention_of strings_of bindings_of group_of of_name common_of binding_of is_table other_visibility
all_shared c words stubs layout = refl

-- The symbols of the libraries stand for the names behind `start`, which are imports with these numbers.
abbrev is_in_order : Contents → List (List ℕ) → ℕ → Bool
is_in_order c names place =
    same_wanted (wanted_at (wanted_in c names) 0 (3 + place)) (Bound (1 + place))
    && (is_imported_at (bound_of c names) (1 + place) && import_symbol (bound_of c names) (1 + place) == 4 + place)

all_in_order : (c : Contents) → every (λ n count. all_below count (is_in_order c (callee_names n count))) ≡ true
unfolding is_imported_at import_symbol exports_of is_exported is_imported app_file each_below digits sections_of named_shstrtab table_section null_section symtab_of symbols_of text_of symbol_entries symbol_at word_at half_at symbol_row word_bytes half_bytes name_of name_table info_binding section_class mentions_of object_mentions mention_of strings_of bindings_of group_of of_name common_of wanted_of wanted_by wanted_at name_at binding_of is_table other_visibility
all_in_order c = refl

-- What the tests say of the names of an executable.
abbrev pub HasShared : Working → List (List ℕ) → Type 0
HasShared w names = (start : ℕ) × (shared_of w ≡ function_shared (codes "start") start ∷ map import_shared names)

pub record IsInOrder (c : Contents) (names : List (List ℕ)) (place : ℕ) : Type 0 where
  pub wanted : wanted_at (wanted_in c names) 0 (3 + place) ≡ Bound (1 + place)
  pub imported : is_imported_at (bound_of c names) (1 + place) ≡ true
  pub symbol : import_symbol (bound_of c names) (1 + place) ≡ 4 + place

pub record IsOrdered (c : Contents) (names : List (List ℕ)) (count : ℕ) : Type 0 where
  pub shared : (words : List Wanted) (stubs : List ℕ) (layout : Layout) → HasShared (working_with c names words stubs layout) names
  pub in_order : (place : ℕ) → place < count → IsInOrder c names place

-- b with the address of a
abbrev with_value : ℕ → Shared → Shared
with_value value b = record { name = b.name; value = value; size = b.size; info = b.info; other = b.other; section = b.section }

form_is : (a b : Shared) → same_form a b ≡ true → a ≡ with_value a.value b
form_is a b is =
    let name = and_parts _ _ is in
    let size = and_parts _ _ name.1 in
    let info = and_parts _ _ size.1 in
    let other = and_parts _ _ info.1 in
    let same_name : a.name ≡ b.name = (bytes_eq-Decides a.name b.name).0 name.0 in
    let same_size : a.size ≡ b.size = eqb-true a.size b.size size.0 in
    let same_info : a.info ≡ b.info = eqb-true a.info b.info info.0 in
    let same_other : a.other ≡ b.other = eqb-true a.other b.other other.0 in
    let same_section : a.section ≡ b.section = eqb-true a.section b.section other.1 in
    λ i. record { name = same_name i; value = a.value; size = same_size i; info = same_info i; other = same_other i; section = same_section i }

shared_are : (xs bs : List Shared) → same_shared xs bs ≡ true → xs ≡ bs
shared_are [] [] is = refl
shared_are [] (b ∷ bs) is = absurd (cc is)
shared_are (a ∷ rest) [] is = absurd (cc is)
shared_are (a ∷ rest) (b ∷ bs) is =
    let form = and_parts _ _ is in
    let value = and_parts _ _ form.1 in
    let same : a.value ≡ b.value = eqb-true a.value b.value value.0 in
    let first : a ≡ b = form_is a b form.0 ∙ ap (λ v. with_value v b) same in
    ap₂ (λ x xs. x ∷ xs) first (shared_are rest bs value.1)

behind_are : (xs : List Shared) (b : Shared) (bs : List Shared) → same_behind xs (b ∷ bs) ≡ true → (value : ℕ) × (xs ≡ with_value value b ∷ bs)
behind_are [] b bs is = absurd (cc is)
behind_are (a ∷ rest) b bs is =
    let form = and_parts _ _ is in
    (a.value, ap₂ (λ x xs. x ∷ xs) (form_is a b form.0) (shared_are rest bs form.1))

bound_is : (wanted : Wanted) (number : ℕ) → same_wanted wanted (Bound number) ≡ true → wanted ≡ Bound number
bound_is (Bound other) number is = ap Bound (eqb-true other number is)
bound_is (Local object symbol) number is = absurd (cc is)

place_is : (c : Contents) (names : List (List ℕ)) (place : ℕ) → is_in_order c names place ≡ true → IsInOrder c names place
place_is c names place is =
    let first = and_parts _ _ is in
    let second = and_parts _ _ first.1 in
    record {
      wanted = bound_is (wanted_at (wanted_in c names) 0 (3 + place)) (1 + place) first.0;
      imported = second.0;
      symbol = eqb-true (import_symbol (bound_of c names) (1 + place)) (4 + place) second.1;
    }

pub names_ordered : (c : Contents) (n count : ℕ) → 1 ≤ count → count ≤ 11 → IsOrdered c (callee_names n count) count
names_ordered c n count least most =
    let k = n % 11 in
    let small : k < 11 = omega arith in
    let shared = λ (words : List Wanted) (stubs : List ℕ) (layout : Layout). tested (λ n count. same_behind (shared_of (working_with c (callee_names n count) words stubs layout)) (app_shared (callee_names n count))) (all_shared c words stubs layout) k count small least most in
    let in_order = tested (λ n count. all_below count (is_in_order c (callee_names n count))) (all_in_order c) k count small least most in
    let names = callee_names k count in
    subst (λ names. IsOrdered c names count) (sym (same_names n count))
    (record {
      shared = λ words stubs layout. behind_are (shared_of (working_with c names words stubs layout)) (function_shared (codes "start") 0) (map import_shared names) (shared words stubs layout);
      in_order = λ place below. place_is c names place (each_below_all count (is_in_order c names) in_order place below);
    })
