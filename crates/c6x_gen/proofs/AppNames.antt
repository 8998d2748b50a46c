-- The names of an executable's libraries, in each order that there is.
use Rattle.std.proofs.Common.{◌≡◌, ℕ, zero, suc, ◌+◌, ◌%◌, ◌<◌, ◌≤◌, Bool, true, List, [], ◌∷◌, refl, ap, sym, subst, arith}
use Rattle.std.specs.Prelude.{is_none, is_some}
use Rattle.std.specs.List.{list_all}
use Rattle.c6x_dsbt.specs.declared.wanted.Wanted.{Wanted}
use Rattle.c6x_layout.specs.declared.layout.Layout.{Layout}
use Rattle.c6x_gen.specs.Lists.{each_below}
use Rattle.c6x_gen.specs.Sources.{called, library_name}
use Rattle.c6x_gen.proofs.Below.{all_below, each_below_all}
use Rattle.c6x_gen.proofs.AppFile.{are_few, are_imports, app_file, bound_of, callee_names, Contents, has_no_common, working_with}
use Rattle.c6x_asm_object.specs.Filing.{named_shstrtab, sections_of}
use Rattle.c6x_asm_object.specs.Headers.{table_section, null_section}
use Rattle.c6x_elf.specs.Lists.{symtab_of, symbols_of, section_name, is_under}
use Rattle.c6x_elf.specs.Entries.{text_of}
use Rattle.c6x_symbols.specs.Binding.{is_table, binding_of, name_refusal}
use Rattle.c6x_symbols.specs.Bindings.{bindings_of, is_exported, is_imported, exports_of, imports_of, names_refusal}
use Rattle.c6x_symbols.specs.Groups.{common_of, group_of, of_name}
use Rattle.c6x_symbols.specs.Mentions.{strings_of, mention_of, object_mentions, mentions_of}
use Rattle.c6x_symbols.specs.Names.{name_at}
use Rattle.c6x_symbols.specs.Rules.{must}
use Rattle.c6x_dsbt.specs.Wanted.{wanted_by, wanted_of, wanted_at}
use Rattle.c6x_layout.specs.Alignments.{is_alignment, object_align_refusal, alignments_refusal}
use Rattle.c6x_layout.specs.Dynamics.{shared_names, module_names, strings_of_link}
use Rattle.c6x_layout.specs.Places.{common_room}
use Rattle.c6x_layout.specs.Regions.{sections_at, names_at, section_region, symbol_in, symbol_region, bound_region}
use Rattle.c6x_symbols.specs.Sections.{has_flag, is_near, is_text, zone_in, zone_of}
use Rattle.c6x_link.specs.Linked.{entry_of}
use Rattle.c6x_elf.specs.Attributes.{info_binding, other_visibility, section_class}
use Rattle.c6x_elf.specs.TableEntries.{symbol_entries, symbol_at}
use Rattle.c6x_elf.specs.EntryRows.{symbol_row}
use Rattle.c6x_elf.specs.Names.{name_of, name_table}
use Rattle.c6x_elf.specs.Rows.{word_bytes, half_bytes}
use Rattle.c6x_spec.specs.Numbers.{word_at, half_at}
use Rattle.std.specs.Fmt.{digits}

-- a test of each order of names and each number of them
abbrev pub every : (ℕ → ℕ → Bool) → Bool
every test = all_below 11 (λ n. all_below 11 (λ before. test n (before + 1)))

no_name_refused : (c : Contents) → every (λ n count. is_none (names_refusal (bound_of c (callee_names n count)))) ≡ true
unfolding app_file each_below digits sections_of named_shstrtab table_section null_section symtab_of symbols_of text_of symbol_entries symbol_at word_at half_at symbol_row word_bytes half_bytes name_of name_table info_binding section_class mentions_of object_mentions mention_of strings_of bindings_of group_of of_name common_of names_refusal name_refusal is_table must other_visibility
no_name_refused c = refl

all_aligned : (c : Contents) → every (λ n count. is_none (alignments_refusal (app_file c (callee_names n count) ∷ []))) ≡ true
unfolding app_file each_below digits sections_of named_shstrtab table_section null_section symtab_of symbols_of text_of symbol_entries symbol_at word_at half_at symbol_row word_bytes half_bytes name_of name_table info_binding section_class mentions_of object_mentions mention_of strings_of bindings_of group_of of_name common_of alignments_refusal object_align_refusal is_alignment has_flag must lib.Count.ones
all_aligned c = refl

all_start : (c : Contents) (words : List Wanted) (stubs : List ℕ) (layout : Layout) → every (λ n count. is_some (entry_of (working_with c (callee_names n count) words stubs layout))) ≡ true
unfolding app_file each_below digits sections_of named_shstrtab table_section null_section symtab_of symbols_of text_of symbol_entries symbol_at word_at half_at symbol_row word_bytes half_bytes name_of name_table info_binding section_class mentions_of object_mentions mention_of strings_of bindings_of group_of of_name common_of entry_of name_at binding_of is_table bound_region symbol_region symbol_in sections_at names_at section_region zone_of zone_in is_text is_near has_flag section_name is_under
all_start c words stubs layout = refl

all_few : (c : Contents) → every (λ n count. are_few (bound_of c (callee_names n count))) ≡ true
unfolding app_file each_below digits sections_of named_shstrtab table_section null_section symtab_of symbols_of text_of symbol_entries symbol_at word_at half_at symbol_row word_bytes half_bytes name_of name_table info_binding section_class mentions_of object_mentions mention_of strings_of bindings_of group_of of_name common_of exports_of imports_of is_exported is_imported binding_of is_table other_visibility strings_of_link shared_names module_names
all_few c = refl

no_commons : (c : Contents) → every (λ n count. list_all has_no_common (bound_of c (callee_names n count))) ≡ true
unfolding app_file each_below digits sections_of named_shstrtab table_section null_section symtab_of symbols_of text_of symbol_entries symbol_at word_at half_at symbol_row word_bytes half_bytes name_of name_table info_binding section_class mentions_of object_mentions mention_of strings_of bindings_of group_of of_name common_of common_room binding_of is_table
no_commons c = refl

all_imports : (c : Contents) → every (λ n count. are_imports c (callee_names n count) count) ≡ true
unfolding app_file each_below digits sections_of named_shstrtab table_section null_section symtab_of symbols_of text_of symbol_entries symbol_at word_at half_at symbol_row word_bytes half_bytes name_of name_table info_binding section_class mentions_of object_mentions mention_of strings_of bindings_of group_of of_name common_of wanted_of wanted_by wanted_at name_at binding_of is_table
all_imports c = refl

-- what a test says of each order and number
pub tested : (test : ℕ → ℕ → Bool) → every test ≡ true → (n count : ℕ) → n < 11 → 1 ≤ count → count ≤ 11 → test n count ≡ true
tested test all n zero small least most = absurd (omega (arith, least))
tested test all n (suc before) small least most =
    let is : before + 1 ≡ suc before = omega arith in
    subst (λ k. test n k ≡ true) is
    (each_below_all 11 (λ b. test n (b + 1)) (each_below_all 11 (λ k. all_below 11 (λ b. test k (b + 1))) all n small) before (omega (arith, most)))

-- The order of the names is that of the number's remainder by 11.
same_each : {X : Type 0} (count : ℕ) (f g : ℕ → List X) → ((line : ℕ) → f line ≡ g line) → each_below count f ≡ each_below count g
unfolding each_below
same_each zero f g same = refl
same_each (suc last) f g same = rw (same_each last f g same, same last) refl

same_called : (n line : ℕ) → called n line ≡ called (n % 11) line
same_called n line = omega arith

pub same_names : (n count : ℕ) → callee_names n count ≡ callee_names (n % 11) count
same_names n count = same_each count (λ line. library_name (called n line) ∷ []) (λ line. library_name (called (n % 11) line) ∷ []) (λ line. ap (λ k. library_name k ∷ []) (same_called n line))

-- What the names of an executable are for its link.
pub record AreGood (c : Contents) (names : List (List ℕ)) (count : ℕ) : Type 0 where
  pub accepted : is_none (names_refusal (bound_of c names)) ≡ true
  pub aligned : is_none (alignments_refusal (app_file c names ∷ [])) ≡ true
  pub starts : (words : List Wanted) (stubs : List ℕ) (layout : Layout) → is_some (entry_of (working_with c names words stubs layout)) ≡ true
  pub few : are_few (bound_of c names) ≡ true
  pub commons : list_all has_no_common (bound_of c names) ≡ true
  pub imports : are_imports c names count ≡ true

pub names_good : (c : Contents) (n count : ℕ) → 1 ≤ count → count ≤ 11 → AreGood c (callee_names n count) count
names_good c n count least most =
    let k = n % 11 in
    let small : k < 11 = omega arith in
    subst (λ names. AreGood c names count) (sym (same_names n count))
    (record {
      accepted = tested (λ n count. is_none (names_refusal (bound_of c (callee_names n count)))) (no_name_refused c) k count small least most;
      aligned = tested (λ n count. is_none (alignments_refusal (app_file c (callee_names n count) ∷ []))) (all_aligned c) k count small least most;
      starts = λ words stubs layout. tested (λ n count. is_some (entry_of (working_with c (callee_names n count) words stubs layout))) (all_start c words stubs layout) k count small least most;
      few = tested (λ n count. are_few (bound_of c (callee_names n count))) (all_few c) k count small least most;
      commons = tested (λ n count. list_all has_no_common (bound_of c (callee_names n count))) (no_commons c) k count small least most;
      imports = tested (λ n count. are_imports c (callee_names n count) count) (all_imports c) k count small least most;
    })
