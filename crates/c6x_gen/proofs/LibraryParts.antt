-- What the link of a library shares, and what it leaves to the loader: all but the counter's bytes is closed.
use Rattle.std.proofs.Common.{◌≡◌, ℕ, zero, suc, ◌+◌, ◌≤◌, ◌==◌, ◌&&◌, Bool, true, false, List, [], ◌∷◌, ◌++◌, refl, ap, subst, arith}
use Rattle.std.proofs.lemmas.Bool.{and_parts, eqb-true}
use Rattle.std.proofs.lemmas.Slice.Eq.{bytes_eq-Decides}
use Rattle.std.specs.Str.{bytes_eq}
use Rattle.c6x_gen.specs.Sources.{library_name}
use Rattle.c6x_gen.specs.Links.{library_link}
use Rattle.c6x_gen.proofs.Below.{all_below, each_below_all}
use Rattle.c6x_gen.proofs.LibraryFile.{library_file}
use Rattle.c6x_elf.specs.Abi.{STT_NOTYPE, STV_DEFAULT}
use Rattle.c6x_elf.specs.Bindings.{Global}
use Rattle.c6x_elf.specs.Types.{Rela}
use Rattle.c6x_asm_lines.specs.Bytes.{bytes_at}
use Rattle.c6x_asm_object.specs.Filing.{named_symtab, named_strtab, named_sections, named_shstrtab, sections_of, file_of}
use Rattle.c6x_asm_object.specs.FormSymbols.{ordered, entries, symbol_table, names_table, symbol_number, symbol_numbers}
use Rattle.c6x_asm_object.specs.Bindings.{binding}
use Rattle.c6x_asm_object.specs.Headers.{section_header, table_section, null_section}
use Rattle.c6x_asm_object.specs.Relocations.{relocation}
use Rattle.c6x_elf.specs.Lists.{symtab_of, symbols_of, section_name, is_under}
use Rattle.c6x_elf.specs.Entries.{text_of}
use Rattle.c6x_elf.specs.Parts.{has_bytes}
use Rattle.c6x_symbols.specs.Binding.{is_table, binding_of}
use Rattle.c6x_symbols.specs.Bindings.{bindings_of, is_exported, is_imported, exports_of, imports_of, source_in}
use Rattle.c6x_symbols.specs.Groups.{common_of, group_of, of_name}
use Rattle.c6x_symbols.specs.Mentions.{strings_of, mention_of, object_mentions, mentions_of}
use Rattle.c6x_symbols.specs.Names.{name_at}
use Rattle.c6x_dsbt.specs.Needs.{word_need, is_imported_at, stub_need, file_words, file_stubs, words_of, stubs_of}
use Rattle.c6x_dsbt.specs.Wanted.{wanted_by, wanted_of, wanted_at}
use Rattle.c6x_layout.specs.Layouts.{layout_of, places_of}
use Rattle.c6x_layout.specs.Places.{start_of}
use Rattle.c6x_layout.specs.Regions.{sections_at, names_at, section_region, symbol_in, symbol_region, bound_region, wanted_region}
use Rattle.c6x_symbols.specs.Entries.{is_used, table_entries, file_entries}
use Rattle.c6x_symbols.specs.Parts.{part_of, part_at, file_parts, parts_of}
use Rattle.c6x_symbols.specs.Sections.{has_flag, is_allocated_at, is_near, is_text, zone_in, zone_of}
use Rattle.c6x_link.specs.Exports.{export_of, import_of, shared_of, source_symbol}
use Rattle.c6x_link.specs.Words.{stub_relas, word_relas}
use Rattle.c6x_link.specs.Addresses.{section_address, symbol_address, bound_address}
use Rattle.c6x_link.specs.LinkEntries.{entry_on, file_link_entries, link_entries, link_entry, stands_in_text}
use Rattle.c6x_link.specs.Targets.{target_of}
use Rattle.c6x_link.specs.Working.{Working, laying_of, working_of}
use Rattle.c6x_symbols.specs.LinkEntries.{dynamic_relas}
use Rattle.c6x_layout.specs.declared.file_limits.TheConstants.{TEXT_START}
use Rattle.c6x_layout.specs.declared.shared.Shared.{Shared}
use Rattle.c6x_reloc.specs.Table.{row_of, kind_or}
use Rattle.c6x_elf.specs.Attributes.{info_binding, other_visibility, section_class, symbol_info}
use Rattle.c6x_elf.specs.TableEntries.{symbol_entries, rela_entries, symbol_at, rela_at}
use Rattle.c6x_elf.specs.EntryRows.{symbol_row, rela_row}
use Rattle.c6x_elf.specs.Names.{name_of, name_table}
use Rattle.c6x_elf.specs.Rows.{word_bytes, half_bytes}
use Rattle.c6x_spec.specs.Numbers.{word_at, half_at}
use Rattle.std.specs.Fmt.{digits}
use Rattle.c6x_gen.specs.Parts.{function_shared}

-- an export of the first byte of the text
abbrev is_function : List ℕ → Shared → Bool
is_function name s =
    bytes_eq s.name name
    && (s.value == TEXT_START && (s.size == 0 && (s.info == symbol_info Global STT_NOTYPE && (s.other == STV_DEFAULT && s.section == 1))))

-- it and no other
abbrev is_alone : List ℕ → List Shared → Bool
is_alone name [] = false
is_alone name (s ∷ []) = is_function name s
is_alone name (s ∷ t ∷ more) = false

abbrev is_empty : List Rela → Bool
is_empty [] = true
is_empty (r ∷ relas) = false

-- what is left to the loader
abbrev pub left_over : Working → List Rela
left_over w = word_relas w ++ dynamic_relas (link_entries w) ++ stub_relas w

-- the link of a library with this counter
abbrev pub worked : ℕ → ℕ → Working
worked library count = working_of (library_file (library_name library) count ∷ []) (library_link library)

-- what the link of each library shares is its function, whatever the counters
all_alone : (counts : ℕ → ℕ) → all_below 11 (λ before. is_alone (library_name (before + 1)) (shared_of (worked (before + 1) (counts (before + 1))))) ≡ true
unfolding bytes_at named_symtab named_strtab named_sections named_shstrtab sections_of file_of ordered entries symbol_table names_table symbol_number symbol_numbers binding section_header table_section null_section relocation symtab_of symbols_of section_name is_under text_of has_bytes is_table binding_of bindings_of is_exported is_imported exports_of imports_of source_in common_of group_of of_name strings_of mention_of object_mentions mentions_of name_at layout_of places_of start_of sections_at names_at section_region symbol_in symbol_region bound_region part_of part_at file_parts parts_of has_flag is_allocated_at is_near is_text zone_in zone_of export_of import_of shared_of source_symbol section_address symbol_address bound_address laying_of working_of info_binding other_visibility section_class symbol_entries symbol_at symbol_row name_of name_table word_bytes half_bytes word_at half_at digits library_file
all_alone counts = refl

-- and it leaves nothing over
all_empty : (counts : ℕ → ℕ) → all_below 11 (λ before. is_empty (left_over (worked (before + 1) (counts (before + 1))))) ≡ true
unfolding bytes_at named_symtab named_strtab named_sections named_shstrtab sections_of file_of ordered entries symbol_table names_table symbol_number symbol_numbers binding section_header table_section null_section relocation symtab_of symbols_of section_name is_under text_of has_bytes is_table binding_of bindings_of is_imported common_of group_of of_name strings_of mention_of object_mentions mentions_of name_at word_need is_imported_at stub_need file_words file_stubs words_of stubs_of wanted_by wanted_of wanted_at sections_at names_at section_region symbol_in symbol_region bound_region wanted_region is_used table_entries file_entries has_flag is_allocated_at is_near is_text zone_in zone_of stands_in_text entry_on link_entry file_link_entries link_entries target_of laying_of working_of word_relas stub_relas dynamic_relas row_of kind_or info_binding other_visibility section_class symbol_entries rela_entries symbol_at rela_at symbol_row rela_row name_of name_table word_bytes half_bytes word_at half_at digits library_file
all_empty counts = refl

-- what a test says of each library
tested : (test : ℕ → Bool) → all_below 11 (λ before. test (before + 1)) ≡ true → (library : ℕ) → 1 ≤ library → library ≤ 11 → test library ≡ true
tested test all zero least most = absurd (omega (arith, least))
tested test all (suc before) least most =
    let is : before + 1 ≡ suc before = omega arith in
    subst (λ k. test k ≡ true) is (each_below_all 11 (λ b. test (b + 1)) all before (omega (arith, most)))

same_shared : (s : Shared) (name : List ℕ) (value : ℕ) → s.name ≡ name → s.value ≡ value → s.size ≡ 0 → s.info ≡ symbol_info Global STT_NOTYPE → s.other ≡ STV_DEFAULT → s.section ≡ 1 → s ≡ function_shared name value
same_shared s name value n v z f o c = λ i. record { name = n i; value = v i; size = z i; info = f i; other = o i; section = c i }

function_is : (name : List ℕ) (s : Shared) → is_function name s ≡ true → s ≡ function_shared name TEXT_START
function_is name s is =
    let a = and_parts (bytes_eq s.name name) _ is in
    let b = and_parts (s.value == TEXT_START) _ a.1 in
    let c = and_parts (s.size == 0) _ b.1 in
    let d = and_parts (s.info == symbol_info Global STT_NOTYPE) _ c.1 in
    let e = and_parts (s.other == STV_DEFAULT) (s.section == 1) d.1 in
    same_shared s name TEXT_START ((bytes_eq-Decides s.name name).0 a.0) (eqb-true s.value TEXT_START b.0) (eqb-true s.size 0 c.0)
    (eqb-true s.info (symbol_info Global STT_NOTYPE) d.0) (eqb-true s.other STV_DEFAULT e.0) (eqb-true s.section 1 e.1)

alone_is : (name : List ℕ) (shared : List Shared) → is_alone name shared ≡ true → shared ≡ function_shared name TEXT_START ∷ []
alone_is name [] is = absurd (cc is)
alone_is name (s ∷ []) is = ap (λ t. t ∷ []) (function_is name s is)
alone_is name (s ∷ t ∷ more) is = absurd (cc is)

empty_is : (relas : List Rela) → is_empty relas ≡ true → relas ≡ []
empty_is [] is = refl
empty_is (r ∷ relas) is = absurd (cc is)

pub one_shared : (library count : ℕ) → 1 ≤ library → library ≤ 11 → shared_of (worked library count) ≡ function_shared (library_name library) TEXT_START ∷ []
one_shared library count least most =
    alone_is (library_name library) (shared_of (worked library count)) (tested (λ k. is_alone (library_name k) (shared_of (worked k count))) (all_alone (λ k. count)) library least most)

pub none_left : (library count : ℕ) → 1 ≤ library → library ≤ 11 → left_over (worked library count) ≡ []
none_left library count least most =
    empty_is (left_over (worked library count)) (tested (λ k. is_empty (left_over (worked k count))) (all_empty (λ k. count)) library least most)
