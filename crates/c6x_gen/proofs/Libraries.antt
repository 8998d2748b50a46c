-- Each library is linked: all but the counter's bytes is closed, and no rule asks for those.
use Rattle.std.proofs.Common.{◌≡◌, ℕ, zero, suc, ◌+◌, ◌≤◌, true, [], ◌∷◌, refl, subst, sym, arith}
use Rattle.std.specs.Prelude.{is_none}
use Rattle.c6x_gen.specs.Sources.{counter, library_name}
use Rattle.c6x_gen.specs.Links.{library_link}
use Rattle.c6x_gen.specs.LinkedPlans.{LibrariesAreLinked}
use Rattle.c6x_gen.specs.Objects.{library_object}
use Rattle.c6x_gen.proofs.Below.{all_below, each_below_all}
use Rattle.c6x_gen.proofs.LibraryFile.{library_file, library_is}
use Rattle.c6x_gen.proofs.Linking.{linked_by}
use Rattle.c6x_asm_lines.specs.Bytes.{bytes_at}
use Rattle.c6x_asm_object.specs.Filing.{named_symtab, named_strtab, named_sections, named_shstrtab, sections_of, file_of}
use Rattle.c6x_asm_object.specs.FormSymbols.{ordered, entries, symbol_table, names_table, symbol_number, symbol_numbers}
use Rattle.c6x_asm_object.specs.Bindings.{binding}
use Rattle.c6x_asm_object.specs.Headers.{section_header, table_section, null_section}
use Rattle.c6x_asm_object.specs.Relocations.{relocation}
use Rattle.c6x_elf.specs.Lists.{symtab_of, symbols_of, section_name, is_under}
use Rattle.c6x_elf.specs.Entries.{text_of}
use Rattle.c6x_elf.specs.Parts.{has_bytes}
use Rattle.c6x_symbols.specs.Binding.{is_table, binding_of, name_refusal}
use Rattle.c6x_symbols.specs.Bindings.{bindings_of, is_exported, is_imported, exports_of, imports_of, names_refusal}
use Rattle.c6x_symbols.specs.Groups.{common_of, group_of, of_name}
use Rattle.c6x_symbols.specs.Mentions.{strings_of, mention_of, object_mentions, mentions_of}
use Rattle.c6x_symbols.specs.Names.{name_at}
use Rattle.c6x_symbols.specs.Rules.{must}
use Rattle.c6x_dsbt.specs.Needs.{word_need, is_imported_at, stub_need, file_words, file_stubs, words_of, stubs_of}
use Rattle.c6x_dsbt.specs.Plans.{has_index, has_size, tables_refusal}
use Rattle.c6x_dsbt.specs.Wanted.{wanted_by, wanted_of, wanted_at}
use Rattle.c6x_layout.specs.Alignments.{is_alignment, object_align_refusal, alignments_refusal}
use Rattle.c6x_layout.specs.Dynamics.{is_filled_word, is_filled_entry, file_filled, filled_count, shared_names, module_names, strings_of_link}
use Rattle.c6x_layout.specs.Layouts.{sections_end, stubs_at, code_end, counts_of, text_end, table_at, words_at, words_end, near_bytes_end, near_zeros_end, near_end, file_end, far_zeros_end, data_end, places_of, layout_of, greatest_word, size_refusal, layout_refusal}
use Rattle.c6x_layout.specs.Places.{start_of, common_room}
use Rattle.c6x_layout.specs.Regions.{sections_at, names_at, section_region, symbol_in, symbol_region, bound_region, wanted_region}
use Rattle.c6x_symbols.specs.Entries.{is_used, table_entries, file_entries}
use Rattle.c6x_symbols.specs.Parts.{part_of, part_at, file_parts, parts_of}
use Rattle.c6x_symbols.specs.Sections.{has_flag, is_allocated_at, is_near, is_text, zone_in, zone_of}
use Rattle.c6x_link.specs.Addresses.{section_address, symbol_address, bound_address, wanted_address}
use Rattle.c6x_link.specs.LinkEntries.{room_of, stands_in_text, section_at, entry_on, link_entry, file_link_entries, link_entries}
use Rattle.c6x_link.specs.Targets.{target_of}
use Rattle.c6x_link.specs.Working.{laying_of}
use Rattle.c6x_symbols.specs.LinkEntries.{error_at}
use Rattle.c6x_symbols.specs.EntryRules.{must as link_entries_rules_must, is_inside, has_no_addend, kind_rule, entry_rule}
use Rattle.c6x_layout.specs.FilePlaces.{hash_at, symbols_at, strings_at, relas_at, jumps_at, dynamic_at, entry_count, text_size}
use Rattle.c6x_reloc.specs.Table.{row_of, kind_or}
use Rattle.c6x_reloc.specs.Value.{sum_of, divides, quotient_of, fits, field_of, has_addend, row_value}
use Rattle.c6x_link.specs.Linked.{entry_of, entry_refusal, file_refusal, laid_refusal, link_refusal}
use Rattle.c6x_elf.specs.Attributes.{info_binding, other_visibility, section_class}
use Rattle.c6x_elf.specs.TableEntries.{symbol_entries, rela_entries, symbol_at, rela_at}
use Rattle.c6x_elf.specs.EntryRows.{symbol_row, rela_row}
use Rattle.c6x_elf.specs.Names.{name_of, name_table}
use Rattle.c6x_elf.specs.Rows.{word_bytes, half_bytes}
use Rattle.c6x_spec.specs.Numbers.{word_at, half_at}
use Rattle.std.specs.Fmt.{digits}

-- no rule is broken, whatever the counters
all_pass : (counts : ℕ → ℕ) → all_below 11 (λ before. is_none (link_refusal (library_file (library_name (before + 1)) (counts (before + 1)) ∷ []) (library_link (before + 1)))) ≡ true
unfolding bytes_at named_symtab named_strtab named_sections named_shstrtab sections_of file_of ordered entries symbol_table names_table symbol_number symbol_numbers binding section_header table_section null_section relocation symtab_of symbols_of section_name is_under text_of has_bytes is_table binding_of name_refusal bindings_of is_exported is_imported exports_of imports_of names_refusal common_of group_of of_name strings_of mention_of object_mentions mentions_of name_at must word_need is_imported_at stub_need file_words file_stubs words_of stubs_of has_index has_size tables_refusal wanted_by wanted_of wanted_at is_alignment object_align_refusal alignments_refusal is_filled_word is_filled_entry file_filled filled_count shared_names module_names strings_of_link sections_end stubs_at code_end counts_of text_end table_at words_at words_end near_bytes_end near_zeros_end near_end file_end far_zeros_end data_end places_of layout_of greatest_word size_refusal layout_refusal start_of common_room sections_at names_at section_region symbol_in symbol_region bound_region wanted_region is_used table_entries file_entries part_of part_at file_parts parts_of has_flag is_allocated_at is_near is_text zone_in zone_of section_address symbol_address bound_address wanted_address room_of stands_in_text section_at entry_on link_entry file_link_entries link_entries target_of laying_of error_at link_entries_rules_must is_inside has_no_addend kind_rule entry_rule hash_at symbols_at strings_at relas_at jumps_at dynamic_at entry_count text_size row_of kind_or sum_of divides quotient_of fits field_of has_addend row_value entry_of entry_refusal file_refusal laid_refusal link_refusal info_binding other_visibility section_class symbol_entries rela_entries symbol_at rela_at symbol_row rela_row name_of name_table word_bytes half_bytes word_at half_at digits library_file lib.Count.ones
all_pass counts = refl

passes : (counts : ℕ → ℕ) (library : ℕ) → 1 ≤ library → library ≤ 11 → is_none (link_refusal (library_file (library_name library) (counts library) ∷ []) (library_link library)) ≡ true
passes counts zero least most = absurd (omega (arith, least))
passes counts (suc before) least most =
    let is : before + 1 ≡ suc before = omega arith in
    subst (λ k. is_none (link_refusal (library_file (library_name k) (counts k) ∷ []) (library_link k)) ≡ true) is
    (each_below_all 11 (λ b. is_none (link_refusal (library_file (library_name (b + 1)) (counts (b + 1)) ∷ []) (library_link (b + 1)))) (all_pass counts) before (omega (arith, most)))

pub libraries_linked : LibrariesAreLinked
libraries_linked number library least most =
    linked_by (library_object number library) (library_link library)
    (subst (λ object. is_none (link_refusal (object ∷ []) (library_link library)) ≡ true) (sym (library_is number library)) (passes (counter number) library least most))
