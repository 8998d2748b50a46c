-- The calls of an executable break no rule of relocation entries.
use Rattle.std.proofs.Common.{◌≡◌, ℕ, ◌+◌, ◌*◌, ◌/◌, ◌%◌, ◌^◌, ◌<◌, ◌≤◌, ◌==◌, Bool, true, false, List, [], ◌∷◌, length, map, Option, Some, None, if◌then◌else◌, refl, arith}
use Rattle.std.specs.Prelude.{pos, nat_eq}
use Rattle.std.proofs.lemmas.List.{append-nil}
use Rattle.std.proofs.lemmas.List.Quantifiers.{position-Some}
use Rattle.c6x_elf.specs.Entries.{text_of}
use Rattle.c6x_elf.specs.Lists.{is_under, section_name, symtab_of}
use Rattle.c6x_elf.specs.Names.{name_of}
use Rattle.c6x_elf.specs.TableEntries.{rela_entries}
use Rattle.c6x_elf.specs.Types.{Rela}
use Rattle.c6x_elf.specs.declared.file.File.{File}
use Rattle.c6x_asm_object.specs.Filing.{named_shstrtab, sections_of}
use Rattle.c6x_asm_object.specs.Headers.{null_section, table_section}
use Rattle.c6x_dsbt.specs.Needs.{stub_place}
use Rattle.c6x_dsbt.specs.Wanted.{wanted_at, wanted_of}
use Rattle.c6x_dsbt.specs.declared.wanted.Wanted.{Wanted}
use Rattle.c6x_dsbt.specs.declared.wanted.Wanted.TheVariants.{Bound, Local}
use Rattle.c6x_layout.specs.Layouts.{layout_of, places_of, sections_end, size_refusal, stubs_at}
use Rattle.c6x_layout.specs.Places.{start_of}
use Rattle.c6x_layout.specs.Regions.{binding_region, bound_region, names_at, section_region, sections_at, wanted_region}
use Rattle.c6x_layout.proofs.Bounds.{bounds}
use Rattle.c6x_symbols.specs.LinkEntries.{error_at}
use Rattle.c6x_link.specs.Addresses.{address_in, binding_address, bound_address, wanted_address}
use Rattle.c6x_link.specs.LinkEntries.{entry_on, link_entry, room_of, section_at, stands_in_text}
use Rattle.c6x_link.specs.Targets.{reach_of, stub_or, target_of}
use Rattle.c6x_link.specs.Working.{Working, worked_out}
use Rattle.c6x_symbols.specs.Entries.{entry_of, file_entries, is_used, table_entries}
use Rattle.c6x_symbols.specs.Sections.{has_flag, is_allocated_at, is_near, is_text, zone_in, zone_of}
use Rattle.c6x_symbols.specs.declared.region.Region.TheVariants.{Import}
use Rattle.c6x_reloc.specs.Table.{kind_or, row_of}
use Rattle.c6x_symbols.specs.Bindings.{BoundName, binding_in, bound_at, is_import, name_in}
use Rattle.c6x_symbols.specs.declared.binding.Binding.{Binding}
use Rattle.c6x_symbols.specs.declared.binding.Binding.TheVariants.{Common, Import as ImportBinding, Strong, Table, Weak}
use Rattle.c6x_gen.proofs.Below.{each_below_all}
use Rattle.c6x_gen.proofs.AppFile.{app_file, are_imports, bound_of, Contents, is_bound_import}
use Rattle.c6x_gen.proofs.AppSizes.{laid, parts_are}
use Rattle.c6x_gen.proofs.Reach.{call_passes, IsCallBy}

-- The relocation of a line that calls the library with this place among the names.
abbrev pub call_rela : ℕ → ℕ → Rela
call_rela line place = record { offset = 4 + 4 * line; info = (3 + place) * 256 + 4; addend = pos 0 }

-- Where an import lies, and where its stub is reached.
import_region : (objects : List File) (b : Binding) → is_import b ≡ true → binding_region objects b ≡ Import
import_region objects (Strong object symbol) is = absurd (cc is)
import_region objects (Weak object symbol) is = absurd (cc is)
import_region objects (Common size align near) is = absurd (cc is)
import_region objects (ImportBinding weak) is = refl
import_region objects Table is = absurd (cc is)

import_address : (w : Working) (number : ℕ) (b : Binding) → is_import b ≡ true → binding_address w number b ≡ 0
import_address w number (Strong object symbol) is = absurd (cc is)
import_address w number (Weak object symbol) is = absurd (cc is)
import_address w number (Common size align near) is = absurd (cc is)
import_address w number (ImportBinding weak) is = refl
import_address w number Table is = absurd (cc is)

target_region : (objects : List File) (bindings : List BoundName) (wanted : Wanted) → is_bound_import bindings wanted ≡ true → wanted_region objects bindings wanted ≡ Import
unfolding wanted_region bound_region
target_region objects bindings (Bound number) is = import_region objects (binding_in (bound_at bindings number)) is
target_region objects bindings (Local object symbol) is = absurd (cc is)

record IsReached (address : ℕ) : Type 0 where
  word : address % 4 ≡ 0
  near : address < 2 ^ 22

reached_by : (w : Working) (number : ℕ) → w.layout.stubs % 4 ≡ 0 → w.layout.stubs + 16 * length w.stubs < 2 ^ 22 → wanted_address w (Bound number) ≡ 0 → (place : Option ℕ) → stub_place w.stubs number ≡ place → IsReached (stub_or w (wanted_address w (Bound number)) place)
reached_by w number word room none None is = record { word = rw none refl; near = omega (arith, none) }
reached_by w number word room none (Some place) is =
    let found = position-Some (nat_eq number) w.stubs place 0 is in
    let below : place < length w.stubs = found.0 in
    record { word = omega (arith, word); near = omega (arith, room, below) }

reached : (w : Working) (wanted : Wanted) → w.layout.stubs % 4 ≡ 0 → w.layout.stubs + 16 * length w.stubs < 2 ^ 22 → is_bound_import w.bindings wanted ≡ true → IsReached (reach_of w wanted)
unfolding wanted_address bound_address
reached w (Bound number) word room is =
    reached_by w number word room (import_address w number (binding_in (bound_at w.bindings number)) is) (stub_place w.stubs number) refl
reached w (Local object symbol) word room is = absurd (cc is)

-- the working of an executable
abbrev pub working : Contents → List (List ℕ) → List Wanted → List ℕ → Working
working c names words stubs = worked_out (laid c names words stubs)

whole_words : (b : Bool) (at : ℕ) → (if b then 0 else (at + 31) / 32 * 32) % 4 ≡ 0
whole_words true at = refl
whole_words false at = omega arith

stubs_word : (c : Contents) (names : List (List ℕ)) (words : List Wanted) (stubs : List ℕ) → (layout_of (laid c names words stubs)).stubs % 4 ≡ 0
unfolding layout_of stubs_at
stubs_word c names words stubs = whole_words (length stubs == 0) (sections_end (laid c names words stubs))

stubs_room : (c : Contents) (names : List (List ℕ)) (words : List Wanted) (stubs : List ℕ) → size_refusal (laid c names words stubs) ≡ None → (layout_of (laid c names words stubs)).stubs + 16 * length stubs < 2 ^ 22
unfolding layout_of
stubs_room c names words stubs small = (bounds (laid c names words stubs) small).stubs_below

pub text_at : (c : Contents) (names : List (List ℕ)) (words : List Wanted) (stubs : List ℕ) → address_in (layout_of (laid c names words stubs)).places 0 1 ≡ 65536
unfolding layout_of places_of start_of
text_at c names words stubs = rw (parts_are c names) refl

-- the place of the symbol and the kind in the entry's word
pub number_of : (place : ℕ) → ((3 + place) * 256 + 4) / 256 ≡ 3 + place
number_of place = omega arith

pub kind_of : (place : ℕ) → ((3 + place) * 256 + 4) % 256 ≡ 4
kind_of place = omega arith

abbrev pub wanted_in : Contents → List (List ℕ) → List Wanted
wanted_in c names = wanted_of (map name_in (bound_of c names)) 0 (app_file c names).sections

pub call_by : (c : Contents) (names : List (List ℕ)) (words : List Wanted) (stubs : List ℕ) (count line place : ℕ) → size_refusal (laid c names words stubs) ≡ None → are_imports c names count ≡ true → place < count → 8 + 4 * line ≤ length c.code → line < 2 ^ 16 → IsCallBy (link_entry (working c names words stubs) (wanted_in c names) (entry_of 0 1 (call_rela line place))).reference
unfolding link_entry entry_on target_of stands_in_text room_of section_at section_region sections_at names_at zone_of zone_in is_text is_near section_name is_under text_of name_of has_flag app_file sections_of named_shstrtab null_section table_section kind_or row_of
call_by c names words stubs count line place small imports below inside few =
    let w = working c names words stubs in
    let wanted = wanted_at (wanted_in c names) 0 (3 + place) in
    let is : is_bound_import (bound_of c names) wanted ≡ true = each_below_all count (λ k. is_bound_import (bound_of c names) (wanted_at (wanted_in c names) 0 (3 + k))) imports place below in
    let reach = reached w wanted (stubs_word c names words stubs) (stubs_room c names words stubs small) is in
    let word = reach.word in
    let near = reach.near in
    let at = text_at c names words stubs in
    record {
      kind = rw (kind_of place) refl;
      text = refl;
      target = rw (number_of place) (target_region (app_file c names ∷ []) (bound_of c names) wanted is);
      word = omega arith;
      inside = omega (arith, inside);
      near = record {
        addend = refl;
        word = rw (kind_of place, number_of place) word;
        called = rw (kind_of place, number_of place) near;
        place = rw at (omega (arith, few));
      };
    }

pub call_fine : (c : Contents) (names : List (List ℕ)) (words : List Wanted) (stubs : List ℕ) (count line place : ℕ) → size_refusal (laid c names words stubs) ≡ None → are_imports c names count ≡ true → place < count → 8 + 4 * line ≤ length c.code → line < 2 ^ 16 → error_at (link_entry (working c names words stubs) (wanted_in c names) (entry_of 0 1 (call_rela line place))) ≡ None
unfolding error_at
call_fine c names words stubs count line place small imports below inside few =
    rw (call_passes (link_entry (working c names words stubs) (wanted_in c names) (entry_of 0 1 (call_rela line place))).reference (call_by c names words stubs count line place small imports below inside few)) refl

-- the entries of the file are those of its one relocation table
pub entries_are : (c : Contents) (names : List (List ℕ)) → file_entries false (0, app_file c names) ≡ map (entry_of 0 1) (rela_entries false c.relas)
unfolding file_entries is_used table_entries symtab_of is_allocated_at has_flag app_file sections_of named_shstrtab null_section table_section
entries_are c names = append-nil (map (entry_of 0 1) (rela_entries false c.relas))
