-- What the symbols of the entries that the loader fills stand for.
use Rattle.std.proofs.Common.{◌≡◌, ℕ, ◌==◌, ◌&&◌, Bool, true, false, if◌then◌else◌, List, ◌∷◌, ◌++◌, Option, None, Some, refl, sym, ap, ◌∙◌, subst}
use Rattle.std.specs.Prelude.{All, Result, Ok, Err}
use Rattle.c6x_dsbt.specs.Needs.{is_packet, kind_origin, number_origin}
use Rattle.c6x_dsbt.specs.Wanted.{wanted_at}
use Rattle.c6x_dsbt.specs.declared.wanted.Wanted.{Wanted}
use Rattle.c6x_dsbt.specs.declared.wanted.Wanted.TheVariants.{Bound, Local}
use Rattle.c6x_elf.specs.Attributes.{symbol_class}
use Rattle.c6x_elf.specs.SectionClasses.{Absolute as AbsoluteClass, Common as CommonClass, NearCommon, Section as SectionNumber, Undefined}
use Rattle.c6x_elf.specs.Types.{SectionClass, Symbol}
use Rattle.c6x_elf.specs.declared.file.File.{File}
use Rattle.c6x_elf.specs.declared.section.Section.{Section}
use Rattle.c6x_layout.specs.Regions.{binding_region, bound_region, class_region, region_of_section, region_of_symbol, section_region, symbol_in, symbol_region, wanted_region, zone_region}
use Rattle.c6x_layout.specs.declared.file_limits.TheConstants.{TEXT_START}
use Rattle.c6x_symbols.specs.Sections.{is_allocated, zone_of}
use Rattle.c6x_symbols.specs.declared.object_entry.ObjectEntry.{ObjectEntry}
use Rattle.c6x_symbols.specs.declared.region.Region.TheVariants.{Absolute, Data, Import, Text}
use Rattle.c6x_symbols.specs.declared.zone.Zone.{Zone}
use Rattle.c6x_symbols.specs.declared.zone.Zone.TheVariants.{Far, Near, Text as TextZone}
use Rattle.c6x_reloc.specs.Table.{kind_or, row_of}
use Rattle.c6x_reloc.specs.declared.reloc_error.RelocError.{RelocError}
use Rattle.c6x_reloc.specs.declared.reloc_kind.RelocKind.{RelocKind}
use Rattle.c6x_reloc.specs.declared.reloc_kind.RelocKind.TheVariants.{NONE, ABS32, ABS16, ABS8, PCR_S21, PCR_S12, PCR_S7, ABS_S16, ABS_L16, ABS_H16, SBR_U15_B, SBR_U15_H, SBR_U15_W, SBR_S16, SBR_L16_B, SBR_L16_H, SBR_L16_W, SBR_H16_B, SBR_H16_H, SBR_H16_W, SBR_GOT_U15_W, SBR_GOT_L16_W, SBR_GOT_H16_W, DSBT_INDEX, JUMP_SLOT, ALIGN, FPHEAD, NOCMP}
use Rattle.c6x_symbols.specs.Bindings.{binding_in, bound_at}
use Rattle.c6x_symbols.specs.declared.binding.Binding.{Binding}
use Rattle.c6x_symbols.specs.declared.binding.Binding.TheVariants.{Common, Import as Imported, Strong, Table, Weak}
use Rattle.c6x_symbols.specs.LinkEntries.{is_dynamic_kind}
use Rattle.c6x_symbols.specs.EntryRules.{is_word}
use Rattle.c6x_symbols.specs.declared.entry.Entry.{Entry}
use Rattle.c6x_link.specs.Addresses.{binding_address, bound_address, symbol_address, wanted_address}
use Rattle.c6x_link.specs.LinkEntries.{entry_on, kind_of_entry, link_entries, link_entry, ok_kind}
use Rattle.c6x_link.specs.Targets.{dynamic_start, number_of_bound, symbol_of_region, target_of}
use Rattle.c6x_link.specs.Working.{Working}
use Rattle.c6x_link.specs.declared.target.Target.{Target}
use Rattle.c6x_link.proofs.EachEntry.{all_entries}
use Rattle.c6x_relocated.proofs.Basics.{of_one}

-- a definition of an object is no import
zone_no_import : (z : Zone) → zone_region z ≡ Import → (a b : ℕ) → a ≡ b
zone_no_import TextZone is a b = absurd (cc is)
zone_no_import Near is a b = absurd (cc is)
zone_no_import Far is a b = absurd (cc is)

section_no_import : (names : ℕ) (sections : List Section) (o : Option Section)
    → region_of_section names sections o ≡ Import → (a b : ℕ) → a ≡ b
section_no_import names sections None is a b = absurd (cc is)
section_no_import names sections (Some s) is a b = either (is_allocated s) is
  where
    either : (t : Bool) → (if t then zone_region (zone_of names sections s) else Absolute) ≡ Import → a ≡ b
    either true e = zone_no_import (zone_of names sections s) e a b
    either false e = absurd (cc e)

class_no_import : (objects : List File) (object : ℕ) (c : SectionClass) → class_region objects object c ≡ Import
    → (a b : ℕ) → a ≡ b
unfolding section_region
class_no_import objects object (SectionNumber section) is a b = section_no_import _ _ _ is a b
class_no_import objects object Undefined is a b = absurd (cc is)
class_no_import objects object AbsoluteClass is a b = absurd (cc is)
class_no_import objects object CommonClass is a b = absurd (cc is)
class_no_import objects object NearCommon is a b = absurd (cc is)

option_no_import : (objects : List File) (object : ℕ) (o : Option Symbol) → region_of_symbol objects object o ≡ Import
    → (a b : ℕ) → a ≡ b
option_no_import objects object None is a b = absurd (cc is)
option_no_import objects object (Some s) is a b = class_no_import objects object (symbol_class s) is a b

pub symbol_no_import : (objects : List File) (object number : ℕ) → symbol_region objects object number ≡ Import
    → (a b : ℕ) → a ≡ b
unfolding symbol_region
symbol_no_import objects object number is a b = option_no_import objects object (symbol_in objects object number) is a b

-- so an import has the link address 0
binding_import : (w : Working) (number : ℕ) (b : Binding) → binding_region w.objects b ≡ Import
    → binding_address w number b ≡ 0
binding_import w number (Strong object symbol) is = symbol_no_import w.objects object symbol is (symbol_address w object symbol) 0
binding_import w number (Weak object symbol) is = symbol_no_import w.objects object symbol is (symbol_address w object symbol) 0
binding_import w number (Common size align near) is = absurd (cc is)
binding_import w number (Imported weak) is = refl
binding_import w number Table is = absurd (cc is)

pub import_address : (w : Working) (wanted : Wanted) → wanted_region w.objects w.bindings wanted ≡ Import
    → wanted_address w wanted ≡ 0
unfolding wanted_region wanted_address bound_region bound_address
import_address w (Bound number) is = binding_import w number (binding_in (bound_at w.bindings number)) is
import_address w (Local object symbol) is = either (symbol == 0) is
  where
    either : (t : Bool) → (if t then Absolute else symbol_region w.objects object symbol) ≡ Import → (if t then 0 else symbol_address w object symbol) ≡ 0
    either true e = absurd (cc e)
    either false e = symbol_no_import w.objects object symbol e (symbol_address w object symbol) 0

-- the kind of a field that the loader fills counts from no packet
word_kind : (kind : RelocKind) (m : Bool) → (is_word kind && m) ≡ true → is_packet (row_of kind).origin ≡ false
unfolding row_of
word_kind NONE m is = absurd (cc is)
word_kind ABS32 m is = refl
word_kind ABS16 m is = absurd (cc is)
word_kind ABS8 m is = absurd (cc is)
word_kind PCR_S21 m is = absurd (cc is)
word_kind PCR_S12 m is = absurd (cc is)
word_kind PCR_S7 m is = absurd (cc is)
word_kind ABS_S16 m is = absurd (cc is)
word_kind ABS_L16 m is = absurd (cc is)
word_kind ABS_H16 m is = absurd (cc is)
word_kind SBR_U15_B m is = absurd (cc is)
word_kind SBR_U15_H m is = absurd (cc is)
word_kind SBR_U15_W m is = absurd (cc is)
word_kind SBR_S16 m is = absurd (cc is)
word_kind SBR_L16_B m is = absurd (cc is)
word_kind SBR_L16_H m is = absurd (cc is)
word_kind SBR_L16_W m is = absurd (cc is)
word_kind SBR_H16_B m is = absurd (cc is)
word_kind SBR_H16_H m is = absurd (cc is)
word_kind SBR_H16_W m is = absurd (cc is)
word_kind SBR_GOT_U15_W m is = absurd (cc is)
word_kind SBR_GOT_L16_W m is = absurd (cc is)
word_kind SBR_GOT_H16_W m is = absurd (cc is)
word_kind DSBT_INDEX m is = absurd (cc is)
word_kind JUMP_SLOT m is = absurd (cc is)
word_kind ALIGN m is = absurd (cc is)
word_kind FPHEAD m is = absurd (cc is)
word_kind NOCMP m is = absurd (cc is)

word_of_kind : (r : Result RelocKind RelocError) (m : Bool) → is_dynamic_kind (ok_kind r) m ≡ true
    → is_packet (kind_origin r) ≡ false
word_of_kind (Err error) m is = absurd (cc is)
word_of_kind (Ok kind) m is = word_kind kind m is

no_packet : (kind : Option ℕ) (m : Bool) → is_dynamic_kind (kind_of_entry kind) m ≡ true
    → is_packet (number_origin kind) ≡ false
no_packet None m is = absurd (cc is)
no_packet (Some number) m is = word_of_kind (kind_or number) m is

-- what the symbol of an entry stands for, by the segment in which it lies
pub record IsTargeted (w : Working) (e : Entry) : Type 0 where
  pub text_symbol : e.reference.target ≡ Text → e.symbol ≡ 1
  pub text_start : e.reference.target ≡ Text → e.start ≡ TEXT_START
  pub data_symbol : e.reference.target ≡ Data → e.symbol ≡ 2
  pub data_start : e.reference.target ≡ Data → e.start ≡ w.layout.table
  pub import_start : e.reference.target ≡ Import → e.start ≡ 0
  pub import_value : e.reference.target ≡ Import → (m : Bool) → is_dynamic_kind e.reference.kind m ≡ true → e.reference.inputs.s ≡ 0

pub region_of : (w : Working) (wanted : Wanted)
    → (target_of w wanted).region ≡ wanted_region w.objects w.bindings wanted
unfolding target_of
region_of w wanted = refl

pub symbol_is : (w : Working) (wanted : Wanted)
    → (target_of w wanted).symbol ≡ symbol_of_region (wanted_region w.objects w.bindings wanted) (number_of_bound w.bindings wanted)
unfolding target_of
symbol_is w wanted = refl

start_is : (w : Working) (wanted : Wanted)
    → (target_of w wanted).start ≡ dynamic_start w (wanted_region w.objects w.bindings wanted)
unfolding target_of
start_is w wanted = refl

pub address_is : (w : Working) (wanted : Wanted) → (target_of w wanted).address ≡ wanted_address w wanted
unfolding target_of
address_is w wanted = refl

-- the same of a target
pub record TargetIs (w : Working) (t : Target) : Type 0 where
  pub text_symbol : t.region ≡ Text → t.symbol ≡ 1
  pub text_start : t.region ≡ Text → t.start ≡ TEXT_START
  pub data_symbol : t.region ≡ Data → t.symbol ≡ 2
  pub data_start : t.region ≡ Data → t.start ≡ w.layout.table
  pub import_start : t.region ≡ Import → t.start ≡ 0
  pub import_address : t.region ≡ Import → t.address ≡ 0

pub target_is : (w : Working) (wanted : Wanted) → TargetIs w (target_of w wanted)
target_is w wanted =
    let n : ℕ = number_of_bound w.bindings wanted in
    let r = sym (region_of w wanted) in
    record {
      text_symbol = λ is. symbol_is w wanted ∙ ap (λ x. symbol_of_region x n) (r ∙ is);
      text_start = λ is. start_is w wanted ∙ ap (dynamic_start w) (r ∙ is);
      data_symbol = λ is. symbol_is w wanted ∙ ap (λ x. symbol_of_region x n) (r ∙ is);
      data_start = λ is. start_is w wanted ∙ ap (dynamic_start w) (r ∙ is);
      import_start = λ is. start_is w wanted ∙ ap (dynamic_start w) (r ∙ is);
      import_address = λ is. address_is w wanted ∙ import_address w wanted (r ∙ is);
    }

entry_targeted : (w : Working) (x : ObjectEntry) (t : Target) → TargetIs w t → IsTargeted w (entry_on w x t)
unfolding entry_on
entry_targeted w x t is = record {
  text_symbol = is.text_symbol;
  text_start = is.text_start;
  data_symbol = is.data_symbol;
  data_start = is.data_start;
  import_start = is.import_start;
  import_value = λ import m dynamic. ap (λ (b : Bool). if b then t.reach else t.address) (no_packet x.kind m dynamic) ∙ is.import_address import;
}

all_targeted : (w : Working) → All (IsTargeted w) (link_entries w)
unfolding link_entry
all_targeted w = all_entries (IsTargeted w) w (record { each = λ object wanted x below is. entry_targeted w x (target_of w (wanted_at wanted x.object x.symbol)) (target_is w (wanted_at wanted x.object x.symbol)) })

pub targeted : (w : Working) (before : List Entry) (e : Entry) (after : List Entry)
    → link_entries w ≡ before ++ e ∷ after → IsTargeted w e
targeted w before e after split =
    let P : List Entry → Type 0 = λ es. All (IsTargeted w) es in
    of_one (IsTargeted w) before e after (subst P split (all_targeted w))
