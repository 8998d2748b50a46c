-- The relocation entries of all objects at link addresses, in object, section and entry order.
use Rattle.std.specs.Prelude.{ℕ, ◌+◌, ◌-◌, ◌%◌, ◌^◌, false, Bool, List, Option, None, Some, Result, Ok, Err, length, map, if◌then◌else◌}
use Rattle.std.specs.List.{enumerate_from, flat_map}
use Rattle.c6x_dsbt.specs.Needs.{is_packet, number_origin}
use Rattle.c6x_dsbt.specs.Wanted.{wanted_at, wanted_of}
use Rattle.c6x_dsbt.specs.declared.wanted.Wanted.{Wanted}
use Rattle.c6x_elf.specs.Entries.{text_of}
use Rattle.c6x_elf.specs.declared.file.File.{File}
use Rattle.c6x_layout.specs.Regions.{section_region, sections_at}
use Rattle.c6x_symbols.specs.EntryRules.{is_text}
use Rattle.c6x_symbols.specs.declared.entry.Entry.{Entry}
use Rattle.c6x_layout.specs.declared.file_limits.TheConstants.{TEXT_START}
use Rattle.c6x_symbols.specs.Entries.{file_entries}
use Rattle.c6x_symbols.specs.declared.object_entry.ObjectEntry.{ObjectEntry}
use Rattle.c6x_reloc.specs.Table.{kind_or}
use Rattle.c6x_reloc.specs.declared.reloc_error.RelocError.{RelocError}
use Rattle.c6x_reloc.specs.declared.reloc_kind.RelocKind.{RelocKind}
use Rattle.c6x_symbols.specs.Bindings.{name_in}
use Rattle.c6x_link.specs.Addresses.{address_in}
use Rattle.c6x_link.specs.Targets.{target_of}
use Rattle.c6x_link.specs.Working.{Working}
use Rattle.c6x_link.specs.declared.target.Target.{Target}

abbrev pub ok_kind : Result RelocKind RelocError → Option RelocKind
ok_kind (Ok kind) = Some kind
ok_kind (Err error) = None

-- The kind of an entry: none where its number has no kind, and where it stands for a table that cannot be read.
abbrev pub kind_of_entry : Option ℕ → Option RelocKind
kind_of_entry None = None
kind_of_entry (Some number) = ok_kind (kind_or number)

-- The bytes that the section of an entry has in its file.
unfoldable pub room_of : Working → ObjectEntry → ℕ
room_of w e = length (text_of (sections_at w.objects e.object) e.section)

unfoldable pub stands_in_text : Working → ObjectEntry → Bool
stands_in_text w e = is_text (section_region w.objects e.object e.section)

-- Where its section lies.
unfoldable pub section_at : Working → ObjectEntry → ℕ
section_at w e = address_in w.layout.places e.object e.section

-- An entry whose symbol is this target.
unfoldable pub entry_on : Working → ObjectEntry → Target → Entry
entry_on w e target = record {
  object = e.object;
  at = section_at w e - (if stands_in_text w e then TEXT_START else w.layout.table);
  symbol = target.symbol;
  start = target.start;
  reference = record {
    kind = kind_of_entry e.kind;
    offset = e.offset;
    room = room_of w e;
    in_text = stands_in_text w e;
    target = target.region;
    inputs = record {
      s = if is_packet (number_origin e.kind) then target.reach else target.address;
      a = e.addend;
      p = (section_at w e + e.offset) % 2 ^ 32;
      b = w.layout.table;
      g = target.word;
      index = w.plan.index;
    };
  };
}

-- An entry of an object whose symbols stand for these.
unfoldable pub link_entry : Working → List Wanted → ObjectEntry → Entry
link_entry w wanted e = entry_on w e (target_of w (wanted_at wanted e.object e.symbol))

unfoldable pub file_link_entries : Working → ℕ × File → List Entry
file_link_entries w x =
    map (link_entry w (wanted_of (map name_in w.bindings) x.0 x.1.sections)) (file_entries false x)

unfoldable pub link_entries : Working → List Entry
link_entries w = flat_map (file_link_entries w) (enumerate_from 0 w.objects)
