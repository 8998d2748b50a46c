-- The value words and the stubs of a link, in order of first need (SPRAB89 on the words of the table; the order and the
-- stubs are this project's own).
use Rattle.std.specs.Prelude.{ℕ, nat_eq, Bool, true, false, List, [], ◌∷◌, Option, None, Some, Result, Ok, Err, map, position, slice_get, if◌then◌else◌}
use Rattle.std.specs.List.{enumerate_from, flat_map}
use Rattle.c6x_elf.specs.declared.file.File.{File}
use Rattle.c6x_symbols.specs.Entries.{file_entries}
use Rattle.c6x_symbols.specs.declared.object_entry.ObjectEntry.{ObjectEntry}
use Rattle.c6x_reloc.specs.Table.{kind_or, row_of}
use Rattle.c6x_reloc.specs.declared.origin.Origin.{Origin}
use Rattle.c6x_reloc.specs.declared.origin.Origin.TheVariants.{Absolute, Got, Index, Nothing, Packet, Slot, Table}
use Rattle.c6x_reloc.specs.declared.reloc_error.RelocError.{RelocError}
use Rattle.c6x_reloc.specs.declared.reloc_kind.RelocKind.{RelocKind}
use Rattle.c6x_symbols.specs.Bindings.{BoundName, is_imported, name_in}
use Rattle.c6x_dsbt.specs.Firsts.{firsts}
use Rattle.c6x_dsbt.specs.Wanted.{same_wanted, wanted_at, wanted_of}
use Rattle.c6x_dsbt.specs.declared.wanted.Wanted.{Wanted}
use Rattle.c6x_dsbt.specs.declared.wanted.Wanted.TheVariants.{Bound, Local}

-- What an entry's value is taken from: nothing where its number has no kind.
abbrev pub kind_origin : Result RelocKind RelocError → Origin
kind_origin (Ok kind) = (row_of kind).origin
kind_origin (Err error) = Nothing

abbrev pub number_origin : Option ℕ → Origin
number_origin None = Nothing
number_origin (Some number) = kind_origin (kind_or number)

-- A GOT kind names the word of its symbol.
abbrev pub is_got : Origin → Bool
is_got Got = true
is_got Nothing = false
is_got Absolute = false
is_got Packet = false
is_got Table = false
is_got Index = false
is_got Slot = false

-- A kind that counts from its own place.
abbrev pub is_packet : Origin → Bool
is_packet Packet = true
is_packet Nothing = false
is_packet Absolute = false
is_packet Table = false
is_packet Got = false
is_packet Index = false
is_packet Slot = false

-- The value word that an entry needs, where `wanted` is what the symbols of its object stand for.
unfoldable pub word_need : List Wanted → ObjectEntry → List Wanted
word_need wanted entry =
    if is_got (number_origin entry.kind) then wanted_at wanted entry.object entry.symbol ∷ [] else []

-- The name with this number is an import.
abbrev pub is_imported_one : Option BoundName → Bool
is_imported_one None = false
is_imported_one (Some b) = is_imported b

unfoldable pub is_imported_at : List BoundName → ℕ → Bool
is_imported_at bindings number = is_imported_one (slice_get bindings number)

abbrev pub import_of : List BoundName → Wanted → List ℕ
import_of bindings (Local object symbol) = []
import_of bindings (Bound number) = if is_imported_at bindings number then number ∷ [] else []

-- The stub that an entry needs: that of the import that a PCR kind names.
unfoldable pub stub_need : List BoundName → List Wanted → ObjectEntry → List ℕ
stub_need bindings wanted entry =
    if is_packet (number_origin entry.kind)
    then import_of bindings (wanted_at wanted entry.object entry.symbol)
    else []

-- Those of all entries, in object, section and entry order.
unfoldable pub file_words : List BoundName → ℕ × File → List Wanted
file_words bindings x =
    flat_map (word_need (wanted_of (map name_in bindings) x.0 x.1.sections)) (file_entries false x)

unfoldable pub file_stubs : List BoundName → ℕ × File → List ℕ
file_stubs bindings x =
    flat_map (stub_need bindings (wanted_of (map name_in bindings) x.0 x.1.sections)) (file_entries false x)

-- Each symbol that a GOT kind names has one value word, in order of first need.
unfoldable pub words_of : List File → List BoundName → List Wanted
words_of objects bindings = firsts same_wanted (flat_map (file_words bindings) (enumerate_from 0 objects))

-- Each import that a PCR kind names has one stub, in order of first need.
unfoldable pub stubs_of : List File → List BoundName → List ℕ
stubs_of objects bindings = firsts nat_eq (flat_map (file_stubs bindings) (enumerate_from 0 objects))

-- The place of a word and of a stub.
abbrev pub word_place : List Wanted → Wanted → Option ℕ
word_place words wanted = position (same_wanted wanted) words

abbrev pub stub_place : List ℕ → ℕ → Option ℕ
stub_place stubs number = position (nat_eq number) stubs
