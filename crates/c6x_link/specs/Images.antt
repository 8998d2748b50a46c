-- The bytes of text and of data before any field is set.
use Rattle.std.specs.Prelude.{ℕ, ◌+◌, ◌-◌, ◌*◌, ◌==◌, false, Bool, List, [], ◌∷◌, ◌++◌, filter, length, map, nat_le, nat_lt, replicate, if◌then◌else◌}
use Rattle.std.specs.List.{flat_map, range_with_len}
use Rattle.c6x_dsbt.specs.declared.wanted.Wanted.{Wanted}
use Rattle.c6x_elf.specs.Entries.{text_of}
use Rattle.c6x_elf.specs.Laid.{Part, laid}
use Rattle.c6x_elf.specs.Rows.{word_row}
use Rattle.c6x_elf.specs.declared.file.File.{File}
use Rattle.c6x_layout.specs.Dynamics.{is_filled_word}
use Rattle.c6x_layout.specs.Regions.{sections_at}
use Rattle.c6x_layout.specs.declared.place.Place.{Place}
use Rattle.c6x_layout.specs.declared.file_limits.TheConstants.{TEXT_START}
use Rattle.c6x_link.specs.Addresses.{wanted_address}
use Rattle.c6x_link.specs.Working.{Working}

-- A section's bytes, and zeros up to its length: a section of zeros has no bytes in its file.
unfoldable pub filled_to : ℕ → List ℕ → List ℕ
filled_to len bytes = bytes ++ replicate (len - length bytes) 0

-- A section in its place in the segment that begins at `start`.
abbrev pub section_part : List File → ℕ → Place → Part
section_part objects start p = record {
  at = p.address - start;
  bytes = filled_to p.len (text_of (sections_at objects p.object) p.section);
}

-- The sections of the text lie in front of the table; those of the data's bytes lie behind it, in front of its end in the
-- file.
abbrev pub is_in_text : Working → Place → Bool
is_in_text w p = nat_lt p.address w.layout.table

abbrev pub is_in_file : Working → Place → Bool
is_in_file w p = if nat_le w.layout.table p.address then nat_lt p.address w.layout.file_end else false

-- The four instructions of a stub whose word has this number, counted from the table: `LDW .D2T2 *+B14(4 * number),B31`,
-- `NOP 4`, `B .S2 B31`, `NOP 5` (SPRU732).
abbrev pub stub_words : ℕ → List ℕ
stub_words number = (0x0F80_006E + number * 256) ∷ 0x0000_6000 ∷ 0x007C_0362 ∷ 0x0000_8000 ∷ []

-- The number of the first stub's word: the slots and the value words stand in front of it.
unfoldable pub first_stub_word : Working → ℕ
first_stub_word w = w.plan.table + length w.words

abbrev pub stub_row : ℕ → List ℕ
stub_row number = word_row false (stub_words number)

unfoldable pub stub_rows : Working → List ℕ
stub_rows w = flat_map stub_row (range_with_len (first_stub_word w) (length w.stubs))

abbrev pub stub_parts : Working → List Part
stub_parts w =
    if length w.stubs == 0 then [] else record { at = w.layout.stubs - TEXT_START; bytes = stub_rows w } ∷ []

-- The text: its sections, and the stubs.
unfoldable pub text_image : Working → List ℕ
text_image w =
    laid 0 (map (section_part w.objects TEXT_START) (filter (is_in_text w) w.layout.places) ++ stub_parts w)

-- A value word that the loader fills is 0 in the file; every other one has its symbol's address.
unfoldable pub value_word : Working → Wanted → ℕ
value_word w wanted = if is_filled_word w.objects w.bindings wanted then 0 else wanted_address w wanted

unfoldable pub value_words : Working → List ℕ
value_words w = map (value_word w) w.words

-- The data's bytes in the file: the table of zeros, the value words, the stubs' words of zeros, and the sections.
unfoldable pub data_image : Working → List ℕ
data_image w =
    laid 0
    (record { at = w.layout.words - w.layout.table; bytes = word_row false (value_words w) }
    ∷ (map (section_part w.objects w.layout.table) (filter (is_in_file w) w.layout.places)
    ++ record { at = w.layout.file_end - w.layout.table; bytes = [] } ∷ []))
