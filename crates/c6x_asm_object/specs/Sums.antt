-- What the limits ask of sections, in sums over stretches of them.
use Rattle.std.specs.Prelude.{◌≡◌, ℕ, ◌+◌, ◌-◌, ◌*◌, ◌/◌, ◌<◌, ◌≤◌, ◌^◌, min, nat_lt, Bool, false, ◌||◌, if◌then◌else◌, List, [], ◌∷◌, ◌++◌, length, take, drop, Option, Some, None, get_or, slice_set}
use Rattle.c6x_asm_object.specs.declared.asm_section.AsmSection.{AsmSection}
use Rattle.c6x_asm_object.specs.Named.{section_name}
use Rattle.c6x_asm_object.specs.Filing.{has_entries}
use Rattle.c6x_asm_object.specs.declared.stretch.Stretch.{Stretch}
use Rattle.c6x_asm_object.specs.declared.summary.Summary.{Summary}
use Rattle.c6x_asm_object.specs.Places.{both, empty_stretch, section_stretch}

-- more than a section may have
unfoldable pub is_past : ℕ → Bool
is_past size = nat_lt 1048576 size

-- a section or its relocation table is too long
abbrev pub is_heavy : AsmSection → Bool
is_heavy p = (is_past p.size || is_past (length p.bytes)) || is_past (12 * length p.entries)

abbrev pub section_tables : AsmSection → ℕ
section_tables p = if has_entries p then 1 else 0

abbrev pub rows_of_section : AsmSection → ℕ
rows_of_section p = 12 * length p.entries

-- the names of a section and of its relocation table, each with a zero byte
abbrev pub names_of_section : List ℕ → AsmSection → ℕ
names_of_section text p = length (section_name text p) + 1 + (if has_entries p then length (section_name text p) + 6 else 0)

-- a number that is far past each limit stands for all above it
abbrev pub clipped : ℕ → ℕ
clipped n = min n (2 ^ 64 - 1)

unfoldable pub section_summary : List ℕ → AsmSection → Summary
section_summary text p = record {
  stretch = section_stretch p;
  heavy = is_heavy p;
  tables = section_tables p;
  rows = clipped (rows_of_section p);
  names = clipped (names_of_section text p);
}

abbrev pub empty_summary : Summary
empty_summary = record { stretch = Some empty_stretch; heavy = false; tables = 0; rows = 0; names = 0 }

abbrev pub joined_stretch : Option Stretch → Option Stretch → Option Stretch
joined_stretch None b = None
joined_stretch (Some a) None = None
joined_stretch (Some a) (Some b) = both a b

-- one stretch behind another
unfoldable pub joined : Summary → Summary → Summary
joined a b = record {
  stretch = joined_stretch a.stretch b.stretch;
  heavy = a.heavy || b.heavy;
  tables = clipped (a.tables + b.tables);
  rows = clipped (a.rows + b.rows);
  names = clipped (a.names + b.names);
}

abbrev pub summed : List ℕ → Summary → List AsmSection → Summary
summed text s [] = s
summed text s (p ∷ sections) = summed text (joined s (section_summary text p)) sections

abbrev pub joined_all : Summary → List Summary → Summary
joined_all s [] = s
joined_all s (block ∷ blocks) = joined_all (joined s block) blocks

-- the sections of a block
abbrev pub block_of : List AsmSection → ℕ → List AsmSection
block_of sections block = take 64 (drop (64 * block) sections)

abbrev pub block_summary : List ℕ → List AsmSection → ℕ → Summary
block_summary text sections block = summed text empty_summary (block_of sections block)

-- all blocks of sections, each summed up
pub record AreBlocks (text : List ℕ) (sections : List AsmSection) (blocks : List Summary) : Type 0 where
  pub enough : length sections ≤ 64 * length blocks
  pub needed : 64 * length blocks < length sections + 64
  pub each : (block : ℕ) → block < length blocks → get_or blocks block empty_summary ≡ block_summary text sections block

-- the blocks with the block of a section anew
abbrev pub refreshed : List ℕ → List AsmSection → List Summary → ℕ → List Summary
refreshed text sections blocks place =
    if nat_lt (place / 64) (length blocks) then slice_set blocks (place / 64) (block_summary text sections (place / 64))
    else blocks ++ block_summary text sections (place / 64) ∷ []

-- the blocks where lines go to this section, which may have changed
abbrev pub refreshed_at : List ℕ → List AsmSection → List Summary → Option ℕ → List Summary
refreshed_at text sections blocks None = blocks
refreshed_at text sections blocks (Some place) = refreshed text sections blocks place

-- the blocks behind a line, before which there were so many sections: it adds one, or it changes the one that lines go to
unfoldable pub behind_line : List ℕ → List AsmSection → List Summary → ℕ → Option ℕ → List Summary
behind_line text sections blocks count current =
    if nat_lt count (length sections) then refreshed text sections blocks (length sections - 1)
    else refreshed_at text sections blocks current
