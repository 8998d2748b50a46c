use Rattle.std.specs.Prelude.{ℕ, zero, suc, ◌+◌, ◌*◌, ◌/◌, ◌≤◌, ◌==◌, ◌||◌, Bool, List, [], ◌∷◌, Option, None, is_some, length, map, nat_le, nat_lt, slice_index_or, if◌then◌else◌}
use Rattle.std.specs.List.{range_with_len}
use Rattle.c6x_base.specs.declared.limits.TheConstants.{MOST_FILE_BYTES}
use Rattle.c6x_spec.specs.Numbers.{half_at, word_at}
use Rattle.c6x_elf_headers.specs.Names.{name_of}
use Rattle.c6x_elf_headers.specs.declared.abi.TheConstants.{SHN_LORESERVE}
use Rattle.c6x_elf_headers.specs.Rules.{Refusal, ◌<|>◌, first_along, must}
use Rattle.c6x_elf_headers.specs.declared.elf_rule.ElfRule.TheVariants.{Index, NoNul}
use Rattle.c6x_elf_headers.specs.declared.section_head.SectionHead.{SectionHead}
use Rattle.c6x_elf.specs.Parts.{is_relocation_table, is_symbol_table}
use Rattle.c6x_elf.specs.declared.section.Section.{Section}

abbrev pub section_bytes : Section → List ℕ
section_bytes section = section.bytes

-- The bytes of the section with this number; none where there is no such section.
unfoldable pub text_of : List Section → ℕ → List ℕ
text_of sections number = slice_index_or (map section_bytes sections) number []

-- An offset lies in a string table, and a zero byte ends the name there.
unfoldable pub name_refusal : List ℕ → ℕ → ℕ → Option Refusal
name_refusal table name place =
    must (nat_lt name (length table)) Index place <|> must (is_some (name_of table name)) NoNul place

-- The section number of a symbol: from SHN_LORESERVE on it stands for no section.
unfoldable pub is_section_number : ℕ → ℕ → Bool
is_section_number count number = nat_le SHN_LORESERVE number || nat_lt number count

-- Symbol number k of a table: its name in the linked section, then its section number.
unfoldable pub symbol_refusal : Bool → List Section → SectionHead → List ℕ → ℕ → Option Refusal
symbol_refusal big sections head table k =
    name_refusal (text_of sections head.link) (word_at big table (16 * k)) (head.offset + 16 * k)
    <|> must (is_section_number (length sections) (half_at big table (16 * k + 14))) Index (head.offset + 16 * k + 14)

-- How many symbols the linked section has; section 0 stands for symbol 0 alone.
unfoldable pub symbols_in : List Section → ℕ → ℕ
symbols_in sections link = if link == 0 then 1 else length (text_of sections link) / 16

-- Relocation number k of a table: its symbol's number, which is the upper three bytes of the second word.
unfoldable pub rela_refusal : Bool → List Section → SectionHead → List ℕ → ℕ → Option Refusal
rela_refusal big sections head table k =
    must (nat_lt (word_at big table (12 * k + 4) / 256) (symbols_in sections head.link)) Index (head.offset + 12 * k + 4)

-- The entries of a table in order.
unfoldable pub symbols_refusal : Bool → List Section → SectionHead → List ℕ → Option Refusal
symbols_refusal big sections head table =
    first_along (symbol_refusal big sections head table) (range_with_len 0 (length table / 16))

unfoldable pub relas_refusal : Bool → List Section → SectionHead → List ℕ → Option Refusal
relas_refusal big sections head table =
    first_along (rela_refusal big sections head table) (range_with_len 0 (length table / 12))

unfoldable pub entries_refusal : Bool → List Section → SectionHead → List ℕ → Option Refusal
entries_refusal big sections head table =
    if is_symbol_table head.kind then symbols_refusal big sections head table
    else if is_relocation_table head.kind then relas_refusal big sections head table
    else None

-- A section's own name, in the section of the names if there is one.
unfoldable pub own_name_refusal : ℕ → List Section → SectionHead → Option Refusal
own_name_refusal names sections head =
    if names == 0 then None else name_refusal (text_of sections names) head.name head.at

-- A section's name, and then its entries.
unfoldable pub named_refusal : Bool → ℕ → List Section → SectionHead → Section → Option Refusal
named_refusal big names sections head section =
    own_name_refusal names sections head <|> entries_refusal big sections head section.bytes

-- The place behind the last zero byte; 0 where there is none. A name ends exactly where it begins in front of
-- that place.
abbrev pub end_behind : ℕ → ℕ → ℕ
end_behind byte zero = if byte == 0 then 1 else 0
end_behind byte (suc rest) = suc (suc rest)

abbrev pub name_end : List ℕ → ℕ
name_end [] = 0
name_end (byte ∷ bytes) = end_behind byte (name_end bytes)

abbrev pub section_end : Section → ℕ
section_end section = name_end section.bytes

unfoldable pub name_ends : List Section → List ℕ
name_ends sections = map section_end sections

-- A section's bytes, if it has any, lie in the first 4,194,304 bytes, the most that a file has.
pub record IsPlaced (head : SectionHead) (section : Section) : Type 0 where
  pub within : 1 ≤ length section.bytes → head.offset + length section.bytes ≤ MOST_FILE_BYTES

abbrev pub ArePlaced : List SectionHead → List Section → Type 0
ArePlaced [] sections = Unit {0}
ArePlaced (head ∷ heads) [] = Unit {0}
ArePlaced (head ∷ heads) (section ∷ sections) = IsPlaced head section × ArePlaced heads sections
