-- The tables of a linked module (gABI chapter 5, "Dynamic Linking"; SPRAB89, "Dynamic Linking").
use Rattle.std.specs.Prelude.{ℕ, ◌+◌, ◌*◌, ◌==◌, List, [], ◌∷◌, ◌++◌, length, map, Option, None, Some, if◌then◌else◌}
use Rattle.std.specs.List.{flat_map}
use Rattle.c6x_elf.specs.Abi.{DT_DSBT_BASE, DT_DSBT_INDEX, DT_DSBT_SIZE, DT_HASH, DT_JMPREL, DT_NEEDED, DT_PLTREL, DT_PLTRELSZ, DT_RELA, DT_RELAENT, DT_RELASZ, DT_SONAME, DT_STRSZ, DT_STRTAB, DT_SYMENT, DT_SYMTAB, STT_SECTION}
use Rattle.c6x_elf.specs.Names.{name_row, name_table}
use Rattle.c6x_elf.specs.Types.{Dyn, Symbol}
use Rattle.c6x_layout.specs.FilePlaces.{hash_at, jumps_at, relas_at, strings_at, symbols_at}
use Rattle.c6x_layout.specs.declared.counts.Counts.{Counts}
use Rattle.c6x_layout.specs.declared.file_limits.TheConstants.{TEXT_START}
use Rattle.c6x_layout.specs.declared.parts.Parts.{Parts}
use Rattle.c6x_layout.specs.declared.shared.Shared.{Shared}

-- The names of the strings: those of the symbols, the module's own, those of the modules that it needs.
abbrev pub shared_name : Shared → List ℕ
shared_name s = s.name

unfoldable pub shared_names : List Shared → List (List ℕ)
shared_names shared = map shared_name shared

abbrev pub if_named : Option (List ℕ) → List (List ℕ)
if_named None = []
if_named (Some name) = name ∷ []

unfoldable pub names_of : Parts → List (List ℕ)
names_of p = shared_names p.shared ++ (if_named p.soname ++ p.needed)

unfoldable pub strings_of : Parts → List ℕ
strings_of p = name_table (names_of p)

-- The bytes of names, each ended by a zero byte.
abbrev pub name_rows : List (List ℕ) → List ℕ
name_rows names = flat_map name_row names

-- The offset of each of some names in the strings, the first one's being this, and the offset behind them.
abbrev pub name_places : ℕ → List (List ℕ) → List ℕ
name_places at [] = []
name_places at (name ∷ names) = at ∷ name_places (at + (length name + 1)) names

abbrev pub names_end : ℕ → List (List ℕ) → ℕ
names_end at [] = at
names_end at (name ∷ names) = names_end (at + (length name + 1)) names

-- The null symbol, and one for each segment, as section 1 and section 2.
abbrev pub symbol : ℕ → ℕ → ℕ → Symbol
symbol value info section =
    record { name = 0; value = value; size = 0; info = info; other = 0; section = section }

unfoldable pub first_symbols : ℕ → List Symbol
first_symbols table = symbol 0 0 0 ∷ symbol TEXT_START STT_SECTION 1 ∷ symbol table STT_SECTION 2 ∷ []

-- The exports and imports; the first name has this offset.
abbrev pub shared_symbols : ℕ → List Shared → List Symbol
shared_symbols at [] = []
shared_symbols at (s ∷ shared) =
    record { name = at; value = s.value; size = s.size; info = s.info; other = s.other; section = s.section }
    ∷ shared_symbols (at + (length s.name + 1)) shared

unfoldable pub symbols_of : Parts → List Symbol
symbols_of p = first_symbols p.table ++ shared_symbols 1 p.shared

-- How much the text holds.
unfoldable pub counts_of : Parts → Counts
counts_of p = record {
  code = length p.code;
  symbols = length p.shared + 3;
  strings = length (strings_of p);
  relas = length p.relas;
  jumps = length p.jumps;
  named = length (if_named p.soname ++ p.needed);
}

-- The dynamic entries, in order.
abbrev pub entry : ℕ → ℕ → Dyn
entry tag value = record { tag = tag; value = value }

unfoldable pub rela_entries : Counts → List Dyn
rela_entries c =
    if c.relas == 0 then []
    else entry DT_RELA (TEXT_START + relas_at c) ∷ entry DT_RELASZ (12 * c.relas) ∷ entry DT_RELAENT 12 ∷ []

unfoldable pub jump_entries : Counts → List Dyn
jump_entries c =
    if c.jumps == 0 then []
    else entry DT_JMPREL (TEXT_START + jumps_at c) ∷ entry DT_PLTRELSZ (12 * c.jumps) ∷ entry DT_PLTREL DT_RELA ∷ []

unfoldable pub table_entries : Parts → List Dyn
table_entries p = entry DT_DSBT_BASE p.table ∷ entry DT_DSBT_SIZE p.slots ∷ entry DT_DSBT_INDEX p.index ∷ []

unfoldable pub place_entries : Counts → List Dyn
place_entries c =
    entry DT_HASH (TEXT_START + hash_at c) ∷ entry DT_STRTAB (TEXT_START + strings_at c)
    ∷ entry DT_SYMTAB (TEXT_START + symbols_at c) ∷ entry DT_STRSZ c.strings ∷ entry DT_SYMENT 16 ∷ []

unfoldable pub needed_entries : Parts → List Dyn
needed_entries p =
    map (entry DT_NEEDED) (name_places (names_end 1 (shared_names p.shared ++ if_named p.soname)) p.needed)

unfoldable pub soname_entries : Parts → List Dyn
soname_entries p =
    map (entry DT_SONAME) (name_places (names_end 1 (shared_names p.shared)) (if_named p.soname))

-- All but DT_NULL.
unfoldable pub entries_of : Parts → List Dyn
entries_of p =
    needed_entries p ++ (soname_entries p ++ (place_entries (counts_of p)
    ++ (rela_entries (counts_of p) ++ (jump_entries (counts_of p) ++ table_entries p))))
