-- The module of a linked file, said of the parts that the linker worked out (SPRAB89, "Dynamic Linking").
use Rattle.std.specs.Prelude.{◌≡◌, ℕ, false, ◌+◌, ◌*◌, ◌%◌, ◌^◌, ◌<◌, ◌≤◌, ◌⊎◌, All, IsTrue, List, [], ◌∷◌, ◌++◌, Option, None, Result, Ok, length, map, if◌then◌else◌}
use Rattle.c6x_spec.specs.Firsts.{◌<|>◌}
use Rattle.c6x_elf.specs.Abi.{ET_DYN, ET_EXEC, STT_SECTION}
use Rattle.c6x_elf.specs.Attributes.{rela_kind, rela_symbol}
use Rattle.c6x_elf.specs.EntryRows.{RelaFits}
use Rattle.c6x_elf.specs.Names.{IsName}
use Rattle.c6x_elf.specs.Reading.{file_of, refusal_of}
use Rattle.c6x_elf.specs.Types.{Rela}
use Rattle.c6x_layout.specs.File.{data_segment, linked_file, text_segment}
use Rattle.c6x_layout.specs.FilePlaces.{text_size}
use Rattle.c6x_layout.specs.FileSizes.{AreSized}
use Rattle.c6x_layout.specs.Tables.{counts_of}
use Rattle.c6x_layout.specs.declared.file_limits.TheConstants.{TEXT_START}
use Rattle.c6x_layout.specs.declared.parts.Parts.{Parts}
use Rattle.c6x_layout.specs.declared.shared.Shared.{Shared}
use Rattle.c6x_module.specs.Alignment.{is_alignment}
use Rattle.c6x_module.specs.Valid.{IsInside}
use Rattle.c6x_module.specs.declared.field.Field.{Field}
use Rattle.c6x_module.specs.declared.module.Module.{Module}
use Rattle.c6x_module.specs.declared.symbol.DynSymbol.{DynSymbol}
use Rattle.c6x_module.specs.Fields.{entry_refusal, fields_of, overlaps_from}
use Rattle.c6x_module.specs.Modules.{module_in}
use Rattle.c6x_module.specs.Refusals.{Refusal, kept}
use Rattle.c6x_module.specs.declared.fields.TheConstants.{R_C6000_ABS32, R_C6000_JUMP_SLOT}

-- The symbols: the null symbol, one for each segment, the exports and imports.
abbrev pub unnamed : ℕ → ℕ → ℕ → DynSymbol
unnamed value info section = record { name = []; value = value; info = info; other = 0; section = section }

abbrev pub shared_symbol : Shared → DynSymbol
shared_symbol s =
    record { name = s.name; value = s.value; info = s.info; other = s.other; section = s.section }

unfoldable pub symbols_of : Parts → List DynSymbol
symbols_of p =
    unnamed 0 0 0 ∷ unnamed TEXT_START STT_SECTION 1 ∷ unnamed p.table STT_SECTION 2 ∷ map shared_symbol p.shared

-- The fields: those of the entries of RELA, then those of JMPREL.
unfoldable pub fields_of_parts : Parts → List Field
fields_of_parts p = fields_of (p.relas ++ p.jumps)

-- The module, under a name.
unfoldable pub module_of_parts : List ℕ → Parts → Module
module_of_parts name p = record {
  name = name;
  kind = if p.library then ET_DYN else ET_EXEC;
  entry = p.entry;
  text = text_segment p;
  memory = data_segment p;
  symbols = symbols_of p;
  fields = fields_of_parts p;
  needed = p.needed;
  index = p.index;
  slots = p.slots;
  table = p.table;
}

-- The rules that are left to break: two fields share a byte, or one and the table (L9); an executable begins at no word of
-- its text (L10).
unfoldable pub parts_refusal : Parts → Option Refusal
parts_refusal p =
    overlaps_from p.table p.slots [] (fields_of_parts p) <|> entry_refusal (text_segment p) p.index p.entry

-- What the file of the parts is read as.
unfoldable pub loaded : List ℕ → Parts → Result Module Refusal
loaded name p = kept (parts_refusal p) (Ok (module_of_parts name p))

-- The numbers of a symbol have their sizes, and its name is one that a string table can have.
pub record IsShared (s : Shared) : Type 0 where
  pub name : IsName s.name
  pub value : s.value < 2 ^ 32
  pub size : s.size < 2 ^ 32
  pub section : s.section < 2 ^ 16

-- An entry for the loader: of a word in the data, of one of two kinds, on one of the symbols.
pub record IsForLoader (p : Parts) (r : Rela) : Type 0 where
  pub fits : RelaFits r
  pub kind : (rela_kind r ≡ R_C6000_ABS32) ⊎ (rela_kind r ≡ R_C6000_JUMP_SLOT)
  pub symbol : rela_symbol r < length p.shared + 3
  pub inside : IsInside (data_segment p) r.offset 4

-- The bytes of the file of the parts are read as that file, and it as the module.
pub record ReadsAs (p : Parts) (bytes : List ℕ) : Type 0 where
  pub kept : refusal_of bytes ≡ None
  pub file : file_of bytes ≡ linked_file p
  pub image : (name : List ℕ) → module_in false name (file_of bytes) ≡ loaded name p

-- What parts keep whose file is a module but for the two rules that are left.
pub record AreLoadable (p : Parts) : Type 0 where
  pub sized : AreSized p
  pub end : p.table + p.memory < 2 ^ 32
  pub behind : TEXT_START + text_size (counts_of p) ≤ p.table
  pub align : IsTrue (is_alignment p.align)
  pub data_align : IsTrue (is_alignment p.data_align)
  pub aligned : p.table % 4 ≡ 0
  pub some : 1 ≤ p.slots
  pub room : 4 * p.slots ≤ p.memory
  pub index : p.index < 2 ^ 32
  pub entry : p.entry < 2 ^ 32
  pub shared : All IsShared p.shared
  pub needed : All IsName p.needed
  pub relas : All (IsForLoader p) p.relas
  pub jumps : All (IsForLoader p) p.jumps
