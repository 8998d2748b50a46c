-- The module of a file (SPRAB89, "Dynamic Linking"), or the first broken rule: L1 to L6, L11, L7 to L10. Three readings
-- give what all other rules walk along. The byte order comes first.
use Rattle.std.specs.Prelude.{ℕ, ◌==◌, Bool, List, [], ◌∷◌, ◌++◌, map, Option, Result, Ok, if◌then◌else◌}
use Rattle.c6x_spec.specs.Firsts.{◌<|>◌, first_along}
use Rattle.c6x_spec.specs.Results.{◌>>=◌}
use Rattle.c6x_elf.specs.Abi.{DT_NEEDED, DT_DSBT_BASE, DT_DSBT_SIZE, DT_DSBT_INDEX}
use Rattle.c6x_elf.specs.Types.{Dyn, Rela, Symbol}
use Rattle.c6x_elf.specs.declared.file.File.{File}
use Rattle.c6x_elf.specs.declared.segment.Segment.{Segment}
use Rattle.c6x_module.specs.declared.symbol.DynSymbol.{DynSymbol}
use Rattle.c6x_module.specs.declared.module.Module.{Module}
use Rattle.c6x_module.specs.Refusals.{Refusal, kept}
use Rattle.c6x_module.specs.Entries.{dsbt_refusal, entries_in, tag_or}
use Rattle.c6x_module.specs.Ranges.{ranges_in}
use Rattle.c6x_module.specs.Shape.{shape_refusal}
use Rattle.c6x_module.specs.Tables.{Tables, name_in, tables_in, tables_refusal}
use Rattle.c6x_module.specs.Fields.{entry_refusal, fields_of, fields_refusal, kind_refusal}

-- A symbol with its name in place of the name's offset.
unfoldable pub symbol_of : List ℕ → Symbol → DynSymbol
symbol_of strings s = record {
  name = name_in strings s.name;
  value = s.value;
  info = s.info;
  other = s.other;
  section = s.section;
}

abbrev pub needed_of : List ℕ → List Dyn → List (List ℕ)
needed_of strings [] = []
needed_of strings (d ∷ ds) =
    if d.tag == DT_NEEDED then name_in strings d.value ∷ needed_of strings ds else needed_of strings ds

-- The module of what was read.
unfoldable pub module_of : List ℕ → File → Segment × Segment → List Dyn → Tables → Module
module_of name file two ds t = record {
  name = name;
  kind = file.kind;
  entry = file.entry;
  text = two.0;
  memory = two.1;
  symbols = map (symbol_of t.strings) t.symbols;
  fields = fields_of (t.relas ++ t.jumps);
  needed = needed_of t.strings ds;
  index = tag_or 0 DT_DSBT_INDEX ds;
  slots = tag_or 0 DT_DSBT_SIZE ds;
  table = tag_or 0 DT_DSBT_BASE ds;
}

-- The rules behind the tables, over all entries of relocation.
unfoldable pub relocs_refusal : File → Segment × Segment → List Dyn → List Rela → Option Refusal
relocs_refusal file two ds relas =
    first_along kind_refusal relas
    <|> fields_refusal two.1 (tag_or 0 DT_DSBT_BASE ds) (tag_or 0 DT_DSBT_SIZE ds) (fields_of relas)
    <|> entry_refusal two.0 (tag_or 0 DT_DSBT_INDEX ds) file.entry

-- What stands behind the tables, and behind the two ranges.
unfoldable pub tables_then : List ℕ → File → Segment × Segment → List Dyn → Tables → Result Module Refusal
tables_then name file two ds t =
    kept (tables_refusal ds t <|> relocs_refusal file two ds (t.relas ++ t.jumps)) (Ok (module_of name file two ds t))

unfoldable pub ranges_then : Bool → List ℕ → File → Segment × Segment → List Dyn → Result Module Refusal
ranges_then big name file two ds =
    kept (shape_refusal two.0 two.1 ds) (tables_in big two.0 two.1 ds) >>= λ t. tables_then name file two ds t

unfoldable pub module_in : Bool → List ℕ → File → Result Module Refusal
module_in big name file =
    entries_in big file.segments >>= λ ds.
    kept (dsbt_refusal ds) (ranges_in file.segments) >>= λ two. ranges_then big name file two ds
