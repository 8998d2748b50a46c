-- Every module that is read is valid.
use Rattle.std.proofs.Common.{◌≡◌, ℕ, ◌^◌, ◌<◌, ◌++◌, [], Bool, List, length, subst}
use Rattle.std.specs.Prelude.{None, Result, Ok}
use Rattle.std.proofs.lemmas.List.{length-map}
use Rattle.c6x_spec.specs.Firsts.{◌<|>◌, first_along}
use Rattle.c6x_elf.specs.Abi.{DT_RELA, DT_JMPREL, DT_DSBT_BASE, DT_DSBT_SIZE, DT_DSBT_INDEX}
use Rattle.c6x_elf.specs.Types.{Dyn, Rela}
use Rattle.c6x_elf.specs.declared.file.File.{File}
use Rattle.c6x_elf.specs.declared.segment.Segment.{Segment}
use Rattle.c6x_module.specs.Valid.{IsValid}
use Rattle.c6x_module.specs.declared.field.Field.{Field}
use Rattle.c6x_module.specs.declared.module.Module.{Module}
use Rattle.c6x_module.specs.Entries.{dsbt_refusal, entries_in, tag_or}
use Rattle.c6x_module.specs.Fields.{entry_refusal, fields_of, fields_refusal, kind_refusal, overlaps_from, place_refusal}
use Rattle.c6x_module.specs.Modules.{module_in, module_of, ranges_then, relocs_refusal, symbol_of, tables_then}
use Rattle.c6x_module.specs.Ranges.{AreRanges, ranges_in}
use Rattle.c6x_module.specs.Refusals.{Refusal, kept}
use Rattle.c6x_module.specs.Shape.{align_refusal, shape_refusal, table_refusal}
use Rattle.c6x_module.specs.Tables.{Tables, needed_refusal, number_refusal, sizes_refusal, sum_refusal, symbol_refusal, tables_in, tables_refusal}
use Rattle.c6x_module.proofs.Through.{both_none, kept_value, then_value}
use Rattle.c6x_module.proofs.ValidRanges.{align_facts, apart_facts, entry_facts, loadable, range_loads, range_writes, ranges_facts, table_facts, text_loads, text_runs}
use Rattle.c6x_module.proofs.ValidFields.{apart_fields, fields_known, off_table_facts, places_facts}
use Rattle.c6x_module.proofs.ValidTables.{names_short, symbols_short}

-- the rules on the shape, and on the tables, one by one
shape_parts : (text range : Segment) (ds : List Dyn) → shape_refusal text range ds ≡ None → (align_refusal text range ≡ None) × (table_refusal range (tag_or 0 DT_DSBT_BASE ds) (tag_or 0 DT_DSBT_SIZE ds) ≡ None)
unfolding shape_refusal
shape_parts text range ds e =
    let one = both_none (align_refusal text range) _ e in
    (one.0, (both_none (table_refusal range (tag_or 0 DT_DSBT_BASE ds) (tag_or 0 DT_DSBT_SIZE ds)) _ one.1).0)

table_parts : (ds : List Dyn) (t : Tables) → tables_refusal ds t ≡ None → (first_along (number_refusal DT_RELA (length t.symbols)) t.relas ≡ None) × (first_along (number_refusal DT_JMPREL (length t.symbols)) t.jumps ≡ None) × (sum_refusal ds t ≡ None)
unfolding tables_refusal
table_parts ds t e =
    let one = both_none (sizes_refusal ds) _ e in
    let two = both_none (first_along (symbol_refusal t.strings) t.symbols) _ one.1 in
    let three = both_none (first_along (needed_refusal t.strings) ds) _ two.1 in
    let four = both_none (first_along (number_refusal DT_RELA (length t.symbols)) t.relas) _ three.1 in
    let five = both_none (first_along (number_refusal DT_JMPREL (length t.symbols)) t.jumps) _ four.1 in
    (four.0, five.0, five.1)

field_parts : (range : Segment) (table slots : ℕ) (fields : List Field) → fields_refusal range table slots fields ≡ None → (first_along (place_refusal range) fields ≡ None) × (overlaps_from table slots [] fields ≡ None)
unfolding fields_refusal
field_parts range table slots fields e = both_none (first_along (place_refusal range) fields) _ e

reloc_parts : (file : File) (two : Segment × Segment) (ds : List Dyn) (relas : List Rela) → relocs_refusal file two ds relas ≡ None → (first_along (place_refusal two.1) (fields_of relas) ≡ None) × (overlaps_from (tag_or 0 DT_DSBT_BASE ds) (tag_or 0 DT_DSBT_SIZE ds) [] (fields_of relas) ≡ None) × (entry_refusal two.0 (tag_or 0 DT_DSBT_INDEX ds) file.entry ≡ None)
unfolding relocs_refusal
reloc_parts file two ds relas e =
    let one = both_none (first_along kind_refusal relas) _ e in
    let both = both_none (fields_refusal two.1 (tag_or 0 DT_DSBT_BASE ds) (tag_or 0 DT_DSBT_SIZE ds) (fields_of relas)) _ one.1 in
    let three = field_parts two.1 (tag_or 0 DT_DSBT_BASE ds) (tag_or 0 DT_DSBT_SIZE ds) (fields_of relas) both.0 in
    (three.0, three.1, both.1)

valid_of : (name : List ℕ) (file : File) (two : Segment × Segment) (ds : List Dyn) (t : Tables) → AreRanges two.0 two.1 → shape_refusal two.0 two.1 ds ≡ None → length t.symbols < 2 ^ 32 → tables_refusal ds t ≡ None → relocs_refusal file two ds (t.relas ++ t.jumps) ≡ None → IsValid (module_of name file two ds t)
unfolding module_of
valid_of name file two ds t r shaped few told relocated =
    let shape = shape_parts two.0 two.1 ds shaped in
    let align = align_facts two.0 two.1 shape.0 in
    let table = table_facts two.1 (tag_or 0 DT_DSBT_BASE ds) (tag_or 0 DT_DSBT_SIZE ds) shape.1 in
    let parts = table_parts ds t told in
    let fields = fields_of (t.relas ++ t.jumps) in
    let relocs = reloc_parts file two ds (t.relas ++ t.jumps) relocated in
    let same = length-map t.symbols (symbol_of t.strings) in
    let places = places_facts two.1 fields relocs.0 in
    let off = off_table_facts (tag_or 0 DT_DSBT_BASE ds) (tag_or 0 DT_DSBT_SIZE ds) fields table.1 relocs.1 in
    let known = fields_known DT_RELA DT_JMPREL (length t.symbols) t.relas t.jumps parts.0 parts.1 in
    record {
      text = loadable two.0 (text_loads two.0 r.runs) r.text_room align.1;
      memory = loadable two.1 (range_loads two.1 r.writes) r.memory_room align.2;
      runs = text_runs two.0 r.runs;
      writes = range_writes two.1 r.writes;
      apart = apart_facts two.0 two.1 r.apart;
      packets = align.0;
      table = record { aligned = table.0; some = table.1; inside = table.2 };
      begins = entry_facts two.0 (tag_or 0 DT_DSBT_INDEX ds) file.entry relocs.2;
      fields = λ k d below. record {
        inside = places k d below;
        off_table = off k d below;
        symbol = rw same (known k d below).symbol;
      };
      fields_apart = apart_fields (tag_or 0 DT_DSBT_BASE ds) (tag_or 0 DT_DSBT_SIZE ds) fields relocs.1;
      symbols = rw same few;
      names = names_short ds t parts.2;
    }

abbrev read_as : Module → Result Module Refusal
read_as m = Ok m

one_module : (a b : Module) → read_as a ≡ read_as b → a ≡ b
one_module a b e = cc

tables_valid : (name : List ℕ) (file : File) (two : Segment × Segment) (ds : List Dyn) (t : Tables) (m : Module) → AreRanges two.0 two.1 → shape_refusal two.0 two.1 ds ≡ None → length t.symbols < 2 ^ 32 → tables_then name file two ds t ≡ Ok m → IsValid m
unfolding tables_then
tables_valid name file two ds t m r shaped few e =
    let a = kept_value (tables_refusal ds t <|> relocs_refusal file two ds (t.relas ++ t.jumps)) _ m e in
    let rules = both_none (tables_refusal ds t) _ a.0 in
    subst IsValid (one_module (module_of name file two ds t) m a.1) (valid_of name file two ds t r shaped few rules.0 rules.1)

ranges_valid : (big : Bool) (name : List ℕ) (file : File) (two : Segment × Segment) (ds : List Dyn) (m : Module) → AreRanges two.0 two.1 → ranges_then big name file two ds ≡ Ok m → IsValid m
unfolding ranges_then
ranges_valid big name file two ds m r e =
    let a = then_value (kept (shape_refusal two.0 two.1 ds) (tables_in big two.0 two.1 ds)) (λ t. tables_then name file two ds t) m e in
    let b = kept_value (shape_refusal two.0 two.1 ds) (tables_in big two.0 two.1 ds) a.0 a.1 in
    tables_valid name file two ds a.0 m r b.0 (symbols_short big two.0 two.1 ds a.0 r.text_room r.memory_room b.1) a.2

pub module_valid : (big : Bool) (name : List ℕ) (file : File) (m : Module) → module_in big name file ≡ Ok m → IsValid m
unfolding module_in
module_valid big name file m e =
    let a = then_value (entries_in big file.segments) _ m e in
    let b = then_value (kept (dsbt_refusal a.0) (ranges_in file.segments)) (λ two. ranges_then big name file two a.0) m a.2 in
    let c = kept_value (dsbt_refusal a.0) (ranges_in file.segments) b.0 b.1 in
    ranges_valid big name file b.0 a.0 m (ranges_facts file.segments b.0 c.1) b.2
