-- What the loader writes into a data range, as fields that are set behind those of a link (SPRAB89, "DSBT Model" and
-- "Dynamic Relocation").
use Rattle.std.specs.Prelude.{ℕ, ◌+◌, ◌-◌, ◌%◌, ◌^◌, false, List, [], ◌∷◌, ◌++◌, map}
use Rattle.std.specs.List.{range_with_len}
use Rattle.c6x_module.specs.Valid.{IsValid}
use Rattle.c6x_module.specs.declared.field.Field.{Field as Dynamic}
use Rattle.c6x_module.specs.declared.module.Module.{Module}
use Rattle.c6x_place.specs.declared.target.Target.{Target}
use Rattle.c6x_reloc.specs.FieldBits.{AreBytes, IsPatchedBy}
use Rattle.c6x_reloc.specs.declared.field.Field.{Field}
use Rattle.c6x_load.specs.Values.{data_image, field_value, filled}
use Rattle.c6x_relocated.specs.Holds.{word_field}

-- The words of a table, the first at this place of the range.
abbrev pub slot_fields : ℕ → List ℕ → List Field
slot_fields place [] = []
slot_fields place (word ∷ words) = word_field place (word % 2 ^ 32) ∷ slot_fields (place + 4) words

-- The dynamic fields with their values, in a range that has the address `vaddr` in its file.
abbrev pub filled_fields : (Target → ℕ) → ℕ → List Dynamic → List Target → List Field
filled_fields address vaddr [] targets = []
filled_fields address vaddr (f ∷ fs) [] = []
filled_fields address vaddr (f ∷ fs) (t ∷ ts) =
    word_field (f.place - vaddr) (field_value f (address t) % 2 ^ 32) ∷ filled_fields address vaddr fs ts

-- All that the loader writes into the data range of a module: its table, and its dynamic fields.
unfoldable pub loaded_fields : Module → (ℕ → ℕ) → (Target → ℕ) → List Target → List Field
loaded_fields m word address targets =
    slot_fields (m.table - m.memory.vaddr) (map word (range_with_len 0 m.slots))
    ++ filled_fields address m.memory.vaddr m.fields targets

-- Loading is patching: where the bytes of a data range are patched by fields, those of the loaded range are patched by
-- the same fields and behind them by those of the loader.
abbrev pub LoadingIsPatching : Type 0
LoadingIsPatching =
    (m : Module) → IsValid m → (word : ℕ → ℕ) (address : Target → ℕ) (targets : List Target) (old : List ℕ) (links : List Field) → AreBytes (filled m.memory) → IsPatchedBy old links (filled m.memory) → IsPatchedBy old (links ++ loaded_fields m word address targets) (data_image false m word address targets).bytes
