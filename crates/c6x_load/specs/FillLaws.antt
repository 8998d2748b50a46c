use Rattle.std.specs.Prelude.{ℕ, Bool, List}
use Rattle.c6x_spec.specs.Parts.{HoldsParts}
use Rattle.c6x_module.specs.Valid.{IsValid}
use Rattle.c6x_module.specs.declared.module.Module.{Module}
use Rattle.c6x_place.specs.declared.target.Target.{Target}
use Rattle.c6x_load.specs.Values.{data_image, data_parts, file_image}

-- A data range holds its table and each of its fields, and every other byte is the file's, or zero behind the file's.
abbrev pub DataHolds : Type 0
DataHolds =
    (big : Bool) (m : Module) → IsValid m → (word : ℕ → ℕ) (address : Target → ℕ) (targets : List Target) → HoldsParts (data_parts big m word address targets) (file_image m) (data_image big m word address targets)
