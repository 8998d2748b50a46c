-- What can be read back of a data range where it stands.
use Rattle.std.specs.Prelude.{◌≡◌, ℕ, ◌+◌, ◌-◌, ◌*◌, ◌%◌, ◌^◌, ◌<◌, ◌≤◌, false, List, length, slice_index_or}
use Rattle.c6x_spec.specs.Memory.{Memory}
use Rattle.c6x_spec.specs.Numbers.{word_at}
use Rattle.c6x_spec.specs.Parts.{HoldsPart}
use Rattle.c6x_module.specs.Valid.{IsValid}
use Rattle.c6x_module.specs.declared.field.Field.{Field}
use Rattle.c6x_module.specs.declared.module.Module.{Module}
use Rattle.c6x_place.specs.declared.target.Target.{Target}
use Rattle.c6x_load.specs.Values.{data_image, field_value}

-- The address of a place of a data range that stands at `base`.
abbrev pub place_at : Module → ℕ → ℕ → ℕ
place_at m base place = base + (place - m.memory.vaddr)

-- Each slot of the table and each field of a data range that stands at `base` is read back as its number.
pub record IsReadBack (board : Memory) (base : ℕ) (m : Module) (word : ℕ → ℕ) (address : Target → ℕ) (targets : List Target) : Type 0 where
  pub slots : (i : ℕ) → i < m.slots → word_at false board.bytes (place_at m base m.table + 4 * i - board.base) ≡ word i % 2 ^ 32
  pub fields : (i : ℕ) (f : Field) (t : Target) → i < length m.fields → i < length targets → word_at false board.bytes (place_at m base (slice_index_or m.fields i f).place - board.base) ≡ field_value (slice_index_or m.fields i f) (address (slice_index_or targets i t)) % 2 ^ 32

abbrev pub RangesAreReadBack : Type 0
RangesAreReadBack =
    (board : Memory) (base : ℕ) (m : Module) → IsValid m → (word : ℕ → ℕ) (address : Target → ℕ) (targets : List Target) → board.base ≤ base → HoldsPart board (record { at = base; bytes = (data_image false m word address targets).bytes }) → IsReadBack board base m word address targets
