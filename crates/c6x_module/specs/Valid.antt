use Rattle.std.specs.Prelude.{◌≡◌, ℕ, ◌+◌, ◌*◌, ◌%◌, ◌^◌, ◌<◌, ◌≤◌, ◌⊎◌, IsTrue, List, length, sum_by, AllPairs, All}
use Rattle.c6x_spec.specs.Fields.{bits_of}
use Rattle.c6x_base.specs.declared.limits.TheConstants.{MOST_HELD_BYTES, MOST_NAMES_BYTES}
use Rattle.c6x_elf.specs.Abi.{PT_LOAD}
use Rattle.c6x_elf.specs.declared.segment.Segment.{Segment}
use Rattle.c6x_module.specs.declared.module.Module.{Module}
use Rattle.c6x_module.specs.declared.symbol.DynSymbol.{DynSymbol}
use Rattle.c6x_module.specs.declared.field.Field.{Field}
use Rattle.c6x_module.specs.Alignment.{is_alignment}

-- A load segment (gABI chapter 5, "Program Header") has room for its bytes in memory and ends below 2^32. The greatest size is
-- this project's own.
pub record IsLoadable (s : Segment) : Type 0 where
  pub kind : s.kind ≡ PT_LOAD
  pub filled : length s.bytes ≤ s.memsz
  pub size : s.memsz ≤ MOST_HELD_BYTES
  pub range : s.vaddr + s.memsz < 2 ^ 32
  pub alignment : IsTrue (is_alignment s.align)

-- A segment may be run (bit 0 of its flags, PF_X) or written (bit 1, PF_W), and not both.
abbrev pub MayRun : Segment → Type 0
MayRun s = (bits_of s.flags 0 1 ≡ 1) × (bits_of s.flags 1 1 ≡ 0)

abbrev pub MayWrite : Segment → Type 0
MayWrite s = (bits_of s.flags 0 1 ≡ 0) × (bits_of s.flags 1 1 ≡ 1)

-- Two segments share no address.
abbrev pub AreApart : Segment → Segment → Type 0
AreApart a b = ((a.memsz ≡ 0) ⊎ (b.memsz ≡ 0)) ⊎ ((a.vaddr + a.memsz ≤ b.vaddr) ⊎ (b.vaddr + b.memsz ≤ a.vaddr))

-- `len` bytes from an address on lie in the memory of a segment.
pub record IsInside (s : Segment) (at len : ℕ) : Type 0 where
  pub above : s.vaddr ≤ at
  pub within : at + len ≤ s.vaddr + s.memsz

-- The table is made of whole words of the data range, and has one at least (SPRAB89, "DSBT Model").
pub record IsTable (m : Module) : Type 0 where
  pub aligned : m.table % 4 ≡ 0
  pub some : 1 ≤ m.slots
  pub inside : IsInside m.memory m.table (4 * m.slots)

-- The bytes of two fields, or of a field and the table, are not shared.
abbrev pub FieldsApart : Field → Field → Type 0
FieldsApart a b = (a.place + 4 ≤ b.place) ⊎ (b.place + 4 ≤ a.place)

abbrev pub IsOffTable : Module → Field → Type 0
IsOffTable m f = (f.place + 4 ≤ m.table) ⊎ (m.table + 4 * m.slots ≤ f.place)

-- A field lies in the data range and off the table, and its symbol is none or one of the module's.
pub record IsField (m : Module) (f : Field) : Type 0 where
  pub inside : IsInside m.memory f.place 4
  pub off_table : IsOffTable m f
  pub symbol : (f.symbol ≡ 0) ⊎ (f.symbol < length m.symbols)

-- A module's own index is 0 where it is an executable, which then begins at a word of its text.
abbrev pub BeginsInText : Module → Type 0
BeginsInText m = m.index ≡ 0 → (m.entry % 4 ≡ 0) × IsInside m.text m.entry 1

-- The lengths of all its names together.
abbrev pub names_length : Module → ℕ
names_length m = sum_by (λ (s : DynSymbol). length s.name) m.symbols + sum_by (λ (n : List ℕ). length n) m.needed

-- What every module keeps that the loader takes.
pub record IsValid (m : Module) : Type 0 where
  pub text : IsLoadable m.text
  pub memory : IsLoadable m.memory
  pub runs : MayRun m.text
  pub writes : MayWrite m.memory
  pub apart : AreApart m.text m.memory
  pub packets : m.text.vaddr % 32 ≡ 0
  pub table : IsTable m
  pub begins : BeginsInText m
  pub fields : All (IsField m) m.fields
  pub fields_apart : AllPairs FieldsApart m.fields
  pub symbols : length m.symbols < 2 ^ 32
  pub names : names_length m ≤ MOST_NAMES_BYTES
