-- What the fields and the tables of a process hold (SPRAB89, "Dynamic Linking" and "DSBT Model"; gABI chapter 4,
-- "Relocation").
use Rattle.std.specs.Prelude.{ℕ, ◌+◌, ◌-◌, ◌%◌, ◌^◌, ◌≤◌, ◌&&◌, ◌==◌, Bool, true, false, nat_le, nat_lt, List, [], ◌∷◌, ◌++◌, length, map, replicate, slice_get, Option, None, Some, if◌then◌else◌}
use Rattle.std.specs.List.{flat_map, range_with_len}
use Rattle.std.specs.Int.{cast_unsigned, to_be_bytes, to_le_bytes, w32}
use Rattle.c6x_spec.specs.Memory.{Memory}
use Rattle.c6x_spec.specs.Parts.{Part, filled_with}
use Rattle.c6x_elf.specs.declared.segment.Segment.{Segment}
use Rattle.c6x_module.specs.declared.field.Field.{Field}
use Rattle.c6x_module.specs.declared.module.Module.{Module}
use Rattle.c6x_module.specs.declared.symbol.DynSymbol.{DynSymbol}
use Rattle.c6x_place.specs.declared.target.Target.{Target}
use Rattle.c6x_place.specs.declared.target.Target.TheVariants.{Zero, Fixed, Inside}

-- How far a range has moved that stands at `at` and has the address `vaddr` in its file; a move down is a move up by
-- what is left of 2^32.
abbrev pub shift_of : ℕ → ℕ → ℕ
shift_of at vaddr = (at + (2 ^ 32 - vaddr)) % 2 ^ 32

-- An address, moved.
abbrev pub moved_by : ℕ → ℕ → ℕ
moved_by shift address = (address + shift) % 2 ^ 32

abbrev pub is_within : ℕ → ℕ → ℕ → Bool
is_within lo len address = nat_le lo address && nat_lt address (lo + len)

-- The address of a definition of a module whose text and data range stand at these places. It moves with the text where
-- it lies inside the text, else with the data range where it lies inside that or at its end, else with the text, at the
-- end of which it lies.
unfoldable pub moved : Module → ℕ → ℕ → ℕ → ℕ
moved m text range address =
    if is_within m.text.vaddr m.text.memsz address then moved_by (shift_of text m.text.vaddr) address
    else if is_within m.memory.vaddr m.memory.memsz address then moved_by (shift_of range m.memory.vaddr) address
    else if address == m.memory.vaddr + m.memory.memsz then moved_by (shift_of range m.memory.vaddr) address
    else moved_by (shift_of text m.text.vaddr) address

-- Where the text with this number stands; 0 where it does not.
abbrev pub text_or : Option (Option ℕ) → ℕ
text_or None = 0
text_or (Some None) = 0
text_or (Some (Some at)) = at

abbrev pub text_at : List (Option ℕ) → ℕ → ℕ
text_at texts number = text_or (slice_get texts number)

abbrev pub value_moved : Module → ℕ → ℕ → Option DynSymbol → ℕ
value_moved m text range None = 0
value_moved m text range (Some symbol) = moved m text range symbol.value

-- Where a symbol of a module stands; 0 where there is no such.
abbrev pub symbol_moved : Option Module → ℕ → ℕ → ℕ → ℕ
symbol_moved None text range symbol = 0
symbol_moved (Some m) text range symbol = value_moved m text range (slice_get m.symbols symbol)

abbrev pub member_address : List Module → List (Option ℕ) → Option ℕ → Option ℕ → ℕ → ℕ
member_address modules texts None base symbol = 0
member_address modules texts (Some number) None symbol = 0
member_address modules texts (Some number) (Some base) symbol =
    symbol_moved (slice_get modules number) (text_at texts number) base symbol

-- The address that a target stands for, in a process with this search list and these data ranges.
unfoldable pub target_address : List Module → List ℕ → List (Option ℕ) → List ℕ → Target → ℕ
target_address modules list texts bases Zero = 0
target_address modules list texts bases (Fixed value) = value
target_address modules list texts bases (Inside position symbol) =
    member_address modules texts (slice_get list position) (slice_get bases position) symbol

-- What a field holds whose target has this address: S + A, or S for a JUMP_SLOT.
unfoldable pub field_value : Field → ℕ → ℕ
field_value field s = if field.slot_kind then s else (s + cast_unsigned w32 field.addend) % 2 ^ 32

-- The four bytes of a word, the lowest or the highest first.
abbrev pub word_bytes : Bool → ℕ → List ℕ
word_bytes false value = to_le_bytes w32 value
word_bytes true value = to_be_bytes w32 value

abbrev pub word_part : Bool → ℕ → ℕ → Part
word_part big at value = record { at = at; bytes = word_bytes big value }

-- The fields of a module with their values, in the order of the entries.
abbrev pub field_parts : Bool → (Target → ℕ) → List Field → List Target → List Part
field_parts big address [] targets = []
field_parts big address (field ∷ fields) [] = []
field_parts big address (field ∷ fields) (target ∷ targets) =
    word_part big field.place (field_value field (address target)) ∷ field_parts big address fields targets

-- The address of the table of a module with this index, whose data range stands at `base`.
abbrev pub slot_of : Option Module → ℕ → ℕ → Option ℕ
slot_of None base index = None
slot_of (Some m) base index = if m.index == index then Some (moved_by (shift_of base m.memory.vaddr) m.table) else None

abbrev pub slot_or : Option ℕ → ℕ → ℕ
slot_or None later = later
slot_or (Some word) later = word

-- The slot of an index: the address of the table of the first module of the list that has the index; 0 where none has.
abbrev pub slot_word : List Module → List ℕ → List ℕ → ℕ → ℕ
slot_word modules [] bases index = 0
slot_word modules (number ∷ list) [] index = 0
slot_word modules (number ∷ list) (base ∷ bases) index =
    slot_or (slot_of (slice_get modules number) base index) (slot_word modules list bases index)

-- The words of a table of so many slots.
unfoldable pub words_of : Bool → List ℕ → List ℕ
words_of big values = flat_map (word_bytes big) values

abbrev pub table_bytes : Bool → (ℕ → ℕ) → ℕ → List ℕ
table_bytes big word slots = words_of big (map word (range_with_len 0 slots))

-- A segment in memory: its file bytes, then zeros (gABI chapter 5, `p_filesz` and `p_memsz`).
unfoldable pub filled : Segment → List ℕ
filled s = s.bytes ++ replicate (s.memsz - length s.bytes) 0

-- The data range at the addresses of its file, before anything is filled in.
abbrev pub file_image : Module → Memory
file_image m = record { base = m.memory.vaddr; bytes = filled m.memory }

-- What is filled in, at the same addresses: its table and its fields.
abbrev pub data_parts : Bool → Module → (ℕ → ℕ) → (Target → ℕ) → List Target → List Part
data_parts big m word address targets =
    record { at = m.table; bytes = table_bytes big word m.slots } ∷ field_parts big address m.fields targets

unfoldable pub data_image : Bool → Module → (ℕ → ℕ) → (Target → ℕ) → List Target → Memory
data_image big m word address targets = filled_with (data_parts big m word address targets) (file_image m)

-- The four bytes of a field lie in the range.
pub record IsFieldOf (vaddr size : ℕ) (field : Field) : Type 0 where
  pub above : vaddr ≤ field.place
  pub within : field.place + 4 ≤ vaddr + size

-- The parts of a range where it stands.
abbrev pub moved_part : ℕ → ℕ → Part → Part
moved_part vaddr at part = record { at = at + (part.at - vaddr); bytes = part.bytes }

abbrev pub moved_parts : ℕ → ℕ → List Part → List Part
moved_parts vaddr at parts = map (moved_part vaddr at) parts
