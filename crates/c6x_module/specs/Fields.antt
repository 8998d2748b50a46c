-- The rules L7 to L10, over the dynamic relocation entries and the fields that they name (SPRAB89, "Dynamic Linking").
use Rattle.std.specs.Prelude.{◌≡◌, ℕ, ◌+◌, ◌*◌, ◌%◌, ◌<◌, ◌==◌, ◌&&◌, ◌||◌, not, nat_le, nat_lt, Bool, false, List, [], ◌∷◌, ◌++◌, length, slice_index_or, Option, None, if◌then◌else◌}
use Rattle.c6x_spec.specs.Firsts.{◌<|>◌, first_along}
use Rattle.c6x_elf.specs.Attributes.{rela_kind, rela_symbol}
use Rattle.c6x_elf.specs.Types.{Rela}
use Rattle.c6x_elf.specs.declared.segment.Segment.{Segment}
use Rattle.c6x_module.specs.Valid.{IsInside}
use Rattle.c6x_module.specs.declared.field.Field.{Field}
use Rattle.c6x_module.specs.declared.module_rule.ModuleRule.TheVariants.{RelocKind, TextReloc, FieldOverlap, EntryOutside}
use Rattle.c6x_module.specs.declared.fields.TheConstants.{R_C6000_NONE, R_C6000_ABS32, R_C6000_JUMP_SLOT}
use Rattle.c6x_module.specs.Refusals.{Refusal, must}
use Rattle.c6x_module.specs.Shape.{is_inside}

-- L7: an entry is of one of three kinds.
unfoldable pub kind_refusal : Rela → Option Refusal
kind_refusal r =
    must (rela_kind r == R_C6000_NONE || rela_kind r == R_C6000_ABS32 || rela_kind r == R_C6000_JUMP_SLOT) RelocKind r.offset

-- Every entry but those of kind NONE makes a field.
unfoldable pub field_of : Rela → Field
field_of r = record {
  place = r.offset;
  slot_kind = rela_kind r == R_C6000_JUMP_SLOT;
  symbol = rela_symbol r;
  addend = r.addend;
}

abbrev pub fields_of : List Rela → List Field
fields_of [] = []
fields_of (r ∷ rs) = if rela_kind r == R_C6000_NONE then fields_of rs else field_of r ∷ fields_of rs

-- L8: a field's four bytes lie in the data range.
unfoldable pub place_refusal : Segment → Field → Option Refusal
place_refusal range f = must (is_inside range f.place 4) TextReloc f.place

-- L9: a field shares none of its four bytes with the table or an earlier field.
abbrev pub is_within : ℕ → ℕ → ℕ → Bool
is_within from count byte = nat_le from byte && nat_lt byte (from + count)

abbrev pub is_taken : List Field → ℕ → Bool
is_taken [] byte = false
is_taken (f ∷ fs) byte = is_within f.place 4 byte || is_taken fs byte

unfoldable pub is_marked : ℕ → ℕ → List Field → ℕ → Bool
is_marked table slots earlier byte = is_within table (4 * slots) byte || is_taken earlier byte

unfoldable pub is_shared : ℕ → ℕ → List Field → ℕ → Bool
is_shared table slots earlier place =
    is_marked table slots earlier place || is_marked table slots earlier (place + 1)
    || is_marked table slots earlier (place + 2) || is_marked table slots earlier (place + 3)

unfoldable pub overlap_refusal : ℕ → ℕ → List Field → Field → Option Refusal
overlap_refusal table slots earlier f = must (not (is_shared table slots earlier f.place)) FieldOverlap f.place

abbrev pub overlaps_from : ℕ → ℕ → List Field → List Field → Option Refusal
overlaps_from table slots earlier [] = None
overlaps_from table slots earlier (f ∷ fs) =
    overlap_refusal table slots earlier f <|> overlaps_from table slots (earlier ++ f ∷ []) fs

-- L10: an executable, which has the index 0, begins at a word of its text.
unfoldable pub entry_refusal : Segment → ℕ → ℕ → Option Refusal
entry_refusal text index entry = must (not (index == 0) || (entry % 4 == 0 && is_inside text entry 1)) EntryOutside entry

-- The rules on the fields, and on the entry behind them.
unfoldable pub fields_refusal : Segment → ℕ → ℕ → List Field → Option Refusal
fields_refusal range table slots fields =
    first_along (place_refusal range) fields <|> overlaps_from table slots [] fields

-- What keeping L8 says of a field, as a fact.
abbrev pub IsPlaced : Segment → Field → Type 0
IsPlaced range f = IsInside range f.place 4

-- The marks of a range's bytes: those of the table and of earlier fields are set.
pub record AreMarked (vaddr table slots : ℕ) (earlier : List Field) (taken : List Bool) : Type 0 where
  pub marks : (k : ℕ) → k < length taken → slice_index_or taken k false ≡ is_marked table slots earlier (vaddr + k)
