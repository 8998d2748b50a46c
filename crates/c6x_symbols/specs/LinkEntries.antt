-- What a list of relocation entries does: the first broken rule, the fields that are set, and the entries that are left to
-- the loader (SPRAB89, "Dynamic Relocation").
use Rattle.std.specs.Prelude.{◌≡◌, ℕ, ◌+◌, ◌^◌, ◌<◌, ◌≤◌, ◌&&◌, not, Bool, false, List, [], ◌∷◌, Option, None, Some, Result, Ok, Err, ℤ, option_map, if◌then◌else◌}
use Rattle.std.specs.Int.{cast_signed, w32}
use Rattle.std.specs.List.{flat_map}
use Rattle.c6x_elf.specs.Types.{Rela}
use Rattle.c6x_elf.specs.Attributes.{rela_info}
use Rattle.c6x_reloc.specs.declared.field.Field.{Field}
use Rattle.c6x_reloc.specs.Table.{row_of}
use Rattle.c6x_reloc.specs.Value.{less, moved, value_of}
use Rattle.c6x_reloc.specs.declared.origin.Origin.{Origin}
use Rattle.c6x_reloc.specs.declared.origin.Origin.TheVariants.{Nothing}
use Rattle.c6x_reloc.specs.declared.reloc_error.RelocError.{RelocError}
use Rattle.c6x_reloc.specs.declared.reloc_kind.RelocKind.{RelocKind}
use Rattle.c6x_reloc.specs.declared.reloc_kind.RelocKind.TheVariants.{ABS32}
use Rattle.c6x_symbols.specs.declared.link_rule.LinkRule.{LinkRule}
use Rattle.c6x_symbols.specs.EntryRules.{◌<|>◌, entry_rule, is_fixed, is_word}
use Rattle.c6x_symbols.specs.declared.entry.Entry.{Entry}
use Rattle.c6x_symbols.specs.declared.entry.EntryError.{EntryError}
use Rattle.c6x_symbols.specs.declared.reference.Reference.{Reference}

abbrev pub broken : Entry → LinkRule → EntryError
broken e rule = record { rule = rule; object = e.object; place = e.reference.offset }

unfoldable pub error_at : Entry → Option EntryError
error_at e = option_map (broken e) (entry_rule e.reference)

-- The first broken rule of the entries, in their order.
abbrev pub entries_error : List Entry → Option EntryError
entries_error [] = None
entries_error (e ∷ es) = error_at e <|> entries_error es

-- The loader fills the field: a word of data that names a symbol that moves.
abbrev pub is_dynamic_kind : Option RelocKind → Bool → Bool
is_dynamic_kind None moves = false
is_dynamic_kind (Some kind) moves = is_word kind && moves

abbrev pub is_dynamic : Reference → Bool
is_dynamic r = is_dynamic_kind r.kind (not r.in_text && not (is_fixed r.target))

-- The value in the file: 0 in a field that the loader fills.
abbrev pub shown : Entry → ℕ → ℕ
shown e value = if is_dynamic e.reference then 0 else value

abbrev pub value_or : Result ℕ RelocError → ℕ
value_or (Ok value) = value
value_or (Err _) = 0

abbrev pub field_in : Entry → RelocKind → ℕ → Field
field_in e kind value = record { place = e.at + e.reference.offset; kind = kind; value = shown e value }

abbrev pub field_with : Origin → RelocKind → Entry → List Field
field_with Nothing kind e = []
field_with origin kind e = field_in e kind (value_or (value_of kind e.reference.inputs)) ∷ []

abbrev pub field_of_kind : Option RelocKind → Entry → List Field
field_of_kind None e = []
field_of_kind (Some kind) e = field_with (row_of kind).origin kind e

-- The field that an entry sets, if it has one.
unfoldable pub field_at : Entry → List Field
field_at e = field_of_kind e.reference.kind e

abbrev pub text_field : Entry → List Field
text_field e = if e.reference.in_text then field_at e else []

abbrev pub data_field : Entry → List Field
data_field e = if e.reference.in_text then [] else field_at e

-- The fields in each segment, in the entries' order.
unfoldable pub text_fields : List Entry → List Field
text_fields es = flat_map text_field es

unfoldable pub data_fields : List Entry → List Field
data_fields es = flat_map data_field es

abbrev pub Passes : {T : Type 0} → Result T EntryError → Option EntryError → Type 0
Passes (Ok value) error = error ≡ None
Passes (Err first) error = error ≡ Some first

-- An entry's section lies in the bytes of its segment, if it has bytes.
pub record IsIn (text range : ℕ) (e : Entry) : Type 0 where
  pub within : 1 ≤ e.reference.room → e.at + e.reference.room ≤ (if e.reference.in_text then text else range)
  pub small_text : text < 2 ^ 32
  pub small_range : range < 2 ^ 32

-- The addend for the loader: how far S + A is from the symbol that the entry for it names.
unfoldable pub dynamic_addend : Entry → ℤ
dynamic_addend e = cast_signed w32 (less (moved e.reference.inputs) e.start)

unfoldable pub rela_of : Entry → Rela
rela_of e = record {
  offset = e.reference.inputs.p;
  info = rela_info e.symbol (row_of ABS32).number;
  addend = dynamic_addend e;
}

abbrev pub relas_at : Entry → List Rela
relas_at e = if is_dynamic e.reference then rela_of e ∷ [] else []

-- The entries for the loader, in the entries' order.
unfoldable pub dynamic_relas : List Entry → List Rela
dynamic_relas es = flat_map relas_at es

-- The number of the symbol has its three bytes.
pub record NamesSymbol (e : Entry) : Type 0 where
  pub small : e.symbol < 2 ^ 24
