-- The rules on one relocation entry, in their order (SPRAB89, "Relocation"; the rules and their order are this project's
-- own).
use Rattle.std.specs.Prelude.{◌≡◌, ℕ, ◌+◌, ◌%◌, ◌≤◌, ◌==◌, ◌&&◌, ◌||◌, not, nat_le, Bool, true, false, Option, None, Some, Result, Ok, Err, if◌then◌else◌}
use Rattle.std.specs.Int.{cast_unsigned, w32}
use Rattle.c6x_reloc.specs.Table.{row_of}
use Rattle.c6x_reloc.specs.Value.{value_of}
use Rattle.c6x_reloc.specs.declared.origin.Origin.{Origin}
use Rattle.c6x_reloc.specs.declared.origin.Origin.TheVariants.{Nothing, Absolute, Packet, Table, Got}
use Rattle.c6x_reloc.specs.declared.reloc_error.RelocError.{RelocError}
use Rattle.c6x_reloc.specs.declared.reloc_error.RelocError.TheVariants.{Kind, Range, Align, Addend}
use Rattle.c6x_reloc.specs.declared.reloc_kind.RelocKind.{RelocKind}
use Rattle.c6x_reloc.specs.declared.reloc_kind.RelocKind.TheVariants.{ABS32, JUMP_SLOT}
use Rattle.c6x_symbols.specs.declared.link_rule.LinkRule.{LinkRule}
use Rattle.c6x_symbols.specs.declared.link_rule.LinkRule.TheVariants.{RelocRange, RelocAlign, GotAddend, TextAbsolute, CrossSegment, PlaceOutside, RelocKind as NoKind}
use Rattle.c6x_symbols.specs.declared.reference.Reference.{Reference}
use Rattle.c6x_symbols.specs.declared.region.Region.{Region}
use Rattle.c6x_symbols.specs.declared.region.Region.TheVariants.{Text, Data, Absolute as Fixed, Import}

-- The first broken rule of two.
infixr 5 ◌<|>◌
abbrev pub ◌<|>◌ : {A : Type 0} → Option A → Option A → Option A
None <|> later = later
(Some rule) <|> later = Some rule

unfoldable pub must : Bool → LinkRule → Option LinkRule
must holds rule = if holds then None else Some rule

abbrev pub is_text : Region → Bool
is_text Text = true
is_text _ = false

abbrev pub is_range : Region → Bool
is_range Data = true
is_range _ = false

abbrev pub is_fixed : Region → Bool
is_fixed Fixed = true
is_fixed _ = false

abbrev pub is_import : Region → Bool
is_import Import = true
is_import _ = false

-- The field's bytes lie in the section, and an instruction's at a multiple of 4.
unfoldable pub is_inside : RelocKind → Reference → Bool
is_inside kind r =
    nat_le (r.offset + (row_of kind).size) r.room && (not (row_of kind).instruction || r.offset % 4 == 0)

abbrev pub is_word : RelocKind → Bool
is_word ABS32 = true
is_word kind = false

-- An ABS kind on a symbol that moves is an ABS32 in data.
abbrev pub may_move : Origin → Reference → Bool → Bool
may_move Absolute r is_word = is_fixed r.target || (not r.in_text && is_word)
may_move _ r is_word = true

-- A PCR kind stands in text and names text or an import; an SBR kind names data.
abbrev pub reaches : Origin → Reference → Bool
reaches Packet r = r.in_text && (is_text r.target || is_import r.target)
reaches Table r = is_range r.target
reaches _ r = true

-- A GOT word and a stub take no addend.
abbrev pub wants_none : Origin → Reference → Bool
wants_none Got r = true
wants_none Packet r = is_import r.target
wants_none _ r = false

unfoldable pub has_no_addend : Origin → Reference → Bool
has_no_addend origin r = not (wants_none origin r) || cast_unsigned w32 r.inputs.a == 0

abbrev pub is_slot : RelocKind → Bool
is_slot JUMP_SLOT = true
is_slot kind = false

abbrev pub value_rule : Result ℕ RelocError → Option LinkRule
value_rule (Ok value) = None
value_rule (Err Align) = Some RelocAlign
value_rule (Err Range) = Some RelocRange
value_rule (Err Addend) = Some GotAddend
value_rule (Err Kind) = Some NoKind

-- A kind with a field: its place, a kind that only the linker writes, an absolute address of what moves, another segment,
-- an addend, and what the value refuses.
unfoldable pub kind_rule : RelocKind → Origin → Reference → Option LinkRule
kind_rule kind origin r =
    must (is_inside kind r) PlaceOutside
    <|> must (not (is_slot kind)) NoKind
    <|> must (may_move origin r (is_word kind)) TextAbsolute
    <|> must (reaches origin r) CrossSegment
    <|> must (has_no_addend origin r) GotAddend
    <|> value_rule (value_of kind r.inputs)

-- A kind that changes nothing breaks no rule.
abbrev pub origin_rule : Origin → RelocKind → Reference → Option LinkRule
origin_rule Nothing kind r = None
origin_rule origin kind r = kind_rule kind origin r

abbrev pub rule_with : Option RelocKind → Reference → Option LinkRule
rule_with None r = Some NoKind
rule_with (Some kind) r = origin_rule (row_of kind).origin kind r

-- The first rule that an entry breaks.
unfoldable pub entry_rule : Reference → Option LinkRule
entry_rule r = rule_with r.kind r

abbrev pub Passes : {T : Type 0} → Result T LinkRule → Option LinkRule → Type 0
Passes (Ok value) rule = rule ≡ None
Passes (Err broken) rule = rule ≡ Some broken

-- An entry's field lies in its section, and this is its value.
pub record IsField (kind : RelocKind) (r : Reference) (value : ℕ) : Type 0 where
  pub inside : r.offset + (row_of kind).size ≤ r.room
  pub worth : value_of kind r.inputs ≡ Ok value
