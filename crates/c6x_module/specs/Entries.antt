-- The first reading: a file's dynamic entries (gABI chapter 5, "Dynamic Section"; SPRAB89, "Dynamic Linking"). The byte
-- order comes first.
use Rattle.std.specs.Prelude.{ℕ, ◌==◌, Bool, List, [], ◌∷◌, Option, None, Some, Result, is_some, if◌then◌else◌}
use Rattle.c6x_spec.specs.Firsts.{◌<|>◌}
use Rattle.c6x_elf.specs.Abi.{PT_DYNAMIC, DT_NULL, DT_DSBT_BASE, DT_DSBT_SIZE, DT_DSBT_INDEX}
use Rattle.c6x_elf.specs.TableEntries.{dynamic_entries}
use Rattle.c6x_elf.specs.Types.{Dyn}
use Rattle.c6x_elf.specs.declared.segment.Segment.{Segment}
use Rattle.c6x_module.specs.declared.module_rule.ModuleRule.TheVariants.{NotDsbt}
use Rattle.c6x_module.specs.Refusals.{Refusal, must, found}

-- The bytes of the first segment of type DYNAMIC, read to its dynamic entries.
abbrev pub dynamic_in : List Segment → Option (List ℕ)
dynamic_in [] = None
dynamic_in (s ∷ ss) = if s.kind == PT_DYNAMIC then Some s.bytes else dynamic_in ss

-- The entries end at the first NULL.
abbrev pub until_null : List Dyn → List Dyn
until_null [] = []
until_null (d ∷ ds) = if d.tag == DT_NULL then [] else d ∷ until_null ds

unfoldable pub entries_of : Bool → List ℕ → List Dyn
entries_of big bytes = until_null (dynamic_entries big bytes)

abbrev pub read_entries : Bool → Option (List ℕ) → Option (List Dyn)
read_entries big None = None
read_entries big (Some bytes) = Some (entries_of big bytes)

-- The entries, or L1 with no number where there is no such segment.
unfoldable pub entries_in : Bool → List Segment → Result (List Dyn) Refusal
entries_in big segments = found (read_entries big (dynamic_in segments)) NotDsbt 0

-- The value of a tag at its first place.
abbrev pub tag_value : ℕ → List Dyn → Option ℕ
tag_value tag [] = None
tag_value tag (d ∷ ds) = if d.tag == tag then Some d.value else tag_value tag ds

-- The same where a missing tag counts as a number.
abbrev pub value_or : Option ℕ → ℕ → ℕ
value_or None other = other
value_or (Some value) other = value

unfoldable pub tag_or : ℕ → ℕ → List Dyn → ℕ
tag_or other tag ds = value_or (tag_value tag ds) other

-- L1: the three tags of the data segment base table are there.
unfoldable pub dsbt_refusal : List Dyn → Option Refusal
dsbt_refusal ds =
    must (is_some (tag_value DT_DSBT_BASE ds)) NotDsbt DT_DSBT_BASE
    <|> must (is_some (tag_value DT_DSBT_SIZE ds)) NotDsbt DT_DSBT_SIZE
    <|> must (is_some (tag_value DT_DSBT_INDEX ds)) NotDsbt DT_DSBT_INDEX
