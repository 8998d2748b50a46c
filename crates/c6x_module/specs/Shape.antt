-- The rules L3 to L6, over the text, the data range and the dynamic entries (SPRAB89, "DSBT Model"; gABI chapter 5,
-- "Dynamic Section").
use Rattle.std.specs.Prelude.{ℕ, ◌+◌, ◌*◌, ◌%◌, ◌==◌, ◌&&◌, ◌||◌, not, nat_le, Bool, false, List, [], ◌∷◌, Option, None}
use Rattle.c6x_spec.specs.Firsts.{◌<|>◌, first_along}
use Rattle.c6x_elf.specs.Abi.{DT_INIT, DT_FINI, DT_INIT_ARRAY, DT_FINI_ARRAY, DT_PREINIT_ARRAY, DT_REL, DT_RELA, DT_PLTREL, DT_DSBT_BASE, DT_DSBT_SIZE}
use Rattle.c6x_elf.specs.Types.{Dyn}
use Rattle.c6x_elf.specs.declared.segment.Segment.{Segment}
use Rattle.c6x_module.specs.Alignment.{is_alignment}
use Rattle.c6x_module.specs.declared.module_rule.ModuleRule.TheVariants.{TextAlign, TableOutside, InitCode, RelForm}
use Rattle.c6x_module.specs.Refusals.{Refusal, must}
use Rattle.c6x_module.specs.Entries.{tag_or}

-- L3: the text begins at a fetch packet, and both alignments can be met.
unfoldable pub align_refusal : Segment → Segment → Option Refusal
align_refusal text range =
    must (text.vaddr % 32 == 0) TextAlign text.vaddr
    <|> must (is_alignment text.align) TextAlign text.align
    <|> must (is_alignment range.align) TextAlign range.align

-- The count bytes from an address on lie in the memory of a segment.
unfoldable pub is_inside : Segment → ℕ → ℕ → Bool
is_inside s at count = nat_le s.vaddr at && nat_le (at + count) (s.vaddr + s.memsz)

-- L4: the table is made of whole words of the data range, and has one at least.
unfoldable pub table_refusal : Segment → ℕ → ℕ → Option Refusal
table_refusal range table slots =
    must (table % 4 == 0 && nat_le 1 slots && is_inside range table (4 * slots)) TableOutside table

-- L5: there is no code that runs before the entry or after the end.
unfoldable pub is_init : ℕ → Bool
is_init tag = tag == DT_INIT || tag == DT_FINI || tag == DT_INIT_ARRAY || tag == DT_FINI_ARRAY || tag == DT_PREINIT_ARRAY

unfoldable pub init_refusal : Dyn → Option Refusal
init_refusal d = must (not (is_init d.tag)) InitCode d.tag

-- L6: relocation entries have addends. Of several entries of PLTREL the first alone counts, so a walk knows whether there
-- was one.
unfoldable pub form_refusal : Bool → Dyn → Option Refusal
form_refusal had d = must (not (d.tag == DT_REL) && (had || not (d.tag == DT_PLTREL) || d.value == DT_RELA)) RelForm d.tag

abbrev pub forms_along : Bool → List Dyn → Option Refusal
forms_along had [] = None
forms_along had (d ∷ ds) = form_refusal had d <|> forms_along (had || d.tag == DT_PLTREL) ds

unfoldable pub shape_refusal : Segment → Segment → List Dyn → Option Refusal
shape_refusal text range ds =
    align_refusal text range
    <|> table_refusal range (tag_or 0 DT_DSBT_BASE ds) (tag_or 0 DT_DSBT_SIZE ds)
    <|> first_along init_refusal ds
    <|> forms_along false ds
