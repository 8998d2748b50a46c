use Rattle.std.proofs.Common.{◌≡◌, ℕ, ◌+◌, ◌<◌, ◌==◌, List, ◌∷◌, length, drop, get_or, ap}
use Rattle.std.proofs.lemmas.List.{drop_more}
use Rattle.std.specs.Prelude.{if◌then◌else◌}
use Rattle.c6x_spec.specs.Firsts.{◌<|>◌, first_along}
use Rattle.c6x_elf.specs.Attributes.{rela_kind}
use Rattle.c6x_elf.specs.Types.{Rela}
use Rattle.c6x_elf.specs.declared.segment.Segment.{Segment}
use Rattle.c6x_module.specs.declared.field.Field.{Field}
use Rattle.c6x_module.specs.Fields.{field_of, fields_of, kind_refusal, place_refusal}
use Rattle.c6x_module.specs.declared.fields.TheConstants.{R_C6000_NONE}

-- walks along entries and fields, one on
pub kinds_more : (rs : List Rela) (i : ℕ) (d : Rela) → i < length rs → first_along kind_refusal (drop i rs) ≡ (kind_refusal (get_or rs i d) <|> first_along kind_refusal (drop (i + 1) rs))
kinds_more rs i d below = ap (first_along kind_refusal) (drop_more rs i d below)

pub fields_more : (rs : List Rela) (i : ℕ) (d : Rela) → i < length rs → fields_of (drop i rs) ≡ (if rela_kind (get_or rs i d) == R_C6000_NONE then fields_of (drop (i + 1) rs) else field_of (get_or rs i d) ∷ fields_of (drop (i + 1) rs))
fields_more rs i d below = ap fields_of (drop_more rs i d below)

pub places_more : (range : Segment) (fs : List Field) (i : ℕ) (d : Field) → i < length fs → first_along (place_refusal range) (drop i fs) ≡ (place_refusal range (get_or fs i d) <|> first_along (place_refusal range) (drop (i + 1) fs))
places_more range fs i d below = ap (first_along (place_refusal range)) (drop_more fs i d below)
