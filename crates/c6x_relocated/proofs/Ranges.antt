-- The data range of a member of a search list, and what its fields stand for.
use Rattle.std.proofs.Common.{◌≡◌, ℕ, zero, suc, ◌+◌, List, [], ◌∷◌, length, map, ap, ◌∙◌, subst, arith}
use Rattle.std.proofs.Common.{false}
use Rattle.std.specs.Prelude.{Option, None, Some, slice_get}
use Rattle.c6x_spec.specs.Memory.{IsOnMemory, Memory}
use Rattle.c6x_spec.specs.Parts.{AreOn, HoldsAll, HoldsPart}
use Rattle.c6x_module.specs.Lookups.{symbols_or}
use Rattle.c6x_module.specs.declared.module.Module.{Module}
use Rattle.c6x_place.specs.Definitions.{field_value, member_targets, targets_from}
use Rattle.c6x_place.specs.Members.{fields_or}
use Rattle.c6x_place.specs.declared.target.Target.{Target}
use Rattle.c6x_load.specs.Loaded.{range_bytes, range_parts}

no_value : {A P : Type 0} (x : A) → None ≡ Some x → P
no_value x is = absurd (cc is)

pub record RangeStands (board : Memory) (o : Option Module) (word : ℕ → ℕ) (address : Target → ℕ) (base : ℕ)
    (row : List Target) : Type 0 where
  pub on : IsOnMemory board base (length (range_bytes false o word address row))
  pub part : HoldsPart board (record { at = base; bytes = range_bytes false o word address row })

pub range_stands :
    (board : Memory) (modules : List Module) (word : ℕ → ℕ) (address : Target → ℕ) (list bases : List ℕ)
    (rows : List (List Target))
    → AreOn board (range_parts false modules word address list bases rows)
    → HoldsAll board (range_parts false modules word address list bases rows)
    → (position number base : ℕ) (row : List Target)
    → slice_get list position ≡ Some number
    → slice_get bases position ≡ Some base
    → slice_get rows position ≡ Some row
    → RangeStands board (slice_get modules number) word address base row
range_stands board modules word address [] bases rows on held position number base row a b c = no_value number a
range_stands board modules word address (k ∷ list) [] rows on held position number base row a b c = no_value base b
range_stands board modules word address (k ∷ list) (x ∷ bases) [] on held position number base row a b c = no_value
    row c
range_stands board modules word address (k ∷ list) (x ∷ bases) (r ∷ rows) on held zero number base row a b c =
    let here : RangeStands board (slice_get modules k) word address x r = record { on = on.0; part = held.0 } in
    let same_number : k ≡ number = cc a in
    let same_base : x ≡ base = cc b in
    let same_row : r ≡ row = cc c in
    let P : ℕ → Type 0 = λ n. RangeStands board (slice_get modules n) word address x r in
    let Q : ℕ → Type 0 = λ n. RangeStands board (slice_get modules number) word address n r in
    let R : List Target → Type 0 = λ ts. RangeStands board (slice_get modules number) word address base ts in
    subst R same_row (subst Q same_base (subst P same_number here))
range_stands board modules word address (k ∷ list) (x ∷ bases) (r ∷ rows) on held (suc position) number base row a b c =
    range_stands board modules word address list bases rows on.1 held.1 position number base row a b c

-- the row of a member
pub row_at :
    (modules : List Module) (list : List ℕ) (from : ℕ) (rest : List ℕ) (k number : ℕ)
    → slice_get rest k ≡ Some number
    → slice_get (targets_from modules list from rest) k ≡ Some (member_targets modules list (from + k) number)
row_at modules list from [] k number is = no_value number is
row_at modules list from (x ∷ rest) zero number is =
    let same : x ≡ number = cc is in
    let place : from ≡ from + 0 = omega arith in
    ap (λ n. Some (member_targets modules list from n)) same
    ∙ ap (λ n. Some (member_targets modules list n number)) place
row_at modules list from (x ∷ rest) (suc k) number is =
    let place : from + 1 + k ≡ from + suc k = omega arith in
    row_at modules list (from + 1) rest k number is ∙ ap (λ n. Some (member_targets modules list n number)) place

-- is what its fields stand for
pub row_is :
    (modules : List Module) (list : List ℕ) (position number : ℕ) (m : Module)
    → slice_get modules number ≡ Some m
    → member_targets modules list position number ≡ map (field_value modules list position m.symbols) m.fields
row_is modules list position number m is =
    ap (λ (o : Option Module). map (field_value modules list position (symbols_or o)) (fields_or o)) is
