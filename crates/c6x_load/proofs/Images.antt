use Rattle.std.proofs.Common.{◌≡◌, ℕ, Bool, suc, ◌+◌, ◌*◌, ◌<◌, ◌≤◌, ◌⊎◌, inl, inr, List, [], ◌∷◌, length, arith}
use Rattle.std.specs.Prelude.{All, AllPairs, slice_index_or}
use Rattle.c6x_module.specs.declared.module.Module.{Module}
use Rattle.c6x_module.specs.declared.field.Field.{Field}
use Rattle.c6x_module.specs.Valid.{IsValid, IsField, FieldsApart}
use Rattle.c6x_place.specs.declared.target.Target.{Target}
use Rattle.c6x_spec.specs.Parts.{PartsApart, IsApartFrom, AreApart, HoldsParts}
use Rattle.c6x_load.specs.Values.{field_parts, field_value, word_part, table_bytes, data_parts, data_image, file_image}
use Rattle.c6x_spec.proofs.PartsHeld.{holds_parts}
use Rattle.c6x_load.proofs.Ranges.{data_on}
use Rattle.c6x_load.proofs.Tables.{length_table, length_word}

parts_apart : (big : Bool) (place value other worth : ℕ) → (place + 4 ≤ other) ⊎ (other + 4 ≤ place) → PartsApart (word_part big place value) (word_part big other worth)
parts_apart big place value other worth apart =
    let a = length_word big value in
    let b = length_word big worth in
    elim apart [ inl below ↦ inl (omega arith) | inr above ↦ inr (omega arith) ]

one_apart : (big : Bool) (place value : ℕ) (address : Target → ℕ) (fs : List Field) (ts : List Target) → ((k : ℕ) (d : Field) → k < length fs → (place + 4 ≤ (slice_index_or fs k d).place) ⊎ ((slice_index_or fs k d).place + 4 ≤ place)) → IsApartFrom (word_part big place value) (field_parts big address fs ts)
one_apart big place value address [] ts all = tt
one_apart big place value address (f ∷ fs) [] all = tt
one_apart big place value address (f ∷ fs) (t ∷ ts) all =
    (parts_apart big place value f.place (field_value f (address t)) (all 0 f (omega arith)), one_apart big place value address fs ts (λ k d h. all (suc k) d (omega arith)))

fields_apart : (big : Bool) (address : Target → ℕ) (fs : List Field) (ts : List Target) → AllPairs FieldsApart fs → AreApart (field_parts big address fs ts)
fields_apart big address [] ts all = tt
fields_apart big address (f ∷ fs) [] all = tt
fields_apart big address (f ∷ fs) (t ∷ ts) all =
    (one_apart big f.place (field_value f (address t)) address fs ts (λ k d h. all 0 (suc k) d (omega arith) (omega arith)), fields_apart big address fs ts (λ i j d less h. all (suc i) (suc j) d (omega arith) (omega arith)))

table_apart : (big : Bool) (m : Module) (words : List ℕ) (address : Target → ℕ) (fs : List Field) (ts : List Target) → length words ≡ 4 * m.slots → All (IsField m) fs → IsApartFrom (record { at = m.table; bytes = words }) (field_parts big address fs ts)
table_apart big m words address [] ts len all = tt
table_apart big m words address (f ∷ fs) [] len all = tt
table_apart big m words address (f ∷ fs) (t ∷ ts) len all =
    let is : IsField m f = all 0 f (omega arith) in
    let four = length_word big (field_value f (address t)) in
    (elim is.off_table [ inl below ↦ inr (omega arith) | inr above ↦ inl (omega arith) ], table_apart big m words address fs ts len (λ k d h. all (suc k) d (omega arith)))

pub data_holds : (big : Bool) (m : Module) → IsValid m → (word : ℕ → ℕ) (address : Target → ℕ) (targets : List Target) → HoldsParts (data_parts big m word address targets) (file_image m) (data_image big m word address targets)
unfolding data_image
data_holds big m valid word address targets =
    holds_parts (data_parts big m word address targets) (file_image m)
    (table_apart big m (table_bytes big word m.slots) address m.fields targets (length_table big word m.slots) valid.fields, fields_apart big address m.fields targets valid.fields_apart)
    (data_on big m word address targets valid)
