-- A loaded data range is patched.
use Rattle.std.proofs.Common.{◌≡◌, ℕ, ◌+◌, ◌-◌, ◌*◌, ◌%◌, ◌^◌, ◌≤◌, false, List, [], ◌∷◌, ◌++◌, length, map, take, drop, refl, sym, ap, ◌∙◌, subst, append-nil, arith}
use Rattle.std.specs.Int.{to_le_bytes, w32}
use Rattle.std.specs.List.{range_with_len}
use Rattle.std.proofs.lemmas.Grind.{common_steps}
use Rattle.std.proofs.lemmas.List.{take-append-drop}
use Rattle.c6x_spec.specs.Memory.{Memory, spliced, written}
use Rattle.c6x_spec.specs.Parts.{AreOn, filled_with}
use Rattle.c6x_spec.proofs.PartsHeld.{kept_on}
use Rattle.c6x_spec.proofs.Writes.{spliced_behind}
use Rattle.c6x_module.specs.Valid.{IsValid}
use Rattle.c6x_module.specs.declared.field.Field.{Field as Dynamic}
use Rattle.c6x_module.specs.declared.module.Module.{Module}
use Rattle.c6x_place.specs.declared.target.Target.{Target}
use Rattle.c6x_reloc.specs.FieldBits.{AreBytes, IsPatchedBy}
use Rattle.c6x_reloc.specs.declared.field.Field.{Field}
use Rattle.c6x_reloc.proofs.Steps.{none_set, patched_then}
use Rattle.c6x_load.specs.Values.{data_image, field_parts, field_value, file_image, filled, table_bytes, word_part, words_of}
use Rattle.c6x_load.proofs.Ranges.{data_on}
use Rattle.c6x_relocated.specs.Holds.{word_field}
use Rattle.c6x_relocated.specs.Patches.{filled_fields, loaded_fields, slot_fields}
use Rattle.c6x_relocated.proofs.WordSet.{splice_small, word_patched}

-- bytes patched, that are bytes
pub record BytesPatched (old : List ℕ) (fields : List Field) (new : List ℕ) : Type 0 where
  pub patched : IsPatchedBy old fields new
  pub small : AreBytes new

nothing_spliced : (bytes : List ℕ) (at : ℕ) → spliced bytes at [] ≡ bytes
unfolding spliced
nothing_spliced bytes at =
    let e : at + 0 ≡ at = omega arith in
    rw e (ap (λ (l : List ℕ). l ++ drop at bytes) (append-nil (take at bytes)) ∙ take-append-drop at bytes)

length_words : (ws : List ℕ) → length (words_of false ws) ≡ 4 * length ws
unfolding words_of
length_words [] = refl
length_words (w ∷ ws) = let rest = length_words ws in grind (arith, common_steps)

words_more : (w : ℕ) (ws : List ℕ) → words_of false (w ∷ ws) ≡ to_le_bytes w32 w ++ words_of false ws
unfolding words_of
words_more w ws = refl

no_words : words_of false [] ≡ []
unfolding words_of
no_words = refl

table_patched : (bytes : List ℕ) (place : ℕ) (ws : List ℕ) → AreBytes bytes → place + 4 * length ws ≤ length bytes → BytesPatched bytes (slot_fields place ws) (spliced bytes place (words_of false ws))
table_patched bytes place [] small room =
    let same : spliced bytes place (words_of false []) ≡ bytes = ap (spliced bytes place) no_words ∙ nothing_spliced bytes place in
    let P : List ℕ → Type 0 = λ xs. BytesPatched bytes [] xs in
    subst P (sym same) (record { patched = none_set bytes; small = small })
table_patched bytes place (w ∷ ws) small room =
    let middle : List ℕ = spliced bytes place (to_le_bytes w32 w) in
    let one : IsPatchedBy bytes (word_field place (w % 2 ^ 32) ∷ []) middle = word_patched bytes place w small (omega arith) in
    let size : length middle ≡ length bytes = one.size in
    let later = table_patched middle (place + 4) ws (splice_small bytes place w small (omega arith)) (omega (arith, size, room)) in
    let join : spliced middle (place + 4) (words_of false ws) ≡ spliced bytes place (words_of false (w ∷ ws)) =
    spliced_behind bytes place (place + 4) (to_le_bytes w32 w) (words_of false ws) (omega arith) (omega (arith, length_words ws, room)) ∙ ap (spliced bytes place) (sym (words_more w ws)) in
    let P : List ℕ → Type 0 = λ xs. BytesPatched bytes (slot_fields place (w ∷ ws)) xs in
    subst P join
    (record {
      patched = patched_then bytes middle (spliced middle (place + 4) (words_of false ws)) (word_field place (w % 2 ^ 32) ∷ []) (slot_fields (place + 4) ws) one later.patched;
      small = later.small;
    })

fields_patched : (address : Target → ℕ) (fs : List Dynamic) (ts : List Target) (memory : Memory) → AreBytes memory.bytes → AreOn memory (field_parts false address fs ts) → BytesPatched memory.bytes (filled_fields address memory.base fs ts) (filled_with (field_parts false address fs ts) memory).bytes
fields_patched address [] ts memory small on = record { patched = none_set memory.bytes; small = small }
fields_patched address (f ∷ fs) [] memory small on = record { patched = none_set memory.bytes; small = small }
fields_patched address (f ∷ fs) (t ∷ ts) memory small on =
    let v : ℕ = field_value f (address t) in
    let place : ℕ = f.place - memory.base in
    let above = on.0.above in
    let within = on.0.within in
    let room : place + 4 ≤ length memory.bytes = omega (arith, above, within) in
    let middle : Memory = written memory f.place (to_le_bytes w32 v) in
    let later = fields_patched address fs ts middle (splice_small memory.bytes place v small room) (kept_on memory (word_part false f.place v) (field_parts false address fs ts) on.0 on.1) in
    record {
      patched = patched_then memory.bytes middle.bytes (filled_with (field_parts false address fs ts) middle).bytes (word_field place (v % 2 ^ 32) ∷ []) (filled_fields address memory.base fs ts) (word_patched memory.bytes place v small room) later.patched;
      small = later.small;
    }

pub range_patched : (m : Module) → IsValid m → (word : ℕ → ℕ) (address : Target → ℕ) (ts : List Target) → AreBytes (filled m.memory) → BytesPatched (filled m.memory) (loaded_fields m word address ts) (data_image false m word address ts).bytes
unfolding data_image loaded_fields
range_patched m valid word address ts small =
    let on = data_on false m word address ts valid in
    let above = on.0.above in
    let within = on.0.within in
    let ws : List ℕ = map word (range_with_len 0 m.slots) in
    let bytes : List ℕ = table_bytes false word m.slots in
    let middle : Memory = written (file_image m) m.table bytes in
    let t = table_patched (filled m.memory) (m.table - m.memory.vaddr) ws small (omega (arith, above, within, length_words ws)) in
    let rest = fields_patched address m.fields ts middle t.small (kept_on (file_image m) (record { at = m.table; bytes = bytes }) (field_parts false address m.fields ts) on.0 on.1) in
    record {
      patched = patched_then (filled m.memory) middle.bytes (filled_with (field_parts false address m.fields ts) middle).bytes (slot_fields (m.table - m.memory.vaddr) ws) (filled_fields address m.memory.vaddr m.fields ts) t.patched rest.patched;
      small = rest.small;
    }

pub loaded_patched : (m : Module) → IsValid m → (word : ℕ → ℕ) (address : Target → ℕ) (ts : List Target) (old : List ℕ) (links : List Field) → AreBytes (filled m.memory) → IsPatchedBy old links (filled m.memory) → IsPatchedBy old (links ++ loaded_fields m word address ts) (data_image false m word address ts).bytes
loaded_patched m valid word address ts old links small linked =
    patched_then old (filled m.memory) (data_image false m word address ts).bytes links (loaded_fields m word address ts) linked (range_patched m valid word address ts small).patched
