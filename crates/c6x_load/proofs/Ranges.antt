use Rattle.std.proofs.Common.{◌≡◌, ℕ, Bool, suc, ◌+◌, ◌-◌, ◌*◌, ◌≤◌, List, [], ◌∷◌, length, refl, ap, ◌∙◌, arith}
use Rattle.c6x_spec.specs.Memory.{Memory, IsOnMemory, spliced, written}
use Rattle.c6x_spec.proofs.Splices.{length_spliced}
use Rattle.std.specs.Prelude.{All}
use Rattle.std.proofs.lemmas.Grind.{common_steps}
use Rattle.c6x_elf.specs.declared.segment.Segment.{Segment}
use Rattle.c6x_module.specs.declared.module.Module.{Module}
use Rattle.c6x_module.specs.declared.field.Field.{Field}
use Rattle.c6x_module.specs.Valid.{IsLoadable, IsValid, IsField}
use Rattle.c6x_place.specs.declared.target.Target.{Target}
use Rattle.c6x_spec.specs.Parts.{Part, filled_with, AreOn}
use Rattle.c6x_load.specs.Values.{moved_parts, table_bytes, field_value, filled, file_image, field_parts, data_parts, data_image, IsFieldOf}
use Rattle.c6x_load.proofs.Tables.{length_table, length_word}
use Rattle.c6x_spec.proofs.PartsHeld.{kept_on}
use Rattle.c6x_spec.proofs.Writes.{written_within, on_written}

-- parts written inside a range are one write of the range with them in it
pub one_range : (parts : List Part) (m : Memory) (vaddr at : ℕ) (bytes : List ℕ) → m.base ≤ at → at + length bytes ≤ m.base + length m.bytes → AreOn (record { base = vaddr; bytes = bytes }) parts → filled_with (moved_parts vaddr at parts) (written m at bytes) ≡ written m at (filled_with parts (record { base = vaddr; bytes = bytes })).bytes
one_range [] m vaddr at bytes low high on = refl
one_range (p ∷ ps) m vaddr at bytes low high on =
    let above = on.0.above in
    let within = on.0.within in
    let next = spliced bytes (p.at - vaddr) p.bytes in
    let len : length next ≡ length bytes = length_spliced bytes (p.at - vaddr) p.bytes (omega arith) in
    let one : written (written m at bytes) (at + (p.at - vaddr)) p.bytes ≡ written m at next = written_within m (written m at bytes) (written (written m at bytes) (at + (p.at - vaddr)) p.bytes) at (at + (p.at - vaddr)) (p.at - vaddr) bytes p.bytes refl refl refl low high (omega arith) in
    ap (λ (q : Memory). filled_with (moved_parts vaddr at ps) q) one
    ∙ one_range ps m vaddr at next low (omega arith) (kept_on (record { base = vaddr; bytes = bytes }) p ps on.0 on.1)

pub all_fields : (m : Module) (fs : List Field) → All (IsField m) fs → All (IsFieldOf m.memory.vaddr m.memory.memsz) fs
all_fields m fs all = λ k d h. let is = all k d h in record { above = is.inside.above; within = is.inside.within }

fields_on : (big : Bool) (m : Module) (image : Memory) (address : Target → ℕ) (fs : List Field) (ts : List Target) → image.base ≡ m.memory.vaddr → length image.bytes ≡ m.memory.memsz → All (IsField m) fs → AreOn image (field_parts big address fs ts)
fields_on big m image address [] ts base size all = tt
fields_on big m image address (f ∷ fs) [] base size all = tt
fields_on big m image address (f ∷ fs) (t ∷ ts) base size all =
    let is : IsField m f = all 0 f (omega arith) in
    let above = is.inside.above in
    let within = is.inside.within in
    let len = length_word big (field_value f (address t)) in
    (record { above = omega arith; within = omega arith }, fields_on big m image address fs ts base size (λ k d h. all (suc k) d (omega arith)))

pub length_filled : (s : Segment) → IsLoadable s → length (filled s) ≡ s.memsz
unfolding filled
length_filled s is = let h = is.filled in grind (arith, common_steps)

pub data_on : (big : Bool) (m : Module) (word : ℕ → ℕ) (address : Target → ℕ) (ts : List Target) → IsValid m → AreOn (file_image m) (data_parts big m word address ts)
data_on big m word address ts valid =
    let size = length_filled m.memory valid.memory in
    let len = length_table big word m.slots in
    let above = valid.table.inside.above in
    let within = valid.table.inside.within in
    (record { above = above; within = omega arith }, fields_on big m (file_image m) address m.fields ts refl size valid.fields)

-- three steps write the data range
pub data_written : (big : Bool) (m : Module) (word : ℕ → ℕ) (address : Target → ℕ) (ts : List Target) (at : ℕ) (before first second after : Memory) → IsValid m → IsOnMemory before at m.memory.memsz → first ≡ written before at (filled m.memory) → second ≡ written first (at + (m.table - m.memory.vaddr)) (table_bytes big word m.slots) → after ≡ filled_with (moved_parts m.memory.vaddr at (field_parts big address m.fields ts)) second → after ≡ written before at (data_image big m word address ts).bytes
unfolding data_image
data_written big m word address ts at before first second after valid room one two three =
    let size = length_filled m.memory valid.memory in
    let above = room.above in
    let within = room.within in
    three
    ∙ ap (λ (q : Memory). filled_with (moved_parts m.memory.vaddr at (field_parts big address m.fields ts)) q) (two ∙ ap (λ (q : Memory). written q (at + (m.table - m.memory.vaddr)) (table_bytes big word m.slots)) one)
    ∙ one_range (data_parts big m word address ts) before m.memory.vaddr at (filled m.memory) above (omega arith) (data_on big m word address ts valid)

pub still_on : (s : Segment) (before after : Memory) (at : ℕ) → IsLoadable s → after ≡ written before at (filled s) → IsOnMemory before at s.memsz → (place len : ℕ) → IsOnMemory before place len → IsOnMemory after place len
still_on s before after at is same room place len has =
    let size = length_filled s is in
    let above = room.above in
    let within = room.within in
    on_written before after at (filled s) same (record { above = above; within = omega arith }) place len has

pub table_on : (big : Bool) (m : Module) (word : ℕ → ℕ) (before after : Memory) (at : ℕ) → after ≡ written before at (table_bytes big word m.slots) → IsOnMemory before at (4 * m.slots) → (place len : ℕ) → IsOnMemory before place len → IsOnMemory after place len
table_on big m word before after at same room place len has =
    let size = length_table big word m.slots in
    let above = room.above in
    let within = room.within in
    on_written before after at (table_bytes big word m.slots) same (record { above = above; within = omega arith }) place len has
