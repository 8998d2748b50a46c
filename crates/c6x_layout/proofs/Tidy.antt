-- The file of a module is tidy.
use Rattle.std.proofs.Common.{◌≡◌, ℕ, zero, suc, ◌+◌, ◌*◌, ◌<◌, ◌≤◌, Bool, true, false, cond, max, [], ◌∷◌, length, get_or, sum_by, refl, arith}
use Rattle.std.specs.Int.{is_power_of_two}
use Rattle.std.specs.Prelude.{IsTrue}
use Rattle.c6x_elf.proofs.Alone.{tidy_alone}
use Rattle.c6x_elf.specs.Alone.{segment_room}
use Rattle.c6x_elf.specs.Form.{IsHeld, IsTidy}
use Rattle.c6x_elf.specs.Header.{is_file_type}
use Rattle.c6x_elf.specs.Writing.{step_of}
use Rattle.c6x_elf.specs.declared.segment.Segment.{Segment}
use Rattle.c6x_layout.specs.File.{data_segment, dynamic_bytes, dynamic_segment, linked_file, text_bytes, text_segment}
use Rattle.c6x_layout.specs.FilePlaces.{dynamic_at, entry_count, places_of, text_size}
use Rattle.c6x_layout.specs.FileSizes.{AreSized}
use Rattle.c6x_layout.specs.Tables.{counts_of}
use Rattle.c6x_layout.specs.declared.counts.Counts.{Counts}
use Rattle.c6x_layout.specs.declared.file_limits.TheConstants.{MOST_ALIGN, MOST_SEGMENT_BYTES}
use Rattle.c6x_layout.specs.declared.parts.Parts.{Parts}
use Rattle.c6x_layout.specs.declared.places.Places.{Places}
use Rattle.c6x_layout.proofs.Fitting.{length_dynamic, length_text}

dynamic_within : (c : Counts) → dynamic_at c + 8 * entry_count c ≤ text_size c
unfolding text_size
dynamic_within c = omega arith

pub text_short : (p : Parts) → AreSized p → length (text_bytes p) ≤ MOST_SEGMENT_BYTES
text_short p are = let small = are.text in omega (arith, small, length_text p)

pub dynamic_short : (p : Parts) → AreSized p → length (dynamic_bytes p) ≤ MOST_SEGMENT_BYTES
dynamic_short p are = let small = are.text in omega (arith, small, length_dynamic p, dynamic_within (counts_of p))

pub place_few : (p : Parts) (places : Places) → AreSized p → places ≡ places_of (counts_of p) → places.dynamic ≤ MOST_SEGMENT_BYTES
unfolding places_of
place_few p places are is = let small = are.text in rw is (omega (arith, small, dynamic_within (counts_of p)))

step_few : (align : ℕ) → align ≤ MOST_ALIGN → step_of align ≤ MOST_ALIGN
unfolding step_of
step_few align few = either (is_power_of_two align)
  where
    either : (b : Bool) → cond b (max align 4) 4 ≤ MOST_ALIGN
    either true = omega arith
    either false = omega arith

is_type : (library : Bool) → IsTrue (is_file_type (cond library 3 2))
unfolding is_file_type
is_type true = refl
is_type false = refl

held_three : (p : Parts) → AreSized p → (k : ℕ) (d : Segment) → k < 3 → IsHeld (get_or (text_segment p ∷ data_segment p ∷ dynamic_segment p ∷ []) k d)
held_three p are zero d below = record { held = λ is. omega arith }
held_three p are (suc zero) d below = record { held = λ is. are.content }
held_three p are (suc (suc zero)) d below = record { held = λ is. absurd (omega arith) }
held_three p are (suc (suc (suc k))) d below = absurd (omega arith)

rooms : (p : Parts) → AreSized p → sum_by segment_room (text_segment p ∷ data_segment p ∷ dynamic_segment p ∷ []) ≤ 4000000
rooms p are =
    let text = text_short p are in
    let content = are.content in
    let memory = are.memory in
    let dynamic = dynamic_short p are in
    let a = step_few p.align are.align in
    let b = step_few p.data_align are.data_align in
    let c : step_of 4 ≤ MOST_ALIGN = step_few 4 (omega arith) in
    omega (arith, text, content, memory, dynamic, a, b, c)

pub tidy : (p : Parts) → AreSized p → IsTidy false (linked_file p)
unfolding linked_file
tidy p are = tidy_alone false (linked_file p) (record {
  kind = is_type p.library;
  none = refl;
  unnamed = refl;
  few = omega arith;
  loaded = held_three p are;
  small = omega (arith, rooms p are);
})
