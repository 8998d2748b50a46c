-- Numbers of bytes on the board, and the bytes of a number.
use Rattle.std.proofs.Common.{◌≡◌, ℕ, zero, suc, ◌+◌, ◌-◌, ◌%◌, ◌/◌, ◌^◌, ◌<◌, ◌≤◌, List, [], ◌∷◌, length, refl, sym, ◌∙◌, ap, arith, true, false, not, Bool, None, ◌&&◌, ◌⊎◌}
use Rattle.std.specs.Prelude.{slice_index, nat_le, nat_lt, if◌then◌else◌}
use Rattle.std.proofs.lemmas.Bool.Decides.{nat_tests}
use Rattle.std.specs.Int.{to_le_bytes, w16, w32}
use Rattle.c6x_spec.specs.Memory.{Memory, IsOnMemory, byte_in}
use Rattle.c6x_spec.specs.Numbers.{half_at, word_at}
use Rattle.c6x_access.specs.declared.area.Area.{Area}
use Rattle.c6x_access.specs.declared.right.Right.{Right}
use Rattle.c6x_access.specs.Rights.{may_access}
use Rattle.c6x_access.proofs.Bytes.{may_own}
use Rattle.c6x_exec.specs.Fetched.{number_in}
use Rattle.c6x_board.specs.Lane.{LieOn}
use Rattle.c6x_machine.specs.History.{Effect, Stores, number_of, byte_at}
use Rattle.c6x_encoding.specs.declared.mem_op.MemOp.{MemOp}
use Rattle.c6x_encoding.specs.declared.job.Job.TheVariants.{Store}
use Rattle.c6x_access.specs.declared.right.Right.TheVariants.{Write}
use Rattle.c6x_access.specs.Rights.{allowed}
use Rattle.c6x_access.proofs.Bytes.{may_each}
use Rattle.c6x_board.specs.Written.{IsWritten}
use Rattle.c6x_exec.specs.Fits.{IsFramed}
use Rattle.c6x_machine.specs.Packet.{low_bytes, ends_if, bad_write_by}
use Rattle.c6x_machine.specs.declared.fault_kind.FaultKind.{FaultKind}

pub half_number : (m : Memory) (at : ℕ) → m.base ≤ at → half_at false m.bytes (at - m.base) ≡ number_in m at 2
unfolding half_at
half_number m at above =
    let p1 : at + 1 - m.base ≡ at - m.base + 1 = omega arith in
    rw p1 (omega arith)

pub word_number : (m : Memory) (at : ℕ) → m.base ≤ at → word_at false m.bytes (at - m.base) ≡ number_in m at 4
unfolding word_at
word_number m at above =
    let p1 : at + 1 - m.base ≡ at - m.base + 1 = omega arith in
    let p2 : at + 1 + 1 - m.base ≡ at - m.base + 2 = omega arith in
    let p3 : at + 1 + 1 + 1 - m.base ≡ at - m.base + 3 = omega arith in
    rw (p1, p2, p3) (omega arith)

pub byte_number : (m : Memory) (at : ℕ) → byte_in m at ≡ number_in m at 1
byte_number m at = omega arith

pub low_half : (value : ℕ) → to_le_bytes w16 (value % 2 ^ 16) ≡ low_bytes false 2 value
low_half value =
    let a : value % 65536 % 256 ≡ value % 256 = omega arith in
    let b : value % 65536 / 256 % 256 ≡ value / 256 % 256 = omega arith in
    rw (a, b) refl

pub low_word : (value : ℕ) → value < 2 ^ 32 → to_le_bytes w32 value ≡ low_bytes false 4 value
low_word value fits =
    let a : value / 256 / 256 ≡ value / 65536 = omega arith in
    let b : value / 65536 / 256 ≡ value / 16777216 = omega arith in
    rw (a, b) refl

pub low_byte : (value : ℕ) → (value % 2 ^ 8) ∷ [] ≡ low_bytes false 1 value
low_byte value = refl

-- an access that may be made is on the board where the areas are
pub access_on : (m : Memory) (areas : List Area) (right : Right) (at size : ℕ) → LieOn m areas → may_access areas right at (suc size) ≡ true → IsOnMemory m at (suc size)
access_on m areas right at size lie may =
    let first : IsOnMemory m at 1 = lie at (may_own areas right at (suc size) at may (omega arith) (omega arith)) in
    let last : IsOnMemory m (at + size) 1 = lie (at + size) (may_own areas right at (suc size) (at + size) may (omega arith) (omega arith)) in
    let a : m.base ≤ at = first.above in
    let b : at + size + 1 ≤ m.base + length m.bytes = last.within in
    record { above = a; within = omega arith }

-- numbers of bytes that agree
pub number_same : (big : Bool) (f g : ℕ → ℕ) (at size : ℕ) → ((x : ℕ) → at ≤ x → x < at + size → f x ≡ g x) → number_of big f at size ≡ number_of big g at size
number_same big f g at zero same = refl
number_same big f g at (suc size) same =
    rw (same at (omega arith) (omega arith), number_same big f g (at + 1) size (λ x from to. same x (omega arith) (omega arith))) refl

pub low_length : (size value : ℕ) → length (low_bytes false size value) ≡ size
low_length zero value = refl
low_length (suc size) value = ap suc (low_length size (value / 256))

-- a byte after a write
pub byte_written : (before after : Memory) (at x : ℕ) (new : List ℕ) (inside : Bool) → inside ≡ (nat_le at x && nat_lt x (at + length new)) → before.base ≤ x → IsWritten before at new after → byte_in after x ≡ (if inside then slice_index new (x - at) else byte_in before x)
byte_written before after at x new true is above k =
    let from : at ≤ x = grind (arith, nat_tests) in
    let to : x < at + length new = grind (arith, nat_tests) in
    let here : at + (x - at) ≡ x = omega arith in
    ap (λ (place : ℕ). byte_in after place) (sym here) ∙ k.inside (x - at) (omega arith)
byte_written before after at x new false is above k =
    let outside : (x < at) ⊎ (at + length new ≤ x) = grind (arith, nat_tests) in
    k.others x above outside

pub passes : (may : Bool) (kind : FaultKind) (at : ℕ) → ends_if (not may) kind at ≡ None → may ≡ true
unfolding ends_if
passes true kind at is = refl
passes false kind at is = cc

clash : (b : Bool) → b ≡ true → b ≡ false → ⊥
clash b yes_it no_it = cc

outside_of : (areas : List Area) (at size x : ℕ) (inside : Bool) (count : ℕ) → count ≡ size → inside ≡ (nat_le at x && nat_lt x (at + size)) → may_access areas Write at size ≡ true → allowed areas Write x ≡ false → (x < at) ⊎ (at + count ≤ x)
outside_of areas at size x true count count_is is may kept =
    let from : at ≤ x = grind (arith, nat_tests) in
    let to : x < at + size = grind (arith, nat_tests) in
    let allows : allowed areas Write x ≡ true = may_each areas Write at size x may from to in
    absurd (clash (allowed areas Write x) allows kept)
outside_of areas at size x false count count_is is may kept = rw count_is (grind (arith, nat_tests))

-- a stored byte is seen from the next cycle on
pub byte_stored : (before after : Memory) (start : ℕ → ℕ) (h : List Effect) (n t at x : ℕ) (new : List ℕ) → n + 1 ≤ t → before.base ≤ x → IsWritten before at new after → byte_in before x ≡ byte_at start h t x → byte_in after x ≡ byte_at start (Stores n at new ∷ h) t x
byte_stored before after start h n t at x new later above k old =
    let seen : nat_lt n t ≡ true = grind (arith, nat_tests) in
    byte_written before after at x new (nat_le at x && nat_lt x (at + length new)) refl above k
    ∙ rw (seen, old) refl

pub framed : (before after : Memory) (areas : List Area) (access : MemOp) (at size value : ℕ) → access.address ≡ at → access.size ≡ size → bad_write_by areas access (Store value) ≡ None → IsWritten before at (low_bytes false size value) after → IsFramed areas before after
framed before after areas access at size value at_is size_is clean k = record {
  base = k.base;
  size = k.size;
  others = λ x above kept.
      k.others x above (outside_of areas at size x (nat_le at x && nat_lt x (at + size)) (length (low_bytes false size value)) (low_length size value) refl
      (rw (← at_is, ← size_is) (passes _ _ _ clean)) kept);
}
