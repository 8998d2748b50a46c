-- A field of a part of the memory.
use Rattle.std.proofs.Common.{◌≡◌, ℕ, zero, suc, ◌+◌, ◌-◌, ◌*◌, ◌%◌, ◌<◌, ◌≤◌, Bool, List, ◌++◌, length, if◌then◌else◌, refl, sym, ap, ◌∙◌, subst, length-append, arith}
use Rattle.std.specs.Prelude.{slice_index}
use Rattle.std.proofs.Math.ListN.{get_or-append}
use Rattle.c6x_spec.specs.Fields.{bits_of}
use Rattle.c6x_spec.specs.Numbers.{number_in}
use Rattle.c6x_spec.specs.Memory.{IsOnMemory, Memory}
use Rattle.c6x_spec.specs.Parts.{HoldsPart}
use Rattle.c6x_reloc.specs.Fields.{HoldsValue}
use Rattle.c6x_reloc.specs.Table.{row_of}
use Rattle.c6x_reloc.specs.declared.reloc_kind.RelocKind.{RelocKind}
use Rattle.c6x_reloc.specs.FieldBits.{AreBytes, IsLast, IsPatchedBy}
use Rattle.c6x_reloc.specs.declared.field.Field.{Field}
use Rattle.c6x_reloc.proofs.Held.{field_held}
use Rattle.c6x_symbols.specs.LinkEntries.{field_in, shown}
use Rattle.c6x_symbols.specs.declared.entry.Entry.{Entry}
use Rattle.c6x_reloc.specs.Shift.{origin_of}
use Rattle.c6x_relocated.specs.Holds.{HoldsAt, IsLinked}
use Rattle.c6x_relocated.specs.Moved.{Shifts, moved_inputs}
use Rattle.c6x_relocated.proofs.Stays.{stays}

-- the same bytes make the same number
same_number : (count : ℕ) (a b : List ℕ) (x y : ℕ) → ((i : ℕ) → i < count → slice_index a (x + i) ≡ slice_index b (y + i)) → number_in count a x ≡ number_in count b y
same_number zero a b x y same = refl
same_number (suc count) a b x y same =
    let x0 : x + 0 ≡ x = omega arith in
    let y0 : y + 0 ≡ y = omega arith in
    let first : slice_index a x ≡ slice_index b y = ap (slice_index a) (sym x0) ∙ same 0 (omega arith) ∙ ap (slice_index b) y0 in
    let rest = same_number count a b (x + 1) (y + 1) (λ i below.
    let u : x + 1 + i ≡ x + suc i = omega arith in
    let v : y + suc i ≡ y + 1 + i = omega arith in
    ap (slice_index a) u ∙ same (suc i) (omega arith) ∙ ap (slice_index b) v) in
    λ i. first i + 256 * rest i

pub same_held : (kind : RelocKind) (a b : List ℕ) (x y v : ℕ) → x + (row_of kind).size ≤ length a → ((i : ℕ) → i < (row_of kind).size → slice_index a (x + i) ≡ slice_index b (y + i)) → HoldsValue b y kind v → HoldsValue a x kind v
same_held kind a b x y v inside same h = record {
  inside = λ some. inside;
  field = ap (λ n. bits_of n (row_of kind).low (row_of kind).width) (same_number (row_of kind).size a b x y same) ∙ h.field;
}

-- the bytes of a part on the memory
pub on_board : (board : Memory) (at : ℕ) (bytes behind : List ℕ) (place i : ℕ) → board.base ≤ at → HoldsPart board (record { at = at; bytes = bytes ++ behind }) → place + i < length bytes → slice_index board.bytes (at + place - board.base + i) ≡ slice_index bytes (place + i)
on_board board at bytes behind place i above part inside =
    let e : at + place - board.base + i ≡ at + (place + i) - board.base = omega arith in
    ap (slice_index board.bytes) e
    ∙ part (place + i) (omega (arith, length-append bytes behind))
    ∙ get_or-append bytes behind 0 (place + i) inside

pub hold : (board : Memory) (at : ℕ) (old bytes behind : List ℕ) (fields : List Field) (by : Shifts) (found : ℕ) → by.text % 32 ≡ 0 → IsOnMemory board at (length (bytes ++ behind)) → AreBytes bytes → IsPatchedBy old fields bytes → HoldsPart board (record { at = at; bytes = bytes ++ behind }) → (e : Entry) (kind : RelocKind) (worth : ℕ) → IsLinked e kind worth → IsLast (length bytes) fields (field_in e kind worth) → HoldsAt board (at + (e.at + e.reference.offset)) kind (moved_inputs by found (origin_of kind) e.reference)
hold board at old bytes behind fields by found multiple on small patched part e kind worth linked last =
    let place : ℕ = e.at + e.reference.offset in
    let above = on.above in
    let room = on.within in
    let within : place + (row_of kind).size ≤ length bytes = last.within in
    let same : shown e worth ≡ worth = ap (λ (t : Bool). if t then 0 else worth) linked.shown in
    let held : HoldsValue bytes place kind (shown e worth) = field_held old bytes fields (field_in e kind worth) small patched last in
    let P : ℕ → Type 0 = λ v. HoldsValue bytes place kind v in
    record {
      value = worth;
      worth = stays by multiple found kind e.reference linked.kind_is linked.words linked.passes linked.static ∙ linked.is;
      held = same_held kind board.bytes bytes (at + place - board.base) place worth (omega (arith, length-append bytes behind)) (λ i below. on_board board at bytes behind place i above part (omega arith)) (subst P same held);
    }
