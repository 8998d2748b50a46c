use Rattle.std.proofs.Common.{◌≡◌, ℕ, ◌+◌, ◌*◌, ◌%◌, ◌^◌, ◌<◌, ◌⊎◌, refl, ap, ◌∙◌, inl, inr, arith}
use Rattle.std.specs.Prelude.{ℤ, Result, Ok, Err, not, if◌then◌else◌}
use Rattle.std.specs.Int.{cast_unsigned, w32}
use Rattle.c6x_reloc.specs.Value.{less, packet_of, sum_of, row_value, has_addend, divides, fits, quotient_of, field_of}
use Rattle.c6x_reloc.specs.declared.inputs.Inputs.{Inputs}
use Rattle.c6x_reloc.specs.declared.kind_row.KindRow.{KindRow}
use Rattle.c6x_reloc.specs.declared.origin.Origin.{Origin}
use Rattle.c6x_reloc.specs.declared.origin.Origin.TheVariants.{Nothing, Absolute, Packet, Table, Got, Index, Slot}
use Rattle.c6x_reloc.specs.declared.reloc_error.RelocError.{RelocError}
use Rattle.c6x_reloc.specs.declared.reloc_error.RelocError.TheVariants.{Range, Align, Addend}
use Rattle.c6x_reloc.specs.Shift.{AreWords, at_addresses, moved_by}

-- a difference stays where both numbers move by the same
less_moved : (s v from d : ℕ) → from < 2 ^ 32 → less ((moved_by d s + v) % 2 ^ 32) (moved_by d from) ≡ less ((s + v) % 2 ^ 32) from
less_moved s v from d below = omega arith

-- the same for the number of a GOT word, with nothing added
less_both : (s from d : ℕ) → from < 2 ^ 32 → less (moved_by d s) (moved_by d from) ≡ less s from
less_both s from d below = omega arith

-- a packet moves by a multiple of 32 with its addresses
packet_moved : (p k : ℕ) → packet_of (moved_by (32 * k) p) ≡ moved_by (32 * k) (packet_of p)
packet_moved p k = omega arith

packet-lt : (p : ℕ) → p < 2 ^ 32 → packet_of p < 2 ^ 32
packet-lt p below = omega arith

-- a value as a function of the addend and the sum
abbrev valued : KindRow → ℤ → ℕ → Result ℕ RelocError
valued row a sum =
    if has_addend row.origin a then Err Addend
    else if not (divides row sum) then Err Align
    else if not (fits row (quotient_of row sum)) then Err Range
    else Ok (field_of row (quotient_of row sum))

-- it depends on nothing else
pub same_value : (row : KindRow) (i j : Inputs) (o : Origin) → row.origin ≡ o → i.a ≡ j.a → sum_of o i ≡ sum_of o j → row_value row i ≡ row_value row j
unfolding row_value
same_value row i j o is addend sums =
    let same : sum_of row.origin i ≡ sum_of row.origin j = rw is sums in
    ap (λ (a : ℤ). valued row a (sum_of row.origin i)) addend ∙ ap (valued row j.a) same

packet_sum : (i : Inputs) → AreWords i → (k b g : ℕ) → sum_of Packet (at_addresses i (moved_by (32 * k) i.s) (moved_by (32 * k) i.p) b g) ≡ sum_of Packet i
unfolding sum_of
packet_sum i words k b g =
    ap (less ((moved_by (32 * k) i.s + cast_unsigned w32 i.a) % 2 ^ 32)) (packet_moved i.p k)
    ∙ less_moved i.s (cast_unsigned w32 i.a) (packet_of i.p) (32 * k) (packet-lt i.p words.p)

table_sum : (i : Inputs) → AreWords i → (d p g : ℕ) → sum_of Table (at_addresses i (moved_by d i.s) p (moved_by d i.b) g) ≡ sum_of Table i
unfolding sum_of
table_sum i words d p g = less_moved i.s (cast_unsigned w32 i.a) i.b d words.b

got_sum : (i : Inputs) → AreWords i → (d s p : ℕ) → sum_of Got (at_addresses i s p (moved_by d i.b) (moved_by d i.g)) ≡ sum_of Got i
unfolding sum_of
got_sum i words d s p = less_both i.g i.b d words.b

pub packet_value : (row : KindRow) → row.origin ≡ Packet → (i : Inputs) → AreWords i → (k b g : ℕ) → row_value row (at_addresses i (moved_by (32 * k) i.s) (moved_by (32 * k) i.p) b g) ≡ row_value row i
packet_value row is i words k b g = same_value row _ i Packet is refl (packet_sum i words k b g)

pub table_value : (row : KindRow) → row.origin ≡ Table → (i : Inputs) → AreWords i → (d p g : ℕ) → row_value row (at_addresses i (moved_by d i.s) p (moved_by d i.b) g) ≡ row_value row i
table_value row is i words d p g = same_value row _ i Table is refl (table_sum i words d p g)

pub got_value : (row : KindRow) → row.origin ≡ Got → (i : Inputs) → AreWords i → (d s p : ℕ) → row_value row (at_addresses i s p (moved_by d i.b) (moved_by d i.g)) ≡ row_value row i
got_value row is i words d s p = same_value row _ i Got is refl (got_sum i words d s p)

fixed_sum : (o : Origin) → (o ≡ Absolute) ⊎ ((o ≡ Index) ⊎ ((o ≡ Slot) ⊎ (o ≡ Nothing))) → (i : Inputs) → (p b g : ℕ) → sum_of o (at_addresses i i.s p b g) ≡ sum_of o i
unfolding sum_of
fixed_sum o (inl is) i p b g = rw is refl
fixed_sum o (inr (inl is)) i p b g = rw is refl
fixed_sum o (inr (inr (inl is))) i p b g = rw is refl
fixed_sum o (inr (inr (inr is))) i p b g = rw is refl

pub fixed_value : (row : KindRow) → (row.origin ≡ Absolute) ⊎ ((row.origin ≡ Index) ⊎ ((row.origin ≡ Slot) ⊎ (row.origin ≡ Nothing))) → (i : Inputs) → (p b g : ℕ) → row_value row (at_addresses i i.s p b g) ≡ row_value row i
fixed_value row is i p b g = same_value row _ i row.origin refl refl (fixed_sum row.origin is i p b g)
