use Rattle.std.specs.Prelude.{◌≡◌, ℕ, ◌+◌, ◌*◌, ◌%◌, ◌^◌, ◌<◌, ◌⊎◌}
use Rattle.c6x_reloc.specs.Table.{row_of}
use Rattle.c6x_reloc.specs.Value.{value_of}
use Rattle.c6x_reloc.specs.declared.inputs.Inputs.{Inputs}
use Rattle.c6x_reloc.specs.declared.origin.Origin.{Origin}
use Rattle.c6x_reloc.specs.declared.origin.Origin.TheVariants.{Nothing, Absolute, Packet, Table, Got, Index, Slot}
use Rattle.c6x_reloc.specs.declared.reloc_kind.RelocKind.{RelocKind}

-- A word holds an address, so an address is moved modulo 2^32; a move down is a move up by what is left.
abbrev pub moved_by : ℕ → ℕ → ℕ
moved_by d at = (at + d) % 2 ^ 32

-- The addresses from which values count are words.
pub record AreWords (i : Inputs) : Type 0 where
  pub p : i.p < 2 ^ 32
  pub b : i.b < 2 ^ 32

-- The same inputs at other addresses.
abbrev pub at_addresses : Inputs → ℕ → ℕ → ℕ → ℕ → Inputs
at_addresses i s p b g = record { s = s; a = i.a; p = p; b = b; g = g; index = i.index }

abbrev pub origin_of : RelocKind → Origin
origin_of kind = (row_of kind).origin

-- A kind relative to the fetch packet has the same value where its symbol and its place move by one multiple
-- of 32, wherever the table and the GOT word move.
abbrev pub PacketShift : Type 0
PacketShift =
    (kind : RelocKind) → origin_of kind ≡ Packet → (i : Inputs) → AreWords i → (k b g : ℕ) → value_of kind (at_addresses i (moved_by (32 * k) i.s) (moved_by (32 * k) i.p) b g) ≡ value_of kind i

-- A kind relative to the table has the same value where its symbol and the table move together, and one on a
-- GOT word where that word and the table do.
abbrev pub TableShift : Type 0
TableShift =
    (kind : RelocKind) → origin_of kind ≡ Table → (i : Inputs) → AreWords i → (d p g : ℕ) → value_of kind (at_addresses i (moved_by d i.s) p (moved_by d i.b) g) ≡ value_of kind i

abbrev pub GotShift : Type 0
GotShift =
    (kind : RelocKind) → origin_of kind ≡ Got → (i : Inputs) → AreWords i → (d s p : ℕ) → value_of kind (at_addresses i s p (moved_by d i.b) (moved_by d i.g)) ≡ value_of kind i

-- A kind that names none of the addresses that move: its symbol stays, or it names no symbol.
abbrev pub FixedShift : Type 0
FixedShift =
    (kind : RelocKind) → (origin_of kind ≡ Absolute) ⊎ ((origin_of kind ≡ Index) ⊎ ((origin_of kind ≡ Slot) ⊎ (origin_of kind ≡ Nothing))) → (i : Inputs) → (p b g : ℕ) → value_of kind (at_addresses i i.s p b g) ≡ value_of kind i
