-- The values that instructions compute, modulo 2^32 (SPRU732, "Instruction Descriptions").

use Rattle.std.specs.Prelude.{ℕ, ◌+◌, ◌-◌, ◌*◌, ◌/◌, ◌%◌, ◌^◌, nat_lt, nat_le, nat_eq, Bool, ◌&&◌, bit_and, bit_or, bit_xor, if◌then◌else◌}
use Rattle.c6x_spec.specs.Fields.{extended_of}
use Rattle.c6x_encoding.specs.declared.access.Access.{Access}
use Rattle.c6x_encoding.specs.declared.access.Access.TheVariants.{Ldhu, Ldbu, Ldb, Stb, Ldh, Sth, Ldw, Stw}
use Rattle.c6x_encoding.specs.declared.arith.Arith.{Arith}
use Rattle.c6x_encoding.specs.declared.arith.Arith.TheVariants.{Add, Sub, And, Or, Xor, CmpEq, CmpGt, CmpLt, CmpGtu, CmpLtu, Shl, Shr, Shru, Mpy, Mpyu}
use Rattle.c6x_encoding.specs.declared.move_kind.MoveKind.{MoveKind}
use Rattle.c6x_encoding.specs.declared.move_kind.MoveKind.TheVariants.{Mvk, Mvkh, Addk}
use Rattle.c6x_encoding.specs.declared.unit_kind.UnitKind.{UnitKind}
use Rattle.c6x_encoding.specs.declared.unit_kind.UnitKind.TheVariants.{D, M}
use Rattle.c6x_encoding.specs.Spelling.{bit_of}

abbrev pub sum_of : ℕ → ℕ → ℕ
sum_of a b = (a + b) % 2 ^ 32

abbrev pub difference_of : ℕ → ℕ → ℕ
difference_of a b = (a + (2 ^ 32 - b)) % 2 ^ 32

-- A number in the order of the signed numbers that they stand for: the least one is 0.
abbrev pub raised : ℕ → ℕ
raised a = (a + 2 ^ 31) % 2 ^ 32

-- Shifts by the low six bits of the count; from 32 on nothing of the value is left but its sign.
abbrev pub shifted_left : ℕ → ℕ → ℕ
shifted_left value count = value * 2 ^ (count % 64) % 2 ^ 32

abbrev pub shifted_right : ℕ → ℕ → ℕ
shifted_right value count = value / 2 ^ (count % 64)

-- The shift with the sign: a negative number is -1 less the shifted rest.
abbrev pub shifted_signed : ℕ → ℕ → ℕ
shifted_signed value count =
    if nat_lt value (2 ^ 31) then value / 2 ^ (count % 64)
    else (2 ^ 32 - 1 - (2 ^ 32 - 1 - value) / 2 ^ (count % 64))

-- The products of the low halves, with and without signs.
abbrev pub signed_product : ℕ → ℕ → ℕ
signed_product a b = extended_of 16 (a % 2 ^ 16) * extended_of 16 (b % 2 ^ 16) % 2 ^ 32

abbrev pub product : ℕ → ℕ → ℕ
product a b = a % 2 ^ 16 * (b % 2 ^ 16) % 2 ^ 32

abbrev pub subtracted : UnitKind → ℕ → ℕ → ℕ
subtracted D a b = difference_of b a
subtracted _ a b = difference_of a b

-- The value of an operation on two operands, of which a is the first. SUB of .D subtracts the other way round.
abbrev pub value_of : UnitKind → Arith → ℕ → ℕ → ℕ
value_of unit Add a b = sum_of a b
value_of unit Sub a b = subtracted unit a b
value_of unit And a b = bit_and a b
value_of unit Or a b = bit_or a b
value_of unit Xor a b = bit_xor a b
value_of unit CmpEq a b = bit_of (nat_eq a b)
value_of unit CmpGt a b = bit_of (nat_lt (raised b) (raised a))
value_of unit CmpLt a b = bit_of (nat_lt (raised a) (raised b))
value_of unit CmpGtu a b = bit_of (nat_lt b a)
value_of unit CmpLtu a b = bit_of (nat_lt a b)
value_of unit Shl a b = shifted_left b a
value_of unit Shr a b = shifted_signed b a
value_of unit Shru a b = shifted_right b a
value_of unit Mpy a b = signed_product a b
value_of unit Mpyu a b = product a b

-- A product is read a cycle later than other results.
abbrev pub delay_of : UnitKind → ℕ
delay_of M = 1
delay_of _ = 0

-- A constant of five bits is signed, but in .D and in shifts.
abbrev pub is_unsigned : UnitKind → Arith → Bool
is_unsigned D arith = Bool.true
is_unsigned unit Shl = Bool.true
is_unsigned unit Shr = Bool.true
is_unsigned unit Shru = Bool.true
is_unsigned _ _ = Bool.false

abbrev pub constant_of : UnitKind → Arith → ℕ → ℕ
constant_of unit arith bits = if is_unsigned unit arith then bits else extended_of 5 bits

-- MVK, MVKH and ADDK of a constant, with the old value of the register.
abbrev pub moved : MoveKind → ℕ → ℕ → ℕ
moved Mvk constant old = extended_of 16 constant
moved Mvkh constant old = constant * 2 ^ 16 + old % 2 ^ 16
moved Addk constant old = sum_of old (extended_of 16 constant)

-- An address in words from the fetch packet, which is 32 bytes at a multiple of 32.
abbrev pub from_packet : ℕ → ℕ → ℕ → ℕ
from_packet at count field = (at / 32 * 32 + 4 * extended_of count field) % 2 ^ 32

-- How many bytes a load or a store accesses.
abbrev pub size_of : Access → ℕ
size_of Ldhu = 2
size_of Ldbu = 1
size_of Ldb = 1
size_of Stb = 1
size_of Ldh = 2
size_of Sth = 2
size_of Ldw = 4
size_of Stw = 4

-- The bits of a mode (SPRU732, "Indirect Addressing"): bit 0 adds the offset, bit 2 takes it from a register, bit 3
-- changes the base, and with it bit 1 accesses the base as it was.
abbrev pub adds : ℕ → Bool
adds mode = nat_eq (mode % 2) 1

abbrev pub takes_register : ℕ → Bool
takes_register mode = nat_eq (mode / 4 % 2) 1

abbrev pub changes_base : ℕ → Bool
changes_base mode = nat_le 8 mode

abbrev pub accesses_old : ℕ → Bool
accesses_old mode = nat_le 8 mode && nat_eq (mode / 2 % 2) 1

-- The base plus or minus the scaled offset.
abbrev pub changed_base : ℕ → ℕ → ℕ → ℕ
changed_base mode base distance = if adds mode then sum_of base distance else difference_of base distance
