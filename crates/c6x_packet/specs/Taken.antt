-- What the instructions of a packet before one have taken, by numbers (SPRU732, "Resource Constraints").

use Rattle.std.specs.Prelude.{ℕ, ◌+◌, get_or, nat_eq, not, Bool, false, List, Option, None, Some}
use Rattle.c6x_base.specs.declared.side.Side.{Side}
use Rattle.c6x_base.specs.declared.side.Side.TheVariants.{A, B}
use Rattle.c6x_encoding.specs.declared.unit_kind.UnitKind.{UnitKind}
use Rattle.c6x_encoding.specs.declared.unit_kind.UnitKind.TheVariants.{L, S, D, M}

abbrev pub side_number : Side → ℕ
side_number A = 0
side_number B = 1

-- the first of the two units of a kind
abbrev pub kind_number : UnitKind → ℕ
kind_number L = 0
kind_number S = 2
kind_number D = 4
kind_number M = 6

-- a unit among the eight
abbrev pub unit_number : UnitKind × Side → ℕ
unit_number unit = kind_number unit.0 + side_number unit.1

abbrev pub is_unit_taken : List Bool → Option (UnitKind × Side) → Bool
is_unit_taken taken None = false
is_unit_taken taken (Some unit) = get_or taken (unit_number unit) false

abbrev pub is_side_taken : List Bool → Option Side → Bool
is_side_taken taken None = false
is_side_taken taken (Some side) = get_or taken (side_number side) false

-- a register that was read is another one than this
abbrev pub is_other : Option ℕ → ℕ → Bool
is_other None number = false
is_other (Some first) number = not (nat_eq first number)

-- another register was read through the cross path of the side, of which the first that was read there is known
abbrev pub is_other_read : List (Option ℕ) → Option (Side × ℕ) → Bool
is_other_read read None = false
is_other_read read (Some cross) = is_other (get_or read (side_number cross.0) None) cross.1
