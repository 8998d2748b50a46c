-- What instructions of one packet may not do together (SPRU732, "Resource Constraints").

use Rattle.std.specs.Prelude.{ℕ, nat_eq, Bool, true, false, not, ◌&&◌, ◌||◌, Option, None, Some, List, [], ◌∷◌}
use Rattle.std.specs.List.{list_any}
use Rattle.c6x_base.specs.declared.side.Side.{Side}
use Rattle.c6x_base.specs.declared.side.Side.TheVariants.{A, B}
use Rattle.c6x_encoding.specs.declared.instr.Instr.{Instr}
use Rattle.c6x_encoding.specs.declared.op.Op.{Op}
use Rattle.c6x_encoding.specs.declared.op.Op.TheVariants.{Two, Move, Branch, Callp, BranchNop, BranchReg, BranchRegNop, AddKpc, Nop, Short, Long}
use Rattle.c6x_encoding.specs.declared.unit_kind.UnitKind.{UnitKind}
use Rattle.c6x_encoding.specs.declared.unit_kind.UnitKind.TheVariants.{L, S, D, M}
use Rattle.c6x_packet.specs.declared.rule.PairRule.{PairRule}
use Rattle.c6x_packet.specs.declared.rule.PairRule.TheVariants.{Unit as UnitRule, Side as SideRule, Cross as CrossRule}

-- The unit that an operation uses, and its side. NOP uses none; moves, branches and ADDKPC use .S.
abbrev pub unit_of : Op → Option (UnitKind × Side)
unit_of (Two unit arith side cross first second dst) = Some (unit, side)
unit_of (Move kind side constant dst) = Some (S, side)
unit_of (Branch side field) = Some (S, side)
unit_of (Callp side field) = Some (S, side)
unit_of (BranchNop side field wait) = Some (S, side)
unit_of (BranchReg cross source) = Some (S, B)
unit_of (BranchRegNop cross source wait) = Some (S, B)
unit_of (AddKpc field wait dst) = Some (S, B)
unit_of (Nop cycles) = None
unit_of (Short access unit_side value_side mode offset base register) = Some (D, unit_side)
unit_of (Long access value_side base15 offset register) = Some (D, B)

-- The side of the register that is loaded or stored.
abbrev pub value_side_of : Op → Option Side
value_side_of (Short access unit_side value_side mode offset base register) = Some value_side
value_side_of (Long access value_side base15 offset register) = Some value_side
value_side_of _ = None

abbrev pub where_crossed : Bool → Side → ℕ → Option (Side × ℕ)
where_crossed true side number = Some (side, number)
where_crossed false side number = None

-- The side of an instruction that reads through the cross path, and the register that it reads there.
abbrev pub cross_of : Op → Option (Side × ℕ)
cross_of (Two unit arith side cross first second dst) = where_crossed cross side second
cross_of (BranchReg cross source) = where_crossed cross B source
cross_of (BranchRegNop cross source wait) = where_crossed cross B source
cross_of _ = None

abbrev pub same_side : Side → Side → Bool
same_side A A = true
same_side B B = true
same_side _ _ = false

abbrev pub same_kind : UnitKind → UnitKind → Bool
same_kind L L = true
same_kind S S = true
same_kind D D = true
same_kind M M = true
same_kind _ _ = false

abbrev pub units_meet : Option (UnitKind × Side) → Option (UnitKind × Side) → Bool
units_meet (Some a) (Some b) = same_kind a.0 b.0 && same_side a.1 b.1
units_meet _ _ = false

abbrev pub sides_meet : Option Side → Option Side → Bool
sides_meet (Some a) (Some b) = same_side a b
sides_meet _ _ = false

abbrev pub crosses_meet : Option (Side × ℕ) → Option (Side × ℕ) → Bool
crosses_meet (Some a) (Some b) = same_side a.0 b.0 && not (nat_eq a.1 b.1)
crosses_meet _ _ = false

-- The two instructions break the rule together: they use one of the eight units, they load or store values of one
-- side, or they are of one side and read different registers through its cross path.
unfoldable pub breaks : PairRule → Instr → Instr → Bool
breaks UnitRule a b = units_meet (unit_of a.op) (unit_of b.op)
breaks SideRule a b = sides_meet (value_side_of a.op) (value_side_of b.op)
breaks CrossRule a b = crosses_meet (cross_of a.op) (cross_of b.op)

-- Two of the instructions break the rule together.
abbrev pub some_pair : PairRule → List Instr → Bool
some_pair rule [] = false
some_pair rule (i ∷ instrs) = list_any (breaks rule i) instrs || some_pair rule instrs
