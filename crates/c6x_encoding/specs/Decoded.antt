-- The instruction that a word spells, as a function of the word: the fields of the first row that gives one.

use Rattle.std.specs.Prelude.{ℕ, ◌+◌, ◌/◌, ◌%◌, ◌^◌, nat_lt, nat_eq, Bool, true, false, ◌&&◌, List, [], ◌∷◌, Option, None, Some, if◌then◌else◌}
use Rattle.c6x_spec.specs.Fields.{bits_of}
use Rattle.c6x_base.specs.declared.side.Side.{Side}
use Rattle.c6x_base.specs.declared.side.Side.TheVariants.{A, B}
use Rattle.c6x_encoding.specs.declared.access.Access.{Access}
use Rattle.c6x_encoding.specs.declared.access.Access.TheVariants.{Ldhu, Ldbu, Ldb, Stb, Ldh, Sth, Ldw, Stw}
use Rattle.c6x_encoding.specs.declared.cond.Cond.{Cond}
use Rattle.c6x_encoding.specs.declared.cond.Cond.TheVariants.{Always, If}
use Rattle.c6x_encoding.specs.declared.cond_reg.CondReg.TheVariants.{B0, B1, B2, A1, A2, A0}
use Rattle.c6x_encoding.specs.declared.first.First.{First}
use Rattle.c6x_encoding.specs.declared.first.First.TheVariants.{Register, Constant}
use Rattle.c6x_encoding.specs.declared.form.Form.{Form}
use Rattle.c6x_encoding.specs.declared.form.Form.TheVariants.{Two as TwoForm, Move as MoveForm, Branch as BranchForm, Callp as CallpForm, BranchNop as BranchNopForm, BranchReg as BranchRegForm, BranchRegNop as BranchRegNopForm, AddKpc as AddKpcForm, Nop as NopForm, Short as ShortForm, Long as LongForm}
use Rattle.c6x_encoding.specs.declared.instr.Instr.{Instr}
use Rattle.c6x_encoding.specs.declared.op.Op.{Op}
use Rattle.c6x_encoding.specs.declared.op.Op.TheVariants.{Two, Move, Branch, Callp, BranchNop, BranchReg, BranchRegNop, AddKpc, Nop, Short, Long}
use Rattle.c6x_encoding.specs.declared.unit_kind.UnitKind.{UnitKind}
use Rattle.c6x_encoding.specs.declared.unit_kind.UnitKind.TheVariants.{D}
use Rattle.c6x_encoding.specs.Spelling.{Part, Slot, Fixed, Named, Row, table, width, is_part, part_of}

-- A bit as a truth.
abbrev pub is_set : ℕ → ℕ → Bool
is_set word place = nat_eq (bits_of word place 1) 1

abbrev pub side_from : Bool → Side
side_from false = A
side_from true = B

abbrev pub side_at : ℕ → ℕ → Side
side_at word place = side_from (is_set word place)

-- The condition of a creg with z, and Always for the creg of no register.
abbrev pub condition_from : ℕ → Bool → Cond
condition_from creg on_zero =
    if nat_eq creg 1 then If B0 on_zero
    else (if nat_eq creg 2 then If B1 on_zero
    else (if nat_eq creg 3 then If B2 on_zero
    else (if nat_eq creg 4 then If A1 on_zero
    else (if nat_eq creg 5 then If A2 on_zero
    else (if nat_eq creg 6 then If A0 on_zero else Always)))))

-- The condition of a form with the four bits of creg and z. NOP and CALLP have none.
abbrev pub condition_made : Form → ℕ → Cond
condition_made CallpForm field = Always
condition_made NopForm field = Always
condition_made _ field = condition_from (field / 2) (nat_eq (field % 2) 1)

abbrev pub access_from : ℕ → Access
access_from code =
    if nat_eq code 0 then Ldhu
    else (if nat_eq code 1 then Ldbu
    else (if nat_eq code 2 then Ldb
    else (if nat_eq code 3 then Stb
    else (if nat_eq code 4 then Ldh
    else (if nat_eq code 5 then Sth
    else (if nat_eq code 6 then Ldw else Stw))))))

abbrev pub first_from : Bool → ℕ → First
first_from false bits = Register bits
first_from true bits = Constant bits

-- x, which .D does not have.
abbrev pub cross_at : UnitKind → ℕ → Bool
cross_at D word = false
cross_at _ word = is_set word 12

-- The operation of a form with the fields of the word.
abbrev pub op_made : Form → ℕ → Op
op_made (TwoForm unit arith constant) word =
    Two unit arith (side_at word 1) (cross_at unit word) (first_from constant (bits_of word 13 5)) (bits_of word 18 5)
    (bits_of word 23 5)
op_made (MoveForm kind) word = Move kind (side_at word 1) (bits_of word 7 16) (bits_of word 23 5)
op_made BranchForm word = Branch (side_at word 1) (bits_of word 7 21)
op_made CallpForm word = Callp (side_at word 1) (bits_of word 7 21)
op_made BranchNopForm word = BranchNop (side_at word 1) (bits_of word 16 12) (bits_of word 13 3)
op_made BranchRegForm word = BranchReg (is_set word 12) (bits_of word 18 5)
op_made BranchRegNopForm word = BranchRegNop (is_set word 12) (bits_of word 18 5) (bits_of word 13 3)
op_made AddKpcForm word = AddKpc (bits_of word 16 7) (bits_of word 13 3) (bits_of word 23 5)
op_made NopForm word = Nop (bits_of word 13 4 + 1)
op_made ShortForm word =
    Short (access_from (bits_of word 4 3)) (side_at word 7) (side_at word 1) (bits_of word 9 4) (bits_of word 13 5)
    (bits_of word 18 5) (bits_of word 23 5)
op_made LongForm word =
    Long (access_from (bits_of word 4 3)) (side_at word 1) (is_set word 7) (bits_of word 8 15) (bits_of word 23 5)

-- The instruction of a form with the fields of the word.
abbrev pub made : Form → ℕ → Instr
made form word =
    record { condition = condition_made form (bits_of word 28 4); op = op_made form word; chained = is_set word 0 }

-- The row's fixed bits are those of the word, and its fields hold these parts.
abbrev pub are_bits : List Slot → (Part → ℕ) → ℕ → Bool
are_bits [] parts word = true
are_bits (Fixed count value ∷ slots) parts word =
    nat_eq (bits_of word (width slots) count) value && are_bits slots parts word
are_bits (Named count part ∷ slots) parts word =
    (nat_eq (bits_of word (width slots) count) (parts part) && is_part part (parts part)) && are_bits slots parts word

abbrev pub decoded_by : List Row → ℕ → Option Instr
decoded_by [] word = None
decoded_by (row ∷ rows) word =
    if are_bits row.slots (part_of (made row.form word)) word then Some (made row.form word) else decoded_by rows word

-- The instruction that a word spells, if there is one.
unfoldable pub decoded : ℕ → Option Instr
decoded word = if nat_lt word (2 ^ 32) then decoded_by table word else None
