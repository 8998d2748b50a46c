-- What an instruction does, from the values of the registers, as the rows of the instruction set (SPRU732,
-- "Instruction Descriptions").

use Rattle.std.specs.Prelude.{◌≡◌, ℕ, ◌+◌, ◌-◌, ◌*◌, ◌%◌, ◌^◌, ◌<◌, ◌≤◌, ◌⊎◌, nat_eq, nat_lt, Bool, true, false, not, List, Option, None, Some, IfSome, if◌then◌else◌}
use Rattle.c6x_base.specs.declared.side.Side.{Side}
use Rattle.c6x_base.specs.declared.side.Side.TheVariants.{A, B}
use Rattle.c6x_encoding.specs.declared.access.Access.{Access}
use Rattle.c6x_encoding.specs.declared.access.Access.TheVariants.{Ldhu, Ldbu, Ldb, Stb, Ldh, Sth, Ldw, Stw}
use Rattle.c6x_encoding.specs.declared.arith.Arith.{Arith}
use Rattle.c6x_encoding.specs.declared.cond.Cond.{Cond}
use Rattle.c6x_encoding.specs.declared.cond.Cond.TheVariants.{Always, If}
use Rattle.c6x_encoding.specs.declared.cond_reg.CondReg.{CondReg}
use Rattle.c6x_encoding.specs.declared.cond_reg.CondReg.TheVariants.{B0, B1, B2, A1, A2, A0}
use Rattle.c6x_encoding.specs.declared.effect.Effects.{Effects}
use Rattle.c6x_encoding.specs.declared.first.First.{First}
use Rattle.c6x_encoding.specs.declared.first.First.TheVariants.{Register, Constant}
use Rattle.c6x_encoding.specs.declared.instr.Instr.{Instr}
use Rattle.c6x_encoding.specs.declared.job.Job.{Job}
use Rattle.c6x_encoding.specs.declared.job.Job.TheVariants.{Load, Store}
use Rattle.c6x_encoding.specs.declared.mem_op.MemOp.{MemOp}
use Rattle.c6x_encoding.specs.declared.op.Op.{Op}
use Rattle.c6x_encoding.specs.declared.op.Op.TheVariants.{Two, Move, Branch, Callp, BranchNop, BranchReg, BranchRegNop, AddKpc, Nop, Short, Long}
use Rattle.c6x_encoding.specs.declared.unit_kind.UnitKind.{UnitKind}
use Rattle.c6x_encoding.specs.declared.write.Write.{Write}
use Rattle.c6x_encoding.specs.Registers.{register_of}
use Rattle.c6x_encoding.specs.Values.{sum_of, value_of, delay_of, constant_of, moved, from_packet, size_of, takes_register, changes_base, accesses_old, changed_base}

-- The other side, whose register a cross path reads.
abbrev pub other_side : Side → Side
other_side A = B
other_side B = A

abbrev pub read_side : Side → Bool → Side
read_side side false = side
read_side side true = other_side side

-- The value of a condition's register.
abbrev pub tested : List ℕ → CondReg → ℕ
tested registers B0 = register_of registers B 0
tested registers B1 = register_of registers B 1
tested registers B2 = register_of registers B 2
tested registers A1 = register_of registers A 1
tested registers A2 = register_of registers A 2
tested registers A0 = register_of registers A 0

-- The condition holds with these register values.
abbrev pub condition_holds : Cond → List ℕ → Bool
condition_holds Always registers = true
condition_holds (If register true) registers = nat_eq (tested registers register) 0
condition_holds (If register false) registers = not (nat_eq (tested registers register) 0)

-- The wait alone, as where a condition is false.
unfoldable pub only_wait : ℕ → Effects
only_wait wait = record { result = None; update = None; access = None; target = None; wait = wait }

-- The cycles after an instruction's own before the next packet issues.
abbrev pub wait_of : Op → ℕ
wait_of (Callp side field) = 5
wait_of (BranchNop side field wait) = wait
wait_of (BranchRegNop cross source wait) = wait
wait_of (AddKpc field wait dst) = wait
wait_of (Nop cycles) = cycles - 1
wait_of _ = 0

abbrev pub written_to : Side → ℕ → ℕ → ℕ → Option Write
written_to side register value delay =
    Some (record { side = side; register = register; value = value; delay = delay })

-- The first operand.
abbrev pub first_value : List ℕ → UnitKind → Arith → Side → First → ℕ
first_value registers unit arith side (Register number) = register_of registers side number
first_value registers unit arith side (Constant bits) = constant_of unit arith bits

-- What a load or a store does at its place.
abbrev pub job_of : List ℕ → Access → Side → ℕ → Job
job_of registers Ldhu side register = Load false side register
job_of registers Ldbu side register = Load false side register
job_of registers Ldb side register = Load true side register
job_of registers Ldh side register = Load true side register
job_of registers Ldw side register = Load true side register
job_of registers Stb side register = Store (register_of registers side register)
job_of registers Sth side register = Store (register_of registers side register)
job_of registers Stw side register = Store (register_of registers side register)

abbrev pub access_at : List ℕ → Access → Side → ℕ → ℕ → Option MemOp
access_at registers access side register address =
    Some (record { address = address; size = size_of access; job = job_of registers access side register })

-- The number of a load as its register holds it: with its sign, or with zeros before it.
abbrev pub loaded : Bool → ℕ → ℕ → ℕ
loaded false size number = number
loaded true size number = if nat_lt number (2 ^ (8 * size - 1)) then number else (number + (2 ^ 32 - 2 ^ (8 * size)))

-- What a load writes of the number of its bytes: a load has four delay slots (SPRU732, "LDW"). A store writes none.
abbrev pub written_by_job : Job → ℕ → ℕ → Option Write
written_by_job (Load signed side register) size number = written_to side register (loaded signed size number) 4
written_by_job (Store value) size number = None

abbrev pub write_of_access : MemOp → ℕ → Option Write
write_of_access access number = written_by_job access.job access.size number

-- The offset of a short load or store in bytes.
abbrev pub distance_of : List ℕ → Access → Side → ℕ → ℕ → ℕ
distance_of registers access side mode offset =
    size_of access * (if takes_register mode then register_of registers side offset else offset) % 2 ^ 32

-- A short load or store, by the base as it was and as it is changed.
abbrev pub short_effects : List ℕ → Access → Side → Side → ℕ → ℕ → ℕ → ℕ → ℕ → Effects
short_effects registers access unit_side value_side mode base register old changed = record (only_wait 0) {
  update = if changes_base mode then written_to unit_side base changed 0 else None;
  access = access_at registers access value_side register (if accesses_old mode then old else changed);
}

-- The number of the base register of a long load or store.
abbrev pub long_base : Bool → ℕ
long_base false = 14
long_base true = 15

-- What an operation does at an address, whose packet ends before the address `next`, with these register values.
abbrev pub op_effects : Op → ℕ → ℕ → List ℕ → Effects
op_effects (Two unit arith side cross first second dst) at next registers = record (only_wait 0) {
  result =
      written_to side dst
      (value_of unit arith (first_value registers unit arith side first)
      (register_of registers (read_side side cross) second))
      (delay_of unit);
}
op_effects (Move kind side constant dst) at next registers = record (only_wait 0) {
  result = written_to side dst (moved kind constant (register_of registers side dst)) 0;
}
op_effects (Branch side field) at next registers = record (only_wait 0) {
  target = Some (from_packet at 21 field);
}
op_effects (Callp side field) at next registers = record (only_wait 5) {
  result = written_to side 3 next 0;
  target = Some (from_packet at 21 field);
}
op_effects (BranchNop side field wait) at next registers = record (only_wait wait) {
  target = Some (from_packet at 12 field);
}
op_effects (BranchReg cross source) at next registers = record (only_wait 0) {
  target = Some (register_of registers (read_side B cross) source);
}
op_effects (BranchRegNop cross source wait) at next registers = record (only_wait wait) {
  target = Some (register_of registers (read_side B cross) source);
}
op_effects (AddKpc field wait dst) at next registers = record (only_wait wait) {
  result = written_to B dst (from_packet at 7 field) 0;
}
op_effects (Nop cycles) at next registers = only_wait (cycles - 1)
op_effects (Short access unit_side value_side mode offset base register) at next registers =
    short_effects registers access unit_side value_side mode base register
    (register_of registers unit_side base)
    (changed_base mode (register_of registers unit_side base) (distance_of registers access unit_side mode offset))
op_effects (Long access value_side base15 offset register) at next registers = record (only_wait 0) {
  access =
      access_at registers access value_side register
      (sum_of (register_of registers B (long_base base15)) (size_of access * offset));
}

-- What an instruction does. Where its condition is false, that is its wait alone.
unfoldable pub effects_of : Instr → ℕ → ℕ → List ℕ → Effects
effects_of i at next registers =
    if condition_holds i.condition registers then op_effects i.op at next registers else only_wait (wait_of i.op)

-- A write of a register that is there, at most four cycles late.
pub record FitsWrite (w : Write) : Type 0 where
  pub register : w.register < 32
  pub value : w.value < 2 ^ 32
  pub delay : w.delay ≤ 4

abbrev pub FitsJob : Job → Type 0
FitsJob (Load signed side register) = register < 32
FitsJob (Store value) = value < 2 ^ 32

-- An access of 1, 2 or 4 bytes.
pub record FitsAccess (m : MemOp) : Type 0 where
  pub address : m.address < 2 ^ 32
  pub size : (m.size ≡ 1) ⊎ (m.size ≡ 2) ⊎ (m.size ≡ 4)
  pub job : FitsJob m.job

-- The bounds of what an instruction does.
pub record FitsEffects (e : Effects) : Type 0 where
  pub result : IfSome e.result FitsWrite
  pub update : IfSome e.update FitsWrite
  pub access : IfSome e.access FitsAccess
  pub target : IfSome e.target (λ address. address < 2 ^ 32)
  pub wait : e.wait ≤ 8
