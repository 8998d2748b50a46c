-- The words of a shown line are words, of the classes that the grammar asks for.
use Rattle.std.proofs.Common.{◌≡◌, ℕ, true, false, ◌∷◌, refl}
use Rattle.c6x_base.specs.declared.side.Side.TheVariants.{A, B}
use Rattle.c6x_base.specs.declared.side.Side.{Side}
use Rattle.c6x_encoding.specs.declared.access.Access.TheVariants.{Ldhu, Ldbu, Ldb, Stb, Ldh, Sth, Ldw, Stw}
use Rattle.c6x_encoding.specs.declared.arith.Arith.TheVariants.{Add, Sub, And, Or, Xor, CmpEq, CmpGt, CmpLt, CmpGtu, CmpLtu, Shl, Shr, Shru, Mpy, Mpyu}
use Rattle.c6x_encoding.specs.declared.cond_reg.CondReg.{CondReg}
use Rattle.c6x_encoding.specs.declared.cond_reg.CondReg.TheVariants.{B0, B1, B2, A1, A2, A0}
use Rattle.c6x_encoding.specs.declared.move_kind.MoveKind.TheVariants.{Mvk, Mvkh, Addk}
use Rattle.c6x_encoding.specs.declared.unit_kind.UnitKind.{UnitKind}
use Rattle.c6x_encoding.specs.declared.unit_kind.UnitKind.TheVariants.{L, S, D, M}
use Rattle.c6x_asm_lines.specs.Lexemes.{class_of, register_of}
use Rattle.c6x_asm_lines.specs.declared.word.WordClass.TheVariants.{Register as RegisterClass, Dotted, Nop as NopClass, Other}
use Rattle.c6x_asm_lines.specs.Spelling.{tested}
use Rattle.c6x_asm_lines.specs.OperandNames.{mnemonic_name}
use Rattle.c6x_asm_lines.specs.declared.data_path.DataPath.{DataPath}
use Rattle.c6x_asm_lines.specs.declared.data_path.DataPath.TheVariants.{Own, Cross, Value as ValuePath}
use Rattle.c6x_asm_lines.specs.declared.mnemonic.Mnemonic.{Mnemonic}
use Rattle.c6x_asm_lines.specs.declared.mnemonic.Mnemonic.TheVariants.{Two, Move, B as BranchTo, Bnop, Callp, AddKpc, Nop, Memory}
use Rattle.c6x_asm_lines.specs.declared.unit.Unit.{Unit as AsmUnit}
use Rattle.c6x_asm_instr.specs.Instructions.{is_nop}
use Rattle.c6x_dis.specs.Pieces.{is_word}
use Rattle.c6x_dis.specs.Shown.{path_bytes, side_digit, tested_word, unit_letter, unit_word}

pub tested_class : (r : CondReg) → class_of (tested_word r) ≡ RegisterClass (tested r)
unfolding class_of register_of
tested_class B0 = refl
tested_class B1 = refl
tested_class B2 = refl
tested_class A1 = refl
tested_class A2 = refl
tested_class A0 = refl

pub tested_token : (r : CondReg) → is_word (tested_word r) ≡ true
tested_token B0 = refl
tested_token B1 = refl
tested_token B2 = refl
tested_token A1 = refl
tested_token A2 = refl
tested_token A0 = refl

dotted : (kind side : ℕ) (path : DataPath) → class_of (46 ∷ kind ∷ side ∷ path_bytes path) ≡ Dotted
unfolding class_of register_of
dotted kind side Own = refl
dotted kind side Cross = refl
dotted kind side (ValuePath value) = refl

pub unit_class : (unit : AsmUnit) → class_of (unit_word unit) ≡ Dotted
unit_class unit = dotted (unit_letter unit.kind) (side_digit unit.side) unit.path

path_token : (kind : UnitKind) (side : Side) (path : DataPath) → is_word (46 ∷ unit_letter kind ∷ side_digit side ∷ path_bytes path) ≡ true
path_token L A Own = refl
path_token L A Cross = refl
path_token L A (ValuePath A) = refl
path_token L A (ValuePath B) = refl
path_token L B Own = refl
path_token L B Cross = refl
path_token L B (ValuePath A) = refl
path_token L B (ValuePath B) = refl
path_token S A Own = refl
path_token S A Cross = refl
path_token S A (ValuePath A) = refl
path_token S A (ValuePath B) = refl
path_token S B Own = refl
path_token S B Cross = refl
path_token S B (ValuePath A) = refl
path_token S B (ValuePath B) = refl
path_token D A Own = refl
path_token D A Cross = refl
path_token D A (ValuePath A) = refl
path_token D A (ValuePath B) = refl
path_token D B Own = refl
path_token D B Cross = refl
path_token D B (ValuePath A) = refl
path_token D B (ValuePath B) = refl
path_token M A Own = refl
path_token M A Cross = refl
path_token M A (ValuePath A) = refl
path_token M A (ValuePath B) = refl
path_token M B Own = refl
path_token M B Cross = refl
path_token M B (ValuePath A) = refl
path_token M B (ValuePath B) = refl

pub unit_token : (unit : AsmUnit) → is_word (unit_word unit) ≡ true
unit_token unit = path_token unit.kind unit.side unit.path

-- a mnemonic's name is a word, and is of the class Nop exactly where it is NOP
pub record IsNamed (m : Mnemonic) : Type 0 where
  pub token : is_word (mnemonic_name m) ≡ true
  pub other : is_nop m ≡ false → class_of (mnemonic_name m) ≡ Other

pub mnemonic_named : (m : Mnemonic) → IsNamed m
unfolding class_of register_of
mnemonic_named (Two Add) = record { token = refl; other = λ is. refl }
mnemonic_named (Two Sub) = record { token = refl; other = λ is. refl }
mnemonic_named (Two And) = record { token = refl; other = λ is. refl }
mnemonic_named (Two Or) = record { token = refl; other = λ is. refl }
mnemonic_named (Two Xor) = record { token = refl; other = λ is. refl }
mnemonic_named (Two CmpEq) = record { token = refl; other = λ is. refl }
mnemonic_named (Two CmpGt) = record { token = refl; other = λ is. refl }
mnemonic_named (Two CmpLt) = record { token = refl; other = λ is. refl }
mnemonic_named (Two CmpGtu) = record { token = refl; other = λ is. refl }
mnemonic_named (Two CmpLtu) = record { token = refl; other = λ is. refl }
mnemonic_named (Two Shl) = record { token = refl; other = λ is. refl }
mnemonic_named (Two Shr) = record { token = refl; other = λ is. refl }
mnemonic_named (Two Shru) = record { token = refl; other = λ is. refl }
mnemonic_named (Two Mpy) = record { token = refl; other = λ is. refl }
mnemonic_named (Two Mpyu) = record { token = refl; other = λ is. refl }
mnemonic_named (Move Mvk) = record { token = refl; other = λ is. refl }
mnemonic_named (Move Mvkh) = record { token = refl; other = λ is. refl }
mnemonic_named (Move Addk) = record { token = refl; other = λ is. refl }
mnemonic_named BranchTo = record { token = refl; other = λ is. refl }
mnemonic_named Bnop = record { token = refl; other = λ is. refl }
mnemonic_named Callp = record { token = refl; other = λ is. refl }
mnemonic_named AddKpc = record { token = refl; other = λ is. refl }
mnemonic_named (Memory Ldhu) = record { token = refl; other = λ is. refl }
mnemonic_named (Memory Ldbu) = record { token = refl; other = λ is. refl }
mnemonic_named (Memory Ldb) = record { token = refl; other = λ is. refl }
mnemonic_named (Memory Stb) = record { token = refl; other = λ is. refl }
mnemonic_named (Memory Ldh) = record { token = refl; other = λ is. refl }
mnemonic_named (Memory Sth) = record { token = refl; other = λ is. refl }
mnemonic_named (Memory Ldw) = record { token = refl; other = λ is. refl }
mnemonic_named (Memory Stw) = record { token = refl; other = λ is. refl }
mnemonic_named Nop = record { token = refl; other = λ is. absurd (wrong is) }
  where
    wrong : true ≡ false → ⊥
    wrong is = cc

pub nop_class : class_of (mnemonic_name Nop) ≡ NopClass
unfolding class_of register_of
nop_class = refl

pub nop_named : (m : Mnemonic) → is_nop m ≡ true → m ≡ Nop
nop_named Nop is = refl
nop_named _ is = absurd (wrong is)
  where
    wrong : false ≡ true → ⊥
    wrong is = cc
