-- The names of mnemonics, units and relocation kinds (SPRU732, SPRAB89; the spelling of units is TI's, that of kinds is
-- this project's own).
use Rattle.std.specs.Prelude.{ℕ, ◌==◌, ◌||◌, Bool, if◌then◌else◌, List, [], ◌∷◌, Option, Some, None, codes}
use Rattle.std.specs.Option.{option_map}
use Rattle.std.specs.Str.{bytes_eq, str_eq_ignore_ascii_case}
use Rattle.c6x_base.specs.declared.side.Side.{Side}
use Rattle.c6x_base.specs.declared.side.Side.TheVariants.{A, B}
use Rattle.c6x_encoding.specs.declared.access.Access.{Access}
use Rattle.c6x_encoding.specs.declared.access.Access.TheVariants.{Ldhu, Ldbu, Ldb, Stb, Ldh, Sth, Ldw, Stw}
use Rattle.c6x_encoding.specs.declared.arith.Arith.{Arith}
use Rattle.c6x_encoding.specs.declared.arith.Arith.TheVariants.{Add, Sub, And, Or, Xor, CmpEq, CmpGt, CmpLt, CmpGtu, CmpLtu, Shl, Shr, Shru, Mpy, Mpyu}
use Rattle.c6x_encoding.specs.declared.move_kind.MoveKind.{MoveKind}
use Rattle.c6x_encoding.specs.declared.move_kind.MoveKind.TheVariants.{Mvk, Mvkh, Addk}
use Rattle.c6x_encoding.specs.declared.unit_kind.UnitKind.{UnitKind}
use Rattle.c6x_encoding.specs.declared.unit_kind.UnitKind.TheVariants.{L, S, D, M}
use Rattle.c6x_asm_lines.specs.Names.{first_named}
use Rattle.c6x_reloc.specs.Table.{kinds}
use Rattle.c6x_reloc.specs.declared.reloc_kind.RelocKind.{RelocKind}
use Rattle.c6x_reloc.specs.declared.reloc_kind.RelocKind.TheVariants.{NONE, ABS32, ABS16, ABS8, PCR_S21, PCR_S12, PCR_S7, ABS_S16, ABS_L16, ABS_H16, SBR_U15_B, SBR_U15_H, SBR_U15_W, SBR_S16, SBR_L16_B, SBR_L16_H, SBR_L16_W, SBR_H16_B, SBR_H16_H, SBR_H16_W, SBR_GOT_U15_W, SBR_GOT_L16_W, SBR_GOT_H16_W, DSBT_INDEX, JUMP_SLOT, ALIGN, FPHEAD, NOCMP}
use Rattle.c6x_asm_lines.specs.declared.mnemonic.Mnemonic.{Mnemonic}
use Rattle.c6x_asm_lines.specs.declared.mnemonic.Mnemonic.TheVariants.{Two, Move, B as BranchTo, Bnop, Callp, AddKpc, Nop, Memory}
use Rattle.c6x_asm_lines.specs.declared.data_path.DataPath.{DataPath}
use Rattle.c6x_asm_lines.specs.declared.data_path.DataPath.TheVariants.{Own, Cross, Value}
use Rattle.c6x_asm_lines.specs.declared.unit.Unit.{Unit}

abbrev pub arith_name : Arith → List ℕ
arith_name Add = codes "ADD"
arith_name Sub = codes "SUB"
arith_name And = codes "AND"
arith_name Or = codes "OR"
arith_name Xor = codes "XOR"
arith_name CmpEq = codes "CMPEQ"
arith_name CmpGt = codes "CMPGT"
arith_name CmpLt = codes "CMPLT"
arith_name CmpGtu = codes "CMPGTU"
arith_name CmpLtu = codes "CMPLTU"
arith_name Shl = codes "SHL"
arith_name Shr = codes "SHR"
arith_name Shru = codes "SHRU"
arith_name Mpy = codes "MPY"
arith_name Mpyu = codes "MPYU"

abbrev pub move_name : MoveKind → List ℕ
move_name Mvk = codes "MVK"
move_name Mvkh = codes "MVKH"
move_name Addk = codes "ADDK"

abbrev pub access_name : Access → List ℕ
access_name Ldhu = codes "LDHU"
access_name Ldbu = codes "LDBU"
access_name Ldb = codes "LDB"
access_name Stb = codes "STB"
access_name Ldh = codes "LDH"
access_name Sth = codes "STH"
access_name Ldw = codes "LDW"
access_name Stw = codes "STW"

abbrev pub mnemonic_name : Mnemonic → List ℕ
mnemonic_name (Two arith) = arith_name arith
mnemonic_name (Move kind) = move_name kind
mnemonic_name BranchTo = codes "B"
mnemonic_name Bnop = codes "BNOP"
mnemonic_name Callp = codes "CALLP"
mnemonic_name AddKpc = codes "ADDKPC"
mnemonic_name Nop = codes "NOP"
mnemonic_name (Memory access) = access_name access

abbrev pub mnemonics : List Mnemonic
mnemonics =
    Two Add ∷ Two Sub ∷ Two And ∷ Two Or ∷ Two Xor ∷ Two CmpEq ∷ Two CmpGt ∷ Two CmpLt ∷ Two CmpGtu ∷ Two CmpLtu
    ∷ Two Shl ∷ Two Shr ∷ Two Shru ∷ Two Mpy ∷ Two Mpyu ∷ Move Mvk ∷ Move Mvkh ∷ Move Addk
    ∷ BranchTo ∷ Bnop ∷ Callp ∷ AddKpc ∷ Nop
    ∷ Memory Ldhu ∷ Memory Ldbu ∷ Memory Ldb ∷ Memory Stb ∷ Memory Ldh ∷ Memory Sth ∷ Memory Ldw ∷ Memory Stw ∷ []

-- the mnemonic with this name, in either case
unfoldable pub mnemonic_of : List ℕ → Option Mnemonic
mnemonic_of word = first_named (λ m w. str_eq_ignore_ascii_case w (mnemonic_name m)) mnemonics word

abbrev pub kind_name : RelocKind → List ℕ
kind_name NONE = codes "none"
kind_name ABS32 = codes "abs32"
kind_name ABS16 = codes "abs16"
kind_name ABS8 = codes "abs8"
kind_name PCR_S21 = codes "pcr_s21"
kind_name PCR_S12 = codes "pcr_s12"
kind_name PCR_S7 = codes "pcr_s7"
kind_name ABS_S16 = codes "abs_s16"
kind_name ABS_L16 = codes "abs_l16"
kind_name ABS_H16 = codes "abs_h16"
kind_name SBR_U15_B = codes "sbr_u15_b"
kind_name SBR_U15_H = codes "sbr_u15_h"
kind_name SBR_U15_W = codes "sbr_u15_w"
kind_name SBR_S16 = codes "sbr_s16"
kind_name SBR_L16_B = codes "sbr_l16_b"
kind_name SBR_L16_H = codes "sbr_l16_h"
kind_name SBR_L16_W = codes "sbr_l16_w"
kind_name SBR_H16_B = codes "sbr_h16_b"
kind_name SBR_H16_H = codes "sbr_h16_h"
kind_name SBR_H16_W = codes "sbr_h16_w"
kind_name SBR_GOT_U15_W = codes "sbr_got_u15_w"
kind_name SBR_GOT_L16_W = codes "sbr_got_l16_w"
kind_name SBR_GOT_H16_W = codes "sbr_got_h16_w"
kind_name DSBT_INDEX = codes "dsbt_index"
kind_name JUMP_SLOT = codes "jump_slot"
kind_name ALIGN = codes "align"
kind_name FPHEAD = codes "fphead"
kind_name NOCMP = codes "nocmp"

-- the relocation kind with this lower-case name
unfoldable pub kind_of : List ℕ → Option RelocKind
kind_of word = first_named (λ k w. bytes_eq w (kind_name k)) kinds word

-- a letter in either case
abbrev pub is_letter : ℕ → ℕ → ℕ → Bool
is_letter upper lower b = b == upper || b == lower

abbrev pub unit_side : ℕ → Option Side
unit_side b = if b == 49 then Some A else if b == 50 then Some B else None

-- `L`, `S`, `M`, whose words may end in `X`
abbrev pub crossing_kind : ℕ → Option UnitKind
crossing_kind b = if is_letter 76 108 b then Some L else if is_letter 83 115 b then Some S else if is_letter 77 109 b then Some M else None

abbrev pub unit_kind : ℕ → Option UnitKind
unit_kind b = if is_letter 68 100 b then Some D else crossing_kind b

abbrev pub unit_with : Option UnitKind → Option Side → Option DataPath → Option Unit
unit_with (Some kind) (Some side) (Some path) = Some (record { kind = kind; side = side; path = path })
unit_with _ _ _ = None

abbrev pub memory_kind : ℕ → Option UnitKind
memory_kind b = if is_letter 68 100 b then Some D else None

abbrev pub cross_path : ℕ → Option DataPath
cross_path x = if is_letter 88 120 x then Some Cross else None

abbrev pub value_path : ℕ → ℕ → Option DataPath
value_path t value = if is_letter 84 116 t then option_map (λ (v : Side). Value v) (unit_side value) else None

-- `.L1` to `.M2`; `.L1X` and the like; `.D1T2` and the like; in either case
unfoldable pub unit_of : List ℕ → Option Unit
unit_of (dot ∷ kind ∷ side ∷ []) = if dot == 46 then unit_with (unit_kind kind) (unit_side side) (Some Own) else None
unit_of (dot ∷ kind ∷ side ∷ x ∷ []) = if dot == 46 then unit_with (crossing_kind kind) (unit_side side) (cross_path x) else None
unit_of (dot ∷ kind ∷ side ∷ t ∷ value ∷ []) = if dot == 46 then unit_with (memory_kind kind) (unit_side side) (value_path t value) else None
unit_of _ = None
