-- The words of the instructions of the generated sources.
use Rattle.std.specs.Prelude.{ℕ}

-- `CALLP .S2 name,B3`, whose field its relocation fills
abbrev pub CALL : ℕ
CALL = 0x10000012

-- `STW .D2T2 B3,*B15--[2]` and `LDW .D2T2 *++B15[2],B3`
abbrev pub PUSH_B3 : ℕ
PUSH_B3 = 0x01BC54F6

abbrev pub POP_B3 : ℕ
POP_B3 = 0x01BC52E6

-- the same of B14
abbrev pub PUSH_B14 : ℕ
PUSH_B14 = 0x073C54F6

abbrev pub POP_B14 : ℕ
POP_B14 = 0x073C52E6

-- `NOP 4`
abbrev pub WAIT : ℕ
WAIT = 0x6000

-- `BNOP .S2 B3,5`
abbrev pub GO_BACK : ℕ
GO_BACK = 0x008CA362

-- `LDW .D2T2 *+B14(%dsbt_index),B14`
abbrev pub LOAD_TABLE : ℕ
LOAD_TABLE = 0x0700006E

-- `LDW .D2T1 *+B14(count),A5`
abbrev pub LOAD_COUNT : ℕ
LOAD_COUNT = 0x0280006C

-- `ADD .L1 A4,A5,A4`
abbrev pub ADD_COUNT : ℕ
ADD_COUNT = 0x02148078

-- `STW .D2T1 A4,*+B14(count)`
abbrev pub STORE_COUNT : ℕ
STORE_COUNT = 0x0200007C
