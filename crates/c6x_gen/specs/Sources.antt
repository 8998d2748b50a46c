-- The sources that a number generates: an executable whose lines call libraries, and libraries that each add a number of
-- their own to what they are given, and keep the sum in its place (C6000 EABI, DSBT model).
use Rattle.std.specs.Prelude.{ℕ, ◌+◌, ◌*◌, ◌%◌, List, ◌++◌, codes, decimal}
use Rattle.c6x_gen.specs.Lists.{each_below}

-- Library `library` has this name, as a module, as a file and as a function.
abbrev pub library_name : ℕ → List ℕ
library_name library = codes "f" ++ decimal library

-- How many lines of the executable call, and the library that each calls.
abbrev pub calls : ℕ → ℕ
calls number = 1 + number % 1000

abbrev pub called : ℕ → ℕ → ℕ
called number line = 1 + (number + 3 * line) % 11

abbrev pub call_line : ℕ → ℕ → List ℕ
call_line number line = codes "        CALLP .S2 " ++ library_name (called number line) ++ codes ",B3\n"

-- The executable saves B3, calls, and goes back.
abbrev pub opening : List ℕ
opening =
    codes "        .sect \".text\"\n"
    ++ codes "        .global start\n"
    ++ codes "start:  STW .D2T2 B3,*B15--[2]\n"

abbrev pub closing : List ℕ
closing =
    codes "        LDW .D2T2 *++B15[2],B3\n"
    ++ codes "        NOP 4\n"
    ++ codes "        BNOP .S2 B3,5\n"

unfoldable pub app_source : ℕ → List ℕ
app_source number = opening ++ each_below (calls number) (call_line number) ++ closing

-- A library finds its own data through its slot of the caller's table, adds its counter, and keeps the sum there.
abbrev pub function_code : List ℕ
function_code =
    codes ":  STW .D2T2 B14,*B15--[2]\n"
    ++ codes "        LDW .D2T2 *+B14(%dsbt_index),B14\n"
    ++ codes "        NOP 4\n"
    ++ codes "        LDW .D2T1 *+B14(count),A5\n"
    ++ codes "        NOP 4\n"
    ++ codes "        ADD .L1 A4,A5,A4\n"
    ++ codes "        STW .D2T1 A4,*+B14(count)\n"
    ++ codes "        LDW .D2T2 *++B15[2],B14\n"
    ++ codes "        BNOP .S2 B3,5\n"
    ++ codes "        .sect \".neardata\"\n"
    ++ codes "count:  .word "

abbrev pub counter : ℕ → ℕ → ℕ
counter number library = number * library % 1000

unfoldable pub library_source : ℕ → ℕ → List ℕ
library_source number library =
    codes "        .sect \".text\"\n        .global " ++ library_name library ++ codes "\n"
    ++ library_name library ++ function_code ++ decimal (counter number library) ++ codes "\n"
