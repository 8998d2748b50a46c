-- The lines of the sources that a number generates, written of parts.
use Rattle.std.specs.Prelude.{ℕ, List, [], ◌∷◌, codes}
use Rattle.c6x_dis.specs.Parts.{Part, number, punctuator, quoted, space, word}
use Rattle.c6x_gen.specs.Lists.{each_below}
use Rattle.c6x_gen.specs.Sources.{called, library_name}

-- a line that is indented
abbrev pub indented : List Part → List Part
indented parts = space ∷ space ∷ space ∷ space ∷ space ∷ space ∷ space ∷ space ∷ parts

-- `.sect` and a name
abbrev pub section_line : List ℕ → List Part
section_line name = indented (word (codes ".sect") ∷ space ∷ quoted name ∷ [])

-- `.global` and a name
abbrev pub global_line : List ℕ → List Part
global_line name = indented (word (codes ".global") ∷ space ∷ word name ∷ [])

-- a line with a label
abbrev pub labelled_line : List ℕ → List Part → List Part
labelled_line name parts = word name ∷ punctuator 58 ∷ space ∷ space ∷ parts

-- `STW .D2T2 register,*B15--[2]`
abbrev pub push : List ℕ → List Part
push register =
    word (codes "STW") ∷ space ∷ word (codes ".D2T2") ∷ space ∷ word register ∷ punctuator 44 ∷ punctuator 42 ∷ word (codes "B15")
    ∷ punctuator 45 ∷ punctuator 45 ∷ punctuator 91 ∷ number (codes "2") ∷ punctuator 93 ∷ []

-- `LDW .D2T2 *++B15[2],register`
abbrev pub pop : List ℕ → List Part
pop register =
    word (codes "LDW") ∷ space ∷ word (codes ".D2T2") ∷ space ∷ punctuator 42 ∷ punctuator 43 ∷ punctuator 43 ∷ word (codes "B15")
    ∷ punctuator 91 ∷ number (codes "2") ∷ punctuator 93 ∷ punctuator 44 ∷ word register ∷ []

abbrev pub wait : List Part
wait = word (codes "NOP") ∷ space ∷ number (codes "4") ∷ []

abbrev pub go_back : List Part
go_back = word (codes "BNOP") ∷ space ∷ word (codes ".S2") ∷ space ∷ word (codes "B3") ∷ punctuator 44 ∷ number (codes "5") ∷ []

abbrev pub call : List ℕ → List Part
call name = word (codes "CALLP") ∷ space ∷ word (codes ".S2") ∷ space ∷ word name ∷ punctuator 44 ∷ word (codes "B3") ∷ []

-- `*+B14(count)`
abbrev pub at_count : List Part → List Part
at_count parts = punctuator 42 ∷ punctuator 43 ∷ word (codes "B14") ∷ punctuator 40 ∷ word (codes "count") ∷ punctuator 41 ∷ parts

abbrev pub load_table : List Part
load_table =
    word (codes "LDW") ∷ space ∷ word (codes ".D2T2") ∷ space ∷ punctuator 42 ∷ punctuator 43 ∷ word (codes "B14") ∷ punctuator 40
    ∷ punctuator 37 ∷ word (codes "dsbt_index") ∷ punctuator 41 ∷ punctuator 44 ∷ word (codes "B14") ∷ []

abbrev pub load_count : List Part
load_count = word (codes "LDW") ∷ space ∷ word (codes ".D2T1") ∷ space ∷ at_count (punctuator 44 ∷ word (codes "A5") ∷ [])

abbrev pub add_count : List Part
add_count =
    word (codes "ADD") ∷ space ∷ word (codes ".L1") ∷ space ∷ word (codes "A4") ∷ punctuator 44 ∷ word (codes "A5") ∷ punctuator 44 ∷ word (codes "A4") ∷ []

abbrev pub store_count : List Part
store_count = word (codes "STW") ∷ space ∷ word (codes ".D2T1") ∷ space ∷ word (codes "A4") ∷ punctuator 44 ∷ at_count []

abbrev pub count_word : List ℕ → List Part
count_word digits = word (codes ".word") ∷ space ∷ number digits ∷ []

-- the lines of the executable, behind the first: its name, the calls and the way back
abbrev pub naming_lines : List (List Part)
naming_lines = global_line (codes "start") ∷ labelled_line (codes "start") (push (codes "B3")) ∷ []

abbrev pub opening_lines : List (List Part)
opening_lines = section_line (codes ".text") ∷ naming_lines

abbrev pub call_line : ℕ → ℕ → List Part
call_line n line = indented (call (library_name (called n line)))

abbrev pub call_lines : ℕ → ℕ → List (List Part)
call_lines n count = each_below count (λ line. call_line n line ∷ [])

abbrev pub closing_lines : List (List Part)
closing_lines = indented (pop (codes "B3")) ∷ indented wait ∷ indented go_back ∷ []

-- the lines of a library whose function has this name and whose counter has these digits, behind the first
abbrev pub library_behind : List ℕ → List ℕ → List (List Part)
library_behind name digits =
    global_line name ∷ labelled_line name (push (codes "B14"))
    ∷ indented load_table ∷ indented wait ∷ indented load_count ∷ indented wait ∷ indented add_count ∷ indented store_count
    ∷ indented (pop (codes "B14")) ∷ indented go_back
    ∷ section_line (codes ".neardata") ∷ labelled_line (codes "count") (count_word digits) ∷ []

abbrev pub library_lines : List ℕ → List ℕ → List (List Part)
library_lines name digits = section_line (codes ".text") ∷ library_behind name digits
