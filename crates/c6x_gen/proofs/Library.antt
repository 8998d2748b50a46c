-- The source of a library is assembled: its lines one after the other.
use Rattle.std.proofs.Common.{◌≡◌, ℕ, ◌≤◌, take, false, List, [], ◌∷◌, length, Option, Some, None, Ok, codes, refl, arith}
use Rattle.std.proofs.lemmas.Bool.{leb-true}
use Rattle.c6x_base.specs.declared.side.Side.TheVariants.{A, B}
use Rattle.c6x_encoding.specs.declared.access.Access.TheVariants.{Ldw, Stw}
use Rattle.c6x_encoding.specs.declared.arith.Arith.TheVariants.{Add}
use Rattle.c6x_encoding.specs.declared.first.First.TheVariants.{Register as FirstRegister}
use Rattle.c6x_encoding.specs.declared.op.Op.TheVariants.{Two as TwoOp, BranchRegNop as BranchRegNopOp, Nop as NopOp, Short as ShortOp, Long as LongOp}
use Rattle.c6x_encoding.specs.declared.unit_kind.UnitKind.TheVariants.{L}
use Rattle.c6x_asm_object.specs.Sections.{empty_section}
use Rattle.c6x_asm_object.specs.declared.asm_section.AsmSection.{AsmSection}
use Rattle.c6x_asm_object.specs.declared.definition.Definition.{Definition}
use Rattle.c6x_asm_object.specs.declared.symbol.Symbol.{Symbol}
use Rattle.c6x_asm.specs.Lines.{lined}
use Rattle.c6x_asm.specs.Reading.{nothing}
use Rattle.c6x_dis.specs.Parts.{lexemes_at, LinesAreAt, text_of}
use Rattle.c6x_gen.proofs.Lines.{add_count, global_line, go_back, indented, labelled_line, library_lines, load_count, load_table, pop, push, section_line, store_count, wait}
use Rattle.c6x_gen.proofs.Alone.{stands_alone}
use Rattle.c6x_gen.proofs.Grown.{grown_light, IsGrown, IsMade, lined_so, Made, made_code, made_lined, next, next_made, one_small, state_of}
use Rattle.c6x_gen.proofs.Openings.{given, global_place, global_step, in_text, push_b14_step, section_step, text_section}
use Rattle.c6x_gen.proofs.Read.{end_of}
use Rattle.c6x_gen.proofs.Steps.{add_count_step, count_relocation, go_back_step, in_code, index_relocation, IsCode, IsName, load_count_step, load_place, load_table_step, pop_b14_step, store_count_step, store_place, wait_step}
use Rattle.c6x_gen.specs.Words.{ADD_COUNT, GO_BACK, LOAD_COUNT, LOAD_TABLE, POP_B14, PUSH_B14, STORE_COUNT, WAIT}
use Rattle.c6x_gen.proofs.Words.{add_count_word, go_back_word, load_count_word, load_table_word, pop_b14_word, push_b14_word, store_count_word, wait_word}

abbrev pub text : List ℕ → List ℕ → List ℕ
text name digits = text_of (library_lines name digits)

-- where the line behind so many starts
abbrev pub place : List ℕ → List ℕ → ℕ → ℕ
place name digits count = end_of 0 (take count (library_lines name digits))

abbrev pub AreFound : List ℕ → List ℕ → Type 0
AreFound name digits = LinesAreAt (text name digits) 0 (library_lines name digits)

-- the function's name
abbrev pub function : List ℕ → List ℕ → Option Definition → Symbol
function name digits definition = given (global_place (place name digits 1)) (length name) definition

abbrev pub begun : AsmSection
begun = text_section 0

pub begun_grown : IsGrown 0 begun
unfolding empty_section
begun_grown = record { at = refl; kind = refl; align = refl; len = refl; size = refl; bytes = refl; entries = omega arith; alone = tt }

pub begun_code : IsCode begun
unfolding empty_section
begun_code = record { kind = refl; even = refl; room = refl }

-- the section of code behind each of its lines
abbrev labelled_so : List ℕ → List ℕ → Made
labelled_so name digits = record { section = begun; names = function name digits (in_text begun.size) ∷ [] }

unfoldable pub after_push : List ℕ → List ℕ → Made
after_push name digits = next (text name digits) 3 PUSH_B14 None (labelled_so name digits)

unfoldable pub after_table : List ℕ → List ℕ → Made
after_table name digits = next (text name digits) 4 LOAD_TABLE (Some index_relocation) (after_push name digits)

unfoldable pub after_first_wait : List ℕ → List ℕ → Made
after_first_wait name digits = next (text name digits) 5 WAIT None (after_table name digits)

unfoldable pub after_load : List ℕ → List ℕ → Made
after_load name digits = next (text name digits) 6 LOAD_COUNT (Some (count_relocation (load_place (place name digits 5)))) (after_first_wait name digits)

unfoldable pub after_second_wait : List ℕ → List ℕ → Made
after_second_wait name digits = next (text name digits) 7 WAIT None (after_load name digits)

unfoldable pub after_add : List ℕ → List ℕ → Made
after_add name digits = next (text name digits) 8 ADD_COUNT None (after_second_wait name digits)

unfoldable pub after_store : List ℕ → List ℕ → Made
after_store name digits = next (text name digits) 9 STORE_COUNT (Some (count_relocation (store_place (place name digits 8)))) (after_add name digits)

unfoldable pub after_pop : List ℕ → List ℕ → Made
after_pop name digits = next (text name digits) 10 POP_B14 None (after_store name digits)

unfoldable pub after_back : List ℕ → List ℕ → Made
after_back name digits = next (text name digits) 11 GO_BACK None (after_pop name digits)

pub short_name : (name : List ℕ) → IsName name → length name ≤ 64
short_name name is = leb-true (length name) 64 is.short

after_push_made : (name digits : List ℕ) → IsName name → IsMade 1 (after_push name digits)
unfolding after_push
after_push_made name digits is =
    next_made (text name digits) 3 PUSH_B14 None 0 (labelled_so name digits)
    (record { grown = begun_grown; names = record { short = (short_name name is, tt); few = omega arith } })
    tt (stands_alone (ShortOp Stw B B 10 2 15 14) PUSH_B14 refl push_b14_word)

after_table_made : (name digits : List ℕ) → IsName name → IsMade 2 (after_table name digits)
unfolding after_table
after_table_made name digits is = next_made (text name digits) 4 LOAD_TABLE (Some index_relocation) 1 (after_push name digits) (after_push_made name digits is) tt (stands_alone (LongOp Ldw B false 0 14) LOAD_TABLE refl load_table_word)

after_first_wait_made : (name digits : List ℕ) → IsName name → IsMade 3 (after_first_wait name digits)
unfolding after_first_wait
after_first_wait_made name digits is = next_made (text name digits) 5 WAIT None 2 (after_table name digits) (after_table_made name digits is) tt (stands_alone (NopOp 4) WAIT refl wait_word)

after_load_made : (name digits : List ℕ) → IsName name → IsMade 4 (after_load name digits)
unfolding after_load
after_load_made name digits is = next_made (text name digits) 6 LOAD_COUNT (Some (count_relocation (load_place (place name digits 5)))) 3 (after_first_wait name digits) (after_first_wait_made name digits is) (omega arith) (stands_alone (LongOp Ldw A false 0 5) LOAD_COUNT refl load_count_word)

after_second_wait_made : (name digits : List ℕ) → IsName name → IsMade 5 (after_second_wait name digits)
unfolding after_second_wait
after_second_wait_made name digits is = next_made (text name digits) 7 WAIT None 4 (after_load name digits) (after_load_made name digits is) tt (stands_alone (NopOp 4) WAIT refl wait_word)

after_add_made : (name digits : List ℕ) → IsName name → IsMade 6 (after_add name digits)
unfolding after_add
after_add_made name digits is = next_made (text name digits) 8 ADD_COUNT None 5 (after_second_wait name digits) (after_second_wait_made name digits is) tt (stands_alone (TwoOp L Add A false (FirstRegister 4) 5 4) ADD_COUNT refl add_count_word)

after_store_made : (name digits : List ℕ) → IsName name → IsMade 7 (after_store name digits)
unfolding after_store
after_store_made name digits is = next_made (text name digits) 9 STORE_COUNT (Some (count_relocation (store_place (place name digits 8)))) 6 (after_add name digits) (after_add_made name digits is) (omega arith) (stands_alone (LongOp Stw A false 0 4) STORE_COUNT refl store_count_word)

after_pop_made : (name digits : List ℕ) → IsName name → IsMade 8 (after_pop name digits)
unfolding after_pop
after_pop_made name digits is = next_made (text name digits) 10 POP_B14 None 7 (after_store name digits) (after_store_made name digits is) tt (stands_alone (ShortOp Ldw B B 9 2 15 14) POP_B14 refl pop_b14_word)

pub after_back_made : (name digits : List ℕ) → IsName name → IsMade 9 (after_back name digits)
unfolding after_back
after_back_made name digits is = next_made (text name digits) 11 GO_BACK None 8 (after_pop name digits) (after_pop_made name digits is) tt (stands_alone (BranchRegNopOp false 3 5) GO_BACK refl go_back_word)

-- each line is taken
pub section_taken : (name digits : List ℕ) → AreFound name digits → lined (text name digits) 1 (lexemes_at 0 (section_line (codes ".text"))) nothing ≡ Ok (in_code begun [])
section_taken name digits found =
    lined_so (text name digits) 1 (lexemes_at 0 (section_line (codes ".text"))) nothing (in_code begun []) (section_step (text name digits) 0 1 found.0)
    (one_small (text name digits) begun [] 0 (grown_light 0 begun begun_grown (omega arith)) (record { short = tt; few = omega arith }) (omega arith)) (omega arith)

pub global_taken : (name digits : List ℕ) → AreFound name digits → IsName name → lined (text name digits) 2 (lexemes_at (place name digits 1) (global_line name)) (in_code begun []) ≡ Ok (in_code begun (function name digits None ∷ []))
global_taken name digits found is =
    lined_so (text name digits) 2 (lexemes_at (place name digits 1) (global_line name)) (in_code begun []) (in_code begun (function name digits None ∷ []))
    (global_step (text name digits) (place name digits 1) 2 name begun found.1.0 is)
    (one_small (text name digits) begun (function name digits None ∷ []) 1 (grown_light 0 begun begun_grown (omega arith)) (record { short = (short_name name is, tt); few = omega arith }) (omega arith)) (omega arith)

pub push_taken : (name digits : List ℕ) → AreFound name digits → IsName name → lined (text name digits) 3 (lexemes_at (place name digits 2) (labelled_line name (push (codes "B14")))) (in_code begun (function name digits None ∷ [])) ≡ Ok (state_of (after_push name digits))
unfolding after_push
push_taken name digits found is =
    made_lined (text name digits) 3 (lexemes_at (place name digits 2) (labelled_line name (push (codes "B14")))) (in_code begun (function name digits None ∷ [])) 1 (after_push name digits)
    (push_b14_step (text name digits) (place name digits 2) (global_place (place name digits 1)) 3 name begun found.1.1.0 found.1.0.1.0 is begun_code)
    (after_push_made name digits is) (omega arith) (omega arith)

pub table_taken : (name digits : List ℕ) → AreFound name digits → IsName name → lined (text name digits) 4 (lexemes_at (place name digits 3) (indented load_table)) (state_of (after_push name digits)) ≡ Ok (state_of (after_table name digits))
unfolding after_table
table_taken name digits found is =
    made_lined (text name digits) 4 (lexemes_at (place name digits 3) (indented load_table)) (state_of (after_push name digits)) 2 (after_table name digits)
    (load_table_step (text name digits) (place name digits 3) 4 (after_push name digits).section (after_push name digits).names found.1.1.1.0 (made_code 1 (after_push name digits) (after_push_made name digits is) (omega arith)))
    (after_table_made name digits is) (omega arith) (omega arith)

pub first_wait_taken : (name digits : List ℕ) → AreFound name digits → IsName name → lined (text name digits) 5 (lexemes_at (place name digits 4) (indented wait)) (state_of (after_table name digits)) ≡ Ok (state_of (after_first_wait name digits))
unfolding after_first_wait
first_wait_taken name digits found is =
    made_lined (text name digits) 5 (lexemes_at (place name digits 4) (indented wait)) (state_of (after_table name digits)) 3 (after_first_wait name digits)
    (wait_step (text name digits) (place name digits 4) 5 (after_table name digits).section (after_table name digits).names found.1.1.1.1.0 (made_code 2 (after_table name digits) (after_table_made name digits is) (omega arith)))
    (after_first_wait_made name digits is) (omega arith) (omega arith)

pub load_taken : (name digits : List ℕ) → AreFound name digits → IsName name → lined (text name digits) 6 (lexemes_at (place name digits 5) (indented load_count)) (state_of (after_first_wait name digits)) ≡ Ok (state_of (after_load name digits))
unfolding after_load
load_taken name digits found is =
    made_lined (text name digits) 6 (lexemes_at (place name digits 5) (indented load_count)) (state_of (after_first_wait name digits)) 4 (after_load name digits)
    (load_count_step (text name digits) (place name digits 5) 6 (after_first_wait name digits).section (after_first_wait name digits).names found.1.1.1.1.1.0 (made_code 3 (after_first_wait name digits) (after_first_wait_made name digits is) (omega arith)))
    (after_load_made name digits is) (omega arith) (omega arith)

pub second_wait_taken : (name digits : List ℕ) → AreFound name digits → IsName name → lined (text name digits) 7 (lexemes_at (place name digits 6) (indented wait)) (state_of (after_load name digits)) ≡ Ok (state_of (after_second_wait name digits))
unfolding after_second_wait
second_wait_taken name digits found is =
    made_lined (text name digits) 7 (lexemes_at (place name digits 6) (indented wait)) (state_of (after_load name digits)) 5 (after_second_wait name digits)
    (wait_step (text name digits) (place name digits 6) 7 (after_load name digits).section (after_load name digits).names found.1.1.1.1.1.1.0 (made_code 4 (after_load name digits) (after_load_made name digits is) (omega arith)))
    (after_second_wait_made name digits is) (omega arith) (omega arith)

pub add_taken : (name digits : List ℕ) → AreFound name digits → IsName name → lined (text name digits) 8 (lexemes_at (place name digits 7) (indented add_count)) (state_of (after_second_wait name digits)) ≡ Ok (state_of (after_add name digits))
unfolding after_add
add_taken name digits found is =
    made_lined (text name digits) 8 (lexemes_at (place name digits 7) (indented add_count)) (state_of (after_second_wait name digits)) 6 (after_add name digits)
    (add_count_step (text name digits) (place name digits 7) 8 (after_second_wait name digits).section (after_second_wait name digits).names found.1.1.1.1.1.1.1.0 (made_code 5 (after_second_wait name digits) (after_second_wait_made name digits is) (omega arith)))
    (after_add_made name digits is) (omega arith) (omega arith)

pub store_taken : (name digits : List ℕ) → AreFound name digits → IsName name → lined (text name digits) 9 (lexemes_at (place name digits 8) (indented store_count)) (state_of (after_add name digits)) ≡ Ok (state_of (after_store name digits))
unfolding after_store
store_taken name digits found is =
    made_lined (text name digits) 9 (lexemes_at (place name digits 8) (indented store_count)) (state_of (after_add name digits)) 7 (after_store name digits)
    (store_count_step (text name digits) (place name digits 8) 9 (after_add name digits).section (after_add name digits).names found.1.1.1.1.1.1.1.1.0 (made_code 6 (after_add name digits) (after_add_made name digits is) (omega arith)))
    (after_store_made name digits is) (omega arith) (omega arith)

pub pop_taken : (name digits : List ℕ) → AreFound name digits → IsName name → lined (text name digits) 10 (lexemes_at (place name digits 9) (indented (pop (codes "B14")))) (state_of (after_store name digits)) ≡ Ok (state_of (after_pop name digits))
unfolding after_pop
pop_taken name digits found is =
    made_lined (text name digits) 10 (lexemes_at (place name digits 9) (indented (pop (codes "B14")))) (state_of (after_store name digits)) 8 (after_pop name digits)
    (pop_b14_step (text name digits) (place name digits 9) 10 (after_store name digits).section (after_store name digits).names found.1.1.1.1.1.1.1.1.1.0 (made_code 7 (after_store name digits) (after_store_made name digits is) (omega arith)))
    (after_pop_made name digits is) (omega arith) (omega arith)

pub back_taken : (name digits : List ℕ) → AreFound name digits → IsName name → lined (text name digits) 11 (lexemes_at (place name digits 10) (indented go_back)) (state_of (after_pop name digits)) ≡ Ok (state_of (after_back name digits))
unfolding after_back
back_taken name digits found is =
    made_lined (text name digits) 11 (lexemes_at (place name digits 10) (indented go_back)) (state_of (after_pop name digits)) 9 (after_back name digits)
    (go_back_step (text name digits) (place name digits 10) 11 (after_pop name digits).section (after_pop name digits).names found.1.1.1.1.1.1.1.1.1.1.0 (made_code 8 (after_pop name digits) (after_pop_made name digits is) (omega arith)))
    (after_back_made name digits is) (omega arith) (omega arith)
