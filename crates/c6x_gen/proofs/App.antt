-- The source of the executable is assembled: what opens it, its calls one after the other, and what closes it.
use Rattle.std.proofs.Common.{◌≡◌, ℕ, suc, zero, ◌+◌, ◌≤◌, ◌<◌, false, List, [], ◌∷◌, ◌++◌, length, Option, Some, None, Ok, codes, refl, sym, arith, subst, ⊎_elim}
use Rattle.std.proofs.lemmas.Bool.{cases_eq, leb-true}
use Rattle.std.proofs.lemmas.List.{length-append}
use Rattle.c6x_base.specs.declared.side.Side.TheVariants.{B}
use Rattle.c6x_encoding.specs.declared.access.Access.TheVariants.{Ldw, Stw}
use Rattle.c6x_encoding.specs.declared.op.Op.TheVariants.{Callp as CallpOp, BranchRegNop as BranchRegNopOp, Nop as NopOp, Short as ShortOp}
use Rattle.c6x_asm_object.specs.declared.definition.Definition.{Definition}
use Rattle.c6x_asm_object.specs.declared.symbol.Symbol.{Symbol}
use Rattle.c6x_asm_lines.specs.declared.relocation.Relocation.{Relocation}
use Rattle.c6x_asm.specs.Lines.{after_lines, lined}
use Rattle.c6x_asm.specs.Reading.{nothing}
use Rattle.c6x_dis.specs.Parts.{AreAt, lexemes_at, line_length, lines_at, LinesAreAt, Part, text_of}
use Rattle.c6x_gen.specs.Lists.{each_below}
use Rattle.c6x_gen.specs.Sources.{called, calls, library_name}
use Rattle.c6x_gen.proofs.Lines.{call_line, call_lines, closing_lines, global_line, labelled_line, opening_lines, push, section_line}
use Rattle.c6x_gen.proofs.Alone.{stands_alone}
use Rattle.c6x_gen.proofs.Grown.{grown_light, IsMade, lined_so, Made, made_code, made_lined, next, next_made, one_small, state_of}
use Rattle.c6x_gen.proofs.Library.{begun, begun_code, begun_grown}
use Rattle.c6x_gen.proofs.LibraryNames.{library_named, start_named}
use Rattle.c6x_gen.proofs.Openings.{given, global_place, global_step, in_text, push_b3_step, section_step}
use Rattle.c6x_gen.proofs.Read.{end_of, one_more}
use Rattle.c6x_gen.proofs.Steps.{call_relocation, call_step, in_code, IsName}
use Rattle.c6x_gen.proofs.Texts.{app_lines}
use Rattle.c6x_gen.specs.Words.{CALL, GO_BACK, POP_B3, PUSH_B3, WAIT}
use Rattle.c6x_gen.proofs.Words.{call_word, go_back_word, pop_b3_word, push_b3_word, wait_word}

abbrev pub text : ℕ → List ℕ
text n = text_of (app_lines n)

-- the lines up to so many calls
abbrev pub lines_to : ℕ → ℕ → List (List Part)
lines_to n count = opening_lines ++ call_lines n count

-- where a call starts
abbrev pub call_place : ℕ → ℕ → ℕ
call_place n line = end_of 0 (lines_to n line)

-- the name of the executable's function
abbrev start : Option Definition → Symbol
start definition = given (global_place (end_of 0 (section_line (codes ".text") ∷ []))) 5 definition

abbrev opened : Made
opened = record { section = begun; names = start (in_text begun.size) ∷ [] }

abbrev pub relocation_of : ℕ → ℕ → Relocation
relocation_of n line = call_relocation (call_place n line) (library_name (called n line))

-- the section of code and the names behind so many calls
unfoldable pub called_so : ℕ → ℕ → Made
called_so n zero = next (text n) 3 PUSH_B3 None opened
called_so n (suc last) = next (text n) (last + 4) CALL (Some (relocation_of n last)) (called_so n last)

-- and behind what closes the code
unfoldable pub popped : ℕ → Made
popped n = next (text n) (calls n + 4) POP_B3 None (called_so n (calls n))

unfoldable pub waited : ℕ → Made
waited n = next (text n) (calls n + 5) WAIT None (popped n)

unfoldable pub returned : ℕ → Made
returned n = next (text n) (calls n + 6) GO_BACK None (waited n)

pub callee_named : (n line : ℕ) → IsName (library_name (called n line))
callee_named n line = library_named (called n line) (omega arith)

pub called_made : (n count : ℕ) → IsMade (count + 1) (called_so n count)
unfolding called_so
called_made n zero =
    next_made (text n) 3 PUSH_B3 None 0 opened
    (record { grown = begun_grown; names = record { short = (omega arith, tt); few = omega arith } })
    tt (stands_alone (ShortOp Stw B B 10 2 15 3) PUSH_B3 refl push_b3_word)
called_made n (suc last) =
    let long : IsMade (last + 1 + 1) (called_so n (suc last)) = next_made (text n) (last + 4) CALL (Some (relocation_of n last)) (last + 1) (called_so n last) (called_made n last) (leb-true (length (library_name (called n last))) 64 (callee_named n last).short) (stands_alone (CallpOp B 0) CALL refl call_word) in
    let count : last + 1 + 1 ≡ suc last + 1 = omega arith in
    subst (λ k. IsMade k (called_so n (suc last))) count long

pub popped_made : (n : ℕ) → IsMade (calls n + 2) (popped n)
unfolding popped
popped_made n =
    let count : calls n + 1 + 1 ≡ calls n + 2 = omega arith in
    subst (λ k. IsMade k (popped n)) count (next_made (text n) (calls n + 4) POP_B3 None (calls n + 1) (called_so n (calls n)) (called_made n (calls n)) tt (stands_alone (ShortOp Ldw B B 9 2 15 3) POP_B3 refl pop_b3_word))

pub waited_made : (n : ℕ) → IsMade (calls n + 3) (waited n)
unfolding waited
waited_made n =
    let count : calls n + 2 + 1 ≡ calls n + 3 = omega arith in
    subst (λ k. IsMade k (waited n)) count (next_made (text n) (calls n + 5) WAIT None (calls n + 2) (popped n) (popped_made n) tt (stands_alone (NopOp 4) WAIT refl wait_word))

pub returned_made : (n : ℕ) → IsMade (calls n + 4) (returned n)
unfolding returned
returned_made n =
    let count : calls n + 3 + 1 ≡ calls n + 4 = omega arith in
    subst (λ k. IsMade k (returned n)) count (next_made (text n) (calls n + 6) GO_BACK None (calls n + 3) (waited n) (waited_made n) tt (stands_alone (BranchRegNopOp false 3 5) GO_BACK refl go_back_word))

-- the parts of lines are found behind other lines
pub found_behind : (text : List ℕ) (at : ℕ) (lines others : List (List Part)) → LinesAreAt text at (lines ++ others) → LinesAreAt text (end_of at lines) others
found_behind text at [] others found = found
found_behind text at (line ∷ lines) others found = found_behind text (at + line_length line) lines others found.1

pub found_before : (text : List ℕ) (at : ℕ) (lines others : List (List Part)) → LinesAreAt text at (lines ++ others) → LinesAreAt text at lines
found_before text at [] others found = tt
found_before text at (line ∷ lines) others found = (found.0, found_before text (at + line_length line) lines others found.1)

pub call_found : (text : List ℕ) (at n count line : ℕ) → line < count → LinesAreAt text at (call_lines n count) → AreAt text (end_of at (call_lines n line)) (call_line n line)
unfolding each_below
call_found text at n zero line below found = absurd (omega arith)
call_found text at n (suc last) line below found =
    ⊎_elim
    (λ same. subst (λ k. AreAt text (end_of at (call_lines n k)) (call_line n k)) (sym same) (found_behind text at (call_lines n last) (call_line n last ∷ []) found).0)
    (λ differs. call_found text at n last line (omega arith) (found_before text at (call_lines n last) (call_line n last ∷ []) found))
    (cases_eq line last)

pub calls_count : (n count : ℕ) → length (call_lines n count) ≡ count
unfolding each_below
calls_count n zero = refl
calls_count n (suc last) = omega (arith, length-append (call_lines n last) (call_line n last ∷ []), calls_count n last)

abbrev pub AreFound : ℕ → Type 0
AreFound n = LinesAreAt (text n) 0 (app_lines n)

pub few_calls : (n : ℕ) → calls n ≤ 1000
few_calls n = omega arith

-- what opens the executable
opening_lined : (n : ℕ) → AreFound n → after_lines (text n) 1 nothing (lines_at 0 opening_lines) ≡ Ok (state_of (called_so n 0))
unfolding called_so
opening_lined n found =
    let first = lined_so (text n) 1 (lexemes_at 0 (section_line (codes ".text"))) nothing (in_code begun []) (section_step (text n) 0 1 found.0) (one_small (text n) begun [] 0 (grown_light 0 begun begun_grown (omega arith)) (record { short = tt; few = omega arith }) (omega arith)) (omega arith) in
    let at_second = end_of 0 (section_line (codes ".text") ∷ []) in
    let at_third = end_of 0 (section_line (codes ".text") ∷ global_line (codes "start") ∷ []) in
    let second = lined_so (text n) 2 (lexemes_at at_second (global_line (codes "start"))) (in_code begun []) (in_code begun (start None ∷ [])) (global_step (text n) at_second 2 (codes "start") begun found.1.0 start_named) (one_small (text n) begun (start None ∷ []) 1 (grown_light 0 begun begun_grown (omega arith)) (record { short = (omega arith, tt); few = omega arith }) (omega arith)) (omega arith) in
    let third = made_lined (text n) 3 (lexemes_at at_third (labelled_line (codes "start") (push (codes "B3")))) (in_code begun (start None ∷ [])) 1 (called_so n 0) (push_b3_step (text n) at_third (global_place at_second) 3 (codes "start") begun found.1.1.0 found.1.0.1.0 start_named begun_code) (called_made n 0) (omega arith) (omega arith) in
    rw (first, second, third) refl

-- a call
call_lined : (n line : ℕ) → AreFound n → line < calls n → lined (text n) (line + 4) (lexemes_at (call_place n line) (call_line n line)) (state_of (called_so n line)) ≡ Ok (state_of (called_so n (suc line)))
unfolding called_so
call_lined n line found below =
    let most = few_calls n in
    let here = call_found (text n) (end_of 0 opening_lines) n (calls n) line below (found_before (text n) (end_of 0 opening_lines) (call_lines n (calls n)) closing_lines (found_behind (text n) 0 opening_lines (call_lines n (calls n) ++ closing_lines) found)) in
    made_lined (text n) (line + 4) (lexemes_at (call_place n line) (call_line n line)) (state_of (called_so n line)) (suc line + 1) (called_so n (suc line))
    (call_step (text n) (call_place n line) (line + 4) (library_name (called n line)) (called_so n line).section (called_so n line).names here (callee_named n line) (made_code (line + 1) (called_so n line) (called_made n line) (omega (arith, below, most))))
    (called_made n (suc line)) (omega (arith, below, most)) (omega (arith, below, most))

pub calls_lined : (n count : ℕ) → AreFound n → count ≤ calls n → after_lines (text n) 1 nothing (lines_at 0 (lines_to n count)) ≡ Ok (state_of (called_so n count))
unfolding each_below
calls_lined n zero found most = opening_lined n found
calls_lined n (suc last) found most =
    let number : 1 + length (lines_to n last) ≡ last + 4 = omega (arith, calls_count n last) in
    one_more (text n) 1 0 (lines_to n last) (call_line n last) nothing (state_of (called_so n last)) (state_of (called_so n (suc last)))
    (calls_lined n last found (omega (arith, most)))
    (rw number (call_lined n last found (omega (arith, most))))
