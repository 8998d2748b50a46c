-- What closes the executable's code, and the object of the whole.
use Rattle.std.proofs.Common.{◌≡◌, ℕ, suc, zero, ◌+◌, true, List, [], ◌∷◌, ◌++◌, length, None, Ok, codes, refl, sym, ◌∙◌, ap, arith, subst}
use Rattle.std.proofs.lemmas.List.{append_assoc, length-append}
use Rattle.c6x_asm_object.specs.Filing.{file_of}
use Rattle.c6x_asm.specs.Lines.{after_lines, lined}
use Rattle.c6x_asm.specs.Objects.{assembled}
use Rattle.c6x_asm.specs.Reading.{bad_line, nothing}
use Rattle.c6x_dis.specs.Parts.{AreAt, AreLines, lexemes_at, lines_at, LinesAreAt, Part}
use Rattle.c6x_dis.proofs.Read.{text_read}
use Rattle.c6x_gen.specs.Lists.{each_below}
use Rattle.c6x_gen.specs.Sources.{called, calls, library_name}
use Rattle.c6x_gen.proofs.Lines.{call, call_line, call_lines, closing_lines, go_back, indented, naming_lines, opening_lines, pop, section_line, wait}
use Rattle.c6x_gen.proofs.Alone.{none_bad}
use Rattle.c6x_gen.proofs.App.{AreFound, callee_named, called_made, called_so, calls_count, calls_lined, few_calls, found_behind, lines_to, popped, popped_made, returned, returned_made, text, waited, waited_made}
use Rattle.c6x_gen.proofs.Apart.{is_apart, lines_apart, lines_both, parts_apart}
use Rattle.c6x_gen.proofs.Grown.{made_code, made_lined, state_of}
use Rattle.c6x_gen.proofs.Read.{end_of, one_more, text_assembled}
use Rattle.c6x_gen.proofs.Steps.{go_back_step, IsName, pop_b3_step, wait_step}
use Rattle.c6x_gen.proofs.Texts.{app_lines}

-- the lines up to each of the last three
abbrev all_calls : ℕ → List (List Part)
all_calls n = lines_to n (calls n)

abbrev to_pop : ℕ → List (List Part)
to_pop n = all_calls n ++ indented (pop (codes "B3")) ∷ []

abbrev to_wait : ℕ → List (List Part)
to_wait n = to_pop n ++ indented wait ∷ []

-- the parts of those are found
pop_found : (n : ℕ) → AreFound n → AreAt (text n) (end_of 0 (all_calls n)) (indented (pop (codes "B3")))
pop_found n found = (found_behind (text n) 0 (all_calls n) closing_lines found).0

wait_found : (n : ℕ) → AreFound n → AreAt (text n) (end_of 0 (to_pop n)) (indented wait)
wait_found n found =
    let lines = sym (append_assoc (all_calls n) (indented (pop (codes "B3")) ∷ []) (indented wait ∷ indented go_back ∷ [])) in
    (found_behind (text n) 0 (to_pop n) (indented wait ∷ indented go_back ∷ []) (subst (λ ls. LinesAreAt (text n) 0 ls) lines found)).0

lines_are : (n : ℕ) → app_lines n ≡ to_wait n ++ indented go_back ∷ []
lines_are n =
    sym (append_assoc (to_pop n) (indented wait ∷ []) (indented go_back ∷ []) ∙ append_assoc (all_calls n) (indented (pop (codes "B3")) ∷ []) (indented wait ∷ indented go_back ∷ []))

go_back_found : (n : ℕ) → AreFound n → AreAt (text n) (end_of 0 (to_wait n)) (indented go_back)
go_back_found n found = (found_behind (text n) 0 (to_wait n) (indented go_back ∷ []) (subst (λ ls. LinesAreAt (text n) 0 ls) (lines_are n) found)).0

-- each of the last three lines is taken
pop_lined : (n : ℕ) → AreFound n → lined (text n) (calls n + 4) (lexemes_at (end_of 0 (all_calls n)) (indented (pop (codes "B3")))) (state_of (called_so n (calls n))) ≡ Ok (state_of (popped n))
unfolding popped
pop_lined n found =
    let most = few_calls n in
    let made = called_so n (calls n) in
    made_lined (text n) (calls n + 4) (lexemes_at (end_of 0 (all_calls n)) (indented (pop (codes "B3")))) (state_of made) (calls n + 2) (popped n)
    (pop_b3_step (text n) (end_of 0 (all_calls n)) (calls n + 4) made.section made.names (pop_found n found) (made_code (calls n + 1) made (called_made n (calls n)) (omega (arith, most))))
    (popped_made n) (omega (arith, most)) (omega (arith, most))

wait_lined : (n : ℕ) → AreFound n → lined (text n) (calls n + 5) (lexemes_at (end_of 0 (to_pop n)) (indented wait)) (state_of (popped n)) ≡ Ok (state_of (waited n))
unfolding waited
wait_lined n found =
    let most = few_calls n in
    made_lined (text n) (calls n + 5) (lexemes_at (end_of 0 (to_pop n)) (indented wait)) (state_of (popped n)) (calls n + 3) (waited n)
    (wait_step (text n) (end_of 0 (to_pop n)) (calls n + 5) (popped n).section (popped n).names (wait_found n found) (made_code (calls n + 2) (popped n) (popped_made n) (omega (arith, most))))
    (waited_made n) (omega (arith, most)) (omega (arith, most))

go_back_lined : (n : ℕ) → AreFound n → lined (text n) (calls n + 6) (lexemes_at (end_of 0 (to_wait n)) (indented go_back)) (state_of (waited n)) ≡ Ok (state_of (returned n))
unfolding returned
go_back_lined n found =
    let most = few_calls n in
    made_lined (text n) (calls n + 6) (lexemes_at (end_of 0 (to_wait n)) (indented go_back)) (state_of (waited n)) (calls n + 4) (returned n)
    (go_back_step (text n) (end_of 0 (to_wait n)) (calls n + 6) (waited n).section (waited n).names (go_back_found n found) (made_code (calls n + 3) (waited n) (waited_made n) (omega (arith, most))))
    (returned_made n) (omega (arith, most)) (omega (arith, most))

after_pop : (n : ℕ) → AreFound n → after_lines (text n) 1 nothing (lines_at 0 (to_pop n)) ≡ Ok (state_of (popped n))
after_pop n found =
    let number : 1 + length (all_calls n) ≡ calls n + 4 = omega (arith, calls_count n (calls n)) in
    one_more (text n) 1 0 (all_calls n) (indented (pop (codes "B3"))) nothing (state_of (called_so n (calls n))) (state_of (popped n))
    (calls_lined n (calls n) found (omega arith)) (rw number (pop_lined n found))

after_wait : (n : ℕ) → AreFound n → after_lines (text n) 1 nothing (lines_at 0 (to_wait n)) ≡ Ok (state_of (waited n))
after_wait n found =
    let number : 1 + length (to_pop n) ≡ calls n + 5 = omega (arith, calls_count n (calls n), length-append (all_calls n) (indented (pop (codes "B3")) ∷ [])) in
    one_more (text n) 1 0 (to_pop n) (indented wait) nothing (state_of (popped n)) (state_of (waited n))
    (after_pop n found) (rw number (wait_lined n found))

after_all : (n : ℕ) → AreFound n → after_lines (text n) 1 nothing (lines_at 0 (app_lines n)) ≡ Ok (state_of (returned n))
after_all n found =
    let number : 1 + length (to_wait n) ≡ calls n + 6 = omega (arith, calls_count n (calls n), length-append (all_calls n) (indented (pop (codes "B3")) ∷ []), length-append (to_pop n) (indented wait ∷ [])) in
    ap (λ ls. after_lines (text n) 1 nothing (lines_at 0 ls)) (lines_are n)
    ∙ one_more (text n) 1 0 (to_wait n) (indented go_back) nothing (state_of (waited n)) (state_of (returned n))
    (after_wait n found) (rw number (go_back_lined n found))

-- the lines stand apart
call_apart : (name : List ℕ) → IsName name → is_apart (indented (call name)) ≡ true
call_apart name is = rw is.token refl

calls_apart : (n count : ℕ) → AreLines (call_lines n count)
unfolding each_below
calls_apart n zero = tt
calls_apart n (suc last) =
    lines_both (call_lines n last) (call_line n last ∷ []) (calls_apart n last)
    (parts_apart (call_line n last) (call_apart (library_name (called n last)) (callee_named n last)), tt)

app_apart : (n : ℕ) → AreLines (app_lines n)
app_apart n =
    lines_both opening_lines (call_lines n (calls n) ++ closing_lines) (lines_apart opening_lines refl)
    (lines_both (call_lines n (calls n)) closing_lines (calls_apart n (calls n)) (lines_apart closing_lines refl))

packets : (n : ℕ) → bad_line None ((returned n).section ∷ []) ≡ None
packets n = rw (none_bad (returned n).section.instructions (returned_made n).grown.alone) refl

pub app_found : (n : ℕ) → AreFound n
app_found n = (text_read (app_lines n) (app_apart n)).found

-- the object: the code and the names
pub app_assembled : (n : ℕ) → assembled (text n) ≡ Ok (file_of (text n) ((returned n).section ∷ []) (returned n).names)
app_assembled n =
    text_assembled (section_line (codes ".text")) (naming_lines ++ (call_lines n (calls n) ++ closing_lines)) (state_of (returned n)) (app_apart n) (after_all n (app_found n)) (packets n)
