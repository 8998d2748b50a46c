-- A pass over the tokens of a text goes through its lines.
use Rattle.std.proofs.Common.{◌≡◌, ℕ, zero, suc, ◌+◌, ◌-◌, ◌<◌, ◌≤◌, Bool, true, false, cond, eqb, List, [], ◌∷◌, ◌++◌, length, take, Option, Some, None, Result, Ok, Err, refl, sym, ap, ◌∙◌, subst, arith, ⊎_elim, append_assoc, length-append}
use Rattle.std.proofs.lemmas.Bool.{cases_eq, eqb-true, eqb-false}
use Rattle.std.proofs.lemmas.List.{append-nil, take-append-le}
use Rattle.std.specs.Prelude.{IfOk}
use Rattle.std.specs.List.{onto_first}
use Rattle.c6x_lex.specs.declared.token.Token.{Token}
use Rattle.c6x_asm_lines.specs.declared.lexeme.Lexeme.{Lexeme}
use Rattle.c6x_asm_lines.specs.Lexemes.{lexeme_of, lexemes_by_line, with_lexeme}
use Rattle.c6x_asm_lines.specs.declared.rule.AsmRule.{AsmRule}
use Rattle.c6x_asm_object.specs.declared.object.Object.{Object}
use Rattle.c6x_asm.specs.States.{State}
use Rattle.c6x_asm.specs.declared.broken.Broken.{Broken}
use Rattle.c6x_asm.specs.Lines.{after_lines, ends_in_newline, front, lined, lines_of, or_broken}
use Rattle.c6x_asm.specs.Running.{Completes, Left, and_last, is_end, left, on_lexeme, or_stop, run_from, state_left}
use Rattle.c6x_asm.specs.Reading.{before, nothing, stopped}

-- the lines of the tokens that are left, where the first has these lexemes already
abbrev glued : List Lexeme → List (List Lexeme) → List (List Lexeme)
glued begun [] = begun ∷ []
glued begun (line ∷ lines) = (begun ++ line) ∷ lines

abbrev last_of : List (List Lexeme) → List Lexeme
last_of [] = []
last_of (line ∷ []) = line
last_of (line ∷ next ∷ lines) = last_of (next ∷ lines)

-- there is a line behind the last newline
abbrev some_line : List (List Lexeme) → Type 0
some_line [] = ⊥
some_line (line ∷ lines) = Unit {0}

lines_some : (text : List ℕ) (tokens : List Token) → some_line (lexemes_by_line text tokens)
lines_some text [] = tt
lines_some text (token ∷ tokens) = by (lexeme_of text token) (lexemes_by_line text tokens)
  where
    by : (lexeme : Option Lexeme) (lines : List (List Lexeme)) → some_line (with_lexeme lexeme lines)
    by None lines = tt
    by (Some l) [] = tt
    by (Some l) (line ∷ lines) = tt

glued_none : (lines : List (List Lexeme)) → some_line lines → glued [] lines ≡ lines
glued_none [] some = absurd some
glued_none (line ∷ lines) some = refl

glued_more : (begun : List Lexeme) (l : Lexeme) (lines : List (List Lexeme)) → some_line lines → glued begun (onto_first l lines) ≡ glued (begun ++ l ∷ []) lines
glued_more begun l [] some = absurd some
glued_more begun l (line ∷ lines) some = ap (λ xs. xs ∷ lines) (sym (append_assoc begun (l ∷ []) line))

front_next : (line : List Lexeme) (lines : List (List Lexeme)) → some_line lines → front (line ∷ lines) ≡ line ∷ front lines
front_next line [] some = absurd some
front_next line (next ∷ lines) some = refl

last_next : (line : List Lexeme) (lines : List (List Lexeme)) → some_line lines → last_of (line ∷ lines) ≡ last_of lines
last_next line [] some = absurd some
last_next line (next ∷ lines) some = refl

-- what is left behind whole lines
abbrev left_behind : ℕ → List Lexeme → Result State Broken → Result Left Broken
left_behind line lexemes (Ok s) = Ok (left line lexemes s)
left_behind line lexemes (Err broken) = Err broken

-- a pass to the end
abbrev Whole : List ℕ → ℕ → State → List (List Lexeme) → Result Left Broken → Type 0
Whole text line s lines ran = ran ≡ left_behind (line + length (front lines)) (last_of lines) (after_lines text line s (front lines))

pass_whole : (text : List ℕ) (tokens : List Token) (line : ℕ) (begun : List Lexeme) (s : State) → Whole text line s (glued begun (lexemes_by_line text tokens)) (run_from text None line begun s tokens)
pass_whole text [] line begun s = let same : begun ≡ begun ++ [] = sym (append-nil begun) in ap (λ n. Ok (left n begun s)) (omega arith) ∙ ap (λ xs. Ok (left (line + 0) xs s)) same
pass_whole text (token ∷ tokens) line begun s =
    by (lexeme_of text token) (lexemes_by_line text tokens) (lines_some text tokens) (λ n xs t. pass_whole text tokens n xs t)
  where
    Later : List (List Lexeme) → Type 0
    Later lines = (n : ℕ) (xs : List Lexeme) (t : State) → Whole text n t (glued xs lines) (run_from text None n xs t tokens)

    behind : (lines : List (List Lexeme)) → some_line lines → Later lines → (r : Result State AsmRule) → or_stop line r (λ t. run_from text None (line + 1) [] t tokens) ≡ left_behind (line + suc (length (front lines))) (last_of lines) (or_broken line r (λ t. after_lines text (line + 1) t (front lines)))
    behind lines some later (Err rule) = refl
    behind lines some later (Ok t) =
        let place : line + 1 + length (front lines) ≡ line + suc (length (front lines)) = omega arith in
        let whole = subst (λ ls. Whole text (line + 1) t ls (run_from text None (line + 1) [] t tokens)) (glued_none lines some) (later (line + 1) [] t) in
        whole ∙ ap (λ n. left_behind n (last_of lines) (after_lines text (line + 1) t (front lines))) place

    by : (lexeme : Option Lexeme) (lines : List (List Lexeme)) → some_line lines → Later lines → Whole text line s (glued begun (with_lexeme lexeme lines)) (on_lexeme text line begun s lexeme (λ next rest t. run_from text None next rest t tokens))
    by (Some l) lines some later =
        subst (λ ls. Whole text line s ls (run_from text None line (begun ++ l ∷ []) s tokens)) (sym (glued_more begun l lines some)) (later line (begun ++ l ∷ []) s)
    by None lines some later =
        let here : begun ++ [] ≡ begun = append-nil begun in
        subst (λ xs. Whole text line s (xs ∷ lines) (or_stop line (lined text line begun s) (λ t. run_from text None (line + 1) [] t tokens))) (sym here)
        (rw (front_next begun lines some, last_next begun lines some) (behind lines some later (lined text line begun s)))

-- what is left, and one more line
abbrev last_of_left : List ℕ → Result Left Broken → Result State Broken
last_of_left text (Ok l) = or_broken l.line (lined text l.line l.lexemes l.state) (λ s. Ok s)
last_of_left text (Err broken) = Err broken

below_not : (a b : ℕ) → a ≤ b → (a ≡ b → ⊥) → a < b
below_not a b below apart = ⊎_elim (λ same. absurd (apart same)) (λ other. omega arith) (cases_eq a b)

-- a pass up to the line with a number
abbrev Limited : List ℕ → ℕ → ℕ → State → List (List Lexeme) → Result Left Broken → Type 0
Limited text end line s lines ran = state_left ran ≡ after_lines text line s (take (end - line) (front lines))

pass_limited : (text : List ℕ) (tokens : List Token) (end line : ℕ) (begun : List Lexeme) (s : State) → line ≤ end → Limited text end line s (glued begun (lexemes_by_line text tokens)) (run_from text (Some end) line begun s tokens)
pass_limited text [] end line begun s below = none (end - line)
  where
    none : (n : ℕ) → Ok s ≡ after_lines text line s (take n [])
    none zero = refl
    none (suc n) = refl
pass_limited text (token ∷ tokens) end line begun s below =
    at_end (eqb line end) refl (lexeme_of text token) (lexemes_by_line text tokens) (lines_some text tokens) (λ n xs t small. pass_limited text tokens end n xs t small)
  where
    Later : List (List Lexeme) → Type 0
    Later lines = (n : ℕ) (xs : List Lexeme) (t : State) → n ≤ end → Limited text end n t (glued xs lines) (run_from text (Some end) n xs t tokens)

    next : ℕ → List Lexeme → State → Result Left Broken
    next n rest t = run_from text (Some end) n rest t tokens

    behind : (lines : List (List Lexeme)) → some_line lines → Later lines → line + 1 ≤ end → (r : Result State AsmRule) → state_left (or_stop line r (λ t. next (line + 1) [] t)) ≡ or_broken line r (λ t. after_lines text (line + 1) t (take (end - (line + 1)) (front lines)))
    behind lines some later more (Err rule) = refl
    behind lines some later more (Ok t) =
        subst (λ ls. Limited text end (line + 1) t ls (next (line + 1) [] t)) (glued_none lines some) (later (line + 1) [] t more)

    by : (lexeme : Option Lexeme) (lines : List (List Lexeme)) → some_line lines → Later lines → line + 1 ≤ end → Limited text end line s (glued begun (with_lexeme lexeme lines)) (on_lexeme text line begun s lexeme next)
    by (Some l) lines some later more =
        subst (λ ls. Limited text end line s ls (next line (begun ++ l ∷ []) s)) (sym (glued_more begun l lines some)) (later line (begun ++ l ∷ []) s below)
    by None lines some later more =
        let here : begun ++ [] ≡ begun = append-nil begun in
        let count : end - line ≡ suc (end - (line + 1)) = omega arith in
        subst (λ xs. Limited text end line s (xs ∷ lines) (or_stop line (lined text line begun s) (λ t. next (line + 1) [] t))) (sym here)
        (rw (front_next begun lines some, count) (behind lines some later more (lined text line begun s)))

    at_end : (b : Bool) → eqb line end ≡ b → (lexeme : Option Lexeme) (lines : List (List Lexeme)) → some_line lines → Later lines → Limited text end line s (glued begun (with_lexeme lexeme lines)) (cond b (Ok (left line begun s)) (on_lexeme text line begun s lexeme next))
    at_end true is lexeme lines some later = let count : end - line ≡ 0 = omega (arith, eqb-true line end is) in rw count refl
    at_end false is lexeme lines some later = by lexeme lines some later (omega (arith, below_not line end below (eqb-false line end is)))

-- all lines are the front and the last
front_last : (lines : List (List Lexeme)) → some_line lines → lines ≡ front lines ++ last_of lines ∷ []
front_last [] some = absurd some
front_last (line ∷ []) some = refl
front_last (line ∷ next ∷ lines) some = ap (λ xs. line ∷ xs) (front_last (next ∷ lines) tt)

-- one line behind others
after_more : (text : List ℕ) (lines : List (List Lexeme)) (line : List Lexeme) (number : ℕ) (s : State) → after_lines text number s (lines ++ line ∷ []) ≡ last_of_left text (left_behind (number + length lines) line (after_lines text number s lines))
after_more text [] line number s = ap (λ n. or_broken n (lined text n line s) (λ t. Ok t)) (omega arith)
after_more text (first ∷ lines) line number s = by (lined text number first s) (λ t. after_more text lines line (number + 1) t)
  where
    by : (r : Result State AsmRule) → ((t : State) → after_lines text (number + 1) t (lines ++ line ∷ []) ≡ last_of_left text (left_behind (number + 1 + length lines) line (after_lines text (number + 1) t lines))) → or_broken number r (λ t. after_lines text (number + 1) t (lines ++ line ∷ [])) ≡ last_of_left text (left_behind (number + suc (length lines)) line (or_broken number r (λ t. after_lines text (number + 1) t lines)))
    by (Err rule) later = refl
    by (Ok t) later =
        let place : number + 1 + length lines ≡ number + suc (length lines) = omega arith in
        later t ∙ ap (λ n. last_of_left text (left_behind n line (after_lines text (number + 1) t lines))) place

-- a pass to the end with the last line comes to what the lines come to
pub lines_come : (text : List ℕ) (tokens : List Token) (s : State) → and_last text (run_from text None 1 [] s tokens) ≡ after_lines text 1 s (lines_of text tokens)
unfolding lines_of
lines_come text tokens s = ap (and_last text) ran ∙ by (ends_in_newline text) refl
  where
    all : List (List Lexeme)
    all = lexemes_by_line text tokens

    some : some_line all
    some = lines_some text tokens

    ran : run_from text None 1 [] s tokens ≡ left_behind (1 + length (front all)) (last_of all) (after_lines text 1 s (front all))
    ran = subst (λ ls. Whole text 1 s ls (run_from text None 1 [] s tokens)) (glued_none all some) (pass_whole text tokens 1 [] s)

    newline : (r : Result State Broken) → ends_in_newline text ≡ true → and_last text (left_behind (1 + length (front all)) (last_of all) r) ≡ r
    newline (Ok t) is = rw is refl
    newline (Err broken) is = refl

    more : (r : Result State Broken) → ends_in_newline text ≡ false → and_last text (left_behind (1 + length (front all)) (last_of all) r) ≡ last_of_left text (left_behind (1 + length (front all)) (last_of all) r)
    more (Ok t) is = rw is refl
    more (Err broken) is = refl

    by : (b : Bool) → ends_in_newline text ≡ b → and_last text (left_behind (1 + length (front all)) (last_of all) (after_lines text 1 s (front all))) ≡ after_lines text 1 s (cond b (front all) all)
    by true is = newline (after_lines text 1 s (front all)) is
    by false is =
        more (after_lines text 1 s (front all)) is
        ∙ sym (after_more text (front all) (last_of all) 1 s)
        ∙ ap (after_lines text 1 s) (sym (front_last all some))

abbrev line_in : Result State Broken → ℕ
line_in (Ok s) = 0
line_in (Err broken) = broken.line

-- the line that breaks a rule is one of them
broken_inside : (text : List ℕ) (lines : List (List Lexeme)) (number : ℕ) (s : State) (broken : Broken) → after_lines text number s lines ≡ Err broken → broken.line < number + length lines
broken_inside text [] number s broken is = absurd (cc)
broken_inside text (line ∷ lines) number s broken is = by (lined text number line s) is (λ t. broken_inside text lines (number + 1) t broken)
  where
    by : (r : Result State AsmRule) → or_broken number r (λ t. after_lines text (number + 1) t lines) ≡ Err broken → ((t : State) → after_lines text (number + 1) t lines ≡ Err broken → broken.line < number + 1 + length lines) → broken.line < number + suc (length lines)
    by (Err rule) here later = let same : number ≡ broken.line = ap line_in here in omega arith
    by (Ok t) here later = omega (arith, later t here)

-- a pass up to a line that breaks a rule comes to what the lines before it come to
pub before_come : (text : List ℕ) (tokens : List Token) (s : State) (broken : Broken) → 1 ≤ broken.line → after_lines text 1 s (lines_of text tokens) ≡ Err broken → state_left (run_from text (Some broken.line) 1 [] s tokens) ≡ after_lines text 1 s (before broken.line (lines_of text tokens))
unfolding lines_of
before_come text tokens s broken some_number is = ran ∙ by (ends_in_newline text) is
  where
    all : List (List Lexeme)
    all = lexemes_by_line text tokens

    some : some_line all
    some = lines_some text tokens

    ran : state_left (run_from text (Some broken.line) 1 [] s tokens) ≡ after_lines text 1 s (take (broken.line - 1) (front all))
    ran = subst (λ ls. Limited text broken.line 1 s ls (run_from text (Some broken.line) 1 [] s tokens)) (glued_none all some) (pass_limited text tokens broken.line 1 [] s some_number)

    by : (b : Bool) → after_lines text 1 s (cond b (front all) all) ≡ Err broken → after_lines text 1 s (take (broken.line - 1) (front all)) ≡ after_lines text 1 s (take (broken.line - 1) (cond b (front all) all))
    by true here = refl
    by false here =
        let whole = front_last all some in
        let size : length all ≡ length (front all) + 1 = ap length whole ∙ length-append (front all) (last_of all ∷ []) in
        let inside : broken.line < 1 + length all = broken_inside text all 1 s broken here in
        ap (after_lines text 1 s) (sym (ap (take (broken.line - 1)) whole ∙ take-append-le (broken.line - 1) (front all) (last_of all ∷ []) (omega arith)))

-- a line has a number
pub broken_numbered : (text : List ℕ) (lines : List (List Lexeme)) (number : ℕ) (s : State) (broken : Broken) → after_lines text number s lines ≡ Err broken → number ≤ broken.line
broken_numbered text [] number s broken is = absurd (cc)
broken_numbered text (line ∷ lines) number s broken is = by (lined text number line s) is (λ t. broken_numbered text lines (number + 1) t broken)
  where
    by : (r : Result State AsmRule) → or_broken number r (λ t. after_lines text (number + 1) t lines) ≡ Err broken → ((t : State) → after_lines text (number + 1) t lines ≡ Err broken → number + 1 ≤ broken.line) → number ≤ broken.line
    by (Err rule) here later = let same : number ≡ broken.line = ap line_in here in omega arith
    by (Ok t) here later = omega (arith, later t here)

-- a pass to the end comes to what the lines come to
pub come_ok : {E : Type 0} (text : List ℕ) (tokens : List Token) (s : State) (o : Object) (r : Result (Result (Unit {0}) Broken) E) → IfOk r (λ done. Completes done o (and_last text (run_from text None 1 [] s tokens))) → IfOk r (λ done. Completes done o (after_lines text 1 s (lines_of text tokens)))
come_ok text tokens s o (Ok done) come = subst (Completes done o) (lines_come text tokens s) come
come_ok text tokens s o (Err e) come = come

-- a pass up to a line that breaks a rule comes to what the lines before it come to
pub stop_ok : {E : Type 0} (text : List ℕ) (tokens : List Token) (broken : Broken) (r : Result Broken E) → after_lines text 1 nothing (lines_of text tokens) ≡ Err broken → IfOk r (λ lowest. Err lowest ≡ stopped broken (state_left (run_from text (Some broken.line) 1 [] nothing tokens))) → IfOk r (λ lowest. Err lowest ≡ stopped broken (after_lines text 1 nothing (before broken.line (lines_of text tokens))))
stop_ok text tokens broken (Ok lowest) is low =
    low ∙ ap (stopped broken) (before_come text tokens nothing broken (broken_numbered text (lines_of text tokens) 1 nothing broken is) is)
stop_ok text tokens broken (Err e) is low = low

pub run_ends : (text : List ℕ) (end : Option ℕ) (line : ℕ) (lexemes : List Lexeme) (s : State) (tokens : List Token) → is_end end line ≡ true → run_from text end line lexemes s tokens ≡ Ok (left line lexemes s)
run_ends text end line lexemes s [] is = refl
run_ends text end line lexemes s (token ∷ tokens) is = rw is refl
