-- A text of lines that are all taken is assembled.
use Rattle.std.proofs.Common.{◌≡◌, ℕ, suc, ◌+◌, ◌-◌, true, eqb, List, [], ◌∷◌, ◌++◌, length, None, Result, Ok, Err, refl, sym, ◌∙◌, ap, arith}
use Rattle.std.proofs.Math.Seq.{get_or-append_seam}
use Rattle.std.proofs.lemmas.List.{append_assoc, length-append}
use Rattle.c6x_asm_lines.specs.declared.rule.AsmRule.{AsmRule}
use Rattle.c6x_asm_lines.specs.declared.lexeme.Lexeme.{Lexeme}
use Rattle.c6x_asm_object.specs.Filing.{file_of}
use Rattle.c6x_asm.specs.States.{State}
use Rattle.c6x_asm.specs.declared.broken.Broken.{Broken}
use Rattle.c6x_asm.specs.Lines.{after_lines, ends_in_newline, front, lined, lines_of, or_broken}
use Rattle.c6x_asm.specs.Objects.{assembled}
use Rattle.c6x_asm.specs.Reading.{bad_line, nothing, read_lines, read_of}
use Rattle.c6x_dis.specs.Parts.{AreLines, IsRead, lexemes_at, line_before, line_length, lines_at, lines_before, Part, part_bytes, text_of, tokens_at}
use Rattle.c6x_dis.proofs.Read.{text_read}

-- these bytes end in a newline
record Ends (bs : List ℕ) : Type 0 where
  front : List ℕ
  is : bs ≡ front ++ 10 ∷ []

ends_behind : (bs rest : List ℕ) → Ends rest → Ends (bs ++ rest)
ends_behind bs rest ends = record { front = bs ++ ends.front; is = ap (λ xs. bs ++ xs) ends.is ∙ sym (append_assoc bs ends.front (10 ∷ [])) }

line_ends : (parts : List Part) (rest : List ℕ) → Ends (10 ∷ rest) → Ends (line_before parts rest)
line_ends [] rest ends = ends
line_ends (p ∷ parts) rest ends = ends_behind (part_bytes p) (line_before parts rest) (line_ends parts rest ends)

lines_end_so : (lines : List (List Part)) → Ends (10 ∷ lines_before lines [])
lines_end_so [] = record { front = []; is = refl }
lines_end_so (line ∷ lines) = ends_behind (10 ∷ []) (line_before line (lines_before lines [])) (line_ends line (lines_before lines []) (lines_end_so lines))

newline_last : (line : List Part) (lines : List (List Part)) → ends_in_newline (text_of (line ∷ lines)) ≡ true
newline_last line lines =
    let ends = line_ends line (lines_before lines []) (lines_end_so lines) in
    let last : length (ends.front ++ 10 ∷ []) - 1 ≡ length ends.front = omega (arith, length-append ends.front (10 ∷ [])) in
    rw (ends.is, last) (ap (λ n. eqb n 10) (get_or-append_seam ends.front 10 [] 0))

-- nothing behind the last newline is no line
front_is : (lines : List (List Lexeme)) → front (lines ++ ([] ∷ [])) ≡ lines
front_is [] = refl
front_is (line ∷ []) = refl
front_is (line ∷ next ∷ lines) = ap (λ ls. line ∷ ls) (front_is (next ∷ lines))

lines_are : (line : List Part) (lines : List (List Part)) → IsRead (line ∷ lines) → lines_of (text_of (line ∷ lines)) (tokens_at 1 0 (line ∷ lines)) ≡ lines_at 0 (line ∷ lines)
unfolding lines_of
lines_are line lines read = rw (newline_last line lines, read.lexed) (front_is (lines_at 0 (line ∷ lines)))

read_so : (line : List Part) (lines : List (List Part)) (s : State) → IsRead (line ∷ lines) → after_lines (text_of (line ∷ lines)) 1 nothing (lines_at 0 (line ∷ lines)) ≡ Ok s → bad_line None s.sections ≡ None → read_of (text_of (line ∷ lines)) ≡ Ok s
unfolding read_of read_lines
read_so line lines s read taken packets = rw (read.cut, lines_are line lines read, taken, packets) refl

pub text_assembled : (line : List Part) (lines : List (List Part)) (s : State) → AreLines (line ∷ lines) → after_lines (text_of (line ∷ lines)) 1 nothing (lines_at 0 (line ∷ lines)) ≡ Ok s → bad_line None s.sections ≡ None → assembled (text_of (line ∷ lines)) ≡ Ok (file_of (text_of (line ∷ lines)) s.sections s.symbols)
unfolding assembled
text_assembled line lines s are taken packets = rw (read_so line lines s (text_read (line ∷ lines) are) taken packets) refl

-- where lines that start at this offset end
abbrev pub end_of : ℕ → List (List Part) → ℕ
end_of at [] = at
end_of at (line ∷ lines) = end_of (at + line_length line) lines

-- one line behind what others come to
abbrev then_line : List ℕ → ℕ → List Lexeme → Result State Broken → Result State Broken
then_line text number line (Ok s) = or_broken number (lined text number line s) (λ t. Ok t)
then_line text number line (Err broken) = Err broken

lines_then : (text : List ℕ) (number : ℕ) (s : State) (lines : List (List Lexeme)) (line : List Lexeme) → after_lines text number s (lines ++ line ∷ []) ≡ then_line text (number + length lines) line (after_lines text number s lines)
lines_then text number s [] line =
    let count : number ≡ number + 0 = omega arith in
    ap (λ n. then_line text n line (Ok s)) count
lines_then text number s (first ∷ lines) line = either (λ t. lines_then text (number + 1) t lines line) (lined text number first s)
  where
    either : ((t : State) → after_lines text (number + 1) t (lines ++ line ∷ []) ≡ then_line text (number + 1 + length lines) line (after_lines text (number + 1) t lines)) → (r : Result State AsmRule) → or_broken number r (λ t. after_lines text (number + 1) t (lines ++ line ∷ [])) ≡ then_line text (number + length (first ∷ lines)) line (or_broken number r (λ t. after_lines text (number + 1) t lines))
    either before (Ok t) =
        let count : number + 1 + length lines ≡ number + length (first ∷ lines) = omega arith in
        before t ∙ ap (λ n. then_line text n line (after_lines text (number + 1) t lines)) count
    either before (Err rule) = refl

lines_joined : (at : ℕ) (lines : List (List Part)) (line : List Part) → lines_at at (lines ++ line ∷ []) ≡ lines_at at lines ++ lexemes_at (end_of at lines) line ∷ []
lines_joined at [] line = refl
lines_joined at (first ∷ lines) line = ap (λ ls. lexemes_at at first ∷ ls) (lines_joined (at + line_length first) lines line)

lines_count : (at : ℕ) (lines : List (List Part)) → length (lines_at at lines) ≡ length lines
lines_count at [] = refl
lines_count at (line ∷ lines) = ap suc (lines_count (at + line_length line) lines)

-- one line more
pub one_more : (text : List ℕ) (number at : ℕ) (lines : List (List Part)) (line : List Part) (r s t : State) → after_lines text number r (lines_at at lines) ≡ Ok s → lined text (number + length lines) (lexemes_at (end_of at lines) line) s ≡ Ok t → after_lines text number r (lines_at at (lines ++ line ∷ [])) ≡ Ok t
one_more text number at lines line r s t taken next =
    let last = lexemes_at (end_of at lines) line in
    ap (after_lines text number r) (lines_joined at lines line)
    ∙ (lines_then text number r (lines_at at lines) last
    ∙ (ap (then_line text (number + length (lines_at at lines)) last) taken
    ∙ (ap (λ n. or_broken (number + n) (lined text (number + n) last s) (λ u. Ok u)) (lines_count at lines)
    ∙ ap (λ r. or_broken (number + length lines) r (λ u. Ok u)) next)))
