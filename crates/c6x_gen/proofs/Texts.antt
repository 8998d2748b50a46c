-- The sources are the texts of their lines.
use Rattle.std.proofs.Common.{◌≡◌, ℕ, suc, zero, List, [], ◌∷◌, ◌++◌, codes, refl, sym, ◌∙◌, ap}
use Rattle.std.specs.Prelude.{decimal}
use Rattle.std.proofs.lemmas.List.{append_assoc}
use Rattle.c6x_gen.specs.Lists.{each_below}
use Rattle.c6x_gen.specs.Sources.{app_source, call_line, called, calls, closing, counter, function_code, library_name, library_source, opening}
use Rattle.c6x_dis.specs.Parts.{line_before, lines_before, Part, text_of}
use Rattle.c6x_gen.proofs.Lines.{call, call_line as line_of_call, call_lines, closing_lines, indented, library_lines, opening_lines}

pub lines_joined : (lines others : List (List Part)) (rest : List ℕ) → lines_before (lines ++ others) rest ≡ lines_before lines (lines_before others rest)
lines_joined [] others rest = refl
lines_joined (line ∷ lines) others rest = ap (line_before line) (lines_joined lines others rest)

-- what is appended last stands first behind
shaped : (before name code digits end : List ℕ) → before ++ name ++ codes "\n" ++ name ++ code ++ digits ++ end ≡ before ++ (name ++ (codes "\n" ++ (name ++ (code ++ (digits ++ end)))))
shaped before name code digits end =
    append_assoc (before ++ name ++ codes "\n" ++ name ++ code) digits end
    ∙ (append_assoc (before ++ name ++ codes "\n" ++ name) code (digits ++ end)
    ∙ (append_assoc (before ++ name ++ codes "\n") name (code ++ (digits ++ end))
    ∙ (append_assoc (before ++ name) (codes "\n") (name ++ (code ++ (digits ++ end)))
    ∙ append_assoc before name (codes "\n" ++ (name ++ (code ++ (digits ++ end)))))))

pub library_text : (n library : ℕ) → library_source n library ≡ text_of (library_lines (library_name library) (decimal (counter n library)))
unfolding library_source
library_text n library = shaped (codes "        .sect \".text\"\n        .global ") (library_name library) function_code (decimal (counter n library)) (codes "\n")

-- the calls
call_before : (name rest : List ℕ) → codes "        CALLP .S2 " ++ name ++ codes ",B3\n" ++ rest ≡ line_before (indented (call name)) rest
call_before name rest = append_assoc (codes "        CALLP .S2 " ++ name) (codes ",B3\n") rest ∙ append_assoc (codes "        CALLP .S2 ") name (codes ",B3\n" ++ rest)

pub calls_before : (n count : ℕ) (rest : List ℕ) → each_below count (call_line n) ++ rest ≡ lines_before (call_lines n count) rest
unfolding each_below
calls_before n zero rest = refl
calls_before n (suc last) rest =
    append_assoc (each_below last (call_line n)) (call_line n last) rest
    ∙ (ap (λ bs. each_below last (call_line n) ++ bs) (call_before (library_name (called n last)) rest)
    ∙ (calls_before n last (line_before (line_of_call n last) rest)
    ∙ sym (lines_joined (call_lines n last) (line_of_call n last ∷ []) rest)))

abbrev pub app_lines : ℕ → List (List Part)
app_lines n = opening_lines ++ (call_lines n (calls n) ++ closing_lines)

pub app_text : (n : ℕ) → app_source n ≡ text_of (app_lines n)
unfolding app_source
app_text n =
    append_assoc opening (each_below (calls n) (call_line n)) closing
    ∙ ap (λ bs. opening ++ bs) (calls_before n (calls n) closing ∙ sym (lines_joined (call_lines n (calls n)) closing_lines []))
