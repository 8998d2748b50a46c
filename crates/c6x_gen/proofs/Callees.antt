-- Where the lines of the executable name what they call, and which name is new.
use Rattle.std.proofs.Common.{◌≡◌, ℕ, suc, ◌+◌, ◌%◌, ◌≤◌, ◌<◌, eqb, min, not, Bool, true, false, List, [], ◌∷◌, ◌++◌, length, Some, None, codes, refl, sym, ◌∙◌, ap, arith}
use Rattle.std.proofs.lemmas.Bool.{le-ltb, lt-ltb, ne_eqb}
use Rattle.std.proofs.lemmas.List.{append-nil, length-append}
use Rattle.std.specs.List.{prefix_len}
use Rattle.std.specs.Str.{bytes_eq}
use Rattle.c6x_asm_lines.specs.Bytes.{bytes_at}
use Rattle.c6x_asm_object.specs.Symbols.{symbol_at, symbol_name}
use Rattle.c6x_asm_object.specs.declared.symbol.Symbol.{Symbol}
use Rattle.c6x_dis.specs.Parts.{line_before, line_length, lines_before, Part, part_bytes}
use Rattle.c6x_gen.specs.Lists.{each_below}
use Rattle.c6x_gen.specs.Sources.{call_line as line_that_calls, called, calls, library_name, opening}
use Rattle.c6x_gen.proofs.Lines.{call_lines, closing_lines, opening_lines}
use Rattle.c6x_gen.specs.Objects.{call_symbols, callee, callee_place, exported, start_of}
use Rattle.c6x_gen.proofs.App.{AreFound, call_found, call_place, found_before, found_behind, lines_to, text}
use Rattle.c6x_gen.proofs.LibraryNames.{libraries_differ}
use Rattle.c6x_gen.proofs.Openings.{same_bytes}
use Rattle.c6x_gen.proofs.Pushed.{all_pass, first_stops, length_each}
use Rattle.c6x_gen.proofs.Read.{end_of}
use Rattle.c6x_gen.proofs.Texts.{calls_before}

-- a line has so many bytes
length_line : (parts : List Part) (rest : List ℕ) → length (line_before parts rest) ≡ line_length parts + length rest
length_line [] rest = omega arith
length_line (p ∷ parts) rest = omega (arith, length-append (part_bytes p) (line_before parts rest), length_line parts rest)

ends_behind : (at : ℕ) (lines : List (List Part)) (rest : List ℕ) → end_of at lines + length rest ≡ at + length (lines_before lines rest)
ends_behind at [] rest = refl
ends_behind at (line ∷ lines) rest = omega (arith, ends_behind (at + line_length line) lines rest, length_line line (lines_before lines rest))

pub place_is : (n line : ℕ) → call_place n line + 1 + 1 + 1 + 1 + 1 + 1 + 1 + 1 + 5 + 1 + 3 + 1 ≡ callee_place n line
place_is n line =
    let bytes : lines_before (lines_to n line) [] ≡ opening ++ (each_below line (line_that_calls n) ++ []) = ap (λ bs. opening ++ bs) (sym (calls_before n line [])) in
    let same : length (lines_before (lines_to n line) []) ≡ length (opening ++ each_below line (line_that_calls n)) = ap length bytes ∙ ap (λ bs. length (opening ++ bs)) (append-nil (each_below line (line_that_calls n))) in
    omega (arith, ends_behind 0 (lines_to n line) [], same)

-- a line's library is named there
pub callee_found : (n line : ℕ) → AreFound n → line < calls n → bytes_at (text n) (callee_place n line) (length (library_name (called n line))) ≡ library_name (called n line)
callee_found n line found below =
    let here = call_found (text n) (end_of 0 opening_lines) n (calls n) line below (found_before (text n) (end_of 0 opening_lines) (call_lines n (calls n)) closing_lines (found_behind (text n) 0 opening_lines (call_lines n (calls n) ++ closing_lines) found)) in
    rw (← place_is n line) here.1.1.0

-- the name is not that of this symbol
abbrev is_another : List ℕ → List ℕ → Symbol → Bool
is_another text name s = not (bytes_eq (symbol_name text s) name)

-- a line less than eleven further on calls another library
another : (n line other : ℕ) → AreFound n → line < calls n → eqb (called n line) (called n other) ≡ false → is_another (text n) (library_name (called n other)) (callee n line) ≡ true
another n line other found below differs =
    rw (callee_found n line found below, libraries_differ (called n line) (called n other) (omega arith) (omega arith) differs) refl

distinct : (n i j : ℕ) → i < 11 → j < 11 → i < j → eqb (called n i) (called n j) ≡ false
distinct n i j first second less = ne_eqb (called n i) (called n j) (λ same. omega (arith, same, first, second, less))

same_callee : (n line : ℕ) → called n (line % 11) ≡ called n line
same_callee n line = omega arith

start_other : (n line : ℕ) → AreFound n → is_another (text n) (library_name (called n line)) (exported 38 5 (start_of 1)) ≡ true
start_other n line found =
    let start : bytes_at (text n) 38 5 ≡ codes "start" = found.1.0.1.0 in
    rw start refl

-- the name is new on the first eleven lines
pub name_new : (n line : ℕ) → AreFound n → line < calls n → line < 11 → symbol_at (text n) (call_symbols n line) (library_name (called n line)) ≡ None
unfolding symbol_at
name_new n line found below first =
    let name = library_name (called n line) in
    let q = is_another (text n) name in
    let count : min line 11 ≡ line = omega (arith, first) in
    let callees = each_below line (λ i. callee n i ∷ []) in
    let none : prefix_len q callees ≡ line = all_pass q (callee n) line (λ i less. another n i line found (omega (arith, less, below)) (distinct n i line (omega (arith, less, first)) first less)) in
    rw (count, start_other n line found, none, length_each (callee n) line) (rw (le-ltb (1 + line) (suc line) (omega arith)) refl)

-- and afterwards is that of one of them
pub name_known : (n line : ℕ) → AreFound n → line < calls n → 11 ≤ line → symbol_at (text n) (call_symbols n line) (library_name (called n line)) ≡ Some (1 + line % 11)
unfolding symbol_at
name_known n line found below later =
    let name = library_name (called n line) in
    let q = is_another (text n) name in
    let place = line % 11 in
    let count : min line 11 ≡ 11 = omega (arith, later) in
    let callees = each_below 11 (λ i. callee n i ∷ []) in
    let inside : place < 11 = omega arith in
    let apart : (i : ℕ) → i < place → q (callee n i) ≡ true = λ i less. another n i line found (omega (arith, less, inside, later, below)) (ap (eqb (called n i)) (sym (same_callee n line)) ∙ distinct n i place (omega (arith, less, inside)) inside less) in
    let is : q (callee n place) ≡ false = rw (callee_found n place found (omega (arith, inside, later, below)), same_callee n line, same_bytes name) refl in
    let here : prefix_len q callees ≡ place = first_stops q (callee n) 11 place inside apart is in
    rw (count, start_other n line found, here, length_each (callee n) 11) (rw (lt-ltb (1 + place) (suc 11) (omega (arith, inside))) refl)
