-- The tokens of atoms stand for their lexemes.
use Rattle.std.proofs.Common.{◌≡◌, ℕ, ◌+◌, ◌-◌, ◌≤◌, List, [], ◌∷◌, ◌++◌, length, refl, sym, ◌∙◌, arith}
use Rattle.std.proofs.Math.Seq.{drop-append_seam, take-append_seam}
use Rattle.std.proofs.lemmas.List.{append_assoc, length-append}
use Rattle.std.proofs.lemmas.Bool.{le-leb}
use Rattle.std.specs.List.{slice_range}
use Rattle.c6x_asm_lines.specs.Bytes.{bytes_at}
use Rattle.c6x_asm_lines.specs.Lexemes.{lexeme_of, lexemes_by_line}
use Rattle.c6x_dis.specs.Atoms.{Atom, word, number, punctuator, space, bytes_of}
use Rattle.c6x_dis.specs.Pieces.{tokens_at, lexemes_at}

-- the bytes between two others
pub seam : (front bs rest : List ℕ) (at : ℕ) → at ≡ length front → slice_range (front ++ (bs ++ rest)) at (at + length bs) ≡ bs
seam front bs rest at place =
    let len : length front + length bs - length front ≡ length bs = omega arith in
    rw (place, len, drop-append_seam front (bs ++ rest)) (take-append_seam bs rest)

-- and where a text is told to have them
pub bytes_seam : (text front bs rest : List ℕ) (at : ℕ) → text ≡ front ++ (bs ++ rest) → at ≡ length front → bytes_at text at (length bs) ≡ bs
unfolding bytes_at
bytes_seam text front bs rest at is place =
    let within : at + length bs ≤ length (front ++ (bs ++ rest)) = omega (arith, place, length-append front (bs ++ rest), length-append bs rest) in
    rw (is, le-leb (at + length bs) (length (front ++ (bs ++ rest))) within) (seam front bs rest at place)

further : (front bs : List ℕ) (at : ℕ) → at ≡ length front → at + length bs ≡ length (front ++ bs)
further front bs at place = omega (arith, place, length-append front bs)

-- the same, of a text that is told to be so
seam_in : (text front bs rest : List ℕ) (at : ℕ) → text ≡ front ++ (bs ++ rest) → at ≡ length front → slice_range text at (at + length bs) ≡ bs
seam_in text front bs rest at is place = rw is (seam front bs rest at place)

lexed : (text front : List ℕ) (atoms : List Atom) (line at : ℕ) → text ≡ front ++ bytes_of atoms → at ≡ length front → lexemes_by_line text (tokens_at line at atoms) ≡ lexemes_at at atoms ∷ []
unfolding lexeme_of
lexed text front [] line at is place = refl
lexed text front (word bs ∷ atoms) line at is place =
    rw (seam_in text front bs (bytes_of atoms) at is place, lexed text (front ++ bs) atoms line (at + length bs) (is ∙ sym (append_assoc front bs (bytes_of atoms))) (further front bs at place)) refl
lexed text front (number bs ∷ atoms) line at is place =
    rw (seam_in text front bs (bytes_of atoms) at is place, lexed text (front ++ bs) atoms line (at + length bs) (is ∙ sym (append_assoc front bs (bytes_of atoms))) (further front bs at place)) refl
lexed text front (punctuator b ∷ atoms) line at is place =
    rw (seam_in text front (b ∷ []) (bytes_of atoms) at is place, lexed text (front ++ b ∷ []) atoms line (at + 1) (is ∙ sym (append_assoc front (b ∷ []) (bytes_of atoms))) (further front (b ∷ []) at place)) refl
lexed text front (space ∷ atoms) line at is place =
    lexed text (front ++ 32 ∷ []) atoms line (at + 1) (is ∙ sym (append_assoc front (32 ∷ []) (bytes_of atoms))) (further front (32 ∷ []) at place)

pub lexemes_are : (front : List ℕ) (atoms : List Atom) (line at : ℕ) → at ≡ length front → lexemes_by_line (front ++ bytes_of atoms) (tokens_at line at atoms) ≡ lexemes_at at atoms ∷ []
lexemes_are front atoms line at place = lexed (front ++ bytes_of atoms) front atoms line at refl place
