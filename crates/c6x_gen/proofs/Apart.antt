-- Lines stand apart where a test of their parts says so.
use Rattle.std.proofs.Common.{◌≡◌, Bool, true, ◌&&◌, List, [], ◌∷◌, ◌++◌}
use Rattle.std.proofs.lemmas.Bool.{and_parts}
use Rattle.c6x_dis.specs.Parts.{AreApart, AreLines, is_parted, is_token, Part}

abbrev pub is_apart : List Part → Bool
is_apart [] = true
is_apart (p ∷ parts) = is_token p && (is_parted p parts && is_apart parts)

pub parts_apart : (parts : List Part) → is_apart parts ≡ true → AreApart parts
parts_apart [] is = tt
parts_apart (p ∷ parts) is =
    let first = and_parts (is_token p) (is_parted p parts && is_apart parts) is in
    let second = and_parts (is_parted p parts) (is_apart parts) first.1 in
    (first.0, second.0, parts_apart parts second.1)

abbrev pub are_apart : List (List Part) → Bool
are_apart [] = true
are_apart (line ∷ lines) = is_apart line && are_apart lines

pub lines_apart : (lines : List (List Part)) → are_apart lines ≡ true → AreLines lines
lines_apart [] is = tt
lines_apart (line ∷ lines) is =
    let both = and_parts (is_apart line) (are_apart lines) is in
    (parts_apart line both.0, lines_apart lines both.1)

pub lines_both : (lines others : List (List Part)) → AreLines lines → AreLines others → AreLines (lines ++ others)
lines_both [] others are more = more
lines_both (line ∷ lines) others are more = (are.0, lines_both lines others are.1 more)
