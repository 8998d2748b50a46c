use Rattle.std.proofs.Common.{◌≡◌, ℕ, ◌+◌, ◌<◌, Bool, true, false, List, [], ◌∷◌, length, take, drop, refl, ◌∙◌, ap, subst, arith}
use Rattle.std.specs.Prelude.{◌==◌, None, Some}
use Rattle.std.specs.List.{position, position_or_len, slice_split}
use Rattle.std.specs.Str.Lines.{lines, lines_of_parts, strip_carriage_return}
use Rattle.std.proofs.lemmas.Bool.Decides.{nat_tests}
use Rattle.std.proofs.lemmas.List.Splits.{slice_split_first, length-slice_split}
use Rattle.c6x_plan.specs.Lines.{said, said_lines, is_passed_over}

abbrev ends_line : ℕ → Bool
ends_line byte = byte == 10

-- what a place says
place_is : (xs : List ℕ) (place : ℕ) → position ends_line xs ≡ Some place → (position_or_len ends_line xs ≡ place) × (position_or_len ends_line xs < length xs)
place_is xs place is = (grind (arith, nat_tests), grind (arith, nat_tests))

no_place : (xs : List ℕ) → position ends_line xs ≡ None → (position_or_len ends_line xs < length xs) → ⊥
no_place xs is below = grind (arith, nat_tests)

-- where lines follow, a line before them loses its carriage return
parts_more : (line : List ℕ) (parts : List (List ℕ)) → 0 < length parts → lines_of_parts (line ∷ parts) ≡ strip_carriage_return line ∷ lines_of_parts parts
parts_more line [] some = absurd (omega arith)
parts_more line (part ∷ parts) some = refl

some_parts : (xs : List ℕ) → 0 < length (slice_split ends_line xs)
some_parts xs = omega (arith, length-slice_split ends_line xs)

-- the first line ends at the first newline
pub lines_at : (text : List ℕ) (place : ℕ) → position ends_line text ≡ Some place → lines text ≡ strip_carriage_return (take place text) ∷ lines (drop (place + 1) text)
lines_at text place is =
    let at = place_is text place is in
    let cut = slice_split_first ends_line text 0 at.1 in
    let P : ℕ → Type 0 = λ (i : ℕ). lines text ≡ strip_carriage_return (take i text) ∷ lines (drop (i + 1) text) in
    let i = position_or_len ends_line text in
    subst P at.0 (ap lines_of_parts cut ∙ parts_more (take i text) (slice_split ends_line (drop (i + 1) text)) (some_parts (drop (i + 1) text)))

-- where none follows, all is one part
whole_part : (xs : List ℕ) → (position_or_len ends_line xs < length xs → ⊥) → slice_split ends_line xs ≡ xs ∷ []
whole_part [] none = refl
whole_part (x ∷ xs) none =
    elim (ends_line x) as (λ (test : Bool). ends_line x ≡ test → slice_split ends_line (x ∷ xs) ≡ (x ∷ xs) ∷ []) [
      | true ↦ λ (is : ends_line x ≡ true). absurd (none (grind (arith, nat_tests)))
      | false ↦ λ (is : ends_line x ≡ false).
          let later = whole_part xs (λ (below : position_or_len ends_line xs < length xs). none (grind (arith, nat_tests))) in
          rw (is, later) refl
    ] refl

pub lines_whole : (text : List ℕ) → position ends_line text ≡ None → 0 < length text → lines text ≡ text ∷ []
lines_whole text none some =
    let whole = whole_part text (no_place text none) in
    rw whole (grind (arith, nat_tests))

-- the lines that are left behind one that says nothing, and behind one that says something
pub left_passed : (gone : ℕ) (text line rest : List ℕ) → lines text ≡ line ∷ lines rest → is_passed_over line ≡ true → said_lines gone text ≡ said_lines (gone + 1) rest
unfolding said_lines
left_passed gone text line rest cut is = rw (cut, is) refl

pub left_said : (gone : ℕ) (text line rest : List ℕ) → lines text ≡ line ∷ lines rest → is_passed_over line ≡ false → said_lines gone text ≡ said (gone + 1) line ∷ said_lines (gone + 1) rest
unfolding said_lines
left_said gone text line rest cut is = rw (cut, is) refl

pub left_none : (gone : ℕ) (text : List ℕ) → length text ≡ 0 → said_lines gone text ≡ []
unfolding said_lines
left_none gone [] none = refl
left_none gone (byte ∷ text) none = absurd (omega arith)
