-- The parts of a text are found where they stand.
use Rattle.std.proofs.Common.{◌≡◌, ℕ, ◌+◌, List, [], ◌∷◌, ◌++◌, length, sym, ◌∙◌, ap, arith}
use Rattle.std.proofs.lemmas.List.{append_assoc, length-append}
use Rattle.std.specs.List.{slice_range}
use Rattle.c6x_asm_lines.specs.Bytes.{bytes_at}
use Rattle.c6x_dis.proofs.Lexed.{bytes_seam, seam}
use Rattle.c6x_dis.specs.Parts.{AreAt, line_before, line_length, lines_before, LinesAreAt, number, Part, part_bytes, punctuator, quoted, space, word}

-- a text that goes on with these bytes from this offset on
pub record Goes (text : List ℕ) (at : ℕ) (rest : List ℕ) : Type 0 where
  pub front : List ℕ
  pub is : text ≡ front ++ rest
  pub place : at ≡ length front

pub goes_on : (text : List ℕ) (at : ℕ) (bs rest : List ℕ) → Goes text at (bs ++ rest) → Goes text (at + length bs) rest
goes_on text at bs rest goes = record {
  front = goes.front ++ bs;
  is = goes.is ∙ sym (append_assoc goes.front bs rest);
  place = omega (arith, goes.place, length-append goes.front bs);
}

-- the bytes from there on
pub range_is : (text : List ℕ) (at : ℕ) (bs rest : List ℕ) → Goes text at (bs ++ rest) → slice_range text at (at + length bs) ≡ bs
range_is text at bs rest goes = rw goes.is (seam goes.front bs rest at goes.place)

bytes_are : (text : List ℕ) (at : ℕ) (bs rest : List ℕ) → Goes text at (bs ++ rest) → bytes_at text at (length bs) ≡ bs
bytes_are text at bs rest goes = bytes_seam text goes.front bs rest at goes.is goes.place

-- what stands between quotes
inside : (text : List ℕ) (at : ℕ) (bs rest : List ℕ) → Goes text at ((34 ∷ bs ++ 34 ∷ []) ++ rest) → Goes text (at + 1) (bs ++ 34 ∷ rest)
inside text at bs rest goes =
    let open_quote = goes_on text at (34 ∷ []) ((bs ++ 34 ∷ []) ++ rest) goes in
    record {
      front = open_quote.front;
      is = open_quote.is ∙ ap (λ xs. open_quote.front ++ xs) (append_assoc bs (34 ∷ []) rest);
      place = open_quote.place;
    }

pub parts_found : (text : List ℕ) (at : ℕ) (parts : List Part) (rest : List ℕ) → Goes text at (line_before parts rest) → AreAt text at parts
parts_found text at [] rest goes = tt
parts_found text at (word bs ∷ parts) rest goes =
    (bytes_are text at bs (line_before parts rest) goes, parts_found text (at + length bs) parts rest (goes_on text at bs (line_before parts rest) goes))
parts_found text at (number bs ∷ parts) rest goes = parts_found text (at + length bs) parts rest (goes_on text at bs (line_before parts rest) goes)
parts_found text at (quoted bs ∷ parts) rest goes = (
  bytes_are text (at + 1) bs (34 ∷ line_before parts rest) (inside text at bs (line_before parts rest) goes),
  parts_found text (at + length (part_bytes (quoted bs))) parts rest (goes_on text at (part_bytes (quoted bs)) (line_before parts rest) goes),
)
parts_found text at (punctuator b ∷ parts) rest goes = parts_found text (at + 1) parts rest (goes_on text at (b ∷ []) (line_before parts rest) goes)
parts_found text at (space ∷ parts) rest goes = parts_found text (at + 1) parts rest (goes_on text at (32 ∷ []) (line_before parts rest) goes)

-- what stands behind a line
pub behind_line : (text : List ℕ) (at : ℕ) (parts : List Part) (rest : List ℕ) → Goes text at (line_before parts rest) → Goes text (at + line_length parts) rest
behind_line text at [] rest goes = goes_on text at (10 ∷ []) rest goes
behind_line text at (p ∷ parts) rest goes =
    let next = behind_line text (at + length (part_bytes p)) parts rest (goes_on text at (part_bytes p) (line_before parts rest) goes) in
    record { front = next.front; is = next.is; place = omega (arith, next.place) }

pub lines_found : (text : List ℕ) (at : ℕ) (lines : List (List Part)) (rest : List ℕ) → Goes text at (lines_before lines rest) → LinesAreAt text at lines
lines_found text at [] rest goes = tt
lines_found text at (line ∷ lines) rest goes =
    (parts_found text at line (lines_before lines rest) goes, lines_found text (at + line_length line) lines rest (behind_line text at line (lines_before lines rest) goes))
