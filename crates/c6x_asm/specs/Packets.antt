-- A packet goes from an instruction without `||` to the last one with it (SPRU732, "Parallel Operations").
use Rattle.std.specs.Prelude.{ℕ, ◌-◌, ◌%◌, nat_le, Bool, true, false, not, ◌&&◌, if◌then◌else◌, List, [], ◌∷◌, ◌++◌, length, map, take, slice_index, Option, Some, None, is_ok}
use Rattle.c6x_packet.specs.Packets.{split_of}
use Rattle.c6x_asm_object.specs.Sections.{odd}
use Rattle.c6x_asm_object.specs.declared.instr_word.InstrWord.{InstrWord}

-- the word with its p bit clear
abbrev pub even : ℕ → ℕ
even w = w - w % 2

-- the words of a packet, each but the last chained to the next one
unfoldable pub closed : List ℕ → List ℕ
closed words = map odd (take (length words - 1) words) ++ even (slice_index words (length words - 1)) ∷ []

-- one to eight words that may stand in one packet; no words are none to refuse
unfoldable pub is_packet : List ℕ → Bool
is_packet words =
    if nat_le (length words) 0 then true
    else if nat_le (length words) 8 then is_ok (split_of (closed words))
    else false

abbrev pub joined_to : Bool → List ℕ → ℕ → List ℕ
joined_to chained words word = if chained then words ++ word ∷ [] else word ∷ []

-- the first line of the first packet that is none, where `words` are those of the packet so far
abbrev pub bad_from : ℕ → List ℕ → List InstrWord → Option ℕ
bad_from line words [] = if is_packet words then None else Some line
bad_from line words (s ∷ instructions) =
    if not s.chained && not (is_packet words) then Some line
    else bad_from (if s.chained then line else s.line) (joined_to s.chained words s.word) instructions

unfoldable pub first_bad : List InstrWord → Option ℕ
first_bad instructions = bad_from 0 [] instructions
