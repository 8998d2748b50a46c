-- Loops over the words and the instructions of a packet, by what is left.

use Rattle.std.proofs.Common.{◌≡◌, ℕ, ◌+◌, ◌<◌, ◌≤◌, List, [], ◌∷◌, ◌++◌, length, take, drop, get_or, set, Option, Some, None, Result, Ok, Err, refl, sym, ◌∙◌, ap, arith, add-one, drop-cons, append_assoc, length-set}
use Rattle.std.proofs.lemmas.List.{take_more_set}
use Rattle.c6x_encoding.specs.declared.instr.Instr.{Instr}
use Rattle.c6x_encoding.specs.Decoded.{decoded}
use Rattle.c6x_packet.specs.declared.error.PacketError.{PacketError}
use Rattle.c6x_packet.specs.declared.error.PacketError.TheVariants.{BadWord}
use Rattle.c6x_packet.specs.Packets.{or_bad, spelled_from}

-- Instructions in front of what the rest of the words give.
abbrev pub prefixed : List Instr → Result (List Instr) PacketError → Result (List Instr) PacketError
prefixed front (Ok instrs) = Ok (front ++ instrs)
prefixed front (Err e) = Err e

prefixed_one : (front : List Instr) (i : Instr) (place : ℕ) (rest : Result (List Instr) PacketError) → prefixed front (or_bad place (Some i) rest) ≡ prefixed (front ++ i ∷ []) rest
prefixed_one front i place (Ok instrs) = ap Ok (sym (append_assoc front (i ∷ []) instrs))
prefixed_one front i place (Err e) = refl

spelled_rest : (words : List ℕ) (place : ℕ) → place < length words → spelled_from place (drop place words) ≡ or_bad place (decoded (get_or words place 0)) (spelled_from (place + 1) (drop (place + 1) words))
spelled_rest words place within = ap (spelled_from place) (drop-cons words place 0 within) ∙ rw add-one refl

-- The instructions so far, and what the rest of the words give, are what the words give.
pub record Spelling (words : List ℕ) (instrs : List Instr) (place : ℕ) : Type 0 where
  pub room : length instrs ≡ 8
  pub given : prefixed (take place instrs) (spelled_from place (drop place words)) ≡ spelled_from 0 words

pub Spelling-next : (words : List ℕ) (instrs : List Instr) (place : ℕ) (i : Instr) → place < length words → length words ≤ 8 → Spelling words instrs place → decoded (get_or words place 0) ≡ Some i → Spelling words (set instrs place i) (place + 1)
Spelling-next words instrs place i within few s is = record {
  room = length-set instrs place i ∙ s.room;
  given =
      ap (λ (front : List Instr). prefixed front (spelled_from (place + 1) (drop (place + 1) words))) (take_more_set instrs place i (omega (arith, s.room)))
      ∙ sym (prefixed_one (take place instrs) i place (spelled_from (place + 1) (drop (place + 1) words)))
      ∙ ap (λ (o : Option Instr). prefixed (take place instrs) (or_bad place o (spelled_from (place + 1) (drop (place + 1) words)))) (sym is)
      ∙ ap (prefixed (take place instrs)) (sym (spelled_rest words place within))
      ∙ s.given;
}

pub Spelling-bad : (words : List ℕ) (instrs : List Instr) (place : ℕ) → place < length words → Spelling words instrs place → decoded (get_or words place 0) ≡ None → spelled_from 0 words ≡ Err (BadWord place)
Spelling-bad words instrs place within s is =
    sym s.given
    ∙ ap (prefixed (take place instrs)) (spelled_rest words place within)
    ∙ ap (λ (o : Option Instr). prefixed (take place instrs) (or_bad place o (spelled_from (place + 1) (drop (place + 1) words)))) is
