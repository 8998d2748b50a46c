-- Execute packets (SPRU732, "Parallel Operations"), and the first rule that words break.

use Rattle.std.specs.Prelude.{◌≡◌, ℕ, ◌+◌, ◌-◌, ◌%◌, ◌<◌, ◌≤◌, nat_eq, Bool, true, false, ◌&&◌, List, [], ◌∷◌, length, slice_get, slice_index, Option, None, Some, Result, Ok, Err, if◌then◌else◌}
use Rattle.c6x_encoding.specs.declared.instr.Instr.{Instr}
use Rattle.c6x_encoding.specs.Spelling.{Spells}
use Rattle.c6x_encoding.specs.Decoded.{decoded}
use Rattle.c6x_packet.specs.declared.error.PacketError.{PacketError}
use Rattle.c6x_packet.specs.declared.error.PacketError.TheVariants.{BadWord, TooLong, UnitTwice, SameSide, CrossTwice}
use Rattle.c6x_packet.specs.declared.rule.PairRule.{PairRule}
use Rattle.c6x_packet.specs.declared.rule.PairRule.TheVariants.{Unit as UnitRule, Side as SideRule, Cross as CrossRule}
use Rattle.c6x_packet.specs.Rules.{breaks, some_pair}

-- Two instructions of the list, the one before the other, break the rule together.
pub record HaveTwo (rule : PairRule) (instrs : List Instr) : Type 0 where
  pub first : ℕ
  pub second : ℕ
  pub one : Instr
  pub other : Instr
  pub before : first < second
  pub is_one : slice_get instrs first ≡ Some one
  pub is_other : slice_get instrs second ≡ Some other
  pub broken : breaks rule one other ≡ true

-- One to eight instructions, chained to one another and to none behind them, of which no two use one unit, load or
-- store values of one side, or read different registers through one cross path.
pub record IsPacket (instrs : List Instr) : Type 0 where
  pub some : 1 ≤ length instrs
  pub few : length instrs ≤ 8
  pub chained : (k : ℕ) (i : Instr) → slice_get instrs k ≡ Some i → k + 1 < length instrs → i.chained ≡ true
  pub last : (i : Instr) → slice_get instrs (length instrs - 1) ≡ Some i → i.chained ≡ false
  pub units : HaveTwo UnitRule instrs → ⊥
  pub sides : HaveTwo SideRule instrs → ⊥
  pub crosses : HaveTwo CrossRule instrs → ⊥

-- The words spell the instructions, one by one.
abbrev pub AreSpelled : List ℕ → List Instr → Type 0
AreSpelled [] [] = Unit {0}
AreSpelled [] (i ∷ instrs) = ⊥
AreSpelled (word ∷ words) [] = ⊥
AreSpelled (word ∷ words) (i ∷ instrs) = Spells i word × AreSpelled words instrs

-- The words spell a packet.
pub record IsPacketOf (words : List ℕ) (instrs : List Instr) : Type 0 where
  pub spelled : AreSpelled words instrs
  pub packet : IsPacket instrs

-- The words are a chain: one to eight words, each but the last with its p bit set, and the last without it unless there
-- are eight.
pub record IsChain (words : List ℕ) : Type 0 where
  pub some : 1 ≤ length words
  pub few : length words ≤ 8
  pub chained : (k : ℕ) → k + 1 < length words → slice_index words k % 2 ≡ 1
  pub last : length words < 8 → slice_index words (length words - 1) % 2 ≡ 0

-- The first word that spells no instruction stands at this position.
pub record IsFirstUnspelled (words : List ℕ) (place : ℕ) : Type 0 where
  pub within : place < length words
  pub here : (i : Instr) → Spells i (slice_index words place) → ⊥
  pub before : (k : ℕ) → k < place → (i : Instr) × Spells i (slice_index words k)

-- There are eight words, and the eighth has its p bit set.
abbrev pub is_too_long : List ℕ → Bool
is_too_long words = nat_eq (length words) 8 && nat_eq (slice_index words 7 % 2) 1

-- The first rule that the words break.
abbrev pub IsFirstBroken : List ℕ → PacketError → Type 0
IsFirstBroken words (BadWord place) = IsFirstUnspelled words place
IsFirstBroken words TooLong = ((instrs : List Instr) × AreSpelled words instrs) × (is_too_long words ≡ true)
IsFirstBroken words UnitTwice =
    (instrs : List Instr) × AreSpelled words instrs × (is_too_long words ≡ false) × HaveTwo UnitRule instrs
IsFirstBroken words SameSide =
    (instrs : List Instr) × AreSpelled words instrs × (is_too_long words ≡ false) × (HaveTwo UnitRule instrs → ⊥)
    × HaveTwo SideRule instrs
IsFirstBroken words CrossTwice =
    (instrs : List Instr) × AreSpelled words instrs × (is_too_long words ≡ false) × (HaveTwo UnitRule instrs → ⊥)
    × (HaveTwo SideRule instrs → ⊥) × HaveTwo CrossRule instrs

abbrev pub or_bad : ℕ → Option Instr → Result (List Instr) PacketError → Result (List Instr) PacketError
or_bad place None rest = Err (BadWord place)
or_bad place (Some i) (Ok instrs) = Ok (i ∷ instrs)
or_bad place (Some i) (Err e) = Err e

-- The instructions of the words from a position on, or the first position of a word that spells none.
abbrev pub spelled_from : ℕ → List ℕ → Result (List Instr) PacketError
spelled_from place [] = Ok []
spelled_from place (word ∷ words) = or_bad place (decoded word) (spelled_from (place + 1) words)

-- The rules of a packet, in their order.
unfoldable pub tested : List ℕ → List Instr → Result (List Instr) PacketError
tested words instrs =
    if is_too_long words then Err TooLong
    else (if some_pair UnitRule instrs then Err UnitTwice
    else (if some_pair SideRule instrs then Err SameSide
    else (if some_pair CrossRule instrs then Err CrossTwice
    else Ok instrs)))

abbrev pub then_tested : List ℕ → Result (List Instr) PacketError → Result (List Instr) PacketError
then_tested words (Ok instrs) = tested words instrs
then_tested words (Err e) = Err e

-- The packet of the words, or the first rule that they break, as a function of the words.
unfoldable pub split_of : List ℕ → Result (List Instr) PacketError
split_of words = then_tested words (spelled_from 0 words)
