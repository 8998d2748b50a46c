-- The packets of a text, by what its lines say (docs/ASSEMBLY.md, "Packets").
use Rattle.std.specs.Prelude.{◌≡◌, ℕ, true, false, List, [], ◌∷◌, ◌++◌, map, None}
use Rattle.c6x_asm_object.specs.declared.instr_word.InstrWord.{InstrWord}
use Rattle.c6x_asm.specs.Said.{Said}
use Rattle.c6x_asm.specs.Sections.{is_among, lines_in, names_of_sections, words_in}
use Rattle.c6x_asm.specs.Packets.{is_packet}

-- `||` stands before each
abbrev pub AreJoined : List InstrWord → Type 0
AreJoined [] = Unit {0}
AreJoined (next ∷ rest) = (next.chained ≡ true) × AreJoined rest

-- the first of these does not join what stands before them
abbrev pub IsApart : List InstrWord → Type 0
IsApart [] = Unit {0}
IsApart (next ∷ rest) = next.chained ≡ false

-- a packet of instructions goes from one without `||` to the last one that joins it
pub record IsPacketOf (instructions : List InstrWord) (first : InstrWord) (joined : List InstrWord) : Type 0 where
  pub above : List InstrWord
  pub below : List InstrWord
  pub split : instructions ≡ above ++ first ∷ (joined ++ below)
  pub opens : first.chained ≡ false
  pub joins : AreJoined joined
  pub closes : IsApart below

-- the words of a packet
abbrev pub words_of : List InstrWord → List ℕ
words_of instructions = map (λ i. i.word) instructions

-- a packet of a section that these lines make is none that may be executed; its first instruction stands on this line
pub record BreaksPacket (text : List ℕ) (said : List Said) (line : ℕ) : Type 0 where
  pub name : List ℕ
  pub made : is_among (names_of_sections text said) name ≡ true
  pub first : InstrWord
  pub joined : List InstrWord
  pub packet : IsPacketOf (words_in (lines_in text name None said)) first joined
  pub breaks : is_packet (words_of (first ∷ joined)) ≡ false
  pub begins : line ≡ first.line

-- no packet of these lines is broken
abbrev pub BreakNoPacket : List ℕ → List Said → Type 0
BreakNoPacket text said = (line : ℕ) → BreaksPacket text said line → ⊥
