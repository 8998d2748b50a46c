-- Words that may each stand alone in a packet break no rule of packets.
use Rattle.std.proofs.Common.{◌≡◌, ℕ, ◌-◌, ◌%◌, true, false, List, [], ◌∷◌, ◌++◌, Some, None, refl}
use Rattle.c6x_encoding.specs.Decoded.{decoded}
use Rattle.c6x_encoding.specs.declared.cond.Cond.TheVariants.{Always}
use Rattle.c6x_encoding.specs.declared.instr.Instr.{Instr}
use Rattle.c6x_encoding.specs.declared.op.Op.{Op}
use Rattle.c6x_encoding.proofs.Facts.{decoded-spelled, spells-encoded}
use Rattle.c6x_packet.specs.Packets.{split_of, tested}
use Rattle.c6x_asm_object.specs.declared.instr_word.InstrWord.{InstrWord}
use Rattle.c6x_asm.specs.Instructions.{word_of}
use Rattle.c6x_asm.specs.Packets.{bad_from, closed, first_bad, is_packet}

abbrev plain : Op → Instr
plain op = record { condition = Always; op = op; chained = false }

packet : (i : Instr) (word : ℕ) → word - word % 2 ≡ word → decoded word ≡ Some i → is_packet (word ∷ []) ≡ true
unfolding is_packet closed split_of tested
packet i word even is = rw (even, is) refl

pub stands_alone : (op : Op) (word : ℕ) → word - word % 2 ≡ word → word_of Always op ≡ Some word → is_packet (word ∷ []) ≡ true
unfolding word_of
stands_alone op word even is = packet (plain op) word even (decoded-spelled (plain op) word (spells-encoded (plain op) word is))

-- no instruction is chained to the one before, and each may stand alone
abbrev pub AreAlone : List InstrWord → Type 0
AreAlone [] = Unit {0}
AreAlone (i ∷ instructions) = (i.chained ≡ false) × (is_packet (i.word ∷ []) ≡ true) × AreAlone instructions

pub one_alone : (instructions : List InstrWord) (i : InstrWord) → AreAlone instructions → i.chained ≡ false → is_packet (i.word ∷ []) ≡ true → AreAlone (instructions ++ i ∷ [])
one_alone [] i are chained alone = (chained, alone, tt)
one_alone (first ∷ instructions) i are chained alone = (are.0, are.1, one_alone instructions i are.2 chained alone)

none_from : (line : ℕ) (words : List ℕ) (instructions : List InstrWord) → is_packet words ≡ true → AreAlone instructions → bad_from line words instructions ≡ None
none_from line words [] is are = rw is refl
none_from line words (i ∷ instructions) is are = rw (are.0, is) (none_from i.line (i.word ∷ []) instructions are.1 are.2)

pub none_bad : (instructions : List InstrWord) → AreAlone instructions → first_bad instructions ≡ None
unfolding first_bad is_packet
none_bad instructions are = none_from 0 [] instructions refl are
