-- Packets that are known.
use Rattle.std.proofs.Common.{◌≡◌, ◌≤◌, ℕ, List, [], ◌∷◌, length, suc, ap, refl, sym, subst, arith, take, replicate, Ok}
use Rattle.std.specs.List.{All}
use Rattle.std.proofs.lemmas.List.Elements.{All-replicate, All-nil}
use Rattle.c6x_encoding.specs.declared.instr.Instr.{Instr}
use Rattle.c6x_encoding.specs.Spelling.{IsValid}
use Rattle.c6x_packet.specs.Packets.{AreSpelled, split_of, tested}
use Rattle.c6x_exec.specs.declared.known.Known.{Known}
use Rattle.c6x_exec.specs.Known.{IsKnown}

pub spelled_lengths : (words : List ℕ) (instrs : List Instr) → AreSpelled words instrs → length instrs ≡ length words
spelled_lengths [] [] all = refl
spelled_lengths [] (i ∷ instrs) all = absurd all
spelled_lengths (word ∷ words) [] all = absurd all
spelled_lengths (word ∷ words) (i ∷ instrs) all = ap suc (spelled_lengths words instrs all.1)

-- no words spell no instructions
no_words : split_of [] ≡ Ok []
unfolding split_of tested
no_words = refl

nothing_known : (k : Known) → k.count ≡ 0 → length k.words ≡ 8 → length k.instrs ≡ 8 → IsKnown k
nothing_known k none words instrs = record {
  few = omega arith;
  words = words;
  instrs = instrs;
  split = rw none no_words;
  valid = rw none (All-nil IsValid);
}

pub none_known : (k : Known) → k.count ≡ 0 → length k.words ≡ 8 → length k.instrs ≡ 8 → (n : ℕ) → All IsKnown (replicate n k)
none_known k none words instrs n = All-replicate IsKnown n k (nothing_known k none words instrs)

pub split_known : (words : List ℕ) (instrs : List Instr) (k : Known) → length words ≤ 8 → length instrs ≡ length words → split_of words ≡ Ok instrs → All IsValid instrs → k.count ≡ length words → take (length words) k.words ≡ words → take (length instrs) k.instrs ≡ instrs → length k.words ≡ 8 → length k.instrs ≡ 8 → IsKnown k
split_known words instrs k few same split valid count front instrs_front size instrs_size =
    let P : List Instr → Type 0 = λ all. All IsValid all in
    let all : take k.count k.instrs ≡ instrs = rw (count, ← same) instrs_front in
    record {
      few = rw count few;
      words = size;
      instrs = instrs_size;
      split = rw (all, count, front) split;
      valid = subst P (sym all) valid;
    }
