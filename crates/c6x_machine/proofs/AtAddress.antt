-- The words of a packet stand at its address, and are a chain.
use Rattle.std.proofs.Common.{◌≡◌, ◌≢◌, ℕ, zero, suc, ◌+◌, ◌-◌, ◌*◌, ◌%◌, ◌^◌, ◌<◌, ◌≤◌, List, [], ◌∷◌, length, refl, sym, ap, subst, arith, Result, Ok, Err, Bool, true, false}
use Rattle.std.specs.Prelude.{◌==◌, slice_index, if◌then◌else◌}
use Rattle.std.proofs.lemmas.Bool.Decides.{nat_tests}
use Rattle.std.proofs.lemmas.Option.{slice_get_within}
use Rattle.c6x_encoding.specs.declared.instr.Instr.{Instr}
use Rattle.c6x_encoding.specs.Spelling.{Spells}
use Rattle.c6x_packet.specs.Packets.{AreSpelled, IsChain, IsPacketOf, split_of}
use Rattle.c6x_packet.proofs.Relation.{at_spelled, split_ok}
use Rattle.c6x_machine.specs.Laws.{IsPacketAt}
use Rattle.c6x_machine.specs.Packet.{IsChainOf, past, prepend, chain_by, longest, words_by}

-- eight words at most that go on are a chain
pub chain_whole : (words : List ℕ) → IsChainOf 8 words → IsChain words
chain_whole words k = record { some = k.some (omega arith); few = k.few; chained = k.chained; last = k.last }

-- the words from an address on, this many at most, are those of the bytes there
record StandsAt (may : ℕ → Bool) (word : ℕ → ℕ) (at most : ℕ) (words : List ℕ) : Type 0 where
  there : (k : ℕ) → k < length words → may (past at (4 * k)) ≡ true
  same : (k : ℕ) → k < length words → slice_index words k ≡ word (past at (4 * k))
  chain : IsChainOf most words

no_words : (may : ℕ → Bool) (word : ℕ → ℕ) (at : ℕ) → StandsAt may word at 0 []
no_words may word at = record {
  there = λ k below. absurd (omega arith);
  same = λ k below. absurd (omega arith);
  chain = record { few = omega arith; some = λ any. absurd (omega arith); chained = λ k below. absurd (omega arith); last = λ short. absurd (omega arith) };
}

last_word : (may : ℕ → Bool) (word : ℕ → ℕ) (at left : ℕ) → at < 2 ^ 32 → may at ≡ true → word at % 2 ≡ 0 → StandsAt may word at (suc left) (word at ∷ [])
last_word may word at left below ok even = record {
  there = λ k within.
      let here : at ≡ past at (4 * k) = omega arith in
      let P : ℕ → Type 0 = λ x. may x ≡ true in
      subst P here ok;
  same = λ k within.
      let first : k ≡ 0 = omega arith in
      let here : at ≡ past at (4 * k) = omega arith in
      let P : ℕ → Type 0 = λ x. slice_index (word at ∷ []) k ≡ word x in
      subst P here (rw first refl);
  chain = record { few = omega arith; some = λ any. omega arith; chained = λ k more. absurd (omega arith); last = λ short. even };
}

more_chained : (w : ℕ) (words : List ℕ) (left k : ℕ) → w % 2 ≢ 0 → IsChainOf left words → k + 1 < suc (length words) → slice_index (w ∷ words) k % 2 ≡ 1
more_chained w words left zero odd c within = omega arith
more_chained w words left (suc k) odd c within = c.chained k (omega arith)

more_last : (w : ℕ) (words : List ℕ) (left : ℕ) → IsChainOf left words → suc (length words) < suc left → slice_index (w ∷ words) (suc (length words) - 1) % 2 ≡ 0
more_last w [] left c short = absurd (let some : 1 ≤ 0 = c.some (omega arith) in omega arith)
more_last w (one ∷ words) left c short =
    let whole : suc (suc (length words)) - 1 ≡ suc (length words) = omega arith in
    let part : suc (length words) - 1 ≡ length words = omega arith in
    let old : slice_index (one ∷ words) (suc (length words) - 1) % 2 ≡ 0 = c.last (omega arith) in
    let P : ℕ → Type 0 = λ k. slice_index (one ∷ words) k % 2 ≡ 0 in
    rw whole (subst P part old)

one_more : (may : ℕ → Bool) (word : ℕ → ℕ) (at left k : ℕ) (words : List ℕ) → at < 2 ^ 32 → may at ≡ true → StandsAt may word (past at 4) left words → k < suc (length words) → (may (past at (4 * k)) ≡ true) × (slice_index (word at ∷ words) k ≡ word (past at (4 * k)))
one_more may word at left zero words below ok r within =
    let here : at ≡ past at (4 * 0) = omega arith in
    let P : ℕ → Type 0 = λ x. (may x ≡ true) × (word at ≡ word x) in
    subst P here (ok, refl)
one_more may word at left (suc k) words below ok r within =
    let here : past (past at 4) (4 * k) ≡ past at (4 * suc k) = omega arith in
    let P : ℕ → Type 0 = λ x. (may x ≡ true) × (slice_index words k ≡ word x) in
    subst P here (r.there k (omega arith), r.same k (omega arith))

more_words : (may : ℕ → Bool) (word : ℕ → ℕ) (at left : ℕ) (words : List ℕ) → at < 2 ^ 32 → may at ≡ true → word at % 2 ≢ 0 → StandsAt may word (past at 4) left words → StandsAt may word at (suc left) (word at ∷ words)
more_words may word at left words below ok odd r = record {
  there = λ k within. (one_more may word at left k words below ok r within).0;
  same = λ k within. (one_more may word at left k words below ok r within).1;
  chain = record {
    few = omega (arith, r.chain.few);
    some = λ any. omega arith;
    chained = λ k within. more_chained (word at) words left k odd r.chain within;
    last = λ short. more_last (word at) words left r.chain short;
  };
}

by_word : (may : ℕ → Bool) (word : ℕ → ℕ) (at left : ℕ) (words : List ℕ) (ok even : Bool) (rest : Result (List ℕ) ℕ) → at < 2 ^ 32 → ok ≡ may at → even ≡ (word at % 2 == 0) → ((more : List ℕ) → rest ≡ Ok more → StandsAt may word (past at 4) left more) → (if ok then (if even then Ok (word at ∷ []) else prepend (word at) rest) else Err at) ≡ Ok words → StandsAt may word at (suc left) words
by_word may word at left words false even rest below ok_is even_is more is = cc
by_word may word at left words true true rest below ok_is even_is more is =
    let same : (word at ∷ []) ≡ words = cc in
    let P : List ℕ → Type 0 = λ all. StandsAt may word at (suc left) all in
    subst P same (last_word may word at left below (sym ok_is) (grind (arith, nat_tests)))
by_word may word at left words true false (Ok some_words) below ok_is even_is more is =
    let same : (word at ∷ some_words) ≡ words = cc in
    let P : List ℕ → Type 0 = λ all. StandsAt may word at (suc left) all in
    let odd : word at % 2 ≢ 0 = grind (arith, nat_tests) in
    subst P same (more_words may word at left some_words below (sym ok_is) odd (more some_words refl))
by_word may word at left words true false (Err bad) below ok_is even_is more is = cc

chain_stands : (may : ℕ → Bool) (word : ℕ → ℕ) (at left : ℕ) (words : List ℕ) → at < 2 ^ 32 → chain_by may word at left ≡ Ok words → StandsAt may word at left words
chain_stands may word at zero words below is =
    let same : [] ≡ words = cc in
    let P : List ℕ → Type 0 = λ all. StandsAt may word at 0 all in
    subst P same (no_words may word at)
chain_stands may word at (suc left) words below is =
    by_word may word at left words (may at) (word at % 2 == 0) (chain_by may word (past at 4) left) below refl refl
    (λ more found. chain_stands may word (past at 4) left more (omega arith) found) is

same_length : (words : List ℕ) (instrs : List Instr) → AreSpelled words instrs → length words ≡ length instrs
same_length [] [] are = refl
same_length [] (i ∷ instrs) are = absurd are
same_length (word ∷ words) [] are = absurd are
same_length (word ∷ words) (i ∷ instrs) are = ap suc (same_length words instrs are.1)

by_test : (may : ℕ → Bool) (word : ℕ → ℕ) (at : ℕ) (words : List ℕ) (aligned : Bool) → at < 2 ^ 32 → aligned ≡ (at % 4 == 0) → (if aligned then chain_by may word at longest else Err at) ≡ Ok words → (at % 4 ≡ 0) × StandsAt may word at 8 words
unfolding longest
by_test may word at words true below test is = (grind (arith, nat_tests), chain_stands may word at 8 words below is)
by_test may word at words false below test is = cc

-- the packet of the words that stand at an address is the packet there
pub packet_at_words : (may : ℕ → Bool) (word : ℕ → ℕ) (at : ℕ) (words : List ℕ) (instrs : List Instr) → at < 2 ^ 32 → words_by may word at ≡ Ok words → split_of words ≡ Ok instrs → IsPacketAt may word at instrs
unfolding words_by
packet_at_words may word at words instrs below found split_is =
    let both : (at % 4 ≡ 0) × StandsAt may word at 8 words = by_test may word at words (at % 4 == 0) below refl found in
    let packet : IsPacketOf words instrs = (split_ok words (chain_whole words both.1.chain) instrs).0 split_is in
    let size : length words ≡ length instrs = same_length words instrs packet.spelled in
    record {
      aligned = both.0;
      there = λ k within. both.1.there k (omega arith);
      spelled = λ k i is.
          let within : k < length instrs = slice_get_within instrs k i is in
          let P : ℕ → Type 0 = λ w. Spells i w in
          subst P (both.1.same k (omega arith)) (at_spelled words instrs k i packet.spelled is);
      packet = packet.packet;
    }
