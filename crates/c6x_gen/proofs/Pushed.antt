-- One instruction more, and the first of a list that passes a test.
use Rattle.std.proofs.Common.{◌≡◌, ℕ, suc, zero, ◌+◌, ◌*◌, ◌<◌, eqb, Bool, true, false, List, [], ◌∷◌, ◌++◌, length, Some, None, refl, sym, ◌∙◌, ap, arith, ⊎_elim}
use Rattle.std.proofs.lemmas.Bool.{cases_eq, ne_eqb, eq-eqb}
use Rattle.std.proofs.lemmas.Grind.{flat_map-append}
use Rattle.std.proofs.lemmas.List.{length-append}
use Rattle.std.proofs.lemmas.List.Folds.{prefix_len-append}
use Rattle.std.specs.Int.{to_le_bytes, w32}
use Rattle.std.specs.List.{flat_map, prefix_len}
use Rattle.c6x_asm_object.specs.Sections.{with_bytes, with_instruction, with_number, with_parallel}
use Rattle.c6x_asm_object.specs.declared.instr_word.InstrWord.{InstrWord}
use Rattle.c6x_asm_object.specs.declared.reloc_entry.RelocEntry.{RelocEntry}
use Rattle.c6x_gen.specs.Lists.{each_below}
use Rattle.c6x_gen.specs.Objects.{code_of, instruction}

abbrev word_bytes : InstrWord → List ℕ
word_bytes i = to_le_bytes w32 i.word

bytes_more : (instructions : List InstrWord) (line word : ℕ) → flat_map word_bytes (instructions ++ instruction line word ∷ []) ≡ flat_map word_bytes instructions ++ to_le_bytes w32 word
bytes_more instructions line word = flat_map-append word_bytes instructions (instruction line word ∷ [])

size_more : (instructions : List InstrWord) (i : InstrWord) → 4 * length (instructions ++ i ∷ []) ≡ 4 * length instructions + 4
size_more instructions i = omega (arith, length-append instructions (i ∷ []))

pub code_more : (instructions : List InstrWord) (entries : List RelocEntry) (line word : ℕ) → with_instruction (instruction line word) None (code_of instructions entries) ≡ code_of (instructions ++ instruction line word ∷ []) entries
unfolding with_instruction with_number with_bytes with_parallel
code_more instructions entries line word =
    rw (bytes_more instructions line word, size_more instructions (instruction line word)) refl

pub code_with : (instructions : List InstrWord) (entries : List RelocEntry) (line word : ℕ) (entry : RelocEntry) → with_instruction (instruction line word) (Some entry) (code_of instructions entries) ≡ code_of (instructions ++ instruction line word ∷ []) (entries ++ entry ∷ [])
unfolding with_instruction with_number with_bytes with_parallel
code_with instructions entries line word entry =
    rw (bytes_more instructions line word, size_more instructions (instruction line word)) refl

-- lists of one for each number
pub length_each : {X : Type 0} (g : ℕ → X) (count : ℕ) → length (each_below count (λ i. g i ∷ [])) ≡ count
unfolding each_below
length_each g zero = refl
length_each g (suc last) = omega (arith, length-append (each_below last (λ i. g i ∷ [])) (g last ∷ []), length_each g last)

front_passes : {X : Type 0} (q : X → Bool) (xs ys : List X) (count : ℕ) → length xs ≡ count → prefix_len q xs ≡ count → prefix_len q (xs ++ ys) ≡ count + prefix_len q ys
front_passes q xs ys count long passes =
    let all : eqb (prefix_len q xs) (length xs) ≡ true = rw (passes, long) (eq-eqb count count refl) in
    prefix_len-append q xs ys ∙ rw (all, long) refl

pub all_pass : {X : Type 0} (q : X → Bool) (g : ℕ → X) (count : ℕ) → ((i : ℕ) → i < count → q (g i) ≡ true) → prefix_len q (each_below count (λ i. g i ∷ [])) ≡ count
unfolding each_below
all_pass q g zero each = refl
all_pass q g (suc last) each =
    let front = all_pass q g last (λ i below. each i (omega (arith, below))) in
    front_passes q (each_below last (λ i. g i ∷ [])) (g last ∷ []) last (length_each g last) front ∙ rw (each last (omega arith)) (omega arith)

pub first_stops : {X : Type 0} (q : X → Bool) (g : ℕ → X) (count stop : ℕ) → stop < count → ((i : ℕ) → i < stop → q (g i) ≡ true) → q (g stop) ≡ false → prefix_len q (each_below count (λ i. g i ∷ [])) ≡ stop
unfolding each_below
first_stops q g zero stop below each is = absurd (omega arith)
first_stops q g (suc last) stop below each is =
    ⊎_elim
    (λ same.
    let front : prefix_len q (each_below last (λ i. g i ∷ [])) ≡ last = all_pass q g last (λ i less. each i (omega (arith, less, same))) in
    let here : q (g last) ≡ false = ap (λ k. q (g k)) (sym same) ∙ is in
    let none : prefix_len q (g last ∷ []) ≡ 0 = rw here refl in
    front_passes q (each_below last (λ i. g i ∷ [])) (g last ∷ []) last (length_each g last) front ∙ omega (arith, none, same))
    (λ differs.
    let front : prefix_len q (each_below last (λ i. g i ∷ [])) ≡ stop = first_stops q g last stop (omega arith) each is in
    let short : eqb (prefix_len q (each_below last (λ i. g i ∷ []))) (length (each_below last (λ i. g i ∷ []))) ≡ false = rw (front, length_each g last) (ne_eqb stop last differs) in
    prefix_len-append q (each_below last (λ i. g i ∷ [])) (g last ∷ []) ∙ rw short front)
    (cases_eq stop last)
