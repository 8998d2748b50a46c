-- A table is written word by word.
use Rattle.std.proofs.Common.{◌≡◌, ℕ, ◌+◌, ◌*◌, ◌<◌, Bool, true, false, List, [], ◌∷◌, ◌++◌, length, map, refl, sym, ap, ◌∙◌, arith}
use Rattle.std.specs.List.{flat_map, range_with_len}
use Rattle.std.proofs.lemmas.Grind.{common_steps, flat_map-append}
use Rattle.std.proofs.lemmas.List.FromFn.{length-map-range_with_len, map-range_with_len_more}
use Rattle.c6x_spec.specs.Memory.{Memory, IsOnMemory, written}
use Rattle.c6x_spec.proofs.Writes.{written_behind, on_written}
use Rattle.c6x_load.specs.Values.{table_bytes, word_bytes, words_of}

pub length_word : (big : Bool) (value : ℕ) → length (word_bytes big value) ≡ 4
length_word true value = search common_steps
length_word false value = search common_steps

length_words : (big : Bool) (values : List ℕ) → length (words_of big values) ≡ 4 * length values
unfolding words_of
length_words big [] = refl
length_words big (v ∷ vs) =
    let one = length_word big v in
    let rest = length_words big vs in
    grind (arith, common_steps)

pub length_table : (big : Bool) (word : ℕ → ℕ) (n : ℕ) → length (table_bytes big word n) ≡ 4 * n
length_table big word n =
    length_words big (map word (range_with_len 0 n)) ∙ ap (λ (k : ℕ). 4 * k) (length-map-range_with_len word 0 n)

table_more : (big : Bool) (word : ℕ → ℕ) (i : ℕ) → table_bytes big word (i + 1) ≡ table_bytes big word i ++ word_bytes big (word i)
unfolding words_of
table_more big word i =
    ap (flat_map (word_bytes big)) (map-range_with_len_more word 0 i i (omega arith))
    ∙ flat_map-append (word_bytes big) (map word (range_with_len 0 i)) (word i ∷ []) ∙ search common_steps

-- one more word behind those before
pub one_word : (big : Bool) (word : ℕ → ℕ) (before middle after : Memory) (at place i : ℕ) → middle ≡ written before at (table_bytes big word i) → after ≡ written middle place (word_bytes big (word i)) → place ≡ at + 4 * i → IsOnMemory before at (4 * (i + 1)) → after ≡ written before at (table_bytes big word (i + 1))
one_word big word before middle after at place i first second is room =
    let len = length_table big word i in
    let last = length_word big (word i) in
    let above = room.above in
    let within = room.within in
    written_behind before middle after at place (table_bytes big word i) (word_bytes big (word i)) first second (omega arith) above (omega arith)
    ∙ ap (λ (bytes : List ℕ). written before at bytes) (sym (table_more big word i))

pub room_left : (big : Bool) (word : ℕ → ℕ) (before middle : Memory) (at i n place : ℕ) → middle ≡ written before at (table_bytes big word i) → i < n → IsOnMemory before at (4 * n) → place ≡ at + 4 * i → IsOnMemory middle place 4
room_left big word before middle at i n place is less room same =
    let len = length_table big word i in
    let above = room.above in
    let within = room.within in
    on_written before middle at (table_bytes big word i) is (record { above = above; within = omega arith }) place 4 (record { above = omega arith; within = omega arith })
