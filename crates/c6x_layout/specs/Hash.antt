-- The hash table of a linked module (gABI chapter 5, "Hash Table"): each bucket and each chain word is the number of the
-- next name of the bucket.
use Rattle.std.specs.Prelude.{ℕ, ◌+◌, ◌%◌, ◌==◌, List, [], ◌∷◌, ◌++◌, length, map, if◌then◌else◌}
use Rattle.std.specs.List.{range_with_len}
use Rattle.c6x_elf.specs.Names.{hash_of}

-- The number of the first name in this bucket of so many, where the first name's is `number`; 0 for none.
abbrev pub first_in : ℕ → ℕ → ℕ → List (List ℕ) → ℕ
first_in buckets bucket number [] = 0
first_in buckets bucket number (name ∷ names) =
    if hash_of 0 name % buckets == bucket then number else first_in buckets bucket (number + 1) names

-- The number of the next name of the same bucket, for each name.
abbrev pub chains_from : ℕ → ℕ → List (List ℕ) → List ℕ
chains_from buckets number [] = []
chains_from buckets number (name ∷ names) =
    first_in buckets (hash_of 0 name % buckets) (number + 1) names ∷ chains_from buckets (number + 1) names

-- As many buckets as symbols; the first three symbols are in none.
unfoldable pub buckets_of : ℕ → List (List ℕ) → List ℕ
buckets_of count names = map (λ bucket. first_in count bucket 3 names) (range_with_len 0 count)

unfoldable pub chains_of : ℕ → List (List ℕ) → List ℕ
chains_of count names = 0 ∷ 0 ∷ 0 ∷ chains_from count 3 names

-- The words: how many buckets and chains there are, the buckets, the chains.
unfoldable pub hash_words : List (List ℕ) → List ℕ
hash_words names =
    (length names + 3) ∷ (length names + 3) ∷ (buckets_of (length names + 3) names ++ chains_of (length names + 3) names)
