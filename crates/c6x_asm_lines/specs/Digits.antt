use Rattle.std.specs.Prelude.{ℕ, ◌+◌, ◌*◌, List, [], ◌∷◌, Option, Some, None}
use Rattle.c6x_asm_lines.specs.Lexemes.{digit_of, below_limit}

-- one more digit behind a number; a number that was too large stays so
abbrev pub one_more : ℕ → Option ℕ → ℕ → Option ℕ
one_more base None b = None
one_more base (Some n) b = below_limit (n * base + digit_of b)

abbrev pub continued : ℕ → Option ℕ → List ℕ → Option ℕ
continued base value [] = value
continued base value (b ∷ bs) = continued base (one_more base value b) bs
