use Rattle.std.specs.Prelude.{ℕ, ◌+◌, List, slice_index}
use Rattle.c6x_base.specs.declared.side.Side.{Side}
use Rattle.c6x_base.specs.declared.side.Side.TheVariants.{A, B}

-- where a register stands among the 64: A0 to A31, then B0 to B31
abbrev pub place_of : Side → ℕ → ℕ
place_of A number = number
place_of B number = number + 32

-- the value of a register
abbrev pub register_of : List ℕ → Side → ℕ → ℕ
register_of registers side number = slice_index registers (place_of side number)
