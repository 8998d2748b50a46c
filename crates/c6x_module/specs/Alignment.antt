use Rattle.std.specs.Prelude.{ℕ, Bool, ◌==◌, ◌&&◌, ◌||◌, nat_le}
use Rattle.std.specs.Int.{is_power_of_two}

-- An alignment of a load segment (gABI chapter 5, `p_align`): none, or a power of two. That it is at most 65,536 is
-- this project's own limit.
abbrev pub is_alignment : ℕ → Bool
is_alignment align = align == 0 || (is_power_of_two align && nat_le align 65536)
