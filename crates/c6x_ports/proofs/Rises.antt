use Rattle.std.proofs.Common.{ℕ, ◌≤◌, arith}
use Rattle.c6x_spec.specs.Files.{Rose}

-- a count that rose from a later value rose from an earlier one
pub Rose-later : (before amid now : ℕ) → before ≤ amid → Rose amid now → Rose before now
Rose-later before amid now kept rose = omega (arith, kept, rose)
