-- The rules of the lines of a plan's text.
use Rattle.std.specs.Prelude.{ℕ}

-- Lowest first, numbered N1 to N3: a line of no form, a name that may not stand, and a count that is passed.
pub data PlanRule : Type 0 where
  Syntax : PlanRule
  Name : PlanRule
  Count : PlanRule

-- A rule that is broken on a line. Line 0 stands for the whole text.
pub record Broken : Type 0 where
  pub rule : PlanRule
  pub line : ℕ

abbrev pub broken_at : ℕ → PlanRule → Broken
broken_at number rule = record { rule = rule; line = number }
