-- The rules on a link plan's index and table (SPRAB89 on the DSBT index; the table's limit is this project's own).
use Rattle.std.specs.Prelude.{ℕ, nat_le, nat_lt, ◌==◌, ◌&&◌, not, Bool, Option, if◌then◌else◌}
use Rattle.c6x_plan.specs.declared.limits.TheConstants.{MOST_SLOTS}
use Rattle.c6x_symbols.specs.Rules.{Refusal, ◌<|>◌, must, refusal}
use Rattle.c6x_symbols.specs.declared.link_rule.LinkRule.TheVariants.{BadIndex, BadSize}

-- The index of an executable is 0 and that of a library is not, and each has a slot in the table.
unfoldable pub has_index : Bool → ℕ → ℕ → Bool
has_index library index table = (if library then not (index == 0) else index == 0) && nat_lt index table

-- A table has a slot, and no more than it may have.
unfoldable pub has_size : ℕ → Bool
has_size table = nat_le 1 table && nat_le table MOST_SLOTS

-- K5 and then K6.
unfoldable pub tables_refusal : Bool → ℕ → ℕ → Option Refusal
tables_refusal library index table =
    must (has_index library index table) (refusal BadIndex 0 index) <|> must (has_size table) (refusal BadSize 0 table)
