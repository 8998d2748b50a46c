use Rattle.std.proofs.Common.{◌≡◌, ℕ, Bool, List, length, arith}
use Rattle.std.specs.Prelude.{None, Some}
use Rattle.std.specs.List.{position, position_or_len}
use Rattle.std.proofs.lemmas.Bool.Decides.{nat_tests}
use Rattle.std.proofs.lemmas.List.Sums.{prefix_len-le-length}

-- the first place that passes, and the length where none does
pub at_place : {A : Type 0} (test : A → Bool) (xs : List A) (place : ℕ) → position test xs ≡ Some place → position_or_len test xs ≡ place
at_place test xs place is = grind (arith, nat_tests)

pub at_end : {A : Type 0} (test : A → Bool) (xs : List A) → position test xs ≡ None → position_or_len test xs ≡ length xs
at_end test xs none = grind (arith, nat_tests, prefix_len-le-length)
