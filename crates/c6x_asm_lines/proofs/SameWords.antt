-- A test of two words without regard to case.
use Rattle.std.proofs.Common.{◌≡◌, ◌↔◌, Bool, ℕ, List, map, rules}
use Rattle.std.specs.Bool.{IsTrue}
use Rattle.std.specs.Char.{to_ascii_lowercase}
use Rattle.std.specs.Str.{str_eq_ignore_ascii_case}
use Rattle.std.proofs.lemmas.Slice.Eq.{bytes_eq-Decides}

pub same_letters_is : (xs ys : List ℕ) (r : Bool) → (IsTrue r ↔ (map to_ascii_lowercase xs ≡ map to_ascii_lowercase ys)) → r ≡ str_eq_ignore_ascii_case xs ys
same_letters_is xs ys r tested = search (rules, bytes_eq-Decides)
