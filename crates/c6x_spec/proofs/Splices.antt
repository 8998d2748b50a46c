use Rattle.std.proofs.Common.{◌≡◌, ℕ, ◌+◌, ◌<◌, ◌≤◌, ◌⊎◌, List, length, arith}
use Rattle.std.specs.Prelude.{slice_index}
use Rattle.std.proofs.lemmas.Grind.{common_steps}
use Rattle.std.proofs.lemmas.List.{places}
use Rattle.std.proofs.lemmas.Bool.Decides.{nat_tests}
use Rattle.c6x_spec.specs.Memory.{spliced}

-- a splice within the bytes keeps their number
pub length_spliced : (bytes : List ℕ) (at : ℕ) (new : List ℕ) → at + length new ≤ length bytes → length (spliced bytes at new) ≡ length bytes
unfolding spliced
length_spliced bytes at new within = grind (arith, common_steps)

-- a byte inside the new ones is theirs
pub spliced_inside : (bytes : List ℕ) (at : ℕ) (new : List ℕ) (place offset : ℕ) → place ≡ at + offset → at + length new ≤ length bytes → offset < length new → slice_index (spliced bytes at new) place ≡ slice_index new offset
unfolding spliced
spliced_inside bytes at new place offset is within inside = grind (arith, places, nat_tests)

-- a byte in front of the new ones, or behind them, is as before
pub spliced_outside : (bytes : List ℕ) (at : ℕ) (new : List ℕ) (place : ℕ) → at + length new ≤ length bytes → (place < at) ⊎ (at + length new ≤ place) → slice_index (spliced bytes at new) place ≡ slice_index bytes place
unfolding spliced
spliced_outside bytes at new place within outside = grind (arith, places, nat_tests)
