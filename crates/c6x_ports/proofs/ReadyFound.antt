-- What is found among the ready numbers is one of them.
use Rattle.std.proofs.Common.{◌≡◌, ℕ, suc, ◌<◌, List, [], ◌∷◌, length, refl, sym, arith, Option, Some, None, Bool, true, false, cond}
use Rattle.std.specs.Prelude.{slice_index, nat_le, unwrap_or}
use Rattle.std.specs.List.{Contains, find}
use Rattle.c6x_ports.specs.Picks.{next_from}

found_by : (number found : ℕ) (numbers : List ℕ) (rest : Option ℕ) (test : Bool) → cond test (Some number) rest ≡ Some found → (rest ≡ Some found → Contains numbers found) → Contains (number ∷ numbers) found
found_by number found numbers rest true is more = let one : number ≡ found = cc in (0, omega arith, one)
found_by number found numbers rest false is more = let k : Contains numbers found = more is in (suc k.0, omega (arith, k.1), k.2)

found_among : (numbers : List ℕ) (from found : ℕ) → find (λ number. nat_le from number) numbers ≡ Some found → Contains numbers found
found_among [] from found is = cc
found_among (number ∷ numbers) from found is =
    found_by number found numbers (find (λ x. nat_le from x) numbers) (nat_le from number) is (λ more. found_among numbers from found more)

pub next_by : (numbers : List ℕ) (from : ℕ) (found : Option ℕ) → 0 < length numbers → found ≡ find (λ number. nat_le from number) numbers → Contains numbers (unwrap_or found (slice_index numbers 0))
next_by [] from None some is = absurd (omega arith)
next_by (number ∷ numbers) from None some is = (0, omega arith, refl)
next_by numbers from (Some x) some is = found_among numbers from x (sym is)

pub next_among : (ready : List ℕ) (from : ℕ) → 0 < length ready → Contains ready (next_from ready from)
unfolding next_from
next_among ready from some = next_by ready from (find (λ number. nat_le from number) ready) some refl
