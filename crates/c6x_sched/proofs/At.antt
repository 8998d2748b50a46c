-- The process at a number.
use Rattle.std.proofs.Common.{◌≡◌, ℕ, zero, suc, ◌<◌, List, [], ◌∷◌, length, refl, arith, Some}
use Rattle.std.specs.Prelude.{slice_get}
use Rattle.c6x_exec.specs.declared.process.Process.{Process}

pub record Found (ps : List Process) (k : ℕ) : Type 0 where
  pub process : Process
  pub is : slice_get ps k ≡ Some process

pub found_at : (ps : List Process) (k : ℕ) → k < length ps → Found ps k
found_at [] k within = absurd (omega arith)
found_at (p ∷ ps) zero within = record { process = p; is = refl }
found_at (p ∷ ps) (suc k) within = let rest : Found ps k = found_at ps k (omega arith) in record { process = rest.process; is = rest.is }
