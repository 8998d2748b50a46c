-- What a packet of one row does that has neither an access nor a changed base register.
use Rattle.std.proofs.Common.{◌≡◌, ℕ, ◌+◌, List, [], ◌∷◌, ◌++◌, refl, arith, Option, None, Some, Bool, true, false, nat_lt, max, is_some, cond}
use Rattle.std.specs.List.{All}
use Rattle.std.proofs.lemmas.List.Elements.{All-nil, All-cons}
use Rattle.c6x_access.specs.declared.area.Area.{Area}
use Rattle.c6x_encoding.specs.declared.effect.Effects.{Effects}
use Rattle.c6x_encoding.specs.declared.write.Write.{Write}
use Rattle.c6x_encoding.specs.Rows.{FitsEffects}
use Rattle.c6x_machine.specs.History.{Effect, Issues}
use Rattle.c6x_machine.specs.Origin.{Origin}
use Rattle.c6x_machine.specs.Packet.{destination_of, ends_if, fault_by, targets_in, two_writes_by, with_packet, with_target, with_write}
use Rattle.c6x_machine.specs.declared.end.End.TheVariants.{Fault}
use Rattle.c6x_machine.specs.declared.fault_kind.FaultKind.TheVariants.{TwoWrites}

pub fits_one : (row : Effects) → FitsEffects row → All FitsEffects (row ∷ [])
fits_one row fits = All-cons FitsEffects row [] fits (All-nil FitsEffects)

few_by : (branches : Bool) → nat_lt 1 (0 + cond branches 1 0) ≡ false
few_by false = refl
few_by true = refl

few_targets : (row : Effects) → nat_lt 1 (targets_in (row ∷ [])) ≡ false
few_targets row = few_by (is_some row.target)

one_write : (taken : ℕ → ℕ → Bool) (t : ℕ) (written : Option Write) → two_writes_by taken ((destination_of t written ++ []) ++ []) ≡ two_writes_by taken (destination_of t written)
one_write taken t None = refl
one_write taken t (Some write) = refl

-- it is faulty only where its write lands with an earlier one
pub plain_fault : (areas : List Area) (taken : ℕ → ℕ → Bool) (t at : ℕ) (row : Effects) → row.access ≡ None → row.update ≡ None → fault_by areas (nat_lt 1 (targets_in (row ∷ []))) taken t at (row ∷ []) ≡ ends_if (two_writes_by taken (destination_of t row.result)) TwoWrites at
unfolding fault_by ends_if
plain_fault areas taken t at row no_access no_update = rw (no_access, no_update, few_targets row, one_write taken t row.result) refl

longest : (wait : ℕ) → max 0 wait ≡ wait
longest wait = grind arith

-- what it adds to the history
pub plain_packet : (s : Origin) (h : List Effect) (n next : ℕ) (row : Effects) → row.access ≡ None → row.update ≡ None → with_packet s h n next (row ∷ []) ≡ with_target row.target n (with_write row.result n (Issues n next row.wait ∷ h))
unfolding with_packet
plain_packet s h n next row no_access no_update = rw (no_access, no_update, longest row.wait) refl

pub taken_ends : (taken : Bool) (at : ℕ) → taken ≡ true → ends_if taken TwoWrites at ≡ Some (Fault TwoWrites at)
unfolding ends_if
taken_ends taken at is = rw is refl

pub free_ends : (taken : Bool) (at : ℕ) → taken ≡ false → ends_if taken TwoWrites at ≡ None
unfolding ends_if
free_ends taken at is = rw is refl
