-- Walks over the rows of a packet for the first fault.
use Rattle.std.proofs.Common.{◌≡◌, ℕ, ◌+◌, ◌<◌, List, [], ◌∷◌, length, drop, get_or, refl, sym, ◌∙◌, ap, arith, add-one, drop-cons, Option, None, Some, Bool, nat_lt, is_some, ◌||◌, ◌&&◌}
use Rattle.std.specs.List.{All}
use Rattle.std.proofs.lemmas.List.Elements.{All-nil, All-cons}
use Rattle.c6x_encoding.specs.declared.effect.Effects.{Effects}
use Rattle.c6x_encoding.specs.declared.mem_op.MemOp.{MemOp}
use Rattle.c6x_encoding.specs.Rows.{FitsEffects}
use Rattle.c6x_access.specs.declared.area.Area.{Area}
use Rattle.c6x_exec.specs.Fits.{IsClean}
use Rattle.c6x_machine.specs.History.{Effect, write_at, target_at}
use Rattle.c6x_machine.specs.Origin.{Origin}
use Rattle.c6x_machine.specs.Packet.{first_end, shares, two_stores, targets_in, two_targets, bad_read_of, bad_write_of, destinations_in, ends_if, fault_by, fault_of, ◌<|>◌}
use Rattle.c6x_exec.specs.Pending.{is_due, due}
use Rattle.c6x_machine.specs.declared.end.End.{End}
use Rattle.c6x_machine.specs.declared.fault_kind.FaultKind.TheVariants.{TwoBranches}
use Rattle.c6x_exec.proofs.Meetings.{later_destinations, meets_same}

pub first_rest : (test : Option MemOp → Option End) (rows : List Effects) (i : ℕ) (d : Effects) → i < length rows → first_end test (drop i rows) ≡ (test (get_or rows i d).access <|> first_end test (drop (i + 1) rows))
first_rest test rows i d within = ap (first_end test) (drop-cons rows i d within) ∙ rw add-one refl

pub two_stores_rest : (rows : List Effects) (i : ℕ) (d : Effects) → i < length rows → two_stores (drop i rows) ≡ (first_end (shares (get_or rows i d).access) (drop (i + 1) rows) <|> two_stores (drop (i + 1) rows))
two_stores_rest rows i d within = ap two_stores (drop-cons rows i d within) ∙ rw add-one refl

-- of two ends neither is there
neither : (a b : Option End) → (a <|> b) ≡ None → (a ≡ None) × (b ≡ None)
neither None b is = (refl, is)
neither (Some end) b is = cc

-- a packet without a fault has no access that breaks a right
first_none : (test : Option MemOp → Option End) (rows : List Effects) → first_end test rows ≡ None → All (λ (row : Effects). test row.access ≡ None) rows
first_none test [] is = All-nil (λ (row : Effects). test row.access ≡ None)
first_none test (row ∷ rows) is =
    let both : (test row.access ≡ None) × (first_end test rows ≡ None) = neither (test row.access) (first_end test rows) is in
    All-cons (λ (one : Effects). test one.access ≡ None) row rows both.0 (first_none test rows both.1)

pub clean_rows : (areas : List Area) (branches : Bool) (taken : ℕ → ℕ → Bool) (t at : ℕ) (rows : List Effects) → fault_by areas branches taken t at rows ≡ None → All (λ (row : Effects). IsClean areas row.access) rows
unfolding fault_by
clean_rows areas branches taken t at rows is =
    let rest = (neither (ends_if branches TwoBranches at) _ is).1 in
    let reads = neither (first_end (bad_read_of areas) rows) _ rest in
    let writes = neither (first_end (bad_write_of areas) rows) _ reads.1 in
    λ k d within. record { read = first_none (bad_read_of areas) rows reads.0 k d within; write = first_none (bad_write_of areas) rows writes.0 k d within }

-- the branches of one packet alone can meet
targets_meet : (count : ℕ) (later : Option ℕ) → later ≡ None → (nat_lt 1 count || (nat_lt 0 count && is_some later)) ≡ nat_lt 1 count
targets_meet count later none = rw none (grind arith)

pub faults_agree : (s : Origin) (h : List Effect) (n at : ℕ) (stamps values : List ℕ) (rows : List Effects) → All FitsEffects rows → target_at h (n + 6) ≡ None → ((t r : ℕ) → r < 64 → n < t → write_at h t r ≡ due stamps values t r) → fault_by s.areas (nat_lt 1 (targets_in rows)) (is_due stamps values) n at rows ≡ fault_of s h n at rows
unfolding fault_by two_targets
faults_agree s h n at stamps values rows fits none writes =
    rw (
      targets_meet (targets_in rows) (target_at h (n + 6)) none,
      meets_same n (is_due stamps values) (λ c r. is_some (write_at h c r)) (λ t r later there. ap is_some (sym (writes t r there later))) (destinations_in n rows) (later_destinations n rows fits),
    ) refl
