-- A noted effect is the newest of the history.
use Rattle.std.proofs.Common.{List, None, Some, ap, arith, get_or-set_other, get_or-set_same, inl, inr, length, nat_lt, sym, ℕ, ◌%◌, ◌/◌, ◌+◌, ◌<◌, ◌∙◌, ◌∷◌, ◌≡◌, ◌≢◌, ◌≤◌}
use Rattle.std.specs.Prelude.{slice_set, slice_index, if◌then◌else◌}
use Rattle.std.proofs.lemmas.Bool.{cases_eq}
use Rattle.std.proofs.lemmas.Bool.Decides.{nat_tests}
use Rattle.c6x_machine.specs.History.{Effect, Writes, Branches, write_at, target_at}
use Rattle.c6x_exec.specs.Pending.{slot_of, due, target_due}
use Rattle.c6x_exec.proofs.Slots.{due_noted, target_noted}

pub writes_noted : (stamps values : List ℕ) (h : List Effect) (n at place v : ℕ) → length stamps ≡ 512 → length values ≡ 512 → place < 64 → n < at → at ≤ n + 5 → ((t r : ℕ) → r < 64 → n < t → write_at h t r ≡ due stamps values t r) → ((t r : ℕ) → n + 1 + 4 < t → write_at h t r ≡ None) → (t r : ℕ) → r < 64 → n < t → write_at (Writes at place v ∷ h) t r ≡ due (slice_set stamps (slot_of at place) at) (slice_set values (slot_of at place) v) t r
writes_noted stamps values h n at place v in_stamps in_values fits later soon writes late t r r_fits after =
    due_noted stamps values at place v t r (write_at h t r) in_stamps in_values fits r_fits (writes t r r_fits after) (λ same apart. late t r (omega arith))

pub targets_noted : (stamps targets : List ℕ) (h : List Effect) (n at v : ℕ) → length stamps ≡ 8 → length targets ≡ 8 → n < at → at ≤ n + 6 → ((t : ℕ) → n + 1 ≤ t → target_at h t ≡ target_due stamps targets t) → ((t : ℕ) → n + 1 + 5 < t → target_at h t ≡ None) → (t : ℕ) → n + 1 ≤ t → target_at (Branches at v ∷ h) t ≡ target_due (slice_set stamps (at % 8) at) (slice_set targets (at % 8) v) t
targets_noted stamps targets h n at v in_stamps in_targets later soon targets_are late t after =
    target_noted stamps targets at v t (target_at h t) in_stamps in_targets (targets_are t after) (λ same apart. late t (omega arith))

-- what lands later than the new write is as before
pub late_noted : (h : List Effect) (n at place v : ℕ) → at ≤ n + 5 → ((t r : ℕ) → n + 1 + 4 < t → write_at h t r ≡ None) → (t r : ℕ) → n + 1 + 4 < t → write_at (Writes at place v ∷ h) t r ≡ None
late_noted h n at place v soon late t r after = let old : write_at h t r ≡ None = late t r after in rw old (grind (arith, nat_tests))

pub late_target_noted : (h : List Effect) (n at v : ℕ) → at ≤ n + 6 → ((t : ℕ) → n + 1 + 5 < t → target_at h t ≡ None) → (t : ℕ) → n + 1 + 5 < t → target_at (Branches at v ∷ h) t ≡ None
late_target_noted h n at v soon late t after = let old : target_at h t ≡ None = late t after in rw old (grind (arith, nat_tests))

-- the same as the code writes it, with the cycle and the slot that it worked out
pub writes_kept : (stamps values : List ℕ) (h : List Effect) (cycles n delay found place slot v : ℕ) → length stamps ≡ 512 → length values ≡ 512 → place < 64 → delay ≤ 4 → cycles ≡ n → found ≡ place → slot ≡ slot_of (cycles + 1 + delay) found → ((t r : ℕ) → r < 64 → n < t → write_at h t r ≡ due stamps values t r) → ((t r : ℕ) → n + 1 + 4 < t → write_at h t r ≡ None) → (t r : ℕ) → r < 64 → n < t → write_at (Writes (n + 1 + delay) place v ∷ h) t r ≡ due (slice_set stamps slot (cycles + 1 + delay)) (slice_set values slot v) t r
writes_kept stamps values h cycles n delay found place slot v in_stamps in_values fits soon now at_place in_slot writes late t r r_fits after =
    rw (in_slot, at_place, now) (writes_noted stamps values h n (n + 1 + delay) place v in_stamps in_values fits (omega arith) (omega arith) writes late t r r_fits after)

pub targets_kept : (stamps targets : List ℕ) (h : List Effect) (cycles n delay v : ℕ) → length stamps ≡ 8 → length targets ≡ 8 → 1 ≤ delay → delay ≤ 6 → cycles ≡ n → ((t : ℕ) → n + 1 ≤ t → target_at h t ≡ target_due stamps targets t) → ((t : ℕ) → n + 1 + 5 < t → target_at h t ≡ None) → (t : ℕ) → n + 1 ≤ t → target_at (Branches (n + delay) v ∷ h) t ≡ target_due (slice_set stamps ((cycles + delay) % 8) (cycles + delay)) (slice_set targets ((cycles + delay) % 8) v) t
targets_kept stamps targets h cycles n delay v in_stamps in_targets some soon now targets_are late t after =
    rw now (targets_noted stamps targets h n (n + delay) v in_stamps in_targets (omega arith) (omega arith) targets_are late t after)

-- the issue waits through the cycle plus its wait
pub behind_kept : (cycles n wait next t : ℕ) → cycles ≡ n → (if nat_lt (n + wait) t then Some next else None) ≡ (if nat_lt t (cycles + 1 + wait) then None else Some next)
behind_kept cycles n wait next t now = grind (arith, nat_tests)

-- a write that is noted is a stamp of its part
arrivals_noted : (arrivals : List ℕ) (h : List Effect) (n at place v t r : ℕ) → length arrivals ≡ 8 → n < at → at ≤ n + 5 → (slice_index arrivals (t % 8) ≢ t → write_at h t r ≡ None) → (n + 1 + 4 < t → write_at h t r ≡ None) → n < t → slice_index (slice_set arrivals (at % 8) at) (t % 8) ≢ t → write_at (Writes at place v ∷ h) t r ≡ None
arrivals_noted arrivals h n at place v t r whole later soon old late after apart = elim (cases_eq (t % 8) (at % 8)) [
  | inl same ↦
      let stamp : slice_index (slice_set arrivals (at % 8) at) (t % 8) ≡ at = ap (λ (m : ℕ). slice_index (slice_set arrivals (at % 8) at) m) same ∙ get_or-set_same arrivals (at % 8) at 0 (omega arith) in
      let other : at ≢ t = λ e. apart (stamp ∙ e) in
      let gone : write_at h t r ≡ None = late (omega arith) in
      rw gone (grind (arith, nat_tests))
  | inr differ ↦
      let stamp : slice_index (slice_set arrivals (at % 8) at) (t % 8) ≡ slice_index arrivals (t % 8) = get_or-set_other arrivals (at % 8) (t % 8) at 0 differ in
      let other : at ≢ t = λ e. differ (ap (λ (m : ℕ). m % 8) (sym e)) in
      let gone : write_at h t r ≡ None = old (λ e. apart (stamp ∙ e)) in
      rw gone (grind (arith, nat_tests))
]

pub arrivals_kept : (arrivals : List ℕ) (h : List Effect) (cycles n delay place v : ℕ) → length arrivals ≡ 8 → n < n + 1 + delay → delay ≤ 4 → cycles ≡ n → ((t r : ℕ) → r < 64 → n < t → slice_index arrivals (t % 8) ≢ t → write_at h t r ≡ None) → ((t r : ℕ) → n + 1 + 4 < t → write_at h t r ≡ None) → (t r : ℕ) → r < 64 → n < t → slice_index (slice_set arrivals ((cycles + 1 + delay) % 8) (cycles + 1 + delay)) (t % 8) ≢ t → write_at (Writes (n + 1 + delay) place v ∷ h) t r ≡ None
arrivals_kept arrivals h cycles n delay place v whole later soon now old late t r there after =
    rw now (λ apart. arrivals_noted arrivals h n (n + 1 + delay) place v t r whole later (omega arith) (old t r there after) (late t r) after apart)

-- the same for the eight registers of a group
groups_noted : (groups : List ℕ) (h : List Effect) (n at place v t r : ℕ) → length groups ≡ 64 → place < 64 → r < 64 → n < at → at ≤ n + 5 → (slice_index groups (slot_of t r / 8) ≢ t → write_at h t r ≡ None) → (n + 1 + 4 < t → write_at h t r ≡ None) → n < t → slice_index (slice_set groups (slot_of at place / 8) at) (slot_of t r / 8) ≢ t → write_at (Writes at place v ∷ h) t r ≡ None
groups_noted groups h n at place v t r whole fits r_fits later soon old late after apart = elim (cases_eq (slot_of t r / 8) (slot_of at place / 8)) [
  | inl same ↦
      let stamp : slice_index (slice_set groups (slot_of at place / 8) at) (slot_of t r / 8) ≡ at = ap (λ (m : ℕ). slice_index (slice_set groups (slot_of at place / 8) at) m) same ∙ get_or-set_same groups (slot_of at place / 8) at 0 (omega arith) in
      let other : at ≢ t = λ e. apart (stamp ∙ e) in
      let part : t % 8 ≡ at % 8 = omega arith in
      let gone : write_at h t r ≡ None = late (omega arith) in
      rw gone (grind (arith, nat_tests))
  | inr differ ↦
      let stamp : slice_index (slice_set groups (slot_of at place / 8) at) (slot_of t r / 8) ≡ slice_index groups (slot_of t r / 8) = get_or-set_other groups (slot_of at place / 8) (slot_of t r / 8) at 0 differ in
      let gone : write_at h t r ≡ None = old (λ e. apart (stamp ∙ e)) in
      elim (cases_eq at t) [
        | inl now ↦
            let other : place ≢ r = λ f. differ (ap (λ (m : ℕ). slot_of m r / 8) (sym now) ∙ ap (λ (m : ℕ). slot_of at m / 8) (sym f)) in
            rw gone (grind (arith, nat_tests))
        | inr other ↦ rw gone (grind (arith, nat_tests))
      ]
]

pub groups_kept : (groups : List ℕ) (h : List Effect) (cycles n delay found place slot v : ℕ) → length groups ≡ 64 → place < 64 → delay ≤ 4 → cycles ≡ n → found ≡ place → slot ≡ slot_of (cycles + 1 + delay) found → ((t r : ℕ) → r < 64 → n < t → slice_index groups (slot_of t r / 8) ≢ t → write_at h t r ≡ None) → ((t r : ℕ) → n + 1 + 4 < t → write_at h t r ≡ None) → (t r : ℕ) → r < 64 → n < t → slice_index (slice_set groups (slot / 8) (cycles + 1 + delay)) (slot_of t r / 8) ≢ t → write_at (Writes (n + 1 + delay) place v ∷ h) t r ≡ None
groups_kept groups h cycles n delay found place slot v whole fits soon now at_place in_slot old late t r there after =
    rw (in_slot, at_place, now) (λ apart. groups_noted groups h n (n + 1 + delay) place v t r whole fits there (omega arith) (omega arith) (old t r there after) (late t r) after apart)
