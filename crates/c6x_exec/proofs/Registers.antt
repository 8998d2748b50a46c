-- The registers at a cycle.
use Rattle.std.proofs.Common.{◌≡◌, ℕ, zero, suc, ◌+◌, ◌<◌, ◌≤◌, List, [], ◌∷◌, length, map, refl, sym, ◌∙◌, ap, arith, add-one, ◌≢◌, ◌%◌, ◌/◌, None}
use Rattle.std.specs.Prelude.{slice_index, unwrap_or}
use Rattle.std.specs.List.{range_with_len}
use Rattle.std.proofs.lemmas.Bool.Decides.{nat_tests}
use Rattle.std.proofs.lemmas.List.FromFn.{fill_by_all, get_or-map-range_with_len}
use Rattle.c6x_machine.specs.History.{Effect, Writes, write_at, register_at, registers_at}
use Rattle.c6x_exec.specs.Pending.{due, slot_of}

map_same : (f g : ℕ → ℕ) → ((x : ℕ) → f x ≡ g x) → (xs : List ℕ) → map f xs ≡ map g xs
map_same f g same [] = refl
map_same f g same (x ∷ xs) = rw (same x, map_same f g same xs) refl

-- a register is as before where nothing else landed by then
register_same : (start : ℕ → ℕ) (g h : List Effect) (n : ℕ) → ((t r : ℕ) → t ≤ n → write_at g t r ≡ write_at h t r) → (r : ℕ) → register_at start g n r ≡ register_at start h n r
register_same start g h zero same r = ap (λ found. unwrap_or found (start r)) (same 0 r (omega arith))
register_same start g h (suc n) same r =
    ap (λ found. unwrap_or found (register_at start g n r)) (same (suc n) r (omega arith))
    ∙ ap (λ old. unwrap_or (write_at h (suc n) r) old) (register_same start g h n (λ t q by. same t q (omega arith)) r)

pub registers_same : (start : ℕ → ℕ) (g h : List Effect) (n : ℕ) → ((t r : ℕ) → t ≤ n → write_at g t r ≡ write_at h t r) → registers_at start g n ≡ registers_at start h n
unfolding registers_at
registers_same start g h n same = map_same (λ r. register_at start g n r) (λ r. register_at start h n r) (register_same start g h n same) (range_with_len 0 64)

-- a write that lands later changes no register yet
pub registers_noted : (start : ℕ → ℕ) (h : List Effect) (n at place v : ℕ) → n < at → registers_at start (Writes at place v ∷ h) n ≡ registers_at start h n
registers_noted start h n at place v later = registers_same start (Writes at place v ∷ h) h n (λ t r by. grind (arith, nat_tests))

-- what is in the list of the registers
pub register_in : (start : ℕ → ℕ) (h : List Effect) (n r : ℕ) → r < 64 → slice_index (registers_at start h n) r ≡ register_at start h n r
unfolding registers_at
register_in start h n r within = get_or-map-range_with_len (λ q. register_at start h n q) 0 64 r r 0 within (omega arith)

-- one cycle on, each register has what lands there then
pub registers_landed : (start : ℕ → ℕ) (h : List Effect) (cycles n : ℕ) (old new stamps values : List ℕ) → cycles ≡ n → old ≡ registers_at start h n → length new ≡ 64 → ((r : ℕ) → r < 64 → write_at h (n + 1) r ≡ due stamps values (n + 1) r) → ((r : ℕ) → r < 64 → slice_index new r ≡ unwrap_or (due stamps values (cycles + 1) r) (slice_index old r)) → new ≡ registers_at start h (n + 1)
unfolding registers_at
registers_landed start h cycles n old new stamps values now was whole writes landed =
    fill_by_all (λ r. register_at start h (n + 1) r) new 64 0 whole
    (λ r within.
    landed r within
    ∙ ap (λ m. unwrap_or (due stamps values (m + 1) r) (slice_index old r)) now
    ∙ ap (λ found. unwrap_or found (slice_index old r)) (sym (writes r within))
    ∙ ap (λ value. unwrap_or (write_at h (n + 1) r) value) (ap (λ all. slice_index all r) was ∙ register_in start h n r within)
    ∙ rw add-one refl)

-- where no arrival is stamped nothing is due
pub nothing_due : (stamps values arrivals : List ℕ) (h : List Effect) (cycles n r : ℕ) → cycles ≡ n → write_at h (n + 1) r ≡ due stamps values (n + 1) r → (slice_index arrivals ((n + 1) % 8) ≢ n + 1 → write_at h (n + 1) r ≡ None) → slice_index arrivals ((cycles + 1) % 8) ≢ cycles + 1 → due stamps values (cycles + 1) r ≡ None
nothing_due stamps values arrivals h cycles n r now is quiet = rw now (λ apart. sym is ∙ quiet apart)

pub nothing_due_group : (stamps values groups : List ℕ) (h : List Effect) (cycles n r : ℕ) → cycles ≡ n → write_at h (n + 1) r ≡ due stamps values (n + 1) r → (slice_index groups (slot_of (n + 1) r / 8) ≢ n + 1 → write_at h (n + 1) r ≡ None) → slice_index groups (slot_of (cycles + 1) r / 8) ≢ cycles + 1 → due stamps values (cycles + 1) r ≡ None
nothing_due_group stamps values groups h cycles n r now is quiet = rw now (λ apart. sym is ∙ quiet apart)
