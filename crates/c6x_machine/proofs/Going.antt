-- How the machine goes on.
use Rattle.std.proofs.Common.{◌≡◌, ℕ, zero, suc, ◌+◌, ◌-◌, ◌≤◌, List, refl, ◌∙◌, ap, arith, Option, Some, None, add-zero, add-suc}
use Rattle.c6x_machine.specs.History.{Effect}
use Rattle.c6x_machine.specs.Machine.{Life, Outcome, Goes, Stops, after, outcome_of, next_by, next_of, go_on_by, going_by, alone_by, alone}
use Rattle.c6x_machine.specs.Origin.{Origin}
use Rattle.c6x_machine.specs.declared.end.End.{End}

after_count : (limit count : ℕ) (h : List Effect) (o : Outcome) → (after limit count h o).count ≡ count
after_count limit count h (Goes g) = refl
after_count limit count h (Stops end) = refl

pub next_count : (s : Origin) (l : Life) → (next_of s l).count ≡ l.count + 1
unfolding next_by
next_count s l = after_count s.limit (l.count + 1) l.history (outcome_of s l.history l.count)

go_none : (s : Origin) (l : Life) (o : Option End) → o ≡ None → go_on_by outcome_of s l o ≡ next_of s l
go_none s l o is = ap (λ (one : Option End). go_on_by outcome_of s l one) is

go_some : (s : Origin) (l : Life) (o : Option End) (end : End) → o ≡ Some end → go_on_by outcome_of s l o ≡ l
go_some s l o end is = ap (λ (one : Option End). go_on_by outcome_of s l one) is

-- a process that has not ended does one more cycle
pub alone_more : (s : Origin) (n : ℕ) → s.count ≤ n → (alone s n).ended ≡ None → alone s (n + 1) ≡ next_of s (alone s n)
unfolding alone_by going_by
alone_more s n began none =
    let more : n + 1 - s.count ≡ suc (n - s.count) = omega arith in
    rw more (go_none s (going_by outcome_of s (n - s.count)) (going_by outcome_of s (n - s.count)).ended none)

-- a process that has ended stays as it is
going_stays : (s : Origin) (k more : ℕ) (end : End) → (going_by outcome_of s k).ended ≡ Some end → going_by outcome_of s (k + more) ≡ going_by outcome_of s k
unfolding going_by
going_stays s k zero end ended = rw add-zero refl
going_stays s k (suc more) end ended =
    let before : going_by outcome_of s (k + more) ≡ going_by outcome_of s k = going_stays s k more end ended in
    rw add-suc (go_some s (going_by outcome_of s (k + more)) (going_by outcome_of s (k + more)).ended end (ap (λ (l : Life). l.ended) before ∙ ended) ∙ before)

pub alone_stays : (s : Origin) (n m : ℕ) (end : End) → s.count ≤ n → n ≤ m → (alone s n).ended ≡ Some end → alone s m ≡ alone s n
unfolding alone_by
alone_stays s n m end began up ended =
    let far : m - s.count ≡ (n - s.count) + (m - n) = omega arith in
    rw far (going_stays s (n - s.count) (m - n) end ended)

pub alone_counts : (s : Origin) (n : ℕ) → s.count ≤ n → (alone s n).ended ≡ None → (alone s (n + 1)).count ≡ (alone s n).count + 1
alone_counts s n began none = ap (λ (l : Life). l.count) (alone_more s n began none) ∙ next_count s (alone s n)

go_on_count : (s : Origin) (l : Life) (o : Option End) → l.count ≤ (go_on_by outcome_of s l o).count
go_on_count s l None = let more : (next_of s l).count ≡ l.count + 1 = next_count s l in omega arith
go_on_count s l (Some end) = omega arith

pub count_grows : (s : Origin) (k more : ℕ) → (going_by outcome_of s k).count ≤ (going_by outcome_of s (k + more)).count
unfolding going_by
count_grows s k zero = rw add-zero (omega arith)
count_grows s k (suc more) =
    let before : (going_by outcome_of s k).count ≤ (going_by outcome_of s (k + more)).count = count_grows s k more in
    let last : (going_by outcome_of s (k + more)).count ≤ (go_on_by outcome_of s (going_by outcome_of s (k + more)) (going_by outcome_of s (k + more)).ended).count = go_on_count s (going_by outcome_of s (k + more)) (going_by outcome_of s (k + more)).ended in
    rw add-suc (omega arith)
