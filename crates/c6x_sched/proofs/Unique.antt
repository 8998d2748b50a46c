-- A named kind of policy has one play.
use Rattle.std.proofs.Common.{◌≡◌, ◌∙◌, ◌<◌, ◌≤◌, ℕ, zero, suc, List, [], ◌∷◌, length, refl, sym, ap, subst, arith, min, ◌-◌, ◌⊎◌, inl, inr}
use Rattle.std.specs.Prelude.{IsTrue}
use Rattle.c6x_machine.specs.Machine.{life}
use Rattle.c6x_ports.specs.Picks.{is_named, pick_of, effective_process, effective_steps}
use Rattle.c6x_ports.specs.declared.pick.Pick.{Pick}
use Rattle.c6x_sched.specs.Left.{turn_of, own_turn}
use Rattle.c6x_sched.specs.Play.{Game, Played, IsNext, IsPlay, IsOver, counts_of, open_of, state_of}

-- a turn of a named kind is the one of its own pick
pub next_turn : (g : Game) (earlier : List Played) (t : Played) → IsTrue (is_named g.kind) → IsNext g earlier t → t ≡ own_turn g earlier
next_turn g earlier t named k =
    let same : t ≡ turn_of g earlier k.pick =
    let there : (p c : ℕ) → p ≡ effective_process g.count (open_of g earlier) k.pick → c ≡ min (effective_steps g.quantum k.pick) (life (g.starts p) - counts_of g earlier p) → record { process = p; cycles = c } ≡ turn_of g earlier k.pick = λ p c is done. rw (done, is) refl in
    there t.process t.cycles k.process k.cycles in
    same ∙ ap (λ (p : Pick). turn_of g earlier p) (k.named named)

pub one_play : (g : Game) (a b : List Played) → IsTrue (is_named g.kind) → IsPlay g a → IsPlay g b → length a ≡ length b → a ≡ b
one_play g [] [] named p q same = refl
one_play g [] (t ∷ b) named p q same = absurd (omega (arith, same))
one_play g (t ∷ a) [] named p q same = absurd (omega (arith, same))
one_play g (t ∷ a) (u ∷ b) named p q same =
    let rest : a ≡ b = one_play g a b named p.0 q.0 (omega (arith, same)) in
    let first : t ≡ turn_of g a (pick_of g.kind (state_of g a) (open_of g a)).0 = next_turn g a t named p.1 in
    let second : u ≡ turn_of g b (pick_of g.kind (state_of g b) (open_of g b)).0 = next_turn g b u named q.1 in
    let R : List Played → Type 0 = λ xs. turn_of g a (pick_of g.kind (state_of g a) (open_of g a)).0 ≡ turn_of g xs (pick_of g.kind (state_of g xs) (open_of g xs)).0 in
    let heads : t ≡ u = first ∙ subst R rest refl ∙ sym second in
    rw (heads, rest) refl

-- no turn comes behind a play that is over
cases_le : (m n : ℕ) → m ≤ n → (m < n) ⊎ (m ≡ n)
cases_le zero zero le = inr refl
cases_le zero (suc n) le = inl (omega arith)
cases_le (suc m) zero le = absurd (omega (arith, le))
cases_le (suc m) (suc n) le = elim (cases_le m n (omega (arith, le))) [ inl less ↦ inl (omega (arith, less)) | inr same ↦ inr (ap (λ (k : ℕ). suc k) same) ]

longest : (g : Game) (a b : List Played) → IsTrue (is_named g.kind) → IsPlay g a → IsOver g a → IsPlay g b → length b ≤ length a
longest g a [] named p over q = omega arith
longest g a (t ∷ b) named p over q =
    let below : length b ≤ length a = longest g a b named p over q.0 in
    elim (cases_le (length b) (length a) below) [
      | inl less ↦ omega (arith, less)
      | inr same ↦
          let is : b ≡ a = one_play g b a named q.0 p same in
          let some : 0 < length (open_of g b) = q.1.some in
          let none : length (open_of g b) ≡ 0 = ap (λ (xs : List Played). length (open_of g xs)) is ∙ ap (λ (xs : List ℕ). length xs) over in
          absurd (omega (arith, some, none))
    ]

pub one_whole_play : (g : Game) (a b : List Played) → IsTrue (is_named g.kind) → IsPlay g a → IsOver g a → IsPlay g b → IsOver g b → a ≡ b
one_whole_play g a b named p over q end =
    let one : length b ≤ length a = longest g a b named p over q in
    let other : length a ≤ length b = longest g b a named q end p in
    one_play g a b named p q (omega (arith, one, other))
