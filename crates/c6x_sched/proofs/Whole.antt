-- The one whole play of a named kind is the one that is told.
use Rattle.std.proofs.Common.{◌≡◌, ◌≢◌, ◌∙◌, ◌<◌, ◌≤◌, ◌+◌, ◌-◌, ℕ, zero, suc, List, [], ◌∷◌, drop, get_or, length, refl, sym, ap, subst, arith, inl, inr, nat_eq, Bool, true, false}
use Rattle.std.specs.Prelude.{IsTrue, is_none, if◌then◌else◌, ◌==◌}
use Rattle.std.specs.List.{Contains}
use Rattle.std.proofs.Math.Seq.{drop-cons}
use Rattle.std.proofs.lemmas.Bool.{cases_eq}
use Rattle.std.proofs.lemmas.Bool.Decides.{nat_tests}
use Rattle.c6x_spec.specs.Memory.{Memory}
use Rattle.c6x_machine.specs.Machine.{alone, life}
use Rattle.c6x_machine.specs.Origin.{Origin}
use Rattle.c6x_exec.specs.declared.process.Process.{Process}
use Rattle.c6x_ports.specs.Picks.{is_named}
use Rattle.c6x_ports.proofs.ReadyFound.{next_among}
use Rattle.c6x_sched.specs.Left.{own_turn, cycles_from, played_behind, whole_play, left}
use Rattle.c6x_sched.specs.Play.{Game, Played, IsNext, IsPlay, IsOver, HasPlayed, counts_of, open_of, state_of}
use Rattle.c6x_sched.specs.Turns.{open_from, moved}
use Rattle.c6x_sched.proofs.Unique.{next_turn}

-- a number that is open is one of the processes
further : (first count x : ℕ) → (first + 1 ≤ x) × (x < first + 1 + count) → (first ≤ x) × (x < first + suc count)
further first count x k = (omega (arith, k.0), omega (arith, k.1))

open_by : (first count x : ℕ) (rest : List ℕ) (test : Bool) → (Contains rest x → (first + 1 ≤ x) × (x < first + 1 + count)) → Contains (if test then first ∷ rest else rest) x → (first ≤ x) × (x < first + suc count)
open_by first count x rest false more k = further first count x (more k)
open_by first count x rest true more (zero, within, is) = (omega (arith, is), omega (arith, is))
open_by first count x rest true more (suc k, within, is) = further first count x (more (k, omega (arith, within), is))

open_inside : (s : ℕ → Origin) (n : ℕ → ℕ) (first count x : ℕ) → Contains (open_from s n first count) x → (first ≤ x) × (x < first + count)
open_inside s n first zero x k = absurd (omega (arith, k.1))
open_inside s n first (suc count) x k =
    open_by first count x (open_from s n (first + 1) count) (is_none (alone (s first) (n first)).ended) (open_inside s n (first + 1) count x) k

next_inside : (g : Game) (play : List Played) (t : Played) → IsNext g play t → t.process < g.count
next_inside g play t k =
    let P : ℕ → Type 0 = λ at. Contains (open_of g play) at in
    let inside = open_inside g.starts (counts_of g play) 0 g.count t.process (subst P (sym k.process) (next_among (open_of g play) _ k.some)) in
    omega (arith, inside.1)

-- the cycles that are left after a turn
moved_here : (n : ℕ → ℕ) (at cycles i : ℕ) → i ≡ at → moved n at cycles i ≡ n i + cycles
moved_here n at cycles i same = let test : nat_eq i at ≡ true = grind (arith, nat_tests) in rw test refl

moved_there : (n : ℕ → ℕ) (at cycles i : ℕ) → i ≢ at → moved n at cycles i ≡ n i
moved_there n at cycles i other = let test : nat_eq i at ≡ false = grind (arith, nat_tests) in rw test refl

kept_above : (s : ℕ → Origin) (n : ℕ → ℕ) (at cycles first count : ℕ) → at < first → cycles_from s (moved n at cycles) first count ≡ cycles_from s n first count
kept_above s n at cycles first zero below = refl
kept_above s n at cycles first (suc count) below =
    let here : moved n at cycles first ≡ n first = moved_there n at cycles first (λ same. omega (arith, same, below)) in
    let rest : cycles_from s (moved n at cycles) (first + 1) count ≡ cycles_from s n (first + 1) count = kept_above s n at cycles (first + 1) count (omega (arith, below)) in
    rw (here, rest) refl

less_by : (s : ℕ → Origin) (n : ℕ → ℕ) (at cycles first count : ℕ) → first ≤ at → at < first + count → cycles ≤ life (s at) - n at → cycles_from s (moved n at cycles) first count + cycles ≡ cycles_from s n first count
less_by s n at cycles first zero low high few = absurd (omega (arith, low, high))
less_by s n at cycles first (suc count) low high few = elim (cases_eq first at) [
  | inl same ↦
      let here : moved n at cycles first ≡ n first + cycles = moved_here n at cycles first same in
      let rest : cycles_from s (moved n at cycles) (first + 1) count ≡ cycles_from s n (first + 1) count = kept_above s n at cycles (first + 1) count (omega (arith, same)) in
      let P : ℕ → Type 0 = λ i. cycles ≤ life (s i) - n i in
      let enough : cycles ≤ life (s first) - n first = subst P (sym same) few in
      let less : life (s first) - (n first + cycles) + cycles ≡ life (s first) - n first = omega (arith, enough) in
      let whole : life (s first) - moved n at cycles first + cycles ≡ life (s first) - n first = rw here less in
      omega (arith, whole, rest)
  | inr other ↦
      let here : moved n at cycles first ≡ n first = moved_there n at cycles first other in
      let rest : cycles_from s (moved n at cycles) (first + 1) count + cycles ≡ cycles_from s n (first + 1) count = less_by s n at cycles (first + 1) count (omega (arith, low, other)) (omega (arith, high)) few in
      let first_is : life (s first) - moved n at cycles first ≡ life (s first) - n first = ap (λ (m : ℕ). life (s first) - m) here in
      omega (arith, first_is, rest)
]

-- a play has no more turns than there were cycles
turns_few : (g : Game) (play : List Played) → IsPlay g play → length play + cycles_from g.starts (counts_of g play) 0 g.count ≤ cycles_from g.starts g.first 0 g.count
turns_few g [] p = omega arith
turns_few g (t ∷ play) p =
    let before = turns_few g play p.0 in
    let cycles : t.cycles ≤ life (g.starts t.process) - counts_of g play t.process = omega (arith, p.1.cycles) in
    let less = less_by g.starts (counts_of g play) t.process t.cycles 0 g.count (omega arith) (omega (arith, next_inside g play t p.1)) cycles in
    omega (arith, before, less, p.1.done)

ends_there : (g : Game) (play : List Played) (n : ℕ) → IsOver g play → played_behind g n play ≡ play
ends_there g play zero over = refl
ends_there g play (suc n) over = rw over refl

play_of_rest : (g : Game) (play : List Played) (later : ℕ) → IsPlay g play → IsPlay g (drop later play)
play_of_rest g play zero p = p
play_of_rest g [] (suc later) p = tt
play_of_rest g (t ∷ play) (suc later) p = play_of_rest g play later p.0

some_open : (numbers : List ℕ) → 0 < length numbers → (length numbers == 0) ≡ false
some_open [] some = absurd (omega (arith, some))
some_open (x ∷ numbers) some = grind (arith, nat_tests)

-- the turns before some of the last ones lead to the whole play
plays_to : (g : Game) (play : List Played) (first : Played) (later n : ℕ) → IsTrue (is_named g.kind) → IsPlay g play → IsOver g play → later ≤ length play → later ≤ n → played_behind g n (drop later play) ≡ play
plays_to g play first zero n named p over within enough = ends_there g play n over
plays_to g play first (suc later) zero named p over within enough = absurd (omega (arith, enough))
plays_to g play first (suc later) (suc n) named p over within enough =
    let cut : drop later play ≡ get_or play later first ∷ drop (suc later) play = drop-cons play later first (omega (arith, within)) in
    let both : IsPlay g (get_or play later first ∷ drop (suc later) play) = subst (IsPlay g) cut (play_of_rest g play later p) in
    let own : get_or play later first ≡ own_turn g (drop (suc later) play) = next_turn g (drop (suc later) play) (get_or play later first) named both.1 in
    let test : (length (open_of g (drop (suc later) play)) == 0) ≡ false = some_open (open_of g (drop (suc later) play)) both.1.some in
    rw test
    (ap (λ (t : Played). played_behind g n (t ∷ drop (suc later) play)) (sym own)
    ∙ ap (λ (turns : List Played). played_behind g n turns) (sym cut)
    ∙ plays_to g play first later n named p over (omega (arith, within)) (omega (arith, enough)))

drop_whole : (play : List Played) → drop (length play) play ≡ []
drop_whole [] = refl
drop_whole (t ∷ play) = drop_whole play

pub whole_is_told : (g : Game) (play : List Played) → IsTrue (is_named g.kind) → IsPlay g play → IsOver g play → play ≡ whole_play g
unfolding whole_play
whole_is_told g play named p over =
    let fuel : ℕ = cycles_from g.starts g.first 0 g.count in
    let enough : length play ≤ fuel = omega (arith, turns_few g play p) in
    let first : Played = record { process = 0; cycles = 0 } in
    sym (ap (λ (turns : List Played). played_behind g fuel turns) (sym (drop_whole play)) ∙ plays_to g play first (length play) fuel named p over (omega arith) enough)

pub left_is : (g : Game) (ps : List Process) (b : Memory) (state : List ℕ) → IsTrue (is_named g.kind) → HasPlayed g ps b state → state ≡ left g
unfolding left
left_is g ps b state named k = k.on.left named ∙ ap (state_of g) (whole_is_told g k.on.play named k.on.is k.over)
