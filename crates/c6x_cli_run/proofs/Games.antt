-- Games of policies whose state says nothing of their picks.
use Rattle.std.proofs.Common.{◌≡◌, ◌∙◌, ℕ, Bool, true, false, List, [], ◌∷◌, refl, sym, ap, subst}
use Rattle.std.specs.Prelude.{IsTrue}
use Rattle.c6x_ports.specs.Picks.{is_named}
use Rattle.c6x_sched.specs.Play.{Game, Played, IsNext, IsOver, IsPlay, counts_of, open_of}
use Rattle.c6x_sched.specs.Turns.{moved, open_from}

-- the same game with another state
abbrev pub with_state : Game → List ℕ → Game
with_state g state =
    record { count = g.count; quantum = g.quantum; starts = g.starts; first = g.first; kind = g.kind; state = state }

pub counts_same : (g : Game) (state : List ℕ) (play : List Played) → counts_of (with_state g state) play ≡ counts_of g play
counts_same g state [] = refl
counts_same g state (t ∷ earlier) = ap (λ (n : ℕ → ℕ). moved n t.process t.cycles) (counts_same g state earlier)

pub open_same : (g : Game) (state : List ℕ) (play : List Played) → open_of (with_state g state) play ≡ open_of g play
open_same g state play = ap (λ (n : ℕ → ℕ). open_from g.starts n 0 g.count) (counts_same g state play)

unnamed_play : (g : Game) (state : List ℕ) (play : List Played) → is_named g.kind ≡ false → IsPlay (with_state g state) play → IsPlay g play
unnamed_play g state [] other played = tt
unnamed_play g state (t ∷ earlier) other (played, next) = (
  unnamed_play g state earlier other played,
  record {
    pick = next.pick;
    some = rw (← open_same g state earlier) next.some;
    done = next.done;
    process = rw (← open_same g state earlier) next.process;
    cycles = rw (← counts_same g state earlier) next.cycles;
    named = λ named. absurd (cc);
  },
)

named_play : (g : Game) (state : List ℕ) (play : List Played) → state ≡ g.state → IsPlay (with_state g state) play → IsPlay g play
named_play g state play is played = rw (← is) played

-- where a named kind has this state, turns of the one game are turns of the other
pub same_play : (g : Game) (state : List ℕ) (play : List Played) → (IsTrue (is_named g.kind) → state ≡ g.state) → IsPlay (with_state g state) play → IsPlay g play
same_play g state play all played = by_test (is_named g.kind) refl
  where
    by_test : (test : Bool) → is_named g.kind ≡ test → IsPlay g play
    by_test true is = named_play g state play (all is) played
    by_test false is = unnamed_play g state play is played

pub same_over : (g : Game) (state : List ℕ) (play : List Played) → IsOver (with_state g state) play → IsOver g play
same_over g state play over = sym (open_same g state play) ∙ over
