-- The one play of a policy of a named kind, and the state that it leaves the policy in.
use Rattle.std.specs.Prelude.{ℕ, zero, suc, ◌+◌, ◌-◌, ◌==◌, List, [], ◌∷◌, length, min, if◌then◌else◌}
use Rattle.c6x_machine.specs.Machine.{life}
use Rattle.c6x_machine.specs.Origin.{Origin}
use Rattle.c6x_ports.specs.Picks.{pick_of, effective_process, effective_steps}
use Rattle.c6x_ports.specs.declared.pick.Pick.{Pick}
use Rattle.c6x_sched.specs.Play.{Game, Played, counts_of, open_of, state_of}

-- The turn that a pick stands for behind some turns.
abbrev pub turn_of : Game → List Played → Pick → Played
turn_of g earlier pick =
    let at = effective_process g.count (open_of g earlier) pick in
    record { process = at; cycles = min (effective_steps g.quantum pick) (life (g.starts at) - counts_of g earlier at) }

-- The one that a policy of a named kind gives.
abbrev pub own_turn : Game → List Played → Played
own_turn g earlier = turn_of g earlier (pick_of g.kind (state_of g earlier) (open_of g earlier)).0

-- How many cycles there are up to the end of each of this many processes from the number `first` on.
abbrev pub cycles_from : (ℕ → Origin) → (ℕ → ℕ) → ℕ → ℕ → ℕ
cycles_from s n first zero = 0
cycles_from s n first (suc more) = life (s first) - n first + cycles_from s n (first + 1) more

-- Some turns with those that a policy of a named kind gives behind them, up to the end of every process, though no more
-- than so many.
abbrev pub played_behind : Game → ℕ → List Played → List Played
played_behind g zero play = play
played_behind g (suc more) play =
    if length (open_of g play) == 0 then play else played_behind g more (own_turn g play ∷ play)

-- All turns that it gives. Each turn has a cycle at least, so there are no more turns than cycles.
unfoldable pub whole_play : Game → List Played
whole_play g = played_behind g (cycles_from g.starts g.first 0 g.count) []

-- The state that they leave the policy in.
unfoldable pub left : Game → List ℕ
left g = state_of g (whole_play g)
