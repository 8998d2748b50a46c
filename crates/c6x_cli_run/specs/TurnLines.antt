-- The lines that tell turns.
use Rattle.std.specs.Prelude.{ℕ, List, [], ◌∷◌, ◌++◌, codes, decimal, map, slice_index_or}
use Rattle.c6x_plan.specs.declared.process_plan.ProcessPlan.{ProcessPlan}
use Rattle.c6x_sched.specs.Play.{Played}

-- The process's name, and how many cycles it did.
unfoldable pub turn_line : List ℕ → ℕ → List ℕ
turn_line process cycles = codes "turn " ++ process ++ codes " " ++ decimal cycles ++ codes "\n"

-- The names of the processes of a plan.
abbrev pub names_of : List ProcessPlan → List (List ℕ)
names_of plans = map (λ (plan : ProcessPlan). plan.name) plans

-- The line of a turn, where these are the names of the processes.
abbrev pub line_of : List (List ℕ) → Played → List ℕ
line_of names t = turn_line (slice_index_or names t.process []) t.cycles

-- The lines of a play, whose newest turn is its first: a line for each turn, in the order in which they were done.
abbrev pub turn_lines : List (List ℕ) → List Played → List ℕ
turn_lines names [] = []
turn_lines names (t ∷ earlier) = turn_lines names earlier ++ line_of names t
