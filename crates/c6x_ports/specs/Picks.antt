-- How the named policies pick, and what a pick stands for (this project's own).
use Rattle.std.specs.Prelude.{ℕ, ◌+◌, ◌-◌, ◌*◌, ◌/◌, ◌%◌, ◌^◌, ◌<◌, nat_le, List, [], ◌∷◌, length, slice_index, unwrap_or, min, max, Bool, true, false}
use Rattle.std.specs.List.{All, find}
use Rattle.c6x_ports.specs.declared.draw.TheConstants.{DRAW_FACTOR, DRAW_STEP}
use Rattle.c6x_ports.specs.declared.kind.Kind.{Kind}
use Rattle.c6x_ports.specs.declared.kind.Kind.TheVariants.{Round, Last, Drawn, Other}
use Rattle.c6x_ports.specs.declared.limits.TheConstants.{NUMBERS}
use Rattle.c6x_ports.specs.declared.pick.Pick.{Pick}

-- Numbers of processes, strictly ascending, and one at least.
pub record IsReady (ready : List ℕ) : Type 0 where
  pub some : 0 < length ready
  pub below : All (λ number. number < NUMBERS) ready
  pub ascending : (j k : ℕ) → j < k → k < length ready → slice_index ready j < slice_index ready k

-- The first ready number that is met from another number on, upwards and round.
unfoldable pub next_from : List ℕ → ℕ → ℕ
next_from ready from = unwrap_or (find (λ number. nat_le from number) ready) (slice_index ready 0)

-- All that a policy of this kind does is said here.
abbrev pub is_named : Kind → Bool
is_named Round = true
is_named Last = true
is_named Drawn = true
is_named Other = false

-- The state of a named kind after `begin`. (Of kind Other nothing is said.)
abbrev pub begun : Kind → ℕ → ℕ → ℕ → List ℕ
begun Round processes quantum seed = processes ∷ quantum ∷ 0 ∷ []
begun Last processes quantum seed = processes ∷ quantum ∷ []
begun Drawn processes quantum seed = processes ∷ quantum ∷ seed ∷ []
begun Other processes quantum seed = []

-- The number behind another one in the order in which they are drawn.
unfoldable pub next_drawn : ℕ → ℕ
next_drawn number = (number * DRAW_FACTOR + DRAW_STEP) % 2 ^ 32

-- What is picked with a number that was drawn.
unfoldable pub drawn_pick : ℕ → ℕ → List ℕ → Pick
drawn_pick quantum drawn ready =
    let high = drawn / 256 in
    record { process = slice_index ready (high % length ready); steps = 1 + high / length ready % quantum }

-- The answer of a named kind in a state, and the state after it.
unfoldable pub pick_of : Kind → List ℕ → List ℕ → Pick × List ℕ
pick_of Round state ready =
    let process = next_from ready (slice_index state 2) in
    (record { process = process; steps = slice_index state 1 }, slice_index state 0 ∷ slice_index state 1 ∷ (process + 1) ∷ [])
pick_of Last state ready = (record { process = slice_index ready (length ready - 1); steps = slice_index state 1 }, state)
pick_of Drawn state ready =
    let drawn = next_drawn (slice_index state 2) in
    (drawn_pick (slice_index state 1) drawn ready, slice_index state 0 ∷ slice_index state 1 ∷ drawn ∷ [])
pick_of Other state ready = (record { process = 0; steps = 0 }, state)

-- The turn that a pick stands for among so many processes, of which some are ready: the first ready one from its process
-- on, taken modulo the number of processes, and its steps brought into 1 to the quantum.
abbrev pub effective_process : ℕ → List ℕ → Pick → ℕ
effective_process processes ready pick = next_from ready (pick.process % processes)

abbrev pub effective_steps : ℕ → Pick → ℕ
effective_steps quantum pick = min quantum (max 1 pick.steps)
