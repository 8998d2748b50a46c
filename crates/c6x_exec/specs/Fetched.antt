-- The words that the code fetches from the board.
use Rattle.std.specs.Prelude.{ℕ, List, ◌++◌, Result, Ok, Err, false}
use Rattle.c6x_spec.specs.Memory.{Memory, byte_in}
use Rattle.c6x_access.specs.declared.area.Area.{Area}
use Rattle.c6x_machine.specs.History.{number_of}
use Rattle.c6x_machine.specs.Packet.{may_run, words_by}

abbrev pub number_in : Memory → ℕ → ℕ → ℕ
number_in m at size = number_of false (λ x. byte_in m x) at size

abbrev pub words_in : List Area → Memory → ℕ → Result (List ℕ) ℕ
words_in areas m at = words_by (may_run areas) (λ x. number_in m x 4) at

-- words before those that come
abbrev pub after_front : List ℕ → Result (List ℕ) ℕ → Result (List ℕ) ℕ
after_front front (Ok words) = Ok (front ++ words)
after_front front (Err bad) = Err bad
