-- What is put while the board stays as it is.
use Rattle.std.proofs.Common.{◌≡◌, ℕ, List, [], ◌∷◌, refl, sym, subst}
use Rattle.std.specs.Prelude.{Result, Ok, Err}
use Rattle.c6x_spec.specs.Memory.{Memory}
use Rattle.c6x_ports.specs.Sink.{Puts, Taken}
use Rattle.c6x_cli_steps.specs.declared.commit_error.CommitError.{CommitError}
use Rattle.c6x_cli_steps.specs.declared.commit_error.CommitError.TheVariants.{WriteFault}
use Rattle.c6x_cli_steps.specs.Stages.{Delivers}
use Rattle.c6x_cli_steps.proofs.Stages.{cut_first}

-- a text that was put
pub delivers_put : {A B E : Type 0} (text : List ℕ) (before after : Taken) (board : Memory) (value : B) (done : A) → Puts {A = B} {E = E} text before after (Ok value) → Delivers (record { text = text; board = board } ∷ []) before after board board (Ok done)
delivers_put text before after board value done p =
    record { all = p.all; at = refl; cut = λ never. absurd (cc); failed = λ never. absurd (cc); unwritten = λ never. absurd (cc) }

-- one that was cut
pub delivers_front : {A B E : Type 0} (text : List ℕ) (before after : Taken) (board : Memory) (error : E) (result : Result A CommitError) → result ≡ Err WriteFault → Puts {A = B} {E = E} text before after (Err error) → Delivers (record { text = text; board = board } ∷ []) before after board board result
delivers_front text before after board error result is p =
    subst (λ r. Delivers (record { text = text; board = board } ∷ []) before after board board r) (sym is) (record {
      all = tt;
      at = tt;
      cut = λ _. cut_first text before.bytes after.bytes board board p.front refl;
      failed = λ _. p.failed;
      unwritten = λ never. absurd (cc);
    })
