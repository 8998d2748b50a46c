-- Puts behind what takes memory.
use Rattle.std.proofs.Common.{◌≡◌, sym, ap, subst, List}
use Rattle.std.specs.Prelude.{Result, Ok, Err}
use Rattle.c6x_spec.specs.Memory.{Memory}
use Rattle.c6x_ports.specs.Chooser.{Chooser}
use Rattle.c6x_ports.specs.Sink.{Taken}
use Rattle.c6x_cli_steps.specs.declared.commit_error.CommitError.{CommitError}
use Rattle.c6x_cli_steps.specs.declared.commit_error.CommitError.TheVariants.{WriteFault, Memory as NoMemory}
use Rattle.c6x_cli_steps.specs.Policies.{Asked, Serves}
use Rattle.c6x_cli_steps.specs.Stages.{Delivers, PutsStages, Stage}
use Rattle.c6x_cli_run.specs.Runs.{AskedOnce}

-- stages that were put
pub delivers_done : {A B E : Type 0} (stages : List Stage) (before after : Taken) (first board : Memory) (value : B) (done : A) → PutsStages {A = B} {E = E} stages before after first board (Ok value) → Delivers stages before after first board (Ok done)
delivers_done stages before after first board value done p =
    record { all = p.all; at = p.at; cut = λ never. absurd (cc); failed = λ never. absurd (cc); unwritten = λ never. absurd (cc) }

-- stages of which one was cut
pub delivers_cut : {A B E : Type 0} (stages : List Stage) (before after : Taken) (first board : Memory) (error : E) (result : Result A CommitError) → result ≡ Err WriteFault → PutsStages {A = B} {E = E} stages before after first board (Err error) → Delivers stages before after first board result
delivers_cut stages before after first board error result is p =
    subst (λ r. Delivers stages before after first board r) (sym is)
    (record { all = tt; at = tt; cut = λ _. p.cut; failed = λ _. p.failed; unwritten = λ never. absurd (cc) })

-- none, for want of memory
pub delivers_none : {A : Type 0} (stages : List Stage) (before after : Taken) (first board : Memory) (result : Result A CommitError) → result ≡ Err NoMemory → after ≡ before → board ≡ first → Delivers stages before after first board result
delivers_none stages before after first board result is same at =
    subst (λ r. Delivers stages before after first board r) (sym is)
    (record { all = tt; at = tt; cut = λ never. absurd (cc); failed = λ never. absurd (cc); unwritten = λ _. (ap (λ (t : Taken). t.bytes) same, at) })

pub serves_done : {A B E : Type 0} (asked : Asked) (before after : Chooser) (value : B) (done : A) → AskedOnce {A = B} {E = E} asked before after (Ok value) → Serves asked before after (Ok done)
serves_done asked before after value done k = record { answers = k.answers; kind = k.kind; unasked = λ never. absurd (cc) }

pub serves_cut : {A B E : Type 0} (asked : Asked) (before after : Chooser) (error : E) (result : Result A CommitError) → result ≡ Err WriteFault → AskedOnce {A = B} {E = E} asked before after (Err error) → Serves asked before after result
serves_cut asked before after error result is k =
    subst (λ r. Serves asked before after r) (sym is) (record { answers = tt; kind = k.kind; unasked = λ never. absurd (cc) })

pub serves_none : {A : Type 0} (asked : Asked) (before after : Chooser) (result : Result A CommitError) → result ≡ Err NoMemory → after ≡ before → Serves asked before after result
serves_none asked before after result is same =
    subst (λ r. Serves asked before after r) (sym is) (record { answers = tt; kind = ap (λ (c : Chooser). c.kind) same; unasked = λ _. same })
