-- Stages of turns that were told.
use Rattle.std.proofs.Common.{◌≡◌, ◌∙◌, ◌≤◌, ℕ, List, [], ◌∷◌, ◌++◌, refl, sym, ap, subst, inl, inr, append_assoc, append-nil, arith}
use Rattle.std.specs.Prelude.{Option, Result, Ok, Err}
use Rattle.c6x_spec.specs.Memory.{Memory}
use Rattle.c6x_spec.specs.Sinks.{Takes}
use Rattle.c6x_spec.proofs.Puts.{takes_then}
use Rattle.c6x_ports.specs.Sink.{Taken, Puts}
use Rattle.c6x_ports.proofs.Rises.{Rose-later}
use Rattle.c6x_sched.specs.Play.{Game, Played, counts_of}
use Rattle.c6x_cli_steps.specs.declared.commit_error.CommitError.{CommitError}
use Rattle.c6x_cli_steps.specs.declared.commit_error.CommitError.TheVariants.{WriteFault, Memory as NoMemory}
use Rattle.c6x_cli_steps.specs.Stages.{Stage, CutsAt, Delivers, TakesBehind, text_of}
use Rattle.c6x_cli_steps.proofs.Stages.{cut_behind}
use Rattle.c6x_cli_run.specs.TurnBoards.{boards_at}
use Rattle.c6x_cli_run.specs.Tellings.{MayPlayWhole, PutsTelling, Telling, Tells, turn_stages, untold}
use Rattle.c6x_cli_run.specs.TurnLines.{line_of, turn_lines}

-- their text is the first one and the lines behind it
told_text : (names : List (List ℕ)) (game : Game) (opening : List ℕ) (board : Memory) (play : List Played) → opening ++ turn_lines names play ≡ text_of (turn_stages names game opening board play)
told_text names game opening board [] = append-nil opening
told_text names game opening board (t ∷ earlier) =
    sym (append_assoc opening (turn_lines names earlier) (line_of names t))
    ∙ ap (λ (text : List ℕ). text ++ line_of names t) (told_text names game opening board earlier)

-- the first text and the lines were taken
pub takes_told : (names : List (List ℕ)) (game : Game) (opening : List ℕ) (board : Memory) (play : List Played) (before amid now : Option (List ℕ)) → Takes opening before amid → Takes (turn_lines names play) amid now → Takes (text_of (turn_stages names game opening board play)) before now
takes_told names game opening board play before amid now first rest =
    subst (λ text. Takes text before now) (told_text names game opening board play)
    (takes_then opening (turn_lines names play) before amid now first rest)

-- a fault cut the line of a turn
pub turn_cut : (names : List (List ℕ)) (game : Game) (opening : List ℕ) (start : Memory) (last : Played) (earlier : List Played) (before amid now : Option (List ℕ)) (board : Memory) → Takes opening before amid → TakesBehind (turn_lines names earlier) (line_of names last) amid now → board ≡ boards_at game.starts (counts_of game (last ∷ earlier)) game.count start → CutsAt (turn_stages names game opening start (last ∷ earlier)) before now board
turn_cut names game opening start last earlier before amid now board first behind at = inl (
  record { amid = behind.amid; whole = takes_told names game opening start earlier before amid behind.amid first behind.whole; front = behind.front },
  at,
)

-- behind all turns a last text was put, or a fault cut it
pub puts_last : {A E : Type 0} (telling : Telling) (text : List ℕ) (end : Memory) (play : List Played) (before amid after : Taken) (first board : Memory) (result : Result A E) → telling.last ≡ record { text = text; board = end } ∷ [] → MayPlayWhole telling.game play → Takes (text_of (telling.stages play)) before.bytes amid.bytes → before.faults ≤ amid.faults → board ≡ end → Puts text amid after result → PutsTelling telling before after first board result
puts_last telling text end play before amid after first board (Ok _) last whole taken kept at p = record {
  all = record { play = play; whole = whole; taken = rw last (takes_then (text_of (telling.stages play)) text before.bytes amid.bytes after.bytes taken p.all); at = rw last at };
  cut = tt;
  failed = tt;
  kept = omega (arith, kept, p.kept);
}
puts_last telling text end play before amid after first board (Err _) last whole taken kept at p = record {
  all = tt;
  cut = record { play = play; cut = inr (whole, rw last (cut_behind (telling.stages play) text before.bytes amid.bytes after.bytes board end taken p.front at)) };
  failed = Rose-later _ _ _ kept p.failed;
  kept = omega (arith, kept, p.kept);
}

-- what was put where no memory is taken any more
pub tells_done : {A B E : Type 0} (telling : Telling) (before after : Taken) (first board : Memory) (value : B) (done : A) → PutsTelling {A = B} {E = E} telling before after first board (Ok value) → Tells telling before after first board (Ok done)
tells_done telling before after first board value done p =
    record { all = p.all; cut = λ never. absurd (cc); failed = λ never. absurd (cc); unwritten = λ never. absurd (cc) }

pub tells_cut_short : {A B E : Type 0} (telling : Telling) (before after : Taken) (first board : Memory) (error : E) (result : Result A CommitError) → result ≡ Err WriteFault → PutsTelling {A = B} {E = E} telling before after first board (Err error) → Tells telling before after first board result
tells_cut_short telling before after first board error result is p =
    subst (λ r. Tells telling before after first board r) (sym is)
    (record { all = tt; cut = λ _. p.cut; failed = λ _. p.failed; unwritten = λ never. absurd (cc) })

pub tells_none : {A : Type 0} (telling : Telling) (before after : Taken) (first board : Memory) (result : Result A CommitError) → result ≡ Err NoMemory → after ≡ before → board ≡ first → Tells telling before after first board result
tells_none telling before after first board result is same at =
    subst (λ r. Tells telling before after first board r) (sym is)
    (record { all = tt; cut = λ never. absurd (cc); failed = λ never. absurd (cc); unwritten = λ _. (ap (λ (t : Taken). t.bytes) same, at) })

-- stages that were put with no turn told
pub tells_untold : {A : Type 0} (stages : List Stage) (before after : Taken) (first board : Memory) (result : Result A CommitError) → Delivers stages before after first board result → Tells (untold stages) before after first board result
tells_untold stages before after first board (Ok _) d = record {
  all = record { play = []; whole = refl; taken = d.all; at = d.at };
  cut = λ never. absurd (cc);
  failed = λ never. absurd (cc);
  unwritten = λ never. absurd (cc);
}
tells_untold stages before after first board (Err error) d = record {
  all = tt;
  cut = λ is. record { play = []; cut = inl (refl, d.cut is) };
  failed = d.failed;
  unwritten = d.unwritten;
}
