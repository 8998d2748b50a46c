-- Turns of a plan's processes that were told.
use Rattle.std.proofs.Common.{◌≡◌, ◌∙◌, ◌≤◌, ℕ, Bool, true, false, List, [], ◌∷◌, length, refl, sym, ap, subst, inl, arith}
use Rattle.std.specs.Prelude.{IsTrue, Option, Result, Ok, Err, OnOk}
use Rattle.c6x_spec.specs.Files.{Rose}
use Rattle.c6x_spec.specs.Memory.{Memory}
use Rattle.c6x_spec.specs.Sinks.{Takes}
use Rattle.c6x_machine.specs.Machine.{life}
use Rattle.c6x_exec.specs.declared.process.Process.{Process}
use Rattle.c6x_spec.proofs.Puts.{on_err}
use Rattle.c6x_ports.specs.Chooser.{Chooser, Begins}
use Rattle.c6x_ports.specs.Picks.{begun, is_named}
use Rattle.c6x_ports.specs.declared.kind.Kind.{Kind}
use Rattle.c6x_ports.specs.Sink.{Puts, Taken}
use Rattle.c6x_ports.proofs.Rises.{Rose-later}
use Rattle.c6x_sched.specs.Together.{AllStand, AreFramed}
use Rattle.c6x_sched.specs.Play.{Game, Played, IsOver, IsPlay, counts_of, game_of}
use Rattle.c6x_sched.specs.System.{processes_of}
use Rattle.c6x_sched.specs.Turns.{ready_of}
use Rattle.c6x_sched.specs.declared.system.System.{System}
use Rattle.c6x_sched.proofs.Open.{all_ended}
use Rattle.c6x_sched.proofs.Plays.{lived_end, lives_end}
use Rattle.c6x_plan.specs.declared.process_plan.ProcessPlan.{ProcessPlan}
use Rattle.c6x_cli_steps.specs.declared.commit_error.CommitError.{CommitError}
use Rattle.c6x_cli_steps.specs.Stages.{Delivers, TakesBehind}
use Rattle.c6x_cli_run.specs.declared.loading.Loading.{Loading}
use Rattle.c6x_cli_steps.proofs.Stages.{cut_first}
use Rattle.c6x_cli_run.specs.Bases.{base_text}
use Rattle.c6x_cli_run.specs.Ends.{ends_text}
use Rattle.c6x_cli_run.specs.TurnBoards.{boards_at}
use Rattle.c6x_cli_run.specs.Tellings.{HasPut, PutsTelling, Tells}
use Rattle.c6x_cli_run.specs.Told.{HasTold, IsToldCut}
use Rattle.c6x_cli_run.specs.TurnLines.{line_of, names_of, turn_lines}
use Rattle.c6x_cli_run.proofs.Games.{counts_same, same_over, same_play, with_state}
use Rattle.c6x_cli_run.proofs.Tellings.{puts_last, takes_told, tells_untold, turn_cut}
use Rattle.c6x_cli_run.specs.Boards.{count_of, end_board, game_with, start_board, starts_of}
use Rattle.c6x_cli_run.specs.Stages.{run_stages, run_telling, told_run}
use Rattle.c6x_cli_run.specs.Runs.{HasToldRun, IsRunCut}
use Rattle.c6x_cli_run.proofs.Runs.{board_is}

-- what a policy that has begun plays is the game of the plan, but for the state that one of another kind keeps
one_game : (loading : Loading) (ps : List Process) (size quantum seed : ℕ) (was now : Chooser) → length ps ≡ count_of loading → quantum ≡ loading.plan.quantum → Begins size loading.plan.quantum seed was now → game_of ps quantum now (starts_of loading) (λ number. 0) ≡ with_state (game_with was.kind seed loading) now.state
one_game loading ps size quantum seed was now count is k = rw (count, is, k.kind) refl

begun_so : (loading : Loading) (size seed : ℕ) (was now : Chooser) → Begins size loading.plan.quantum seed was now → size ≡ count_of loading → IsTrue (is_named was.kind) → now.state ≡ (game_with was.kind seed loading).state
begun_so loading size seed was now k all named =
    k.state named ∙ ap (λ (n : ℕ). begun was.kind n loading.plan.quantum seed) all

-- so its turns are turns of that game
play_of : (loading : Loading) (ps : List Process) (size quantum seed : ℕ) (was now : Chooser) (play : List Played) → length ps ≡ count_of loading → quantum ≡ loading.plan.quantum → Begins size loading.plan.quantum seed was now → size ≡ count_of loading → IsPlay (game_of ps quantum now (starts_of loading) (λ number. 0)) play → IsPlay (game_with was.kind seed loading) play
play_of loading ps size quantum seed was now play count is k all played =
    same_play (game_with was.kind seed loading) now.state play (begun_so loading size seed was now k all)
    (subst (λ game. IsPlay game play) (one_game loading ps size quantum seed was now count is k) played)

over_of : (loading : Loading) (ps : List Process) (size quantum seed : ℕ) (was now : Chooser) (play : List Played) → length ps ≡ count_of loading → quantum ≡ loading.plan.quantum → Begins size loading.plan.quantum seed was now → IsOver (game_of ps quantum now (starts_of loading) (λ number. 0)) play → IsOver (game_with was.kind seed loading) play
over_of loading ps size quantum seed was now play count is k over =
    same_over (game_with was.kind seed loading) now.state play
    (subst (λ game. IsOver game play) (one_game loading ps size quantum seed was now count is k) over)

counts_by : (loading : Loading) (ps : List Process) (size quantum seed : ℕ) (was now : Chooser) (play : List Played) → length ps ≡ count_of loading → quantum ≡ loading.plan.quantum → Begins size loading.plan.quantum seed was now → counts_of (game_of ps quantum now (starts_of loading) (λ number. 0)) play ≡ counts_of (game_with was.kind seed loading) play
counts_by loading ps size quantum seed was now play count is k =
    ap (λ game. counts_of game play) (one_game loading ps size quantum seed was now count is k)
    ∙ counts_same (game_with was.kind seed loading) now.state play

-- all turns were told
pub has_told : (loading : Loading) (plans : List ProcessPlan) (ps : List Process) (system : System) (b c : Memory) (size quantum seed : ℕ) (was now : Chooser) (state : List ℕ) (before after : Option (List ℕ)) → length ps ≡ count_of loading → quantum ≡ loading.plan.quantum → Begins size loading.plan.quantum seed was now → size ≡ count_of loading → length (processes_of system) ≡ length ps → AllStand ps b (starts_of loading) (λ number. 0) → AreFramed ps b c → ready_of (processes_of system) ≡ [] → plans ≡ loading.plan.processes → HasTold (names_of plans) (game_of ps quantum now (starts_of loading) (λ number. 0)) (processes_of system) c state before after → HasToldRun loading (game_with was.kind seed loading) system b c before after
has_told loading plans ps system b c size quantum seed was now state before after count is k all same stand framed none named told = record {
  play = told.played.on.play;
  is = play_of loading ps size quantum seed was now told.played.on.play count is k all told.played.on.is;
  over = over_of loading ps size quantum seed was now told.played.on.play count is k told.played.over;
  taken = subst (λ (p : List ProcessPlan). Takes (turn_lines (names_of p) told.played.on.play) before after) named told.taken;
  at = board_is ps (processes_of system) b c (starts_of loading) (λ number. 0) (λ number. life (starts_of loading number)) (count_of loading) stand (lives_end (game_of ps quantum now (starts_of loading) (λ number. 0)) (processes_of system) c state none told.played.on) same count framed;
  lived = lived_end (game_of ps quantum now (starts_of loading) (λ number. 0)) (processes_of system) c state none told.played.on;
  ended = all_ended (processes_of system) none;
  count = same ∙ count;
}

-- a fault cut the line of one
pub told_cut : (loading : Loading) (plans : List ProcessPlan) (ps qs : List Process) (b c : Memory) (size quantum seed : ℕ) (was now : Chooser) (before after : Option (List ℕ)) → length ps ≡ count_of loading → quantum ≡ loading.plan.quantum → Begins size loading.plan.quantum seed was now → size ≡ count_of loading → length qs ≡ length ps → AllStand ps b (starts_of loading) (λ number. 0) → AreFramed ps b c → plans ≡ loading.plan.processes → IsToldCut (names_of plans) (game_of ps quantum now (starts_of loading) (λ number. 0)) qs c before after → IsRunCut loading (game_with was.kind seed loading) b c before after
told_cut loading plans ps qs b c size quantum seed was now before after count is k all same stand framed named cut = record {
  earlier = cut.earlier;
  last = cut.last;
  is = play_of loading ps size quantum seed was now (cut.last ∷ cut.earlier) count is k all cut.is;
  behind = subst (λ (p : List ProcessPlan). TakesBehind (turn_lines (names_of p) cut.earlier) (line_of (names_of p) cut.last) before after) named cut.out;
  at = board_is ps qs b c (starts_of loading) (λ number. 0) (counts_of (game_with was.kind seed loading) (cut.last ∷ cut.earlier)) (count_of loading) stand (subst (λ n. AllStand qs c (starts_of loading) n) (counts_by loading ps size quantum seed was now (cut.last ∷ cut.earlier) count is k) cut.stand) same count framed;
}

-- a fault cut the lines on where everything stands
pub opening_cut : {A E F : Type 0} (kind : Kind) (seed : ℕ) (loading : Loading) (before after : Taken) (first board : Memory) (error : E) (result : Result A E) → result ≡ Err error → board ≡ start_board loading first → Puts {A = F} {E = E} (base_text loading) before after (Err error) → PutsTelling (told_run kind seed loading first) before after first board result
opening_cut kind seed loading before after first board error result is at p =
    subst (λ r. PutsTelling (told_run kind seed loading first) before after first board r) (sym is)
    (record {
      all = tt;
      cut = record { play = []; cut = inl (tt, cut_first (base_text loading) before.bytes after.bytes board (start_board loading first) p.front at) };
      failed = p.failed;
      kept = p.kept;
    })

-- a fault cut the line of a turn behind them
pub run_cut : {A B E F : Type 0} (kind : Kind) (seed : ℕ) (loading : Loading) (before amid after : Taken) (first start board : Memory) (value : B) (result : Result A E) → OnOk result (HasPut (told_run kind seed loading first) before.bytes after.bytes first board) → start ≡ start_board loading first → Puts {A = B} {E = F} (base_text loading) before amid (Ok value) → IsRunCut loading (game_with kind seed loading) start board amid.bytes after.bytes → Rose amid.faults after.faults → amid.faults ≤ after.faults → PutsTelling (told_run kind seed loading first) before after first board result
run_cut kind seed loading before amid after first start board value result all at p cut failed kept =
    let names : List (List ℕ) = names_of loading.plan.processes in
    let game : Game = game_with kind seed loading in
    record {
      all = all;
      cut = on_err result (record {
        play = cut.last ∷ cut.earlier;
        cut = inl (cut.is, turn_cut names game (base_text loading) (start_board loading first) cut.last cut.earlier before.bytes amid.bytes after.bytes board p.all cut.behind (cut.at ∙ ap (λ (b : Memory). boards_at (starts_of loading) (counts_of game (cut.last ∷ cut.earlier)) (count_of loading) b) at));
      });
      failed = on_err result (Rose-later _ _ _ p.kept failed);
      kept = omega (arith, p.kept, kept);
    }

-- all turns were told behind them, and then the processes' lines
pub run_told : {A B E F : Type 0} (kind : Kind) (seed : ℕ) (loading : Loading) (system : System) (before amid done after : Taken) (first start board : Memory) (value : B) (result : Result A E) → start ≡ start_board loading first → Puts {A = B} {E = F} (base_text loading) before amid (Ok value) → HasToldRun loading (game_with kind seed loading) system start board amid.bytes done.bytes → amid.faults ≤ done.faults → Puts (ends_text loading.plan.processes (starts_of loading)) done after result → PutsTelling (told_run kind seed loading first) before after first board result
run_told kind seed loading system before amid done after first start board value result at p told kept ends =
    let names : List (List ℕ) = names_of loading.plan.processes in
    let game : Game = game_with kind seed loading in
    puts_last (told_run kind seed loading first) (ends_text loading.plan.processes (starts_of loading)) (end_board loading first) told.play before done after first board result refl (told.is, told.over)
    (takes_told names game (base_text loading) (start_board loading first) told.play before.bytes amid.bytes done.bytes p.all told.taken)
    (omega (arith, p.kept, kept))
    (told.at ∙ ap (λ (b : Memory). boards_at (starts_of loading) (λ number. life (starts_of loading number)) (count_of loading) b) at)
    ends

-- what is put by whether turns are told
pub told_as : {A : Type 0} (turns : Bool) (kind : Kind) (seed : ℕ) (loading : Loading) (first board : Memory) (before after : Taken) (result : Result A CommitError) → turns ≡ true → Tells (told_run kind seed loading first) before after first board result → Tells (run_telling turns kind seed loading first) before after first board result
told_as turns kind seed loading first board before after result is tells = rw is tells

pub untold_as : {A : Type 0} (turns : Bool) (kind : Kind) (seed : ℕ) (loading : Loading) (first board : Memory) (before after : Taken) (result : Result A CommitError) → turns ≡ false → Delivers (run_stages loading first) before after first board result → Tells (run_telling turns kind seed loading first) before after first board result
untold_as turns kind seed loading first board before after result is delivers =
    rw is (tells_untold (run_stages loading first) before after first board result delivers)
