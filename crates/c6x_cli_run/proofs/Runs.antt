-- What a run of all processes leaves.
use Rattle.std.proofs.Common.{◌≡◌, ◌≢◌, ℕ, ◌<◌, ◌≤◌, List, [], ◌∷◌, length, refl, sym, ◌∙◌, ap, subst, arith}
use Rattle.std.specs.Prelude.{IsTrue, Result, Ok, Err}
use Rattle.std.specs.List.{Contains}
use Rattle.std.proofs.lemmas.Option.{slice_get_within}
use Rattle.c6x_spec.specs.Files.{Rose}
use Rattle.c6x_spec.specs.Memory.{Memory}
use Rattle.c6x_access.specs.Rights.{allowed}
use Rattle.c6x_access.specs.declared.right.Right.TheVariants.{Write}
use Rattle.c6x_machine.specs.Origin.{Origin}
use Rattle.c6x_exec.specs.declared.process.Process.{Process}
use Rattle.c6x_ports.specs.Chooser.{Chooser, Begins}
use Rattle.c6x_ports.specs.Picks.{is_named}
use Rattle.c6x_sched.specs.Together.{AllStand, AreFramed}
use Rattle.c6x_sched.specs.Play.{Game, HasPlayed, game_of}
use Rattle.c6x_sched.specs.Turns.{ready_of}
use Rattle.c6x_sched.proofs.At.{Found, found_at}
use Rattle.c6x_sched.proofs.Open.{runs_ready}
use Rattle.c6x_sched.proofs.Whole.{left_is}
use Rattle.c6x_load.specs.Made.{AreFresh}
use Rattle.c6x_cli_steps.specs.Policies.{Asked, HasAnswered}
use Rattle.c6x_cli_run.specs.TurnBoards.{boards_at}
use Rattle.c6x_cli_run.proofs.Stands.{board_of_all}
use Rattle.c6x_cli_run.specs.declared.loading.Loading.{Loading}
use Rattle.c6x_cli_run.specs.Boards.{count_of, game_with, starts_of}
use Rattle.c6x_cli_run.specs.Runs.{AskedOnce}
use Rattle.c6x_cli_run.specs.Stages.{asked_of}

-- the processes may write where they could at their starts
framed_later : (ps qs : List Process) (b c : Memory) (s : ℕ → Origin) (n m : ℕ → ℕ) → AllStand ps b s n → AllStand qs c s m → length qs ≡ length ps → AreFramed ps b c → AreFramed qs b c
framed_later ps qs b c s n m first last count k = record {
  base = k.base;
  size = k.size;
  others = λ x above none. k.others x above (λ i p is.
      let within : i < length ps = slice_get_within ps i p is in
      let now : Found qs i = found_at qs i (omega (arith, within, count)) in
      ap (λ areas. allowed areas Write x) ((first i p is).areas ∙ sym (last i now.process now.is).areas) ∙ none i now.process now.is);
}

-- the board is the one that all of them stand for
pub board_is : (ps qs : List Process) (b c : Memory) (s : ℕ → Origin) (n m : ℕ → ℕ) (count : ℕ) → AllStand ps b s n → AllStand qs c s m → length qs ≡ length ps → length ps ≡ count → AreFramed ps b c → c ≡ boards_at s m count b
board_is ps qs b c s n m count first last same is k =
    board_of_all qs s m b c last (framed_later ps qs b c s n m first last same k)
    ∙ ap (λ (size : ℕ). boards_at s m size b) (same ∙ is)

-- a first process that has not ended is ready
listed : (numbers : List ℕ) (x : ℕ) → Contains numbers x → numbers ≢ []
listed [] x k is = absurd (omega (arith, k.1))
listed (number ∷ numbers) x k is = cc

pub some_ready : (ps : List Process) → AreFresh ps → 1 ≤ length ps → ready_of ps ≢ []
some_ready ps fresh some =
    let one : Found ps 0 = found_at ps 0 (omega (arith, some)) in
    listed (ready_of ps) 0 (runs_ready ps 0 (record { process = one.process; is = one.is; running = fresh 0 one.process one.is }))

-- a policy of a named kind that has begun plays the game of the plan
game_is : (loading : Loading) (ps : List Process) (size quantum seed : ℕ) (was begun : Chooser) → length ps ≡ count_of loading → quantum ≡ loading.plan.quantum → Begins size loading.plan.quantum seed was begun → size ≡ count_of loading → IsTrue (is_named was.kind) → game_of ps quantum begun (starts_of loading) (λ number. 0) ≡ game_with was.kind seed loading
game_is loading ps size quantum seed was begun count is k all named = rw (count, is, k.kind, k.state named, all) refl

-- so its state is the one that the turns leave
pub answered : (loading : Loading) (ps qs : List Process) (b : Memory) (size quantum seed : ℕ) (was begun now : Chooser) → length ps ≡ count_of loading → quantum ≡ loading.plan.quantum → Begins size loading.plan.quantum seed was begun → size ≡ count_of loading → HasPlayed (game_of ps quantum begun (starts_of loading) (λ number. 0)) qs b now.state → now.kind ≡ begun.kind → Rose begun.answers now.answers → HasAnswered (asked_of was.kind seed loading) was now
answered loading ps qs b size quantum seed was begun now count is k all played kind rose = record {
  kind = kind ∙ k.kind;
  left = λ named.
      let P : Game → Type 0 = λ g. HasPlayed g qs b now.state in
      left_is (game_with was.kind seed loading) qs b now.state named
      (subst P (game_is loading ps size quantum seed was begun count is k all named) played);
  answered = subst (λ (n : ℕ). Rose n now.answers) k.answers rose;
}

pub asked_once : {A E : Type 0} (asked : Asked) (before after : Chooser) (result : Result A E) → HasAnswered asked before after → AskedOnce asked before after result
asked_once asked before after (Ok _) k = record { answers = k; kind = k.kind }
asked_once asked before after (Err _) k = record { answers = tt; kind = k.kind }
