use Rattle.std.proofs.Common.{◌∙◌, rules, arith, ◌≡◌, length, refl}
use Rattle.c6x_spec.proofs.Puts.{on_err}
use Rattle.c6x_sched.specs.System.{processes_of}
use Rattle.c6x_cli_run.specs.Boards.{count_of, starts_of}
use Rattle.c6x_cli_run.proofs.Runs.{answered, asked_once, some_ready}
use Rattle.c6x_cli_run.proofs.Told.{has_told, told_cut}
use Rattle.c6x_cli_run.proofs.telling.tell_to_ends.Goals as goal

pub returns-in_err-play_turns : goal.returns-in_err-play_turns
returns-in_err-play_turns g c =
    let count : length (processes_of c.of-system.result) ≡ count_of c.args.loading.now = rw c.of-system.ensures.processes c.requires.ready.count in
    let told = c.in_err-play_turns.ensures.tells (starts_of c.args.loading.now) (λ number. 0) (rw c.of-system.ensures.processes c.requires.ready.apart) (rw c.of-system.ensures.processes c.requires.ready.stand) in
    record {
      told = search rules;
      cut = on_err _ (told_cut c.args.loading.now _ _ _ _ _ _ _ _ _ _ _ _ count c.of-system.ensures.quantum c.begin.ensures (search rules) c.in_err-play_turns.ensures.count (rw c.of-system.ensures.processes c.requires.ready.stand) c.in_err-play_turns.ensures.frame c.as_slice-processes.ensures told.cut);
      asked = record { answers = search rules; kind = c.in_err-play_turns.ensures.kind ∙ c.begin.ensures.kind };
      failed = search rules;
      kept = search rules;
    }

pub returns : goal.returns
returns g c =
    let count : length (processes_of c.of-system.result) ≡ count_of c.args.loading.now = rw c.of-system.ensures.processes c.requires.ready.count in
    let told = c.in_ok-play_turns.ensures.tells (starts_of c.args.loading.now) (λ number. 0) (rw c.of-system.ensures.processes c.requires.ready.apart) (rw c.of-system.ensures.processes c.requires.ready.stand) in
    let now = (goal.Policy-dyn g (c.play_turns.new.policy.vtable, c.play_turns.new.policy.value)).chooser c.play_turns.new.policy.value in
    record {
      told = has_told c.args.loading.now _ _ _ _ _ _ _ _ _ _ _ _ _ count c.of-system.ensures.quantum c.begin.ensures (search rules) c.in_ok-play_turns.ensures.count (rw c.of-system.ensures.processes c.requires.ready.stand) c.in_ok-play_turns.ensures.frame c.in_ok-play_turns.ensures.done c.as_slice-processes.ensures told.all;
      cut = search rules;
      asked = asked_once _ _ _ _ (answered c.args.loading.now _ _ _ _ _ _ _ _ now count c.of-system.ensures.quantum c.begin.ensures (search rules) told.all.played c.in_ok-play_turns.ensures.kind
          (c.in_ok-play_turns.ensures.answered (some_ready _ (rw c.of-system.ensures.processes c.requires.ready.fresh) (omega (arith, count, c.requires.loads.plan.some)))));
      failed = search rules;
      kept = search rules;
    }
