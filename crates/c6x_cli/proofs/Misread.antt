use Rattle.std.proofs.Common.{◌≡◌, ℕ, Bool, true, false, List, [], refl, sym, subst, inl, inr, arith}
use Rattle.std.specs.Prelude.{Option, None, Some}
use Rattle.c6x_spec.specs.Files.{Files}
use Rattle.c6x_spec.specs.Memory.{Memory}
use Rattle.c6x_ports.specs.Shelf.{Shelved}
use Rattle.c6x_ports.specs.Sink.{Taken}
use Rattle.c6x_cli_steps.specs.declared.cause.Cause.TheVariants.{Usage}
use Rattle.c6x_ports.specs.Chooser.{Chooser}
use Rattle.c6x_ports.specs.declared.kind.Kind.{Kind}
use Rattle.c6x_cli_steps.specs.Policies.{KeepsPolicies}
use Rattle.c6x_cli_steps.specs.declared.prepare_error.PrepareError.TheVariants.{Because, Memory as NoMemory}
use Rattle.c6x_cli_run.specs.Exits.{Exits, IsStopped}
use Rattle.c6x_cli_steps.specs.Lines.{Reports, memory_line, usage_line}
use Rattle.c6x_cli_run.specs.Statuses.{Keeps, Performs, Shows}
use Rattle.c6x_cli_steps.specs.Stores.{KeepsWriteFaults}
use Rattle.c6x_cli_steps.specs.World.{World, world}
use Rattle.c6x_cli_run.proofs.Performs.{shows_stopped, performed_reading, policies_stopped, keeps_stopped, leaves_nothing}
use Rattle.c6x_cli_words.specs.declared.request.Request.{Request}
use Rattle.c6x_cli.specs.Meaning.{steps_of}
use Rattle.c6x_cli.specs.Serving.{EndsUsage}

-- where the words have no reading, nothing but the line was put
pub stopped_misread : (status : ℕ) (shelf : Shelved) (out err new_err : Taken) (board : Memory) (policies : List Chooser) → Reports usage_line 2 status err new_err → IsStopped usage_line 2 [] status (world shelf out err board policies) (world shelf out new_err board policies)
stopped_misread status shelf out err new_err board policies reports = record {
  leaves = leaves_nothing (world shelf out err board policies) (world shelf out new_err board policies) refl refl refl refl;
  reports = reports;
}

-- they end as their steps say
pub exits_misread : (read : Option Request) (told : Files) (board : Memory) (status : ℕ) (before after : World) → read ≡ None → IsStopped usage_line 2 [] status before after → Exits (steps_of read told board) status before after
exits_misread read told board status before after is stopped =
    subst (λ r. Exits (steps_of r told board) status before after) (sym is) (inl stopped)

-- what their status shows
pub shows_misread : (status : ℕ) (storing : Bool) (before after : World) → IsStopped usage_line 2 [] status before after → Shows status storing before after
shows_misread status storing before after stopped =
    shows_stopped (Because Usage) status storing before after (λ is. absurd (omega (arith, is))) (λ is. absurd (omega (arith, is))) stopped

-- they end with 2 or 6
pub usage_misread : (read : Option Request) (status : ℕ) (before after : World) → read ≡ None → IsStopped usage_line 2 [] status before after → EndsUsage status read
usage_misread read status before after is stopped = record {
  only = λ _. is;
  whenever = λ _. elim stopped.reports [ inl told ↦ inl told.0 | inr cut ↦ inr (inl cut.0) ];
}

faults_same : (storing : Bool) (shelf : Shelved) → KeepsWriteFaults storing shelf shelf
faults_same true shelf = omega arith
faults_same false shelf = refl

-- and keep all
pub keeps_misread : (storing : Bool) (shelf : Shelved) (out err new_err : Taken) (board : Memory) (policies : List Chooser) → Keeps storing (world shelf out err board policies) (world shelf out new_err board policies)
keeps_misread storing shelf out err new_err board policies =
    keeps_stopped storing (world shelf out err board policies) (world shelf out new_err board policies) (faults_same storing shelf)
    (leaves_nothing (world shelf out err board policies) (world shelf out new_err board policies) refl refl refl refl)

-- words with a reading do not end with 2
pub usage_performed : (read : Option Request) (request : Request) (board : Memory) (storing : Bool) (asking : Option Kind) (status : ℕ) (before after : World) → read ≡ Some request → Performs (λ told. steps_of read told board) storing asking status before after → EndsUsage status read
usage_performed read request board storing asking status before after is performs = record {
  only = λ two. absurd (performed_reading (λ told. steps_of read told board) storing asking status before after performs two);
  whenever = λ none. absurd (cc);
}

-- and of the policies
pub policies_misread : (status : ℕ) (asking : Option Kind) (before after : World) → IsStopped usage_line 2 [] status before after → KeepsPolicies status asking before.policies after.policies
policies_misread status asking before after stopped = policies_stopped usage_line 2 status asking before after (λ is. omega (arith, is)) stopped

-- where memory ran out while the words were read, nothing but the line was put
pub stopped_unread : (status : ℕ) (shelf : Shelved) (out err new_err : Taken) (board : Memory) (policies : List Chooser) → Reports memory_line 7 status err new_err → IsStopped memory_line 7 [] status (world shelf out err board policies) (world shelf out new_err board policies)
stopped_unread status shelf out err new_err board policies reports = record {
  leaves = leaves_nothing (world shelf out err board policies) (world shelf out new_err board policies) refl refl refl refl;
  reports = reports;
}

pub exits_unread : (read : Option Request) (told : Files) (board : Memory) (status : ℕ) (before after : World) → IsStopped memory_line 7 [] status before after → Exits (steps_of read told board) status before after
exits_unread read told board status before after stopped = inr (inr stopped)

pub shows_unread : (status : ℕ) (storing : Bool) (before after : World) → IsStopped memory_line 7 [] status before after → Shows status storing before after
shows_unread status storing before after stopped =
    shows_stopped NoMemory status storing before after (λ is. absurd (omega (arith, is))) (λ is. absurd (omega (arith, is))) stopped

pub usage_unread : (read : Option Request) (status : ℕ) (before after : World) → IsStopped memory_line 7 [] status before after → EndsUsage status read
usage_unread read status before after stopped = record {
  only = λ two. elim stopped.reports [ inl told ↦ absurd (omega (arith, told.0, two)) | inr cut ↦ absurd (omega (arith, cut.0, two)) ];
  whenever = λ _. elim stopped.reports [ inl told ↦ inr (inr told.0) | inr cut ↦ inr (inl cut.0) ];
}

pub policies_unread : (status : ℕ) (asking : Option Kind) (before after : World) → IsStopped memory_line 7 [] status before after → KeepsPolicies status asking before.policies after.policies
policies_unread status asking before after stopped = policies_stopped memory_line 7 status asking before after (λ is. omega (arith, is)) stopped
