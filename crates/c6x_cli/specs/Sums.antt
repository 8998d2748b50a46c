-- The line of a run of what a number generates.
use Rattle.std.specs.Prelude.{ℕ, ◌+◌, List, ◌++◌, codes, decimal, length, zero, suc}
use Rattle.c6x_machine.specs.Machine.{life}
use Rattle.c6x_machine.specs.Origin.{Origin}
use Rattle.c6x_machine.specs.declared.end.End.{End}
use Rattle.c6x_machine.specs.declared.end.End.TheVariants.{Exit, Fault, Limit}
use Rattle.c6x_cli_run.specs.declared.loading.Loading.{Loading}
use Rattle.c6x_cli_run.specs.Ends.{end_or_limit, last_of}
use Rattle.c6x_cli_run.specs.Boards.{count_of, starts_of}

-- The sum of what the first of some have.
unfoldable pub sum_of : ℕ → (ℕ → ℕ) → ℕ
sum_of zero f = 0
sum_of (suc last) f = sum_of last f + f last

-- The exit status of an end; one that is no exit has none, and adds nothing.
abbrev pub status_of : End → ℕ
status_of (Exit status) = status
status_of (Fault kind at) = 0
status_of Limit = 0

-- That of the end of a process alone.
abbrev pub exit_of : Origin → ℕ
exit_of s = status_of (end_or_limit (last_of s).ended)

unfoldable pub sums_line : ℕ → ℕ → ℕ → ℕ → ℕ → List ℕ
sums_line number processes modules cycles exits =
    codes "gen " ++ decimal number ++ codes " processes " ++ decimal processes ++ codes " modules " ++ decimal modules
    ++ codes " cycles " ++ decimal cycles ++ codes " exits " ++ decimal exits ++ codes "\n"

-- The sums are over the lives of all processes, and pass 2^32 where they do.
abbrev pub sums_over : ℕ → ℕ → ℕ → (ℕ → Origin) → List ℕ
sums_over number processes modules s =
    sums_line number processes modules (sum_of processes (λ process. life (s process))) (sum_of processes (λ process. exit_of (s process)))

abbrev pub sums_text : ℕ → Loading → List ℕ
sums_text number loading = sums_over number (count_of loading) (length loading.plan.modules) (starts_of loading)
