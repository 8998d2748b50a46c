use Rattle.std.proofs.Common.{rules}
use Rattle.c6x_cli_steps.proofs.Chains.{prepares_first, prepares_then, prepares_own}
use Rattle.c6x_cli_steps.specs.Elf.{elf_steps}
use Rattle.c6x_cli_steps.proofs.elf.fetch_elf.Goals as goal

pub returns-in_err-bytes-clause-prepares : goal.returns-in_err-bytes-clause-prepares
unfolding elf_steps
returns-in_err-bytes-clause-prepares g c =
    prepares_first (λ bytes. bytes.items) (λ file. file) _ _ _ _ _ _ (search rules) c.in_err-bytes.ensures.prepares

pub returns-clause-prepares : goal.returns-clause-prepares
unfolding elf_steps
returns-clause-prepares g c =
    prepares_then (λ bytes. bytes.items) (λ file. file) _ _ _ _ _ _ _ c.in_ok-bytes.ensures.prepares
    (prepares_own (λ file. file) _ _ _ (rw (← c.deref.ensures.value) c.file_of.ensures.decides))
