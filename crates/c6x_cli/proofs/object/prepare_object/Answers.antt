use Rattle.std.proofs.Common.{rules}
use Rattle.c6x_cli_steps.proofs.Chains.{prepares_first, prepares_then, prepares_own}
use Rattle.c6x_cli.specs.Objects.{object_steps}
use Rattle.c6x_cli.proofs.object.prepare_object.Goals as goal

pub returns-in_err-text : goal.returns-in_err-text
unfolding object_steps
returns-in_err-text g c =
    prepares_first (λ bytes. bytes.items) (λ bytes. bytes) _ _ _ _ _ _ (search rules) c.in_err-text.ensures.prepares

pub returns-in_err-object : goal.returns-in_err-object
unfolding object_steps
returns-in_err-object g c =
    prepares_then (λ bytes. bytes.items) (λ bytes. bytes) _ _ _ _ _ _ _ c.in_ok-text.ensures.prepares
    (rw (← c.deref.ensures.value) (prepares_first (λ object. object) (λ bytes. bytes) _ _ _ _ _ _ (search rules)
    (prepares_own (λ object. object) _ _ _ c.in_err-object.ensures.decides)))

pub returns : goal.returns
unfolding object_steps
returns g c =
    prepares_then (λ bytes. bytes.items) (λ bytes. bytes) _ _ _ _ _ _ _ c.in_ok-text.ensures.prepares
    (prepares_then (λ object. object) (λ bytes. bytes) _ _ _ _ _ _ _
    (prepares_own (λ object. object) _ _ _ (rw (← c.deref.ensures.value) c.in_ok-object.ensures.decides))
    (prepares_own (λ bytes. bytes) _ _ _ c.written_object.ensures))
