use Rattle.std.proofs.Common.{rules}
use Rattle.std.specs.Prelude.{Vec}
use Rattle.std.specs.declared.alloc.Global.{Global}
use Rattle.c6x_elf.specs.declared.file.File.{File}
use Rattle.c6x_cli_steps.proofs.Chains.{prepares_first, prepares_then, prepares_own}
use Rattle.c6x_cli.specs.Linking.{linking_steps}
use Rattle.c6x_cli.proofs.linking.prepare_module.Goals as goal

pub returns-in_err-plan : goal.returns-in_err-plan
unfolding linking_steps
returns-in_err-plan g c =
    prepares_first (λ plan. plan) (λ bytes. bytes) _ _ _ _ _ _ (search rules) c.in_err-plan.ensures.prepares

pub returns-in_err-objects : goal.returns-in_err-objects
unfolding linking_steps
returns-in_err-objects g c =
    let read = rw c.as_slice.ensures at c.in_err-objects.ensures.prepares in
    prepares_then (λ plan. plan) (λ bytes. bytes) _ _ _ _ _ _ _ c.in_ok-plan.ensures.prepares
    (prepares_first (λ (objects : Vec File Global). objects.items) (λ bytes. bytes) _ _ _ _ _ _ (search rules) read)

pub returns-in_err-module : goal.returns-in_err-module
unfolding linking_steps
returns-in_err-module g c =
    let read = rw c.as_slice.ensures at c.in_ok-objects.ensures.prepares in
    prepares_then (λ plan. plan) (λ bytes. bytes) _ _ _ _ _ _ _ c.in_ok-plan.ensures.prepares
    (prepares_then (λ (objects : Vec File Global). objects.items) (λ bytes. bytes) _ _ _ _ _ _ _ read
    (rw (← c.deref.ensures.value) (prepares_first (λ file. file) (λ bytes. bytes) _ _ _ _ _ _ (search rules)
    (prepares_own (λ file. file) _ _ _ c.in_err-module.ensures.decides))))

pub returns : goal.returns
unfolding linking_steps
returns g c =
    let read = rw c.as_slice.ensures at c.in_ok-objects.ensures.prepares in
    prepares_then (λ plan. plan) (λ bytes. bytes) _ _ _ _ _ _ _ c.in_ok-plan.ensures.prepares
    (prepares_then (λ (objects : Vec File Global). objects.items) (λ bytes. bytes) _ _ _ _ _ _ _ read
    (prepares_then (λ file. file) (λ bytes. bytes) _ _ _ _ _ _ _
    (prepares_own (λ file. file) _ _ _ (rw (← c.deref.ensures.value) c.in_ok-module.ensures.decides))
    (prepares_own (λ bytes. bytes) _ _ _ c.written_object.ensures)))
