use Rattle.std.proofs.Common.{◌≡◌, ◌∙◌, ℕ, List, sym, subst, ap}
use Rattle.c6x_exec.specs.declared.process.Process.{Process}
use Rattle.c6x_ports.specs.Picks.{IsReady}
use Rattle.c6x_sched.specs.System.{processes_of}
use Rattle.c6x_sched.specs.Turns.{ready_of}
use Rattle.c6x_sched.proofs.Open.{ready_is, not_empty}
use Rattle.c6x_sched.proofs.system.System.step.Goals as goal

pub chosen-pick-requires : goal.chosen-pick-requires
chosen-pick-requires g c =
    let P : List ℕ → Type 0 = λ ready. IsReady ready in
    let listed : c.list_ready.new.ready.items ≡ ready_of (processes_of c.args.self.now) = c.list_ready.ensures.listed ∙ ap (λ (ps : List Process). ready_of ps) c.deref.ensures.value in
    subst P (sym (c.deref-2.ensures.value ∙ listed))
    (ready_is (processes_of c.args.self.now) (not_empty c.as_slice.result.now _ c.is_empty.result (c.as_slice.ensures.value ∙ listed) c.if-is_empty.false c.is_empty.ensures) c.args.self.now.few)
