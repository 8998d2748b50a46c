use Rattle.std.proofs.Common.{◌∙◌, ℕ, List, ap, subst, false}
use Rattle.std.specs.Prelude.{IfOk}
use Rattle.c6x_spec.specs.Memory.{Memory}
use Rattle.c6x_access.specs.declared.area.Area.{Area}
use Rattle.c6x_machine.specs.Origin.{origin_of}
use Rattle.c6x_machine.specs.declared.start.Start.{Start}
use Rattle.c6x_exec.specs.Process.{StandsFor}
use Rattle.c6x_exec.specs.Stands.{HoldsBytes}
use Rattle.c6x_load.specs.Areas.{seat_areas}
use Rattle.c6x_load.proofs.ProcessStarts.{start_limit}
use Rattle.c6x_load.proofs.make.make_process.Goals as goal

pub new-requires-clause-some : goal.new-requires-clause-some
new-requires-clause-some c =
    let e = ap (λ (s : Start). s.limit) c.start_of-start.ensures ∙ start_limit c.args.modules.now c.args.plan.now c.args.texts.now c.args.seat.now in
    rw e c.requires.some

pub new-requires-clause-most : goal.new-requires-clause-most
new-requires-clause-most c =
    let e = ap (λ (s : Start). s.limit) c.start_of-start.ensures ∙ start_limit c.args.modules.now c.args.plan.now c.args.texts.now c.args.seat.now in
    rw e c.requires.most

pub returns-clause-stands : goal.returns-clause-stands
returns-clause-stands c =
    let areas = seat_areas c.args.modules.now c.args.plan.now.stack c.args.bound.now.modules c.args.texts.now c.args.seat.now in
    let e = c.in_ok-map.ensures ∙ ap (λ (l : List ℕ). seat_areas c.args.modules.now c.args.plan.now.stack l c.args.texts.now c.args.seat.now) c.as_slice-list.ensures in
    let M : List Area → Type 0 = λ (m : List Area). IfOk c.new.result (λ process. (b : Memory) (bytes : ℕ → ℕ) → HoldsBytes b bytes m → StandsFor process b (origin_of false c.start_of-start.result bytes m) 0) in
    let S : Start → Type 0 = λ (s : Start). IfOk c.new.result (λ process. (b : Memory) (bytes : ℕ → ℕ) → HoldsBytes b bytes areas → StandsFor process b (origin_of false s bytes areas) 0) in
    subst S c.start_of-start.ensures (subst M e c.new.ensures.stands)
