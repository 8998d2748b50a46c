use Rattle.std.proofs.Common.{◌≡◌, refl, sym, ◌∙◌, subst, rules}
use Rattle.c6x_spec.specs.Memory.{Memory}
use Rattle.c6x_machine.specs.Machine.{alone, next_of}
use Rattle.c6x_exec.specs.Stands.{Keeps}
use Rattle.c6x_exec.proofs.Standing.{stands_more}
use Rattle.c6x_exec.proofs.process.Process.advance.Goals as goal

pub returns-clause-stands : goal.returns-clause-stands
returns-clause-stands c s n k =
    let P : Memory → Type 0 = λ b. Keeps c.args.self.now.context b s (alone s n) in
    let Q : Memory → Type 0 = λ b. Keeps c.advance.new.p b s (next_of s (alone s n)) in
    let left : c.advance.new.lane.board.now ≡ c.board-1.given.0 = search rules in
    stands_more c.args.self.now _ c.args.board.now _ s n k c.requires.running refl
    (λ areas kept. subst Q left (c.advance.ensures.keeps s (alone s n) (areas ∙ sym c.lend-lane.ensures.map) (subst P (sym c.lend-lane.ensures.board) kept)))
