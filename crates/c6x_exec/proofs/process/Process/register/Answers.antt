use Rattle.std.proofs.Common.{◌∙◌, ap, List, ℕ}
use Rattle.std.specs.Prelude.{slice_index}
use Rattle.c6x_encoding.specs.Registers.{place_of}
use Rattle.c6x_exec.proofs.Standing.{stands_tracks}
use Rattle.c6x_exec.proofs.Amid.{place_below}
use Rattle.c6x_exec.proofs.Registers.{register_in}
use Rattle.c6x_machine.specs.Machine.{alone}
use Rattle.c6x_exec.proofs.process.Process.register.Goals as goal

pub returns : goal.returns
returns c = record {
  told = λ b s n k.
      c.get.ensures
      ∙ ap (λ (all : List ℕ). slice_index all (place_of c.args.side c.args.number)) (stands_tracks c.args.self.now b s n k).registers
      ∙ register_in s.registers (alone s n).history n _ (place_below c.args.side c.args.number c.requires);
}
