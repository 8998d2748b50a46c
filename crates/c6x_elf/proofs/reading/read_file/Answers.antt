use Rattle.std.proofs.Common.{◌≡◌, false, ◌∙◌}
use Rattle.c6x_elf.proofs.ReadForm.{parts_have_form}
use Rattle.c6x_elf.proofs.reading.read_file.Goals as goal

pub returns-clause-form : goal.returns-clause-form
returns-clause-form c =
    let little : c.is_big.result ≡ false = c.is_big.ensures ∙ c.in_ok-head.ensures.little in
    rw (c.in_ok-file.ensures.value, little)
    (parts_have_form c.args.bytes.now c.in_ok-head.head c.in_ok-head.ensures.keeps (rw little at c.in_ok-file.ensures.passes))
