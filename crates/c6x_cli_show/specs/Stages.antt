-- What `dis` and `show` put. The board stays as it is.
use Rattle.std.specs.Prelude.{false, List, [], ◌∷◌}
use Rattle.c6x_spec.specs.Memory.{Memory}
use Rattle.c6x_cli_steps.specs.Stages.{Stage}
use Rattle.c6x_elf.specs.declared.file.File.{File}
use Rattle.c6x_cli_show.specs.Code.{code_text}
use Rattle.c6x_cli_show.specs.Shown.{show_text}

abbrev pub code_stages : File → Memory → List Stage
code_stages file board = record { text = code_text false file; board = board } ∷ []

abbrev pub show_stages : File → Memory → List Stage
show_stages file board = record { text = show_text false file; board = board } ∷ []
