-- The lines that are still to come.
use Rattle.std.specs.Prelude.{List}
use Rattle.c6x_plan.specs.declared.lines.Lines.{Lines}
use Rattle.c6x_plan.specs.Lines.{Said, said_lines}

abbrev pub lines_left : Lines → List Said
lines_left lines = said_lines lines.gone lines.rest.now
