use Rattle.c6x_layout.proofs.Fitting.{tables_have_room}
use Rattle.c6x_layout.proofs.filing.text_of.Goals as goal

pub lay_text-requires : goal.lay_text-requires
lay_text-requires c = tables_have_room c.args.parts.now c.in_ok-tables.tables c.in_ok-tables.places c.requires c.in_ok-tables.ensures.tables c.in_ok-tables.ensures.places
