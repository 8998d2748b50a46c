use Rattle.c6x_link.proofs.FieldsHeld.{data_held, text_held}
use Rattle.c6x_link.proofs.laws.linked_fields_hold_their_values.Goals as goal
use Rattle.c6x_link.specs.Working.{working_of}

pub returns-clause-text : goal.returns-clause-text
returns-clause-text c = λ objects plan e kind value has worth static last. text_held (working_of objects plan) e kind value static last

pub returns-clause-content : goal.returns-clause-content
returns-clause-content c = λ objects plan e kind value has worth static last. data_held (working_of objects plan) e kind value static last
