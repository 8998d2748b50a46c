use Rattle.c6x_link.proofs.FieldsHeld.{linked_file_is, linked_is, linked_rule}
use Rattle.c6x_link.proofs.laws.links_are_files_or_rules.Goals as goal

pub returns-clause-rule : goal.returns-clause-rule
returns-clause-rule c = λ objects plan f is. linked_rule objects plan f is

pub returns-clause-file : goal.returns-clause-file
returns-clause-file c = λ objects plan f is. linked_file_is objects plan f is

pub returns-clause-is : goal.returns-clause-is
returns-clause-is c = λ objects plan none. linked_is objects plan none
