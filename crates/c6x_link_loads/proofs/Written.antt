-- The bytes of a linked file are read as the module of what the link works out.
use Rattle.std.proofs.Common.{◌≡◌, false, List, Ok, refl, sym, subst, ◌∙◌}
use Rattle.c6x_elf.specs.Writing.{written}
use Rattle.c6x_elf.specs.declared.file.File.{File}
use Rattle.c6x_link.proofs.FieldsHeld.{linked_file_is, linked_rule}
use Rattle.c6x_link.specs.Linked.{linked, linked_of, parts_of}
use Rattle.c6x_link_loads.proofs.Loadable.{loadable}
use Rattle.c6x_link_loads.specs.Linkable.{AreLinkable}
use Rattle.c6x_link.specs.Working.{working_of}
use Rattle.c6x_layout.specs.File.{linked_file}
use Rattle.c6x_link_loads.proofs.WrittenFile.{written_load}
use Rattle.c6x_link_loads.specs.Loads.{ReadsAs}
use Rattle.c6x_plan.specs.declared.link_plan.LinkPlan.{LinkPlan}

same_file : (objects : List File) (plan : LinkPlan) → linked_of objects plan ≡ linked_file (parts_of (working_of objects plan))
unfolding linked_of
same_file objects plan = refl

pub bytes_load : (objects : List File) (plan : LinkPlan) (f : File) → AreLinkable objects plan → linked objects plan ≡ Ok f → ReadsAs (parts_of (working_of objects plan)) (written false f)
bytes_load objects plan f able is =
    let P : File → Type 0 = λ file. ReadsAs (parts_of (working_of objects plan)) (written false file) in
    let same : linked_file (parts_of (working_of objects plan)) ≡ f = sym (linked_file_is objects plan f is ∙ same_file objects plan) in
    subst P same (written_load (parts_of (working_of objects plan)) (loadable objects plan able (linked_rule objects plan f is)))
