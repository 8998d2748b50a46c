-- What a link works out is read, where no rule is broken.
use Rattle.std.proofs.Common.{◌≡◌, ℕ, List, [], ◌∷◌, None, Ok, refl, ◌∙◌}
use Rattle.c6x_elf.specs.declared.file.File.{File}
use Rattle.c6x_link.specs.Linked.{link_refusal, linked, linked_of, parts_of}
use Rattle.c6x_link_loads.proofs.Loadable.{loadable}
use Rattle.c6x_link_loads.specs.Linkable.{AreLinkable}
use Rattle.c6x_link.specs.Working.{working_of}
use Rattle.c6x_layout.specs.File.{linked_file}
use Rattle.c6x_layout.specs.declared.parts.Parts.{Parts}
use Rattle.c6x_link_loads.proofs.Loads.{loads}
use Rattle.c6x_link_loads.specs.Loads.{loaded, module_of_parts, parts_refusal}
use Rattle.c6x_plan.specs.declared.link_plan.LinkPlan.{LinkPlan}
use Rattle.c6x_gen.specs.Modules.{IsModule}

file_is : (objects : List File) (link : LinkPlan) → link_refusal objects link ≡ None → linked objects link ≡ Ok (linked_file (parts_of (working_of objects link)))
unfolding linked linked_of
file_is objects link none = rw none refl

loaded_is : (name : List ℕ) (p : Parts) → parts_refusal p ≡ None → loaded name p ≡ Ok (module_of_parts name p)
unfolding loaded
loaded_is name p none = rw none refl

pub is_module : (name : List ℕ) (object : File) (link : LinkPlan) (IsOf : Parts → Type 0) → AreLinkable (object ∷ []) link → link_refusal (object ∷ []) link ≡ None → parts_refusal (parts_of (working_of (object ∷ []) link)) ≡ None → IsOf (parts_of (working_of (object ∷ []) link)) → IsModule name object link IsOf
is_module name object link IsOf able none kept form =
    let p = parts_of (working_of (object ∷ []) link) in record {
      file = linked_file p;
      parts = p;
      linked = file_is (object ∷ []) link none;
      read = loads p (loadable (object ∷ []) link able none) name ∙ loaded_is name p kept;
      form = form;
    }
