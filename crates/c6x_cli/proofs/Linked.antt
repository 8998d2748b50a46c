-- A module whose file is that of a link is the module of the link.
use Rattle.std.proofs.Common.{◌≡◌, ℕ, List, sym, ap, ◌∙◌, subst, false}
use Rattle.std.specs.Prelude.{Some, Ok, slice_get}
use Rattle.c6x_spec.specs.Files.{Files}
use Rattle.c6x_elf.specs.Reading.{file_of}
use Rattle.c6x_elf.specs.Writing.{written}
use Rattle.c6x_elf.specs.declared.file.File.{File}
use Rattle.c6x_plan.specs.declared.link_plan.LinkPlan.{LinkPlan}
use Rattle.c6x_plan.specs.declared.module_plan.ModulePlan.{ModulePlan}
use Rattle.c6x_layout.specs.declared.parts.Parts.{Parts}
use Rattle.c6x_link.proofs.FieldsHeld.{linked_rule}
use Rattle.c6x_link.specs.Linked.{parts_of}
use Rattle.c6x_link_loads.proofs.Written.{bytes_load}
use Rattle.c6x_link.specs.Working.{working_of}
use Rattle.c6x_link_loads.specs.Loads.{loaded, module_of_parts, parts_refusal}
use Rattle.c6x_module.specs.declared.module.Module.{Module}
use Rattle.c6x_module.specs.Modules.{module_in}
use Rattle.c6x_module.proofs.Through.{kept_value}
use Rattle.c6x_relocated.specs.RelocatedPlans.{IsOfLink}
use Rattle.c6x_cli.specs.LinkedModules.{IsLinkedFile}
use Rattle.c6x_cli.proofs.Came.{elf_is}
use Rattle.c6x_cli.proofs.ModulesRead.{IsImage}

one_value : {A : Type 0} (x y : A) → Some x ≡ Some y → x ≡ y
one_value x y is = cc is

loaded_is : (name : List ℕ) (p : Parts) (m : Module) → loaded name p ≡ Ok m → module_of_parts name p ≡ m
unfolding loaded
loaded_is name p m is =
    let k = kept_value (parts_refusal p) (Ok (module_of_parts name p)) m is in
    let same = k.1 in cc same

pub of_link :
    (files : Files) (modules : List ModulePlan) (number : ℕ) (planned : ModulePlan) (m : Module)
    (objects : List File) (plan : LinkPlan)
    → slice_get modules number ≡ Some planned
    → IsImage files planned m
    → IsLinkedFile files modules number objects plan
    → IsOfLink objects plan m
of_link files modules number planned m objects plan listed image stored =
    let p = parts_of (working_of objects plan) in
    let same : stored.planned ≡ planned = one_value stored.planned planned (sym stored.listed ∙ listed) in
    let P : ModulePlan → Type 0 = λ q. IsImage files q m in
    let own : IsImage files stored.planned m = subst P (sym same) image in
    let reads = bytes_load objects plan stored.file stored.able stored.made in
    let file : file_of (written false stored.file) ≡ own.file = elf_is files stored.planned.file
    (written false stored.file) own.file stored.bytes own.read in
    let read : loaded stored.planned.name p ≡ Ok m = sym (reads.image stored.planned.name) ∙ ap
    (module_in false stored.planned.name) file ∙ own.is in
    record {
      form = stored.able.form;
      linked = linked_rule objects plan stored.file stored.made;
      is = record { name = stored.planned.name; is = sym (loaded_is stored.planned.name p m read) };
    }
