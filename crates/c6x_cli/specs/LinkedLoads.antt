-- What the bytes that `ld` stores are read as.
use Rattle.std.specs.Prelude.{◌≡◌, ℕ, List, Ok}
use Rattle.c6x_spec.specs.Files.{Files}
use Rattle.c6x_elf.specs.declared.file.File.{File}
use Rattle.c6x_reloc.specs.FieldBits.{AreBytes}
use Rattle.c6x_link.specs.Linked.{parts_of}
use Rattle.c6x_link.specs.Working.{working_of}
use Rattle.c6x_link_loads.specs.Loads.{ReadsAs}
use Rattle.c6x_plan.specs.declared.link_plan.LinkPlan.{LinkPlan}
use Rattle.c6x_cli_steps.specs.Plans.{link_plan_steps}
use Rattle.c6x_cli.specs.Linking.{object_files}

-- Files hold bytes.
abbrev pub HoldsBytes : List ℕ × List ℕ → Type 0
HoldsBytes file = AreBytes file.1

-- The bytes that a link plan leads to are read as the file of the parts that the linker works out of the plan and its
-- objects, and that file as the module of the parts, but for the rules L9 and L10, where the parts break them.
abbrev pub LinkedLoads : Files → List ℕ → List ℕ → Type 0
LinkedLoads files name bytes =
    (plan : LinkPlan) (objects : List File) → (link_plan_steps files name).result ≡ Ok plan → (object_files files plan.objects).result ≡ Ok objects
    → ReadsAs (parts_of (working_of objects plan)) bytes
