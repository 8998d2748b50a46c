-- The generated sources are assembled and linked.
use Rattle.std.specs.Prelude.{◌≡◌, ◌≤◌, ℕ, List, Ok}
use Rattle.c6x_elf.specs.declared.file.File.{File}
use Rattle.c6x_asm.specs.Objects.{assembled}
use Rattle.c6x_plan.specs.declared.link_plan.LinkPlan.{LinkPlan}
use Rattle.c6x_gen.specs.Links.{app_link, library_link}
use Rattle.c6x_gen.specs.Sources.{app_source, library_source}
use Rattle.c6x_gen.specs.LinkedPlans.{IsLinked}

-- the text has an object, which is linked by this plan
abbrev pub IsMade : List ℕ → LinkPlan → Type 0
IsMade source link = (object : File) × (assembled source ≡ Ok object) × IsLinked object link

-- The executable that a number generates becomes a module, and so does each of its libraries, which count from 1 to 11.
abbrev pub SourcesAreLinked : Type 0
SourcesAreLinked =
    (number : ℕ) →
    IsMade (app_source number) app_link
    × ((library : ℕ) → 1 ≤ library → library ≤ 11 → IsMade (library_source number library) (library_link library))
