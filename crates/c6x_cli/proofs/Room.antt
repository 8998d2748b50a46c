-- No step but the last stops what a number comes to.
use Rattle.std.proofs.Common.{◌≡◌, ℕ, ◌+◌, min, max, false, List, [], ◌∷◌, ◌++◌, map, Option, None, Some, refl, ap, sym, ◌∙◌, subst, append_assoc, append-nil, arith}
use Rattle.std.specs.Prelude.{Ok, Err}
use Rattle.c6x_spec.specs.Results.{◌>>=◌}
use Rattle.c6x_asm.specs.Objects.{assembled}
use Rattle.c6x_elf.specs.declared.file.File.{File}
use Rattle.c6x_gen.specs.Generated.{generated}
use Rattle.c6x_gen.specs.Lists.{each_below, each_library}
use Rattle.c6x_gen.specs.Links.{app_link, app_name, library_link}
use Rattle.c6x_gen.specs.Plans.{module_named, plan_numbered}
use Rattle.c6x_gen.specs.Sources.{app_source, library_name, library_source}
use Rattle.c6x_gen.specs.declared.generated.Generated.{Generated}
use Rattle.c6x_gen.specs.Objects.{app_object, library_object}
use Rattle.c6x_gen.specs.Assembles.{SourcesAreAssembled}
use Rattle.c6x_gen.specs.BoundModules.{AreGenerated, ProcessesAreBound}
use Rattle.c6x_gen.specs.Modules.{ExecutablesAreRead, IsModule, LibrariesAreRead}
use Rattle.c6x_gen.specs.Parts.{IsLibrary}
use Rattle.c6x_link.specs.Linked.{linked}
use Rattle.c6x_link_loads.specs.Loads.{module_of_parts}
use Rattle.c6x_module.specs.declared.module.Module.{Module}
use Rattle.c6x_module.specs.Modules.{module_in}
use Rattle.c6x_plan.specs.declared.link_plan.LinkPlan.{LinkPlan}
use Rattle.c6x_plan.specs.declared.module_plan.ModulePlan.{ModulePlan}
use Rattle.c6x_plan.specs.declared.run_plan.RunPlan.{RunPlan}
use Rattle.c6x_place.specs.Plans.{bound_plans, placement_of, plans_refusal}
use Rattle.c6x_place.specs.declared.placement.Placement.{Placement}
use Rattle.c6x_cli_run.specs.Placing.{binding, no_room, placed_or, placing}
use Rattle.c6x_cli_run.specs.declared.loading.Loading.{Loading}
use Rattle.c6x_cli_steps.specs.declared.cause.Cause.{Cause}
use Rattle.c6x_cli_steps.specs.declared.cause.Cause.TheVariants.{Refused}
use Rattle.c6x_cli.specs.Made.{gen_name, generated_loading, loading_made, made_behind, with_made}
use Rattle.c6x_cli.specs.Room.{GeneratedLacksRoomAlone, SourcesBecomeModules}

-- a source, with the module that it becomes behind others
record Step : Type 0 where
  source : List ℕ
  link : LinkPlan
  image : ModulePlan
  read : Module
  made : (modules : List Module) → with_made modules source link image ≡ Ok (modules ++ read ∷ [])

all_made : (steps : List Step) (modules : List Module) → made_behind modules (map (λ s. s.source) steps) (map (λ s. s.link) steps) (map (λ s. s.image) steps) ≡ Ok (modules ++ map (λ s. s.read) steps)
all_made [] modules = ap Ok (sym (append-nil modules))
all_made (s ∷ steps) modules =
    rw (s.made modules) (all_made steps (modules ++ s.read ∷ []) ∙ ap Ok (append_assoc modules (s.read ∷ []) (map (λ s. s.read) steps)))

one_made : (modules : List Module) (source name : List ℕ) (link : LinkPlan) (object file : File) (read : Module) → assembled source ≡ Ok object → linked (object ∷ []) link ≡ Ok file → module_in false name file ≡ Ok read → with_made modules source link (module_named name) ≡ Ok (modules ++ read ∷ [])
unfolding with_made
one_made modules source name link object file read is_assembled is_linked is_read = rw (is_assembled, is_linked, is_read) refl

left_to_place : (made : Generated) (modules : List Module) (base len : ℕ) → made_behind [] made.sources made.links made.plan.modules ≡ Ok modules → loading_made made base len ≡ placing gen_name made.plan modules base len
unfolding loading_made
left_to_place made modules base len is = rw is refl

app_step : SourcesAreAssembled → ExecutablesAreRead → ℕ → Step
app_step assembles reads number =
    let is = reads number in
    let read = module_of_parts app_name is.parts in
    record {
      source = app_source number;
      link = app_link;
      image = module_named app_name;
      read = read;
      made = λ modules. one_made modules (app_source number) app_name app_link (app_object number) is.file read (assembles number).0 is.linked is.read;
    }

-- the number of a library, whatever the number
abbrev library_of : ℕ → ℕ
library_of k = max 1 (min k 11)

library_read : LibrariesAreRead → (number k : ℕ) → IsModule (library_name (library_of k)) (library_object number (library_of k)) (library_link (library_of k)) (IsLibrary (library_of k))
library_read reads number k = reads number (library_of k) (omega arith) (omega arith)

library_step : SourcesAreAssembled → LibrariesAreRead → ℕ → ℕ → Step
library_step assembles reads number k =
    let l = library_of k in
    let is = library_read reads number k in
    let read = module_of_parts (library_name l) is.parts in
    record {
      source = library_source number l;
      link = library_link l;
      image = module_named (library_name l);
      read = read;
      made = λ modules. one_made modules (library_source number l) (library_name l) (library_link l) (library_object number l) is.file read ((assembles number).1 l (omega arith) (omega arith)) is.linked is.read;
    }

steps : SourcesAreAssembled → ExecutablesAreRead → LibrariesAreRead → ℕ → List Step
steps assembles apps libraries number = app_step assembles apps number ∷ each_library (library_step assembles libraries number)

-- the modules that they become
modules_of : ExecutablesAreRead → LibrariesAreRead → ℕ → List Module
modules_of apps libraries number =
    module_of_parts app_name (apps number).parts ∷ each_library (λ k. module_of_parts (library_name k) (library_read libraries number k).parts)

sources_become : (assembles : SourcesAreAssembled) (apps : ExecutablesAreRead) (libraries : LibrariesAreRead) (number : ℕ) → made_behind [] (generated number).sources (generated number).links (generated number).plan.modules ≡ Ok (modules_of apps libraries number)
unfolding generated plan_numbered each_below steps modules_of app_step library_step library_read
sources_become assembles apps libraries number = all_made (steps assembles apps libraries number) []

are_generated : (apps : ExecutablesAreRead) (libraries : LibrariesAreRead) (number : ℕ) → AreGenerated number (modules_of apps libraries number)
unfolding modules_of
are_generated apps libraries number = record {
  app = (apps number).parts;
  libraries = λ k. (library_read libraries number k).parts;
  same = refl;
  is_app = (apps number).form;
  are_libraries = λ k least most. let is : library_of k ≡ k = omega (arith, least, most) in subst (λ l. IsLibrary l (library_read libraries number k).parts) is (library_read libraries number k).form;
}

pub become_modules : SourcesAreAssembled → ExecutablesAreRead → LibrariesAreRead → SourcesBecomeModules
unfolding generated_loading
become_modules assembles apps libraries number = record {
  modules = modules_of apps libraries number;
  are = are_generated apps libraries number;
  placed = λ base len. left_to_place (generated number) (modules_of apps libraries number) base len (sources_become assembles apps libraries number);
}

no_place : (name : List ℕ) (len : ℕ) (told : Option Placement) (loading : Placement → Loading) (cause : Cause) → (placed_or name len told >>= λ placement. Ok (loading placement)) ≡ Err cause → cause ≡ Refused (no_room name len)
no_place name len (Some placement) loading cause is = absurd (cc is)
no_place name len None loading cause is = cc is

room_alone : (name : List ℕ) (plan : RunPlan) (modules : List Module) (base len : ℕ) → plans_refusal modules 0 plan.processes ≡ None → (cause : Cause) → placing name plan modules base len ≡ Err cause → cause ≡ Refused (no_room name len)
unfolding placing binding
room_alone name plan modules base len bound cause = rw bound (no_place name len (placement_of modules plan.processes (bound_plans modules plan.processes) base (base + len)) (λ placement. record { plan = plan; modules = modules; bound = record { processes = bound_plans modules plan.processes }; placement = placement }) cause)

processes_bound : ProcessesAreBound → (number : ℕ) (modules : List Module) → AreGenerated number modules → plans_refusal modules 0 (generated number).plan.processes ≡ None
unfolding generated
processes_bound bound number modules are = bound number modules are

pub lacks_room : SourcesBecomeModules → ProcessesAreBound → GeneratedLacksRoomAlone
lacks_room become bound number base len cause stops =
    let made = become number in
    room_alone gen_name (generated number).plan made.modules base len (processes_bound bound number made.modules made.are) cause (sym (made.placed base len) ∙ stops)
