-- The entries of a link hold in each process that uses its module.
use Rattle.std.proofs.Common.{ℕ, List}
use Rattle.c6x_spec.specs.Memory.{Memory}
use Rattle.c6x_elf.specs.declared.file.File.{File}
use Rattle.c6x_plan.specs.declared.link_plan.LinkPlan.{LinkPlan}
use Rattle.c6x_plan.specs.declared.process_plan.ProcessPlan.{ProcessPlan}
use Rattle.c6x_link.specs.Working.{working_of}
use Rattle.c6x_module.specs.declared.module.Module.{Module}
use Rattle.c6x_place.specs.declared.bound_process.BoundProcess.{BoundProcess}
use Rattle.c6x_place.specs.declared.placement.Placement.{Placement}
use Rattle.c6x_relocated.specs.Filled.{Finding, IsMember}
use Rattle.c6x_relocated.proofs.AllWords.{linked_stubs, linked_words}
use Rattle.c6x_relocated.proofs.Entries.{linked_entries}
use Rattle.c6x_relocated.proofs.Named.{entries_named, stubs_named, words_named}
use Rattle.c6x_relocated.specs.Plans.{AreLoaded, IsFinding}
use Rattle.c6x_relocated.specs.RelocatedPlans.{ImportsAreNamed, IsOfLink, IsRelocated, LinkHolds}
use Rattle.c6x_relocated.proofs.Members.{member_stands}

link_holds :
    (memory : Memory) (modules : List Module) (plans : List ProcessPlan) (bounds : List BoundProcess)
    (placement : Placement)
    → AreLoaded memory modules plans bounds placement
    → (process : ℕ) (f : Finding)
    → IsFinding modules bounds placement process f
    → (position : ℕ) (m : Module) (text base : ℕ)
    → IsMember f position m text base
    → (objects : List File) (plan : LinkPlan)
    → IsOfLink objects plan m
    → LinkHolds (working_of objects plan) memory f position m text base
link_holds memory modules plans bounds placement loaded process f finding position m text base member objects plan of =
    let here = member_stands memory modules plans bounds placement loaded process f finding position m text base
    member in
    let stands = here.stands in
    record {
      entries = λ before e after kind split has some alone.
          linked_entries objects plan of.form of.linked m of.is memory f position text base loaded.below member
          stands here.packets before e after kind split has some alone;
      words = λ place wanted listed.
          linked_words objects plan of.form of.linked m of.is memory f position text base loaded.below member stands
          place wanted listed;
      stubs = λ place number listed. linked_stubs objects plan m of.is memory f position text base loaded.below
          stands place number listed;
    }

imports_named :
    (objects : List File) (plan : LinkPlan) (m : Module)
    → IsOfLink objects plan m
    → (f : Finding) (position : ℕ)
    → ImportsAreNamed (working_of objects plan) f position m
imports_named objects plan m of f position = record {
  entries = λ before e after split is. entries_named objects plan m of.is f position before e after split is;
  words = λ place wanted listed is. words_named objects plan m of.is f position place wanted listed is;
  stubs = λ place number listed. stubs_named objects plan m of.is f position place number listed;
}

pub plan_relocated :
    (memory : Memory) (modules : List Module) (plans : List ProcessPlan) (bounds : List BoundProcess)
    (placement : Placement)
    → AreLoaded memory modules plans bounds placement
    → (process : ℕ) (f : Finding)
    → IsFinding modules bounds placement process f
    → (position : ℕ) (m : Module) (text base : ℕ)
    → IsMember f position m text base
    → (objects : List File) (plan : LinkPlan)
    → IsOfLink objects plan m
    → IsRelocated (working_of objects plan) memory f position m text base
plan_relocated memory modules plans bounds placement loaded process f finding position m text base member objects
    plan of = record {
      hold = link_holds memory modules plans bounds placement loaded process f finding position m text base member
          objects plan of;
      named = imports_named objects plan m of f position;
    }
