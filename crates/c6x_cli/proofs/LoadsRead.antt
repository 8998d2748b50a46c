-- What a link plan leads to is read as the module of the link.
use Rattle.std.proofs.Common.{◌≡◌, ℕ, false, List, sym, subst, ◌∙◌}
use Rattle.std.specs.Prelude.{All, Result, Ok, Err}
use Rattle.c6x_spec.specs.Files.{Files}
use Rattle.c6x_elf.specs.Names.{IsName}
use Rattle.c6x_elf.specs.Writing.{written}
use Rattle.c6x_elf.specs.declared.file.File.{File}
use Rattle.c6x_link.specs.Linked.{linked, parts_of}
use Rattle.c6x_link_loads.proofs.Written.{bytes_load}
use Rattle.c6x_link.specs.Working.{working_of}
use Rattle.c6x_link_loads.specs.Loads.{ReadsAs}
use Rattle.c6x_plan.specs.LinkPlans.{link_plan}
use Rattle.c6x_plan.specs.PlanRules.{Broken}
use Rattle.c6x_plan.specs.declared.link_plan.LinkPlan.{LinkPlan}
use Rattle.c6x_symbols.specs.Rules.{Refusal as LinkRefusal}
use Rattle.c6x_cli_steps.specs.Plans.{link_plan_steps, or_bad_plan}
use Rattle.c6x_cli.proofs.NamesKept.{plan_names}
use Rattle.c6x_cli.proofs.ObjectsRead.{all_linkable, came}
use Rattle.c6x_cli.specs.Linking.{linking_steps, object_files, or_unlinked}
use Rattle.c6x_cli.specs.LinkedLoads.{HoldsBytes, LinkedLoads}
use Rattle.c6x_cli_steps.specs.Lines.{whole_file}
use Rattle.c6x_cli_steps.specs.Steps.{Steps, ◌>>=◌, own}

plan_read : (name : List ℕ) (r : Result LinkPlan Broken) (plan : LinkPlan) → or_bad_plan name r ≡ Ok plan → r ≡ Ok plan
plan_read name (Ok x) plan is = cc is
plan_read name (Err x) plan is = absurd (cc is)

needed_names : (files : Files) (name : List ℕ) (plan : LinkPlan) → (link_plan_steps files name).result ≡ Ok plan → All IsName plan.needed
unfolding link_plan_steps
needed_names files name plan is =
    let c = came (whole_file files name) (λ text. own (or_bad_plan name (link_plan text))) plan is in
    plan_names c.middle plan (plan_read name (link_plan c.middle) plan c.next_is)

linked_read : (name : List ℕ) (plan : LinkPlan) (r : Result File LinkRefusal) (f : File) → or_unlinked name plan r ≡ Ok f → r ≡ Ok f
linked_read name plan (Ok x) f is = cc is
linked_read name plan (Err x) f is = absurd (cc is)

one_value : {A E : Type 0} (r : Result A E) (a b : A) → r ≡ Ok a → r ≡ Ok b → a ≡ b
one_value r a b first second = let same = sym first ∙ second in cc same

loads_by : (files : Files) (name : List ℕ) (plan : LinkPlan) (objects : List File) (f : File) → All HoldsBytes files → (link_plan_steps files name).result ≡ Ok plan → (object_files files plan.objects).result ≡ Ok objects → linked objects plan ≡ Ok f → ReadsAs (parts_of (working_of objects plan)) (written false f)
loads_by files name plan objects f are planned read is =
    let all = all_linkable files plan.objects objects are read in
    bytes_load objects plan f (record {
      form = λ k d below. (all k d below).object;
      bytes = λ k d below. (all k d below).bytes;
      needed = needed_names files name plan planned;
    }) is

pub linked_loads : (files : Files) (name bytes : List ℕ) → All HoldsBytes files → (linking_steps files name).result ≡ Ok bytes → LinkedLoads files name bytes
unfolding linking_steps
linked_loads files name bytes are is = λ plan objects planned read.
    let after : LinkPlan → List File → Steps (List ℕ) = λ made all. own (or_unlinked name made (linked all made)) >>= λ file. own (Ok (written false file)) in
    let c = came (link_plan_steps files name) (λ made. object_files files made.objects >>= λ all. after made all) bytes is in
    let d = came (object_files files c.middle.objects) (λ all. after c.middle all) bytes c.next_is in
    let e = came (own (or_unlinked name c.middle (linked d.middle c.middle))) (λ file. own (Ok (written false file))) bytes d.next_is in
    let same : c.middle ≡ plan = one_value (link_plan_steps files name).result c.middle plan c.first_is planned in
    let P : LinkPlan → Type 0 = λ made. (object_files files made.objects).result ≡ Ok d.middle in
    let all : d.middle ≡ objects = one_value (object_files files plan.objects).result d.middle objects (subst P same d.first_is) read in
    let whole : written false e.middle ≡ bytes = cc e.next_is in
    let file = linked_read name c.middle (linked d.middle c.middle) e.middle e.first_is in
    let Q : LinkPlan → Type 0 = λ made. linked d.middle made ≡ Ok e.middle in
    let R : List File → Type 0 = λ xs. linked xs plan ≡ Ok e.middle in
    let S : List ℕ → Type 0 = λ xs. ReadsAs (parts_of (working_of objects plan)) xs in
    subst S whole (loads_by files name plan objects e.middle are planned read (subst R all (subst Q same file)))
