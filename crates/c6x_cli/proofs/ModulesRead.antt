-- Each module of a plan is that of its file.
use Rattle.std.proofs.Common.{◌≡◌, ℕ, zero, suc, List, [], ◌∷◌, ◌++◌, length, refl, sym, ap, ◌∙◌, subst, append-nil}
use Rattle.std.proofs.Common.{append_assoc, false}
use Rattle.std.specs.Prelude.{All, None, Some, Result, Ok, Err, slice_get}
use Rattle.std.proofs.lemmas.List.Elements.{All-cons, All-nil}
use Rattle.c6x_spec.specs.Files.{Files}
use Rattle.c6x_elf.specs.declared.file.File.{File}
use Rattle.c6x_plan.specs.declared.module_plan.ModulePlan.{ModulePlan}
use Rattle.c6x_module.specs.Valid.{IsValid}
use Rattle.c6x_module.specs.declared.module.Module.{Module}
use Rattle.c6x_module.specs.Modules.{module_in}
use Rattle.c6x_module.specs.Refusals.{Refusal as ModuleRefusal}
use Rattle.c6x_module.proofs.Validity.{module_valid}
use Rattle.c6x_cli_steps.specs.Elf.{elf_steps}
use Rattle.c6x_cli_run.specs.Loading.{image_steps, images_behind, modules_steps, taken}
use Rattle.c6x_cli_steps.specs.Steps.{own}
use Rattle.c6x_cli.proofs.Came.{came}

pub record IsImage (files : Files) (planned : ModulePlan) (m : Module) : Type 0 where
  pub file : File
  pub read : (elf_steps files planned.file).result ≡ Ok file
  pub is : module_in false planned.name file ≡ Ok m

abbrev pub AreImages : Files → List ModulePlan → List Module → Type 0
AreImages files [] [] = Unit {0}
AreImages files [] (m ∷ ms) = ⊥
AreImages files (p ∷ ps) [] = ⊥
AreImages files (p ∷ ps) (m ∷ ms) = IsImage files p m × AreImages files ps ms

-- modules behind others
pub record Behind (files : Files) (modules : List Module) (planned : List ModulePlan) (all : List Module) : Type 0 where
  pub more : List Module
  pub split : all ≡ modules ++ more
  pub each : AreImages files planned more

pub record Taken (files : Files) (modules : List Module) (planned : ModulePlan) (all : List Module) : Type 0 where
  pub last : Module
  pub split : all ≡ modules ++ last ∷ []
  pub image : IsImage files planned last

taken_is :
    (files : Files) (modules : List Module) (planned : ModulePlan) (file : File) (all : List Module)
    (r : Result Module ModuleRefusal)
    → (elf_steps files planned.file).result ≡ Ok file
    → module_in false planned.name file ≡ r
    → taken modules planned.name r ≡ Ok all
    → Taken files modules planned all
taken_is files modules planned file all (Ok m) read here is =
    let same : modules ++ m ∷ [] ≡ all = cc is in
    record { last = m; split = sym same; image = record { file = file; read = read; is = here } }
taken_is files modules planned file all (Err broken) read here is = absurd (cc is)

image_taken :
    (files : Files) (modules : List Module) (planned : ModulePlan) (all : List Module)
    → (image_steps modules files planned).result ≡ Ok all
    → Taken files modules planned all
unfolding image_steps
image_taken files modules planned all is =
    let c = came (elf_steps files planned.file)
    (λ file. own (taken modules planned.name (module_in false planned.name file))) all is in
    taken_is files modules planned c.middle all (module_in false planned.name c.middle) c.first_is refl c.next_is

all_taken :
    (files : Files) (modules : List Module) (planned : List ModulePlan) (all : List Module)
    → (images_behind modules files planned).result ≡ Ok all
    → Behind files modules planned all
all_taken files modules [] all is =
    let same : modules ≡ all = cc is in
    record { more = []; split = sym same ∙ sym (append-nil modules); each = tt }
all_taken files modules (p ∷ planned) all is =
    let c = came (image_steps modules files p) (λ more. images_behind more files planned) all is in
    let t = image_taken files modules p c.middle c.first_is in
    let later = all_taken files c.middle planned all c.next_is in
    record {
      more = t.last ∷ later.more;
      split = later.split ∙ ap (λ xs. xs ++ later.more) t.split ∙ append_assoc modules (t.last ∷ []) later.more;
      each = (t.image, later.each);
    }

pub images_read :
    (files : Files) (planned : List ModulePlan) (modules : List Module)
    → (modules_steps files planned).result ≡ Ok modules
    → AreImages files planned modules
unfolding modules_steps
images_read files planned modules is =
    let b = all_taken files [] planned modules is in
    subst (AreImages files planned) (sym b.split) b.each

-- so they are as many as planned, each is valid, and each is that of its file
pub images_length :
    (files : Files) (planned : List ModulePlan) (modules : List Module)
    → AreImages files planned modules
    → length modules ≡ length planned
images_length files [] [] each = refl
images_length files [] (m ∷ modules) each = absurd each
images_length files (p ∷ planned) [] each = absurd each
images_length files (p ∷ planned) (m ∷ modules) each = ap suc (images_length files planned modules each.1)

pub images_valid :
    (files : Files) (planned : List ModulePlan) (modules : List Module)
    → AreImages files planned modules
    → All IsValid modules
images_valid files [] [] each = All-nil IsValid
images_valid files [] (m ∷ modules) each = absurd each
images_valid files (p ∷ planned) [] each = absurd each
images_valid files (p ∷ planned) (m ∷ modules) each =
    All-cons IsValid m modules (module_valid false p.name each.0.file m each.0.is)
    (images_valid files planned modules each.1)

no_value : {A P : Type 0} (x : A) → None ≡ Some x → P
no_value x is = absurd (cc is)

pub image_at :
    (files : Files) (planned : List ModulePlan) (modules : List Module) (number : ℕ) (p : ModulePlan) (m : Module)
    → AreImages files planned modules
    → slice_get planned number ≡ Some p
    → slice_get modules number ≡ Some m
    → IsImage files p m
image_at files [] [] number p m each a b = no_value p a
image_at files [] (y ∷ modules) number p m each a b = absurd each
image_at files (x ∷ planned) [] number p m each a b = absurd each
image_at files (x ∷ planned) (y ∷ modules) zero p m each a b =
    let same_plan : x ≡ p = cc a in
    let same_module : y ≡ m = cc b in
    let P : ModulePlan → Type 0 = λ q. IsImage files q y in
    subst (IsImage files p) same_module (subst P same_plan each.0)
image_at files (x ∷ planned) (y ∷ modules) (suc number) p m each a b = image_at files planned modules number p m
    each.1 a b
