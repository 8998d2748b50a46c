use Rattle.std.proofs.Common.{◌≡◌, ℕ, suc, ◌+◌, ◌<◌, ◌≤◌, List, [], ◌∷◌, ◌++◌, drop, get_or, length, refl, sym, subst, ◌∙◌, ap, add-one, arith}
use Rattle.std.specs.Prelude.{Result, Ok, Err}
use Rattle.std.proofs.Math.Seq.{drop-cons}
use Rattle.c6x_spec.specs.Files.{Files}
use Rattle.c6x_elf.specs.declared.file.File.{File}
use Rattle.c6x_ports.specs.Shelf.{Shelved}
use Rattle.c6x_cli_steps.specs.declared.cause.Cause.TheVariants.{Usage}
use Rattle.c6x_cli_steps.specs.declared.prepare_error.PrepareError.{PrepareError}
use Rattle.c6x_cli_steps.specs.declared.prepare_error.PrepareError.TheVariants.{Memory}
use Rattle.c6x_cli_steps.specs.Steps.{Prepares, ◌>>=◌, own}
use Rattle.c6x_cli_steps.proofs.Chains.{prepares_first, prepares_then, prepares_own}
use Rattle.c6x_cli.specs.Linking.{object_file, object_files, objects_behind}

-- before the first name nothing was read
pub objects_start : {A : Type 0} (whole : A → List File) (objects : List File) (names : List (List ℕ)) (before after : Shelved) (result : Result A PrepareError) → objects ≡ [] → Prepares whole (λ told. objects_behind objects told (drop 0 names)) before after result → Prepares whole (λ told. object_files told names) before after result
unfolding object_files
objects_start whole objects names before after result none p =
    subst (λ read. Prepares whole (λ told. objects_behind read told names) before after result) none p

-- an object more
pub objects_next : {A : Type 0} (whole : A → List File) (objects more : List File) (name : List ℕ) (names rest : List (List ℕ)) (before now after : Shelved) (object : File) (result : Result A PrepareError) → rest ≡ name ∷ names → more ≡ objects ++ object ∷ [] → Prepares (λ object. object) (λ told. object_file told name) before now (Ok object) → Prepares whole (λ told. objects_behind more told names) now after result → Prepares whole (λ told. objects_behind objects told rest) before after result
objects_next whole objects more name names rest before now after object result is added p q =
    subst (λ left. Prepares whole (λ told. objects_behind objects told left) before after result) (sym is)
    (prepares_then (λ object. object) whole (λ told. object_file told name) (λ told object. objects_behind (objects ++ object ∷ []) told names) before now after object result p
    (subst (λ read. Prepares whole (λ told. objects_behind read told names) now after result) added q))

-- one that stops the steps
pub objects_stop : {A : Type 0} (whole : A → List File) (objects : List File) (name : List ℕ) (names rest : List (List ℕ)) (before after : Shelved) (error : PrepareError) (result : Result A PrepareError) → rest ≡ name ∷ names → result ≡ Err error → Prepares {A = File} (λ object. object) (λ told. object_file told name) before after (Err error) → Prepares whole (λ told. objects_behind objects told rest) before after result
objects_stop whole objects name names rest before after error result is stops p =
    subst (λ left. Prepares whole (λ told. objects_behind objects told left) before after result) (sym is)
    (prepares_first (λ object. object) whole (λ told. object_file told name) (λ told object. objects_behind (objects ++ object ∷ []) told names) before after error result stops p)

-- want of memory behind an object
pub objects_memory : {A : Type 0} (whole : A → List File) (objects : List File) (name : List ℕ) (names rest : List (List ℕ)) (before now : Shelved) (object : File) (result : Result A PrepareError) → rest ≡ name ∷ names → result ≡ Err Memory → Prepares (λ object. object) (λ told. object_file told name) before now (Ok object) → Prepares whole (λ told. objects_behind objects told rest) before now result
objects_memory {A} whole objects name names rest before now object result is none p =
    let same = prepares_own {A = A} {B = List File} whole (Err Usage) now (Err Memory) tt in
    subst (λ left. Prepares whole (λ told. objects_behind objects told left) before now result) (sym is)
    (prepares_then (λ object. object) whole (λ told. object_file told name) (λ told object. objects_behind (objects ++ object ∷ []) told names) before now now object result p
    (subst (λ r. Prepares whole (λ told. objects_behind (objects ++ object ∷ []) told names) now now r) (sym none) (record { gives = λ told tells. tt; cause = tt; keeps = same.keeps })))

-- behind the last name all were read
pub objects_end : {A : Type 0} (whole : A → List File) (value : A) (rest : List (List ℕ)) (shelf : Shelved) → rest ≡ [] → Prepares whole (λ told. objects_behind (whole value) told rest) shelf shelf (Ok value)
objects_end whole value rest shelf none =
    subst (λ left. Prepares whole (λ told. objects_behind (whole value) told left) shelf shelf (Ok value)) (sym none)
    (prepares_own whole (Ok (whole value)) shelf (Ok value) refl)

-- what is left at a name
pub names_from : (names : List (List ℕ)) (at : ℕ) (name : List ℕ) → at < length names → name ≡ get_or names at name → drop at names ≡ name ∷ drop (at + 1) names
names_from names at name inside is =
    rw add-one (drop-cons names at name inside ∙ ap (λ (first : List ℕ). first ∷ drop (suc at) names) (sym is))
