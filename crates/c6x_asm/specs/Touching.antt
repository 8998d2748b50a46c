-- A line changes no more than one section.
use Rattle.std.specs.Prelude.{◌≡◌, ℕ, ◌⊎◌, List, [], ◌∷◌, ◌++◌, Option, Some, slice_set}
use Rattle.c6x_asm_object.specs.declared.asm_section.AsmSection.{AsmSection}

-- there is one more section
pub record IsAdded (before after : List AsmSection) : Type 0 where
  pub section : AsmSection
  pub is : after ≡ before ++ section ∷ []

-- a section has another in its place
pub record IsReplaced (before : List AsmSection) (place : ℕ) (after : List AsmSection) : Type 0 where
  pub section : AsmSection
  pub is : after ≡ slice_set before place section

-- the section that lines go to has another in its place
pub record IsGrown (before : List AsmSection) (current : Option ℕ) (after : List AsmSection) : Type 0 where
  pub place : ℕ
  pub goes : current ≡ Some place
  pub replaced : IsReplaced before place after

abbrev pub Touches : List AsmSection → Option ℕ → List AsmSection → Type 0
Touches before current after = (after ≡ before) ⊎ (IsAdded before after ⊎ IsGrown before current after)
