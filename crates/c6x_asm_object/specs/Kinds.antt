-- What a section is by its name: this project's own, after SPRAB89's section names.
use Rattle.std.specs.Prelude.{ℕ, nat_eq, Bool, ◌||◌, if◌then◌else◌, List, codes}
use Rattle.std.specs.List.{starts_with}
use Rattle.std.specs.Str.{bytes_eq}
use Rattle.c6x_asm_object.specs.declared.section_kind.SectionKind.{SectionKind}
use Rattle.c6x_asm_object.specs.declared.section_kind.SectionKind.TheVariants.{Text, Constant, Zero, Data}

-- the name itself, or one that begins with it and a dot
abbrev pub is_under : List ℕ → List ℕ → List ℕ → Bool
is_under name front bytes = bytes_eq bytes name || starts_with nat_eq bytes front

unfoldable pub kind_named : List ℕ → SectionKind
kind_named bytes =
    if is_under (codes ".text") (codes ".text.") bytes then Text
    else if is_under (codes ".const") (codes ".const.") bytes then Constant
    else if is_under (codes ".bss") (codes ".bss.") bytes || is_under (codes ".far") (codes ".far.") bytes then Zero
    else Data

abbrev pub first_align : SectionKind → ℕ
first_align Text = 32
first_align _ = 8
