-- Words and stubs with one need more.
use Rattle.std.specs.Prelude.{ℕ, nat_eq, List, [], ◌∷◌, ◌++◌, if◌then◌else◌}
use Rattle.std.specs.List.{list_any}
use Rattle.c6x_dsbt.specs.Wanted.{same_wanted}
use Rattle.c6x_dsbt.specs.declared.wanted.Wanted.{Wanted}

abbrev pub with_word : List Wanted → Wanted → List Wanted
with_word words wanted = if list_any (same_wanted wanted) words then words else words ++ wanted ∷ []

abbrev pub with_stub : List ℕ → ℕ → List ℕ
with_stub stubs number = if list_any (nat_eq number) stubs then stubs else stubs ++ number ∷ []
