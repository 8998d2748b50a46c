use Rattle.std.specs.Prelude.{◌≡◌, Option, None, Some}

-- What a reader of a part answers, seen by `view`, is what the part gives.
abbrev pub Gives : {X Y : Type 0} → (X → Y) → Option X → Option Y → Type 0
Gives view None read = read ≡ None
Gives view (Some part) read = read ≡ Some (view part)
