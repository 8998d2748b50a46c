-- The groups of a layout together.
use Rattle.std.proofs.Common.{◌≡◌, List, ◌++◌, ◌∙◌, append_assoc}
use Rattle.c6x_layout.specs.declared.place.Place.{Place}

pub five_parts : (a b c d e : List Place) → ((((a ++ b) ++ c) ++ d) ++ e) ≡ a ++ (b ++ (c ++ (d ++ e)))
five_parts a b c d e =
    append_assoc ((a ++ b) ++ c) d e ∙ append_assoc (a ++ b) c (d ++ e) ∙ append_assoc a b (c ++ (d ++ e))
