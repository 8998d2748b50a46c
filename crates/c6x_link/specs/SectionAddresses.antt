-- The addresses of sections by their numbers.
use Rattle.std.specs.Prelude.{ℕ, ◌==◌, ◌&&◌, Bool, List, [], ◌∷◌, Option, None, Some, if◌then◌else◌}
use Rattle.c6x_layout.specs.declared.place.Place.{Place}
use Rattle.c6x_link.specs.declared.section_key.SectionKey.{SectionKey}

abbrev pub same_key : SectionKey → SectionKey → Bool
same_key a b = a.object == b.object && a.section == b.section

abbrev pub key_of : Place → SectionKey
key_of p = record { object = p.object; section = p.section }

abbrev pub address_or_zero : Option ℕ → ℕ
address_or_zero None = 0
address_or_zero (Some address) = address

-- The address of the first place of a section.
abbrev pub found_in : List Place → SectionKey → Option ℕ
found_in [] key = None
found_in (p ∷ ps) key = if same_key (key_of p) key then Some p.address else found_in ps key
