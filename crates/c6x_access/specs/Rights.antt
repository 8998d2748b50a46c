-- The areas of a process and its rights in them (this project's own).
use Rattle.std.specs.Prelude.{ℕ, zero, suc, ◌+◌, ◌^◌, List, [], ◌∷◌, nat_lt, nat_le, ◌&&◌, ◌||◌, Bool, true, false}
use Rattle.c6x_access.specs.declared.area.Area.{Area}
use Rattle.c6x_access.specs.declared.right.Right.{Right}
use Rattle.c6x_access.specs.declared.right.Right.TheVariants.{Read, Write, Run}

-- the area gives the right
unfoldable pub has_right : Area → Right → Bool
has_right area Read = area.read
has_right area Write = area.write
has_right area Run = area.run

-- the byte is one of these many from lo on
abbrev pub is_inside : ℕ → ℕ → ℕ → Bool
is_inside lo len x = nat_le lo x && nat_lt x (lo + len)

-- the area has the byte and gives the right
abbrev pub gives : Area → Right → ℕ → Bool
gives area right x = has_right area right && is_inside area.lo area.len x

-- some area that has the byte gives the right
abbrev pub allowed : List Area → Right → ℕ → Bool
allowed [] right x = false
allowed (area ∷ areas) right x = gives area right x || allowed areas right x

-- each of these bytes may be used so
abbrev pub all_allowed : List Area → Right → ℕ → ℕ → Bool
all_allowed areas right at zero = true
all_allowed areas right at (suc size) = allowed areas right at && all_allowed areas right (at + 1) size

-- an access of this many bytes may be made: no byte lies past the last address
unfoldable pub may_access : List Area → Right → ℕ → ℕ → Bool
may_access areas right at size = nat_le (at + size) (2 ^ 32) && all_allowed areas right at size

-- the byte lies in an area of the process
abbrev pub is_own : List Area → ℕ → Bool
is_own [] x = false
is_own (area ∷ areas) x = is_inside area.lo area.len x || is_own areas x
