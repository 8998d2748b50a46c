-- Where ranges stand: each at its least place behind the one before, and none past the end of the memory.
use Rattle.std.specs.Prelude.{◌≡◌, ℕ, ◌+◌, ◌%◌, ◌≤◌, nat_le, Bool, List, [], ◌∷◌, ◌++◌, Option, None, Some, Result, Ok, Err, if◌then◌else◌}
use Rattle.c6x_spec.specs.Options.{◌>>=◌}
use Rattle.c6x_spec.specs.Places.{IsLeastPlace, least_place}
use Rattle.c6x_module.specs.declared.module.Module.{Module}
use Rattle.c6x_place.specs.Rooms.{range_of, stack_room, wanted_text}
use Rattle.c6x_place.specs.declared.place_error.PlaceError.{PlaceError}
use Rattle.c6x_place.specs.declared.place_error.PlaceError.TheVariants.{NoRoom, NoMemory}
use Rattle.c6x_place.specs.declared.room.Room.{Room}
use Rattle.c6x_place.specs.declared.seat.Seat.{Seat}

-- Ranges stand at these places, the first behind the cursor and none past the end; the last one ends at `last`.
abbrev pub ArePlaced : ℕ → ℕ → List Room → List ℕ → ℕ → Type 0
ArePlaced cursor end [] [] last = last ≡ cursor
ArePlaced cursor end [] (at ∷ places) last = ⊥
ArePlaced cursor end (room ∷ rooms) [] last = ⊥
ArePlaced cursor end (room ∷ rooms) (at ∷ places) last =
    IsLeastPlace cursor room.vaddr room.step at × (at + room.size ≤ end) × ArePlaced (at + room.size) end rooms places last

-- No range begins before this address.
abbrev pub AreBehind : ℕ → List ℕ → Type 0
AreBehind from [] = Unit {0}
AreBehind from (at ∷ places) = (from ≤ at) × AreBehind from places

-- The ranges share no address, lie between the two addresses, and have moved by multiples of their steps.
abbrev pub AreValid : ℕ → ℕ → List Room → List ℕ → Type 0
AreValid base end [] [] = Unit {0}
AreValid base end [] (at ∷ places) = ⊥
AreValid base end (room ∷ rooms) [] = ⊥
AreValid base end (room ∷ rooms) (at ∷ places) =
    (base ≤ at) × (at + room.size ≤ end) × (at % room.step ≡ room.vaddr % room.step)
    × AreBehind (at + room.size) places
    × AreValid base end rooms places

-- The same as values. The place of a range behind the cursor, where it ends in the memory.
unfoldable pub room_at : ℕ → ℕ → Room → Option ℕ
room_at cursor end room =
    let at = least_place cursor room.vaddr room.step in if nat_le (at + room.size) end then Some at else None

-- A text behind those that stand already, where it is used, and the cursor behind it.
unfoldable pub one_text : List (Option ℕ) → ℕ → ℕ → Option Room → Option (List (Option ℕ) × ℕ)
one_text front cursor end None = Some (front ++ None ∷ [], cursor)
one_text front cursor end (Some room) = do
  at ← room_at cursor end room
  Some (front ++ Some at ∷ [], at + room.size)

abbrev pub texts_from : List (Option ℕ) → ℕ → ℕ → List Module → List Bool → Option (List (Option ℕ) × ℕ)
texts_from front cursor end [] used = Some (front, cursor)
texts_from front cursor end (m ∷ modules) [] = Some (front, cursor)
texts_from front cursor end (m ∷ modules) (u ∷ used) =
    one_text front cursor end (wanted_text u m.text) >>= λ next. texts_from next.0 next.1 end modules used

-- A data range behind those that stand already.
unfoldable pub one_base : List ℕ → ℕ → ℕ → Room → Option (List ℕ × ℕ)
one_base front cursor end room = do
  at ← room_at cursor end room
  Some (front ++ at ∷ [], at + room.size)

abbrev pub bases_from : List Module → List ℕ → ℕ → ℕ → List ℕ → Option (List ℕ × ℕ)
bases_from modules front cursor end [] = Some (front, cursor)
bases_from modules front cursor end (number ∷ list) =
    one_base front cursor end (range_of modules number) >>= λ next. bases_from modules next.0 next.1 end list

-- The data ranges of a search list, and the stack.
unfoldable pub seat_of : List Module → ℕ → ℕ → List ℕ → ℕ → Option (Seat × ℕ)
seat_of modules cursor end list stack = do
  ranges ← bases_from modules [] cursor end list
  at ← room_at ranges.1 end (stack_room stack)
  Some (record { bases = ranges.0; stack = at }, at + stack)

-- An answer is the placement, or says that a range would end past the memory. Want of memory is free.
abbrev pub Placed : {X Y : Type 0} → (X → Y) → Result X PlaceError → Option Y → Type 0
Placed view (Ok x) placed = placed ≡ Some (view x)
Placed view (Err NoRoom) placed = placed ≡ None
Placed view (Err NoMemory) placed = Unit {0}
