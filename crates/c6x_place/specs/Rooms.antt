-- What the ranges of modules ask for. A text keeps its fetch packets of 32 bytes (SPRU732), a data range and a stack
-- their double words of 8 bytes (SPRAB89 keeps B15 so aligned), and each range its own alignment where that is greater
-- (gABI chapter 5, `p_align`).
use Rattle.std.specs.Prelude.{ℕ, max, Bool, true, false, List, [], ◌∷◌, ◌++◌, slice_get, Option, None, Some}
use Rattle.c6x_elf.specs.declared.segment.Segment.{Segment}
use Rattle.c6x_module.specs.declared.module.Module.{Module}
use Rattle.c6x_place.specs.declared.room.Room.{Room}
use Rattle.c6x_place.specs.declared.seat.Seat.{Seat}

abbrev pub text_room : Segment → Room
text_room s = record { vaddr = s.vaddr; step = max 32 s.align; size = s.memsz }

abbrev pub data_room : Segment → Room
data_room s = record { vaddr = s.vaddr; step = max 8 s.align; size = s.memsz }

abbrev pub stack_room : ℕ → Room
stack_room size = record { vaddr = 0; step = 8; size = size }

-- The data range of the module with this number; an empty range where there is no such module.
abbrev pub room_or : Option Module → Room
room_or None = stack_room 0
room_or (Some m) = data_room m.memory

abbrev pub range_of : List Module → ℕ → Room
range_of modules number = room_or (slice_get modules number)

abbrev pub data_rooms : List Module → List ℕ → List Room
data_rooms modules [] = []
data_rooms modules (number ∷ list) = range_of modules number ∷ data_rooms modules list

-- The rooms of a process: the data ranges of its search list, and its stack.
abbrev pub seat_rooms : List Module → List ℕ → ℕ → List Room
seat_rooms modules list stack = data_rooms modules list ++ stack_room stack ∷ []

abbrev pub seat_places : Seat → List ℕ
seat_places seat = seat.bases ++ seat.stack ∷ []

-- The rooms of the texts that are used.
abbrev pub wanted_text : Bool → Segment → Option Room
wanted_text true text = Some (text_room text)
wanted_text false text = None

abbrev pub with_room : Option Room → List Room → List Room
with_room None rooms = rooms
with_room (Some room) rooms = room ∷ rooms

abbrev pub text_rooms : List Module → List Bool → List Room
text_rooms [] used = []
text_rooms (m ∷ modules) [] = []
text_rooms (m ∷ modules) (u ∷ used) = with_room (wanted_text u m.text) (text_rooms modules used)

-- The places of the texts that have one.
abbrev pub with_place : Option ℕ → List ℕ → List ℕ
with_place None places = places
with_place (Some at) places = at ∷ places

abbrev pub text_places : List (Option ℕ) → List ℕ
text_places [] = []
text_places (text ∷ texts) = with_place text (text_places texts)
