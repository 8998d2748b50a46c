-- The processes of a plan: what they are bound to, and where they stand. The order is this project's own.
use Rattle.std.specs.Prelude.{◌≡◌, ℕ, ◌+◌, ◌<◌, ◌||◌, Bool, true, false, List, [], ◌∷◌, ◌++◌, length, map, Option, None, Some}
use Rattle.c6x_spec.specs.Firsts.{◌<|>◌}
use Rattle.c6x_spec.specs.Options.{◌>>=◌}
use Rattle.c6x_base.specs.Search.{has}
use Rattle.c6x_module.specs.declared.module.Module.{Module}
use Rattle.c6x_plan.specs.declared.process_plan.ProcessPlan.{ProcessPlan}
use Rattle.c6x_place.specs.Binding.{Refusal, process_refusal, bound_process}
use Rattle.c6x_place.specs.declared.bound_process.BoundProcess.{BoundProcess}
use Rattle.c6x_place.specs.Places.{ArePlaced, texts_from, seat_of}
use Rattle.c6x_place.specs.Rooms.{text_rooms, text_places, seat_rooms, seat_places}
use Rattle.c6x_place.specs.declared.placement.Placement.{Placement}
use Rattle.c6x_place.specs.declared.room.Room.{Room}
use Rattle.c6x_place.specs.declared.seat.Seat.{Seat}

-- The process's executable is a module of the plan.
abbrev pub IsKnown : List Module → ProcessPlan → Type 0
IsKnown modules plan = plan.module < length modules

-- The first broken rule, process by process, where the first of them has this place in the plan.
abbrev pub plans_refusal : List Module → ℕ → List ProcessPlan → Option Refusal
plans_refusal modules process [] = None
plans_refusal modules process (plan ∷ plans) =
    process_refusal modules process plan.name plan.module <|> plans_refusal modules (process + 1) plans

abbrev pub bound_plan : List Module → ProcessPlan → BoundProcess
bound_plan modules plan = bound_process modules plan.module

-- What the processes are bound to, where they break no rule.
abbrev pub bound_plans : List Module → List ProcessPlan → List BoundProcess
bound_plans modules plans = map (bound_plan modules) plans

-- A module is on the search list of some process.
abbrev pub is_used : List BoundProcess → ℕ → Bool
is_used [] number = false
is_used (bound ∷ bounds) number = has bound.modules number || is_used bounds number

-- For each module whether its text is used, where the first of these modules has the number `from`.
abbrev pub used_from : List BoundProcess → ℕ → List Module → List Bool
used_from bounds from [] = []
used_from bounds from (m ∷ modules) = is_used bounds from ∷ used_from bounds (from + 1) modules

-- The rooms of a plan in their order: the texts that are used, then for each process its data ranges and its stack.
abbrev pub seats_rooms : List Module → List ProcessPlan → List BoundProcess → List Room
seats_rooms modules [] bounds = []
seats_rooms modules (plan ∷ plans) [] = []
seats_rooms modules (plan ∷ plans) (bound ∷ bounds) =
    seat_rooms modules bound.modules plan.stack ++ seats_rooms modules plans bounds

abbrev pub plan_rooms : List Module → List ProcessPlan → List BoundProcess → List Room
plan_rooms modules plans bounds =
    text_rooms modules (used_from bounds 0 modules) ++ seats_rooms modules plans bounds

-- The places of a placement in the same order.
abbrev pub seats_places : List Seat → List ℕ
seats_places [] = []
seats_places (seat ∷ seats) = seat_places seat ++ seats_places seats

abbrev pub plan_places : Placement → List ℕ
plan_places placement = text_places placement.texts ++ seats_places placement.seats

-- The texts that are used have a place, and no other.
abbrev pub AreWanted : List Bool → List (Option ℕ) → Type 0
AreWanted [] [] = Unit {0}
AreWanted [] (text ∷ texts) = ⊥
AreWanted (u ∷ used) [] = ⊥
AreWanted (true ∷ used) (Some at ∷ texts) = AreWanted used texts
AreWanted (true ∷ used) (None ∷ texts) = ⊥
AreWanted (false ∷ used) (Some at ∷ texts) = ⊥
AreWanted (false ∷ used) (None ∷ texts) = AreWanted used texts

-- Each process has a seat, with a base for each module of its search list.
abbrev pub AreSeated : List BoundProcess → List Seat → Type 0
AreSeated [] [] = Unit {0}
AreSeated [] (seat ∷ seats) = ⊥
AreSeated (bound ∷ bounds) [] = ⊥
AreSeated (bound ∷ bounds) (seat ∷ seats) = (length seat.bases ≡ length bound.modules) × AreSeated bounds seats

-- The placement of a plan in the memory from `base` to `end`.
pub record IsPlacement (modules : List Module) (plans : List ProcessPlan) (bounds : List BoundProcess) (base end : ℕ) (placement : Placement) : Type 0 where
  pub wanted : AreWanted (used_from bounds 0 modules) placement.texts
  pub seated : AreSeated bounds placement.seats
  pub last : ℕ
  pub placed : ArePlaced base end (plan_rooms modules plans bounds) (plan_places placement) last

-- The same as a value. The seat of a process behind those that stand already, and the cursor behind it.
unfoldable pub one_seat : List Seat → List Module → ℕ → ℕ → List ℕ → ℕ → Option (List Seat × ℕ)
one_seat front modules cursor end list stack = do
  made ← seat_of modules cursor end list stack
  Some (front ++ made.0 ∷ [], made.1)

abbrev pub seats_from : List Module → List Seat → ℕ → ℕ → List ProcessPlan → List BoundProcess → Option (List Seat × ℕ)
seats_from modules front cursor end [] bounds = Some (front, cursor)
seats_from modules front cursor end (plan ∷ plans) [] = Some (front, cursor)
seats_from modules front cursor end (plan ∷ plans) (bound ∷ bounds) =
    one_seat front modules cursor end bound.modules plan.stack
    >>= λ next. seats_from modules next.0 next.1 end plans bounds

unfoldable pub placement_of : List Module → List ProcessPlan → List BoundProcess → ℕ → ℕ → Option Placement
placement_of modules plans bounds base end = do
  texts ← texts_from [] base end modules (used_from bounds 0 modules)
  seats ← seats_from modules [] texts.1 end plans bounds
  Some (record { texts = texts.0; seats = seats.0 })
