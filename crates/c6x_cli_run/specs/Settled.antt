-- The lists of a plan that is bound and placed go together.
use Rattle.std.specs.Prelude.{◌≡◌, List, [], ◌∷◌, length}
use Rattle.c6x_base.specs.Search.{AreBelow}
use Rattle.c6x_module.specs.declared.module.Module.{Module}
use Rattle.c6x_place.specs.declared.bound_process.BoundProcess.{BoundProcess}
use Rattle.c6x_place.specs.declared.seat.Seat.{Seat}
use Rattle.c6x_cli_run.specs.declared.loading.Loading.{Loading}

-- A seat has a base for each member of a search list of modules.
pub record HasSeat (modules : List Module) (bound : BoundProcess) (seat : Seat) : Type 0 where
  pub known : AreBelow (length modules) bound.modules
  pub bases : length bound.modules ≡ length seat.bases

abbrev pub HaveSeats : List Module → List BoundProcess → List Seat → Type 0
HaveSeats modules [] seats = Unit {0}
HaveSeats modules (bound ∷ bounds) [] = Unit {0}
HaveSeats modules (bound ∷ bounds) (seat ∷ seats) = HasSeat modules bound seat × HaveSeats modules bounds seats

-- Each module has its place for a text, and each process what it is bound to and its seat.
pub record IsSettled (loading : Loading) : Type 0 where
  pub texts : length loading.modules ≡ length loading.placement.texts
  pub bounds : length loading.plan.processes ≡ length loading.bound.processes
  pub seats : length loading.plan.processes ≡ length loading.placement.seats
  pub seated : HaveSeats loading.modules loading.bound.processes loading.placement.seats
