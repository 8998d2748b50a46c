-- The writes of a packet, by destination cycle and register.
use Rattle.std.proofs.Common.{◌≡◌, ℕ, ◌<◌, List, [], ◌∷◌, ◌++◌, refl, arith, Option, None, Some, Bool}
use Rattle.std.specs.Prelude.{IfSome}
use Rattle.std.specs.List.{All}
use Rattle.std.proofs.lemmas.List.Elements.{All-nil, All-cons, All-append, All-head, All-tail}
use Rattle.c6x_encoding.specs.declared.effect.Effects.{Effects}
use Rattle.c6x_encoding.specs.declared.write.Write.{Write}
use Rattle.c6x_encoding.specs.declared.mem_op.MemOp.{MemOp}
use Rattle.c6x_encoding.specs.declared.job.Job.{Job}
use Rattle.c6x_encoding.specs.declared.job.Job.TheVariants.{Load, Store}
use Rattle.c6x_encoding.specs.Rows.{written_by_job, FitsWrite, FitsAccess, FitsJob, FitsEffects}
use Rattle.c6x_machine.specs.declared.destination.Destination.{Destination}
use Rattle.c6x_exec.specs.Fits.{IsSoon}
use Rattle.c6x_machine.specs.Packet.{destination_of, load_destination_of, destinations_of_row, destinations_in, two_writes_by}
use Rattle.c6x_exec.proofs.Amid.{place_below}

-- a write that lands after a cycle
abbrev pub IsLater : ℕ → Destination → Type 0
IsLater n destination = (n < destination.at) × (destination.register < 64)

of_write : (n : ℕ) (o : Option Write) → IfSome o FitsWrite → All (IsLater n) (destination_of n o)
of_write n None fits = All-nil (IsLater n)
of_write n (Some write) fits = All-cons (IsLater n) _ [] (omega arith, place_below write.side write.register fits.register) (All-nil (IsLater n))

of_job : (n size : ℕ) (job : Job) → FitsJob job → All (IsLater n) (destination_of n (written_by_job job size 0))
of_job n size (Load signed side register) fits = All-cons (IsLater n) _ [] (omega arith, place_below side register fits) (All-nil (IsLater n))
of_job n size (Store value) fits = All-nil (IsLater n)

of_access : (n : ℕ) (o : Option MemOp) → IfSome o FitsAccess → All (IsLater n) (load_destination_of n o)
of_access n None fits = All-nil (IsLater n)
of_access n (Some access) fits = of_job n access.size access.job fits.job

pub later_destinations : (n : ℕ) (rows : List Effects) → All FitsEffects rows → All (IsLater n) (destinations_in n rows)
later_destinations n [] fits = All-nil (IsLater n)
later_destinations n (row ∷ rows) fits =
    let here : FitsEffects row = All-head FitsEffects row rows fits in
    All-append (IsLater n) (destinations_of_row n row) (destinations_in n rows)
    (All-append (IsLater n) (destination_of n row.result) (destination_of n row.update ++ load_destination_of n row.access)
    (of_write n row.result here.result)
    (All-append (IsLater n) (destination_of n row.update) (load_destination_of n row.access) (of_write n row.update here.update) (of_access n row.access here.access)))
    (later_destinations n rows (All-tail FitsEffects row rows fits))

pub soon_destinations : (n : ℕ) (rows : List Effects) → All FitsEffects rows → All IsSoon (destinations_in n rows)
soon_destinations n rows fits = λ k d within. (later_destinations n rows fits k d within).1

-- tests that agree on writes to come find the same
pub meets_same : (n : ℕ) (taken other : ℕ → ℕ → Bool) → ((t r : ℕ) → n < t → r < 64 → taken t r ≡ other t r) → (destinations : List Destination) → All (IsLater n) destinations → two_writes_by taken destinations ≡ two_writes_by other destinations
meets_same n taken other same [] later = refl
meets_same n taken other same (destination ∷ destinations) later =
    let here : IsLater n destination = All-head (IsLater n) destination destinations later in
    rw (same destination.at destination.register here.0 here.1, meets_same n taken other same destinations (All-tail (IsLater n) destination destinations later)) refl
