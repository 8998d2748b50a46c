use Rattle.std.specs.Prelude.{◌≡◌, ℕ, List, Option, None, Some, Result, Ok, Err, IsOk, if◌then◌else◌}
use Rattle.c6x_spec.specs.Files.{Files, front_at, stored}
use Rattle.c6x_ports.specs.Numbered.{fails_next, next_call, raised}
use Rattle.c6x_ports.specs.declared.shelf.ShelfError.{ShelfError}
use Rattle.c6x_ports.specs.declared.shelf.ShelfError.TheVariants.{Missing, Failed, NoMemory}

-- A shelf in memory: its files, the numbers of the calls that fail, how many calls have had a number, and its counts.
pub record ShelfInMemory : Type 0 where
  pub files : Files
  pub failing : List ℕ
  pub calls : ℕ
  pub read_faults : ℕ
  pub write_faults : ℕ
  pub absences : ℕ

-- The bytes, or that the name is missing.
abbrev pub or_missing : Option (List ℕ) → Result (List ℕ) ShelfError
or_missing None = Err Missing
or_missing (Some bytes) = Ok bytes

-- What a fetch gives where memory is ample.
abbrev pub fetched : ShelfInMemory → List ℕ → ℕ → Result (List ℕ) ShelfError
fetched s name most =
    if fails_next s.failing s.calls then Err Failed else or_missing (front_at s.files name most)

-- An error is the one that ample memory gives, or tells want of memory in place of bytes.
abbrev pub IsErrorOf : Result (List ℕ) ShelfError → ShelfError → Type 0
IsErrorOf wanted Missing = wanted ≡ Err Missing
IsErrorOf wanted Failed = wanted ≡ Err Failed
IsErrorOf wanted NoMemory = IsOk wanted

-- The shelf after a call with no fault, no absence and no store.
abbrev pub counted : ShelfInMemory → ShelfInMemory
counted s = record s { calls = next_call s.calls }

-- The shelf after a fetch with this result.
abbrev pub after_fetch : {A : Type 0} → ShelfInMemory → Result A ShelfError → ShelfInMemory
after_fetch s (Ok bytes) = counted s
after_fetch s (Err Missing) = record s { calls = next_call s.calls; absences = raised s.absences }
after_fetch s (Err Failed) = record s { calls = next_call s.calls; read_faults = raised s.read_faults }
after_fetch s (Err NoMemory) = counted s

-- The shelf after a store of these bytes with this result.
abbrev pub after_store : {A : Type 0} → ShelfInMemory → List ℕ → List ℕ → Result A ShelfError → ShelfInMemory
after_store s name bytes (Ok done) = record s { calls = next_call s.calls; files = stored s.files name bytes }
after_store s name bytes (Err Missing) = counted s
after_store s name bytes (Err Failed) = record s { calls = next_call s.calls; write_faults = raised s.write_faults }
after_store s name bytes (Err NoMemory) = counted s
