use Rattle.std.specs.Prelude.{◌≡◌, ℕ, List, [], ◌∷◌, ◌++◌, None, Some, Result, Ok, Err, IfErr, Contains}
use Rattle.c6x_spec.specs.Files.{Files, front_at, Rose}
use Rattle.c6x_base.specs.declared.limits.TheConstants.{MOST_FILE_BYTES}
use Rattle.c6x_ports.specs.Shelf.{Shelved, KeepsFiles}
use Rattle.c6x_cli_steps.specs.declared.cause.Cause.{Cause}
use Rattle.c6x_cli_steps.specs.declared.cause.Cause.TheVariants.{Usage, Missing, Refused}
use Rattle.c6x_cli_steps.specs.declared.cause.Refusal.{Refusal}
use Rattle.c6x_cli_steps.specs.declared.prepare_error.PrepareError.{PrepareError}
use Rattle.c6x_cli_steps.specs.declared.prepare_error.PrepareError.TheVariants.{Because, ReadFault, Memory}

-- What steps come to, on files that are told: the names that they fetch, up to and with the first step that stops, and
-- their value, or the cause that stops them.
pub record Steps (A : Type 0) : Type 0 where
  pub fetches : List (List ℕ)
  pub result : Result A Cause

-- A step that asks for no file.
abbrev pub own : {A : Type 0} → Result A Cause → Steps A
own result = record { fetches = []; result = result }

-- Names that were fetched and what came of them, then the next steps, where nothing stopped.
abbrev pub followed : {A B : Type 0} → List (List ℕ) → Result A Cause → (A → Steps B) → Steps B
followed fetches (Err cause) next = record { fetches = fetches; result = Err cause }
followed fetches (Ok value) next = record { fetches = fetches ++ (next value).fetches; result = (next value).result }

infixl 10 ◌>>=◌
unfoldable pub ◌>>=◌ : {A B : Type 0} → Steps A → (A → Steps B) → Steps B
first >>= next = followed first.fetches first.result next

-- The greatest number of bytes that a file may have.
unfoldable pub most_bytes : ℕ
most_bytes = MOST_FILE_BYTES

-- The bytes of a file, as far as a command takes them, or that it is missing.
unfoldable pub front_of : Files → List ℕ → Result (List ℕ) Cause
front_of files name = elim (front_at files name most_bytes) [ Some bytes ↦ Ok bytes | None ↦ Err (Missing name) ]

abbrev pub fetched : Files → List ℕ → Steps (List ℕ)
fetched files name = record { fetches = name ∷ []; result = front_of files name }

-- An error is the stop of steps: their cause, or a name among those that they fetch whose file could not be read, or
-- want of memory.
abbrev pub Stops : {A : Type 0} → PrepareError → Steps A → Type 0
Stops (Because cause) steps = steps.result ≡ Err cause
Stops (ReadFault name) steps = Contains steps.fetches name
Stops Memory steps = Unit {0}

-- A call gives what its steps come to, its value seen so, or stops as they do.
abbrev pub Gives : {A B : Type 0} → (A → B) → Result A PrepareError → Steps B → Type 0
Gives view (Ok value) steps = steps.result ≡ Ok (view value)
Gives view (Err error) steps = Stops error steps

-- What an error shows of the shelf's counts: a missing file was an absence, a file that could not be read was a fault. No
-- step behind the words finds that they have no reading.
abbrev pub HasCause : PrepareError → Shelved → Shelved → Type 0
HasCause (Because (Missing _)) before after = Rose before.absences after.absences
HasCause (Because Usage) before after = ⊥
HasCause (Because (Refused _)) before after = Unit {0}
HasCause (ReadFault _) before after = Rose before.read_faults after.read_faults
HasCause Memory before after = Unit {0}

-- What steps that ask the shelf do: where the files are told, they give what those come to. An error has its cause, and
-- the files stay.
pub record Prepares {A B : Type 0} (view : A → B) (steps : Files → Steps B) (before after : Shelved) (result : Result A PrepareError) : Type 0 where
  pub gives : (told : Files) → before.files ≡ Some told → Gives view result (steps told)
  pub cause : IfErr result (λ error. HasCause error before after)
  pub keeps : KeepsFiles before after

-- What a step that asks no shelf does: it gives this value, or refuses so, or memory ran out.
abbrev pub Decides : {A B : Type 0} → (A → B) → Result B Cause → Result A PrepareError → Type 0
Decides view wanted (Ok value) = wanted ≡ Ok (view value)
Decides view wanted (Err (Because (Refused refusal))) = wanted ≡ Err (Refused refusal)
Decides view wanted (Err (Because (Missing _))) = ⊥
Decides view wanted (Err (Because Usage)) = ⊥
Decides view wanted (Err (ReadFault _)) = ⊥
Decides view wanted (Err Memory) = Unit {0}

-- An error is this refusal, or memory ran out.
abbrev pub Refuses : PrepareError → Refusal → Type 0
Refuses (Because (Refused refusal)) wanted = refusal ≡ wanted
Refuses (Because (Missing _)) wanted = ⊥
Refuses (Because Usage) wanted = ⊥
Refuses (ReadFault _) wanted = ⊥
Refuses Memory wanted = Unit {0}
