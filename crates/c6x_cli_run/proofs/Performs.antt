use Rattle.std.proofs.Common.{◌≡◌, ◌≢◌, ℕ, ◌≤◌, ◌⊎◌, Bool, true, false, List, [], ◌∷◌, refl, sym, ◌∙◌, ap, subst, inl, inr, arith}
use Rattle.std.specs.Prelude.{Option, None, Some, Result, Ok, Err, OnOk, IsTrue, set, slice_get}
use Rattle.c6x_spec.specs.Files.{Files, Rose}
use Rattle.c6x_spec.specs.Memory.{Memory}
use Rattle.c6x_ports.specs.Chooser.{Chooser}
use Rattle.c6x_ports.specs.declared.kind.Kind.{Kind}
use Rattle.c6x_ports.specs.Shelf.{Shelved, KeepsFiles}
use Rattle.c6x_ports.specs.Sink.{Taken}
use Rattle.c6x_cli_steps.specs.declared.cause.Cause.{Cause}
use Rattle.c6x_cli_steps.specs.declared.cause.Cause.TheVariants.{Usage, Missing, Refused}
use Rattle.c6x_cli_steps.specs.declared.prepare_error.PrepareError.{PrepareError}
use Rattle.c6x_cli_steps.specs.declared.prepare_error.PrepareError.TheVariants.{Because, ReadFault, Memory as NoMemory}
use Rattle.c6x_cli_steps.specs.declared.commit_error.CommitError.{CommitError}
use Rattle.c6x_cli_steps.specs.declared.commit_error.CommitError.TheVariants.{WriteFault, Memory as CommitMemory}
use Rattle.c6x_cli_run.specs.Exits.{Outcome, put_outcome, asking_outcome, store_outcome, Carries, Leaves, IsStopped, IsDone, CountsFault, CutsShort, Commits, LacksMemory, EndsAs, Exits, NoFault, HasReported, IsResult, Completes}
use Rattle.c6x_cli_steps.specs.Lines.{Reports, line_of, status_of, error_line, error_status, memory_line, write_fault_line}
use Rattle.c6x_cli_run.specs.Statuses.{Shows, Keeps, IsOfKind, IsCarriedOut, IsPrevented, Performs}
use Rattle.c6x_cli_steps.specs.Policies.{Asked, asked_kind, first_of, Serves, HasAsked, MayHaveAsked, HasAskedKind, MayHaveAskedKind, KeepsPolicies}
use Rattle.c6x_cli_steps.specs.Stages.{Stage, CutsAt, Delivers}
use Rattle.c6x_cli_steps.specs.Steps.{Steps, Stops, HasCause, Prepares}
use Rattle.c6x_cli_steps.specs.Stores.{HasStored, HasCutStore, KeepsWriteFaults}
use Rattle.c6x_cli_steps.specs.World.{World, world}
use Rattle.c6x_cli_run.specs.Tellings.{HasPut, IsPutCut, Telling, Tells, untold}
use Rattle.c6x_cli_run.proofs.Tellings.{tells_untold}
use Rattle.c6x_cli_steps.proofs.Policies.{set_same}
use Rattle.c6x_cli_steps.proofs.Stages.{cut_nothing, cuts_nothing, takes_nothing, took_nothing}

-- where nothing was written and no policy was asked, nothing is left
pub leaves_nothing : (before after : World) → after.shelf.files ≡ before.shelf.files → after.out.bytes ≡ before.out.bytes → after.board ≡ before.board → after.policies ≡ before.policies → Leaves [] before after
leaves_nothing before after files out board policies = record {
  files = files;
  out = takes_nothing before.out.bytes after.out.bytes out;
  board = board;
  policies = policies;
}

-- what no fault of the error output cut was reported
has_reported : (line : List ℕ) (wanted status : ℕ) (before after : World) → NoFault before after → IsStopped line wanted [] status before after → HasReported line wanted [] status before after
has_reported line wanted status before after none stopped = elim stopped.reports [
  | inl told ↦ record { is = told.0; leaves = stopped.leaves; taken = told.1 }
  | inr cut ↦ absurd (none.err cut.2)
]

no_counted_fault : (stored : Option (List ℕ × List ℕ)) (before after : World) → NoFault before after → CountsFault stored before after → ⊥
no_counted_fault None before after none rose = none.out rose
no_counted_fault (Some file) before after none rose = none.write rose

completes_as : (read : Result Outcome Cause) (status : ℕ) (before after : World) → NoFault before after → EndsAs read status before after → IsResult read status before after
completes_as (Ok outcome) status before after none ends = elim ends [
  | inl done ↦ done
  | inr cut ↦ absurd (no_counted_fault outcome.stored before after none cut.1.short.counts)
]
completes_as (Err cause) status before after none stopped = has_reported (line_of cause) (status_of cause) status before after none stopped

-- where no device fails, a command ends as its words, files and board say, or for want of memory
pub completes : (steps : Steps Outcome) (status : ℕ) (before after : World) → Exits steps status before after → NoFault before after → Completes steps status before after
completes steps status before after exits none = elim exits [
  | inl ends ↦ inl (completes_as steps.result status before after none ends)
  | inr device ↦ elim device [
    | inl fault ↦ absurd (none.read fault.counted)
    | inr memory ↦ inr (has_reported memory_line 7 status before after none memory)
  ]
]

-- a command that an error prevents ends as its steps say, or by a device
exits_prevented : (error : PrepareError) (steps : Steps Outcome) (status : ℕ) (before after : World) → Stops error steps → HasCause error before.shelf after.shelf → IsStopped (error_line error) (error_status error) [] status before after → Exits steps status before after
exits_prevented (Because cause) steps status before after is shown stopped =
    inl (subst (λ read. EndsAs read status before after) (sym is) stopped)
exits_prevented (ReadFault name) steps status before after has rose stopped =
    inr (inl (record { name = name; fetched = has; counted = rose; stopped = stopped }))
exits_prevented NoMemory steps status before after _ _ stopped = inr (inr stopped)

exits_by : (steps : Files → Steps Outcome) (storing : Bool) (asking : Option Kind) (status : ℕ) (before after : World) → IsCarriedOut steps storing asking status before after ⊎ IsPrevented steps status before after → (told : Files) → before.shelf.files ≡ Some told → Exits (steps told) status before after
exits_by steps storing asking status before after (inl carried) told tells = elim carried.ends [
  | inl commits ↦ inl (subst (λ read. EndsAs read status before after) (sym (carried.given told tells)) commits)
  | inr memory ↦ inr (inr memory)
]
exits_by steps storing asking status before after (inr prevented) told tells =
    exits_prevented prevented.error (steps told) status before after (prevented.given told tells) prevented.cause prevented.stopped

-- a command that is performed ends as its steps say
pub exits_performed : (steps : Files → Steps Outcome) (storing : Bool) (asking : Option Kind) (status : ℕ) (before after : World) (told : Files) → Performs steps storing asking status before after → before.shelf.files ≡ Some told → Exits (steps told) status before after
exits_performed steps storing asking status before after told performs tells = exits_by steps storing asking status before after performs.way told tells

-- the statuses of errors
pub record IsErrorStatus (status : ℕ) : Type 0 where
  pub above : 2 ≤ status
  pub below : status ≤ 7
  pub not_six : status ≢ 6

error_status_is : (error : PrepareError) → IsErrorStatus (error_status error)
error_status_is (Because Usage) = record { above = omega arith; below = omega arith; not_six = λ is. omega (arith, is) }
error_status_is (Because (Missing _)) = record { above = omega arith; below = omega arith; not_six = λ is. omega (arith, is) }
error_status_is (Because (Refused _)) = record { above = omega arith; below = omega arith; not_six = λ is. omega (arith, is) }
error_status_is (ReadFault _) = record { above = omega arith; below = omega arith; not_six = λ is. omega (arith, is) }
error_status_is NoMemory = record { above = omega arith; below = omega arith; not_six = λ is. omega (arith, is) }

pub not_done : (error : PrepareError) → error_status error ≡ 0 → ⊥
not_done error is = let range : IsErrorStatus (error_status error) = error_status_is error in omega (arith, is, range.above)

-- what a status shows where an error's line was put
pub shows_stopped : (error : PrepareError) (status : ℕ) (storing : Bool) (before after : World) → (error_status error ≡ 3 → Rose before.shelf.absences after.shelf.absences) → (error_status error ≡ 5 → Rose before.shelf.read_faults after.shelf.read_faults) → IsStopped (error_line error) (error_status error) [] status before after → Shows status storing before after
shows_stopped error status storing before after missing fault stopped =
    let range : IsErrorStatus (error_status error) = error_status_is error in
    elim stopped.reports [
      | inl told ↦ record {
        done = λ is. absurd (omega (arith, told.0, is, range.above));
        missing = λ is. missing (sym told.0 ∙ is);
        read_fault = λ is. fault (sym told.0 ∙ is);
        write_fault = λ is. absurd (range.not_six (sym told.0 ∙ is));
        stopped = λ _ _. (error, record { is = told.0; leaves = stopped.leaves; taken = told.1 });
        cut = λ is. absurd (range.not_six (sym told.0 ∙ is));
        known = (omega (arith, told.0, range.below), λ is. omega (arith, told.0, is, range.above));
      }
      | inr cut ↦ record {
        done = λ is. absurd (omega (arith, cut.0, is));
        missing = λ is. absurd (omega (arith, cut.0, is));
        read_fault = λ is. absurd (omega (arith, cut.0, is));
        write_fault = λ _. inr (inl cut.2);
        stopped = λ _ other. absurd (other cut.0);
        cut = λ _. inl (error, (cut.1, stopped.leaves));
        known = (omega (arith, cut.0), λ is. omega (arith, cut.0, is));
      }
    ]

counted_missing : (error : PrepareError) (before after : Shelved) → HasCause error before after → error_status error ≡ 3 → Rose before.absences after.absences
counted_missing (Because (Missing _)) before after rose _ = rose
counted_missing (Because Usage) before after never _ = absurd never
counted_missing (Because (Refused _)) before after _ is = absurd (omega (arith, is))
counted_missing (ReadFault _) before after _ is = absurd (omega (arith, is))
counted_missing NoMemory before after _ is = absurd (omega (arith, is))

counted_fault : (error : PrepareError) (before after : Shelved) → HasCause error before after → error_status error ≡ 5 → Rose before.read_faults after.read_faults
counted_fault (Because (Missing _)) before after _ is = absurd (omega (arith, is))
counted_fault (Because Usage) before after never _ = absurd never
counted_fault (Because (Refused _)) before after _ is = absurd (omega (arith, is))
counted_fault (ReadFault _) before after rose _ = rose
counted_fault NoMemory before after _ is = absurd (omega (arith, is))

-- whose fault a cut shows
shown_fault : (storing : Bool) (outcome : Outcome) (before after : World) → IsOfKind storing before.board outcome → CountsFault outcome.stored before after → Rose before.out.faults after.out.faults ⊎ (Rose before.err.faults after.err.faults ⊎ (IsTrue storing × Rose before.shelf.write_faults after.shelf.write_faults))
shown_fault true outcome before after (name, (bytes, is)) counts =
    inr (inr (refl, subst (λ o. CountsFault o.stored before after) is counts))
shown_fault false outcome before after none counts = inl (subst (λ stored. CountsFault stored before after) none counts)

shows_committed : (outcome : Outcome) (status : ℕ) (storing : Bool) (before after : World) → IsOfKind storing before.board outcome → Commits outcome status before after → Shows status storing before after
shows_committed outcome status storing before after kind (inl done) = record {
  done = λ _. done.1.err;
  missing = λ is. absurd (omega (arith, done.0, is));
  read_fault = λ is. absurd (omega (arith, done.0, is));
  write_fault = λ is. absurd (omega (arith, done.0, is));
  stopped = λ other _. absurd (other done.0);
  cut = λ is. absurd (omega (arith, done.0, is));
  known = (omega (arith, done.0), λ is. omega (arith, done.0, is));
}
shows_committed outcome status storing before after kind (inr cut) = record {
  done = λ is. absurd (omega (arith, cut.0, is));
  missing = λ is. absurd (omega (arith, cut.0, is));
  read_fault = λ is. absurd (omega (arith, cut.0, is));
  write_fault = λ _. shown_fault storing outcome before after kind cut.1.short.counts;
  stopped = λ _ other. absurd (other cut.0);
  cut = λ _. inr cut.1.reports;
  known = (omega (arith, cut.0), λ is. omega (arith, cut.0, is));
}

shows_by : (steps : Files → Steps Outcome) (storing : Bool) (asking : Option Kind) (status : ℕ) (before after : World) → IsCarriedOut steps storing asking status before after ⊎ IsPrevented steps status before after → Shows status storing before after
shows_by steps storing asking status before after (inl carried) = elim carried.ends [
  | inl commits ↦ shows_committed carried.outcome status storing before after carried.kind commits
  | inr memory ↦ shows_stopped NoMemory status storing before after (λ is. absurd (omega (arith, is))) (λ is. absurd (omega (arith, is))) memory
]
shows_by steps storing asking status before after (inr prevented) =
    shows_stopped prevented.error status storing before after (counted_missing prevented.error before.shelf after.shelf prevented.cause) (counted_fault prevented.error before.shelf after.shelf prevented.cause) prevented.stopped

-- what the status of a command that is performed shows
pub shows_performed : (steps : Files → Steps Outcome) (storing : Bool) (asking : Option Kind) (status : ℕ) (before after : World) → Performs steps storing asking status before after → Shows status storing before after
shows_performed steps storing asking status before after performs = shows_by steps storing asking status before after performs.way

-- a command that stopped with nothing left keeps all
pub keeps_stopped : (storing : Bool) (before after : World) → KeepsWriteFaults storing before.shelf after.shelf → Leaves [] before after → Keeps storing before after
keeps_stopped storing before after faults leaves = record {
  out = λ _. took_nothing before.out.bytes after.out.bytes leaves.out;
  board = λ _. leaves.board;
  files = λ _. leaves.files;
  write_faults = faults;
}

keeps_done : (storing : Bool) (outcome : Outcome) (before after : World) → IsOfKind storing before.board outcome → KeepsWriteFaults storing before.shelf after.shelf → IsDone outcome before after → Keeps storing before after
keeps_done true outcome before after (name, (bytes, is)) faults done =
    let stored : IsDone (store_outcome name bytes before.board) before after = subst (λ o. IsDone o before after) is done in record {
      out = λ _. took_nothing before.out.bytes after.out.bytes stored.put.taken;
      board = λ _. stored.put.at;
      files = λ no_store. absurd (cc);
      write_faults = faults;
    }
keeps_done false outcome before after none faults done = record {
  out = λ storing. absurd (cc);
  board = λ storing. absurd (cc);
  files = λ _. subst (λ stored. HasStored stored before.shelf.files after.shelf.files) none done.files;
  write_faults = faults;
}

-- a cut of the one empty stage of a store
cut_store : (board : Memory) (before now : Option (List ℕ)) (at : Memory) → IsPutCut (untold (record { text = []; board = board } ∷ [])) before now at → (now ≡ before) × (at ≡ board)
cut_store board before now at cut = elim cut.cut [ inl some ↦ here some.1 | inr all ↦ here all.1 ]
  where
    here : CutsAt (record { text = []; board = board } ∷ []) before now at → (now ≡ before) × (at ≡ board)
    here cuts = elim cuts [ inl first ↦ (cut_nothing before now first.0, first.1) | inr earlier ↦ absurd earlier ]

keeps_cut : (storing : Bool) (outcome : Outcome) (before after : World) → IsOfKind storing before.board outcome → KeepsWriteFaults storing before.shelf after.shelf → CutsShort outcome before after → Keeps storing before after
keeps_cut true outcome before after (name, (bytes, is)) faults cut =
    let stored : CutsShort (store_outcome name bytes before.board) before after = subst (λ o. CutsShort o before after) is cut in
    let kept = cut_store before.board before.out.bytes after.out.bytes after.board stored.put in
    record {
      out = λ _. kept.0;
      board = λ _. kept.1;
      files = λ no_store. absurd (cc);
      write_faults = faults;
    }
keeps_cut false outcome before after none faults cut = record {
  out = λ storing. absurd (cc);
  board = λ storing. absurd (cc);
  files = λ _. subst (λ stored. HasCutStore stored before.shelf.files after.shelf.files) none cut.files;
  write_faults = faults;
}

keeps_by : (steps : Files → Steps Outcome) (storing : Bool) (asking : Option Kind) (status : ℕ) (before after : World) → KeepsWriteFaults storing before.shelf after.shelf → IsCarriedOut steps storing asking status before after ⊎ IsPrevented steps status before after → Keeps storing before after
keeps_by steps storing asking status before after faults (inl carried) = elim carried.ends [
  | inl commits ↦ elim commits [
    | inl done ↦ keeps_done storing carried.outcome before after carried.kind faults done.1
    | inr cut ↦ keeps_cut storing carried.outcome before after carried.kind faults cut.1.short
  ]
  | inr memory ↦ keeps_stopped storing before after faults memory.leaves
]
keeps_by steps storing asking status before after faults (inr prevented) = keeps_stopped storing before after faults prevented.stopped.leaves

-- what a command that is performed keeps
pub keeps_performed : (steps : Files → Steps Outcome) (storing : Bool) (asking : Option Kind) (status : ℕ) (before after : World) → Performs steps storing asking status before after → Keeps storing before after
keeps_performed steps storing asking status before after performs = keeps_by steps storing asking status before after performs.write_faults performs.way

-- a command that is performed found that its words have a reading
no_usage : (error : PrepareError) (before after : Shelved) → HasCause error before after → error_status error ≡ 2 → ⊥
no_usage (Because Usage) before after never _ = never
no_usage (Because (Missing _)) before after _ is = omega (arith, is)
no_usage (Because (Refused _)) before after _ is = omega (arith, is)
no_usage (ReadFault _) before after _ is = omega (arith, is)
no_usage NoMemory before after _ is = omega (arith, is)

not_two : (line : List ℕ) (wanted status : ℕ) (before after : World) → IsStopped line wanted [] status before after → (wanted ≡ 2 → ⊥) → status ≡ 2 → ⊥
not_two line wanted status before after stopped other two = elim stopped.reports [
  | inl told ↦ other (sym told.0 ∙ two)
  | inr cut ↦ omega (arith, cut.0, two)
]

pub performed_reading : (steps : Files → Steps Outcome) (storing : Bool) (asking : Option Kind) (status : ℕ) (before after : World) → Performs steps storing asking status before after → status ≡ 2 → ⊥
performed_reading steps storing asking status before after performs two = elim performs.way [
  | inl carried ↦ elim carried.ends [
    | inl commits ↦ elim commits [ inl done ↦ omega (arith, done.0, two) | inr cut ↦ omega (arith, cut.0, two) ]
    | inr memory ↦ not_two memory_line 7 status before after memory (λ is. omega (arith, is)) two
  ]
  | inr prevented ↦
      not_two (error_line prevented.error) (error_status prevented.error) status before after prevented.stopped (no_usage prevented.error before.shelf after.shelf prevented.cause) two
]

-- what an asked policy is, by its kind
asked_by_kind : (asked : Option Asked) (asking : Option Kind) (before after : List Chooser) → asked_kind asked ≡ asking → HasAsked asked before after → HasAskedKind asking before after
asked_by_kind None asking before after is kept = subst (λ kind. HasAskedKind kind before after) is kept
asked_by_kind (Some asked) asking before after is asks = subst (λ kind. HasAskedKind kind before after) is (asked.state, asks)

cut_by_kind : (asked : Option Asked) (asking : Option Kind) (before after : List Chooser) → asked_kind asked ≡ asking → MayHaveAsked asked before after → MayHaveAskedKind asking before after
cut_by_kind None asking before after is kept = subst (λ kind. MayHaveAskedKind kind before after) is kept
cut_by_kind (Some asked) asking before after is changes = subst (λ kind. MayHaveAskedKind kind before after) is (inr changes)

unasked : (asking : Option Kind) (before after : List Chooser) → after ≡ before → MayHaveAskedKind asking before after
unasked None before after kept = kept
unasked (Some kind) before after kept = inl kept

-- a command that an error stopped has asked no policy
pub policies_stopped : (line : List ℕ) (wanted status : ℕ) (asking : Option Kind) (before after : World) → (wanted ≡ 0 → ⊥) → IsStopped line wanted [] status before after → KeepsPolicies status asking before.policies after.policies
policies_stopped line wanted status asking before after other stopped = record {
  done = λ zero. elim stopped.reports [
    | inl told ↦ absurd (other (sym told.0 ∙ zero))
    | inr cut ↦ absurd (omega (arith, cut.0, zero))
  ];
  cut = λ _. unasked asking before.policies after.policies stopped.leaves.policies;
  stopped = λ _ _. stopped.leaves.policies;
}

policies_committed : (outcome : Outcome) (asking : Option Kind) (status : ℕ) (before after : World) → asked_kind outcome.asked ≡ asking → Commits outcome status before after → KeepsPolicies status asking before.policies after.policies
policies_committed outcome asking status before after is (inl done) = record {
  done = λ _. asked_by_kind outcome.asked asking before.policies after.policies is done.1.policies;
  cut = λ six. absurd (omega (arith, done.0, six));
  stopped = λ other _. absurd (other done.0);
}
policies_committed outcome asking status before after is (inr cut) = record {
  done = λ zero. absurd (omega (arith, cut.0, zero));
  cut = λ _. cut_by_kind outcome.asked asking before.policies after.policies is cut.1.short.policies;
  stopped = λ _ other. absurd (other cut.0);
}

-- what a command that is performed leaves of the policies
pub policies_performed : (steps : Files → Steps Outcome) (storing : Bool) (asking : Option Kind) (status : ℕ) (before after : World) → Performs steps storing asking status before after → KeepsPolicies status asking before.policies after.policies
policies_performed steps storing asking status before after performs = elim performs.way [
  | inl carried ↦ elim carried.ends [
    | inl commits ↦ policies_committed carried.outcome asking status before after carried.asks commits
    | inr memory ↦ policies_stopped memory_line 7 status asking before after (λ is. omega (arith, is)) memory
  ]
  | inr prevented ↦
      policies_stopped (error_line prevented.error) (error_status prevented.error) status asking before after (not_done prevented.error) prevented.stopped
]

-- what is put carries out a command that stores nothing and asks no policy
pub carries_told : {A : Type 0} (telling : Telling) (out new_out : Taken) (board new_board : Memory) (result : Result A CommitError) (shelf : Shelved) (err : Taken) (policies : List Chooser) → Tells telling out new_out board new_board result → Carries (record { telling = telling; stored = None; asked = None }) result (world shelf out err board policies) (world shelf new_out err new_board policies)
carries_told telling out new_out board new_board (Ok _) shelf err policies d =
    record { put = d.all; err = refl; files = refl; policies = refl }
carries_told telling out new_out board new_board (Err WriteFault) shelf err policies d =
    record { put = d.cut refl; files = refl; counts = d.failed refl; policies = refl }
carries_told telling out new_out board new_board (Err CommitMemory) shelf err policies d = record {
  files = refl;
  out = takes_nothing out.bytes new_out.bytes (d.unwritten refl).0;
  board = (d.unwritten refl).1;
  policies = refl;
}

-- so do stages with no turn told
pub carries_delivered : {A : Type 0} (stages : List Stage) (out new_out : Taken) (board new_board : Memory) (result : Result A CommitError) (shelf : Shelved) (err : Taken) (policies : List Chooser) → Delivers stages out new_out board new_board result → Carries (put_outcome stages) result (world shelf out err board policies) (world shelf new_out err new_board policies)
carries_delivered stages out new_out board new_board result shelf err policies d =
    carries_told (untold stages) out new_out board new_board result shelf err policies (tells_untold stages out new_out board new_board result d)

-- what a policy was asked for carries out a command that asks it
pub carries_asking : {A : Type 0} (telling : Telling) (asked : Asked) (out new_out : Taken) (board new_board : Memory) (policies : List Chooser) (place : ℕ) (was now : Chooser) (result : Result A CommitError) (shelf : Shelved) (err : Taken) → Tells telling out new_out board new_board result → Serves asked was now result → first_of asked.kind policies ≡ Some place → slice_get policies place ≡ Some was → Carries (asking_outcome telling asked) result (world shelf out err board policies) (world shelf new_out err new_board (set policies place now))
carries_asking telling asked out new_out board new_board policies place was now (Ok _) shelf err d s found there = record {
  put = d.all;
  err = refl;
  files = refl;
  policies = record {
    changes = record { place = place; was = was; now = now; found = found; there = there; others = refl; kind = s.kind };
    answers = s.answers;
  };
}
carries_asking telling asked out new_out board new_board policies place was now (Err WriteFault) shelf err d s found there = record {
  put = d.cut refl;
  files = refl;
  counts = d.failed refl;
  policies = record { place = place; was = was; now = now; found = found; there = there; others = refl; kind = s.kind };
}
carries_asking telling asked out new_out board new_board policies place was now (Err CommitMemory) shelf err d s found there = record {
  files = refl;
  out = takes_nothing out.bytes new_out.bytes (d.unwritten refl).0;
  board = (d.unwritten refl).1;
  policies = ap (set policies place) (s.unasked refl) ∙ set_same policies place was there;
}

-- a store carries out a command that stores
pub carries_stored : {A : Type 0} (result : Result A CommitError) (name bytes : List ℕ) (before after : Shelved) (out err : Taken) (board : Memory) (policies : List Chooser) → OnOk result (HasStored (Some (name, bytes)) before.files after.files) → (result ≡ Err WriteFault → HasCutStore (Some (name, bytes)) before.files after.files) → (result ≡ Err WriteFault → Rose before.write_faults after.write_faults) → (result ≡ Err CommitMemory → after.files ≡ before.files) → Carries (store_outcome name bytes board) result (world before out err board policies) (world after out err board policies)
carries_stored (Ok _) name bytes before after out err board policies stored cut failed unchanged = record {
  put = record { play = []; whole = refl; taken = takes_nothing out.bytes out.bytes refl; at = refl };
  err = refl;
  files = stored;
  policies = refl;
}
carries_stored (Err WriteFault) name bytes before after out err board policies stored cut failed unchanged = record {
  put = record { play = []; cut = inl (refl, inl (cuts_nothing out.bytes, refl)) };
  files = cut refl;
  counts = failed refl;
  policies = refl;
}
carries_stored (Err CommitMemory) name bytes before after out err board policies stored cut failed unchanged =
    record { files = unchanged refl; out = takes_nothing out.bytes out.bytes refl; board = refl; policies = refl }

-- what a call gives with each error
pub cut_of : (A : Type 0) (outcome : Outcome) (error : CommitError) (before after : World) → error ≡ WriteFault → Carries {A = A} outcome (Err error) before after → CutsShort outcome before after
cut_of A outcome error before after is carries = subst (λ e. Carries {A = A} outcome (Err e) before after) is carries

pub left_of : (A : Type 0) (outcome : Outcome) (error : CommitError) (before after : World) → error ≡ CommitMemory → Carries {A = A} outcome (Err error) before after → Leaves [] before after
left_of A outcome error before after is carries = subst (λ e. Carries {A = A} outcome (Err e) before after) is carries

-- a fault of the output or of a store is counted whatever the error output took
counts_beside : (stored : Option (List ℕ × List ℕ)) (shelf new_shelf : Shelved) (out new_out err new_err : Taken) (board new_board : Memory) (policies left : List Chooser) → CountsFault stored (world shelf out err board policies) (world new_shelf new_out err new_board left) → CountsFault stored (world shelf out err board policies) (world new_shelf new_out new_err new_board left)
counts_beside None shelf new_shelf out new_out err new_err board new_board policies left counts = counts
counts_beside (Some file) shelf new_shelf out new_out err new_err board new_board policies left counts = counts

-- a fault that cut a command is reported
pub cut_reported : (outcome : Outcome) (status : ℕ) (shelf new_shelf : Shelved) (out new_out err new_err : Taken) (board new_board : Memory) (policies left : List Chooser) → CutsShort outcome (world shelf out err board policies) (world new_shelf new_out err new_board left) → Reports write_fault_line 6 status err new_err → Commits outcome status (world shelf out err board policies) (world new_shelf new_out new_err new_board left)
cut_reported outcome status shelf new_shelf out new_out err new_err board new_board policies left cut reports =
    let six : status ≡ 6 = elim reports [ inl told ↦ told.0 | inr front ↦ front.0 ] in
    inr (
      six,
      record {
        short = record {
          put = cut.put;
          files = cut.files;
          counts = counts_beside outcome.stored shelf new_shelf out new_out err new_err board new_board policies left cut.counts;
          policies = cut.policies;
        };
        reports = reports;
      },
    )

-- so is want of memory
pub memory_reported : (status : ℕ) (shelf new_shelf : Shelved) (out new_out err new_err : Taken) (board new_board : Memory) (policies left : List Chooser) → Leaves [] (world shelf out err board policies) (world new_shelf new_out err new_board left) → Reports memory_line 7 status err new_err → LacksMemory status (world shelf out err board policies) (world new_shelf new_out new_err new_board left)
memory_reported status shelf new_shelf out new_out err new_err board new_board policies left leaves reports = record {
  leaves = record { files = leaves.files; out = leaves.out; board = leaves.board; policies = leaves.policies };
  reports = reports;
}

counts_earlier : (stored : Option (List ℕ × List ℕ)) (shelf amid : Shelved) (out err : Taken) (board : Memory) (policies : List Chooser) (after : World) → KeepsFiles shelf amid → CountsFault stored (world amid out err board policies) after → CountsFault stored (world shelf out err board policies) after
counts_earlier None shelf amid out err board policies after keeps counts = counts
counts_earlier (Some file) shelf amid out err board policies after keeps counts =
    subst (λ count. Rose count after.shelf.write_faults) keeps.write_faults counts

-- what is carried out behind steps that keep the files is carried out from their start on
commits_earlier : (outcome : Outcome) (status : ℕ) (shelf amid : Shelved) (out err : Taken) (board : Memory) (policies : List Chooser) (after : World) → KeepsFiles shelf amid → Commits outcome status (world amid out err board policies) after → Commits outcome status (world shelf out err board policies) after
commits_earlier outcome status shelf amid out err board policies after keeps (inl done) = inl (
  done.0,
  record {
    put = done.1.put;
    err = done.1.err;
    files = subst (λ files. HasStored outcome.stored files after.shelf.files) keeps.files done.1.files;
    policies = done.1.policies;
  },
)
commits_earlier outcome status shelf amid out err board policies after keeps (inr cut) = inr (
  cut.0,
  record {
    short = record {
      put = cut.1.short.put;
      files = subst (λ files. HasCutStore outcome.stored files after.shelf.files) keeps.files cut.1.short.files;
      counts = counts_earlier outcome.stored shelf amid out err board policies after keeps cut.1.short.counts;
      policies = cut.1.short.policies;
    };
    reports = cut.1.reports;
  },
)

ends_earlier : (outcome : Outcome) (status : ℕ) (shelf amid : Shelved) (out err : Taken) (board : Memory) (policies : List Chooser) (after : World) → KeepsFiles shelf amid → Commits outcome status (world amid out err board policies) after ⊎ LacksMemory status (world amid out err board policies) after → Commits outcome status (world shelf out err board policies) after ⊎ LacksMemory status (world shelf out err board policies) after
ends_earlier outcome status shelf amid out err board policies after keeps (inl commits) =
    inl (commits_earlier outcome status shelf amid out err board policies after keeps commits)
ends_earlier outcome status shelf amid out err board policies after keeps (inr memory) = inr (record {
  leaves = record {
    files = memory.leaves.files ∙ keeps.files;
    out = memory.leaves.out;
    board = memory.leaves.board;
    policies = memory.leaves.policies;
  };
  reports = memory.reports;
})

faults_earlier : (storing : Bool) (shelf amid after : Shelved) → KeepsFiles shelf amid → KeepsWriteFaults storing amid after → KeepsWriteFaults storing shelf after
faults_earlier true shelf amid after keeps faults = omega (arith, keeps.write_faults, faults)
faults_earlier false shelf amid after keeps faults = faults ∙ keeps.write_faults

faults_kept : (storing : Bool) (before after : Shelved) → KeepsFiles before after → KeepsWriteFaults storing before after
faults_kept true before after keeps = omega (arith, keeps.write_faults)
faults_kept false before after keeps = keeps.write_faults

-- a command that was prepared and carried out was performed
pub performs_committed : {A : Type 0} (view : A → Outcome) (steps : Files → Steps Outcome) (storing : Bool) (asking : Option Kind) (status : ℕ) (shelf amid : Shelved) (out err : Taken) (board : Memory) (policies : List Chooser) (after : World) (value : A) → Prepares view steps shelf amid (Ok value) → IsOfKind storing board (view value) → asked_kind (view value).asked ≡ asking → KeepsWriteFaults storing amid after.shelf → Commits (view value) status (world amid out err board policies) after ⊎ LacksMemory status (world amid out err board policies) after → Performs steps storing asking status (world shelf out err board policies) after
performs_committed view steps storing asking status shelf amid out err board policies after value prepares kind asks faults ends = record {
  way = inl (record {
    outcome = view value;
    given = prepares.gives;
    kind = kind;
    asks = asks;
    ends = ends_earlier (view value) status shelf amid out err board policies after prepares.keeps ends;
  });
  write_faults = faults_earlier storing shelf amid after.shelf prepares.keeps faults;
}

-- a command that an error stopped, which was reported, was performed
pub performs_prevented : {A : Type 0} (view : A → Outcome) (steps : Files → Steps Outcome) (storing : Bool) (asking : Option Kind) (status : ℕ) (shelf amid : Shelved) (out err new_err : Taken) (board : Memory) (policies : List Chooser) (error : PrepareError) → Prepares {A = A} view steps shelf amid (Err error) → Reports (error_line error) (error_status error) status err new_err → Performs steps storing asking status (world shelf out err board policies) (world amid out new_err board policies)
performs_prevented view steps storing asking status shelf amid out err new_err board policies error prepares reports = record {
  way = inr (record {
    error = error;
    given = prepares.gives;
    cause = prepares.cause;
    stopped = record {
      leaves = leaves_nothing (world shelf out err board policies) (world amid out new_err board policies) prepares.keeps.files refl refl refl;
      reports = reports;
    };
  });
  write_faults = faults_kept storing shelf amid prepares.keeps;
}
