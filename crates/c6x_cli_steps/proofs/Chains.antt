use Rattle.std.proofs.Common.{◌≡◌, ℕ, List, refl, sym, ◌∙◌, ap, subst, arith}
use Rattle.std.specs.Prelude.{Result, Ok, Err, IfErr, Contains}
use Rattle.std.proofs.lemmas.List.Elements.{Contains-append_left, Contains-append_right}
use Rattle.c6x_spec.specs.Files.{Files}
use Rattle.c6x_ports.specs.Shelf.{Shelved, KeepsFiles}
use Rattle.c6x_ports.proofs.Rises.{Rose-later}
use Rattle.c6x_cli_steps.specs.declared.cause.Cause.{Cause}
use Rattle.c6x_cli_steps.specs.declared.cause.Cause.TheVariants.{Usage, Missing, Refused}
use Rattle.c6x_cli_steps.specs.declared.cause.Refusal.{Refusal}
use Rattle.c6x_cli_steps.specs.declared.prepare_error.PrepareError.{PrepareError}
use Rattle.c6x_cli_steps.specs.declared.prepare_error.PrepareError.TheVariants.{Because, ReadFault, Memory}
use Rattle.c6x_cli_steps.specs.Steps.{Steps, own, followed, ◌>>=◌, Stops, Gives, HasCause, Prepares, Decides, Refuses}

-- the names of first steps are names of the whole
names_first : {A B : Type 0} (fetches : List (List ℕ)) (result : Result A Cause) (next : A → Steps B) (name : List ℕ) → Contains fetches name → Contains (followed fetches result next).fetches name
names_first fetches (Err _) next name has = has
names_first fetches (Ok value) next name has = Contains-append_left fetches (next value).fetches name has

-- what stops the first steps stops the whole
pub stops_first : {A B : Type 0} (error : PrepareError) (first : Steps A) (next : A → Steps B) → Stops error first → Stops error (first >>= next)
unfolding ◌>>=◌
stops_first (Because cause) first next is = ap (λ result. (followed first.fetches result next).result) is
stops_first (ReadFault name) first next has = names_first first.fetches first.result next name has
stops_first Memory first next _ = tt

-- what stops the steps behind a value stops the whole
pub stops_later : {A B : Type 0} (error : PrepareError) (first : Steps A) (next : A → Steps B) (value : A) → first.result ≡ Ok value → Stops error (next value) → Stops error (first >>= next)
unfolding ◌>>=◌
stops_later (Because cause) first next value is stops = ap (λ result. (followed first.fetches result next).result) is ∙ stops
stops_later (ReadFault name) first next value is has =
    subst (λ result. Contains (followed first.fetches result next).fetches name) (sym is) (Contains-append_right first.fetches (next value).fetches name has)
stops_later Memory first next value is _ = tt

-- what the steps behind a value give, the whole gives
pub gives_later : {A B C : Type 0} (view : C → B) (first : Steps A) (next : A → Steps B) (value : A) (result : Result C PrepareError) → first.result ≡ Ok value → Gives view result (next value) → Gives view result (first >>= next)
unfolding ◌>>=◌
gives_later view first next value (Ok x) is gives = ap (λ result. (followed first.fetches result next).result) is ∙ gives
gives_later view first next value (Err error) is stops = stops_later error first next value is stops

-- files that stay twice stay
keeps_twice : (before amid after : Shelved) → KeepsFiles before amid → KeepsFiles amid after → KeepsFiles before after
keeps_twice before amid after a b = record {
  files = b.files ∙ a.files;
  write_faults = b.write_faults ∙ a.write_faults;
  read_faults = omega (arith, a.read_faults, b.read_faults);
  absences = omega (arith, a.absences, b.absences);
}

keeps_same : (shelf : Shelved) → KeepsFiles shelf shelf
keeps_same shelf = record { files = refl; write_faults = refl; read_faults = omega arith; absences = omega arith }

-- a cause behind steps that keep the files is a cause from their start on
cause_later : (error : PrepareError) (before amid after : Shelved) → KeepsFiles before amid → HasCause error amid after → HasCause error before after
cause_later (Because (Missing _)) before amid after keeps rose = Rose-later _ _ _ keeps.absences rose
cause_later (Because Usage) before amid after keeps cause = cause
cause_later (Because (Refused _)) before amid after keeps cause = tt
cause_later (ReadFault _) before amid after keeps rose = Rose-later _ _ _ keeps.read_faults rose
cause_later Memory before amid after keeps cause = tt

causes_later : {A : Type 0} (result : Result A PrepareError) (before amid after : Shelved) → KeepsFiles before amid → IfErr result (λ error. HasCause error amid after) → IfErr result (λ error. HasCause error before after)
causes_later (Ok _) before amid after keeps cause = tt
causes_later (Err error) before amid after keeps cause = cause_later error before amid after keeps cause

-- A chain stops where its first steps stop.
pub prepares_first : {A B C D : Type 0} (view : A → C) (whole : B → D) (first : Files → Steps C) (next : Files → C → Steps D) (before after : Shelved) (error : PrepareError) (result : Result B PrepareError) → result ≡ Err error → Prepares view first before after (Err error) → Prepares whole (λ told. first told >>= next told) before after result
prepares_first view whole first next before after error result is p =
    subst (λ r. Prepares whole (λ told. first told >>= next told) before after r) (sym is) (record {
      gives = λ told tells. stops_first error (first told) (next told) (p.gives told tells);
      cause = p.cause;
      keeps = p.keeps;
    })

-- Where they have a value, it goes on as the steps behind that value do.
pub prepares_then : {A B C D : Type 0} (view : A → C) (whole : B → D) (first : Files → Steps C) (next : Files → C → Steps D) (before amid after : Shelved) (value : A) (result : Result B PrepareError) → Prepares view first before amid (Ok value) → Prepares whole (λ told. next told (view value)) amid after result → Prepares whole (λ told. first told >>= next told) before after result
prepares_then view whole first next before amid after value result p q = record {
  gives = λ told tells. gives_later whole (first told) (next told) (view value) result (p.gives told tells) (q.gives told (p.keeps.files ∙ tells));
  cause = causes_later result before amid after p.keeps q.cause;
  keeps = keeps_twice before amid after p.keeps q.keeps;
}

-- A step that asks no shelf is a step of a chain.
pub prepares_own : {A B : Type 0} (view : A → B) (wanted : Result B Cause) (shelf : Shelved) (result : Result A PrepareError) → Decides view wanted result → Prepares view (λ told. own wanted) shelf shelf result
prepares_own view wanted shelf (Ok value) is = record { gives = λ told tells. is; cause = tt; keeps = keeps_same shelf }
prepares_own view wanted shelf (Err (Because (Refused refusal))) is = record { gives = λ told tells. is; cause = tt; keeps = keeps_same shelf }
prepares_own view wanted shelf (Err (Because (Missing _))) never = absurd never
prepares_own view wanted shelf (Err (Because Usage)) never = absurd never
prepares_own view wanted shelf (Err (ReadFault _)) never = absurd never
prepares_own view wanted shelf (Err Memory) _ = record { gives = λ told tells. tt; cause = tt; keeps = keeps_same shelf }

-- a refusal decides a step whose definition refuses so
pub decides_refusal : {A B : Type 0} (view : A → B) (wanted : Result B Cause) (error : PrepareError) (refusal : Refusal) → Refuses error refusal → wanted ≡ Err (Refused refusal) → Decides view wanted (Err error)
decides_refusal view wanted (Because (Refused r)) refusal is refused = refused ∙ ap (λ x. Err (Refused x)) (sym is)
decides_refusal view wanted (Because (Missing _)) refusal never refused = absurd never
decides_refusal view wanted (Because Usage) refusal never refused = absurd never
decides_refusal view wanted (ReadFault _) refusal never refused = absurd never
decides_refusal view wanted Memory refusal _ refused = tt

-- A call that goes on with a value of a chain keeps its error,
pub prepares_error : {A B C : Type 0} (view : A → C) (other : B → C) (steps : Files → Steps C) (before after : Shelved) (error : PrepareError) (result : Result B PrepareError) → result ≡ Err error → Prepares view steps before after (Err error) → Prepares other steps before after result
prepares_error view other steps before after error result is p =
    subst (λ r. Prepares other steps before after r) (sym is) (record { gives = p.gives; cause = p.cause; keeps = p.keeps })

-- may want memory,
pub prepares_memory : {A B C : Type 0} (view : A → C) (other : B → C) (steps : Files → Steps C) (before after : Shelved) (value : A) (error : PrepareError) (result : Result B PrepareError) → result ≡ Err error → error ≡ Memory → Prepares view steps before after (Ok value) → Prepares other steps before after result
prepares_memory view other steps before after value error result is memory p =
    subst (λ r. Prepares other steps before after r) (sym (is ∙ ap Err memory))
    (record { gives = λ told tells. tt; cause = tt; keeps = p.keeps })

-- or has a value that is seen as the same.
pub prepares_value : {A B C : Type 0} (view : A → C) (other : B → C) (steps : Files → Steps C) (before after : Shelved) (value : A) (made : B) → view value ≡ other made → Prepares view steps before after (Ok value) → Prepares other steps before after (Ok made)
prepares_value view other steps before after value made same p =
    record { gives = λ told tells. p.gives told tells ∙ ap Ok same; cause = tt; keeps = p.keeps }
