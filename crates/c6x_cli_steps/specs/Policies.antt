-- The policies that a command is handed, and what it does with the one that it asks (this project's own).
use Rattle.std.specs.Prelude.{◌≡◌, ◌≢◌, ◌⊎◌, ℕ, Bool, true, false, IsTrue, List, set, slice_get, Option, None, Some, Result, Err, OnOk}
use Rattle.std.specs.List.{position}
use Rattle.c6x_spec.specs.Files.{Rose}
use Rattle.c6x_ports.specs.Chooser.{Chooser}
use Rattle.c6x_ports.specs.Picks.{is_named}
use Rattle.c6x_ports.specs.declared.kind.Kind.{Kind}
use Rattle.c6x_ports.specs.declared.kind.Kind.TheVariants.{Round, Last, Drawn, Other}
use Rattle.c6x_cli_steps.specs.declared.commit_error.CommitError.{CommitError}
use Rattle.c6x_cli_steps.specs.declared.commit_error.CommitError.TheVariants.{Memory as NoMemory}

abbrev pub same_kind : Kind → Kind → Bool
same_kind Round Round = true
same_kind Last Last = true
same_kind Drawn Drawn = true
same_kind Other Other = true
same_kind _ _ = false

-- The place of the first policy of a kind.
unfoldable pub first_of : Kind → List Chooser → Option ℕ
first_of kind policies = position (λ policy. same_kind policy.kind kind) policies

-- What a command asks: the first policy of this kind, and the state in which its turns leave a policy of a named kind.
pub record Asked : Type 0 where
  pub kind : Kind
  pub state : List ℕ

abbrev pub asked_kind : Option Asked → Option Kind
asked_kind None = None
asked_kind (Some asked) = Some asked.kind

-- A policy gave the answers for all turns: they were counted, and one of a named kind is in the state that they leave.
pub record HasAnswered (asked : Asked) (before after : Chooser) : Type 0 where
  pub kind : after.kind ≡ before.kind
  pub left : IsTrue (is_named asked.kind) → after.state ≡ asked.state
  pub answered : Rose before.answers after.answers

-- What a call gives of the policy that it is lent: all answers were given, or memory ran out before it was asked.
pub record Serves {A : Type 0} (asked : Asked) (before after : Chooser) (result : Result A CommitError) : Type 0 where
  pub answers : OnOk result (HasAnswered asked before after)
  pub kind : after.kind ≡ before.kind
  pub unasked : result ≡ Err NoMemory → after ≡ before

-- No policy but the first of this kind has changed, and that one keeps its kind.
pub record ChangesFirst (wanted : Kind) (before after : List Chooser) : Type 0 where
  pub place : ℕ
  pub was : Chooser
  pub now : Chooser
  pub found : first_of wanted before ≡ Some place
  pub there : slice_get before place ≡ Some was
  pub others : after ≡ set before place now
  pub kind : now.kind ≡ was.kind

-- That one has answered.
pub record AsksFirst (asked : Asked) (before after : List Chooser) : Type 0 where
  pub changes : ChangesFirst asked.kind before after
  pub answers : HasAnswered asked changes.was changes.now

-- A command was carried out.
abbrev pub HasAsked : Option Asked → List Chooser → List Chooser → Type 0
HasAsked None before after = after ≡ before
HasAsked (Some asked) before after = AsksFirst asked before after

-- A fault cut it.
abbrev pub MayHaveAsked : Option Asked → List Chooser → List Chooser → Type 0
MayHaveAsked None before after = after ≡ before
MayHaveAsked (Some asked) before after = ChangesFirst asked.kind before after

-- The same by the kind that is asked.
abbrev pub HasAskedKind : Option Kind → List Chooser → List Chooser → Type 0
HasAskedKind None before after = after ≡ before
HasAskedKind (Some kind) before after = (state : List ℕ) × AsksFirst (record { kind = kind; state = state }) before after

abbrev pub MayHaveAskedKind : Option Kind → List Chooser → List Chooser → Type 0
MayHaveAskedKind None before after = after ≡ before
MayHaveAskedKind (Some kind) before after = (after ≡ before) ⊎ ChangesFirst kind before after

-- What a status shows of the policies, whether or not the devices tell what they hold.
pub record KeepsPolicies (status : ℕ) (asking : Option Kind) (before after : List Chooser) : Type 0 where
  -- after 0 the first policy of the kind that is asked has answered
  pub done : status ≡ 0 → HasAskedKind asking before after
  -- after 6 no other policy has changed
  pub cut : status ≡ 6 → MayHaveAskedKind asking before after
  -- else none has
  pub stopped : status ≢ 0 → status ≢ 6 → after ≡ before
