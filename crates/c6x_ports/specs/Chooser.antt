-- What is seen of a policy, and what its calls do.
use Rattle.std.specs.Prelude.{◌≡◌, ℕ, ◌≤◌, List, Option, Some, IsTrue}
use Rattle.c6x_spec.specs.Files.{Rose}
use Rattle.c6x_ports.specs.declared.kind.Kind.{Kind}
use Rattle.c6x_ports.specs.declared.pick.Pick.{Pick}
use Rattle.c6x_ports.specs.Picks.{is_named, begun, pick_of}

-- Its kind, its state, its last answer once it has given one, and how many it gave.
pub record Chooser : Type 0 where
  pub kind : Kind
  pub state : List ℕ
  pub last : Option Pick
  pub answers : ℕ

-- It begins: a named kind is in its first state, and its answers stay.
pub record Begins (processes quantum seed : ℕ) (before after : Chooser) : Type 0 where
  pub kind : after.kind ≡ before.kind
  pub state : IsTrue (is_named before.kind) → after.state ≡ begun before.kind processes quantum seed
  pub last : after.last ≡ before.last
  pub answers : after.answers ≡ before.answers

-- It picks: the answer is its last one and is counted, and a named kind's is the one that its state gives.
pub record Chooses (ready : List ℕ) (before after : Chooser) (pick : Pick) : Type 0 where
  pub kind : after.kind ≡ before.kind
  pub named : IsTrue (is_named before.kind) → pick_of before.kind before.state ready ≡ (pick, after.state)
  pub last : after.last ≡ Some pick
  pub answered : Rose before.answers after.answers
  pub kept : before.answers ≤ after.answers
