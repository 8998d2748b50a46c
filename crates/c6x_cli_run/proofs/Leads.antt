-- Texts that are put one behind the other.
use Rattle.std.proofs.Common.{◌≡◌, ℕ, ◌≤◌, List, [], ◌++◌, refl, arith}
use Rattle.std.specs.Prelude.{Option}
use Rattle.c6x_spec.specs.Sinks.{Takes, TakesFront}
use Rattle.c6x_spec.proofs.Puts.{front_of_more, takes_then, takes_then_front}
use Rattle.c6x_ports.specs.Sink.{Taken}
use Rattle.c6x_cli_steps.proofs.Stages.{takes_nothing}

-- What is still to be put behind what was put leads to the whole text.
pub record LeadsTo (text : List ℕ) (before : Taken) (rest : List ℕ) (amid : Taken) : Type 0 where
  pub all : (now : Option (List ℕ)) → Takes rest amid.bytes now → Takes text before.bytes now
  pub front : (now : Option (List ℕ)) → TakesFront rest amid.bytes now → TakesFront text before.bytes now
  pub kept : before.faults ≤ amid.faults

pub leads_first : (text : List ℕ) (before : Taken) → LeadsTo text before text before
leads_first text before = record { all = λ now taken. taken; front = λ now front. front; kept = omega arith }

-- one piece more
pub leads_next : (text piece later rest : List ℕ) (before amid now : Taken) → rest ≡ piece ++ later → Takes piece amid.bytes now.bytes → amid.faults ≤ now.faults → LeadsTo text before rest amid → LeadsTo text before later now
leads_next text piece later rest before amid now is taken kept k = record {
  all = λ end more. k.all end (rw is (takes_then piece later amid.bytes now.bytes end taken more));
  front = λ end more. k.front end (rw is (takes_then_front piece later amid.bytes now.bytes end taken more));
  kept = omega (arith, kept, k.kept);
}

-- a piece that was cut
pub leads_cut : (text piece later rest : List ℕ) (before amid : Taken) (now : Option (List ℕ)) → rest ≡ piece ++ later → TakesFront piece amid.bytes now → LeadsTo text before rest amid → TakesFront text before.bytes now
leads_cut text piece later rest before amid now is cut k =
    k.front now (rw is (front_of_more piece later amid.bytes now cut))

-- no piece is left
pub leads_end : (text rest : List ℕ) (before amid : Taken) → rest ≡ [] → LeadsTo text before rest amid → Takes text before.bytes amid.bytes
leads_end text rest before amid is k = k.all amid.bytes (rw is (takes_nothing amid.bytes amid.bytes refl))
