use Rattle.std.proofs.Common.{◌≡◌, ℕ, List, [], ◌∷◌, ◌++◌, zero, suc, refl, sym, ◌∙◌, ap, subst, append-nil, inl, inr, arith}
use Rattle.std.specs.Prelude.{Option, None, Some, take, Result, Ok, Err}
use Rattle.c6x_spec.specs.Memory.{Memory}
use Rattle.c6x_spec.specs.Sinks.{Takes, TakesFront}
use Rattle.c6x_ports.specs.Sink.{Taken, Puts}
use Rattle.c6x_spec.proofs.Puts.{takes_then}
use Rattle.c6x_ports.proofs.Rises.{Rose-later}
use Rattle.c6x_cli_steps.specs.Stages.{Stage, TakesBehind, CutsAt, PutsStages, text_of}

-- a sink that took nothing is as it was, and the other way round
pub takes_nothing : (before now : Option (List ℕ)) → now ≡ before → Takes [] before now
takes_nothing None now same = record { appended = same }
takes_nothing (Some had) now same = record { appended = same ∙ ap Some (sym (append-nil had)) }

pub took_nothing : (before now : Option (List ℕ)) → Takes [] before now → now ≡ before
took_nothing None now taken = taken.appended
took_nothing (Some had) now taken = taken.appended ∙ ap Some (append-nil had)

take_of_nothing : (count : ℕ) → take {A = ℕ} count [] ≡ []
take_of_nothing zero = refl
take_of_nothing (suc count) = refl

took_no_front : (before now : Option (List ℕ)) → TakesFront [] before now → now ≡ before
took_no_front None now taken = taken.appended
took_no_front (Some had) now taken =
    taken.appended ∙ ap (λ more. Some (had ++ more)) (take_of_nothing taken.count) ∙ ap Some (append-nil had)

-- a cut of nothing leaves the output as it was
pub cut_nothing : (before now : Option (List ℕ)) → TakesBehind [] [] before now → now ≡ before
cut_nothing before now cut = took_no_front cut.amid now cut.front ∙ took_nothing before cut.amid cut.whole

takes_no_front : (had : Option (List ℕ)) → TakesFront [] had had
takes_no_front None = record { count = 0; within = omega arith; appended = refl }
takes_no_front (Some had) = record { count = 0; within = omega arith; appended = ap Some (sym (append-nil had)) }

pub cuts_nothing : (had : Option (List ℕ)) → TakesBehind [] [] had had
cuts_nothing had = record { amid = had; whole = takes_nothing had had refl; front = takes_no_front had }

-- a front of the first stage's text cuts it
pub cut_first : (text : List ℕ) (before now : Option (List ℕ)) (board at : Memory) → TakesFront text before now → board ≡ at → CutsAt (record { text = text; board = at } ∷ []) before now board
cut_first text before now board at front same =
    inl (record { amid = before; whole = takes_nothing before before refl; front = front }, same)

-- a put that failed behind stages that were taken cuts there
pub cut_behind : (earlier : List Stage) (text : List ℕ) (before amid now : Option (List ℕ)) (board at : Memory) → Takes (text_of earlier) before amid → TakesFront text amid now → board ≡ at → CutsAt (record { text = text; board = at } ∷ earlier) before now board
cut_behind earlier text before amid now board at whole front same = inl (record { amid = amid; whole = whole; front = front }, same)

-- a cut of earlier stages is one of more
pub cut_earlier : (stage : Stage) (earlier : List Stage) (before now : Option (List ℕ)) (board : Memory) → CutsAt earlier before now board → CutsAt (stage ∷ earlier) before now board
cut_earlier stage earlier before now board cut = inr cut

-- the put of one text is that of one stage
pub puts_first : {A E : Type 0} (text : List ℕ) (before after : Taken) (first board at : Memory) (result : Result A E) → Puts text before after result → board ≡ at → PutsStages (record { text = text; board = at } ∷ []) before after first board result
puts_first text before after first board at (Ok _) p same = record { all = p.all; at = same; cut = tt; failed = tt; kept = p.kept }
puts_first text before after first board at (Err _) p same = record {
  all = tt;
  at = tt;
  cut = cut_first text before.bytes after.bytes board at p.front same;
  failed = p.failed;
  kept = p.kept;
}

-- a put behind stages that were put is that of one more
pub puts_next : {A B E F : Type 0} (text : List ℕ) (earlier : List Stage) (before amid after : Taken) (first mid board at : Memory) (value : B) (result : Result A E) → PutsStages {A = B} {E = F} earlier before amid first mid (Ok value) → Puts text amid after result → board ≡ at → PutsStages (record { text = text; board = at } ∷ earlier) before after first board result
puts_next text earlier before amid after first mid board at value (Ok _) p q same = record {
  all = takes_then (text_of earlier) text before.bytes amid.bytes after.bytes p.all q.all;
  at = same;
  cut = tt;
  failed = tt;
  kept = omega (arith, p.kept, q.kept);
}
puts_next text earlier before amid after first mid board at value (Err _) p q same = record {
  all = tt;
  at = tt;
  cut = cut_behind earlier text before.bytes amid.bytes after.bytes board at p.all q.front same;
  failed = Rose-later _ _ _ p.kept q.failed;
  kept = omega (arith, p.kept, q.kept);
}

-- where the earlier stages are cut, all are
pub puts_cut : {A B E : Type 0} (stage : Stage) (earlier : List Stage) (before after : Taken) (first board : Memory) (error : E) (result : Result A E) → result ≡ Err error → PutsStages {A = B} {E = E} earlier before after first board (Err error) → PutsStages (stage ∷ earlier) before after first board result
puts_cut stage earlier before after first board error result is p =
    subst (λ r. PutsStages (stage ∷ earlier) before after first board r) (sym is)
    (record { all = tt; at = tt; cut = inr p.cut; failed = p.failed; kept = p.kept })
