-- A text that is put piece by piece: what was put, and what is left.
use Rattle.std.proofs.Common.{◌≡◌, ℕ, zero, suc, ◌+◌, ◌-◌, ◌<◌, ◌≤◌, List, [], ◌∷◌, ◌++◌, refl, sym, ◌∙◌, ap, subst, arith, append_assoc, append-nil}
use Rattle.std.specs.Prelude.{Option, None, Some}
use Rattle.std.specs.List.{range_with_len}
use Rattle.c6x_spec.specs.Sinks.{Takes, TakesFront}
use Rattle.c6x_spec.proofs.Puts.{front_of_more, takes_then, takes_then_front}

-- A first part of a text was taken, and this is left of it.
pub record IsBehind (text : List ℕ) (before : Option (List ℕ)) (rest : List ℕ) (amid : Option (List ℕ)) : Type 0 where
  pub done : List ℕ
  pub whole : text ≡ done ++ rest
  pub taken : Takes done before amid

takes_none : (had : Option (List ℕ)) → Takes [] had had
takes_none None = record { appended = refl }
takes_none (Some had) = record { appended = ap Some (sym (append-nil had)) }

pub behind_none : (text rest : List ℕ) (before : Option (List ℕ)) → text ≡ rest → IsBehind text before rest before
behind_none text rest before is = record { done = []; whole = is; taken = takes_none before }

-- one piece more
pub behind_next : (text piece later rest : List ℕ) (before amid now : Option (List ℕ)) → rest ≡ piece ++ later → Takes piece amid now → IsBehind text before rest amid → IsBehind text before later now
behind_next text piece later rest before amid now is taken b = record {
  done = b.done ++ piece;
  whole = b.whole ∙ ap (λ r. b.done ++ r) is ∙ sym (append_assoc b.done piece later);
  taken = takes_then b.done piece before amid now b.taken taken;
}

-- a piece that was cut
pub behind_cut : (text piece later rest : List ℕ) (before amid now : Option (List ℕ)) → rest ≡ piece ++ later → TakesFront piece amid now → IsBehind text before rest amid → TakesFront text before now
behind_cut text piece later rest before amid now is cut b =
    let front : TakesFront (b.done ++ (piece ++ later)) before now = takes_then_front b.done (piece ++ later) before amid now b.taken (front_of_more piece later amid now cut) in
    subst (λ t. TakesFront t before now) (sym (b.whole ∙ ap (λ r. b.done ++ r) is)) front

-- nothing is left
pub behind_all : (text rest : List ℕ) (before now : Option (List ℕ)) → rest ≡ [] → IsBehind text before rest now → Takes text before now
behind_all text rest before now none b =
    subst (λ t. Takes t before now) (sym (b.whole ∙ ap (λ r. b.done ++ r) none ∙ append-nil b.done)) b.taken

-- the numbers below a count from one of them on
pub numbers_more : (number count : ℕ) → number < count → range_with_len number (count - number) ≡ number ∷ range_with_len (number + 1) (count - (number + 1))
numbers_more number count below =
    let e : count - number ≡ suc (count - (number + 1)) = omega (arith, below) in
    ap (λ k. range_with_len number k) e

pub numbers_all : (count : ℕ) → range_with_len 0 count ≡ range_with_len 0 (count - 0)
numbers_all count =
    let e : count ≡ count - 0 = omega arith in
    ap (λ k. range_with_len 0 k) e

pub numbers_end : (number count : ℕ) → count ≤ number → range_with_len number (count - number) ≡ []
numbers_end number count past =
    let e : count - number ≡ 0 = omega (arith, past) in
    ap (λ k. range_with_len number k) e

-- five pieces put one behind the other
pub five_pieces : (a b c d e first second third fourth line : List ℕ) → first ≡ a → second ≡ first ++ b → third ≡ second ++ c → fourth ≡ third ++ d → line ≡ fourth ++ e → line ≡ a ++ b ++ c ++ d ++ e
five_pieces a b c d e first second third fourth line one two three four five =
    five ∙ ap (λ l. l ++ e) (four ∙ ap (λ l. l ++ d) (three ∙ ap (λ l. l ++ c) (two ∙ ap (λ l. l ++ b) one)))
