-- Loops over the instructions of a packet, by what those before the one at hand have taken.

use Rattle.std.proofs.Common.{◌≡◌, ℕ, ◌+◌, ◌<◌, ◌≤◌, ◌||◌, inl, inr, Bool, true, false, List, [], ◌∷◌, ◌++◌, length, take, drop, get_or, refl, sym, ◌∙◌, ap, subst}
use Rattle.std.specs.List.{list_any}
use Rattle.std.proofs.lemmas.List.{take_more, take_all, take-append-drop}
use Rattle.std.proofs.lemmas.List.Folds.{list_any-append, list_any_more}
use Rattle.std.proofs.lemmas.Bool.{or_cases, or_left, or_right}
use Rattle.c6x_encoding.specs.declared.instr.Instr.{Instr}
use Rattle.c6x_encoding.specs.declared.op.Op.{Op}
use Rattle.c6x_packet.specs.declared.rule.PairRule.{PairRule}
use Rattle.c6x_packet.specs.Rules.{breaks, some_pair}

-- No two of the instructions so far break the rule, and which later ones break it with one of them is known.
pub record Walk (rule : PairRule) (instrs : List Instr) (index : ℕ) (hit : Op → Bool) : Type 0 where
  pub clear : some_pair rule (take index instrs) ≡ false
  pub seen : (later : Instr) → hit later.op ≡ list_any (λ (earlier : Instr). breaks rule earlier later) (take index instrs)

shuffled : (a b c d : Bool) → ((a || (b || false)) || (c || d)) ≡ ((a || c) || (b || d))
shuffled true b c d = refl
shuffled false true true d = refl
shuffled false true false d = refl
shuffled false false true d = refl
shuffled false false false d = refl

one_more : (rule : PairRule) (front : List Instr) (i : Instr) → some_pair rule (front ++ i ∷ []) ≡ (some_pair rule front || list_any (λ (earlier : Instr). breaks rule earlier i) front)
one_more rule [] i = refl
one_more rule (x ∷ front) i =
    rw (list_any-append (breaks rule x) front (i ∷ []), one_more rule front i)
    (shuffled (list_any (breaks rule x) front) (breaks rule x i) (some_pair rule front) _)

in_front : (rule : PairRule) (front back : List Instr) → some_pair rule front ≡ true → some_pair rule (front ++ back) ≡ true
in_front rule [] back is = cc
in_front rule (x ∷ front) back is = elim (or_cases (list_any (breaks rule x) front) _ is) [
  | inl e ↦
      let here : list_any (breaks rule x) (front ++ back) ≡ true = list_any-append (breaks rule x) front back ∙ or_left _ _ e in
      or_left _ _ here
  | inr e ↦ or_right (list_any (breaks rule x) (front ++ back)) _ (in_front rule front back e)
]

at_next : (rule : PairRule) (instrs : List Instr) (index : ℕ) (d : Instr) → index < length instrs → some_pair rule (take (index + 1) instrs) ≡ (some_pair rule (take index instrs) || list_any (λ (earlier : Instr). breaks rule earlier (get_or instrs index d)) (take index instrs))
at_next rule instrs index d within =
    ap (some_pair rule) (take_more instrs index d within) ∙ one_more rule (take index instrs) (get_or instrs index d)

pub walk_start : (rule : PairRule) (instrs : List Instr) (hit : Op → Bool) → ((op : Op) → hit op ≡ false) → Walk rule instrs 0 hit
walk_start rule instrs hit none = record { clear = refl; seen = λ (later : Instr). none later.op }

pub walk_found : (rule : PairRule) (instrs : List Instr) (index : ℕ) (hit : Op → Bool) (d : Instr) → index < length instrs → Walk rule instrs index hit → hit (get_or instrs index d).op ≡ true → some_pair rule instrs ≡ true
walk_found rule instrs index hit d within w found =
    let here : some_pair rule (take (index + 1) instrs) ≡ true =
    at_next rule instrs index d within
    ∙ or_right (some_pair rule (take index instrs)) _ (sym (w.seen (get_or instrs index d)) ∙ found)
    in
    subst (λ (all : List Instr). some_pair rule all ≡ true) (take-append-drop (index + 1) instrs)
    (in_front rule (take (index + 1) instrs) (drop (index + 1) instrs) here)

pub walk_next : (rule : PairRule) (instrs : List Instr) (index : ℕ) (hit more : Op → Bool) (d : Instr) → index < length instrs → Walk rule instrs index hit → hit (get_or instrs index d).op ≡ false → ((later : Instr) → more later.op ≡ (hit later.op || breaks rule (get_or instrs index d) later)) → Walk rule instrs (index + 1) more
walk_next rule instrs index hit more d within w free added = record {
  clear =
      at_next rule instrs index d within
      ∙ ap (λ (b : Bool). b || list_any (λ (earlier : Instr). breaks rule earlier (get_or instrs index d)) (take index instrs)) w.clear
      ∙ sym (w.seen (get_or instrs index d))
      ∙ free;
  seen = λ (later : Instr).
      added later
      ∙ ap (λ (b : Bool). b || breaks rule (get_or instrs index d) later) (w.seen later)
      ∙ sym (list_any_more (λ (earlier : Instr). breaks rule earlier later) instrs index d within);
}

pub walk_end : (rule : PairRule) (instrs : List Instr) (index : ℕ) (hit : Op → Bool) → length instrs ≤ index → Walk rule instrs index hit → some_pair rule instrs ≡ false
walk_end rule instrs index hit whole w = ap (some_pair rule) (sym (take_all index instrs whole)) ∙ w.clear
