-- The words of a packet, fetched one by one.
use Rattle.std.proofs.Common.{◌≡◌, ◌≢◌, ℕ, suc, ◌+◌, ◌-◌, ◌%◌, ◌*◌, ◌^◌, ◌<◌, ◌≤◌, List, [], ◌∷◌, ◌++◌, length, take, set, refl, sym, ◌∙◌, ap, arith, Result, Ok, Err, Bool, true, false, append_assoc, length-set, inl, inr, get_or-set_same, get_or-set_other, append-nil}
use Rattle.std.specs.Prelude.{◌==◌, slice_index}
use Rattle.std.proofs.lemmas.Bool.{cases_eq}
use Rattle.std.proofs.lemmas.Bool.Decides.{nat_tests}
use Rattle.std.proofs.lemmas.List.{take_more_set, places}
use Rattle.std.proofs.lemmas.Grind.{common_steps}
use Rattle.c6x_exec.specs.Fetched.{after_front}
use Rattle.c6x_access.specs.declared.area.Area.{Area}
use Rattle.c6x_access.specs.declared.right.Right.{Right}
use Rattle.c6x_access.specs.declared.right.Right.TheVariants.{Run}
use Rattle.c6x_access.specs.Laws.{IsAccess}
use Rattle.c6x_access.specs.Rights.{may_access}
use Rattle.c6x_access.proofs.Bytes.{is_access, may_be_accessed, may_within}
use Rattle.c6x_machine.specs.Packet.{IsChainOf, past, prepend, chain_by, may_run}

-- the words so far and those that come are the words of the chain; each so far goes on
pub record Chaining (may : ℕ → Bool) (word : ℕ → ℕ) (at most : ℕ) (words : List ℕ) (from place : ℕ) : Type 0 where
  pub room : length words ≡ 8
  pub chained : (k : ℕ) → k < place → slice_index words k % 2 ≡ 1
  pub here : from ≡ (at + 4 * place) % 2 ^ 32
  pub given : after_front (take place words) (chain_by may word from (most - place)) ≡ chain_by may word at most

front_one : (front : List ℕ) (w : ℕ) (rest : Result (List ℕ) ℕ) → after_front front (prepend w rest) ≡ after_front (front ++ w ∷ []) rest
front_one front w (Ok words) = ap Ok (sym (append_assoc front (w ∷ []) words))
front_one front w (Err bad) = refl

one_more : (may : ℕ → Bool) (word : ℕ → ℕ) (from left : ℕ) (front : List ℕ) (w : ℕ) → may from ≡ true → w ≡ word from → w % 2 ≢ 0 → after_front front (chain_by may word from (suc left)) ≡ after_front (front ++ w ∷ []) (chain_by may word (past from 4) left)
one_more may word from left front w ok is odd =
    let test : (w % 2 == 0) ≡ false = grind (arith, nat_tests) in
    rw (ok, ← is, test) (front_one front w (chain_by may word (past from 4) left))

last_one : (may : ℕ → Bool) (word : ℕ → ℕ) (from left : ℕ) (front : List ℕ) (w : ℕ) → may from ≡ true → w ≡ word from → w % 2 ≡ 0 → after_front front (chain_by may word from (suc left)) ≡ Ok (front ++ w ∷ [])
last_one may word from left front w ok is even =
    let test : (w % 2 == 0) ≡ true = grind (arith, nat_tests) in
    rw (ok, ← is, test) refl

no_more : (may : ℕ → Bool) (word : ℕ → ℕ) (from left : ℕ) (front : List ℕ) → may from ≡ false → after_front front (chain_by may word from (suc left)) ≡ Err from
no_more may word from left front bad = rw bad refl

pub chaining_next : (may : ℕ → Bool) (word : ℕ → ℕ) (at most : ℕ) (words : List ℕ) (from place w : ℕ) → place < most → most ≤ 8 → Chaining may word at most words from place → may from ≡ true → w ≡ word from → w % 2 ≢ 0 → Chaining may word at most (set words place w) (past from 4) (place + 1)
chaining_next may word at most words from place w within few k ok is odd =
    let left : most - place ≡ suc (most - (place + 1)) = omega arith in
    let room : length words ≡ 8 = k.room in
    record {
      room = length-set words place w ∙ k.room;
      chained = λ i below. elim (cases_eq i place) [
        | inl here ↦
            let new : slice_index (set words place w) place ≡ w = get_or-set_same words place w 0 (omega arith) in
            rw (here, new) (omega arith)
        | inr before ↦
            let kept : slice_index (set words place w) i ≡ slice_index words i = get_or-set_other words place i w 0 before in
            rw kept (k.chained i (omega arith))
      ];
      here = let old : from ≡ (at + 4 * place) % 2 ^ 32 = k.here in omega arith;
      given =
          ap (λ (front : List ℕ). after_front front (chain_by may word (past from 4) (most - (place + 1)))) (take_more_set words place w (omega arith))
          ∙ sym (one_more may word from (most - (place + 1)) (take place words) w ok is odd)
          ∙ ap (λ (n : ℕ). after_front (take place words) (chain_by may word from n)) (sym left)
          ∙ k.given;
    }

pub chaining_bad : (may : ℕ → Bool) (word : ℕ → ℕ) (at most : ℕ) (words : List ℕ) (from place : ℕ) → place < most → Chaining may word at most words from place → may from ≡ false → Err from ≡ chain_by may word at most
chaining_bad may word at most words from place within k bad =
    let left : most - place ≡ suc (most - (place + 1)) = omega arith in
    sym (no_more may word from (most - (place + 1)) (take place words) bad)
    ∙ ap (λ (n : ℕ). after_front (take place words) (chain_by may word from n)) (sym left)
    ∙ k.given

pub chaining_last : (may : ℕ → Bool) (word : ℕ → ℕ) (at most : ℕ) (words : List ℕ) (from place w : ℕ) → place < most → most ≤ 8 → Chaining may word at most words from place → may from ≡ true → w ≡ word from → w % 2 ≡ 0 → Ok (take (place + 1) (set words place w)) ≡ chain_by may word at most
chaining_last may word at most words from place w within few k ok is even =
    let left : most - place ≡ suc (most - (place + 1)) = omega arith in
    let room : length words ≡ 8 = k.room in
    ap Ok (take_more_set words place w (omega arith))
    ∙ sym (last_one may word from (most - (place + 1)) (take place words) w ok is even)
    ∙ ap (λ (n : ℕ). after_front (take place words) (chain_by may word from n)) (sym left)
    ∙ k.given

back : (front : List ℕ) → Ok front ≡ after_front front (Ok [])
back front = ap Ok (sym (append-nil front))

pub chaining_full : (may : ℕ → Bool) (word : ℕ → ℕ) (at most : ℕ) (words : List ℕ) (from : ℕ) → Chaining may word at most words from most → Ok (take most words) ≡ chain_by may word at most
chaining_full may word at most words from k =
    let none : most - most ≡ 0 = omega arith in
    back (take most words) ∙ ap (λ (n : ℕ). after_front (take most words) (chain_by may word from n)) (sym none) ∙ k.given

-- the words of the loop are a chain
pub chain_last : (most place w : ℕ) (words : List ℕ) → length words ≡ 8 → place < most → most ≤ 8 → ((k : ℕ) → k < place → slice_index words k % 2 ≡ 1) → w % 2 ≡ 0 → IsChainOf most (take (place + 1) (set words place w))
chain_last most place w words room within few chained even = record {
  few = grind (arith, common_steps);
  some = λ any. grind (arith, common_steps);
  chained = λ k below. let old : k < place → slice_index words k % 2 ≡ 1 = chained k in grind (arith, common_steps, places);
  last = λ short. grind (arith, common_steps, places);
}

pub chain_full : (most : ℕ) (words : List ℕ) → length words ≡ 8 → most ≤ 8 → ((k : ℕ) → k < most → slice_index words k % 2 ≡ 1) → IsChainOf most (take most words)
chain_full most words room few chained = record {
  few = grind (arith, common_steps);
  some = λ any. grind (arith, common_steps);
  chained = λ k below. let old : k < most → slice_index words k % 2 ≡ 1 = chained k in grind (arith, common_steps, places);
  last = λ short. absurd (grind (arith, common_steps));
}

-- a part of an access that may be made
part_may : (areas : List Area) (right : Right) (at size k len : ℕ) → may_access areas right at size ≡ true → k + len ≤ size → may_access areas right (at + k) len ≡ true
part_may areas right at size k len may within =
    let whole : IsAccess areas right at size = is_access areas right at size may in
    let low : at + size ≤ 2 ^ 32 = whole.within in
    may_be_accessed areas right (at + k) len (record { within = omega arith; each = λ x from to. whole.each x (omega arith) (omega arith) })

pub open_run : (areas : List Area) (at from place most : ℕ) (known : Bool) → known ≡ may_access areas Run at (4 * most) → from ≡ (at + 4 * place) % 2 ^ 32 → place < most → known ≡ true → may_run areas from ≡ true
open_run areas at from place most known is here below yes_known =
    let may : may_access areas Run at (4 * most) ≡ true = sym is ∙ yes_known in
    let low : at + 4 * most ≤ 2 ^ 32 = may_within areas Run at (4 * most) may in
    let same : from ≡ at + 4 * place = omega arith in
    rw same (part_may areas Run at (4 * most) (4 * place) 4 may (omega arith))
