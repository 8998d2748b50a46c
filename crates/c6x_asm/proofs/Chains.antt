-- Closed words are a chain.
use Rattle.std.proofs.Common.{◌≡◌, ℕ, suc, zero, ◌+◌, ◌-◌, ◌%◌, ◌<◌, ◌≤◌, Bool, true, false, cond, eqb, List, [], ◌∷◌, ◌++◌, length, map, take, get_or, refl, ◌∙◌, arith}
use Rattle.std.proofs.lemmas.Bool.{eqb-true, eqb-false}
use Rattle.std.proofs.lemmas.List.{length-map, length-take-le, length-append, get_or_append_left, get_or_at}
use Rattle.c6x_packet.specs.Packets.{IsChain}
use Rattle.c6x_asm.specs.Packets.{even}
use Rattle.c6x_asm_object.specs.Sections.{odd}

odd_is : (w : ℕ) → odd w % 2 ≡ 1
odd_is w = either (eqb (w % 2) 0) refl
  where
    either : (b : Bool) → eqb (w % 2) 0 ≡ b → cond b (w + 1) w % 2 ≡ 1
    either true is = let nought : w % 2 ≡ 0 = eqb-true (w % 2) 0 is in omega arith
    either false is = let some : w % 2 ≡ 0 → ⊥ = eqb-false (w % 2) 0 is in omega arith

all_odd : (ws : List ℕ) (k : ℕ) → k < length (map odd ws) → get_or (map odd ws) k 0 % 2 ≡ 1
all_odd [] k inside = absurd (omega arith)
all_odd (w ∷ ws) zero inside = odd_is w
all_odd (w ∷ ws) (suc k) inside = all_odd ws k (omega arith)

pub closed_chain : (ws : List ℕ) → 1 ≤ length ws → length ws ≤ 8 → IsChain (map odd (take (length ws - 1) ws) ++ even (get_or ws (length ws - 1) 0) ∷ [])
closed_chain ws some few =
    let front : length (take (length ws - 1) ws) ≡ length ws - 1 = length-take-le (length ws - 1) ws (omega arith) in
    let mapped : length (map odd (take (length ws - 1) ws)) ≡ length ws - 1 = length-map (take (length ws - 1) ws) odd ∙ front in
    let whole : length (map odd (take (length ws - 1) ws) ++ even (get_or ws (length ws - 1) 0) ∷ []) ≡ length ws = length-append (map odd (take (length ws - 1) ws)) (even (get_or ws (length ws - 1) 0) ∷ []) ∙ omega arith in
    let end : length (map odd (take (length ws - 1) ws) ++ even (get_or ws (length ws - 1) 0) ∷ []) - 1 ≡ length ws - 1 = omega arith in
    record {
      some = omega arith;
      few = omega arith;
      chained = λ k below.
          let inside : k < length (map odd (take (length ws - 1) ws)) = omega arith in
          rw (get_or_append_left (map odd (take (length ws - 1) ws)) (even (get_or ws (length ws - 1) 0) ∷ []) 0 k inside) (all_odd (take (length ws - 1) ws) k inside);
      last = λ short. rw (end, get_or_at (map odd (take (length ws - 1) ws)) (even (get_or ws (length ws - 1) 0)) [] 0 (length ws - 1) mapped) (omega arith);
    }
