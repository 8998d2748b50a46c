use Rattle.std.proofs.Common.{◌≡◌, ℕ, ◌+◌, ◌-◌, ◌*◌, ◌/◌, ◌%◌, ◌<◌, ◌≤◌, sym, ◌∙◌, ap, arith, inl, inr}
use Rattle.std.proofs.Math.Nat.{add-mod-mod, add-mul-mod_self_left, mod-add-div, mul-le-mul_left, le_antisymm}
use Rattle.std.proofs.lemmas.Bool.{cases_lt}
use Rattle.c6x_spec.specs.Places.{IsLeastPlace, least_place}

-- of two numbers with one remainder, the lower is a step lower at least
step_between : (step low high : ℕ) → low % step ≡ high % step → low < high → low + step ≤ high
step_between step low high same below =
    let low_is = mod-add-div low step in
    let high_is = mod-add-div high step in
    elim (cases_lt (low / step) (high / step)) [
      | inl less ↦ (let more : step * (low / step + 1) ≤ step * (high / step) = mul-le-mul_left step (omega arith) in
          let next : step * (low / step + 1) ≡ step * (low / step) + step = grind arith in omega arith)
      | inr not_less ↦ (let more : step * (high / step) ≤ step * (low / step) = mul-le-mul_left step not_less in absurd (omega arith))
    ]

-- the number is congruent to the file address
congruent_place : (cursor vaddr step : ℕ) → 1 ≤ step → least_place cursor vaddr step % step ≡ vaddr % step
unfolding least_place
congruent_place cursor vaddr step some =
    let cursor_is = mod-add-div cursor step in
    let sum : cursor + (vaddr + (step - cursor % step)) ≡ vaddr + step * (cursor / step + 1) =
    (let next : step * (cursor / step + 1) ≡ step * (cursor / step) + step = grind arith in omega arith) in
    add-mod-mod cursor (vaddr + (step - cursor % step)) step
    ∙ ap (λ (n : ℕ). n % step) sum ∙ add-mul-mod_self_left vaddr step (cursor / step + 1)

-- it is below a step past the cursor
pub near_place : (cursor vaddr step : ℕ) → 1 ≤ step → least_place cursor vaddr step < cursor + step
unfolding least_place
near_place cursor vaddr step some = omega arith

-- it is not below the cursor
pub above_place : (cursor vaddr step : ℕ) → cursor ≤ least_place cursor vaddr step
unfolding least_place
above_place cursor vaddr step = omega arith

-- so it is the least such address
pub least_place_is : (cursor vaddr step : ℕ) → 1 ≤ step → IsLeastPlace cursor vaddr step (least_place cursor vaddr step)
least_place_is cursor vaddr step some =
    let same = congruent_place cursor vaddr step some in
    let near = near_place cursor vaddr step some in
    record {
      above = above_place cursor vaddr step;
      congruent = same;
      least = λ other above congruent.
          elim (cases_lt other (least_place cursor vaddr step)) [
            | inl lower ↦ (let gap = step_between step other (least_place cursor vaddr step) (congruent ∙ sym same) lower in absurd (omega arith))
            | inr not_lower ↦ not_lower
          ];
    }

-- and the only one
pub only_place : (cursor vaddr step a b : ℕ) → IsLeastPlace cursor vaddr step a → IsLeastPlace cursor vaddr step b → a ≡ b
only_place cursor vaddr step a b first second =
    le_antisymm (first.least b second.above second.congruent) (second.least a first.above first.congruent)
