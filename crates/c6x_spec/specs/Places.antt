use Rattle.std.specs.Prelude.{◌≡◌, ℕ, ◌+◌, ◌-◌, ◌%◌, ◌≤◌}

-- The least place not below the cursor that is congruent to the address modulo the step (gABI chapter 5, "Program
-- Header": `p_vaddr` and `p_offset` are so congruent modulo `p_align`).
pub record IsLeastPlace (cursor vaddr step at : ℕ) : Type 0 where
  pub above : cursor ≤ at
  pub congruent : at % step ≡ vaddr % step
  pub least : (other : ℕ) → cursor ≤ other → other % step ≡ vaddr % step → at ≤ other

-- That place as a number.
unfoldable pub least_place : ℕ → ℕ → ℕ → ℕ
least_place cursor vaddr step = cursor + (vaddr + (step - cursor % step)) % step
