use Rattle.std.specs.Prelude.{◌≡◌, ℕ, ◌+◌, ◌-◌, ◌*◌, ◌/◌, ◌≤◌}

-- The least multiple of `align` that is not below `v`, as a number.
abbrev pub rounded : ℕ → ℕ → ℕ
rounded v align = (v + (align - 1)) / align * align

-- The least multiple of `align` that is not below `v`.
pub record IsRounded (v align multiple : ℕ) : Type 0 where
  pub count : ℕ
  pub multiple_of : multiple ≡ count * align
  pub not_below : v ≤ multiple
  pub least : (other : ℕ) → v ≤ other * align → multiple ≤ other * align
