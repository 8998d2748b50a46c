use Rattle.std.specs.Prelude.{ℕ}

-- What a shelf over the file system counts.
pub record Counts : Type 0 where
  pub read_faults : ℕ
  pub write_faults : ℕ
  pub absences : ℕ
