use Rattle.std.specs.Prelude.{◌≡◌, ℕ, ◌≤◌, Option}
use Rattle.c6x_spec.specs.Files.{Files}

-- What is seen of a shelf: its files, where they are told, and its counts.
pub record Shelved : Type 0 where
  pub files : Option Files
  pub read_faults : ℕ
  pub write_faults : ℕ
  pub absences : ℕ

-- What a fetch keeps: the files and the count of write faults, and no count falls.
pub record KeepsFiles (before after : Shelved) : Type 0 where
  pub files : after.files ≡ before.files
  pub write_faults : after.write_faults ≡ before.write_faults
  pub read_faults : before.read_faults ≤ after.read_faults
  pub absences : before.absences ≤ after.absences

-- What a store keeps: the counts of fetches, and the count of write faults does not fall.
pub record KeepsCounts (before after : Shelved) : Type 0 where
  pub read_faults : after.read_faults ≡ before.read_faults
  pub absences : after.absences ≡ before.absences
  pub write_faults : before.write_faults ≤ after.write_faults
