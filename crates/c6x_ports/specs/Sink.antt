use Rattle.std.specs.Prelude.{ℕ, ◌≤◌, List, Option, Result, OnOk, OnErr}
use Rattle.c6x_spec.specs.Files.{Rose}
use Rattle.c6x_spec.specs.Sinks.{Takes, TakesFront}

-- What is seen of a sink: the bytes that it took, where they are told, and its count of faults.
pub record Taken : Type 0 where
  pub bytes : Option (List ℕ)
  pub faults : ℕ

-- What every put does: all of the text was taken, or a fault was counted and a first part of it was taken. The count
-- does not fall.
pub record Puts {A E : Type 0} (text : List ℕ) (before after : Taken) (result : Result A E) : Type 0 where
  pub all : OnOk result (Takes text before.bytes after.bytes)
  pub front : OnErr result (TakesFront text before.bytes after.bytes)
  pub failed : OnErr result (Rose before.faults after.faults)
  pub kept : before.faults ≤ after.faults
