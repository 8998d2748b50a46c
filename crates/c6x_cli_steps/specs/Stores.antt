use Rattle.std.specs.Prelude.{◌≡◌, ◌≤◌, ℕ, Bool, true, false, List, Option, None, Some}
use Rattle.c6x_spec.specs.Files.{Files, stored}
use Rattle.c6x_ports.specs.Others.{KeepsOthers}
use Rattle.c6x_ports.specs.Shelf.{Shelved}

-- What a command stores: a name with its bytes, or nothing. The shelf's files before it and after it are given where
-- they are told.

-- The file was stored, in its old place or last, and all other files are as they were.
abbrev pub HasStored : Option (List ℕ × List ℕ) → Option Files → Option Files → Type 0
HasStored None before now = now ≡ before
HasStored (Some file) before now = (told : Files) → before ≡ Some told → now ≡ Some (stored told file.0 file.1)

-- A fault ended the command: nothing is said of the file that was to be stored, and all other files are as they were.
abbrev pub HasCutStore : Option (List ℕ × List ℕ) → Option Files → Option Files → Type 0
HasCutStore None before now = now ≡ before
HasCutStore (Some file) before now = (told : Files) → before ≡ Some told → KeepsOthers file.0 told now

-- Only a command that stores counts faults of stores.
abbrev pub KeepsWriteFaults : Bool → Shelved → Shelved → Type 0
KeepsWriteFaults true before after = before.write_faults ≤ after.write_faults
KeepsWriteFaults false before after = after.write_faults ≡ before.write_faults
