-- What words say, before it is asked what they ask for.
use Rattle.std.specs.Prelude.{◌≡◌, ◌≤◌, ◌+◌, ◌||◌, ℕ, Bool, true, false, List, [], ◌∷◌, ◌++◌, length, map, nat_eq, not, Option, None, Some, codes}
use Rattle.std.specs.List.{list_all}
use Rattle.std.specs.Str.{bytes_eq}
use Rattle.c6x_ports.specs.declared.kind.Kind.{Kind}
use Rattle.c6x_cli_words.specs.Arguments.{Argument, AreSpelled, is_positional, kind_named, kinds_of, number_of, once_if, plans_of, seeds_of, times_told}

-- A word that begins with no dash, or is an option of this command.
abbrev pub begins_plain : List ℕ → Bool
begins_plain [] = true
begins_plain (first ∷ more) = not (nat_eq first 45)

abbrev pub is_option : List ℕ → Bool
is_option word = bytes_eq word (codes "--policy") || (bytes_eq word (codes "--seed") || bytes_eq word (codes "--turns"))

unfoldable pub is_known : List ℕ → Bool
is_known word = begins_plain word || is_option word

-- The words that are no options and no values of one, in order; the values of the options; whether turns are told.
pub record Told : Type 0 where
  pub words : List (List ℕ)
  pub policy : Option (List ℕ)
  pub seed : Option (List ℕ)
  pub turns : Bool

abbrev pub kinds_said : Option (List ℕ) → List (Option Kind)
kinds_said None = []
kinds_said (Some name) = kind_named name ∷ []

abbrev pub numbers_said : Option (List ℕ) → List (Option ℕ)
numbers_said None = []
numbers_said (Some digits) = number_of digits ∷ []

-- Arguments lead from what was said before to what is said with them.
pub record Leads (before : Told) (arguments : List Argument) (now : Told) : Type 0 where
  pub words : now.words ≡ before.words ++ plans_of arguments
  pub kinds : kinds_said now.policy ≡ kinds_said before.policy ++ map Some (kinds_of arguments)
  pub numbers : numbers_said now.seed ≡ numbers_said before.seed ++ map Some (seeds_of arguments)
  pub turns : once_if now.turns ≡ once_if before.turns + times_told arguments

abbrev pub nothing_said : Told
nothing_said = record { words = []; policy = None; seed = None; turns = false }

-- Each word may stand for a file, and the values are a kind and a number.
pub record IsGood (said : Told) : Type 0 where
  pub files : list_all is_positional said.words ≡ true
  pub kind : (name : List ℕ) → said.policy ≡ Some name → (kind : Kind) × (kind_named name ≡ Some kind)
  pub number : (digits : List ℕ) → said.seed ≡ Some digits → (number : ℕ) × (number_of digits ≡ Some number)

-- At most one policy, one seed and one `--turns`.
pub record AreFew (arguments : List Argument) : Type 0 where
  pub kinds : length (kinds_of arguments) ≤ 1
  pub seeds : length (seeds_of arguments) ≤ 1
  pub turns : times_told arguments ≤ 1

-- It is what the words say: where it is good, it is said by arguments that spell them, and few arguments that spell them
-- say it.
pub record IsSaid (words : List (List ℕ)) (said : Told) : Type 0 where
  pub spelled : IsGood said → (arguments : List Argument) × (AreSpelled arguments words × Leads nothing_said arguments said)
  pub only : (arguments : List Argument) → AreSpelled arguments words → AreFew arguments → Leads nothing_said arguments said

-- The first word begins with no dash.
abbrev pub starts_plain : List (List ℕ) → Bool
starts_plain [] = false
starts_plain (first ∷ more) = begins_plain first
