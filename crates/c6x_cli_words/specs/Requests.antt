-- What the words of the command ask for (this project's own).
use Rattle.std.specs.Prelude.{◌≡◌, ℕ, ◌≤◌, Bool, true, false, IsTrue, List, [], ◌∷◌, Option, None, Some, codes, unwrap_or}
use Rattle.std.specs.Option.{option_to_list}
use Rattle.c6x_ports.specs.declared.kind.Kind.{Kind}
use Rattle.c6x_ports.specs.declared.kind.Kind.TheVariants.{Round}
use Rattle.c6x_cli_words.specs.Arguments.{Argument, AreSpelled, generator_number, is_positional, kinds_of, once_if, plans_of, seeds_of, times_told}
use Rattle.c6x_cli_words.specs.declared.request.Request.{Request}
use Rattle.c6x_cli_words.specs.declared.request.Request.TheVariants.{Assemble, Dis, Generate, Link, Map, Run, Show}

-- The words are a verb and a file, or a verb and two files.
pub record IsVerbOne (verb file : List ℕ) (words : List (List ℕ)) : Type 0 where
  pub is : words ≡ verb ∷ file ∷ []
  pub positional : IsTrue (is_positional file)

pub record IsVerbTwo (verb first second : List ℕ) (words : List (List ℕ)) : Type 0 where
  pub is : words ≡ verb ∷ first ∷ second ∷ []
  pub positional : IsTrue (is_positional first)
  pub positional_too : IsTrue (is_positional second)

-- They are `run` and arguments: one plan, at most one kind, which is Round where none is given, at most one seed, which is
-- 1 where none is given, and at most once that turns are told.
pub record IsVerbRun (plan : List ℕ) (policy : Kind) (seed : ℕ) (turns : Bool) (words : List (List ℕ)) : Type 0 where
  pub rest : List (List ℕ)
  pub arguments : List Argument
  pub kind : Option Kind
  pub number : Option ℕ
  pub is : words ≡ codes "run" ∷ rest
  pub spelled : AreSpelled arguments rest
  pub one : plans_of arguments ≡ plan ∷ []
  pub kinds : kinds_of arguments ≡ option_to_list kind
  pub seeds : seeds_of arguments ≡ option_to_list number
  pub used : policy ≡ unwrap_or kind Round
  pub begun : seed ≡ unwrap_or number 1
  pub told : times_told arguments ≡ once_if turns

-- They are `gen` and a number.
pub record IsVerbNumber (number : ℕ) (words : List (List ℕ)) : Type 0 where
  pub digits : List ℕ
  pub one : IsVerbOne (codes "gen") digits words
  pub spelled : generator_number digits ≡ Some number

-- The words spell a request.
abbrev pub Spells : List (List ℕ) → Request → Type 0
Spells words (Assemble input output) = IsVerbTwo (codes "as") input output words
Spells words (Link plan output) = IsVerbTwo (codes "ld") plan output words
Spells words (Dis input) = IsVerbOne (codes "dis") input words
Spells words (Show input) = IsVerbOne (codes "show") input words
Spells words (Map plan) = IsVerbOne (codes "map") plan words
Spells words (Run plan policy seed turns) = IsVerbRun plan policy seed turns words
Spells words (Generate number) = IsVerbNumber number words

-- The reading of words: the request that they spell, or that they spell none.
abbrev pub IsReading : List (List ℕ) → Option Request → Type 0
IsReading words (Some request) = Spells words request
IsReading words None = (request : Request) → Spells words request → ⊥

-- Words have one reading.
abbrev pub WordsHaveOneReading : Type 0
WordsHaveOneReading = (words : List (List ℕ)) (a b : Option Request) → IsReading words a → IsReading words b → a ≡ b

-- The command stores a file.
abbrev pub is_storing : Option Request → Bool
is_storing None = false
is_storing (Some (Assemble input output)) = true
is_storing (Some (Link plan output)) = true
is_storing (Some (Dis input)) = false
is_storing (Some (Show input)) = false
is_storing (Some (Map plan)) = false
is_storing (Some (Run plan policy seed turns)) = false
is_storing (Some (Generate number)) = false

-- The kind of policies that it asks.
abbrev pub kind_asked : Option Request → Option Kind
kind_asked None = None
kind_asked (Some (Assemble input output)) = None
kind_asked (Some (Link plan output)) = None
kind_asked (Some (Dis input)) = None
kind_asked (Some (Show input)) = None
kind_asked (Some (Map plan)) = None
kind_asked (Some (Run plan policy seed turns)) = Some policy
kind_asked (Some (Generate number)) = Some Round

-- The number of `gen` has at most six digits.
abbrev pub HasSmallNumber : Option Request → Type 0
HasSmallNumber (Some (Generate number)) = number ≤ 999999
HasSmallNumber _ = Unit {0}
