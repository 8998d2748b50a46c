-- The words behind `run` (this project's own): arguments of one or two words, in any order.
use Rattle.std.specs.Prelude.{◌≡◌, ℕ, ◌+◌, Bool, ◌&&◌, not, IsTrue, List, [], ◌∷◌, length, slice_index, nat_eq, Option, None, Some, codes, if◌then◌else◌}
use Rattle.std.specs.Str.{bytes_eq, is_utf8}
use Rattle.c6x_ports.specs.declared.kind.Kind.{Kind}
use Rattle.c6x_ports.specs.declared.kind.Kind.TheVariants.{Round, Last, Drawn, Other}
use Rattle.c6x_plan.specs.Words.{number_in}

-- A word that may stand for a file: it is UTF-8, is not empty and does not begin with a dash.
unfoldable pub is_positional : List ℕ → Bool
is_positional word = not (nat_eq (length word) 0) && not (nat_eq (slice_index word 0) 45) && is_utf8 word

-- The kind of policies that a word names.
unfoldable pub kind_named : List ℕ → Option Kind
kind_named word =
    if bytes_eq word (codes "round") then Some Round
    else (if bytes_eq word (codes "last") then Some Last
    else (if bytes_eq word (codes "drawn") then Some Drawn
    else (if bytes_eq word (codes "other") then Some Other else None)))

-- The number that a word of one to ten decimal digits spells.
unfoldable pub number_of : List ℕ → Option ℕ
number_of word = number_in 0 4294967295 word

-- The same of a number that `gen` takes.
unfoldable pub generator_number : List ℕ → Option ℕ
generator_number word = number_in 0 999999 word

-- What one or two words behind `run` say: the plan's file; behind `--policy` the kind of the policy; behind `--seed` the
-- number that it begins with; that turns are told.
pub data Argument : Type 0 where
  plan_word : List ℕ → Argument
  policy_words : Kind → Argument
  seed_words : ℕ → Argument
  turns_word : Argument

-- Words begin with an argument, and these are behind it.
abbrev pub Begins : Argument → List (List ℕ) → List (List ℕ) → Type 0
Begins (plan_word name) words rest = (words ≡ name ∷ rest) × IsTrue (is_positional name)
Begins (policy_words kind) words rest = (name : List ℕ) × ((words ≡ codes "--policy" ∷ name ∷ rest) × (kind_named name ≡ Some kind))
Begins turns_word words rest = words ≡ codes "--turns" ∷ rest
Begins (seed_words number) words rest = (digits : List ℕ) × ((words ≡ codes "--seed" ∷ digits ∷ rest) × (number_of digits ≡ Some number))

-- Words are these arguments, one behind the other.
abbrev pub AreSpelled : List Argument → List (List ℕ) → Type 0
AreSpelled [] words = words ≡ []
AreSpelled (argument ∷ later) words = (rest : List (List ℕ)) × (Begins argument words rest × AreSpelled later rest)

-- The plans, the kinds and the seeds among arguments, and how often they say that turns are told.
abbrev pub plans_of : List Argument → List (List ℕ)
plans_of [] = []
plans_of (plan_word name ∷ later) = name ∷ plans_of later
plans_of (policy_words kind ∷ later) = plans_of later
plans_of (seed_words number ∷ later) = plans_of later
plans_of (turns_word ∷ later) = plans_of later

abbrev pub kinds_of : List Argument → List Kind
kinds_of [] = []
kinds_of (plan_word name ∷ later) = kinds_of later
kinds_of (policy_words kind ∷ later) = kind ∷ kinds_of later
kinds_of (seed_words number ∷ later) = kinds_of later
kinds_of (turns_word ∷ later) = kinds_of later

abbrev pub seeds_of : List Argument → List ℕ
seeds_of [] = []
seeds_of (plan_word name ∷ later) = seeds_of later
seeds_of (policy_words kind ∷ later) = seeds_of later
seeds_of (seed_words number ∷ later) = number ∷ seeds_of later
seeds_of (turns_word ∷ later) = seeds_of later

abbrev pub times_told : List Argument → ℕ
times_told [] = 0
times_told (plan_word name ∷ later) = times_told later
times_told (policy_words kind ∷ later) = times_told later
times_told (seed_words number ∷ later) = times_told later
times_told (turns_word ∷ later) = 1 + times_told later

-- Once where turns are told, and else never.
abbrev pub once_if : Bool → ℕ
once_if told = if told then 1 else 0
