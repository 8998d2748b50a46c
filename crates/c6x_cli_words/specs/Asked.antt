-- What is asked for where words, a kind, a number and the flag are said.
use Rattle.std.specs.Prelude.{ℕ, Bool, ◌&&◌, not, List, [], ◌∷◌, Option, None, Some, codes, if◌then◌else◌, is_some, option_and_then, option_map, unwrap_or}
use Rattle.std.specs.List.{list_all}
use Rattle.std.specs.Str.{bytes_eq}
use Rattle.c6x_ports.specs.declared.kind.Kind.{Kind}
use Rattle.c6x_ports.specs.declared.kind.Kind.TheVariants.{Round}
use Rattle.c6x_cli_words.specs.Arguments.{generator_number, is_positional, kind_named, number_of}
use Rattle.c6x_cli_words.specs.Told.{Told}
use Rattle.c6x_cli_words.specs.declared.request.Request.{Request}
use Rattle.c6x_cli_words.specs.declared.request.Request.TheVariants.{Assemble, Dis, Generate, Link, Map, Run, Show}

-- A verb with two files, with one, and with a file or a number.
abbrev pub with_two : List ℕ → List ℕ → List ℕ → Option Request
with_two verb first second =
    if bytes_eq verb (codes "as") then Some (Assemble first second)
    else (if bytes_eq verb (codes "ld") then Some (Link first second) else None)

abbrev pub with_file : List ℕ → List ℕ → Option Request
with_file verb file =
    if bytes_eq verb (codes "dis") then Some (Dis file)
    else (if bytes_eq verb (codes "show") then Some (Show file)
    else (if bytes_eq verb (codes "map") then Some (Map file) else None))

abbrev pub generated_by : List ℕ → Option Request
generated_by digits = option_map Generate (generator_number digits)

abbrev pub with_one : List ℕ → List ℕ → Option Request
with_one verb word = if bytes_eq verb (codes "gen") then generated_by word else with_file verb word

-- No option is there.
abbrev pub is_bare : Option Kind → Option ℕ → Bool → Bool
is_bare kind number turns = not (is_some kind) && (not (is_some number) && not turns)

unfoldable pub asked : List (List ℕ) → Option Kind → Option ℕ → Bool → Option Request
asked [] kind number turns = None
asked (verb ∷ []) kind number turns = None
asked (verb ∷ file ∷ []) kind number turns =
    if bytes_eq verb (codes "run") then Some (Run file (unwrap_or kind Round) (unwrap_or number 1) turns)
    else (if is_bare kind number turns then with_one verb file else None)
asked (verb ∷ first ∷ second ∷ []) kind number turns = if is_bare kind number turns then with_two verb first second else None
asked (verb ∷ first ∷ second ∷ third ∷ more) kind number turns = None

-- The kind or the number that an option has, if it is there; None where what it has is none.
abbrev pub kind_in : Option (List ℕ) → Option (Option Kind)
kind_in None = Some None
kind_in (Some name) = option_map Some (kind_named name)

abbrev pub seed_in : Option (List ℕ) → Option (Option ℕ)
seed_in None = Some None
seed_in (Some digits) = option_map Some (number_of digits)

-- What is asked for by what is said, where each word may stand for a file.
unfoldable pub request_told : Told → Option Request
request_told said =
    if list_all is_positional said.words
    then option_and_then (λ kind. option_and_then (λ number. asked said.words kind number said.turns) (seed_in said.seed)) (kind_in said.policy)
    else None
