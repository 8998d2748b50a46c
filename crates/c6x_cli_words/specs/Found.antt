-- What clap finds in the words, as it shows in what it gives out.
use Rattle.std.specs.Prelude.{◌≡◌, Bool, true, false, List, [], ◌∷◌, Option, None, Some, codes, find, if◌then◌else◌}
use Rattle.std.specs.Str.{bytes_eq}
use Rattle.clap.specs.Words.{Row, Text, matches_of, one_of}
use Rattle.clap.specs.declared.builder.value_parser.Reading.TheVariants.{AsWritten}
use Rattle.clap.specs.declared.parser.matches.ValueSource.{ValueSource}
use Rattle.clap.specs.declared.parser.matches.ValueSource.TheVariants.{CommandLine}
use Rattle.c6x_cli_words.specs.Grammar.{app}
use Rattle.c6x_cli_words.specs.Told.{IsSaid, Told}

-- The row of an id.
abbrev pub row_at : Text → List Row → Option Row
row_at id rows = find (λ r. bytes_eq r.id id) rows

-- A row with these values.
abbrev pub row_by : ValueSource → Text → List Text → Row
row_by source id values = record { id = id; values = values; count = None; source = Some source; reading = AsWritten }

abbrev pub new_row : Text → List Text → Row
new_row id values = row_by CommandLine id values

-- The row of words, of an option and of the flag.
abbrev pub words_row : List Text → Option Row
words_row [] = None
words_row (w ∷ ws) = Some (new_row (codes "words") (w ∷ ws))

abbrev pub value_row : Text → Option Text → Option Row
value_row id None = None
value_row id (Some value) = Some (new_row id (value ∷ []))

abbrev pub flag_row : Bool → Option Row
flag_row true = Some (new_row (codes "turns") (codes "true" ∷ []))
flag_row false = None

-- What the rows at the end show.
pub record Shows (rows : List Row) (said : Told) : Type 0 where
  pub words : row_at (codes "words") rows ≡ words_row said.words
  pub policy : row_at (codes "policy") rows ≡ value_row (codes "policy") said.policy
  pub seed : row_at (codes "seed") rows ≡ value_row (codes "seed") said.seed
  pub turns : one_of (codes "turns") rows ≡ Some (if said.turns then codes "true" else codes "false")

-- What a parse without a fault found is what the words say.
pub record Found (words : List Text) : Type 0 where
  pub said : Told
  pub shows : Shows (matches_of app words) said
  pub is : IsSaid words said
