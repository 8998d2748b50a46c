-- What clap has found for an argument so far: its row among the rows.
use Rattle.std.proofs.Common.{◌≡◌, ◌⊎◌, Bool, true, false, ◌||◌, List, [], ◌∷◌, ◌++◌, refl, ◌∙◌, ap, inl, inr}
use Rattle.std.specs.Prelude.{Option, None, Some, codes, is_some}
use Rattle.std.specs.Str.{bytes_eq}
use Rattle.std.proofs.lemmas.Slice.Eq.{bytes_eq-Decides}
use Rattle.clap.specs.Walk.{Held, Row, Text, pushed, reacted, settled, stronger, has_row, with_values, without}
use Rattle.clap.specs.Simple.{filled}
use Rattle.clap.specs.Faults.{repeat_fault, settle_fault, turn_fault, use_fault}
use Rattle.clap.specs.Kinds.{Kinds}
use Rattle.clap.specs.declared.builder.value_parser.Reading.TheVariants.{AsWritten}
use Rattle.clap.specs.declared.error.kind.ErrorKind.TheVariants.{InvalidValue}
use Rattle.clap.specs.declared.parser.matches.ValueSource.{ValueSource}
use Rattle.clap.specs.declared.parser.matches.ValueSource.TheVariants.{CommandLine}
use Rattle.c6x_cli_words.specs.Found.{row_at, row_by}
use Rattle.c6x_cli_words.specs.Grammar.{turns_rule}
use Rattle.c6x_cli_words.proofs.Walks.{open_walk, or_none, rules, shape}

-- the rows with values for an id put behind those that it has
abbrev pub put_by : ValueSource → Text → List Text → List Row → List Row
put_by source id values rows = with_values id AsWritten source values rows

abbrev pub put : Text → List Text → List Row → List Row
put id values rows = put_by CommandLine id values rows

abbrev pub longer_by : ValueSource → Text → List Text → Option Row → Row
longer_by source id values None = row_by source id values
longer_by source id values (Some r) = record r { values = r.values ++ values; source = Some (stronger r.source source) }

abbrev pub longer : Text → List Text → Option Row → Row
longer id values r = longer_by CommandLine id values r

pub split : (b : Bool) → (b ≡ true) ⊎ (b ≡ false)
split true = inl refl
split false = inr refl

same_text : (a b : Text) → bytes_eq a b ≡ true → a ≡ b
same_text a b is = (bytes_eq-Decides a b).0 is

pub put_same_by : (source : ValueSource) (id : Text) (values : List Text) (rows : List Row) → bytes_eq id id ≡ true → row_at id (put_by source id values rows) ≡ Some (longer_by source id values (row_at id rows))
put_same_by source id values [] same = rw (same) refl
put_same_by source id values (r ∷ rs) same = elim (split (bytes_eq r.id id)) [
  | inl is ↦ rw (is, is) refl
  | inr is_not ↦ rw (is_not, is_not) (put_same_by source id values rs same)
]

pub put_other_by : (source : ValueSource) (id other : Text) (values : List Text) (rows : List Row) → bytes_eq id other ≡ false → row_at other (put_by source id values rows) ≡ row_at other rows
put_other_by source id other values [] differ = rw (differ) refl
put_other_by source id other values (r ∷ rs) differ = elim (split (bytes_eq r.id id)) [
  | inl is ↦ (let apart : bytes_eq r.id other ≡ false = ap (λ t. bytes_eq t other) (same_text r.id id is) ∙ differ in rw (is, apart) refl)
  | inr is_not ↦ elim (split (bytes_eq r.id other)) [
    | inl found ↦ rw (is_not, found) refl
    | inr apart ↦ rw (is_not, apart) (put_other_by source id other values rs differ)
  ]
]

pub put_same : (id : Text) (values : List Text) (rows : List Row) → bytes_eq id id ≡ true → row_at id (put id values rows) ≡ Some (longer id values (row_at id rows))
put_same id values rows same = put_same_by CommandLine id values rows same

pub put_other : (id other : Text) (values : List Text) (rows : List Row) → bytes_eq id other ≡ false → row_at other (put id values rows) ≡ row_at other rows
put_other id other values rows differ = put_other_by CommandLine id other values rows differ

or_false : (a b : Bool) → (a || b) ≡ false → (a ≡ false) × (b ≡ false)
or_false true b is = absurd (cc)
or_false false b is = (refl, is)

pub without_none : (id : Text) (rows : List Row) → has_row id rows ≡ false → without id rows ≡ rows
without_none id [] none = refl
without_none id (r ∷ rs) none =
    let parts = or_false (bytes_eq r.id id) (has_row id rs) none in
    rw (parts.0) (ap (λ more. r ∷ more) (without_none id rs parts.1))

pub has_found : (id : Text) (rows : List Row) → has_row id rows ≡ is_some (row_at id rows)
has_found id [] = refl
has_found id (r ∷ rs) = elim (split (bytes_eq r.id id)) [
  | inl is ↦ rw (is) refl
  | inr is_not ↦ rw (is_not) (has_found id rs)
]

-- the faults of what is held, and the rows once it is settled
pub word_settles : (h : Held) (w : Text) → settle_fault rules false (pushed (codes "words") w (settled rules h)) ≡ []
word_settles h w = refl

pub word_rows : (h : Held) (w : Text) → (settled rules (pushed (codes "words") w (settled rules h))).rows ≡ put (codes "words") (w ∷ []) (settled rules h).rows
word_rows h w = refl

pub policy_settles : (h : Held) (w : Text) → settle_fault rules false (pushed (codes "policy") w (settled rules h)) ≡ repeat_fault false (codes "policy") (settled rules h).rows
policy_settles h w = or_none _

pub policy_rows : (h : Held) (w : Text) → (settled rules (pushed (codes "policy") w (settled rules h))).rows ≡ put (codes "policy") (w ∷ []) (without (codes "policy") (settled rules h).rows)
policy_rows h w = refl

pub seed_settles : (h : Held) (w : Text) → settle_fault rules false (pushed (codes "seed") w (settled rules h)) ≡ repeat_fault false (codes "seed") (settled rules h).rows
seed_settles h w = or_none _

pub seed_rows : (h : Held) (w : Text) → (settled rules (pushed (codes "seed") w (settled rules h))).rows ≡ put (codes "seed") (w ∷ []) (without (codes "seed") (settled rules h).rows)
seed_rows h w = refl

pub turns_fault : (rows : List Row) → use_fault false (filled turns_rule) [] rows ≡ repeat_fault false (codes "turns") rows
turns_fault rows = or_none _

pub turns_settles : (h : Held) → settle_fault rules false (reacted rules (filled turns_rule) [] h) ≡ []
turns_settles h = refl

pub turns_rows : (h : Held) → (settled rules (reacted rules (filled turns_rule) [] h)).rows ≡ put (codes "turns") (codes "true" ∷ []) (without (codes "turns") (settled rules h).rows)
turns_rows h = refl

-- an option that still waits for its value
abbrev pub waited : Kinds
waited = InvalidValue ∷ []

pub policy_waits : (h : Held) → settle_fault rules false (open_walk (codes "policy") h).held ≡ waited
policy_waits h = refl

pub seed_waits : (h : Held) → settle_fault rules false (open_walk (codes "seed") h).held ≡ waited
seed_waits h = refl

pub policy_policy : (h : Held) → turn_fault shape [] (open_walk (codes "policy") h) (codes "--policy") ≡ waited
policy_policy h = refl

pub policy_seed : (h : Held) → turn_fault shape [] (open_walk (codes "policy") h) (codes "--seed") ≡ waited
policy_seed h = refl

pub policy_turns : (h : Held) → turn_fault shape [] (open_walk (codes "policy") h) (codes "--turns") ≡ waited
policy_turns h = refl

pub seed_policy : (h : Held) → turn_fault shape [] (open_walk (codes "seed") h) (codes "--policy") ≡ waited
seed_policy h = refl

pub seed_seed : (h : Held) → turn_fault shape [] (open_walk (codes "seed") h) (codes "--seed") ≡ waited
seed_seed h = refl

pub seed_turns : (h : Held) → turn_fault shape [] (open_walk (codes "seed") h) (codes "--turns") ≡ waited
seed_turns h = refl
