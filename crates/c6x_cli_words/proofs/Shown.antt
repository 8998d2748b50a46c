-- What rows show of what is said, and walks that have no fault.
use Rattle.std.proofs.Common.{◌≡◌, Bool, true, false, ◌&&◌, List, [], ◌∷◌, ◌++◌, refl, sym, ◌∙◌, ap}
use Rattle.std.specs.Prelude.{Option, None, Some, codes, fold, is_some, if◌then◌else◌}
use Rattle.clap.specs.Walk.{Row, Text, Walk, has_row, walked, without}
use Rattle.clap.specs.Faults.{repeat_fault, settle_fault, turn_fault, walk_fault}
use Rattle.clap.specs.Kinds.{Kinds, or_else}
use Rattle.clap.specs.declared.error.kind.ErrorKind.TheVariants.{ArgumentConflict}
use Rattle.c6x_cli_words.specs.Told.{Told}
use Rattle.c6x_cli_words.specs.Found.{flag_row, row_at, value_row, words_row}
use Rattle.c6x_cli_words.proofs.Walks.{rules, shape}
use Rattle.c6x_cli_words.proofs.Rows.{has_found, put, put_other, put_same, without_none}
use Rattle.c6x_cli_words.proofs.Rows as row

-- The rows so far show what is said.
pub record Rows (rows : List Row) (said : Told) : Type 0 where
  pub words : row_at (codes "words") rows ≡ words_row said.words
  pub policy : row_at (codes "policy") rows ≡ value_row (codes "policy") said.policy
  pub seed : row_at (codes "seed") rows ≡ value_row (codes "seed") said.seed
  pub turns : row_at (codes "turns") rows ≡ flag_row said.turns

pub no_rows : Rows [] (record { words = []; policy = None; seed = None; turns = false })
no_rows = record { words = refl; policy = refl; seed = refl; turns = refl }

with_word : (words : List Text) (word : Text) → Some (row.longer (codes "words") (word ∷ []) (words_row words)) ≡ words_row (words ++ word ∷ [])
with_word [] word = refl
with_word (w ∷ ws) word = refl

pub rows_word : (rows : List Row) (said : Told) (word : Text) → Rows rows said → Rows (put (codes "words") (word ∷ []) rows) (record said { words = said.words ++ word ∷ [] })
rows_word rows said word have = record {
  words = put_same (codes "words") (word ∷ []) rows refl ∙ (ap (λ r. Some (row.longer (codes "words") (word ∷ []) r)) have.words ∙ with_word said.words word);
  policy = put_other (codes "words") (codes "policy") (word ∷ []) rows refl ∙ have.policy;
  seed = put_other (codes "words") (codes "seed") (word ∷ []) rows refl ∙ have.seed;
  turns = put_other (codes "words") (codes "turns") (word ∷ []) rows refl ∙ have.turns;
}

-- an option that was not there
pub none_there : (id : Text) (value : Option Text) (rows : List Row) → row_at id rows ≡ value_row id value → has_row id rows ≡ false → value ≡ None
none_there id None rows is none = refl
none_there id (Some v) rows is none =
    let never : true ≡ false = sym (ap is_some is) ∙ (sym (has_found id rows) ∙ none) in absurd (cc)

pub no_flag_there : (told : Bool) (rows : List Row) → row_at (codes "turns") rows ≡ flag_row told → has_row (codes "turns") rows ≡ false → told ≡ false
no_flag_there false rows is none = refl
no_flag_there true rows is none =
    let never : true ≡ false = sym (ap is_some is) ∙ (sym (has_found (codes "turns") rows) ∙ none) in absurd (cc)

pub rows_policy : (rows : List Row) (said : Told) (name : Text) → Rows rows said → has_row (codes "policy") rows ≡ false → said.policy ≡ None → Rows (put (codes "policy") (name ∷ []) (without (codes "policy") rows)) (record said { policy = Some name })
rows_policy rows said name have none free = rw (without_none (codes "policy") rows none) record {
  words = put_other (codes "policy") (codes "words") (name ∷ []) rows refl ∙ have.words;
  policy = put_same (codes "policy") (name ∷ []) rows refl ∙ ap (λ r. Some (row.longer (codes "policy") (name ∷ []) r)) (have.policy ∙ ap (value_row (codes "policy")) free);
  seed = put_other (codes "policy") (codes "seed") (name ∷ []) rows refl ∙ have.seed;
  turns = put_other (codes "policy") (codes "turns") (name ∷ []) rows refl ∙ have.turns;
}

pub rows_seed : (rows : List Row) (said : Told) (digits : Text) → Rows rows said → has_row (codes "seed") rows ≡ false → said.seed ≡ None → Rows (put (codes "seed") (digits ∷ []) (without (codes "seed") rows)) (record said { seed = Some digits })
rows_seed rows said digits have none free = rw (without_none (codes "seed") rows none) record {
  words = put_other (codes "seed") (codes "words") (digits ∷ []) rows refl ∙ have.words;
  policy = put_other (codes "seed") (codes "policy") (digits ∷ []) rows refl ∙ have.policy;
  seed = put_same (codes "seed") (digits ∷ []) rows refl ∙ ap (λ r. Some (row.longer (codes "seed") (digits ∷ []) r)) (have.seed ∙ ap (value_row (codes "seed")) free);
  turns = put_other (codes "seed") (codes "turns") (digits ∷ []) rows refl ∙ have.turns;
}

pub rows_turns : (rows : List Row) (said : Told) → Rows rows said → has_row (codes "turns") rows ≡ false → said.turns ≡ false → Rows (put (codes "turns") (codes "true" ∷ []) (without (codes "turns") rows)) (record said { turns = true })
rows_turns rows said have none free = rw (without_none (codes "turns") rows none) record {
  words = put_other (codes "turns") (codes "words") (codes "true" ∷ []) rows refl ∙ have.words;
  policy = put_other (codes "turns") (codes "policy") (codes "true" ∷ []) rows refl ∙ have.policy;
  seed = put_other (codes "turns") (codes "seed") (codes "true" ∷ []) rows refl ∙ have.seed;
  turns = put_same (codes "turns") (codes "true" ∷ []) rows refl ∙ ap (λ r. Some (row.longer (codes "turns") (codes "true" ∷ []) r)) (have.turns ∙ ap flag_row free);
}

-- no walk over words has a fault, nor what it holds at its end
pub record Passes (w : Walk) (words : List Text) : Type 0 where
  pub walks : walk_fault shape [] w words ≡ []
  pub ends : settle_fault rules false (fold (walked rules []) w words).held ≡ []

pub both_none : (a b : Kinds) → or_else a b ≡ [] → (a ≡ []) × (b ≡ [])
both_none [] b is = (refl, is)
both_none (k ∷ ks) b is = absurd (cc)

pub first_turn : (w : Walk) (word : Text) (rest : List Text) → Passes w (word ∷ rest) → (turn_fault shape [] w word ≡ []) × Passes (walked rules [] w word) rest
unfolding walk_fault
first_turn w word rest passes =
    let parts = both_none (turn_fault shape [] w word) (walk_fault shape [] (walked rules [] w word) rest) passes.walks in
    (parts.0, record { walks = parts.1; ends = passes.ends })

by_fault : (has : Bool) → (if has && true then ArgumentConflict ∷ [] else []) ≡ [] → has ≡ false
by_fault true is = absurd (cc)
by_fault false is = refl

pub no_repeat : (id : Text) (rows : List Row) → repeat_fault false id rows ≡ [] → has_row id rows ≡ false
no_repeat id rows is = by_fault (has_row id rows) is
