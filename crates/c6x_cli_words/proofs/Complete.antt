-- Clap takes what few arguments spell.
use Rattle.std.proofs.Common.{◌≡◌, ℕ, ◌+◌, ◌≤◌, Bool, true, false, List, [], ◌∷◌, ◌++◌, length, refl, sym, ◌∙◌, ap, subst, inl, inr, arith}
use Rattle.std.specs.Prelude.{Option, None, Some, codes, fold, is_some, nat_eq, not, if◌then◌else◌}
use Rattle.std.specs.List.{list_all}
use Rattle.std.proofs.lemmas.Bool.Decides.{Decides-eqb}
use Rattle.c6x_ports.specs.declared.kind.Kind.{Kind}
use Rattle.c6x_plan.specs.Words.{is_digit, is_number, number_in}
use Rattle.clap.specs.Walk.{Held, Row, Text, Walk, has_row, pushed, reacted, settled, walked}
use Rattle.clap.specs.Simple.{filled}
use Rattle.clap.specs.Faults.{repeat_fault, settle_fault, turn_fault, use_fault, walk_fault}
use Rattle.clap.specs.Kinds.{or_else}
use Rattle.c6x_cli_words.specs.Arguments.{Argument, plan_word, policy_words, seed_words, turns_word, AreSpelled, is_positional, kind_named, kinds_of, number_of, once_if, seeds_of, times_told}
use Rattle.c6x_cli_words.specs.Told.{begins_plain, kinds_said, numbers_said, Leads, Told}
use Rattle.c6x_cli_words.specs.Found.{flag_row, row_at, value_row}
use Rattle.c6x_cli_words.specs.Grammar.{turns_rule}
use Rattle.c6x_cli_words.proofs.Walks.{free_walk, open_walk, rules, shape}
use Rattle.c6x_cli_words.proofs.Walks as step
use Rattle.c6x_cli_words.proofs.Rows.{has_found, split}
use Rattle.c6x_cli_words.proofs.Rows as row
use Rattle.c6x_cli_words.proofs.Shown.{Passes, Rows, rows_word, rows_policy, rows_seed, rows_turns}
use Rattle.c6x_cli_words.proofs.Sound.{both, leads_policy, leads_seed, leads_turns, leads_word, stays}

-- what stands for a file, names a kind or spells a number begins with no dash
pub file_plain : (word : Text) → is_positional word ≡ true → begins_plain word ≡ true
unfolding is_positional
file_plain [] is = refl
file_plain (x ∷ xs) is = (both _ _ (both _ _ is).0).1

no_dash_kind : (xs : Text) → kind_named (45 ∷ xs) ≡ None
unfolding kind_named
no_dash_kind xs = refl

holds_if : {A : Type 0} (test : Bool) (value found : A) → (if test then Some value else None) ≡ Some found → test ≡ true
holds_if true value found is = refl
holds_if false value found is = absurd (cc)

pub digits_in : (least most : ℕ) (word : Text) (number : ℕ) → number_in least most word ≡ Some number → list_all is_digit word ≡ true
unfolding number_in is_number
digits_in least most word number is =
    let within = holds_if _ _ number is in
    (both _ _ (both _ _ (both _ _ within).0).0).1

pub digits_of : (word : Text) (number : ℕ) → number_of word ≡ Some number → list_all is_digit word ≡ true
unfolding number_of
digits_of word number is = digits_in 0 4294967295 word number is

plain_unless : (x : ℕ) → (x ≡ 45 → ⊥) → not (nat_eq x 45) ≡ true
plain_unless x never = elim (split (nat_eq x 45)) [
  | inl is ↦ absurd (never ((Decides-eqb x 45).0 is))
  | inr is_not ↦ rw (is_not) refl
]

pub kind_plain : (word : Text) (kind : Kind) → kind_named word ≡ Some kind → begins_plain word ≡ true
kind_plain [] kind is = refl
kind_plain (x ∷ xs) kind is = plain_unless x (λ dash. let never : None ≡ Some kind = sym (no_dash_kind xs) ∙ (ap (λ y. kind_named (y ∷ xs)) (sym dash) ∙ is) in absurd (cc))

pub number_plain : (word : Text) (number : ℕ) → number_of word ≡ Some number → begins_plain word ≡ true
number_plain [] number is = refl
number_plain (x ∷ xs) number is = plain_unless x (λ dash.
    let digits : list_all is_digit (x ∷ xs) ≡ true = digits_of (x ∷ xs) number is in
    let never : list_all is_digit (45 ∷ xs) ≡ true = subst (λ y. list_all is_digit (y ∷ xs) ≡ true) dash digits in absurd (cc))

-- no more than one of each, with what was said before
pub record HasRoom (said : Told) (arguments : List Argument) : Type 0 where
  pub kinds : length (kinds_said said.policy) + length (kinds_of arguments) ≤ 1
  pub seeds : length (numbers_said said.seed) + length (seeds_of arguments) ≤ 1
  pub turns : once_if said.turns + times_told arguments ≤ 1

pub record Takes (w : Walk) (words : List Text) (said : Told) (arguments : List Argument) : Type 0 where
  pub passes : Passes w words
  pub now : Told
  pub shows : Rows (settled rules (fold (walked rules []) w words).held).rows now
  pub leads : Leads said arguments now

turn_passes : (w v : Walk) (word : Text) (rest : List Text) → turn_fault shape [] w word ≡ [] → walked rules [] w word ≡ v → Passes v rest → Passes w (word ∷ rest)
unfolding walk_fault
turn_passes w v word rest turn after passes = record {
  walks = ap (λ ks. or_else ks (walk_fault shape [] (walked rules [] w word) rest)) turn ∙ subst (λ u. walk_fault shape [] u rest ≡ []) (sym after) passes.walks;
  ends = subst (λ u. settle_fault rules false (fold (walked rules []) u rest).held ≡ []) (sym after) passes.ends;
}

shows_from : (w v : Walk) (word : Text) (rest : List Text) (now : Told) → walked rules [] w word ≡ v → Rows (settled rules (fold (walked rules []) v rest).held).rows now → Rows (settled rules (fold (walked rules []) w (word ∷ rest)).held).rows now
shows_from w v word rest now after shows = subst (λ u. Rows (settled rules (fold (walked rules []) u rest).held).rows now) (sym after) shows

-- a value that was not there
none_before : (value : Option Text) (id : Text) (rows : List Row) → value ≡ None → row_at id rows ≡ value_row id value → has_row id rows ≡ false
none_before value id rows free is = has_found id rows ∙ ap is_some (is ∙ ap (value_row id) free)

no_flag_before : (told : Bool) (rows : List Row) → told ≡ false → row_at (codes "turns") rows ≡ flag_row told → has_row (codes "turns") rows ≡ false
no_flag_before told rows free is = has_found (codes "turns") rows ∙ ap is_some (is ∙ ap flag_row free)

fresh : (id : Text) (rows : List Row) → has_row id rows ≡ false → repeat_fault false id rows ≡ []
fresh id rows none = rw (none) refl

policy_free : (o : Option Text) (kind : Kind) (kinds : List Kind) → length (kinds_said o) + length (kind ∷ kinds) ≤ 1 → o ≡ None
policy_free None kind kinds room = refl
policy_free (Some v) kind kinds room = absurd (omega (arith, room))

seed_free : (o : Option Text) (number : ℕ) (numbers : List ℕ) → length (numbers_said o) + length (number ∷ numbers) ≤ 1 → o ≡ None
seed_free None number numbers room = refl
seed_free (Some v) number numbers room = absurd (omega (arith, room))

room_kinds : (o : Option Text) (name : Text) (kind : Kind) (kinds : List Kind) → length (kinds_said o) + length (kind ∷ kinds) ≤ 1 → length (kinds_said (Some name)) + length kinds ≤ 1
room_kinds o name kind kinds room = omega (arith, room)

room_seeds : (o : Option Text) (digits : Text) (number : ℕ) (numbers : List ℕ) → length (numbers_said o) + length (number ∷ numbers) ≤ 1 → length (numbers_said (Some digits)) + length numbers ≤ 1
room_seeds o digits number numbers room = omega (arith, room)

turns_free : (b : Bool) (n : ℕ) → once_if b + (1 + n) ≤ 1 → b ≡ false
turns_free false n room = refl
turns_free true n room = absurd (omega (arith, room))

no_words_left : (later : Bool) (h : Held) → settle_fault rules false h ≡ [] → Passes (free_walk later h) []
unfolding walk_fault
no_words_left later h settles = record { walks = refl; ends = settles }

room_turns : (b : Bool) (n : ℕ) → once_if b + (1 + n) ≤ 1 → once_if true + n ≤ 1
room_turns b n room = omega (arith, room)

-- Few arguments are taken, from what was said before.
pub complete : (arguments : List Argument) (words : List Text) (later : Bool) (h : Held) (said : Told) → AreSpelled arguments words → settle_fault rules false h ≡ [] → Rows (settled rules h).rows said → HasRoom said arguments → Takes (free_walk later h) words said arguments
complete [] words later h said spelled settles rows room = subst (λ ws. Takes (free_walk later h) ws said []) (sym spelled) record {
  passes = no_words_left later h settles;
  now = said;
  shows = rows;
  leads = stays said;
}
complete (plan_word name ∷ more) words later h said (rest, spelled) settles rows room =
    let plain = file_plain name spelled.0.1 in
    let after = step.plain_walked later h name plain in
    let takes = complete more rest true (pushed (codes "words") name (settled rules h)) (record said { words = said.words ++ name ∷ [] }) spelled.1 (row.word_settles h name) (rows_word (settled rules h).rows said name rows) (record { kinds = room.kinds; seeds = room.seeds; turns = room.turns }) in
    subst (λ ws. Takes (free_walk later h) ws said (plan_word name ∷ more)) (sym spelled.0.0) record {
      passes = turn_passes _ _ name rest (step.plain_turn later h name plain ∙ settles) after takes.passes;
      now = takes.now;
      shows = shows_from _ _ name rest takes.now after takes.shows;
      leads = leads_word said takes.now name more takes.leads;
    }
complete (policy_words kind ∷ more) words later h said (rest, ((name, named), spelled)) settles rows room =
    let free = policy_free said.policy kind (kinds_of more) room.kinds in
    let none = none_before said.policy (codes "policy") (settled rules h).rows free rows.policy in
    let plain = kind_plain name kind named.1 in
    let opens = step.policy_walked later h in
    let after = step.policy_value_walked h name plain in
    let takes = complete more rest false (pushed (codes "policy") name (settled rules h)) (record said { policy = Some name }) spelled (row.policy_settles h name ∙ fresh (codes "policy") (settled rules h).rows none) (rows_policy (settled rules h).rows said name rows none free) (record { kinds = room_kinds said.policy name kind (kinds_of more) room.kinds; seeds = room.seeds; turns = room.turns }) in
    subst (λ ws. Takes (free_walk later h) ws said (policy_words kind ∷ more)) (sym named.0) record {
      passes = turn_passes _ _ (codes "--policy") (name ∷ rest) (step.policy_turn later h ∙ settles) opens (turn_passes _ _ name rest (step.value_turn (codes "policy") h name plain) after takes.passes);
      now = takes.now;
      shows = shows_from _ _ (codes "--policy") (name ∷ rest) takes.now opens (shows_from _ _ name rest takes.now after takes.shows);
      leads = leads_policy said takes.now name kind more free named.1 takes.leads;
    }
complete (seed_words number ∷ more) words later h said (rest, ((digits, spells), spelled)) settles rows room =
    let free = seed_free said.seed number (seeds_of more) room.seeds in
    let none = none_before said.seed (codes "seed") (settled rules h).rows free rows.seed in
    let plain = number_plain digits number spells.1 in
    let opens = step.seed_walked later h in
    let after = step.seed_value_walked h digits plain in
    let takes = complete more rest false (pushed (codes "seed") digits (settled rules h)) (record said { seed = Some digits }) spelled (row.seed_settles h digits ∙ fresh (codes "seed") (settled rules h).rows none) (rows_seed (settled rules h).rows said digits rows none free) (record { kinds = room.kinds; seeds = room_seeds said.seed digits number (seeds_of more) room.seeds; turns = room.turns }) in
    subst (λ ws. Takes (free_walk later h) ws said (seed_words number ∷ more)) (sym spells.0) record {
      passes = turn_passes _ _ (codes "--seed") (digits ∷ rest) (step.seed_turn later h ∙ settles) opens (turn_passes _ _ digits rest (step.value_turn (codes "seed") h digits plain) after takes.passes);
      now = takes.now;
      shows = shows_from _ _ (codes "--seed") (digits ∷ rest) takes.now opens (shows_from _ _ digits rest takes.now after takes.shows);
      leads = leads_seed said takes.now digits number more free spells.1 takes.leads;
    }
complete (turns_word ∷ more) words later h said (rest, spelled) settles rows room =
    let free = turns_free said.turns (times_told more) room.turns in
    let none = no_flag_before said.turns (settled rules h).rows free rows.turns in
    let after = step.turns_walked later h in
    let takes = complete more rest false (reacted rules (filled turns_rule) [] h) (record said { turns = true }) spelled.1 (row.turns_settles h) (rows_turns (settled rules h).rows said rows none free) (record { kinds = room.kinds; seeds = room.seeds; turns = room_turns said.turns (times_told more) room.turns }) in
    subst (λ ws. Takes (free_walk later h) ws said (turns_word ∷ more)) (sym spelled.0) record {
      passes = turn_passes _ _ (codes "--turns") rest (step.turns_turn later h ∙ (ap (λ ks. or_else ks (use_fault false (filled turns_rule) [] (settled rules h).rows)) settles ∙ (row.turns_fault (settled rules h).rows ∙ fresh (codes "turns") (settled rules h).rows none))) after takes.passes;
      now = takes.now;
      shows = shows_from _ _ (codes "--turns") rest takes.now after takes.shows;
      leads = leads_turns said takes.now more free takes.leads;
    }
