-- How clap reads the words of this command, one word at a time.
use Rattle.std.proofs.Common.{◌≡◌, Bool, true, false, ◌&&◌, List, [], ◌∷◌, refl}
use Rattle.std.specs.Prelude.{None, Some, codes, nat_eq, not, if◌then◌else◌}
use Rattle.c6x_cli_words.specs.Grammar.{app, turns_rule, words_rule}
use Rattle.c6x_cli_words.specs.Told.{begins_plain}
use Rattle.clap.specs.Walk.{Held, Rule, Text, Walk, idle, is_pending, option, positional, pushed, reacted, settled, walked}
use Rattle.clap.specs.Simple.{Shape, built, filled, with_index}
use Rattle.clap.specs.Faults.{settle_fault, turn_fault, use_fault}
use Rattle.clap.specs.Kinds.{Kinds, or_else}

abbrev pub shape : Shape
shape = (built app).top

abbrev pub rules : List Rule
rules = shape.rules

-- the walk where no option waits for its value
abbrev pub free_walk : Bool → Held → Walk
free_walk later h = record { held = h; waiting = if later then positional else idle; position = 1; is_trailing = false; stopped = None }

-- the walk where the option with this id waits for it
abbrev pub open_walk : Text → Held → Walk
open_walk id h = record { held = record (settled rules h) { pending = Some (id, []) }; waiting = option id; position = 1; is_trailing = false; stopped = None }

not_true : (b : Bool) → not b ≡ true → b ≡ false
not_true true is = absurd (cc)
not_true false is = refl

and_false : (b : Bool) → (b && false) ≡ false
and_false true = refl
and_false false = refl

pub plain_turn : (later : Bool) (h : Held) (w : Text) → begins_plain w ≡ true → turn_fault shape [] (free_walk later h) w ≡ settle_fault rules false h
plain_turn true h [] plain = rw (and_false (is_pending (with_index 1 (filled words_rule)) h.pending)) refl
plain_turn false h [] plain = rw (and_false (is_pending (with_index 1 (filled words_rule)) h.pending)) refl
plain_turn true h (x ∷ xs) plain = rw (not_true (nat_eq x 45) plain, not_true (nat_eq x 45) plain, and_false (is_pending (with_index 1 (filled words_rule)) h.pending)) refl
plain_turn false h (x ∷ xs) plain = rw (not_true (nat_eq x 45) plain, not_true (nat_eq x 45) plain, and_false (is_pending (with_index 1 (filled words_rule)) h.pending)) refl

pub plain_walked : (later : Bool) (h : Held) (w : Text) → begins_plain w ≡ true → walked rules [] (free_walk later h) w ≡ free_walk true (pushed (codes "words") w (settled rules h))
unfolding walked
plain_walked true h [] plain = rw (and_false (is_pending (with_index 1 (filled words_rule)) h.pending)) refl
plain_walked false h [] plain = rw (and_false (is_pending (with_index 1 (filled words_rule)) h.pending)) refl
plain_walked true h (x ∷ xs) plain = rw (not_true (nat_eq x 45) plain, not_true (nat_eq x 45) plain, and_false (is_pending (with_index 1 (filled words_rule)) h.pending)) refl
plain_walked false h (x ∷ xs) plain = rw (not_true (nat_eq x 45) plain, not_true (nat_eq x 45) plain, and_false (is_pending (with_index 1 (filled words_rule)) h.pending)) refl

pub or_none : (ks : Kinds) → or_else ks [] ≡ ks
or_none [] = refl
or_none (k ∷ ks) = refl

pub policy_turn : (later : Bool) (h : Held) → turn_fault shape [] (free_walk later h) (codes "--policy") ≡ settle_fault rules false h
policy_turn true h = or_none (settle_fault rules false h)
policy_turn false h = or_none (settle_fault rules false h)

pub policy_walked : (later : Bool) (h : Held) → walked rules [] (free_walk later h) (codes "--policy") ≡ open_walk (codes "policy") h
unfolding walked
policy_walked true h = refl
policy_walked false h = refl

pub seed_turn : (later : Bool) (h : Held) → turn_fault shape [] (free_walk later h) (codes "--seed") ≡ settle_fault rules false h
seed_turn true h = or_none (settle_fault rules false h)
seed_turn false h = or_none (settle_fault rules false h)

pub seed_walked : (later : Bool) (h : Held) → walked rules [] (free_walk later h) (codes "--seed") ≡ open_walk (codes "seed") h
unfolding walked
seed_walked true h = refl
seed_walked false h = refl

pub turns_turn : (later : Bool) (h : Held) → turn_fault shape [] (free_walk later h) (codes "--turns") ≡ or_else (settle_fault rules false h) (use_fault false (filled turns_rule) [] (settled rules h).rows)
turns_turn true h = or_none _
turns_turn false h = or_none _

pub turns_walked : (later : Bool) (h : Held) → walked rules [] (free_walk later h) (codes "--turns") ≡ free_walk false (reacted rules (filled turns_rule) [] h)
unfolding walked
turns_walked true h = refl
turns_walked false h = refl

-- a value behind an option
pub value_turn : (id : Text) (h : Held) (w : Text) → begins_plain w ≡ true → turn_fault shape [] (open_walk id h) w ≡ []
value_turn id h [] plain = refl
value_turn id h (x ∷ xs) plain = rw (not_true (nat_eq x 45) plain, not_true (nat_eq x 45) plain) refl

pub policy_value_walked : (h : Held) (w : Text) → begins_plain w ≡ true → walked rules [] (open_walk (codes "policy") h) w ≡ free_walk false (pushed (codes "policy") w (settled rules h))
unfolding walked
policy_value_walked h [] plain = refl
policy_value_walked h (x ∷ xs) plain = rw (not_true (nat_eq x 45) plain, not_true (nat_eq x 45) plain) refl

pub seed_value_walked : (h : Held) (w : Text) → begins_plain w ≡ true → walked rules [] (open_walk (codes "seed") h) w ≡ free_walk false (pushed (codes "seed") w (settled rules h))
unfolding walked
seed_value_walked h [] plain = refl
seed_value_walked h (x ∷ xs) plain = rw (not_true (nat_eq x 45) plain, not_true (nat_eq x 45) plain) refl
