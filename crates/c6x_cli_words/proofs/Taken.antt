-- The whole parse: when it has no fault, and what it finds then.
use Rattle.std.proofs.Common.{◌≡◌, Bool, true, false, ◌||◌, List, [], ◌∷◌, refl, sym, ◌∙◌, ap, subst, inl, inr, arith}
use Rattle.std.specs.Prelude.{Option, None, Some, codes, is_some}
use Rattle.std.specs.List.{list_all}
use Rattle.clap.specs.Walk.{Row, Rule, Text, has_row, nothing_held, settled, walk, walk_from, with_default}
use Rattle.clap.specs.Simple.{filled, matches_of, with_index}
use Rattle.clap.specs.Faults.{default_fault, defaults_fault, fault_of, level_fault, settle_fault, walk_fault}
use Rattle.clap.proofs.FaultLemmas.{leaf_fault}
use Rattle.clap.specs.declared.parser.matches.ValueSource.TheVariants.{DefaultValue}
use Rattle.c6x_cli_words.specs.Arguments.{Argument, AreSpelled}
use Rattle.c6x_cli_words.specs.Found.{Found, Shows, flag_row, row_at, value_row, words_row}
use Rattle.c6x_cli_words.specs.Told.{is_known, nothing_said, AreFew, Leads, Told}
use Rattle.c6x_cli_words.specs.Grammar.{app, policy_rule, seed_rule, turns_rule, words_rule}
use Rattle.c6x_cli_words.proofs.Walks.{free_walk, rules, shape}
use Rattle.c6x_cli_words.proofs.Rows.{has_found, put_other_by, put_same_by, split}
use Rattle.c6x_cli_words.proofs.Shown.{Passes, Rows, both_none, no_rows}
use Rattle.c6x_cli_words.proofs.Sound.{sound}
use Rattle.c6x_cli_words.proofs.Complete.{Takes, complete}

or_true : (b : Bool) → (b || true) ≡ true
or_true true = refl
or_true false = refl

-- no default has a fault
word_default : (rows : List Row) → default_fault rows (with_index 1 (filled words_rule)) ≡ []
word_default rows = rw (or_true (has_row (codes "words") rows)) refl

policy_default : (rows : List Row) → default_fault rows (filled policy_rule) ≡ []
policy_default rows = rw (or_true (has_row (codes "policy") rows)) refl

seed_default : (rows : List Row) → default_fault rows (filled seed_rule) ≡ []
seed_default rows = rw (or_true (has_row (codes "seed") rows)) refl

turns_default : (rows : List Row) → default_fault rows (filled turns_rule) ≡ []
turns_default rows = elim (split (has_row (codes "turns") rows)) [
  | inl is ↦ rw (is) refl
  | inr is ↦ rw (is) refl
]

defaults_none : (rows : List Row) → defaults_fault rows rules ≡ []
unfolding defaults_fault
defaults_none rows = rw (word_default rows, policy_default _, seed_default _, turns_default _) refl

-- the faults of all are those of the walk and of its end
level_is : (words : List Text) → fault_of app words ≡ level_fault shape [] nothing_held words false []
level_is words = leaf_fault (record { top = shape; subs = [] }) nothing_held words refl

pub clean : (words : List Text) → fault_of app words ≡ [] → Passes (free_walk false nothing_held) words
clean words none =
    let all : level_fault shape [] nothing_held words false [] ≡ [] = sym (level_is words) ∙ none in
    let parts = both_none (walk_fault shape [] (walk_from nothing_held) words) _ all in
    record { walks = parts.0; ends = (both_none (settle_fault rules false (walk rules [] nothing_held words).held) _ parts.1).0 }

pub no_fault : (words : List Text) → Passes (free_walk false nothing_held) words → fault_of app words ≡ []
no_fault words passes = level_is words ∙ rw (passes.walks, passes.ends, defaults_none (settled rules (walk rules [] nothing_held words).held).rows) refl

abbrev keeps : Rule → List Row → Type 0
keeps a rows = with_default rows a ≡ rows

word_kept : (rows : List Row) → keeps (with_index 1 (filled words_rule)) rows
word_kept rows = elim (split (has_row (codes "words") rows)) [ inl is ↦ rw (is) refl | inr is ↦ rw (is) refl ]

policy_kept : (rows : List Row) → keeps (filled policy_rule) rows
policy_kept rows = elim (split (has_row (codes "policy") rows)) [ inl is ↦ rw (is) refl | inr is ↦ rw (is) refl ]

seed_kept : (rows : List Row) → keeps (filled seed_rule) rows
seed_kept rows = elim (split (has_row (codes "seed") rows)) [ inl is ↦ rw (is) refl | inr is ↦ rw (is) refl ]

there_if : (told : Bool) (rows : List Row) → row_at (codes "turns") rows ≡ flag_row told → has_row (codes "turns") rows ≡ told
there_if true rows is = has_found (codes "turns") rows ∙ ap is_some is
there_if false rows is = has_found (codes "turns") rows ∙ ap is_some is

finished_is : (words : List Text) → matches_of app words ≡ with_default (settled rules (walk rules [] nothing_held words).held).rows (filled turns_rule)
finished_is words = rw (word_kept _, policy_kept _, seed_kept _) refl

with_flag : (told : Bool) (rows : List Row) (said : Told) → said.turns ≡ told → Rows rows said → Shows (with_default rows (filled turns_rule)) said
with_flag true rows said is shown =
    let there : has_row (codes "turns") rows ≡ true = there_if true rows (shown.turns ∙ ap flag_row is) in
    rw (there) record {
      words = shown.words;
      policy = shown.policy;
      seed = shown.seed;
      turns = rw (shown.turns, is) refl;
    }
with_flag false rows said is shown =
    let there : has_row (codes "turns") rows ≡ false = there_if false rows (shown.turns ∙ ap flag_row is) in
    rw (there) record {
      words = put_other_by DefaultValue (codes "turns") (codes "words") (codes "false" ∷ []) rows refl ∙ shown.words;
      policy = put_other_by DefaultValue (codes "turns") (codes "policy") (codes "false" ∷ []) rows refl ∙ shown.policy;
      seed = put_other_by DefaultValue (codes "turns") (codes "seed") (codes "false" ∷ []) rows refl ∙ shown.seed;
      turns = rw (put_same_by DefaultValue (codes "turns") (codes "false" ∷ []) rows refl, shown.turns, is) refl;
    }

shows_said : (words : List Text) (said : Told) → Rows (settled rules (walk rules [] nothing_held words).held).rows said → Shows (matches_of app words) said
shows_said words said shown = subst (λ rows. Shows rows said) (sym (finished_is words)) (with_flag said.turns _ said refl shown)

-- rows show one thing
abbrev values_of : Option Row → List Text
values_of None = []
values_of (Some r) = r.values

abbrev first_of_all : List Text → Option Text
first_of_all [] = None
first_of_all (v ∷ vs) = Some v

words_back : (words : List Text) → values_of (words_row words) ≡ words
words_back [] = refl
words_back (w ∷ ws) = refl

value_back : (id : Text) (value : Option Text) → first_of_all (values_of (value_row id value)) ≡ value
value_back id None = refl
value_back id (Some v) = refl

flag_back : (told : Bool) → is_some (flag_row told) ≡ told
flag_back true = refl
flag_back false = refl

same_told : (v w : List Text) (o p r s : Option Text) (t u : Bool) → v ≡ w → o ≡ p → r ≡ s → t ≡ u → (let a : Told = record { words = v; policy = o; seed = r; turns = t } in let b : Told = record { words = w; policy = p; seed = s; turns = u } in a ≡ b)
same_told v w o p r s t u a b c d = rw (a, b, c, d) refl

one_told : (rows : List Row) (a b : Told) → Rows rows a → Rows rows b → a ≡ b
one_told rows a b x y = same_told a.words b.words a.policy b.policy a.seed b.seed a.turns b.turns
    (sym (words_back a.words) ∙ (ap values_of (sym x.words ∙ y.words) ∙ words_back b.words))
    (sym (value_back (codes "policy") a.policy) ∙ (ap (λ r. first_of_all (values_of r)) (sym x.policy ∙ y.policy) ∙ value_back (codes "policy") b.policy))
    (sym (value_back (codes "seed") a.seed) ∙ (ap (λ r. first_of_all (values_of r)) (sym x.seed ∙ y.seed) ∙ value_back (codes "seed") b.seed))
    (sym (flag_back a.turns) ∙ (ap is_some (sym x.turns ∙ y.turns) ∙ flag_back b.turns))

-- few arguments from the start
taken : (words : List Text) (arguments : List Argument) → AreSpelled arguments words → AreFew arguments → Takes (free_walk false nothing_held) words nothing_said arguments
taken words arguments spelled few =
    complete arguments words false nothing_held nothing_said spelled refl no_rows (record { kinds = omega (arith, few.kinds); seeds = omega (arith, few.seeds); turns = omega (arith, few.turns) })

pub found : (words : List Text) → list_all is_known words ≡ true → fault_of app words ≡ [] → Found words
found words known none =
    let says = sound words false nothing_held nothing_said known (λ _. no_rows) (clean words none) in
    record {
      said = says.now;
      shows = shows_said words says.now says.shows;
      is = record {
        spelled = says.means;
        only = λ arguments spelled few.
            let takes = taken words arguments spelled few in
            subst (λ now. Leads nothing_said arguments now) (one_told _ takes.now says.now takes.shows says.shows) takes.leads;
      };
    }

-- Where a parse has a fault, no few arguments spell the words.
pub refused : (words : List Text) (arguments : List Argument) → AreSpelled arguments words → AreFew arguments → fault_of app words ≡ []
refused words arguments spelled few = no_fault words (taken words arguments spelled few).passes
