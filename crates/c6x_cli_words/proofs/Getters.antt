-- What is got of clap's matches is what is said.
use Rattle.std.proofs.Common.{◌≡◌, ◌<◌, ◌+◌, ℕ, Bool, true, false, ◌&&◌, List, [], ◌∷◌, ◌++◌, length, map, take, get_or, refl, sym, ◌∙◌, ap, ap₂, Bor, inl, inr}
use Rattle.std.specs.Prelude.{Option, None, Some, codes, if◌then◌else◌, option_and_then, option_map, slice_get}
use Rattle.std.specs.List.{list_all}
use Rattle.std.proofs.lemmas.List.{map-append, take_more}
use Rattle.std.proofs.lemmas.List.Folds.{list_all_more}
use Rattle.std.proofs.lemmas.List.Sums.{AllPass-from_list_all}
use Rattle.c6x_ports.specs.declared.kind.Kind.{Kind}
use Rattle.clap.specs.Walk.{Row, Text, rows_of}
use Rattle.clap.specs.Matches.{first_value, matched_of, one_text, raw_values}
use Rattle.clap.specs.declared.parser.matches.Found.{Found}
use Rattle.clap.proofs.WalkLemmas.{first_value-rows, one_text-rows, raw_values-rows}
use Rattle.c6x_cli_words.specs.Arguments.{is_positional}
use Rattle.c6x_cli_words.specs.Asked.{asked, kind_in, request_told, seed_in}
use Rattle.c6x_cli_words.specs.Found.{Shows, value_row, words_row}
use Rattle.c6x_cli_words.specs.Told.{Told}
use Rattle.c6x_cli_words.specs.declared.request.Request.{Request}
use Rattle.c6x_cli_words.proofs.Rows.{split}

abbrev values_in : Option Row → Option (List Text)
values_in r = option_map (λ (row : Row). row.values) r

got_words : (f : Found) (said : Told) → Shows (rows_of f) said → option_map raw_values (matched_of f (codes "words")) ≡ values_in (words_row said.words)
got_words f said shows = raw_values-rows f (codes "words") ∙ ap values_in shows.words

no_words_in : (words : List Text) → values_in (words_row words) ≡ None → words ≡ []
no_words_in [] is = refl
no_words_in (w ∷ ws) is = absurd (cc)

words_in : (words got : List Text) → values_in (words_row words) ≡ Some got → words ≡ got
words_in [] got is = absurd (cc)
words_in (w ∷ ws) got is = (cc)

pub no_words_said : (f : Found) (said : Told) → Shows (rows_of f) said → option_map raw_values (matched_of f (codes "words")) ≡ None → said.words ≡ []
no_words_said f said shows none = no_words_in said.words (sym (got_words f said shows) ∙ none)

pub words_said : (f : Found) (said : Told) (got : List Text) → Shows (rows_of f) said → option_map raw_values (matched_of f (codes "words")) ≡ Some got → said.words ≡ got
words_said f said got shows is = words_in said.words got (sym (got_words f said shows) ∙ is)

value_in : (id : Text) (value : Option Text) → option_and_then (λ (r : Row). slice_get r.values 0) (value_row id value) ≡ value
value_in id None = refl
value_in id (Some v) = refl

pub policy_said : (f : Found) (said : Told) → Shows (rows_of f) said → first_value f (codes "policy") ≡ said.policy
policy_said f said shows = first_value-rows f (codes "policy") ∙ (ap (option_and_then (λ (r : Row). slice_get r.values 0)) shows.policy ∙ value_in (codes "policy") said.policy)

pub seed_said : (f : Found) (said : Told) → Shows (rows_of f) said → first_value f (codes "seed") ≡ said.seed
seed_said f said shows = first_value-rows f (codes "seed") ∙ (ap (option_and_then (λ (r : Row). slice_get r.values 0)) shows.seed ∙ value_in (codes "seed") said.seed)

by_text : (told result : Bool) (text : Option Text) → text ≡ Some (if told then codes "true" else codes "false") → (text ≡ Some (codes "true") → result ≡ true) → (text ≡ Some (codes "false") → result ≡ false) → result ≡ told
by_text true result text is one other = one is
by_text false result text is one other = other is

pub turns_said : (f : Found) (said : Told) (result : Bool) → Shows (rows_of f) said → (one_text f (codes "turns") ≡ Some (codes "true") → result ≡ true) → (one_text f (codes "turns") ≡ Some (codes "false") → result ≡ false) → result ≡ said.turns
turns_said f said result shows one other = by_text said.turns result (one_text f (codes "turns")) (one_text-rows f (codes "turns") ∙ shows.turns) one other

-- what is asked for then
nothing : (kind : Option (Option Kind)) (seed : Option (Option ℕ)) → option_and_then (λ k. option_and_then (λ n. None) seed) kind ≡ (let none : Option Request = None in none)
nothing None seed = refl
nothing (Some k) None = refl
nothing (Some k) (Some n) = refl

pub told_wordless : (said : Told) → said.words ≡ [] → request_told said ≡ None
unfolding request_told asked
told_wordless said is = rw (is) (nothing (kind_in said.policy) (seed_in said.seed))

either_none : (b : Bool) → (if b then None else None) ≡ (let none : Option Request = None in none)
either_none true = refl
either_none false = refl

pub told_kindless : (said : Told) → kind_in said.policy ≡ None → request_told said ≡ None
unfolding request_told
told_kindless said is = rw (is) (either_none (list_all is_positional said.words))

none_then : (b : Bool) (kind : Option (Option Kind)) → (if b then option_and_then (λ k. None) kind else None) ≡ (let none : Option Request = None in none)
none_then true None = refl
none_then true (Some k) = refl
none_then false kind = refl

pub told_seedless : (said : Told) → seed_in said.seed ≡ None → request_told said ≡ None
unfolding request_told
told_seedless said is = rw (is) (none_then (list_all is_positional said.words) (kind_in said.policy))

pub told_fileless : (said : Told) → list_all is_positional said.words ≡ false → request_told said ≡ None
unfolding request_told
told_fileless said is = rw (is) refl

pub told_asks : (said : Told) (words : List Text) (kind : Option Kind) (number : Option ℕ) (turns : Bool) → said.words ≡ words → list_all is_positional words ≡ true → kind_in said.policy ≡ Some kind → seed_in said.seed ≡ Some number → turns ≡ said.turns → asked words kind number turns ≡ request_told said
unfolding request_told
told_asks said words kind number turns is files k n t = rw (is, files, k, n, t) refl

-- words that are gone over
pub next_text : (texts : List (Bor Text)) (text : Bor Text) (words : List Text) (i : ℕ) (d : Text) → map (λ w. w.now) texts ≡ take i words → i < length words → text.now ≡ get_or words i d → map (λ w. w.now) (texts ++ text ∷ []) ≡ take (i + 1) words
next_text texts text words i d same within is =
    map-append (λ w. w.now) texts (text ∷ []) ∙ (ap₂ (λ a b. a ++ b ∷ []) same is ∙ sym (take_more words i d within))

pub next_passes : {A : Type 0} (p : A → Bool) (xs : List A) (i : ℕ) (d : A) → list_all p (take i xs) ≡ true → i < length xs → p (get_or xs i d) ≡ true → list_all p (take (i + 1) xs) ≡ true
next_passes p xs i d before within here = list_all_more p xs i d within ∙ ap₂ (λ a b. a && b) before here

pub fails_at : {A : Type 0} (p : A → Bool) (xs : List A) (i : ℕ) (d : A) → i < length xs → p (get_or xs i d) ≡ false → list_all p xs ≡ false
fails_at p xs i d within here = elim (split (list_all p xs)) [
  | inl all ↦ (let never : true ≡ false = sym (AllPass-from_list_all p xs all i d within) ∙ here in absurd (cc))
  | inr none ↦ none
]
