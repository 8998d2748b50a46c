-- Words with a reading are text, and known.
use Rattle.std.proofs.Common.{◌≡◌, ◌<◌, ℕ, Bool, true, false, ◌&&◌, List, [], ◌∷◌, length, refl, sym, ◌∙◌, subst}
use Rattle.std.specs.Prelude.{None, codes}
use Rattle.std.specs.List.{list_all, slice_index_or}
use Rattle.std.specs.Str.{is_utf8, IsUtf8}
use Rattle.std.proofs.lemmas.List.Sums.{AllPass-from_list_all}
use Rattle.c6x_cli_words.specs.Arguments.{Argument, plan_word, policy_words, seed_words, turns_word, AreSpelled}
use Rattle.c6x_cli_words.specs.Requests.{IsReading}
use Rattle.c6x_cli_words.specs.Told.{begins_plain, is_known}
use Rattle.c6x_cli_words.proofs.Complete.{file_plain, kind_plain, number_plain}
use Rattle.c6x_cli_words.proofs.Text.{ascii_is_text, file_text, kind_text, not_utf8, number_text}
use Rattle.c6x_cli_words.proofs.Verbs.{asks_for}

abbrev pub is_word : List ℕ → Bool
is_word word = is_utf8 word && is_known word

plain_word : (word : List ℕ) → is_utf8 word ≡ true → begins_plain word ≡ true → is_word word ≡ true
unfolding is_known
plain_word word text plain = rw (text, plain) refl

policy_word : is_word (codes "--policy") ≡ true
unfolding is_known
policy_word = rw (ascii_is_text (codes "--policy") refl) refl

seed_word : is_word (codes "--seed") ≡ true
unfolding is_known
seed_word = rw (ascii_is_text (codes "--seed") refl) refl

turns_is_word : is_word (codes "--turns") ≡ true
unfolding is_known
turns_is_word = rw (ascii_is_text (codes "--turns") refl) refl

all_words : (a : List Argument) (words : List (List ℕ)) → AreSpelled a words → list_all is_word words ≡ true
all_words [] words spelled = subst (λ ws. list_all is_word ws ≡ true) (sym spelled) refl
all_words (plan_word name ∷ more) words (rest, spelled) =
    subst (λ ws. list_all is_word ws ≡ true) (sym spelled.0.0)
    (rw (plain_word name (file_text name spelled.0.1) (file_plain name spelled.0.1)) (all_words more rest spelled.1))
all_words (policy_words kind ∷ more) words (rest, ((name, named), spelled)) =
    subst (λ ws. list_all is_word ws ≡ true) (sym named.0)
    (rw (policy_word, plain_word name (kind_text name kind named.1) (kind_plain name kind named.1)) (all_words more rest spelled))
all_words (seed_words number ∷ more) words (rest, ((digits, spells), spelled)) =
    subst (λ ws. list_all is_word ws ≡ true) (sym spells.0)
    (rw (seed_word, plain_word digits (number_text digits number spells.1) (number_plain digits number spells.1)) (all_words more rest spelled))
all_words (turns_word ∷ more) words (rest, spelled) =
    subst (λ ws. list_all is_word ws ≡ true) (sym spelled.0)
    (rw (turns_is_word) (all_words more rest spelled.1))

-- so one that is not such a word leaves no reading
pub not_a_word : (words : List (List ℕ)) (i : ℕ) (d : List ℕ) → i < length words → is_word (slice_index_or words i d) ≡ false → IsReading words None
not_a_word words i d within is_not = λ request spells.
    let few = asks_for words request spells in
    let is = AllPass-from_list_all is_word words (all_words few.arguments words few.spelled) i d within in
    let never : true ≡ false = sym is ∙ is_not in
    absurd (cc)

pub not_text_word : (word : List ℕ) → ¬ (IsUtf8 word) → is_word word ≡ false
not_text_word word is_not = rw (← not_utf8 word is_not) refl

pub not_known_word : (word : List ℕ) → is_known word ≡ false → is_word word ≡ false
not_known_word word is_not = rw (is_not) (and_none (is_utf8 word))
  where
    and_none : (b : Bool) → (b && false) ≡ false
    and_none true = refl
    and_none false = refl
