-- What arguments ask for, verb by verb.
use Rattle.std.proofs.Common.{◌≡◌, ◌≤◌, ℕ, Bool, true, false, List, [], ◌∷◌, length, refl, sym, ◌∙◌, ap, subst, arith}
use Rattle.std.specs.Prelude.{Option, None, Some, codes, is_some, nat_lt, not, option_map, unwrap_or}
use Rattle.std.specs.Option.{option_to_list}
use Rattle.std.specs.List.{list_all}
use Rattle.c6x_ports.specs.declared.kind.Kind.{Kind}
use Rattle.c6x_ports.specs.declared.kind.Kind.TheVariants.{Round}
use Rattle.c6x_cli_words.specs.Arguments.{Argument, plan_word, policy_words, seed_words, turns_word, AreSpelled, is_positional, kinds_of, once_if, plans_of, seeds_of, times_told}
use Rattle.c6x_cli_words.specs.Asked.{asked, is_bare}
use Rattle.c6x_cli_words.specs.Requests.{IsVerbOne, IsVerbTwo, IsVerbRun, IsReading, Spells}
use Rattle.c6x_cli_words.specs.Told.{AreFew}
use Rattle.c6x_cli_words.specs.declared.request.Request.{Request}
use Rattle.c6x_cli_words.specs.declared.request.Request.TheVariants.{Assemble, Dis, Generate, Link, Map, Run, Show}
use Rattle.c6x_cli_words.proofs.Arguments.{no_words, one_spelling}
use Rattle.c6x_cli_words.proofs.Sound.{both}
use Rattle.c6x_cli_words.proofs.Text.{is_verb, verb_file}

-- the first of a list
abbrev pub first : {A : Type 0} → List A → Option A
first [] = None
first (x ∷ xs) = Some x

-- what arguments ask for
abbrev pub request_of : List Argument → Option Request
request_of a = asked (plans_of a) (first (kinds_of a)) (first (seeds_of a)) (nat_lt 0 (times_told a))

-- Few arguments that spell the words of a request, and ask for it.
pub record Asks (words : List (List ℕ)) (request : Request) : Type 0 where
  pub arguments : List Argument
  pub spelled : AreSpelled arguments words
  pub few : AreFew arguments
  pub asks : request_of arguments ≡ Some request

-- words alone are few arguments
one_asks : (verb file : List ℕ) (words : List (List ℕ)) (request : Request) → is_verb verb ≡ true → IsVerbOne verb file words → asked (verb ∷ file ∷ []) None None false ≡ Some request → Asks words request
one_asks verb file words request is_one s asks = record {
  arguments = plan_word verb ∷ plan_word file ∷ [];
  spelled = (file ∷ [], ((s.is, verb_file verb is_one), ([], ((refl, s.positional), refl))));
  few = record { kinds = omega arith; seeds = omega arith; turns = omega arith };
  asks = asks;
}

two_asks : (verb one two : List ℕ) (words : List (List ℕ)) (request : Request) → is_verb verb ≡ true → IsVerbTwo verb one two words → asked (verb ∷ one ∷ two ∷ []) None None false ≡ Some request → Asks words request
two_asks verb one two words request is_one s asks = record {
  arguments = plan_word verb ∷ plan_word one ∷ plan_word two ∷ [];
  spelled = (one ∷ two ∷ [], ((s.is, verb_file verb is_one), (two ∷ [], ((refl, s.positional), ([], ((refl, s.positional_too), refl))))));
  few = record { kinds = omega arith; seeds = omega arith; turns = omega arith };
  asks = asks;
}

at_most_one : {A : Type 0} (o : Option A) → length (option_to_list o) ≤ 1
at_most_one None = omega arith
at_most_one (Some x) = omega arith

once_or_never : (told : Bool) → once_if told ≤ 1
once_or_never true = omega arith
once_or_never false = omega arith

first_back : {A : Type 0} (o : Option A) → first (option_to_list o) ≡ o
first_back None = refl
first_back (Some x) = refl

once_back : (told : Bool) → nat_lt 0 (once_if told) ≡ told
once_back true = refl
once_back false = refl

run_asked : (plan : List ℕ) (kind : Option Kind) (number : Option ℕ) (turns : Bool) → asked (codes "run" ∷ plan ∷ []) kind number turns ≡ Some (Run plan (unwrap_or kind Round) (unwrap_or number 1) turns)
unfolding asked
run_asked plan kind number turns = refl

run_asks : (plan : List ℕ) (policy : Kind) (seed : ℕ) (turns : Bool) (words : List (List ℕ)) → IsVerbRun plan policy seed turns words → Asks words (Run plan policy seed turns)
run_asks plan policy seed turns words s = record {
  arguments = plan_word (codes "run") ∷ s.arguments;
  spelled = (s.rest, ((s.is, verb_file (codes "run") refl), s.spelled));
  few = record {
    kinds = subst (λ ks. length ks ≤ 1) (sym s.kinds) (at_most_one s.kind);
    seeds = subst (λ ks. length ks ≤ 1) (sym s.seeds) (at_most_one s.number);
    turns = subst (λ n. n ≤ 1) (sym s.told) (once_or_never turns);
  };
  asks = rw (s.one, s.kinds, s.seeds, s.told, first_back s.kind, first_back s.number, once_back turns, s.used, s.begun) (run_asked plan s.kind s.number turns);
}

-- each request has arguments that ask for it
pub asks_for : (words : List (List ℕ)) (request : Request) → Spells words request → Asks words request
unfolding asked
asks_for words (Assemble input output) s = two_asks (codes "as") input output words (Assemble input output) refl s refl
asks_for words (Link plan output) s = two_asks (codes "ld") plan output words (Link plan output) refl s refl
asks_for words (Dis input) s = one_asks (codes "dis") input words (Dis input) refl s refl
asks_for words (Show input) s = one_asks (codes "show") input words (Show input) refl s refl
asks_for words (Map plan) s = one_asks (codes "map") plan words (Map plan) refl s refl
asks_for words (Run plan policy seed turns) s = run_asks plan policy seed turns words s
asks_for words (Generate number) s = one_asks (codes "gen") s.digits words (Generate number) refl s.one (ap (option_map Generate) s.spelled)

-- words have one reading
one_request : (words : List (List ℕ)) (r s : Request) → Spells words r → Spells words s → r ≡ s
one_request words r s p q =
    let one = asks_for words r p in
    let other = asks_for words s q in
    let same : Some r ≡ Some s = sym one.asks ∙ (ap request_of (one_spelling one.arguments other.arguments words one.spelled other.spelled) ∙ other.asks) in
    (cc)

pub one_reading : (words : List (List ℕ)) (a b : Option Request) → IsReading words a → IsReading words b → a ≡ b
one_reading words None None s t = refl
one_reading words None (Some r) s t = absurd (s r t)
one_reading words (Some r) None s t = absurd (t r s)
one_reading words (Some r) (Some q) s t = ap Some (one_request words r q s t)

-- arguments that are words alone
pub words_alone : (a : List Argument) (words : List (List ℕ)) → AreSpelled a words → kinds_of a ≡ [] → seeds_of a ≡ [] → times_told a ≡ 0 → words ≡ plans_of a
words_alone [] words spelled kinds seeds turns = spelled
words_alone (plan_word name ∷ more) words (rest, spelled) kinds seeds turns =
    spelled.0.0 ∙ ap (λ ws. name ∷ ws) (words_alone more rest spelled.1 kinds seeds turns)
words_alone (policy_words kind ∷ more) words (rest, spelled) kinds seeds turns = absurd (no_words _ _ (sym kinds))
words_alone (seed_words number ∷ more) words (rest, spelled) kinds seeds turns = absurd (no_words _ _ (sym seeds))
words_alone (turns_word ∷ more) words (rest, spelled) kinds seeds turns = absurd (omega (arith, turns))

pub all_files : (a : List Argument) (words : List (List ℕ)) → AreSpelled a words → list_all is_positional (plans_of a) ≡ true
all_files [] words spelled = refl
all_files (plan_word name ∷ more) words (rest, spelled) = rw (spelled.0.1) (all_files more rest spelled.1)
all_files (policy_words kind ∷ more) words (rest, spelled) = all_files more rest spelled.1
all_files (seed_words number ∷ more) words (rest, spelled) = all_files more rest spelled.1
all_files (turns_word ∷ more) words (rest, spelled) = all_files more rest spelled.1

none_first : {A : Type 0} (xs : List A) → is_some (first xs) ≡ false → xs ≡ []
none_first [] is = refl
none_first (x ∷ xs) is = absurd (cc)

not_true : (b : Bool) → not b ≡ true → b ≡ false
not_true true is = absurd (cc)
not_true false is = refl

none_told : (n : ℕ) → nat_lt 0 n ≡ false → n ≡ 0
none_told n is = grind arith

-- so are those without an option
pub bare_words : (a : List Argument) (words : List (List ℕ)) → AreSpelled a words → is_bare (first (kinds_of a)) (first (seeds_of a)) (nat_lt 0 (times_told a)) ≡ true → words ≡ plans_of a
bare_words a words spelled bare =
    let kinds = both _ _ bare in
    let seeds = both _ _ kinds.1 in
    words_alone a words spelled (none_first (kinds_of a) (not_true _ kinds.0)) (none_first (seeds_of a) (not_true _ seeds.0)) (none_told (times_told a) (not_true _ seeds.1))
