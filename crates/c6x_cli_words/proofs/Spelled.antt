-- What arguments ask for is what the words spell, and what is said asks for the same.
use Rattle.std.proofs.Common.{◌≡◌, ◌⊎◌, ◌≤◌, ◌+◌, ℕ, zero, suc, Bool, true, false, List, [], ◌∷◌, length, map, refl, sym, ◌∙◌, ap, subst, inl, inr, arith}
use Rattle.std.specs.Prelude.{Option, None, Some, codes, if◌then◌else◌, nat_lt, option_and_then, option_map, unwrap_or}
use Rattle.std.specs.Option.{option_to_list}
use Rattle.std.specs.List.{list_all}
use Rattle.std.specs.Str.{bytes_eq}
use Rattle.std.proofs.lemmas.Slice.Eq.{bytes_eq-Decides}
use Rattle.c6x_ports.specs.declared.kind.Kind.{Kind}
use Rattle.c6x_ports.specs.declared.kind.Kind.TheVariants.{Round}
use Rattle.c6x_cli_words.specs.Arguments.{Argument, plan_word, policy_words, seed_words, turns_word, AreSpelled, generator_number, is_positional, kind_named, kinds_of, number_of, once_if, plans_of, seeds_of, times_told}
use Rattle.c6x_cli_words.specs.Asked.{asked, generated_by, is_bare, kind_in, request_told, seed_in, with_file, with_one, with_two}
use Rattle.c6x_cli_words.specs.Requests.{IsReading, IsVerbRun, Spells}
use Rattle.c6x_cli_words.specs.Told.{AreFew, IsGood, IsSaid, Leads, Told, kinds_said, nothing_said, numbers_said, starts_plain}
use Rattle.c6x_cli_words.specs.declared.request.Request.{Request}
use Rattle.c6x_cli_words.specs.declared.request.Request.TheVariants.{Assemble, Dis, Generate, Link, Map, Run, Show}
use Rattle.c6x_cli_words.proofs.Arguments.{no_words, same_head, same_tail}
use Rattle.c6x_cli_words.proofs.Sound.{both}
use Rattle.c6x_cli_words.proofs.Verbs.{all_files, asks_for, bare_words, first, request_of}

-- a verb is chosen, or the rest decides
chosen : (test : Bool) (one : Request) (rest : Option Request) (request : Request) → (if test then Some one else rest) ≡ Some request → ((test ≡ true) × (one ≡ request)) ⊎ (rest ≡ Some request)
chosen true one rest request is = inl (refl, (cc))
chosen false one rest request is = inr is

kept_if : {A : Type 0} (test : Bool) (o : Option A) (x : A) → (if test then o else None) ≡ Some x → (test ≡ true) × (o ≡ Some x)
kept_if true o x is = (refl, is)
kept_if false o x is = absurd (cc)

never_none : {A B : Type 0} (x : A) → None ≡ Some x → B
never_none x is = absurd (cc)

same_verb : (verb name : List ℕ) (behind : List (List ℕ)) (words : List (List ℕ)) → words ≡ verb ∷ behind → bytes_eq verb name ≡ true → words ≡ name ∷ behind
same_verb verb name behind words is same = is ∙ ap (λ v. v ∷ behind) ((bytes_eq-Decides verb name).0 same)

two_spelled : (verb one two : List ℕ) (words : List (List ℕ)) (request : Request) → words ≡ verb ∷ one ∷ two ∷ [] → is_positional one ≡ true → is_positional two ≡ true → with_two verb one two ≡ Some request → Spells words request
two_spelled verb one two words request is here there asks = elim (chosen (bytes_eq verb (codes "as")) (Assemble one two) (if bytes_eq verb (codes "ld") then Some (Link one two) else None) request asks) [
  | inl p ↦ subst (Spells words) p.1 (record { is = same_verb verb (codes "as") _ words is p.0; positional = here; positional_too = there })
  | inr other ↦ elim (chosen (bytes_eq verb (codes "ld")) (Link one two) None request other) [
    | inl p ↦ subst (Spells words) p.1 (record { is = same_verb verb (codes "ld") _ words is p.0; positional = here; positional_too = there })
    | inr none ↦ never_none request none
  ]
]

file_spelled : (verb file : List ℕ) (words : List (List ℕ)) (request : Request) → words ≡ verb ∷ file ∷ [] → is_positional file ≡ true → with_file verb file ≡ Some request → Spells words request
file_spelled verb file words request is here asks = elim (chosen (bytes_eq verb (codes "dis")) (Dis file) (if bytes_eq verb (codes "show") then Some (Show file) else (if bytes_eq verb (codes "map") then Some (Map file) else None)) request asks) [
  | inl p ↦ subst (Spells words) p.1 (record { is = same_verb verb (codes "dis") _ words is p.0; positional = here })
  | inr other ↦ elim (chosen (bytes_eq verb (codes "show")) (Show file) (if bytes_eq verb (codes "map") then Some (Map file) else None) request other) [
    | inl p ↦ subst (Spells words) p.1 (record { is = same_verb verb (codes "show") _ words is p.0; positional = here })
    | inr third ↦ elim (chosen (bytes_eq verb (codes "map")) (Map file) None request third) [
      | inl p ↦ subst (Spells words) p.1 (record { is = same_verb verb (codes "map") _ words is p.0; positional = here })
      | inr none ↦ never_none request none
    ]
  ]
]

number_spelled : (verb digits : List ℕ) (words : List (List ℕ)) (request : Request) (found : Option ℕ) → words ≡ verb ∷ digits ∷ [] → is_positional digits ≡ true → bytes_eq verb (codes "gen") ≡ true → generator_number digits ≡ found → option_map Generate found ≡ Some request → Spells words request
number_spelled verb digits words request None is here gen none asks = never_none request asks
number_spelled verb digits words request (Some number) is here gen some asks =
    let same : Generate number ≡ request = cc in
    subst (Spells words) same (record {
      digits = digits;
      one = record { is = same_verb verb (codes "gen") _ words is gen; positional = here };
      spelled = some;
    })

picked : (test : Bool) (one rest : Option Request) (request : Request) → (if test then one else rest) ≡ Some request → ((test ≡ true) × (one ≡ Some request)) ⊎ (rest ≡ Some request)
picked true one rest request is = inl (refl, is)
picked false one rest request is = inr is

one_spelled : (verb word : List ℕ) (words : List (List ℕ)) (request : Request) → words ≡ verb ∷ word ∷ [] → is_positional word ≡ true → with_one verb word ≡ Some request → Spells words request
one_spelled verb word words request is here asks = elim (picked (bytes_eq verb (codes "gen")) (generated_by word) (with_file verb word) request asks) [
  | inl p ↦ number_spelled verb word words request (generator_number word) is here p.0 refl p.1
  | inr other ↦ file_spelled verb word words request is here other
]

few_list : {A : Type 0} (xs : List A) → length xs ≤ 1 → xs ≡ option_to_list (first xs)
few_list [] few = refl
few_list (x ∷ []) few = refl
few_list (x ∷ y ∷ more) few = absurd (omega (arith, few))

few_times : (n : ℕ) → n ≤ 1 → n ≡ once_if (nat_lt 0 n)
few_times zero few = refl
few_times (suc zero) few = refl
few_times (suc (suc n)) few = absurd (omega (arith, few))

run_spelled : (a : List Argument) (words : List (List ℕ)) (verb file : List ℕ) → AreSpelled a words → AreFew a → starts_plain words ≡ true → plans_of a ≡ verb ∷ file ∷ [] → bytes_eq verb (codes "run") ≡ true → IsVerbRun file (unwrap_or (first (kinds_of a)) Round) (unwrap_or (first (seeds_of a)) 1) (nat_lt 0 (times_told a)) words
run_spelled [] words verb file spelled few starts plans run = absurd (no_words _ _ plans)
run_spelled (plan_word v ∷ more) words verb file (rest, spelled) few starts plans run = record {
  rest = rest;
  arguments = more;
  kind = first (kinds_of more);
  number = first (seeds_of more);
  is = spelled.0.0 ∙ ap (λ w. w ∷ rest) (same_head _ _ _ _ plans ∙ (bytes_eq-Decides verb (codes "run")).0 run);
  spelled = spelled.1;
  one = same_tail _ _ _ _ plans;
  kinds = few_list (kinds_of more) few.kinds;
  seeds = few_list (seeds_of more) few.seeds;
  used = refl;
  begun = refl;
  told = few_times (times_told more) few.turns;
}
run_spelled (policy_words kind ∷ more) words verb file (rest, ((name, named), spelled)) few starts plans run =
    let never : false ≡ true = subst (λ ws. starts_plain ws ≡ true) named.0 starts in absurd (cc)
run_spelled (seed_words number ∷ more) words verb file (rest, ((digits, spells), spelled)) few starts plans run =
    let never : false ≡ true = subst (λ ws. starts_plain ws ≡ true) spells.0 starts in absurd (cc)
run_spelled (turns_word ∷ more) words verb file (rest, spelled) few starts plans run =
    let never : false ≡ true = subst (λ ws. starts_plain ws ≡ true) spelled.0 starts in absurd (cc)

by_plans : (ps : List (List ℕ)) (a : List Argument) (words : List (List ℕ)) (request : Request) → AreSpelled a words → AreFew a → starts_plain words ≡ true → plans_of a ≡ ps → asked ps (first (kinds_of a)) (first (seeds_of a)) (nat_lt 0 (times_told a)) ≡ Some request → Spells words request
unfolding asked
by_plans [] a words request spelled few starts plans asks = never_none request asks
by_plans (v ∷ []) a words request spelled few starts plans asks = never_none request asks
by_plans (v ∷ f ∷ []) a words request spelled few starts plans asks = elim (chosen (bytes_eq v (codes "run")) (Run f (unwrap_or (first (kinds_of a)) Round) (unwrap_or (first (seeds_of a)) 1) (nat_lt 0 (times_told a))) (if is_bare (first (kinds_of a)) (first (seeds_of a)) (nat_lt 0 (times_told a)) then with_one v f else None) request asks) [
  | inl p ↦ subst (Spells words) p.1 (run_spelled a words v f spelled few starts plans p.0)
  | inr other ↦ (let kept = kept_if _ (with_one v f) request other in
      let files : list_all is_positional (v ∷ f ∷ []) ≡ true = subst (λ ps. list_all is_positional ps ≡ true) plans (all_files a words spelled) in
      one_spelled v f words request (bare_words a words spelled kept.0 ∙ plans) (both _ _ (both (is_positional v) _ files).1).0 kept.1)
]
by_plans (v ∷ f ∷ g ∷ []) a words request spelled few starts plans asks =
    let kept = kept_if _ (with_two v f g) request asks in
    let files : list_all is_positional (v ∷ f ∷ g ∷ []) ≡ true = subst (λ ps. list_all is_positional ps ≡ true) plans (all_files a words spelled) in
    let later = both (is_positional f) _ (both (is_positional v) _ files).1 in
    two_spelled v f g words request (bare_words a words spelled kept.0 ∙ plans) later.0 (both (is_positional g) _ later.1).0 kept.1
by_plans (v ∷ f ∷ g ∷ h ∷ more) a words request spelled few starts plans asks = never_none request asks

spelled_back : (a : List Argument) (words : List (List ℕ)) (request : Request) → AreSpelled a words → AreFew a → starts_plain words ≡ true → request_of a ≡ Some request → Spells words request
spelled_back a words request spelled few starts asks = by_plans (plans_of a) a words request spelled few starts refl asks

-- what is said by few arguments asks for what they ask for
one_kind : (o : Option (List ℕ)) (kinds : List Kind) → kinds_said o ≡ map Some kinds → (length kinds ≤ 1) × (kind_in o ≡ Some (first kinds))
one_kind None [] is = (omega arith, refl)
one_kind None (k ∷ ks) is = absurd (no_words _ _ is)
one_kind (Some name) [] is = absurd (no_words _ _ (sym is))
one_kind (Some name) (k ∷ []) is = (omega arith, ap (option_map Some) (same_head _ _ _ _ is))
one_kind (Some name) (k ∷ l ∷ ks) is = absurd (no_words _ _ (same_tail _ _ _ _ is))

one_number : (o : Option (List ℕ)) (numbers : List ℕ) → numbers_said o ≡ map Some numbers → (length numbers ≤ 1) × (seed_in o ≡ Some (first numbers))
one_number None [] is = (omega arith, refl)
one_number None (k ∷ ks) is = absurd (no_words _ _ is)
one_number (Some digits) [] is = absurd (no_words _ _ (sym is))
one_number (Some digits) (k ∷ []) is = (omega arith, ap (option_map Some) (same_head _ _ _ _ is))
one_number (Some digits) (k ∷ l ∷ ks) is = absurd (no_words _ _ (same_tail _ _ _ _ is))

one_telling : (told : Bool) (n : ℕ) → once_if told ≡ 0 + n → (n ≤ 1) × (nat_lt 0 n ≡ told)
one_telling true zero is = absurd (omega (arith, is))
one_telling true (suc zero) is = (omega arith, refl)
one_telling true (suc (suc n)) is = absurd (omega (arith, is))
one_telling false zero is = (omega arith, refl)
one_telling false (suc n) is = absurd (omega (arith, is))

led_few : (a : List Argument) (said : Told) → Leads nothing_said a said → AreFew a
led_few a said leads = record {
  kinds = (one_kind said.policy (kinds_of a) leads.kinds).0;
  seeds = (one_number said.seed (seeds_of a) leads.numbers).0;
  turns = (one_telling said.turns (times_told a) leads.turns).0;
}

led_asks : (a : List Argument) (said : Told) → Leads nothing_said a said → list_all is_positional said.words ≡ true → request_told said ≡ request_of a
unfolding request_told
led_asks a said leads files =
    rw (files, (one_kind said.policy (kinds_of a) leads.kinds).1, (one_number said.seed (seeds_of a) leads.numbers).1, (one_telling said.turns (times_told a) leads.turns).1, leads.words) refl

-- what asks for something is good
then_some : {A B : Type 0} (f : A → Option B) (o : Option A) (y : B) → option_and_then f o ≡ Some y → (x : A) × ((o ≡ Some x) × (f x ≡ Some y))
then_some f None y is = absurd (cc)
then_some f (Some x) y is = (x, (refl, is))

kind_good : (o : Option (List ℕ)) (k : Option Kind) → kind_in o ≡ Some k → (name : List ℕ) → o ≡ Some name → (kind : Kind) × (kind_named name ≡ Some kind)
kind_good o k is name there = named (kind_named name) refl (sym (ap kind_in there) ∙ is)
  where
    named : (found : Option Kind) → kind_named name ≡ found → option_map Some (kind_named name) ≡ Some k → (kind : Kind) × (kind_named name ≡ Some kind)
    named None none is = let never : None ≡ Some k = sym (ap (option_map Some) none) ∙ is in absurd (cc)
    named (Some kind) one is = (kind, one)

number_good : (o : Option (List ℕ)) (k : Option ℕ) → seed_in o ≡ Some k → (digits : List ℕ) → o ≡ Some digits → (number : ℕ) × (number_of digits ≡ Some number)
number_good o k is digits there = spelled (number_of digits) refl (sym (ap seed_in there) ∙ is)
  where
    spelled : (found : Option ℕ) → number_of digits ≡ found → option_map Some (number_of digits) ≡ Some k → (number : ℕ) × (number_of digits ≡ Some number)
    spelled None none is = let never : None ≡ Some k = sym (ap (option_map Some) none) ∙ is in absurd (cc)
    spelled (Some number) one is = (number, one)

told_good : (said : Told) (request : Request) → request_told said ≡ Some request → IsGood said
unfolding request_told
told_good said request asks =
    let files = kept_if (list_all is_positional said.words) _ request asks in
    let kind = then_some (λ kind. option_and_then (λ number. asked said.words kind number said.turns) (seed_in said.seed)) (kind_in said.policy) request files.1 in
    let number = then_some (λ number. asked said.words kind.0 number said.turns) (seed_in said.seed) request kind.1.1 in
    record {
      files = files.0;
      kind = kind_good said.policy kind.0 kind.1.0;
      number = number_good said.seed number.0 number.1.0;
    }

-- What is asked for by what words say is their reading.
pub said_reads : (words : List (List ℕ)) (said : Told) (read : Option Request) → IsSaid words said → starts_plain words ≡ true → request_told said ≡ read → IsReading words read
said_reads words said (Some request) is starts asks =
    let good = told_good said request asks in
    let spelled = is.spelled good in
    spelled_back spelled.0 words request spelled.1.0 (led_few spelled.0 said spelled.1.1) starts (sym (led_asks spelled.0 said spelled.1.1 good.files) ∙ asks)
said_reads words said None is starts asks = λ request spells.
    let few = asks_for words request spells in
    let leads = is.only few.arguments few.spelled few.few in
    let files : list_all is_positional said.words ≡ true = ap (list_all is_positional) leads.words ∙ all_files few.arguments words few.spelled in
    never_none request (sym asks ∙ (led_asks few.arguments said leads files ∙ few.asks))
