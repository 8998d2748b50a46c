-- What clap takes is what the words say.
use Rattle.std.proofs.Common.{◌≡◌, ◌⊎◌, ℕ, ◌+◌, Bool, true, false, ◌&&◌, ◌||◌, List, [], ◌∷◌, ◌++◌, refl, sym, ◌∙◌, ap, subst, inl, inr, arith, append_assoc, append-nil}
use Rattle.std.specs.Prelude.{Option, None, Some, codes, fold, map}
use Rattle.std.specs.List.{list_all}
use Rattle.std.specs.Str.{bytes_eq}
use Rattle.std.proofs.lemmas.Slice.Eq.{bytes_eq-Decides}
use Rattle.c6x_ports.specs.declared.kind.Kind.{Kind}
use Rattle.clap.specs.Walk.{Held, Text, Walk, pushed, reacted, settled, walked}
use Rattle.clap.specs.Simple.{filled}
use Rattle.clap.specs.Faults.{settle_fault, turn_fault, use_fault}
use Rattle.clap.specs.Kinds.{Kinds}
use Rattle.c6x_cli_words.specs.Arguments.{Argument, plan_word, policy_words, seed_words, turns_word, AreSpelled, is_positional, kind_named, kinds_of, number_of, once_if, plans_of, seeds_of, times_told}
use Rattle.c6x_cli_words.specs.Told.{begins_plain, is_known, kinds_said, numbers_said, IsGood, Leads, Told}
use Rattle.c6x_cli_words.proofs.Arguments.{no_words, same_head}
use Rattle.c6x_cli_words.specs.Grammar.{turns_rule}
use Rattle.c6x_cli_words.proofs.Walks.{free_walk, open_walk, rules, shape}
use Rattle.c6x_cli_words.proofs.Walks as step
use Rattle.c6x_cli_words.proofs.Rows.{split, waited}
use Rattle.c6x_cli_words.proofs.Rows as row
use Rattle.c6x_cli_words.proofs.Shown.{Passes, Rows, first_turn, no_repeat, both_none, none_there, no_flag_there, rows_word, rows_policy, rows_seed, rows_turns}

-- a known word is one of four
abbrev pub IsOfFour : Text → Type 0
IsOfFour word = (begins_plain word ≡ true) ⊎ ((word ≡ codes "--policy") ⊎ ((word ≡ codes "--seed") ⊎ (word ≡ codes "--turns")))

either : (a b : Bool) → (a || b) ≡ true → (a ≡ true) ⊎ (b ≡ true)
either true b is = inl refl
either false b is = inr is

pub both : (a b : Bool) → (a && b) ≡ true → (a ≡ true) × (b ≡ true)
both true b is = (refl, is)
both false b is = absurd (cc)

pub of_four : (word : Text) → is_known word ≡ true → IsOfFour word
unfolding is_known
of_four word known = elim (either (begins_plain word) _ known) [
  | inl plain ↦ inl plain
  | inr option ↦ elim (either (bytes_eq word (codes "--policy")) _ option) [
    | inl is ↦ inr (inl ((bytes_eq-Decides word (codes "--policy")).0 is))
    | inr other ↦ elim (either (bytes_eq word (codes "--seed")) _ other) [
      | inl is ↦ inr (inr (inl ((bytes_eq-Decides word (codes "--seed")).0 is)))
      | inr is ↦ inr (inr (inr ((bytes_eq-Decides word (codes "--turns")).0 is)))
    ]
  ]
]

-- where what is held has no fault, its rows show what is said
abbrev pub HoldsIf : Held → Told → Type 0
HoldsIf h said = settle_fault rules false h ≡ [] → Rows (settled rules h).rows said

-- what words behind a walk that passes come to
pub record Says (w : Walk) (h : Held) (words : List Text) (said : Told) : Type 0 where
  pub settles : settle_fault rules false h ≡ []
  pub now : Told
  pub shows : Rows (settled rules (fold (walked rules []) w words).held).rows now
  pub means : IsGood now → (arguments : List Argument) × (AreSpelled arguments words × Leads said arguments now)

pub stays : (said : Told) → Leads said [] said
stays said = record {
  words = sym (append-nil _);
  kinds = sym (append-nil _);
  numbers = sym (append-nil _);
  turns = omega arith;
}

nothing_more : (later : Bool) (h : Held) (said : Told) → HoldsIf h said → Passes (free_walk later h) [] → Says (free_walk later h) h [] said
nothing_more later h said holds passes = record {
  settles = passes.ends;
  now = said;
  shows = holds passes.ends;
  means = λ good. ([], (refl, stays said));
}

-- one more word that is no option
all_behind : (p : Text → Bool) (xs ys : List Text) → list_all p (xs ++ ys) ≡ true → list_all p ys ≡ true
all_behind p [] ys all = all
all_behind p (x ∷ xs) ys all = all_behind p xs ys (both (p x) (list_all p (xs ++ ys)) all).1

pub leads_word : (said now : Told) (word : Text) (more : List Argument) → Leads (record said { words = said.words ++ word ∷ [] }) more now → Leads said (plan_word word ∷ more) now
leads_word said now word more leads = record {
  words = leads.words ∙ append_assoc said.words (word ∷ []) (plans_of more);
  kinds = leads.kinds;
  numbers = leads.numbers;
  turns = leads.turns;
}

good_word : (said now : Told) (word : Text) (more : List Argument) → Leads (record said { words = said.words ++ word ∷ [] }) more now → IsGood now → is_positional word ≡ true
good_word said now word more leads good =
    let all : list_all is_positional (said.words ++ word ∷ plans_of more) ≡ true = subst (λ ws. list_all is_positional ws ≡ true) (leads_word said now word more leads).words good.files in
    (both (is_positional word) (list_all is_positional (plans_of more)) (all_behind is_positional said.words (word ∷ plans_of more) all)).0

one_word : (later : Bool) (h : Held) (said : Told) (word : Text) (rest : List Text) → begins_plain word ≡ true → HoldsIf h said → Passes (free_walk later h) (word ∷ rest)
    → (HoldsIf (pushed (codes "words") word (settled rules h)) (record said { words = said.words ++ word ∷ [] }) → Passes (free_walk true (pushed (codes "words") word (settled rules h))) rest → Says (free_walk true (pushed (codes "words") word (settled rules h))) (pushed (codes "words") word (settled rules h)) rest (record said { words = said.words ++ word ∷ [] }))
    → Says (free_walk later h) h (word ∷ rest) said
one_word later h said word rest plain holds passes then_says =
    let turn = first_turn (free_walk later h) word rest passes in
    let settles : settle_fault rules false h ≡ [] = sym (step.plain_turn later h word plain) ∙ turn.0 in
    let after = step.plain_walked later h word plain in
    let says = then_says (λ _. rows_word (settled rules h).rows said word (holds settles)) (subst (λ w. Passes w rest) after turn.1) in
    record {
      settles = settles;
      now = says.now;
      shows = subst (λ w. Rows (settled rules (fold (walked rules []) w rest).held).rows says.now) (sym after) says.shows;
      means = λ good.
          let more = says.means good in
          (plan_word word ∷ more.0, ((rest, ((refl, good_word said says.now word more.0 more.1.1 good), more.1.0)), leads_word said says.now word more.0 more.1.1));
    }

-- a policy and its name
kind_of_it : (now : Option Text) (name : Text) (more : List (Option Kind)) → kinds_said now ≡ kind_named name ∷ more → ((other : Text) → now ≡ Some other → (kind : Kind) × (kind_named other ≡ Some kind)) → (kind : Kind) × (kind_named name ≡ Some kind)
kind_of_it None name more is good = absurd (no_words _ _ is)
kind_of_it (Some other) name more is good = ((good other refl).0, sym (same_head _ _ _ _ is) ∙ (good other refl).1)

pub leads_policy : (said now : Told) (name : Text) (kind : Kind) (more : List Argument) → said.policy ≡ None → kind_named name ≡ Some kind → Leads (record said { policy = Some name }) more now → Leads said (policy_words kind ∷ more) now
leads_policy said now name kind more free is leads = record {
  words = leads.words;
  kinds = leads.kinds ∙ (ap (λ k. k ∷ map Some (kinds_of more)) is ∙ ap (λ p. kinds_said p ++ Some kind ∷ map Some (kinds_of more)) (sym free));
  numbers = leads.numbers;
  turns = leads.turns;
}

holds_policy : (h : Held) (said : Told) (name : Text) → settle_fault rules false h ≡ [] → HoldsIf h said → settle_fault rules false (pushed (codes "policy") name (settled rules h)) ≡ [] → (said.policy ≡ None) × Rows (settled rules (pushed (codes "policy") name (settled rules h))).rows (record said { policy = Some name })
holds_policy h said name settles holds ok =
    let none = no_repeat (codes "policy") (settled rules h).rows (sym (row.policy_settles h name) ∙ ok) in
    let free = none_there (codes "policy") said.policy (settled rules h).rows (holds settles).policy none in
    (free, rows_policy (settled rules h).rows said name (holds settles) none free)

one_policy : (later : Bool) (h : Held) (said : Told) (name : Text) (rest : List Text) → begins_plain name ≡ true → HoldsIf h said → Passes (free_walk later h) (codes "--policy" ∷ name ∷ rest)
    → (HoldsIf (pushed (codes "policy") name (settled rules h)) (record said { policy = Some name }) → Passes (free_walk false (pushed (codes "policy") name (settled rules h))) rest → Says (free_walk false (pushed (codes "policy") name (settled rules h))) (pushed (codes "policy") name (settled rules h)) rest (record said { policy = Some name }))
    → Says (free_walk later h) h (codes "--policy" ∷ name ∷ rest) said
one_policy later h said name rest plain holds passes then_says =
    let turn = first_turn (free_walk later h) (codes "--policy") (name ∷ rest) passes in
    let settles : settle_fault rules false h ≡ [] = sym (step.policy_turn later h) ∙ turn.0 in
    let opens = step.policy_walked later h in
    let value = first_turn (open_walk (codes "policy") h) name rest (subst (λ w. Passes w (name ∷ rest)) opens turn.1) in
    let after = step.policy_value_walked h name plain in
    let says = then_says (λ ok. (holds_policy h said name settles holds ok).1) (subst (λ w. Passes w rest) after value.1) in
    let free = (holds_policy h said name settles holds says.settles).0 in
    record {
      settles = settles;
      now = says.now;
      shows = subst (λ w. Rows (settled rules (fold (walked rules []) (walked rules [] w name) rest).held).rows says.now) (sym opens)
          (subst (λ w. Rows (settled rules (fold (walked rules []) w rest).held).rows says.now) (sym after) says.shows);
      means = λ good.
          let more = says.means good in
          let kind = kind_of_it says.now.policy name (map Some (kinds_of more.0)) more.1.1.kinds good.kind in
          (policy_words kind.0 ∷ more.0, ((rest, ((name, (refl, kind.1)), more.1.0)), leads_policy said says.now name kind.0 more.0 free kind.1 more.1.1));
    }

-- a seed and its digits
number_of_it : (now : Option Text) (digits : Text) (more : List (Option ℕ)) → numbers_said now ≡ number_of digits ∷ more → ((other : Text) → now ≡ Some other → (number : ℕ) × (number_of other ≡ Some number)) → (number : ℕ) × (number_of digits ≡ Some number)
number_of_it None digits more is good = absurd (no_words _ _ is)
number_of_it (Some other) digits more is good = ((good other refl).0, sym (same_head _ _ _ _ is) ∙ (good other refl).1)

pub leads_seed : (said now : Told) (digits : Text) (number : ℕ) (more : List Argument) → said.seed ≡ None → number_of digits ≡ Some number → Leads (record said { seed = Some digits }) more now → Leads said (seed_words number ∷ more) now
leads_seed said now digits number more free is leads = record {
  words = leads.words;
  kinds = leads.kinds;
  numbers = leads.numbers ∙ (ap (λ n. n ∷ map Some (seeds_of more)) is ∙ ap (λ p. numbers_said p ++ Some number ∷ map Some (seeds_of more)) (sym free));
  turns = leads.turns;
}

holds_seed : (h : Held) (said : Told) (digits : Text) → settle_fault rules false h ≡ [] → HoldsIf h said → settle_fault rules false (pushed (codes "seed") digits (settled rules h)) ≡ [] → (said.seed ≡ None) × Rows (settled rules (pushed (codes "seed") digits (settled rules h))).rows (record said { seed = Some digits })
holds_seed h said digits settles holds ok =
    let none = no_repeat (codes "seed") (settled rules h).rows (sym (row.seed_settles h digits) ∙ ok) in
    let free = none_there (codes "seed") said.seed (settled rules h).rows (holds settles).seed none in
    (free, rows_seed (settled rules h).rows said digits (holds settles) none free)

one_seed : (later : Bool) (h : Held) (said : Told) (digits : Text) (rest : List Text) → begins_plain digits ≡ true → HoldsIf h said → Passes (free_walk later h) (codes "--seed" ∷ digits ∷ rest)
    → (HoldsIf (pushed (codes "seed") digits (settled rules h)) (record said { seed = Some digits }) → Passes (free_walk false (pushed (codes "seed") digits (settled rules h))) rest → Says (free_walk false (pushed (codes "seed") digits (settled rules h))) (pushed (codes "seed") digits (settled rules h)) rest (record said { seed = Some digits }))
    → Says (free_walk later h) h (codes "--seed" ∷ digits ∷ rest) said
one_seed later h said digits rest plain holds passes then_says =
    let turn = first_turn (free_walk later h) (codes "--seed") (digits ∷ rest) passes in
    let settles : settle_fault rules false h ≡ [] = sym (step.seed_turn later h) ∙ turn.0 in
    let opens = step.seed_walked later h in
    let value = first_turn (open_walk (codes "seed") h) digits rest (subst (λ w. Passes w (digits ∷ rest)) opens turn.1) in
    let after = step.seed_value_walked h digits plain in
    let says = then_says (λ ok. (holds_seed h said digits settles holds ok).1) (subst (λ w. Passes w rest) after value.1) in
    let free = (holds_seed h said digits settles holds says.settles).0 in
    record {
      settles = settles;
      now = says.now;
      shows = subst (λ w. Rows (settled rules (fold (walked rules []) (walked rules [] w digits) rest).held).rows says.now) (sym opens)
          (subst (λ w. Rows (settled rules (fold (walked rules []) w rest).held).rows says.now) (sym after) says.shows);
      means = λ good.
          let more = says.means good in
          let number = number_of_it says.now.seed digits (map Some (seeds_of more.0)) more.1.1.numbers good.number in
          (seed_words number.0 ∷ more.0, ((rest, ((digits, (refl, number.1)), more.1.0)), leads_seed said says.now digits number.0 more.0 free number.1 more.1.1));
    }

-- turns are told
pub leads_turns : (said now : Told) (more : List Argument) → said.turns ≡ false → Leads (record said { turns = true }) more now → Leads said (turns_word ∷ more) now
leads_turns said now more free leads = record {
  words = leads.words;
  kinds = leads.kinds;
  numbers = leads.numbers;
  turns = (let was : once_if said.turns ≡ 0 = ap once_if free in let is : once_if now.turns ≡ 1 + times_told more = leads.turns in omega (arith, was, is));
}

one_flag : (later : Bool) (h : Held) (said : Told) (rest : List Text) → HoldsIf h said → Passes (free_walk later h) (codes "--turns" ∷ rest)
    → (HoldsIf (reacted rules (filled turns_rule) [] h) (record said { turns = true }) → Passes (free_walk false (reacted rules (filled turns_rule) [] h)) rest → Says (free_walk false (reacted rules (filled turns_rule) [] h)) (reacted rules (filled turns_rule) [] h) rest (record said { turns = true }))
    → Says (free_walk later h) h (codes "--turns" ∷ rest) said
one_flag later h said rest holds passes then_says =
    let turn = first_turn (free_walk later h) (codes "--turns") rest passes in
    let parts = both_none (settle_fault rules false h) (use_fault false (filled turns_rule) [] (settled rules h).rows) (sym (step.turns_turn later h) ∙ turn.0) in
    let none = no_repeat (codes "turns") (settled rules h).rows (sym (row.turns_fault (settled rules h).rows) ∙ parts.1) in
    let free = no_flag_there said.turns (settled rules h).rows (holds parts.0).turns none in
    let after = step.turns_walked later h in
    let says = then_says (λ ok. rows_turns (settled rules h).rows said (holds parts.0) none free) (subst (λ w. Passes w rest) after turn.1) in
    record {
      settles = parts.0;
      now = says.now;
      shows = subst (λ w. Rows (settled rules (fold (walked rules []) w rest).held).rows says.now) (sym after) says.shows;
      means = λ good.
          let more = says.means good in
          (turns_word ∷ more.0, ((rest, (refl, more.1.0)), leads_turns said says.now more.0 free more.1.1));
    }

-- an option without a value
waited_not : (ks : Kinds) → ks ≡ waited → ks ≡ [] → ⊥
waited_not ks is none = let never : waited ≡ [] = sym is ∙ none in absurd (cc)

waits_on : (w : Walk) (id : Text) (h : Held) (word : Text) (rest : List Text) → walked rules [] w word ≡ open_walk id h → Passes w (word ∷ rest) → Passes (open_walk id h) rest
waits_on w id h word rest opens passes = subst (λ v. Passes v rest) opens (first_turn w word rest passes).1

-- no walk ends where an option waits, and none goes on with an option
policy_left : (later : Bool) (h : Held) → Passes (free_walk later h) (codes "--policy" ∷ []) → ⊥
policy_left later h passes = waited_not _ (row.policy_waits h) (waits_on (free_walk later h) (codes "policy") h (codes "--policy") [] (step.policy_walked later h) passes).ends

seed_left : (later : Bool) (h : Held) → Passes (free_walk later h) (codes "--seed" ∷ []) → ⊥
seed_left later h passes = waited_not _ (row.seed_waits h) (waits_on (free_walk later h) (codes "seed") h (codes "--seed") [] (step.seed_walked later h) passes).ends

abbrev IsOption : Text → Type 0
IsOption word = (word ≡ codes "--policy") ⊎ ((word ≡ codes "--seed") ⊎ (word ≡ codes "--turns"))

policy_cut : (later : Bool) (h : Held) (word : Text) (rest : List Text) → IsOption word → Passes (free_walk later h) (codes "--policy" ∷ word ∷ rest) → ⊥
policy_cut later h word rest option passes =
    let turn = (first_turn (open_walk (codes "policy") h) word rest (waits_on (free_walk later h) (codes "policy") h (codes "--policy") (word ∷ rest) (step.policy_walked later h) passes)).0 in
    elim option [
      | inl is ↦ waited_not _ (row.policy_policy h) (subst (λ w. turn_fault shape [] (open_walk (codes "policy") h) w ≡ []) is turn)
      | inr other ↦ elim other [
        | inl is ↦ waited_not _ (row.policy_seed h) (subst (λ w. turn_fault shape [] (open_walk (codes "policy") h) w ≡ []) is turn)
        | inr is ↦ waited_not _ (row.policy_turns h) (subst (λ w. turn_fault shape [] (open_walk (codes "policy") h) w ≡ []) is turn)
      ]
    ]

seed_cut : (later : Bool) (h : Held) (word : Text) (rest : List Text) → IsOption word → Passes (free_walk later h) (codes "--seed" ∷ word ∷ rest) → ⊥
seed_cut later h word rest option passes =
    let turn = (first_turn (open_walk (codes "seed") h) word rest (waits_on (free_walk later h) (codes "seed") h (codes "--seed") (word ∷ rest) (step.seed_walked later h) passes)).0 in
    elim option [
      | inl is ↦ waited_not _ (row.seed_policy h) (subst (λ w. turn_fault shape [] (open_walk (codes "seed") h) w ≡ []) is turn)
      | inr other ↦ elim other [
        | inl is ↦ waited_not _ (row.seed_seed h) (subst (λ w. turn_fault shape [] (open_walk (codes "seed") h) w ≡ []) is turn)
        | inr is ↦ waited_not _ (row.seed_turns h) (subst (λ w. turn_fault shape [] (open_walk (codes "seed") h) w ≡ []) is turn)
      ]
    ]

-- What a walk without a fault comes to, from what was said before.
pub sound : (words : List Text) (later : Bool) (h : Held) (said : Told) → list_all is_known words ≡ true → HoldsIf h said → Passes (free_walk later h) words → Says (free_walk later h) h words said
sound [] later h said known holds passes = nothing_more later h said holds passes
sound (word ∷ []) later h said known holds passes =
    elim (of_four word (both _ _ known).0) [
      | inl plain ↦ one_word later h said word [] plain holds passes (λ holds_then passes_then. sound [] true _ _ refl holds_then passes_then)
      | inr option ↦ elim option [
        | inl is ↦ absurd (policy_left later h (subst (λ w. Passes (free_walk later h) (w ∷ [])) is passes))
        | inr other ↦ elim other [
          | inl is ↦ absurd (seed_left later h (subst (λ w. Passes (free_walk later h) (w ∷ [])) is passes))
          | inr is ↦ subst (λ w. Says (free_walk later h) h (w ∷ []) said) (sym is)
              (one_flag later h said [] holds (subst (λ w. Passes (free_walk later h) (w ∷ [])) is passes) (λ holds_then passes_then. sound [] false _ _ refl holds_then passes_then))
        ]
      ]
    ]
sound (word ∷ value ∷ rest) later h said known holds passes =
    let all = both (is_known word) (list_all is_known (value ∷ rest)) known in
    let more = both (is_known value) (list_all is_known rest) all.1 in
    elim (of_four word all.0) [
      | inl plain ↦ one_word later h said word (value ∷ rest) plain holds passes (λ holds_then passes_then. sound (value ∷ rest) true _ _ all.1 holds_then passes_then)
      | inr option ↦ elim option [
        | inl is ↦ (let passing = subst (λ w. Passes (free_walk later h) (w ∷ value ∷ rest)) is passes in
            subst (λ w. Says (free_walk later h) h (w ∷ value ∷ rest) said) (sym is)
            (elim (of_four value more.0) [
              | inl plain ↦ one_policy later h said value rest plain holds passing (λ holds_then passes_then. sound rest false _ _ more.1 holds_then passes_then)
              | inr cut ↦ absurd (policy_cut later h value rest cut passing)
            ]))
        | inr other ↦ elim other [
          | inl is ↦ (let passing = subst (λ w. Passes (free_walk later h) (w ∷ value ∷ rest)) is passes in
              subst (λ w. Says (free_walk later h) h (w ∷ value ∷ rest) said) (sym is)
              (elim (of_four value more.0) [
                | inl plain ↦ one_seed later h said value rest plain holds passing (λ holds_then passes_then. sound rest false _ _ more.1 holds_then passes_then)
                | inr cut ↦ absurd (seed_cut later h value rest cut passing)
              ]))
          | inr is ↦ subst (λ w. Says (free_walk later h) h (w ∷ value ∷ rest) said) (sym is)
              (one_flag later h said (value ∷ rest) holds (subst (λ w. Passes (free_walk later h) (w ∷ value ∷ rest)) is passes) (λ holds_then passes_then. sound (value ∷ rest) false _ _ all.1 holds_then passes_then))
        ]
      ]
    ]
