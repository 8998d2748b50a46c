-- Symbols, each with what is told of its name, as names are added and changed.
use Rattle.std.proofs.Common.{◌≡◌, ℕ, ◌<◌, ◌≤◌, ◌⊎◌, inl, inr, Bool, true, false, ◌||◌, List, [], ◌∷◌, ◌++◌, length, map, Option, Some, None, refl, sym, ◌∙◌, ap, subst, arith, append_assoc, append-nil}
use Rattle.std.specs.Prelude.{if◌then◌else◌, slice_set}
use Rattle.std.specs.Str.{bytes_eq}
use Rattle.std.proofs.lemmas.Bool.{cases_eq, cases_lt, true≢false}
use Rattle.std.proofs.lemmas.List.{get_or-map, get_or_append_left, get_or_push, get_or-set_other, get_or-set_same, length-set, length_push, map-append, map-set, set-get_or}
use Rattle.std.proofs.lemmas.List.Folds.{list_any-append}
use Rattle.std.proofs.lemmas.List.Quantifiers.{position-Some}
use Rattle.std.proofs.lemmas.Slice.Eq.{bytes_eq-Decides}
use Rattle.c6x_asm_lines.specs.declared.word.Word.{Word}
use Rattle.c6x_asm_lines.specs.Bytes.{bytes_at}
use Rattle.c6x_asm_object.specs.declared.definition.Definition.{Definition}
use Rattle.c6x_asm_object.specs.declared.symbol.Symbol.{Symbol}
use Rattle.c6x_asm_object.specs.Symbols.{fresh, interned, no_symbol, or_added, symbol_at, symbol_name, symbol_of}
use Rattle.c6x_asm.specs.States.{definition_of, fault_of_definition, name_changed, placed_fault}
use Rattle.c6x_asm.specs.Said.{text_of_word}
use Rattle.c6x_asm.specs.Sections.{firsts, is_among}
use Rattle.c6x_asm.proofs.Firsts.{among_all, either_way, firsts_push, found_among, not_among}

-- what is told of each name
pub record Told : Type 0 where
  pub definition : List ℕ → Option Definition
  pub global : List ℕ → Bool
  pub weak : List ℕ → Bool
  pub hidden : List ℕ → Bool

pub record IsTold (told : Told) (name : List ℕ) (s : Symbol) : Type 0 where
  pub definition : s.definition ≡ told.definition name
  pub global : s.global ≡ told.global name
  pub weak : s.weak ≡ told.weak name
  pub hidden : s.hidden ≡ told.hidden name

-- nothing is told of it
pub record IsUntold (told : Told) (name : List ℕ) : Type 0 where
  pub definition : told.definition name ≡ None
  pub global : told.global name ≡ false
  pub weak : told.weak name ≡ false
  pub hidden : told.hidden name ≡ false

abbrev pub named_in : List ℕ → List Symbol → ℕ → List ℕ
named_in text symbols i = symbol_name text (symbol_of symbols i)

-- the symbols are these names by first appearance, each with what is told of it
pub record AreTold (text : List ℕ) (all : List (List ℕ)) (told : Told) (symbols : List Symbol) : Type 0 where
  pub names : map (symbol_name text) symbols ≡ firsts [] all
  pub distinct : (i j : ℕ) → i < length symbols → j < length symbols → named_in text symbols i ≡ named_in text symbols j → i ≡ j
  pub each : (i : ℕ) → i < length symbols → IsTold told (named_in text symbols i) (symbol_of symbols i)
  pub untold : (name : List ℕ) → is_among all name ≡ false → IsUntold told name

-- the same is told
pub record IsSameTold (a b : Told) : Type 0 where
  pub definition : (name : List ℕ) → a.definition name ≡ b.definition name
  pub global : (name : List ℕ) → a.global name ≡ b.global name
  pub weak : (name : List ℕ) → a.weak name ≡ b.weak name
  pub hidden : (name : List ℕ) → a.hidden name ≡ b.hidden name

pub told_again : (text : List ℕ) (names : List (List ℕ)) (a b : Told) (symbols : List Symbol) → IsSameTold a b → AreTold text names a symbols → AreTold text names b symbols
told_again text names a b symbols same are = record {
  names = are.names;
  distinct = are.distinct;
  each = λ i inside. let is = are.each i inside in let n = named_in text symbols i in record {
    definition = is.definition ∙ same.definition n;
    global = is.global ∙ same.global n;
    weak = is.weak ∙ same.weak n;
    hidden = is.hidden ∙ same.hidden n;
  };
  untold = λ name none. let is = are.untold name none in record {
    definition = sym (same.definition name) ∙ is.definition;
    global = sym (same.global name) ∙ is.global;
    weak = sym (same.weak name) ∙ is.weak;
    hidden = sym (same.hidden name) ∙ is.hidden;
  };
}

-- a name with its place, behind names so far
pub record IsInterned (text : List ℕ) (names : List (List ℕ)) (about : Told) (name : List ℕ) (after : List Symbol × ℕ) : Type 0 where
  pub told : AreTold text (names ++ name ∷ []) about after.0
  pub inside : after.1 < length after.0
  pub named : named_in text after.0 after.1 ≡ name

either_none : (a b : Bool) → (a || b) ≡ false → a ≡ false
either_none true b is = absurd (true≢false is)
either_none false b is = refl

among_less : (names more : List (List ℕ)) (name : List ℕ) → is_among (names ++ more) name ≡ false → is_among names name ≡ false
among_less names more name is = either_none (is_among names name) (is_among more name) (sym (list_any-append (λ n. bytes_eq n name) names more) ∙ is)

pushed_names : (names : List (List ℕ)) (name : List ℕ) (b : Bool) → is_among names name ≡ b → firsts [] (names ++ name ∷ []) ≡ firsts [] names ++ (if b then [] else name ∷ [])
pushed_names names name b is = firsts_push [] names name ∙ ap (λ t. firsts [] names ++ (if t then [] else name ∷ [])) is

pub among_symbols : (text : List ℕ) (names : List (List ℕ)) (told : Told) (symbols : List Symbol) (name : List ℕ) → AreTold text names told symbols → is_among names name ≡ is_among (map (symbol_name text) symbols) name
among_symbols text names told symbols name are = sym (among_all names name) ∙ ap (λ ns. is_among ns name) (sym are.names)

found_told : (text : List ℕ) (names : List (List ℕ)) (told : Told) (symbols : List Symbol) (name : List ℕ) (i : ℕ) → i < length symbols → named_in text symbols i ≡ name → AreTold text names told symbols → IsInterned text names told name (symbols, i)
found_told text names told symbols name i inside named are =
    let among = among_symbols text names told symbols name are ∙ found_among (symbol_name text) symbols name i no_symbol inside named in
    record {
      told = record {
        names = are.names ∙ sym (pushed_names names name true among ∙ append-nil (firsts [] names));
        distinct = are.distinct;
        each = are.each;
        untold = λ n none. are.untold n (among_less names (name ∷ []) n none);
      };
      inside = inside;
      named = named;
    }

-- one symbol more
which : (symbols : List Symbol) (s : Symbol) (i : ℕ) → i < length (symbols ++ s ∷ []) → (i < length symbols) ⊎ (i ≡ length symbols)
which symbols s i inside = by (cases_lt i (length symbols))
  where
    by : (i < length symbols) ⊎ (length symbols ≤ i) → (i < length symbols) ⊎ (i ≡ length symbols)
    by (inl below) = inl below
    by (inr above) = inr (omega (arith, length_push symbols s))

old_symbol : (symbols : List Symbol) (s : Symbol) (i : ℕ) → i < length symbols → symbol_of (symbols ++ s ∷ []) i ≡ symbol_of symbols i
old_symbol symbols s i inside = get_or_append_left symbols (s ∷ []) no_symbol i inside

last_symbol : (symbols : List Symbol) (s : Symbol) (i : ℕ) → i ≡ length symbols → symbol_of (symbols ++ s ∷ []) i ≡ s
last_symbol symbols s i is = ap (symbol_of (symbols ++ s ∷ [])) is ∙ get_or_push symbols s no_symbol (length symbols) refl

apart : (text : List ℕ) (symbols : List Symbol) (s : Symbol) → is_among (map (symbol_name text) symbols) (symbol_name text s) ≡ false → ((i j : ℕ) → i < length symbols → j < length symbols → named_in text symbols i ≡ named_in text symbols j → i ≡ j) → (i j : ℕ) → (i < length symbols) ⊎ (i ≡ length symbols) → (j < length symbols) ⊎ (j ≡ length symbols) → named_in text (symbols ++ s ∷ []) i ≡ named_in text (symbols ++ s ∷ []) j → i ≡ j
apart text symbols s new distinct i j (inl first) (inl second) is = distinct i j first second (sym (ap (symbol_name text) (old_symbol symbols s i first)) ∙ is ∙ ap (symbol_name text) (old_symbol symbols s j second))
apart text symbols s new distinct i j (inl first) (inr second) is =
    absurd (true≢false (sym (found_among (symbol_name text) symbols (symbol_name text s) i no_symbol first (sym (ap (symbol_name text) (old_symbol symbols s i first)) ∙ is ∙ ap (symbol_name text) (last_symbol symbols s j second))) ∙ new))
apart text symbols s new distinct i j (inr first) (inl second) is =
    absurd (true≢false (sym (found_among (symbol_name text) symbols (symbol_name text s) j no_symbol second (sym (ap (symbol_name text) (old_symbol symbols s j second)) ∙ sym is ∙ ap (symbol_name text) (last_symbol symbols s i first))) ∙ new))
apart text symbols s new distinct i j (inr first) (inr second) is = first ∙ sym second

fresh_told : (text : List ℕ) (told : Told) (word : Word) → IsUntold told (text_of_word text word) → IsTold told (symbol_name text (fresh word)) (fresh word)
unfolding fresh
fresh_told text told word none = record { definition = sym none.definition; global = sym none.global; weak = sym none.weak; hidden = sym none.hidden }

fresh_name : (text : List ℕ) (word : Word) → symbol_name text (fresh word) ≡ text_of_word text word
unfolding fresh
fresh_name text word = refl

added_told : (text : List ℕ) (names : List (List ℕ)) (told : Told) (symbols : List Symbol) (word : Word) → is_among (map (symbol_name text) symbols) (text_of_word text word) ≡ false → AreTold text names told symbols → IsInterned text names told (text_of_word text word) (symbols ++ fresh word ∷ [], length symbols)
added_told text names told symbols word new are =
    let s = fresh word in
    let name = text_of_word text word in
    let among = among_symbols text names told symbols name are ∙ new in
    let free : is_among (map (symbol_name text) symbols) (symbol_name text s) ≡ false = ap (is_among (map (symbol_name text) symbols)) (fresh_name text word) ∙ new in
    record {
      told = record {
        names =
            map-append (symbol_name text) symbols (s ∷ [])
            ∙ ap (λ ns. ns ++ symbol_name text s ∷ []) are.names
            ∙ ap (λ n. firsts [] names ++ n ∷ []) (fresh_name text word)
            ∙ sym (pushed_names names name false among);
        distinct = λ i j first second is. apart text symbols s free are.distinct i j (which symbols s i first) (which symbols s j second) is;
        each = λ i inside. by i among (which symbols s i inside);
        untold = λ n none. are.untold n (among_less names (name ∷ []) n none);
      };
      inside = omega (arith, length_push symbols s);
      named = ap (symbol_name text) (last_symbol symbols s (length symbols) refl) ∙ fresh_name text word;
    }
  where
    by : (i : ℕ) → is_among names (text_of_word text word) ≡ false → (i < length symbols) ⊎ (i ≡ length symbols) → IsTold told (named_in text (symbols ++ fresh word ∷ []) i) (symbol_of (symbols ++ fresh word ∷ []) i)
    by i among (inl below) = subst (λ (s : Symbol). IsTold told (symbol_name text s) s) (sym (old_symbol symbols (fresh word) i below)) (are.each i below)
    by i among (inr last) = subst (λ (s : Symbol). IsTold told (symbol_name text s) s) (sym (last_symbol symbols (fresh word) i last)) (fresh_told text told word (are.untold (text_of_word text word) among))

-- a name, which is added if it is new
pub interned_told : (text : List ℕ) (names : List (List ℕ)) (told : Told) (symbols : List Symbol) (word : Word) → AreTold text names told symbols → IsInterned text names told (text_of_word text word) (interned text symbols word)
unfolding interned symbol_at
interned_told text names told symbols word are = by (symbol_at text symbols (bytes_at text word.at word.len)) refl
  where
    by : (o : Option ℕ) → symbol_at text symbols (bytes_at text word.at word.len) ≡ o → IsInterned text names told (text_of_word text word) (or_added o symbols word)
    by (Some i) is =
        let found = position-Some (λ s. bytes_eq (symbol_name text s) (bytes_at text word.at word.len)) symbols i no_symbol is in
        found_told text names told symbols (text_of_word text word) i found.0 ((bytes_eq-Decides (named_in text symbols i) (text_of_word text word)).0 found.1) are
    by None is = added_told text names told symbols word (not_among (symbol_name text) symbols (text_of_word text word) is) are

-- what a change of the symbol with this name tells
pub record IsTelling (text : List ℕ) (names : List (List ℕ)) (before : Told) (name : List ℕ) (change : Symbol → Symbol) (after : Told) : Type 0 where
  pub keeps : (s : Symbol) → symbol_name text (change s) ≡ symbol_name text s
  pub here : (s : Symbol) → IsTold before name s → IsTold after name (change s)
  pub others : (other : List ℕ) (s : Symbol) → (other ≡ name → ⊥) → IsTold before other s → IsTold after other s
  pub untold : (other : List ℕ) → is_among names other ≡ false → IsUntold after other

set_told : (text : List ℕ) (names : List (List ℕ)) (before after : Told) (name : List ℕ) (change : Symbol → Symbol) (symbols : List Symbol) (k : ℕ) → k < length symbols → named_in text symbols k ≡ name → IsTelling text names before name change after → AreTold text names before symbols → AreTold text names after (slice_set symbols k (change (symbol_of symbols k)))
set_told text names before after name change symbols k inside named tells are = record {
  names =
      map-set (symbol_name text) symbols k (change (symbol_of symbols k))
      ∙ ap (slice_set (map (symbol_name text) symbols) k) (tells.keeps (symbol_of symbols k) ∙ sym (get_or-map (symbol_name text) symbols k no_symbol [] inside))
      ∙ set-get_or (map (symbol_name text) symbols) k []
      ∙ are.names;
  distinct = λ i j first second is. are.distinct i j (omega (arith, first, length-set symbols k (change (symbol_of symbols k)))) (omega (arith, second, length-set symbols k (change (symbol_of symbols k)))) (sym (kept i (cases_eq i k)) ∙ is ∙ kept j (cases_eq j k));
  each = λ i within. by i (omega (arith, within, length-set symbols k (change (symbol_of symbols k)))) (cases_eq i k);
  untold = tells.untold;
}
  where
    kept : (i : ℕ) → (i ≡ k) ⊎ (i ≡ k → ⊥) → named_in text (slice_set symbols k (change (symbol_of symbols k))) i ≡ named_in text symbols i
    kept i (inl is) =
        ap (named_in text (slice_set symbols k (change (symbol_of symbols k)))) is
        ∙ ap (symbol_name text) (get_or-set_same symbols k (change (symbol_of symbols k)) no_symbol inside)
        ∙ tells.keeps (symbol_of symbols k)
        ∙ ap (named_in text symbols) (sym is)
    kept i (inr other) = ap (symbol_name text) (get_or-set_other symbols k i (change (symbol_of symbols k)) no_symbol other)

    by : (i : ℕ) → i < length symbols → (i ≡ k) ⊎ (i ≡ k → ⊥) → IsTold after (named_in text (slice_set symbols k (change (symbol_of symbols k))) i) (symbol_of (slice_set symbols k (change (symbol_of symbols k))) i)
    by i within (inl is) =
        let put : symbol_of (slice_set symbols k (change (symbol_of symbols k))) i ≡ change (symbol_of symbols k) = ap (symbol_of (slice_set symbols k (change (symbol_of symbols k)))) is ∙ get_or-set_same symbols k (change (symbol_of symbols k)) no_symbol inside in
        subst (λ (s : Symbol). IsTold after (symbol_name text s) s) (sym put)
        (subst (λ n. IsTold after n (change (symbol_of symbols k))) (sym (tells.keeps (symbol_of symbols k) ∙ named))
        (tells.here (symbol_of symbols k) (subst (λ n. IsTold before n (symbol_of symbols k)) named (are.each k inside))))
    by i within (inr other) =
        subst (λ (s : Symbol). IsTold after (symbol_name text s) s) (sym (get_or-set_other symbols k i (change (symbol_of symbols k)) no_symbol other))
        (tells.others (named_in text symbols i) (symbol_of symbols i) (λ same. other (are.distinct i k within inside (same ∙ sym named))) (are.each i within))

-- a name, which is added if it is new, changed
pub changed_told : (text : List ℕ) (names : List (List ℕ)) (before after : Told) (word : Word) (change : Symbol → Symbol) (symbols : List Symbol) → IsTelling text (names ++ text_of_word text word ∷ []) before (text_of_word text word) change after → AreTold text names before symbols → AreTold text (names ++ text_of_word text word ∷ []) after (name_changed text symbols word change)
unfolding name_changed
changed_told text names before after word change symbols tells are =
    let there = interned_told text names before symbols word are in
    set_told text (names ++ text_of_word text word ∷ []) before after (text_of_word text word) change (interned text symbols word).0 (interned text symbols word).1 there.inside there.named tells there.told

-- a name without a place so far
pub unplaced : (text : List ℕ) (names : List (List ℕ)) (told : Told) (symbols : List Symbol) (word : Word) → AreTold text names told symbols → placed_fault text symbols word ≡ None → told.definition (text_of_word text word) ≡ None
unfolding placed_fault symbol_at
unplaced text names told symbols word are is = by (symbol_at text symbols (bytes_at text word.at word.len)) refl is
  where
    no_place : (o : Option Definition) → fault_of_definition o ≡ None → o ≡ None
    no_place None is = refl
    no_place (Some definition) is = absurd (cc)

    by : (o : Option ℕ) → symbol_at text symbols (bytes_at text word.at word.len) ≡ o → fault_of_definition (definition_of symbols o) ≡ None → told.definition (text_of_word text word) ≡ None
    by (Some i) found none =
        let there = position-Some (λ s. bytes_eq (symbol_name text s) (bytes_at text word.at word.len)) symbols i no_symbol found in
        let named : named_in text symbols i ≡ text_of_word text word = (bytes_eq-Decides (named_in text symbols i) (text_of_word text word)).0 there.1 in
        ap told.definition (sym named) ∙ sym (are.each i there.0).definition ∙ no_place (symbol_of symbols i).definition none
    by None found none =
        (are.untold (text_of_word text word) (among_symbols text names told symbols (text_of_word text word) are ∙ not_among (symbol_name text) symbols (text_of_word text word) found)).definition

-- names behind others
firsts_then : (before names more : List (List ℕ)) → firsts before (names ++ more) ≡ firsts before names ++ firsts (before ++ names) more
firsts_then before [] more = ap (λ xs. firsts xs more) (sym (append-nil before))
firsts_then before (m ∷ names) more =
    either_way (is_among before m) m (firsts (before ++ m ∷ []) (names ++ more)) (firsts (before ++ m ∷ []) names) (firsts (before ++ m ∷ names) more)
    (firsts_then (before ++ m ∷ []) names more ∙ ap (λ xs. firsts (before ++ m ∷ []) names ++ firsts xs more) (append_assoc before (m ∷ []) names))

-- symbols are only added
pub grown_names : (text : List ℕ) (names new : List (List ℕ)) (a b : Told) (before after : List Symbol) → AreTold text names a before → AreTold text (names ++ new) b after → map (symbol_name text) after ≡ map (symbol_name text) before ++ firsts names new
grown_names text names new a b before after first next = next.names ∙ firsts_then [] names new ∙ ap (λ ns. ns ++ firsts names new) (sym first.names)
