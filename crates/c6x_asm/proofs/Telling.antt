-- What a line tells of names, and the relocations that it adds.
use Rattle.std.proofs.Common.{◌≡◌, ℕ, ◌+◌, ◌<◌, Bool, true, false, ◌&&◌, ◌||◌, List, [], ◌∷◌, ◌++◌, length, position, Option, Some, None, refl, sym, ◌∙◌, ap, subst, append_assoc, append-nil}
use Rattle.std.specs.Prelude.{if◌then◌else◌}
use Rattle.std.specs.Str.{bytes_eq}
use Rattle.std.proofs.lemmas.Bool.{true≢false}
use Rattle.std.proofs.lemmas.List.Folds.{list_any-append}
use Rattle.std.proofs.lemmas.List.Quantifiers.{position-Some}
use Rattle.std.proofs.lemmas.Slice.Eq.{bytes_eq-Decides}
use Rattle.c6x_elf.specs.Abi.{SHN_ABS}
use Rattle.c6x_asm_lines.specs.declared.rule.AsmRule.{AsmRule}
use Rattle.c6x_asm_lines.specs.declared.word.Word.{Word}
use Rattle.c6x_asm_lines.specs.Rules.{lowest}
use Rattle.c6x_asm_instr.specs.declared.directive.Directive.TheVariants.{Attribute as SetAttribute, Common, Set}
use Rattle.c6x_asm_instr.specs.declared.symbol_attribute.SymbolAttribute.{SymbolAttribute}
use Rattle.c6x_asm_instr.specs.declared.symbol_attribute.SymbolAttribute.TheVariants.{Global, Weak, Hidden}
use Rattle.c6x_asm_object.specs.declared.asm_section.AsmSection.{AsmSection}
use Rattle.c6x_asm_object.specs.declared.definition.Definition.{Definition}
use Rattle.c6x_asm_object.specs.declared.symbol.Symbol.{Symbol}
use Rattle.c6x_asm_object.specs.Named.{section_name}
use Rattle.c6x_asm_object.specs.Sections.{no_section, section_at}
use Rattle.c6x_asm_object.specs.Symbols.{symbol_name}
use Rattle.c6x_asm.specs.States.{State, label_definition, label_fault, labelled, name_changed, placed_at, placed_fault, section_fault, with_attribute}
use Rattle.c6x_asm.specs.Directives.{common_section}
use Rattle.c6x_asm.specs.StepLines.{after_label, fault_of_label}
use Rattle.c6x_asm.specs.Said.{Saying, says_directive, Said, text_of_word}
use Rattle.c6x_asm.specs.Sections.{behind_lines, contents, is_among, lines_in, names_of_sections}
use Rattle.c6x_asm.specs.Symbols.{all_named, attributes, first_place, has_attribute, is_attribute, label_place, number_or, place_given, place_in, placed_by_label, placed_by_saying, saying_names, word_names}
use Rattle.c6x_asm.proofs.Firsts.{found_among, not_among, position_names}
use Rattle.c6x_asm.proofs.Lined.{IsMeant, differ, name_of, there}
use Rattle.c6x_asm.proofs.Told.{AreTold, IsSameTold, IsTelling, IsTold, IsUntold, Told, changed_told, told_again, unplaced}

-- what lines tell
abbrev pub told_of : List ℕ → List Said → Told
told_of text said = record {
  definition = λ n. place_given text [] said n;
  global = λ n. has_attribute text Global n said;
  weak = λ n. has_attribute text Weak n said;
  hidden = λ n. has_attribute text Hidden n said;
}

-- with the label of the line behind them
abbrev pub told_label : List ℕ → List Said → Option Word → Told
told_label text said label = record {
  definition = λ n. first_place (place_given text [] said n) (placed_by_label text said label n);
  global = λ n. has_attribute text Global n said;
  weak = λ n. has_attribute text Weak n said;
  hidden = λ n. has_attribute text Hidden n said;
}

-- and with all that the line says
abbrev pub told_line : List ℕ → List Said → Option Word → Saying → Told
told_line text said label saying = record {
  definition = λ n. first_place (first_place (place_given text [] said n) (placed_by_label text said label n)) (placed_by_saying text saying n);
  global = λ n. has_attribute text Global n said || attributes text Global n saying;
  weak = λ n. has_attribute text Weak n said || attributes text Weak n saying;
  hidden = λ n. has_attribute text Hidden n said || attributes text Hidden n saying;
}

first_none : (o : Option Definition) → first_place o None ≡ o
first_none None = refl
first_none (Some place) = refl

first_assoc : (a b c : Option Definition) → first_place (first_place a b) c ≡ first_place a (first_place b c)
first_assoc None b c = refl
first_assoc (Some place) b c = refl

or_false : (b : Bool) → (b || false) ≡ b
or_false true = refl
or_false false = refl

or_true : (b : Bool) → (b || true) ≡ true
or_true true = refl
or_true false = refl

-- the place that one more line gives
place_push : (text : List ℕ) (before said : List Said) (l : Said) (n : List ℕ) → place_given text before (said ++ l ∷ []) n ≡ first_place (place_given text before said n) (first_place (placed_by_label text (before ++ said) l.label n) (placed_by_saying text l.saying n))
place_push text before [] l n =
    first_none (first_place (placed_by_label text before l.label n) (placed_by_saying text l.saying n))
    ∙ ap (λ b. first_place (placed_by_label text b l.label n) (placed_by_saying text l.saying n)) (sym (append-nil before))
place_push text before (x ∷ said) l n =
    let here = first_place (placed_by_label text before x.label n) (placed_by_saying text x.saying n) in
    ap (first_place here) (place_push text (before ++ x ∷ []) said l n ∙ ap (λ b. first_place (place_given text (before ++ x ∷ []) said n) (first_place (placed_by_label text b l.label n) (placed_by_saying text l.saying n))) (append_assoc before (x ∷ []) said))
    ∙ sym (first_assoc here (place_given text (before ++ x ∷ []) said n) (first_place (placed_by_label text (before ++ (x ∷ said)) l.label n) (placed_by_saying text l.saying n)))

attribute_push : (text : List ℕ) (attribute : SymbolAttribute) (n : List ℕ) (said : List Said) (l : Said) → has_attribute text attribute n (said ++ l ∷ []) ≡ (has_attribute text attribute n said || attributes text attribute n l.saying)
attribute_push text attribute n said l =
    list_any-append (λ (m : Said). attributes text attribute n m.saying) said (l ∷ []) ∙ ap (λ b. has_attribute text attribute n said || b) (or_false (attributes text attribute n l.saying))

pub named_push : (text : List ℕ) (said : List Said) (l : Said) → all_named text (said ++ l ∷ []) ≡ (all_named text said ++ word_names text l.label) ++ saying_names text l.saying
named_push text [] l = ap (λ ns. word_names text l.label ++ ns) (append-nil (saying_names text l.saying))
named_push text (x ∷ said) l =
    let a = word_names text x.label in
    let b = saying_names text x.saying in
    let c = all_named text said in
    let d = word_names text l.label in
    let e = saying_names text l.saying in
    ap (λ ns. a ++ (b ++ ns)) (named_push text said l)
    ∙ ap (λ ns. a ++ ns) (sym (append_assoc b (c ++ d) e) ∙ ap (λ ns. ns ++ e) (sym (append_assoc b c d)))
    ∙ sym (append_assoc a ((b ++ c) ++ d) e)
    ∙ ap (λ ns. ns ++ e) (sym (append_assoc a (b ++ c) d))

pub line_told : (text : List ℕ) (said : List Said) (l : Said) → IsSameTold (told_line text said l.label l.saying) (told_of text (said ++ l ∷ []))
line_told text said l = record {
  definition = λ n. first_assoc (place_given text [] said n) (placed_by_label text said l.label n) (placed_by_saying text l.saying n) ∙ sym (place_push text [] said l n);
  global = λ n. sym (attribute_push text Global n said l);
  weak = λ n. sym (attribute_push text Weak n said l);
  hidden = λ n. sym (attribute_push text Hidden n said l);
}

-- a line that gives no name a place or an attribute
pub record IsPlain (text : List ℕ) (s : Saying) : Type 0 where
  pub places : (n : List ℕ) → placed_by_saying text s n ≡ None
  pub attributes : (attribute : SymbolAttribute) (n : List ℕ) → attributes text attribute n s ≡ false

pub plain_told : (text : List ℕ) (said : List Said) (label : Option Word) (s : Saying) → IsPlain text s → IsSameTold (told_label text said label) (told_line text said label s)
plain_told text said label s plain = record {
  definition = λ n. let first = first_place (place_given text [] said n) (placed_by_label text said label n) in sym (ap (first_place first) (plain.places n) ∙ first_none first);
  global = λ n. sym (ap (λ b. has_attribute text Global n said || b) (plain.attributes Global n) ∙ or_false (has_attribute text Global n said));
  weak = λ n. sym (ap (λ b. has_attribute text Weak n said || b) (plain.attributes Weak n) ∙ or_false (has_attribute text Weak n said));
  hidden = λ n. sym (ap (λ b. has_attribute text Hidden n said || b) (plain.attributes Hidden n) ∙ or_false (has_attribute text Hidden n said));
}

-- the number of the section that lines go to
here_number : (text : List ℕ) (said : List Said) (sections : List AsmSection) (i : ℕ) (here : List ℕ) → i < length sections → name_of text sections i ≡ here → IsMeant text said sections (Some i) → position (λ name. bytes_eq name here) (names_of_sections text said) ≡ Some i
here_number text said sections i here inside named meant =
    ap (position (λ name. bytes_eq name here)) (sym meant.names) ∙ position_names (section_name text) sections here ∙ by (position (λ p. bytes_eq (section_name text p) here) sections) refl
  where
    by : (o : Option ℕ) → position (λ p. bytes_eq (section_name text p) here) sections ≡ o → o ≡ Some i
    by (Some k) is =
        let found = position-Some (λ p. bytes_eq (section_name text p) here) sections k no_section is in
        ap Some (meant.distinct k i found.0 inside ((bytes_eq-Decides (name_of text sections k) here).0 found.1 ∙ sym named))
    by None is =
        absurd (true≢false (sym (found_among (section_name text) sections here i no_section inside named) ∙ not_among (section_name text) sections here is))

-- the place of a label is behind the bytes of its section
pub label_there : (text : List ℕ) (said : List Said) (sections : List AsmSection) (now : Option ℕ) → section_fault now ≡ None → IsMeant text said sections now → label_definition sections now ≡ label_place text said
label_there text said sections None is meant = absurd (cc)
label_there text said sections (Some i) is meant =
    let at = there text sections i (behind_lines text None said) meant.here in
    let size : (section_at sections i).size ≡ length (contents 0 (lines_in text at.name None said)) = (meant.each i at.inside).is.size ∙ ap (λ n. length (contents 0 (lines_in text n None said))) at.named in
    let section : i + 1 ≡ number_or (position (λ name. bytes_eq name at.name) (names_of_sections text said)) = sym (ap number_or (here_number text said sections i at.name at.inside at.named meant)) in
    (λ j. record { section = section j; value = size j; size = 0 }) ∙ sym (ap (place_in text said) at.is)

both_none : (a b : Option AsmRule) → lowest a b ≡ None → (a ≡ None) × (b ≡ None)
both_none None b is = (refl, is)
both_none (Some a) None is = absurd (cc)
both_none (Some a) (Some b) is = absurd (cc)

pub same_bytes : (n : List ℕ) → bytes_eq n n ≡ true
same_bytes n = (bytes_eq-Decides n n).1 refl

pub other_bytes : (n other : List ℕ) → (other ≡ n → ⊥) → bytes_eq n other ≡ false
other_bytes n other apart = differ n other (λ is. apart (sym is))

-- a name that stands not among others and one more
pub neither : (names : List (List ℕ)) (n other : List ℕ) → is_among (names ++ n ∷ []) other ≡ false → (is_among names other ≡ false) × (bytes_eq n other ≡ false)
neither names n other is = parts (is_among names other) (bytes_eq n other) (sym (list_any-append (λ m. bytes_eq m other) names (n ∷ [])) ∙ is)
  where
    parts : (a b : Bool) → (a || (b || false)) ≡ false → (a ≡ false) × (b ≡ false)
    parts true b is = absurd (true≢false is)
    parts false true is = absurd (true≢false is)
    parts false false is = (refl, refl)

-- a place for a name that has none
placed_telling : (text : List ℕ) (names : List (List ℕ)) (before after : Told) (n : List ℕ) (place : Definition) → before.definition n ≡ None → ((m : List ℕ) → after.definition m ≡ first_place (before.definition m) (if bytes_eq n m then Some place else None)) → ((m : List ℕ) → after.global m ≡ before.global m) → ((m : List ℕ) → after.weak m ≡ before.weak m) → ((m : List ℕ) → after.hidden m ≡ before.hidden m) → ((m : List ℕ) → is_among names m ≡ false → IsUntold before m) → IsTelling text (names ++ n ∷ []) before n (placed_at place) after
placed_telling text names before after n place free definition global weak hidden untold = record {
  keeps = λ s. refl;
  here = λ s is. record {
    definition = sym (definition n ∙ ap (λ o. first_place o (if bytes_eq n n then Some place else None)) free ∙ ap (λ b. if b then Some place else None) (same_bytes n));
    global = is.global ∙ sym (global n);
    weak = is.weak ∙ sym (weak n);
    hidden = is.hidden ∙ sym (hidden n);
  };
  others = λ other s apart is. record {
    definition = is.definition ∙ sym (definition other ∙ ap (λ b. first_place (before.definition other) (if b then Some place else None)) (other_bytes n other apart) ∙ first_none (before.definition other));
    global = is.global ∙ sym (global other);
    weak = is.weak ∙ sym (weak other);
    hidden = is.hidden ∙ sym (hidden other);
  };
  untold = λ other none. let parts = neither names n other none in let is = untold other parts.0 in record {
    definition = definition other ∙ ap (λ b. first_place (before.definition other) (if b then Some place else None)) parts.1 ∙ first_none (before.definition other) ∙ is.definition;
    global = global other ∙ is.global;
    weak = weak other ∙ is.weak;
    hidden = hidden other ∙ is.hidden;
  };
}

-- a name given a place
pub placed_told : (text : List ℕ) (names : List (List ℕ)) (before after : Told) (word : Word) (place : Definition) (symbols : List Symbol) → placed_fault text symbols word ≡ None → ((m : List ℕ) → after.definition m ≡ first_place (before.definition m) (if bytes_eq (text_of_word text word) m then Some place else None)) → ((m : List ℕ) → after.global m ≡ before.global m) → ((m : List ℕ) → after.weak m ≡ before.weak m) → ((m : List ℕ) → after.hidden m ≡ before.hidden m) → AreTold text names before symbols → AreTold text (names ++ text_of_word text word ∷ []) after (name_changed text symbols word (placed_at place))
placed_told text names before after word place symbols free definition global weak hidden are =
    changed_told text names before after word (placed_at place) symbols
    (placed_telling text names before after (text_of_word text word) place (unplaced text names before symbols word are free) definition global weak hidden are.untold) are

-- a label
pub label_told : (text : List ℕ) (said : List Said) (label : Option Word) (s : State) → fault_of_label text s label ≡ None → IsMeant text said s.sections s.now → AreTold text (all_named text said) (told_of text said) s.symbols → AreTold text (all_named text said ++ word_names text label) (told_label text said label) (after_label text s label).symbols
unfolding label_fault labelled
label_told text said None s none meant are =
    told_again text (all_named text said ++ []) (told_of text said) (told_label text said None) s.symbols
    (record { definition = λ n. sym (first_none (place_given text [] said n)); global = λ n. refl; weak = λ n. refl; hidden = λ n. refl })
    (subst (λ ns. AreTold text ns (told_of text said) s.symbols) (sym (append-nil (all_named text said))) are)
label_told text said (Some word) s none meant are =
    let both = both_none (placed_fault text s.symbols word) (section_fault s.now) none in
    let there = label_there text said s.sections s.now both.1 meant in
    placed_told text (all_named text said) (told_of text said) (told_label text said (Some word)) word (label_definition s.sections s.now) s.symbols both.0
    (λ m. ap (λ place. first_place (place_given text [] said m) (if bytes_eq (text_of_word text word) m then Some place else None)) (sym there))
    (λ m. refl) (λ m. refl) (λ m. refl) are

and_false : (b : Bool) → (b && false) ≡ false
and_false true = refl
and_false false = refl

other_attribute : (text : List ℕ) (a attribute : SymbolAttribute) (word : Word) (m : List ℕ) → bytes_eq (text_of_word text word) m ≡ false → attributes text a m (says_directive (SetAttribute attribute word)) ≡ false
other_attribute text a attribute word m is = ap (λ b. is_attribute a attribute && b) is ∙ and_false (is_attribute a attribute)

-- of an attribute that is given or not
given_or : (text : List ℕ) (a attribute : SymbolAttribute) (word : Word) (has : Bool) → (has || attributes text a (text_of_word text word) (says_directive (SetAttribute attribute word))) ≡ (has || is_attribute a attribute)
given_or text a attribute word has = ap (λ b. has || (is_attribute a attribute && b)) (same_bytes (text_of_word text word)) ∙ ap (λ b. has || b) (and_true (is_attribute a attribute))
  where
    and_true : (b : Bool) → (b && true) ≡ b
    and_true true = refl
    and_true false = refl

-- an attribute
attribute_here : (text : List ℕ) (said : List Said) (label : Option Word) (attribute : SymbolAttribute) (word : Word) (s : Symbol) → IsTold (told_label text said label) (text_of_word text word) s → IsTold (told_line text said label (says_directive (SetAttribute attribute word))) (text_of_word text word) (with_attribute attribute s)
attribute_here text said label Global word s is =
    let n = text_of_word text word in
    record {
      definition = is.definition ∙ sym (first_none (first_place (place_given text [] said n) (placed_by_label text said label n)));
      global = sym (given_or text Global Global word (has_attribute text Global n said) ∙ or_true (has_attribute text Global n said));
      weak = is.weak ∙ sym (given_or text Weak Global word (has_attribute text Weak n said) ∙ or_false (has_attribute text Weak n said));
      hidden = is.hidden ∙ sym (given_or text Hidden Global word (has_attribute text Hidden n said) ∙ or_false (has_attribute text Hidden n said));
    }
attribute_here text said label Weak word s is =
    let n = text_of_word text word in
    record {
      definition = is.definition ∙ sym (first_none (first_place (place_given text [] said n) (placed_by_label text said label n)));
      global = is.global ∙ sym (given_or text Global Weak word (has_attribute text Global n said) ∙ or_false (has_attribute text Global n said));
      weak = sym (given_or text Weak Weak word (has_attribute text Weak n said) ∙ or_true (has_attribute text Weak n said));
      hidden = is.hidden ∙ sym (given_or text Hidden Weak word (has_attribute text Hidden n said) ∙ or_false (has_attribute text Hidden n said));
    }
attribute_here text said label Hidden word s is =
    let n = text_of_word text word in
    record {
      definition = is.definition ∙ sym (first_none (first_place (place_given text [] said n) (placed_by_label text said label n)));
      global = is.global ∙ sym (given_or text Global Hidden word (has_attribute text Global n said) ∙ or_false (has_attribute text Global n said));
      weak = is.weak ∙ sym (given_or text Weak Hidden word (has_attribute text Weak n said) ∙ or_false (has_attribute text Weak n said));
      hidden = sym (given_or text Hidden Hidden word (has_attribute text Hidden n said) ∙ or_true (has_attribute text Hidden n said));
    }

attribute_keeps : (text : List ℕ) (attribute : SymbolAttribute) (s : Symbol) → symbol_name text (with_attribute attribute s) ≡ symbol_name text s
attribute_keeps text Global s = refl
attribute_keeps text Weak s = refl
attribute_keeps text Hidden s = refl

attribute_telling : (text : List ℕ) (names : List (List ℕ)) (said : List Said) (label : Option Word) (attribute : SymbolAttribute) (word : Word) → ((m : List ℕ) → is_among names m ≡ false → IsUntold (told_label text said label) m) → IsTelling text (names ++ text_of_word text word ∷ []) (told_label text said label) (text_of_word text word) (with_attribute attribute) (told_line text said label (says_directive (SetAttribute attribute word)))
attribute_telling text names said label attribute word untold = record {
  keeps = attribute_keeps text attribute;
  here = attribute_here text said label attribute word;
  others = λ m s apart is. let other = other_bytes (text_of_word text word) m apart in record {
    definition = is.definition ∙ sym (first_none (first_place (place_given text [] said m) (placed_by_label text said label m)));
    global = is.global ∙ sym (ap (λ b. has_attribute text Global m said || b) (other_attribute text Global attribute word m other) ∙ or_false (has_attribute text Global m said));
    weak = is.weak ∙ sym (ap (λ b. has_attribute text Weak m said || b) (other_attribute text Weak attribute word m other) ∙ or_false (has_attribute text Weak m said));
    hidden = is.hidden ∙ sym (ap (λ b. has_attribute text Hidden m said || b) (other_attribute text Hidden attribute word m other) ∙ or_false (has_attribute text Hidden m said));
  };
  untold = λ m none. let parts = neither names (text_of_word text word) m none in let is = untold m parts.0 in record {
    definition = first_none (first_place (place_given text [] said m) (placed_by_label text said label m)) ∙ is.definition;
    global = ap (λ b. has_attribute text Global m said || b) (other_attribute text Global attribute word m parts.1) ∙ or_false (has_attribute text Global m said) ∙ is.global;
    weak = ap (λ b. has_attribute text Weak m said || b) (other_attribute text Weak attribute word m parts.1) ∙ or_false (has_attribute text Weak m said) ∙ is.weak;
    hidden = ap (λ b. has_attribute text Hidden m said || b) (other_attribute text Hidden attribute word m parts.1) ∙ or_false (has_attribute text Hidden m said) ∙ is.hidden;
  };
}

pub attribute_told : (text : List ℕ) (names : List (List ℕ)) (said : List Said) (label : Option Word) (attribute : SymbolAttribute) (word : Word) (symbols : List Symbol) → AreTold text names (told_label text said label) symbols → AreTold text (names ++ text_of_word text word ∷ []) (told_line text said label (says_directive (SetAttribute attribute word))) (name_changed text symbols word (with_attribute attribute))
attribute_told text names said label attribute word symbols are =
    changed_told text names (told_label text said label) (told_line text said label (says_directive (SetAttribute attribute word))) word (with_attribute attribute) symbols
    (attribute_telling text names said label attribute word are.untold) are

-- a place by a directive
pub common_told : (text : List ℕ) (names : List (List ℕ)) (said : List Said) (label : Option Word) (word : Word) (size align : ℕ) (near : Bool) (symbols : List Symbol) → placed_fault text symbols word ≡ None → AreTold text names (told_label text said label) symbols → AreTold text (names ++ text_of_word text word ∷ []) (told_line text said label (says_directive (Common word size align near))) (name_changed text symbols word (placed_at (record { section = common_section near; value = align; size = size })))
common_told text names said label word size align near symbols free are =
    placed_told text names (told_label text said label) (told_line text said label (says_directive (Common word size align near))) word (record { section = common_section near; value = align; size = size }) symbols free
    (λ m. refl) (λ m. or_false (has_attribute text Global m said)) (λ m. or_false (has_attribute text Weak m said)) (λ m. or_false (has_attribute text Hidden m said)) are

pub set_told_by : (text : List ℕ) (names : List (List ℕ)) (said : List Said) (label : Option Word) (word : Word) (value : ℕ) (symbols : List Symbol) → placed_fault text symbols word ≡ None → AreTold text names (told_label text said label) symbols → AreTold text (names ++ text_of_word text word ∷ []) (told_line text said label (says_directive (Set word value))) (name_changed text symbols word (placed_at (record { section = SHN_ABS; value = value; size = 0 })))
set_told_by text names said label word value symbols free are =
    placed_told text names (told_label text said label) (told_line text said label (says_directive (Set word value))) word (record { section = SHN_ABS; value = value; size = 0 }) symbols free
    (λ m. refl) (λ m. or_false (has_attribute text Global m said)) (λ m. or_false (has_attribute text Weak m said)) (λ m. or_false (has_attribute text Hidden m said)) are
