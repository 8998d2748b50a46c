-- What a line is refused for is the lowest rule that it breaks.
use Rattle.std.proofs.Common.{◌≡◌, ℕ, ◌+◌, ◌<◌, ◌≤◌, ◌%◌, ◌==◌, ◌⊎◌, inl, inr, Bool, true, false, not, ◌||◌, List, [], ◌∷◌, ◌++◌, length, take, Option, Some, None, Result, Ok, Err, refl, sym, ◌∙◌, ap, subst, arith}
use Rattle.std.specs.Prelude.{if◌then◌else◌}
use Rattle.std.specs.Int.{to_le_bytes, w32}
use Rattle.std.specs.Str.{bytes_eq}
use Rattle.std.proofs.lemmas.Bool.{eqb-true, true≢false}
use Rattle.std.proofs.lemmas.Bool.Decides.{nat_tests}
use Rattle.std.proofs.lemmas.List.{get_or-set_same, length-replicate, length-set, length-take}
use Rattle.std.proofs.lemmas.List.Quantifiers.{position-Some}
use Rattle.std.proofs.lemmas.Slice.Eq.{bytes_eq-Decides}
use Rattle.c6x_elf.specs.Abi.{SHN_ABS}
use Rattle.c6x_encoding.proofs.Facts.{encoded-spelled, spells-encoded}
use Rattle.c6x_encoding.specs.Spelling.{Spells}
use Rattle.c6x_asm_lines.specs.declared.line.Line.{Line}
use Rattle.c6x_asm_lines.specs.declared.line.Statement.{Statement}
use Rattle.c6x_asm_lines.specs.declared.rule.AsmRule.{AsmRule}
use Rattle.c6x_asm_lines.specs.declared.rule.AsmRule.TheVariants.{Syntax, UnknownWord, Operand, DuplicateLabel, NoSection, Large}
use Rattle.c6x_asm_lines.specs.declared.word.Word.{Word}
use Rattle.c6x_asm_lines.specs.Bytes.{bytes_at}
use Rattle.c6x_asm_lines.specs.Grammar.{is_dotted}
use Rattle.c6x_asm_lines.specs.Rules.{lowest, number_of}
use Rattle.c6x_asm_lines.specs.declared.relocatable.Field.{Field}
use Rattle.c6x_asm_lines.specs.declared.relocatable.RelocatableOp.{RelocatableOp}
use Rattle.c6x_asm_instr.specs.Instructions.{instruction_of}
use Rattle.c6x_asm_instr.specs.declared.directive.Directive.{Directive}
use Rattle.c6x_asm_instr.specs.declared.directive.Directive.TheVariants.{Section, Numbers, Space, Align, Attribute as SetAttribute, Common, Set}
use Rattle.c6x_asm_instr.specs.declared.keyword.Keyword.{Keyword}
use Rattle.c6x_asm_instr.specs.Directives.{directive_by}
use Rattle.c6x_asm_instr.specs.Keywords.{keyword_of}
use Rattle.c6x_asm_instr.specs.Kinds.{kinds_from}
use Rattle.c6x_asm_object.specs.declared.asm_section.AsmSection.{AsmSection}
use Rattle.c6x_asm_object.specs.declared.definition.Definition.{Definition}
use Rattle.c6x_asm_object.specs.declared.reloc_entry.RelocEntry.{RelocEntry}
use Rattle.c6x_asm_object.specs.declared.symbol.Symbol.{Symbol}
use Rattle.c6x_asm_object.specs.Kinds.{kind_named}
use Rattle.c6x_asm_object.specs.Sections.{changed, is_zero, no_section, padding, section_at, with_align, with_number, with_zeros}
use Rattle.c6x_asm_object.specs.Symbols.{no_symbol, symbol_at, symbol_name}
use Rattle.c6x_asm.specs.States.{State, definition_of, fault_of_definition, label_definition, label_fault, labelled, placed_at, placed_fault, relocated, section_fault}
use Rattle.c6x_asm.specs.Directives.{applied, common_section, given_place, has_room, in_section, with_alignment, with_field, with_fields, with_space}
use Rattle.c6x_asm.specs.Instructions.{chain_fault, ends_at, fails, instructed, instruction_fault, is_behind, place_fault, with_made, with_word, word_of}
use Rattle.c6x_asm.specs.StepLines.{after_label, fault_of_label, is_numbers, numbers_fault, stated, stepped, with_keyword, with_statement, zero_fault}
use Rattle.c6x_asm.proofs.Results.{kept}
use Rattle.c6x_asm.specs.Said.{Saying, says_directive, says_instruction, Said, Says, directive_said, instruction_said, text_of_word}
use Rattle.c6x_asm.specs.Sections.{behind_lines, is_among, last_end, lines_in}
use Rattle.c6x_asm.specs.Symbols.{all_named, place_given}
use Rattle.c6x_asm.specs.Breaking.{BreaksDirective, unknown, wrong_operands, numbers_of_zeros, misplaced, BreaksInstruction, wrong_words, wrong_place, wordless, BreaksLabel, label_again, label_nowhere, BreaksStatement, wrong_kinds, by_directive, by_instruction, EndsHere, GoesNowhere, GoesTo, HasPlace, IsLabel, MisplacesDirective, filling_nowhere, placed_again, MisplacesInstruction, joins_nothing, word_nowhere, word_of_zeros, word_between, Overfills, PutsNumbers, bytes_so_far, fills, most_bytes, numbers_room, placed_name, room_for}
use Rattle.c6x_asm.proofs.Firsts.{not_among}
use Rattle.c6x_asm.proofs.Grown.{number_grown}
use Rattle.c6x_asm.proofs.Fulfilled.{IsWhole}
use Rattle.c6x_asm.proofs.Least.{Finds, Holds, IsLowest, IsRoomy, IsUnion, Judges, finds_lowest, judges_fails, judges_limit, judges_same, judges_then, roomy_if, roomy_judges, roomy_then}
use Rattle.c6x_asm.proofs.Lined.{IsHere, IsMeant, IsThere, name_of, there}
use Rattle.c6x_asm.proofs.Stepped.{label_meant}
use Rattle.c6x_asm.proofs.Telling.{neither, other_bytes, same_bytes, told_of}
use Rattle.c6x_asm.proofs.Told.{AreTold, IsTelling, IsUntold, Told, among_symbols, changed_told, named_in}

-- the rule of a name's place is asked of what is told of it
placed_by : (text : List ℕ) (names : List (List ℕ)) (told : Told) (symbols : List Symbol) (word : Word) → AreTold text names told symbols → placed_fault text symbols word ≡ fault_of_definition (told.definition (text_of_word text word))
unfolding placed_fault symbol_at
placed_by text names told symbols word are = ap fault_of_definition (by (symbol_at text symbols (bytes_at text word.at word.len)) refl)
  where
    by : (o : Option ℕ) → symbol_at text symbols (bytes_at text word.at word.len) ≡ o → definition_of symbols o ≡ told.definition (text_of_word text word)
    by (Some i) found =
        let here = position-Some (λ s. bytes_eq (symbol_name text s) (bytes_at text word.at word.len)) symbols i no_symbol found in
        let named : named_in text symbols i ≡ text_of_word text word = (bytes_eq-Decides (named_in text symbols i) (text_of_word text word)).0 here.1 in
        (are.each i here.0).definition ∙ ap told.definition named
    by None found =
        sym (are.untold (text_of_word text word) (among_symbols text names told symbols (text_of_word text word) are ∙ not_among (symbol_name text) symbols (text_of_word text word) found)).definition

-- a rule that one test finds
abbrev One : AsmRule → Type 0 → AsmRule → Type 0
One rule P other = (other ≡ rule) × P

finds_one : (rule : AsmRule) (P : Type 0) → P → IsLowest (One rule P) rule
finds_one rule P is = ((refl, is), λ other here. let e : number_of other ≡ number_of rule = ap number_of here.0 in omega arith)

finds_none : (rule : AsmRule) (P : Type 0) → (P → ⊥) → Holds (One rule P)
finds_none rule P none other here = none here.1

-- a definition that is there
finds_place : (o : Option Definition) (P : Type 0) → (o ≡ None → P → ⊥) → ((o ≡ None → ⊥) → P) → Finds (One DuplicateLabel P) (fault_of_definition o)
finds_place None P none some = finds_none DuplicateLabel P (none refl)
finds_place (Some place) P none some = finds_one DuplicateLabel P (some (λ is. cc))

-- no section to go to
nowhere_finds : (text : List ℕ) (said : List Said) (sections : List AsmSection) (now : Option ℕ) (here : Option (List ℕ)) → behind_lines text None said ≡ here → IsHere text sections now here → Finds (One NoSection (GoesNowhere text said)) (section_fault now)
nowhere_finds text said sections None None is at = finds_one NoSection (GoesNowhere text said) is
nowhere_finds text said sections None (Some name) is at = absurd at
nowhere_finds text said sections (Some i) None is at = absurd at
nowhere_finds text said sections (Some i) (Some name) is at = finds_none NoSection (GoesNowhere text said) (λ none. cc)

-- a label
label_finds : (text : List ℕ) (said : List Said) (label : Option Word) (s : State) → IsMeant text said s.sections s.now → IsWhole text said s → Finds (BreaksLabel text said label) (fault_of_label text s label)
unfolding label_fault
label_finds text said None s meant whole = λ rule is. elim is [ ]
label_finds text said (Some word) s meant whole =
    let n = text_of_word text word in
    finds_lowest (One DuplicateLabel (HasPlace text said n)) (One NoSection (GoesNowhere text said)) (BreaksLabel text said (Some word)) (placed_fault text s.symbols word) (section_fault s.now)
    (record { first = again; second = nowhere; split = split })
    (subst (Finds (One DuplicateLabel (HasPlace text said n))) (sym (placed_by text (all_named text said) (told_of text said) s.symbols word whole.told))
    (finds_place (place_given text [] said n) (HasPlace text said n) (λ none has. has none) (λ some. some)))
    (nowhere_finds text said s.sections s.now (behind_lines text None said) refl meant.here)
  where
    again : (rule : AsmRule) → One DuplicateLabel (HasPlace text said (text_of_word text word)) rule → BreaksLabel text said (Some word) rule
    again rule is = subst (BreaksLabel text said (Some word)) (sym is.0) (label_again is.1)

    nowhere : (rule : AsmRule) → One NoSection (GoesNowhere text said) rule → BreaksLabel text said (Some word) rule
    nowhere rule is = subst (BreaksLabel text said (Some word)) (sym is.0) (label_nowhere is.1)

    split : (rule : AsmRule) → BreaksLabel text said (Some word) rule → One DuplicateLabel (HasPlace text said (text_of_word text word)) rule ⊎ One NoSection (GoesNowhere text said) rule
    split rule (label_again has) = inl (refl, has)
    split rule (label_nowhere none) = inr (refl, none)

-- the state behind the label of a line, whether it breaks a rule or not: which names have a place
pub record IsAfter (text : List ℕ) (said : List Said) (label : Option Word) (s : State) : Type 0 where
  pub meant : IsMeant text said s.sections s.now
  pub listed : List (List ℕ)
  pub told : Told
  pub are : AreTold text listed told s.symbols
  pub free : (n : List ℕ) → told.definition n ≡ None → (place_given text [] said n ≡ None) × (IsLabel text label n → ⊥)
  pub taken : (n : List ℕ) → (told.definition n ≡ None → ⊥) → HasPlace text said n ⊎ IsLabel text label n

abbrev over : List ℕ → Told → Definition → Told
over n told place = record { definition = λ m. if bytes_eq n m then Some place else told.definition m; global = told.global; weak = told.weak; hidden = told.hidden }

over_telling : (text : List ℕ) (names : List (List ℕ)) (told : Told) (n : List ℕ) (place : Definition) → ((m : List ℕ) → is_among names m ≡ false → IsUntold told m) → IsTelling text (names ++ n ∷ []) told n (placed_at place) (over n told place)
over_telling text names told n place untold = record {
  keeps = λ s. refl;
  here = λ s is. record { definition = sym (ap (λ b. if b then Some place else told.definition n) (same_bytes n)); global = is.global; weak = is.weak; hidden = is.hidden };
  others = λ other s apart is. record {
    definition = is.definition ∙ sym (ap (λ b. if b then Some place else told.definition other) (other_bytes n other apart));
    global = is.global;
    weak = is.weak;
    hidden = is.hidden;
  };
  untold = λ other none. let parts = neither names n other none in let is = untold other parts.0 in record {
    definition = ap (λ b. if b then Some place else told.definition other) parts.1 ∙ is.definition;
    global = is.global;
    weak = is.weak;
    hidden = is.hidden;
  };
}

after_free : (text : List ℕ) (said : List Said) (word : Word) (place : Definition) (n : List ℕ) (b : Bool) → bytes_eq (text_of_word text word) n ≡ b → (if b then Some place else place_given text [] said n) ≡ None → (place_given text [] said n ≡ None) × (text_of_word text word ≡ n → ⊥)
after_free text said word place n true test is = absurd (cc)
after_free text said word place n false test is = (is, λ same. true≢false (sym ((bytes_eq-Decides (text_of_word text word) n).1 same) ∙ test))

after_taken : (text : List ℕ) (said : List Said) (word : Word) (place : Definition) (n : List ℕ) (b : Bool) → bytes_eq (text_of_word text word) n ≡ b → ((if b then Some place else place_given text [] said n) ≡ None → ⊥) → HasPlace text said n ⊎ (text_of_word text word ≡ n)
after_taken text said word place n true test some = inr ((bytes_eq-Decides (text_of_word text word) n).0 test)
after_taken text said word place n false test some = inl some

after : (text : List ℕ) (said : List Said) (label : Option Word) (s : State) → IsMeant text said s.sections s.now → IsWhole text said s → IsAfter text said label (after_label text s label)
unfolding labelled
after text said None s meant whole = record {
  meant = meant;
  listed = all_named text said;
  told = told_of text said;
  are = whole.told;
  free = λ n is. (is, λ never. never);
  taken = λ n some. inl some;
}
after text said (Some word) s meant whole =
    let n = text_of_word text word in
    let place = label_definition s.sections s.now in
    let names = all_named text said in
    record {
      meant = label_meant text said (Some word) s meant;
      listed = names ++ n ∷ [];
      told = over n (told_of text said) place;
      are = changed_told text names (told_of text said) (over n (told_of text said) place) word (placed_at place) s.symbols (over_telling text names (told_of text said) n place whole.told.untold) whole.told;
      free = λ m is. after_free text said word place m (bytes_eq n m) refl is;
      taken = λ m some. after_taken text said word place m (bytes_eq n m) refl some;
    }

-- a directive that neither fills a section nor gives a place
free_directive : (text : List ℕ) (said : List Said) (label : Option Word) (directive : Directive) → fills directive ≡ false → placed_name text directive ≡ None → Holds (MisplacesDirective text said label directive)
free_directive text said label directive denies none rule (filling_nowhere f g) = true≢false (sym f ∙ denies)
free_directive text said label directive denies none rule (placed_again {name} p h) = some_none (sym p ∙ none)
  where
    some_none : Some name ≡ None → ⊥
    some_none is = cc

-- one that fills a section
here_only : (text : List ℕ) (said : List Said) (label : Option Word) (directive : Directive) (name : List ℕ) → placed_name text directive ≡ None → behind_lines text None said ≡ Some name → Holds (MisplacesDirective text said label directive)
here_only text said label directive name none is rule (filling_nowhere f g) = differ' (sym is ∙ g)
  where
    differ' : Some name ≡ None → ⊥
    differ' is = cc
here_only text said label directive name none is rule (placed_again {name = other} p h) = differ' (sym p ∙ none)
  where
    differ' : Some other ≡ None → ⊥
    differ' is = cc

nowhere_only : (text : List ℕ) (said : List Said) (label : Option Word) (directive : Directive) → placed_name text directive ≡ None → (other : AsmRule) → MisplacesDirective text said label directive other → number_of NoSection ≤ number_of other
nowhere_only text said label directive none other (filling_nowhere f g) = omega arith
nowhere_only text said label directive none other (placed_again {name} p h) = absurd (differ' (sym p ∙ none))
  where
    differ' : Some name ≡ None → ⊥
    differ' is = cc

-- what would make a section too long
abbrev Overfull : List ℕ → List Said → Directive → Type 0
Overfull text said directive = Overfills text said (says_directive directive)

filling_judged : (text : List ℕ) (said : List Said) (label : Option Word) (directive : Directive) (sections : List AsmSection) (now : Option ℕ) (here : Option (List ℕ)) (next : ℕ → Result State AsmRule) → behind_lines text None said ≡ here → IsHere text sections now here → fills directive ≡ true → placed_name text directive ≡ None → ((i : ℕ) → IsThere text sections i (behind_lines text None said) → IsRoomy (Overfull text said directive) (next i)) → Judges (Overfull text said directive) (MisplacesDirective text said label directive) (in_section now next)
filling_judged text said label directive sections None None next is at affirms none roomy = inr (filling_nowhere affirms is, nowhere_only text said label directive none)
filling_judged text said label directive sections None (Some name) next is at affirms none roomy = absurd at
filling_judged text said label directive sections (Some i) None next is at affirms none roomy = absurd at
filling_judged text said label directive sections (Some i) (Some name) next is at affirms none roomy =
    roomy_judges (Overfull text said directive) (MisplacesDirective text said label directive) (next i) (roomy i (record { name = name; is = is; inside = at.0; named = at.1 })) (here_only text said label directive name none is)

-- a section has the bytes of its lines
size_there : (text : List ℕ) (said : List Said) (sections : List AsmSection) (now : Option ℕ) (i : ℕ) → IsMeant text said sections now → (at : IsThere text sections i (behind_lines text None said)) → (section_at sections i).size ≡ bytes_so_far text said at.name
size_there text said sections now i meant at = (meant.each i at.inside).is.size ∙ ap (bytes_so_far text said) at.named

no_room : (s : State) (i count : ℕ) → has_room s i count ≡ false → most_bytes < (section_at s.sections i).size + count
no_room s i count full = grind (arith, nat_tests)

-- a section that may not grow by what a line takes
overfilled : (text : List ℕ) (said : List Said) (s : State) (i count : ℕ) (saying : Saying) → IsMeant text said s.sections s.now → (at : IsThere text s.sections i (behind_lines text None said)) → room_for (section_at s.sections i).size saying ≡ count → has_room s i count ≡ false → Overfills text said saying
overfilled text said s i count saying meant at takes full =
    let size = size_there text said s.sections s.now i meant at in
    (at.name, at.is, subst (λ n. most_bytes < n + room_for n saying) size (subst (λ n. most_bytes < (section_at s.sections i).size + n) (sym takes) (no_room s i count full)))

field_roomy : (L : Type 0) (text : List ℕ) (i size : ℕ) (s : State) (field : Field) → (has_room s i size ≡ false → L) → IsRoomy L (with_field text i size s field)
unfolding with_field
field_roomy L text i size s field full =
    let entry = relocated text s.symbols (section_at s.sections i).size field.relocation in
    roomy_if L (has_room s i size) (record s { symbols = entry.0; sections = changed s.sections i (with_number size field.bits entry.1) }) full

-- a section with one number more
record HasNumber (i size : ℕ) (s t : State) : Type 0 where
  count : length t.sections ≡ length s.sections
  grown : (section_at t.sections i).size ≤ (section_at s.sections i).size + size

same_state : (r : Result State AsmRule) (a b : State) → r ≡ Ok a → r ≡ Ok b → a ≡ b
same_state r a b first second = cc

field_grown : (text : List ℕ) (i size : ℕ) (s : State) (field : Field) (t : State) → i < length s.sections → with_field text i size s field ≡ Ok t → HasNumber i size s t
unfolding with_field
field_grown text i size s field t inside is = by (has_room s i size) is
  where
    p : AsmSection
    p = section_at s.sections i

    entry : List Symbol × Option RelocEntry
    entry = relocated text s.symbols p.size field.relocation

    q : AsmSection
    q = with_number size field.bits entry.1 p

    by : (b : Bool) → (if b then Ok (record s { symbols = entry.0; sections = changed s.sections i (with_number size field.bits entry.1) }) else Err Large) ≡ Ok t → HasNumber i size s t
    by true is =
        let made : State = record s { symbols = entry.0; sections = changed s.sections i (with_number size field.bits entry.1) } in
        let sections : changed s.sections i (with_number size field.bits entry.1) ≡ t.sections = ap (λ (u : State). u.sections) (same_state (Ok made) made t refl is) in
        let here : section_at t.sections i ≡ q = ap (λ ps. section_at ps i) (sym sections) ∙ get_or-set_same s.sections i q no_section inside in
        let size_now : q.size ≡ p.size + length (take size (to_le_bytes w32 field.bits)) = (number_grown size field.bits entry.1 p).size in
        let few = length-take size (to_le_bytes w32 field.bits) in
        let there : (section_at t.sections i).size ≡ q.size = ap (λ (r : AsmSection). r.size) here in
        record { count = ap length (sym sections) ∙ length-set s.sections i q; grown = omega (arith, size_now, few, there) }
    by false is = absurd (cc)

fields_roomy : (L : Type 0) (text : List ℕ) (i size : ℕ) (s : State) (fields : List Field) → i < length s.sections → (most_bytes < (section_at s.sections i).size + numbers_room size fields → L) → IsRoomy L (with_fields text i size s fields)
fields_roomy L text i size s [] inside full = tt
fields_roomy L text i size s (field ∷ fields) inside full =
    roomy_then L (with_field text i size s field) (λ t. with_fields text i size t fields)
    (field_roomy L text i size s field (λ none. let over = no_room s i size none in full (omega arith)))
    (λ t is. let more = field_grown text i size s field t inside is in
    let count = more.count in
    let grown = more.grown in
    fields_roomy L text i size t fields (omega arith) (λ over. full (omega arith)))

-- one that gives a place
given_judged : (text : List ℕ) (said : List Said) (label : Option Word) (directive : Directive) (s : State) (word : Word) (place : Definition) → fills directive ≡ false → placed_name text directive ≡ Some (text_of_word text word) → IsAfter text said label s → Judges (Overfull text said directive) (MisplacesDirective text said label directive) (given_place text s word place (placed_fault text s.symbols word))
given_judged text said label directive s word place denies gives is =
    subst (λ fault. Judges (Overfull text said directive) (MisplacesDirective text said label directive) (given_place text s word place fault)) (sym (placed_by text is.listed is.told s.symbols word is.are))
    (by (is.told.definition (text_of_word text word)) refl)
  where
    unplaced : is.told.definition (text_of_word text word) ≡ None → (name : List ℕ) → placed_name text directive ≡ Some name → HasPlace text said name ⊎ IsLabel text label name → ⊥
    unplaced none name p has =
        let same : text_of_word text word ≡ name = some_same (sym gives ∙ p) in
        let free = is.free (text_of_word text word) none in
        neither_way (subst (λ n. (place_given text [] said n ≡ None) × (IsLabel text label n → ⊥)) same free) has
      where
        some_same : {a b : List ℕ} → Some a ≡ Some b → a ≡ b
        some_same is = cc

        neither_way : (place_given text [] said name ≡ None) × (IsLabel text label name → ⊥) → HasPlace text said name ⊎ IsLabel text label name → ⊥
        neither_way free (inl has) = has free.0
        neither_way free (inr labels) = free.1 labels

    clear : is.told.definition (text_of_word text word) ≡ None → Holds (MisplacesDirective text said label directive)
    clear none rule (filling_nowhere f g) = true≢false (sym f ∙ denies)
    clear none rule (placed_again {name} p has) = unplaced none name p has

    least : (other : AsmRule) → MisplacesDirective text said label directive other → number_of DuplicateLabel ≤ number_of other
    least other (filling_nowhere f g) = absurd (true≢false (sym f ∙ denies))
    least other (placed_again p has) = omega arith

    by : (o : Option Definition) → is.told.definition (text_of_word text word) ≡ o → Judges (Overfull text said directive) (MisplacesDirective text said label directive) (given_place text s word place (fault_of_definition o))
    by None none = clear none
    by (Some there) some = inr (placed_again gives (is.taken (text_of_word text word) (λ none. cc)), least)

-- a directive by its place
directive_judged : (text : List ℕ) (said : List Said) (label : Option Word) (directive : Directive) (s : State) → IsAfter text said label s → Judges (Overfull text said directive) (MisplacesDirective text said label directive) (applied text s directive)
unfolding applied
directive_judged text said label (Section at len) s is = free_directive text said label (Section at len) refl refl
directive_judged text said label (Numbers size fields) s is =
    filling_judged text said label (Numbers size fields) s.sections s.now (behind_lines text None said) (λ i. with_fields text i size s fields) refl is.meant.here refl refl
    (λ i at. fields_roomy (Overfull text said (Numbers size fields)) text i size s fields at.inside (λ over. (at.name, at.is, subst (λ n. most_bytes < n + numbers_room size fields) (size_there text said s.sections s.now i is.meant at) over)))
directive_judged text said label (Space count) s is =
    filling_judged text said label (Space count) s.sections s.now (behind_lines text None said) (with_space count s) refl is.meant.here refl refl
    (λ i at. roomy_if (Overfull text said (Space count)) (has_room s i count) (record s { sections = changed s.sections i (with_zeros count) }) (λ full. overfilled text said s i count (says_directive (Space count)) is.meant at (length-replicate {A = ℕ} count 0) full))
directive_judged text said label (Align align) s is =
    filling_judged text said label (Align align) s.sections s.now (behind_lines text None said) (with_alignment align s) refl is.meant.here refl refl
    (λ i at. roomy_if (Overfull text said (Align align)) (has_room s i (padding (section_at s.sections i).size align)) (record s { sections = changed s.sections i (with_align align) })
    (λ full. overfilled text said s i (padding (section_at s.sections i).size align) (says_directive (Align align)) is.meant at (length-replicate {A = ℕ} (padding (section_at s.sections i).size align) 0) full))
directive_judged text said label (SetAttribute attribute word) s is = free_directive text said label (SetAttribute attribute word) refl refl
directive_judged text said label (Common word size align near) s is =
    given_judged text said label (Common word size align near) s word (record { section = common_section near; value = align; size = size }) refl refl is
directive_judged text said label (Set word value) s is =
    given_judged text said label (Set word value) s word (record { section = SHN_ABS; value = value; size = 0 }) refl refl is

err_same : {T : Type 0} (r : Result T AsmRule) (a b : AsmRule) → r ≡ Err a → r ≡ Err b → a ≡ b
err_same r a b first second = cc

-- a result says itself which rule is broken
judges_self : {T : Type 0} (L : Type 0) (r : Result T AsmRule) → Judges L (λ rule. r ≡ Err rule) r
judges_self L (Ok x) = λ rule is. cc
judges_self L (Err rule) = inr (refl, λ other is. let e : number_of rule ≡ number_of other = ap number_of (err_same (Err rule) rule other refl is) in omega arith)

finds_self : (o : Option AsmRule) → Finds (λ rule. o ≡ Some rule) o
finds_self None = λ rule is. cc
finds_self (Some rule) = (refl, λ other is. let e : number_of rule ≡ number_of other = ap number_of (same other is) in omega arith)
  where
    same : (other : AsmRule) → Some rule ≡ Some other → rule ≡ other
    same other is = cc

abbrev Both : (AsmRule → Type 0) → (AsmRule → Type 0) → AsmRule → Type 0
Both P Q rule = P rule ⊎ Q rule

both_union : (P Q : AsmRule → Type 0) → IsUnion P Q (Both P Q)
both_union P Q = record { first = λ rule is. inl is; second = λ rule is. inr is; split = λ rule is. is }

no_fault : (rule : AsmRule) (P : Type 0) (fault : Option AsmRule) → Finds (One rule P) fault → (P → ⊥) → fault ≡ None
no_fault rule P None finds denies = refl
no_fault rule P (Some other) finds denies = absurd (denies finds.0.1)

-- numbers in a section of zeros
zeros_found : (text : List ℕ) (said : List Said) (keyword : Keyword) (sections : List AsmSection) (now : Option ℕ) → IsMeant text said sections now → Finds (One Operand (PutsNumbers text said keyword)) (numbers_fault keyword sections now)
zeros_found text said keyword sections now meant = by (is_numbers keyword) refl
  where
    here : (now : Option ℕ) (here : Option (List ℕ)) → behind_lines text None said ≡ here → IsHere text sections now here → is_numbers keyword ≡ true → ((i : ℕ) → i < length sections → (section_at sections i).kind ≡ kind_named (name_of text sections i)) → Finds (One Operand (PutsNumbers text said keyword)) (zero_fault sections now)
    here None None is at affirms kinds = finds_none Operand (PutsNumbers text said keyword) (λ puts. let e = puts.2 in cc)
    here None (Some name) is at affirms kinds = absurd at
    here (Some i) None is at affirms kinds = absurd at
    here (Some i) (Some name) is at affirms kinds = test (is_zero (section_at sections i).kind) refl
      where
        kind : is_zero (section_at sections i).kind ≡ is_zero (kind_named name)
        kind = ap is_zero (kinds i at.0 ∙ ap kind_named at.1)

        test : (b : Bool) → is_zero (section_at sections i).kind ≡ b → Finds (One Operand (PutsNumbers text said keyword)) (if b then Some Operand else None)
        test true zero' = finds_one Operand (PutsNumbers text said keyword) (name, affirms, is, sym kind ∙ zero')
        test false zero' = finds_none Operand (PutsNumbers text said keyword) (λ puts.
            let same : Some name ≡ Some puts.0 = sym is ∙ puts.2 in
            true≢false (sym puts.3 ∙ ap (λ n. is_zero (kind_named n)) (some_same (sym same)) ∙ sym kind ∙ zero'))
          where
            some_same : {a b : List ℕ} → Some a ≡ Some b → a ≡ b
            some_same is = cc

    by : (b : Bool) → is_numbers keyword ≡ b → Finds (One Operand (PutsNumbers text said keyword)) (if b then zero_fault sections now else None)
    by true affirms = here now (behind_lines text None said) refl meant.here affirms (λ i inside. (meant.each i inside).is.kind)
    by false denies = finds_none Operand (PutsNumbers text said keyword) (λ puts. true≢false (sym puts.1 ∙ denies))

-- a directive by its name, its operands and its place
abbrev Placing : List ℕ → List Said → Option Word → Keyword → Statement → AsmRule → Type 0
Placing text said label keyword statement rule = (directive : Directive) × (directive_by text keyword statement.operands ≡ Ok directive) × MisplacesDirective text said label directive rule

same_directive : (r : Result Directive AsmRule) (a b : Directive) → r ≡ Ok a → r ≡ Ok b → a ≡ b
same_directive r a b first second = cc

placing_judged : (text : List ℕ) (said : List Said) (label : Option Word) (keyword : Keyword) (statement : Statement) (directive : Directive) (s : State) → directive_by text keyword statement.operands ≡ Ok directive → IsAfter text said label s → Judges (Overfull text said directive) (Placing text said label keyword statement) (applied text s directive)
placing_judged text said label keyword statement directive s read is =
    judges_same (Overfull text said directive) (MisplacesDirective text said label directive) (Placing text said label keyword statement) (applied text s directive)
    (λ rule breaks. (directive, read, breaks))
    (λ rule breaks. subst (λ d. MisplacesDirective text said label d rule) (same_directive (directive_by text keyword statement.operands) breaks.0 directive breaks.1 read) breaks.2)
    (directive_judged text said label directive s is)

-- a statement that would make its section too long
abbrev pub IsOverfull : List ℕ → List Said → Option Statement → Type 0
IsOverfull text said o = (saying : Saying) × Says text o saying × Overfills text said saying

keyword_judged : (text : List ℕ) (said : List Said) (label : Option Word) (o : Option Keyword) (statement : Statement) (s : State) → is_dotted statement.head.word.class ≡ true → keyword_of (text_of_word text statement.head.word) ≡ o → IsAfter text said label s → Judges (IsOverfull text said (Some statement)) (BreaksDirective text said label o statement) (with_keyword text o statement.operands s)
keyword_judged text said label None statement s dotted named is = inr (unknown, λ other here. least other here)
  where
    least : (other : AsmRule) → BreaksDirective text said label None statement other → number_of UnknownWord ≤ number_of other
    least other unknown = omega arith
keyword_judged text said label (Some keyword) statement s dotted named is =
    let read = directive_by text keyword statement.operands in
    let fault = numbers_fault keyword s.sections s.now in
    let Zeros : AsmRule → Type 0 = One Operand (PutsNumbers text said keyword) in
    let Words : AsmRule → Type 0 = λ rule. read ≡ Err rule in
    let zeros = zeros_found text said keyword s.sections s.now is.meant in
    let Limit : Type 0 = IsOverfull text said (Some statement) in
    judges_then Limit (Both Zeros Words) (Placing text said label keyword statement) (BreaksDirective text said label (Some keyword) statement) (fails fault read) (λ directive. applied text s directive)
    (judges_fails Limit Zeros Words (Both Zeros Words) fault read (both_union Zeros Words) zeros (judges_self Limit read))
    (λ directive ok.
    let reads = (kept fault read directive ok).1 in
    judges_limit (Overfull text said directive) Limit (Placing text said label keyword statement) (applied text s directive) (λ over. (says_directive directive, directive_said dotted named reads, over)) (placing_judged text said label keyword statement directive s reads is))
    (λ rule breaks. first rule breaks)
    (λ directive ok rule breaks. misplaced breaks.1 (λ puts. holds fault (kept fault read directive ok).0 zeros puts) breaks.2)
    (λ rule breaks. split rule fault zeros breaks)
  where
    holds : (fault : Option AsmRule) → fault ≡ None → Finds (One Operand (PutsNumbers text said keyword)) fault → PutsNumbers text said keyword → ⊥
    holds None is finds puts = finds Operand (refl, puts)
    holds (Some rule) is finds puts = cc

    first : (rule : AsmRule) → Both (One Operand (PutsNumbers text said keyword)) (λ rule. directive_by text keyword statement.operands ≡ Err rule) rule → BreaksDirective text said label (Some keyword) statement rule
    first rule (inl zeros) = subst (BreaksDirective text said label (Some keyword) statement) (sym zeros.0) (numbers_of_zeros zeros.1)
    first rule (inr words) = wrong_operands words

    split : (rule : AsmRule) (fault : Option AsmRule) → Finds (One Operand (PutsNumbers text said keyword)) fault → BreaksDirective text said label (Some keyword) statement rule → Both (One Operand (PutsNumbers text said keyword)) (λ rule. directive_by text keyword statement.operands ≡ Err rule) rule ⊎ ((directive : Directive) × (fails fault (directive_by text keyword statement.operands) ≡ Ok directive) × Placing text said label keyword statement rule)
    split rule fault finds (wrong_operands words) = inl (inr words)
    split rule fault finds (numbers_of_zeros puts) = inl (inl (refl, puts))
    split rule fault finds (misplaced {directive} read denies breaks) =
        inr (directive, ap (λ f. fails f (directive_by text keyword statement.operands)) (no_fault Operand (PutsNumbers text said keyword) fault finds denies) ∙ read, (directive, read, breaks))

-- `||` and the instruction just before
abbrev Joins : List ℕ → List Said → Bool → Type 0
Joins text said chained = (chained ≡ true) × ((name : List ℕ) → GoesTo text said name → EndsHere text said name → ⊥)

ends_test : (last : Option ℕ) (size : ℕ) → last ≡ Some size → ends_at last size ≡ true
ends_test None size is = absurd (cc)
ends_test (Some end) size is = let e : end ≡ size = cc in rw e (eqb_same size)
  where
    eqb_same : (n : ℕ) → (n == n) ≡ true
    eqb_same n = grind (arith, nat_tests)

ended_last : (last : Option ℕ) (size : ℕ) → ends_at last size ≡ true → last ≡ Some size
ended_last None size is = absurd (cc)
ended_last (Some end) size is = ap Some (eqb-true end size is)

some_same : {a b : List ℕ} → Some a ≡ Some b → a ≡ b
some_same is = cc

-- the section that lines go to ends with an instruction where its state says so
ends_so : (text : List ℕ) (said : List Said) (sections : List AsmSection) (i : ℕ) (name : List ℕ) → i < length sections → name_of text sections i ≡ name → IsMeant text said sections (Some i) → (ends_at (section_at sections i).last (section_at sections i).size ≡ true → EndsHere text said name) × (EndsHere text said name → ends_at (section_at sections i).last (section_at sections i).size ≡ true)
ends_so text said sections i name inside named meant =
    let p = section_at sections i in
    let state = meant.each i inside in
    let size : p.size ≡ bytes_so_far text said name = state.is.size ∙ ap (bytes_so_far text said) named in
    let last : p.last ≡ last_end 0 (lines_in text name None said) = state.last ∙ ap (λ n. last_end 0 (lines_in text n None said)) named in
    (λ ends. sym last ∙ ended_last p.last p.size ends ∙ ap Some size, λ ends. ends_test p.last p.size (last ∙ ends ∙ ap Some (sym size)))

joins_found : (text : List ℕ) (said : List Said) (chained : Bool) (sections : List AsmSection) (now : Option ℕ) → IsMeant text said sections now → Finds (One Syntax (Joins text said chained)) (chain_fault chained (is_behind sections now))
joins_found text said false sections now meant = finds_none Syntax (Joins text said false) (λ joins. true≢false (sym joins.0))
joins_found text said true sections None meant = finds_one Syntax (Joins text said true) (refl, λ name goes ends. nowhere name (behind_lines text None said) meant.here goes)
  where
    nowhere : (name : List ℕ) (here : Option (List ℕ)) → IsHere text sections None here → here ≡ Some name → ⊥
    nowhere name None at is = cc
    nowhere name (Some other) at is = at
joins_found text said true sections (Some i) meant = by (ends_at (section_at sections i).last (section_at sections i).size) refl
  where
    at : IsThere text sections i (behind_lines text None said)
    at = there text sections i (behind_lines text None said) meant.here

    by : (b : Bool) → ends_at (section_at sections i).last (section_at sections i).size ≡ b → Finds (One Syntax (Joins text said true)) (if not b then Some Syntax else None)
    by true ends =
        let here = there text sections i (behind_lines text None said) meant.here in
        finds_none Syntax (Joins text said true) (λ joins. joins.1 here.name here.is ((ends_so text said sections i here.name here.inside here.named meant).0 ends))
    by false ends =
        let here = there text sections i (behind_lines text None said) meant.here in
        finds_one Syntax (Joins text said true) (
          refl,
          λ name goes end.
              let same : name ≡ here.name = some_same (sym goes ∙ here.is) in
              true≢false (sym ((ends_so text said sections i here.name here.inside here.named meant).1 (subst (EndsHere text said) same end)) ∙ ends),
        )

-- where an instruction stands
abbrev Standing : List ℕ → List Said → AsmRule → Type 0
Standing text said rule = One NoSection (GoesNowhere text said) rule ⊎ One Operand ((name : List ℕ) × GoesTo text said name × ((is_zero (kind_named name) ≡ true) ⊎ (bytes_so_far text said name % 4 ≡ 0 → ⊥))) rule

standing_found : (text : List ℕ) (said : List Said) (sections : List AsmSection) (now : Option ℕ) → IsMeant text said sections now → Finds (Standing text said) (place_fault sections now)
standing_found text said sections now meant = by now (behind_lines text None said) refl meant.here (λ i inside. (meant.each i inside).is.kind) (λ i inside. (meant.each i inside).is.size)
  where
    by : (now : Option ℕ) (here : Option (List ℕ)) → behind_lines text None said ≡ here → IsHere text sections now here → ((i : ℕ) → i < length sections → (section_at sections i).kind ≡ kind_named (name_of text sections i)) → ((i : ℕ) → i < length sections → (section_at sections i).size ≡ bytes_so_far text said (name_of text sections i)) → Finds (Standing text said) (place_fault sections now)
    by None None is at kinds sizes = (inl (refl, is), λ other here. least other here)
      where
        least : (other : AsmRule) → Standing text said other → number_of NoSection ≤ number_of other
        least other (inl here) = let e : number_of other ≡ number_of NoSection = ap number_of here.0 in omega arith
        least other (inr here) = let goes = here.1.1 in let e : behind_lines text None said ≡ None = is in absurd (cc)
    by None (Some name) is at kinds sizes = absurd at
    by (Some i) None is at kinds sizes = absurd at
    by (Some i) (Some name) is at kinds sizes = test (is_zero (section_at sections i).kind) ((section_at sections i).size % 4 == 0) refl refl
      where
        kind : is_zero (section_at sections i).kind ≡ is_zero (kind_named name)
        kind = ap is_zero (kinds i at.0 ∙ ap kind_named at.1)

        size : (section_at sections i).size ≡ bytes_so_far text said name
        size = sizes i at.0 ∙ ap (bytes_so_far text said) at.1

        least : (other : AsmRule) → Standing text said other → number_of Operand ≤ number_of other
        least other (inl here) = let e : number_of other ≡ number_of NoSection = ap number_of here.0 in omega arith
        least other (inr here) = let e : number_of other ≡ number_of Operand = ap number_of here.0 in omega arith

        odd_place : (b : Bool) → ((section_at sections i).size % 4 == 0) ≡ b → b ≡ false → bytes_so_far text said name % 4 ≡ 0 → ⊥
        odd_place b test denies is = let e : (section_at sections i).size % 4 ≡ 0 = ap (λ n. n % 4) size ∙ is in true≢false (sym (ap (λ n. n == 0) e) ∙ test ∙ denies)

        clear : is_zero (section_at sections i).kind ≡ false → ((section_at sections i).size % 4 == 0) ≡ true → (other : AsmRule) → Standing text said other → ⊥
        clear some even other (inl here) = let e : behind_lines text None said ≡ None = here.1 in cc
        clear some even other (inr here) = wrong (some_same (sym here.1.1 ∙ is)) here.1.2
          where
            wrong : {n : List ℕ} → n ≡ name → (is_zero (kind_named n) ≡ true) ⊎ (bytes_so_far text said n % 4 ≡ 0 → ⊥) → ⊥
            wrong same (inl zero') = true≢false (sym zero' ∙ ap (λ n. is_zero (kind_named n)) same ∙ sym kind ∙ some)
            wrong same (inr between) = between (ap (λ n. bytes_so_far text said n % 4) same ∙ ap (λ n. n % 4) (sym size) ∙ eqb-true ((section_at sections i).size % 4) 0 even)

        test : (z e : Bool) → is_zero (section_at sections i).kind ≡ z → ((section_at sections i).size % 4 == 0) ≡ e → Finds (Standing text said) (if z || not e then Some Operand else None)
        test true e zero' even = (inr (refl, (name, is, inl (sym kind ∙ zero'))), least)
        test false false some odd' = (inr (refl, (name, is, inr (odd_place false odd' refl))), least)
        test false true some even = clear some even

misplaced_found : (text : List ℕ) (said : List Said) (chained : Bool) (sections : List AsmSection) (now : Option ℕ) → IsMeant text said sections now → Finds (MisplacesInstruction text said chained) (lowest (chain_fault chained (is_behind sections now)) (place_fault sections now))
misplaced_found text said chained sections now meant =
    finds_lowest (One Syntax (Joins text said chained)) (Standing text said) (MisplacesInstruction text said chained) (chain_fault chained (is_behind sections now)) (place_fault sections now)
    (record { first = first chained; second = second; split = split chained })
    (joins_found text said chained sections now meant) (standing_found text said sections now meant)
  where
    first : (chained : Bool) (rule : AsmRule) → One Syntax (Joins text said chained) rule → MisplacesInstruction text said chained rule
    first false rule is = absurd (true≢false (sym is.1.0))
    first true rule is = subst (MisplacesInstruction text said true) (sym is.0) (joins_nothing is.1.1)

    second : (rule : AsmRule) → Standing text said rule → MisplacesInstruction text said chained rule
    second rule (inl is) = subst (MisplacesInstruction text said chained) (sym is.0) (word_nowhere is.1)
    second rule (inr is) = subst (MisplacesInstruction text said chained) (sym is.0) (by is.1.2)
      where
        by : (is_zero (kind_named is.1.0) ≡ true) ⊎ (bytes_so_far text said is.1.0 % 4 ≡ 0 → ⊥) → MisplacesInstruction text said chained Operand
        by (inl zero') = word_of_zeros is.1.1 zero'
        by (inr between) = word_between is.1.1 between

    split : (chained : Bool) (rule : AsmRule) → MisplacesInstruction text said chained rule → One Syntax (Joins text said chained) rule ⊎ Standing text said rule
    split chained rule (joins_nothing never) = inl (refl, (refl, never))
    split chained rule (word_nowhere none) = inr (inl (refl, none))
    split chained rule (word_of_zeros {name} goes zero') = inr (inr (refl, (name, goes, inl zero')))
    split chained rule (word_between {name} goes between) = inr (inr (refl, (name, goes, inr between)))

-- an instruction without a word
abbrev Wordless : List ℕ → Statement → AsmRule → Type 0
Wordless text statement = One Operand ((made : RelocatableOp) × (instruction_of text statement.head statement.operands ≡ Ok made) × ((word : ℕ) → Spells (record { condition = statement.head.condition; op = made.op; chained = false }) word → ⊥))

same_made : (r : Result RelocatableOp AsmRule) (a b : RelocatableOp) → r ≡ Ok a → r ≡ Ok b → a ≡ b
same_made r a b first second = cc

word_judged : (text : List ℕ) (said : List Said) (number : ℕ) (statement : Statement) (made : RelocatableOp) (o : Option ℕ) (s : State) (i : ℕ) → is_dotted statement.head.word.class ≡ false → IsMeant text said s.sections s.now → IsThere text s.sections i (behind_lines text None said) → instruction_of text statement.head statement.operands ≡ Ok made → word_of statement.head.condition made.op ≡ o → Judges (IsOverfull text said (Some statement)) (Wordless text statement) (with_word text number statement.head.chained made o s i)
unfolding word_of
word_judged text said number statement made None s i plain meant at read none =
    inr (finds_one Operand _ (
      made,
      read,
      λ word spells.
          let some : word_of statement.head.condition made.op ≡ Some word = encoded-spelled (record { condition = statement.head.condition; op = made.op; chained = false }) word spells in
          cc,
    ))
word_judged text said number statement made (Some word) s i plain meant at read spelled =
    let head = statement.head in
    let entry = relocated text s.symbols (section_at s.sections i).size made.relocation in
    let spells = spells-encoded (record { condition = head.condition; op = made.op; chained = false }) word spelled in
    let saying : Saying = says_instruction head.chained word made.relocation in
    roomy_judges (IsOverfull text said (Some statement)) (Wordless text statement) (with_word text number head.chained made (Some word) s i)
    (roomy_if (IsOverfull text said (Some statement)) (has_room s i 4) _ (λ full. (saying, instruction_said plain read spells, overfilled text said s i 4 saying meant at refl full)))
    (finds_none Operand _ (λ none.
    let same = same_made (instruction_of text head statement.operands) none.0 made none.1 read in
    none.2 word (subst (λ (m : RelocatableOp). Spells (record { condition = head.condition; op = m.op; chained = false }) word) (sym same) spells)))

-- where lines go somewhere
somewhere : (sections : List AsmSection) (now : Option ℕ) → place_fault sections now ≡ None → (i : ℕ) × (now ≡ Some i)
somewhere sections None is = absurd (cc)
somewhere sections (Some i) is = (i, refl)

both_none : (a b : Option AsmRule) → lowest a b ≡ None → (a ≡ None) × (b ≡ None)
both_none None b is = (refl, is)
both_none (Some a) None is = absurd (cc)
both_none (Some a) (Some b) is = absurd (cc)

instruction_judged : (text : List ℕ) (said : List Said) (number : ℕ) (statement : Statement) (s : State) → is_dotted statement.head.word.class ≡ false → IsMeant text said s.sections s.now → Judges (IsOverfull text said (Some statement)) (BreaksInstruction text said statement) (instructed text number statement.head statement.operands s)
unfolding instructed
instruction_judged text said number statement s plain meant =
    let head = statement.head in
    let read = instruction_of text head statement.operands in
    let fault = instruction_fault s head in
    let Place : AsmRule → Type 0 = MisplacesInstruction text said head.chained in
    let Words : AsmRule → Type 0 = λ rule. read ≡ Err rule in
    let place = misplaced_found text said head.chained s.sections s.now meant in
    let Limit : Type 0 = IsOverfull text said (Some statement) in
    judges_then Limit (Both Place Words) (Wordless text statement) (BreaksInstruction text said statement) (fails fault read) (λ made. with_made text number head s made)
    (judges_fails Limit Place Words (Both Place Words) fault read (both_union Place Words) place (judges_self Limit read))
    (λ made ok. let both = kept fault read made ok in made_judged made both.1 (somewhere s.sections s.now (both_none (chain_fault head.chained (is_behind s.sections s.now)) (place_fault s.sections s.now) both.0).1))
    (λ rule breaks. first rule breaks)
    (λ made ok rule breaks. subst (BreaksInstruction text said statement) (sym breaks.0) (wordless breaks.1.1 (holds fault (kept fault read made ok).0 place) breaks.1.2))
    (λ rule breaks. split rule fault place breaks)
  where
    made_judged : (made : RelocatableOp) → instruction_of text statement.head statement.operands ≡ Ok made → (i : ℕ) × (s.now ≡ Some i) → Judges (IsOverfull text said (Some statement)) (Wordless text statement) (with_made text number statement.head s made)
    made_judged made read at =
        let here = there text s.sections at.0 (behind_lines text None said) (subst (λ now. IsHere text s.sections now (behind_lines text None said)) at.1 meant.here) in
        subst (λ now. Judges (IsOverfull text said (Some statement)) (Wordless text statement) (in_section now (λ i. with_word text number statement.head.chained made (word_of statement.head.condition made.op) s i))) (sym at.1)
        (word_judged text said number statement made (word_of statement.head.condition made.op) s at.0 plain meant here read refl)

    holds : (fault : Option AsmRule) → fault ≡ None → Finds (MisplacesInstruction text said statement.head.chained) fault → (rule : AsmRule) → MisplacesInstruction text said statement.head.chained rule → ⊥
    holds None is finds = finds
    holds (Some other) is finds = absurd (cc)

    clear : (fault : Option AsmRule) → Finds (MisplacesInstruction text said statement.head.chained) fault → ((rule : AsmRule) → MisplacesInstruction text said statement.head.chained rule → ⊥) → fault ≡ None
    clear None finds none = refl
    clear (Some rule) finds none = absurd (none rule finds.0)

    first : (rule : AsmRule) → Both (MisplacesInstruction text said statement.head.chained) (λ rule. instruction_of text statement.head statement.operands ≡ Err rule) rule → BreaksInstruction text said statement rule
    first rule (inl place) = wrong_place place
    first rule (inr words) = wrong_words words

    split : (rule : AsmRule) (fault : Option AsmRule) → Finds (MisplacesInstruction text said statement.head.chained) fault → BreaksInstruction text said statement rule → Both (MisplacesInstruction text said statement.head.chained) (λ rule. instruction_of text statement.head statement.operands ≡ Err rule) rule ⊎ ((made : RelocatableOp) × (fails fault (instruction_of text statement.head statement.operands) ≡ Ok made) × Wordless text statement rule)
    split rule fault finds (wrong_words words) = inl (inr words)
    split rule fault finds (wrong_place place) = inl (inl place)
    split rule fault finds (wordless {made} read none never) =
        inr (made, ap (λ f. fails f (instruction_of text statement.head statement.operands)) (clear fault finds none) ∙ read, (refl, (made, read, never)))

-- a statement
inner_judged : (text : List ℕ) (said : List Said) (number : ℕ) (label : Option Word) (statement : Statement) (s : State) → IsAfter text said label s → Judges (IsOverfull text said (Some statement)) (λ rule. ((is_dotted statement.head.word.class ≡ true) × BreaksDirective text said label (keyword_of (text_of_word text statement.head.word)) statement rule) ⊎ ((is_dotted statement.head.word.class ≡ false) × BreaksInstruction text said statement rule)) (with_statement text number statement s)
inner_judged text said number label statement s is = by (is_dotted statement.head.word.class) refl
  where
    by : (b : Bool) → is_dotted statement.head.word.class ≡ b → Judges (IsOverfull text said (Some statement)) (λ rule. ((is_dotted statement.head.word.class ≡ true) × BreaksDirective text said label (keyword_of (text_of_word text statement.head.word)) statement rule) ⊎ ((is_dotted statement.head.word.class ≡ false) × BreaksInstruction text said statement rule)) (if b then with_keyword text (keyword_of (bytes_at text statement.head.word.at statement.head.word.len)) statement.operands s else instructed text number statement.head statement.operands s)
    by true dotted =
        judges_same (IsOverfull text said (Some statement)) (BreaksDirective text said label (keyword_of (text_of_word text statement.head.word)) statement) _ (with_keyword text (keyword_of (bytes_at text statement.head.word.at statement.head.word.len)) statement.operands s)
        (λ rule breaks. inl (dotted, breaks)) (λ rule breaks. pick rule dotted breaks)
        (keyword_judged text said label (keyword_of (bytes_at text statement.head.word.at statement.head.word.len)) statement s dotted refl is)
      where
        pick : (rule : AsmRule) → is_dotted statement.head.word.class ≡ true → ((is_dotted statement.head.word.class ≡ true) × BreaksDirective text said label (keyword_of (text_of_word text statement.head.word)) statement rule) ⊎ ((is_dotted statement.head.word.class ≡ false) × BreaksInstruction text said statement rule) → BreaksDirective text said label (keyword_of (text_of_word text statement.head.word)) statement rule
        pick rule dotted (inl here) = here.1
        pick rule dotted (inr here) = absurd (true≢false (sym dotted ∙ here.0))
    by false plain =
        judges_same (IsOverfull text said (Some statement)) (BreaksInstruction text said statement) _ (instructed text number statement.head statement.operands s)
        (λ rule breaks. inr (plain, breaks)) (λ rule breaks. pick rule plain breaks)
        (instruction_judged text said number statement s plain is.meant)
      where
        pick : (rule : AsmRule) → is_dotted statement.head.word.class ≡ false → ((is_dotted statement.head.word.class ≡ true) × BreaksDirective text said label (keyword_of (text_of_word text statement.head.word)) statement rule) ⊎ ((is_dotted statement.head.word.class ≡ false) × BreaksInstruction text said statement rule) → BreaksInstruction text said statement rule
        pick rule plain (inl here) = absurd (true≢false (sym here.0 ∙ plain))
        pick rule plain (inr here) = here.1

statement_judged : (text : List ℕ) (said : List Said) (number : ℕ) (label : Option Word) (statement : Statement) (s : State) → IsAfter text said label s → Judges (IsOverfull text said (Some statement)) (BreaksStatement text said label statement) (fails (kinds_from text None statement.operands) (with_statement text number statement s))
statement_judged text said number label statement s is =
    judges_fails (IsOverfull text said (Some statement)) (λ rule. kinds_from text None statement.operands ≡ Some rule) _ (BreaksStatement text said label statement) (kinds_from text None statement.operands) (with_statement text number statement s)
    (record { first = λ rule wrong. wrong_kinds wrong; second = second; split = split })
    (finds_self (kinds_from text None statement.operands)) (inner_judged text said number label statement s is)
  where
    second : (rule : AsmRule) → ((is_dotted statement.head.word.class ≡ true) × BreaksDirective text said label (keyword_of (text_of_word text statement.head.word)) statement rule) ⊎ ((is_dotted statement.head.word.class ≡ false) × BreaksInstruction text said statement rule) → BreaksStatement text said label statement rule
    second rule (inl here) = by_directive here.0 here.1
    second rule (inr here) = by_instruction here.0 here.1

    split : (rule : AsmRule) → BreaksStatement text said label statement rule → (kinds_from text None statement.operands ≡ Some rule) ⊎ (((is_dotted statement.head.word.class ≡ true) × BreaksDirective text said label (keyword_of (text_of_word text statement.head.word)) statement rule) ⊎ ((is_dotted statement.head.word.class ≡ false) × BreaksInstruction text said statement rule))
    split rule (wrong_kinds wrong) = inl wrong
    split rule (by_directive dotted breaks) = inr (inl (dotted, breaks))
    split rule (by_instruction plain breaks) = inr (inr (plain, breaks))

-- what the label or the statement of a line breaks
abbrev pub BreaksParts : List ℕ → List Said → Line → AsmRule → Type 0
BreaksParts text said line rule = BreaksLabel text said line.label rule ⊎ ((statement : Statement) × (line.statement ≡ Some statement) × BreaksStatement text said line.label statement rule)

stated_judged : (text : List ℕ) (said : List Said) (number : ℕ) (label : Option Word) (o : Option Statement) (s : State) → IsAfter text said label s → Judges (IsOverfull text said o) (λ rule. (statement : Statement) × (o ≡ Some statement) × BreaksStatement text said label statement rule) (stated text number o s)
unfolding stated
stated_judged text said number label None s is = λ rule breaks. let e : None ≡ Some breaks.0 = breaks.1 in cc
stated_judged text said number label (Some statement) s is =
    judges_same (IsOverfull text said (Some statement)) (BreaksStatement text said label statement) _ (fails (kinds_from text None statement.operands) (with_statement text number statement s))
    (λ rule breaks. (statement, refl, breaks))
    (λ rule breaks. subst (λ st. BreaksStatement text said label st rule) (same breaks.0 breaks.1) breaks.2)
    (statement_judged text said number label statement s is)
  where
    same : (other : Statement) → Some statement ≡ Some other → other ≡ statement
    same other is = cc

-- a line that has a reading
pub stepped_judged : (text : List ℕ) (said : List Said) (number : ℕ) (line : Line) (s : State) → IsMeant text said s.sections s.now → IsWhole text said s → Judges (IsOverfull text said line.statement) (BreaksParts text said line) (stepped text number line s)
unfolding stepped
stepped_judged text said number line s meant whole =
    judges_fails (IsOverfull text said line.statement) (BreaksLabel text said line.label) (λ rule. (statement : Statement) × (line.statement ≡ Some statement) × BreaksStatement text said line.label statement rule) (BreaksParts text said line) (fault_of_label text s line.label) (stated text number line.statement (after_label text s line.label))
    (record { first = λ rule is. inl is; second = λ rule is. inr is; split = λ rule is. is })
    (label_finds text said line.label s meant whole)
    (stated_judged text said number line.label line.statement (after_label text s line.label) (after text said line.label s meant whole))
