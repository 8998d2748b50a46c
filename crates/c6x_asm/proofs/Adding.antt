-- What a directive or an instruction adds keeps sections and symbols sound.
use Rattle.std.proofs.Common.{◌≡◌, ℕ, ◌+◌, ◌<◌, ◌≤◌, Bool, true, false, inl, inr, List, [], ◌∷◌, ◌++◌, length, Option, Some, None, Result, Ok, Err, IfOk, refl, ◌∙◌, ap, arith}
use Rattle.std.specs.Prelude.{All, IfSome, slice_set}
use Rattle.std.specs.Str.{bytes_eq}
use Rattle.std.proofs.lemmas.List.{length-set, length_push, get_or-set_same}
use Rattle.std.proofs.lemmas.List.Elements.{All-push, All-set}
use Rattle.std.proofs.lemmas.List.Quantifiers.{position-Some}
use Rattle.std.proofs.lemmas.Option.{IfSome_then}
use Rattle.std.proofs.lemmas.Result.{IfOk-at_ok, IfOk-weaker}
use Rattle.c6x_elf.specs.Abi.{SHN_ABS}
use Rattle.c6x_asm_lines.specs.declared.word.Word.{Word}
use Rattle.c6x_asm_lines.specs.declared.relocatable.Field.{Field}
use Rattle.c6x_asm_lines.specs.declared.rule.AsmRule.{AsmRule}
use Rattle.c6x_asm_lines.specs.declared.rule.AsmRule.TheVariants.{Large}
use Rattle.c6x_asm_instr.specs.declared.directive.Directive.{Directive}
use Rattle.c6x_asm_instr.specs.declared.directive.Directive.TheVariants.{Section, Numbers, Space, Align, Attribute as SetAttribute, Common, Set}
use Rattle.c6x_asm_instr.specs.declared.symbol_attribute.SymbolAttribute.{SymbolAttribute}
use Rattle.c6x_asm_instr.specs.declared.symbol_attribute.SymbolAttribute.TheVariants.{Global, Weak, Hidden}
use Rattle.c6x_asm_lines.specs.Bytes.{bytes_at}
use Rattle.c6x_asm_object.specs.declared.asm_section.AsmSection.{AsmSection}
use Rattle.c6x_asm_object.specs.declared.section_kind.SectionKind.{SectionKind}
use Rattle.c6x_asm_object.specs.declared.definition.Definition.{Definition}
use Rattle.c6x_asm_object.specs.declared.symbol.Symbol.{Symbol}
use Rattle.c6x_asm_object.specs.Kinds.{kind_named}
use Rattle.c6x_asm_object.specs.Sections.{changed, empty_section, is_zero, no_section, padding, section_at, with_align, with_number, with_zeros}
use Rattle.c6x_asm.specs.States.{State, entered, entered_or_new, label_definition, labelled, with_attribute, name_changed, section_index, placed_at, placed_fault, relocated}
use Rattle.c6x_asm.specs.Directives.{applied, common_section, given_place, has_room, in_section, with_alignment, with_field, with_fields, with_space}
use Rattle.c6x_asm_object.specs.Sound.{IsSectionSound, IsDefinitionSound, IsSymbolSound}
use Rattle.c6x_asm.specs.Keeping.{IsStateSound}
use Rattle.c6x_asm.proofs.Results.{at_some, if_either, if_next}
use Rattle.c6x_asm.proofs.Growth.{align_sound, empty_sound, number_kind, number_sound, sections_more, symbols_more, zeros_sound}
use Rattle.c6x_asm.proofs.Names.{changed_added, relocated_named}
use Rattle.c6x_asm.proofs.DirectiveLaws.{Suits}

-- the section that lines go to is there
pub inside_now : (s : State) (i : ℕ) → IsStateSound s → s.now ≡ Some i → i < length s.sections
inside_now s i sound is = at_some (λ k. k < length s.sections) s.now i sound.now is

-- one section changed, with names behind those before
pub section_changed : (s : State) (i : ℕ) (symbols : List Symbol) (change : AsmSection → AsmSection) → IsStateSound s → length s.symbols ≤ length symbols → All (IsSymbolSound (length s.sections)) symbols → IsSectionSound (length symbols) (change (section_at s.sections i)) → IsStateSound (record s { symbols = symbols; sections = changed s.sections i change })
section_changed s i symbols change sound more named here =
    let grown = change (section_at s.sections i) in
    let same : length (slice_set s.sections i grown) ≡ length s.sections = length-set s.sections i grown in
    record {
      sound = record {
        sections = All-set (IsSectionSound (length symbols)) s.sections i grown here (sections_more (length s.symbols) (length symbols) more s.sections sound.sound.sections);
        symbols = symbols_more (length s.sections) (length (slice_set s.sections i grown)) (omega (arith, same)) symbols named;
      };
      now = IfSome_then s.now sound.now (λ k below. omega (arith, same));
    }

-- a sound section of those
pub section_there : (s : State) (i names : ℕ) → IsStateSound s → i < length s.sections → length s.symbols ≤ names → IsSectionSound names (section_at s.sections i)
section_there s i names sound inside more = sections_more (length s.symbols) names more s.sections sound.sound.sections i no_section inside

-- a sound state whose section with this number may have bytes
pub record TakesBytes (i : ℕ) (s : State) : Type 0 where
  pub sound : IsStateSound s
  pub inside : i < length s.sections
  pub bytes : is_zero (section_at s.sections i).kind ≡ false

field_sound : (text : List ℕ) (i size : ℕ) (s : State) (field : Field) → TakesBytes i s → IfOk (with_field text i size s field) (TakesBytes i)
unfolding with_field
field_sound text i size s field takes =
    let entry = relocated text s.symbols (section_at s.sections i).size field.relocation in
    let named = relocated_named text (length s.sections) s.symbols (section_at s.sections i).size field.relocation takes.sound.sound.symbols in
    let grown = with_number size field.bits entry.1 (section_at s.sections i) in
    let there = section_there s i (length entry.0) takes.sound takes.inside named.more in
    let here = number_sound (length entry.0) size field.bits entry.1 (section_at s.sections i) takes.bytes named.entry there in
    let same : section_at (slice_set s.sections i grown) i ≡ grown = get_or-set_same s.sections i grown no_section takes.inside in
    if_either (TakesBytes i) (has_room s i size) (Ok (record s { symbols = entry.0; sections = changed s.sections i (with_number size field.bits entry.1) })) (Err Large)
    (record {
      sound = section_changed s i entry.0 (with_number size field.bits entry.1) takes.sound named.more named.symbols here;
      inside = omega (arith, length-set s.sections i grown, takes.inside);
      bytes = ap (λ (p : AsmSection). is_zero p.kind) same ∙ ap is_zero (number_kind size field.bits entry.1 (section_at s.sections i)) ∙ takes.bytes;
    }) tt

fields_sound : (text : List ℕ) (i size : ℕ) (s : State) (fields : List Field) → TakesBytes i s → IfOk (with_fields text i size s fields) (TakesBytes i)
fields_sound text i size s [] takes = takes
fields_sound text i size s (field ∷ fields) takes =
    if_next (TakesBytes i) (with_field text i size s field) (λ t. with_fields text i size t fields)
    (λ t is. fields_sound text i size t fields (IfOk-at_ok (TakesBytes i) is (field_sound text i size s field takes)))

-- what goes to the section that lines go to
pub in_section_sound : (now : Option ℕ) (next : ℕ → Result State AsmRule) → ((i : ℕ) → now ≡ Some i → IfOk (next i) IsStateSound) → IfOk (in_section now next) IsStateSound
in_section_sound None next holds = tt
in_section_sound (Some i) next holds = holds i refl

space_sound : (count : ℕ) (s : State) (i : ℕ) → IsStateSound s → i < length s.sections → IfOk (with_space count s i) IsStateSound
space_sound count s i sound inside =
    if_either IsStateSound (has_room s i count) (Ok (record s { sections = changed s.sections i (with_zeros count) })) (Err Large)
    (section_changed s i s.symbols (with_zeros count) sound (omega arith) sound.sound.symbols
    (zeros_sound (length s.symbols) count (section_at s.sections i) (section_there s i (length s.symbols) sound inside (omega arith)))) tt

alignment_sound : (align : ℕ) (s : State) (i : ℕ) → IsStateSound s → i < length s.sections → IfOk (with_alignment align s i) IsStateSound
alignment_sound align s i sound inside =
    if_either IsStateSound (has_room s i (padding (section_at s.sections i).size align)) (Ok (record s { sections = changed s.sections i (with_align align) })) (Err Large)
    (section_changed s i s.symbols (with_align align) sound (omega arith) sound.sound.symbols
    (align_sound (length s.symbols) align (section_at s.sections i) (section_there s i (length s.symbols) sound inside (omega arith)))) tt

-- a name changed
name_sound : (text : List ℕ) (s : State) (word : Word) (change : Symbol → Symbol) → ((symbol : Symbol) → IsSymbolSound (length s.sections) symbol → IsSymbolSound (length s.sections) (change symbol)) → IsStateSound s → IsStateSound (record s { symbols = name_changed text s.symbols word change })
name_sound text s word change keeps sound =
    let added = changed_added text (length s.sections) s.symbols word change keeps sound.sound.symbols in
    record {
      sound = record {
        sections = sections_more (length s.symbols) (length (name_changed text s.symbols word change)) added.0 s.sections sound.sound.sections;
        symbols = added.1;
      };
      now = sound.now;
    }

placed_sound : (text : List ℕ) (s : State) (word : Word) (definition : Definition) → IsDefinitionSound (length s.sections) definition → IsStateSound s → IsStateSound (record s { symbols = name_changed text s.symbols word (placed_at definition) })
placed_sound text s word definition there sound = name_sound text s word (placed_at definition) (λ symbol is. record { place = there }) sound

marked_symbol : (sections : ℕ) (attribute : SymbolAttribute) (s : Symbol) → IsSymbolSound sections s → IsSymbolSound sections (with_attribute attribute s)
marked_symbol sections Global s is = record { place = is.place }
marked_symbol sections Weak s is = record { place = is.place }
marked_symbol sections Hidden s is = record { place = is.place }

given_sound : (text : List ℕ) (s : State) (word : Word) (definition : Definition) (fault : Option AsmRule) → IsDefinitionSound (length s.sections) definition → IsStateSound s → IfOk (given_place text s word definition fault) IsStateSound
given_sound text s word definition None there sound = placed_sound text s word definition there sound
given_sound text s word definition (Some rule) there sound = tt

spot_now : (sections : List AsmSection) (now : Option ℕ) → IfSome now (λ i. i < length sections) → IsDefinitionSound (length sections) (label_definition sections now)
spot_now sections None inside = inl (omega arith)
spot_now sections (Some i) inside = inl (omega arith)

-- a label
pub label_sound : (text : List ℕ) (s : State) (word : Word) → IsStateSound s → IsStateSound (labelled text s word)
unfolding labelled
label_sound text s word sound = placed_sound text s word (label_definition s.sections s.now) (spot_now s.sections s.now sound.now) sound

common_spot : (sections value size : ℕ) (near : Bool) → IsDefinitionSound sections (record { section = common_section near; value = value; size = size })
common_spot sections value size true = inr (omega arith, omega arith)
common_spot sections value size false = inr (omega arith, omega arith)

section_found : (text : List ℕ) (sections : List AsmSection) (name : List ℕ) (i : ℕ) → section_index text sections name ≡ Some i → i < length sections
unfolding section_index
section_found text sections name i is = (position-Some (λ p. bytes_eq (bytes_at text p.at p.len) name) sections i no_section is).0

section_added : (s : State) (at len : ℕ) (kind : SectionKind) → IsStateSound s → IsStateSound (record s { sections = s.sections ++ empty_section at len kind ∷ []; now = Some (length s.sections) })
section_added s at len kind sound =
    let longer : length (s.sections ++ empty_section at len kind ∷ []) ≡ length s.sections + 1 = length_push s.sections (empty_section at len kind) in
    record {
      sound = record {
        sections = All-push (IsSectionSound (length s.symbols)) s.sections (empty_section at len kind) sound.sound.sections (empty_sound (length s.symbols) at len kind);
        symbols = symbols_more (length s.sections) (length (s.sections ++ empty_section at len kind ∷ [])) (omega (arith, longer)) s.symbols sound.sound.symbols;
      };
      now = omega (arith, longer);
    }

section_sound : (text : List ℕ) (at len : ℕ) (s : State) → IsStateSound s → IsStateSound (entered text at len s)
unfolding entered
section_sound text at len s sound = either (section_index text s.sections (bytes_at text at len)) refl
  where
    either : (o : Option ℕ) → section_index text s.sections (bytes_at text at len) ≡ o → IsStateSound (entered_or_new text at len s o)
    either (Some i) is = record { sound = sound.sound; now = section_found text s.sections (bytes_at text at len) i is }
    either None is = section_added s at len (kind_named (bytes_at text at len)) sound

-- a directive that its section may take
pub applied_sound : (text : List ℕ) (s : State) (directive : Directive) → IsStateSound s → Suits s.sections s.now directive → IfOk (applied text s directive) IsStateSound
unfolding applied
applied_sound text s (Section at len) sound suits = section_sound text at len s sound
applied_sound text s (Numbers size fields) sound suits = in_section_sound s.now (λ i. with_fields text i size s fields) (λ i is.
    IfOk-weaker (with_fields text i size s fields) (TakesBytes i) IsStateSound (λ t takes. takes.sound)
    (fields_sound text i size s fields (record { sound = sound; inside = inside_now s i sound is; bytes = suits i is })))
applied_sound text s (Space count) sound suits = in_section_sound s.now (with_space count s) (λ i is. space_sound count s i sound (inside_now s i sound is))
applied_sound text s (Align align) sound suits = in_section_sound s.now (with_alignment align s) (λ i is. alignment_sound align s i sound (inside_now s i sound is))
applied_sound text s (SetAttribute attribute word) sound suits = name_sound text s word (with_attribute attribute) (marked_symbol (length s.sections) attribute) sound
applied_sound text s (Common word size align near) sound suits =
    given_sound text s word (record { section = common_section near; value = align; size = size }) (placed_fault text s.symbols word)
    (common_spot (length s.sections) align size near) sound
applied_sound text s (Set word value) sound suits =
    given_sound text s word (record { section = SHN_ABS; value = value; size = 0 }) (placed_fault text s.symbols word) (inr (omega arith, omega arith)) sound
