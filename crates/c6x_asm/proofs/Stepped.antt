-- What a line adds to the sections is what it says.
use Rattle.std.proofs.Common.{◌≡◌, ℕ, ◌<◌, ◌%◌, ◌==◌, Bool, true, false, not, ◌&&◌, ◌||◌, List, [], ◌∷◌, ◌++◌, length, take, Option, Some, None, Result, Ok, Err, IfOk, refl, sym, ◌∙◌, ap, subst}
use Rattle.std.specs.Prelude.{if◌then◌else◌, slice_set}
use Rattle.std.specs.Int.{to_le_bytes, w32}
use Rattle.std.specs.Str.{bytes_eq}
use Rattle.std.proofs.lemmas.Bool.{eqb-true}
use Rattle.std.proofs.lemmas.List.{get_or-set_same, length-set, set-get_or, set-set}
use Rattle.std.proofs.lemmas.List.Quantifiers.{position-Some}
use Rattle.std.proofs.lemmas.Result.{IfOk-at_ok, IfOk-weaker}
use Rattle.std.proofs.lemmas.Slice.Eq.{bytes_eq-Decides}
use Rattle.c6x_elf.specs.Abi.{SHN_ABS}
use Rattle.c6x_encoding.proofs.Facts.{spells-encoded}
use Rattle.c6x_encoding.specs.declared.cond.Cond.{Cond}
use Rattle.c6x_encoding.specs.declared.op.Op.{Op}
use Rattle.c6x_encoding.specs.Spelling.{Spells}
use Rattle.c6x_asm_lines.specs.declared.line.Line.{Line}
use Rattle.c6x_asm_lines.specs.declared.line.Statement.{Statement}
use Rattle.c6x_asm_lines.specs.declared.rule.AsmRule.{AsmRule}
use Rattle.c6x_asm_lines.specs.declared.rule.AsmRule.TheVariants.{Syntax, Large, Operand as BadOperand}
use Rattle.c6x_asm_lines.specs.declared.word.Word.{Word}
use Rattle.c6x_asm_lines.specs.Bytes.{bytes_at}
use Rattle.c6x_asm_lines.specs.Grammar.{is_dotted}
use Rattle.c6x_asm_lines.specs.Rules.{lowest}
use Rattle.c6x_asm_lines.specs.declared.relocatable.Field.{Field}
use Rattle.c6x_asm_lines.specs.declared.relocatable.RelocatableOp.{RelocatableOp}
use Rattle.c6x_asm_lines.specs.declared.relocation.Relocation.{Relocation}
use Rattle.c6x_asm_instr.specs.Instructions.{instruction_of}
use Rattle.c6x_asm_instr.specs.declared.directive.Directive.{Directive}
use Rattle.c6x_asm_instr.specs.declared.directive.Directive.TheVariants.{Section, Numbers, Space, Align, Attribute as SetAttribute, Common, Set}
use Rattle.c6x_asm_instr.specs.declared.keyword.Keyword.{Keyword}
use Rattle.c6x_asm_instr.specs.declared.symbol_attribute.SymbolAttribute.{SymbolAttribute}
use Rattle.c6x_asm_instr.specs.Directives.{directive_by}
use Rattle.c6x_asm_instr.specs.Keywords.{keyword_of}
use Rattle.c6x_asm_instr.specs.Kinds.{kinds_from}
use Rattle.c6x_asm_object.specs.declared.asm_section.AsmSection.{AsmSection}
use Rattle.c6x_asm_object.specs.declared.definition.Definition.{Definition}
use Rattle.c6x_asm_object.specs.Kinds.{kind_named}
use Rattle.c6x_asm_object.specs.Named.{section_name}
use Rattle.c6x_asm_object.specs.Sections.{changed, empty_section, is_zero, no_section, padding, section_at, with_align, with_instruction, with_number, with_zeros}
use Rattle.c6x_asm.specs.States.{State, entered, entered_or_new, labelled, placed_fault, relocated, section_index}
use Rattle.c6x_asm.specs.Directives.{applied, common_section, given_place, has_room, in_section, with_alignment, with_field, with_fields, with_space}
use Rattle.c6x_asm.specs.Instructions.{chain_fault, ends_at, fails, instr_word_of, instructed, instruction_fault, is_behind, place_fault, with_made, with_word, word_of}
use Rattle.c6x_asm.specs.StepLines.{after_label, fault_of_label, numbers_fault, stated, stepped, with_keyword, with_statement}
use Rattle.c6x_asm.proofs.Results.{if_either, if_kept, if_next, kept}
use Rattle.c6x_asm.proofs.DirectiveLaws.{Suits, directive_suits}
use Rattle.c6x_asm.specs.Said.{Saying, says_nothing, says_directive, says_instruction, Said, Says, nothing_said, directive_said, instruction_said, text_of_word}
use Rattle.c6x_asm.specs.Sections.{behind_lines, lines_in, number_bytes}
use Rattle.c6x_asm.proofs.Firsts.{not_among}
use Rattle.c6x_asm.proofs.Grown.{IsGrown, IsIdle, IsSectionState, MayJoin, align_state, directing, grown_twice, has_word, instructing, instruction_state, nothing_grown, number_grown, numbers_state, space_state}
use Rattle.c6x_asm.proofs.Lined.{IsMeant, IsStaying, added_meant, empty_state, entered_meant, grown_meant, idle_meant, name_of, there}

-- lines that stay in their section
nothing_stays : (text : List ℕ) → IsStaying text says_nothing
nothing_stays text = record { here = λ here. refl; names = refl }

word_stays : (text : List ℕ) (chained : Bool) (word : ℕ) (relocation : Option Relocation) → IsStaying text (says_instruction chained word relocation)
word_stays text chained word relocation = record { here = λ here. refl; names = refl }

numbers_stay : (text : List ℕ) (size : ℕ) (fields : List Field) → IsStaying text (says_directive (Numbers size fields))
numbers_stay text size fields = record { here = λ here. refl; names = refl }

space_stays : (text : List ℕ) (count : ℕ) → IsStaying text (says_directive (Space count))
space_stays text count = record { here = λ here. refl; names = refl }

align_stays : (text : List ℕ) (align : ℕ) → IsStaying text (says_directive (Align align))
align_stays text align = record { here = λ here. refl; names = refl }

attribute_stays : (text : List ℕ) (attribute : SymbolAttribute) (word : Word) → IsStaying text (says_directive (SetAttribute attribute word))
attribute_stays text attribute word = record { here = λ here. refl; names = refl }

common_stays : (text : List ℕ) (word : Word) (size align : ℕ) (near : Bool) → IsStaying text (says_directive (Common word size align near))
common_stays text word size align near = record { here = λ here. refl; names = refl }

set_stays : (text : List ℕ) (word : Word) (value : ℕ) → IsStaying text (says_directive (Set word value))
set_stays text word value = record { here = λ here. refl; names = refl }

-- lines that put nothing
nothing_idle : IsIdle says_nothing
nothing_idle = record { puts = λ place. refl; plain = refl; align = λ align. refl; ends = λ place. refl; words = λ number. refl }

attribute_idle : (attribute : SymbolAttribute) (word : Word) → IsIdle (says_directive (SetAttribute attribute word))
attribute_idle attribute word = record { puts = λ place. refl; plain = refl; align = λ align. refl; ends = λ place. refl; words = λ number. refl }

common_idle : (word : Word) (size align : ℕ) (near : Bool) → IsIdle (says_directive (Common word size align near))
common_idle word size align near = record { puts = λ place. refl; plain = refl; align = λ align. refl; ends = λ place. refl; words = λ number. refl }

set_idle : (word : Word) (value : ℕ) → IsIdle (says_directive (Set word value))
set_idle word value = record { puts = λ place. refl; plain = refl; align = λ align. refl; ends = λ place. refl; words = λ number. refl }

-- what goes to the section that lines go to
pub in_section_meant : (P : State → Type 0) (now : Option ℕ) (next : ℕ → Result State AsmRule) → ((i : ℕ) → now ≡ Some i → IfOk (next i) P) → IfOk (in_section now next) P
in_section_meant P None next holds = tt
in_section_meant P (Some i) next holds = holds i refl

pub inside_here : (text : List ℕ) (said : List Said) (sections : List AsmSection) (now : Option ℕ) (i : ℕ) → now ≡ Some i → IsMeant text said sections now → i < length sections
inside_here text said sections now i is meant =
    let here : IsMeant text said sections (Some i) = subst (IsMeant text said sections) is meant in
    (there text sections i (behind_lines text None said) here.here).inside

grown_here : (text : List ℕ) (said : List Said) (l : Said) (sections : List AsmSection) (now : Option ℕ) (i : ℕ) (q : AsmSection) → now ≡ Some i → IsStaying text l.saying → IsMeant text said sections now → section_name text q ≡ name_of text sections i → IsSectionState (name_of text sections i) (lines_in text (name_of text sections i) None said ++ l ∷ []) q → IsMeant text (said ++ l ∷ []) (slice_set sections i q) now
grown_here text said l sections now i q is stays meant same state =
    subst (IsMeant text (said ++ l ∷ []) (slice_set sections i q)) (sym is)
    (grown_meant text said l sections i q stays (subst (IsMeant text said sections) is meant) same state)

-- numbers put into a section
pub record IsPut (i : ℕ) (s : State) (bytes : List ℕ) (t : State) : Type 0 where
  pub section : AsmSection
  pub sections : t.sections ≡ slice_set s.sections i section
  pub now : t.now ≡ s.now
  pub grown : IsGrown (section_at s.sections i) bytes section

field_put : (text : List ℕ) (i size : ℕ) (s : State) (field : Field) → IfOk (with_field text i size s field) (IsPut i s (take size (to_le_bytes w32 field.bits)))
unfolding with_field
field_put text i size s field =
    let entry = relocated text s.symbols (section_at s.sections i).size field.relocation in
    if_either (IsPut i s (take size (to_le_bytes w32 field.bits))) (has_room s i size) (Ok (record s { symbols = entry.0; sections = changed s.sections i (with_number size field.bits entry.1) })) (Err Large)
    (record { section = with_number size field.bits entry.1 (section_at s.sections i); sections = refl; now = refl; grown = number_grown size field.bits entry.1 (section_at s.sections i) }) tt

put_twice : (i : ℕ) (s t u : State) (a b : List ℕ) → i < length s.sections → IsPut i s a t → IsPut i t b u → IsPut i s (a ++ b) u
put_twice i s t u a b inside first next =
    let middle : section_at t.sections i ≡ first.section = ap (λ ps. section_at ps i) first.sections ∙ get_or-set_same s.sections i first.section no_section inside in
    record {
      section = next.section;
      sections = next.sections ∙ ap (λ ps. slice_set ps i next.section) first.sections ∙ set-set s.sections i first.section next.section;
      now = next.now ∙ first.now;
      grown = grown_twice (section_at s.sections i) first.section next.section a b first.grown (subst (λ p. IsGrown p b next.section) middle next.grown);
    }

fields_put : (text : List ℕ) (i size : ℕ) (s : State) (fields : List Field) → i < length s.sections → IfOk (with_fields text i size s fields) (IsPut i s (number_bytes size fields))
fields_put text i size s [] inside = record {
  section = section_at s.sections i;
  sections = sym (set-get_or s.sections i no_section);
  now = refl;
  grown = nothing_grown (section_at s.sections i);
}
fields_put text i size s (field ∷ fields) inside =
    if_next (IsPut i s (number_bytes size (field ∷ fields))) (with_field text i size s field) (λ t. with_fields text i size t fields) (λ t is.
    let first : IsPut i s (take size (to_le_bytes w32 field.bits)) t = IfOk-at_ok (IsPut i s (take size (to_le_bytes w32 field.bits))) is (field_put text i size s field) in
    let within : i < length t.sections = subst (λ n. i < n) (sym (ap length first.sections ∙ length-set s.sections i first.section)) inside in
    IfOk-weaker (with_fields text i size t fields) (IsPut i t (number_bytes size fields)) (IsPut i s (number_bytes size (field ∷ fields)))
    (λ u next. put_twice i s t u (take size (to_le_bytes w32 field.bits)) (number_bytes size fields) inside first next)
    (fields_put text i size t fields within))

pub same_name : (text : List ℕ) (p q : AsmSection) → q.at ≡ p.at → q.len ≡ p.len → section_name text q ≡ section_name text p
same_name text p q at len = ap (λ n. bytes_at text n q.len) at ∙ ap (bytes_at text p.at) len

numbers_meant : (text : List ℕ) (said : List Said) (number : ℕ) (label : Option Word) (size : ℕ) (fields : List Field) (s : State) (i : ℕ) → s.now ≡ Some i → is_zero (section_at s.sections i).kind ≡ false → IsMeant text said s.sections s.now → IfOk (with_fields text i size s fields) (λ t. IsMeant text (said ++ directing number label (Numbers size fields) ∷ []) t.sections t.now)
numbers_meant text said number label size fields s i is some meant =
    let inside = inside_here text said s.sections s.now i is meant in
    IfOk-weaker (with_fields text i size s fields) (IsPut i s (number_bytes size fields)) (λ t. IsMeant text (said ++ directing number label (Numbers size fields) ∷ []) t.sections t.now)
    (λ t put.
    let p = section_at s.sections i in
    let grown = grown_here text said (directing number label (Numbers size fields)) s.sections s.now i put.section is (numbers_stay text size fields) meant
    (same_name text p put.section put.grown.at put.grown.len)
    (numbers_state (name_of text s.sections i) (lines_in text (name_of text s.sections i) None said) number label size fields p put.section some (meant.each i inside) put.grown) in
    subst (λ ps. IsMeant text (said ++ directing number label (Numbers size fields) ∷ []) ps t.now) (sym put.sections)
    (subst (IsMeant text (said ++ directing number label (Numbers size fields) ∷ []) (slice_set s.sections i put.section)) (sym put.now) grown))
    (fields_put text i size s fields inside)

pub zeros_name : (text : List ℕ) (count : ℕ) (p : AsmSection) → section_name text (with_zeros count p) ≡ section_name text p
unfolding with_zeros
zeros_name text count p = refl

pub align_name : (text : List ℕ) (align : ℕ) (p : AsmSection) → section_name text (with_align align p) ≡ section_name text p
unfolding with_align with_zeros
align_name text align p = refl

empty_name : (text : List ℕ) (at len : ℕ) → section_name text (empty_section at len (kind_named (bytes_at text at len))) ≡ bytes_at text at len
unfolding empty_section
empty_name text at len = refl

space_meant : (text : List ℕ) (said : List Said) (number : ℕ) (label : Option Word) (count : ℕ) (s : State) (i : ℕ) → s.now ≡ Some i → IsMeant text said s.sections s.now → IfOk (with_space count s i) (λ t. IsMeant text (said ++ directing number label (Space count) ∷ []) t.sections t.now)
space_meant text said number label count s i is meant =
    let p = section_at s.sections i in
    let inside = inside_here text said s.sections s.now i is meant in
    if_either (λ (t : State). IsMeant text (said ++ directing number label (Space count) ∷ []) t.sections t.now) (has_room s i count) (Ok (record s { sections = changed s.sections i (with_zeros count) })) (Err Large)
    (grown_here text said (directing number label (Space count)) s.sections s.now i (with_zeros count p) is (space_stays text count) meant (zeros_name text count p)
    (space_state (name_of text s.sections i) (lines_in text (name_of text s.sections i) None said) number label count p (meant.each i inside))) tt

alignment_meant : (text : List ℕ) (said : List Said) (number : ℕ) (label : Option Word) (align : ℕ) (s : State) (i : ℕ) → s.now ≡ Some i → IsMeant text said s.sections s.now → IfOk (with_alignment align s i) (λ t. IsMeant text (said ++ directing number label (Align align) ∷ []) t.sections t.now)
alignment_meant text said number label align s i is meant =
    let p = section_at s.sections i in
    let inside = inside_here text said s.sections s.now i is meant in
    if_either (λ (t : State). IsMeant text (said ++ directing number label (Align align) ∷ []) t.sections t.now) (has_room s i (padding p.size align)) (Ok (record s { sections = changed s.sections i (with_align align) })) (Err Large)
    (grown_here text said (directing number label (Align align)) s.sections s.now i (with_align align p) is (align_stays text align) meant (align_name text align p)
    (align_state (name_of text s.sections i) (lines_in text (name_of text s.sections i) None said) number label align p (meant.each i inside))) tt

section_meant : (text : List ℕ) (said : List Said) (number : ℕ) (label : Option Word) (at len : ℕ) (s : State) → IsMeant text said s.sections s.now → IsMeant text (said ++ directing number label (Section at len) ∷ []) (entered text at len s).sections (entered text at len s).now
unfolding entered section_index
section_meant text said number label at len s meant = by (section_index text s.sections (bytes_at text at len)) refl
  where
    by : (o : Option ℕ) → section_index text s.sections (bytes_at text at len) ≡ o → IsMeant text (said ++ directing number label (Section at len) ∷ []) (entered_or_new text at len s o).sections (entered_or_new text at len s o).now
    by (Some i) is =
        let found = position-Some (λ p. bytes_eq (bytes_at text p.at p.len) (bytes_at text at len)) s.sections i no_section is in
        entered_meant text said number label at len i s.sections s.now found.0 ((bytes_eq-Decides (name_of text s.sections i) (bytes_at text at len)).0 found.1) meant
    by None is =
        added_meant text said number label at len s.sections s.now (empty_section at len (kind_named (bytes_at text at len)))
        (empty_name text at len) (empty_state text at len) (not_among (section_name text) s.sections (bytes_at text at len) is) meant

given_meant : (text : List ℕ) (said : List Said) (l : Said) (s : State) (word : Word) (definition : Definition) (fault : Option AsmRule) → IsIdle l.saying → IsStaying text l.saying → IsMeant text said s.sections s.now → IfOk (given_place text s word definition fault) (λ t. IsMeant text (said ++ l ∷ []) t.sections t.now)
given_meant text said l s word definition None idle stays meant = idle_meant text said l s.sections s.now idle stays meant
given_meant text said l s word definition (Some rule) idle stays meant = tt

-- a directive
applied_meant : (text : List ℕ) (said : List Said) (number : ℕ) (label : Option Word) (s : State) (directive : Directive) → Suits s.sections s.now directive → IsMeant text said s.sections s.now → IfOk (applied text s directive) (λ t. IsMeant text (said ++ directing number label directive ∷ []) t.sections t.now)
unfolding applied
applied_meant text said number label s (Section at len) suits meant = section_meant text said number label at len s meant
applied_meant text said number label s (Numbers size fields) suits meant =
    in_section_meant (λ t. IsMeant text (said ++ directing number label (Numbers size fields) ∷ []) t.sections t.now) s.now (λ i. with_fields text i size s fields)
    (λ i is. numbers_meant text said number label size fields s i is (suits i is) meant)
applied_meant text said number label s (Space count) suits meant =
    in_section_meant (λ t. IsMeant text (said ++ directing number label (Space count) ∷ []) t.sections t.now) s.now (with_space count s)
    (λ i is. space_meant text said number label count s i is meant)
applied_meant text said number label s (Align align) suits meant =
    in_section_meant (λ t. IsMeant text (said ++ directing number label (Align align) ∷ []) t.sections t.now) s.now (with_alignment align s)
    (λ i is. alignment_meant text said number label align s i is meant)
applied_meant text said number label s (SetAttribute attribute word) suits meant =
    idle_meant text said (directing number label (SetAttribute attribute word)) s.sections s.now (attribute_idle attribute word) (attribute_stays text attribute word) meant
applied_meant text said number label s (Common word size align near) suits meant =
    given_meant text said (directing number label (Common word size align near)) s word (record { section = common_section near; value = align; size = size }) (placed_fault text s.symbols word)
    (common_idle word size align near) (common_stays text word size align near) meant
applied_meant text said number label s (Set word value) suits meant =
    given_meant text said (directing number label (Set word value)) s word (record { section = SHN_ABS; value = value; size = 0 }) (placed_fault text s.symbols word)
    (set_idle word value) (set_stays text word value) meant

-- what a line says, and the sections of the lines with it
pub record IsSaidBy (text : List ℕ) (said : List Said) (number : ℕ) (label : Option Word) (statement : Option Statement) (t : State) : Type 0 where
  pub saying : Saying
  pub says : Says text statement saying
  pub meant : IsMeant text (said ++ record { number = number; label = label; saying = saying } ∷ []) t.sections t.now

keyword_meant : (text : List ℕ) (said : List Said) (number : ℕ) (label : Option Word) (statement : Statement) (o : Option Keyword) (s : State) → is_dotted statement.head.word.class ≡ true → keyword_of (text_of_word text statement.head.word) ≡ o → IsMeant text said s.sections s.now → IfOk (with_keyword text o statement.operands s) (IsSaidBy text said number label (Some statement))
keyword_meant text said number label statement None s dotted named meant = tt
keyword_meant text said number label statement (Some keyword) s dotted named meant =
    let fault = numbers_fault keyword s.sections s.now in
    let read = directive_by text keyword statement.operands in
    if_next (IsSaidBy text said number label (Some statement)) (fails fault read) (λ directive. applied text s directive) (λ directive is.
    let both = kept fault read directive is in
    let suits = IfOk-at_ok (Suits s.sections s.now) both.1 (directive_suits text keyword statement.operands s.sections s.now both.0) in
    IfOk-weaker (applied text s directive) (λ t. IsMeant text (said ++ directing number label directive ∷ []) t.sections t.now) (IsSaidBy text said number label (Some statement))
    (λ t meant. record { saying = says_directive directive; says = directive_said dotted named both.1; meant = meant })
    (applied_meant text said number label s directive suits meant))

-- where an instruction may stand
word_place : (zero' odd : Bool) → (if zero' || odd then Some BadOperand else None) ≡ None → zero' ≡ false
word_place true odd is = absurd (cc)
word_place false odd is = refl

place_kept : (sections : List AsmSection) (now : Option ℕ) (i : ℕ) → now ≡ Some i → place_fault sections now ≡ None → is_zero (section_at sections i).kind ≡ false
place_kept sections None i at is = absurd (cc)
place_kept sections (Some j) i at is =
    let same : j ≡ i = cc in
    subst (λ k. is_zero (section_at sections k).kind ≡ false) same (word_place (is_zero (section_at sections j).kind) (not ((section_at sections j).size % 4 == 0)) is)

both_none : (a b : Option AsmRule) → lowest a b ≡ None → (a ≡ None) × (b ≡ None)
both_none None b is = (refl, is)
both_none (Some a) None is = absurd (cc)
both_none (Some a) (Some b) is = absurd (cc)

ends_last : (last : Option ℕ) (size : ℕ) → ends_at last size ≡ true → last ≡ Some size
ends_last None size is = absurd (cc)
ends_last (Some end) size is = ap Some (eqb-true end size is)

may_join : (chained : Bool) (sections : List AsmSection) (now : Option ℕ) (i : ℕ) → now ≡ Some i → chain_fault chained (is_behind sections now) ≡ None → MayJoin chained (section_at sections i)
may_join false sections now i at is = tt
may_join true sections None i at is = absurd (cc)
may_join true sections (Some j) i at is =
    let same : j ≡ i = cc in
    subst (λ k. (section_at sections k).last ≡ Some (section_at sections k).size) same
    (ends_last (section_at sections j).last (section_at sections j).size (test (ends_at (section_at sections j).last (section_at sections j).size) is))
  where
    test : (b : Bool) → (if true && not b then Some Syntax else None) ≡ None → b ≡ true
    test true is = refl
    test false is = absurd (cc)

spelled_word : (condition : Cond) (op : Op) (word : ℕ) → word_of condition op ≡ Some word → Spells (record { condition = condition; op = op; chained = false }) word
unfolding word_of
spelled_word condition op word is = spells-encoded (record { condition = condition; op = op; chained = false }) word is

word_meant : (text : List ℕ) (said : List Said) (number : ℕ) (label : Option Word) (statement : Statement) (made : RelocatableOp) (o : Option ℕ) (s : State) (i : ℕ) → is_dotted statement.head.word.class ≡ false → instruction_of text statement.head statement.operands ≡ Ok made → word_of statement.head.condition made.op ≡ o → s.now ≡ Some i → is_zero (section_at s.sections i).kind ≡ false → MayJoin statement.head.chained (section_at s.sections i) → IsMeant text said s.sections s.now → IfOk (with_word text number statement.head.chained made o s i) (IsSaidBy text said number label (Some statement))
word_meant text said number label statement made None s i plain read spelled is some may meant = tt
word_meant text said number label statement made (Some word) s i plain read spelled is some may meant =
    let p = section_at s.sections i in
    let chained = statement.head.chained in
    let entry = relocated text s.symbols p.size made.relocation in
    let q = with_instruction (instr_word_of number chained word) entry.1 p in
    let inside = inside_here text said s.sections s.now i is meant in
    let grown = has_word (instr_word_of number chained word) entry.1 p in
    let l = instructing number label chained word made.relocation in
    if_either (IsSaidBy text said number label (Some statement)) (has_room s i 4) (Ok (record s { symbols = entry.0; sections = changed s.sections i (with_instruction (instr_word_of number chained word) entry.1) })) (Err Large)
    (record {
      saying = says_instruction chained word made.relocation;
      says = instruction_said plain read (spelled_word statement.head.condition made.op word spelled);
      meant =
          grown_here text said l s.sections s.now i q is (word_stays text chained word made.relocation) meant (same_name text p q grown.at grown.len)
          (instruction_state (name_of text s.sections i) (lines_in text (name_of text s.sections i) None said) number label chained word made.relocation p q some may (meant.each i inside) grown);
    }) tt

instruction_meant : (text : List ℕ) (said : List Said) (number : ℕ) (label : Option Word) (statement : Statement) (s : State) → is_dotted statement.head.word.class ≡ false → IsMeant text said s.sections s.now → IfOk (instructed text number statement.head statement.operands s) (IsSaidBy text said number label (Some statement))
unfolding instructed
instruction_meant text said number label statement s plain meant =
    let head = statement.head in
    if_next (IsSaidBy text said number label (Some statement)) (fails (instruction_fault s head) (instruction_of text head statement.operands)) (λ made. with_made text number head s made) (λ made is.
    let both = kept (instruction_fault s head) (instruction_of text head statement.operands) made is in
    let none = both_none (chain_fault head.chained (is_behind s.sections s.now)) (place_fault s.sections s.now) both.0 in
    in_section_meant (IsSaidBy text said number label (Some statement)) s.now (λ i. with_word text number head.chained made (word_of head.condition made.op) s i) (λ i at.
    word_meant text said number label statement made (word_of head.condition made.op) s i plain both.1 refl at (place_kept s.sections s.now i at none.1) (may_join head.chained s.sections s.now i at none.0) meant))

statement_meant : (text : List ℕ) (said : List Said) (number : ℕ) (label : Option Word) (statement : Statement) (s : State) → IsMeant text said s.sections s.now → IfOk (with_statement text number statement s) (IsSaidBy text said number label (Some statement))
statement_meant text said number label statement s meant = by (is_dotted statement.head.word.class) refl
  where
    by : (b : Bool) → is_dotted statement.head.word.class ≡ b → IfOk (if b then with_keyword text (keyword_of (bytes_at text statement.head.word.at statement.head.word.len)) statement.operands s else instructed text number statement.head statement.operands s) (IsSaidBy text said number label (Some statement))
    by true is = keyword_meant text said number label statement (keyword_of (bytes_at text statement.head.word.at statement.head.word.len)) s is refl meant
    by false is = instruction_meant text said number label statement s is meant

stated_meant : (text : List ℕ) (said : List Said) (number : ℕ) (label : Option Word) (statement : Option Statement) (s : State) → IsMeant text said s.sections s.now → IfOk (stated text number statement s) (IsSaidBy text said number label statement)
unfolding stated
stated_meant text said number label None s meant = record {
  saying = says_nothing;
  says = nothing_said;
  meant = idle_meant text said (record { number = number; label = label; saying = says_nothing }) s.sections s.now nothing_idle (nothing_stays text) meant;
}
stated_meant text said number label (Some statement) s meant =
    if_kept (IsSaidBy text said number label (Some statement)) (kinds_from text None statement.operands) (with_statement text number statement s)
    (λ none. statement_meant text said number label statement s meant)

-- a label changes no section
pub label_meant : (text : List ℕ) (said : List Said) (label : Option Word) (s : State) → IsMeant text said s.sections s.now → IsMeant text said (after_label text s label).sections (after_label text s label).now
unfolding labelled
label_meant text said None s meant = meant
label_meant text said (Some word) s meant = meant

-- a line
pub stepped_meant : (text : List ℕ) (said : List Said) (number : ℕ) (line : Line) (s t : State) → IsMeant text said s.sections s.now → stepped text number line s ≡ Ok t → IsSaidBy text said number line.label line.statement t
unfolding stepped
stepped_meant text said number line s t meant is =
    IfOk-at_ok (IsSaidBy text said number line.label line.statement) is
    (if_kept (IsSaidBy text said number line.label line.statement) (fault_of_label text s line.label) (stated text number line.statement (after_label text s line.label))
    (λ none. stated_meant text said number line.label line.statement (after_label text s line.label) (label_meant text said line.label s meant)))
