-- A line changes no more than one section.
use Rattle.std.proofs.Common.{◌≡◌, ℕ, suc, zero, Bool, inl, inr, List, [], ◌∷◌, Option, Some, None, Result, Ok, Err, IfOk, refl, ◌∙◌, ap}
use Rattle.std.specs.Prelude.{◌⊎◌, slice_set}
use Rattle.std.proofs.lemmas.Result.{IfOk-at_ok, IfOk-weaker}
use Rattle.c6x_elf.specs.Abi.{SHN_ABS}
use Rattle.c6x_asm_lines.specs.declared.statement_head.StatementHead.{StatementHead}
use Rattle.c6x_asm_lines.specs.declared.line.Line.{Line}
use Rattle.c6x_asm_lines.specs.declared.line.Statement.{Statement}
use Rattle.c6x_asm_lines.specs.declared.operand.Operand.{Operand}
use Rattle.c6x_asm_lines.specs.declared.word.Word.{Word}
use Rattle.c6x_asm_lines.specs.Grammar.{is_dotted}
use Rattle.c6x_asm_lines.specs.declared.relocatable.Field.{Field}
use Rattle.c6x_asm_lines.specs.declared.relocatable.RelocatableOp.{RelocatableOp}
use Rattle.c6x_asm_lines.specs.declared.rule.AsmRule.{AsmRule}
use Rattle.c6x_asm_lines.specs.declared.rule.AsmRule.TheVariants.{Large}
use Rattle.c6x_asm_lines.specs.Bytes.{bytes_at}
use Rattle.c6x_asm_instr.specs.Instructions.{instruction_of}
use Rattle.c6x_asm_instr.specs.declared.directive.Directive.{Directive}
use Rattle.c6x_asm_instr.specs.declared.directive.Directive.TheVariants.{Section, Numbers, Space, Align, Attribute as SetAttribute, Common, Set}
use Rattle.c6x_asm_instr.specs.declared.keyword.Keyword.{Keyword}
use Rattle.c6x_asm_instr.specs.Directives.{directive_by}
use Rattle.c6x_asm_instr.specs.Keywords.{keyword_of}
use Rattle.c6x_asm_instr.specs.Kinds.{kinds_from}
use Rattle.c6x_asm_object.specs.declared.asm_section.AsmSection.{AsmSection}
use Rattle.c6x_asm_object.specs.declared.definition.Definition.{Definition}
use Rattle.c6x_asm_object.specs.Kinds.{kind_named}
use Rattle.c6x_asm_object.specs.Sections.{changed, empty_section, padding, section_at, with_align, with_instruction, with_number, with_zeros}
use Rattle.c6x_asm.specs.States.{State, entered, entered_or_new, labelled, section_index, placed_fault, relocated}
use Rattle.c6x_asm.specs.Directives.{applied, common_section, given_place, has_room, in_section, with_alignment, with_field, with_fields, with_space}
use Rattle.c6x_asm.specs.Instructions.{fails, instructed, instruction_fault, instr_word_of, with_made, with_word, word_of}
use Rattle.c6x_asm.specs.StepLines.{after_label, fault_of_label, numbers_fault, stated, stepped, with_keyword, with_statement}
use Rattle.c6x_asm.specs.Touching.{IsReplaced, Touches}
use Rattle.c6x_asm.proofs.Results.{if_either, if_kept, if_next}

-- the sections behind a line
abbrev Touch : State → State → Type 0
Touch s t = Touches s.sections s.now t.sections

-- one section changed more than once
set_twice : {T : Type 0} (xs : List T) (i : ℕ) (x y : T) → slice_set (slice_set xs i x) i y ≡ slice_set xs i y
set_twice [] i x y = refl
set_twice (z ∷ xs) zero x y = refl
set_twice (z ∷ xs) (suc i) x y = ap (λ rest. z ∷ rest) (set_twice xs i x y)

abbrev Alters : ℕ → List AsmSection → List AsmSection → Type 0
Alters i before after = (after ≡ before) ⊎ IsReplaced before i after

alters_then : (i : ℕ) (a b c : List AsmSection) → IsReplaced a i b → Alters i b c → Alters i a c
alters_then i a b c first (inl same) = inr (record { section = first.section; is = same ∙ first.is })
alters_then i a b c first (inr next) =
    inr (record {
      section = next.section;
      is = next.is ∙ ap (λ ps. slice_set ps i next.section) first.is ∙ set_twice a i first.section next.section;
    })

field_touches : (text : List ℕ) (i size : ℕ) (s : State) (field : Field) → IfOk (with_field text i size s field) (λ t. IsReplaced s.sections i t.sections)
unfolding with_field
field_touches text i size s field =
    let entry = relocated text s.symbols (section_at s.sections i).size field.relocation in
    if_either (λ (t : State). IsReplaced s.sections i t.sections) (has_room s i size) (Ok (record s { symbols = entry.0; sections = changed s.sections i (with_number size field.bits entry.1) })) (Err Large)
    (record { section = with_number size field.bits entry.1 (section_at s.sections i); is = refl }) tt

fields_touch : (text : List ℕ) (i size : ℕ) (s : State) (fields : List Field) → IfOk (with_fields text i size s fields) (λ t. Alters i s.sections t.sections)
fields_touch text i size s [] = inl refl
fields_touch text i size s (field ∷ fields) =
    if_next (λ (t : State). Alters i s.sections t.sections) (with_field text i size s field) (λ t. with_fields text i size t fields)
    (λ t is.
    IfOk-weaker (with_fields text i size t fields) (λ (u : State). Alters i t.sections u.sections) (λ (u : State). Alters i s.sections u.sections)
    (λ u rest. alters_then i s.sections t.sections u.sections (IfOk-at_ok (λ (v : State). IsReplaced s.sections i v.sections) is (field_touches text i size s field)) rest)
    (fields_touch text i size t fields))

-- a change of the section that lines go to touches it alone
altered : (before : List AsmSection) (current : Option ℕ) (after : List AsmSection) (i : ℕ) → current ≡ Some i → Alters i before after → Touches before current after
altered before current after i goes (inl same) = inl same
altered before current after i goes (inr replaced) = inr (inr (record { place = i; goes = goes; replaced = replaced }))

in_section_touches : (s : State) (now : Option ℕ) (next : ℕ → Result State AsmRule) → ((i : ℕ) → now ≡ Some i → IfOk (next i) (Touch s)) → IfOk (in_section now next) (Touch s)
in_section_touches s None next holds = tt
in_section_touches s (Some i) next holds = holds i refl

space_touches : (count : ℕ) (s : State) (i : ℕ) → s.now ≡ Some i → IfOk (with_space count s i) (Touch s)
space_touches count s i goes =
    if_either (Touch s) (has_room s i count) (Ok (record s { sections = changed s.sections i (with_zeros count) })) (Err Large)
    (inr (inr (record { place = i; goes = goes; replaced = record { section = with_zeros count (section_at s.sections i); is = refl } }))) tt

alignment_touches : (align : ℕ) (s : State) (i : ℕ) → s.now ≡ Some i → IfOk (with_alignment align s i) (Touch s)
alignment_touches align s i goes =
    if_either (Touch s) (has_room s i (padding (section_at s.sections i).size align)) (Ok (record s { sections = changed s.sections i (with_align align) })) (Err Large)
    (inr (inr (record { place = i; goes = goes; replaced = record { section = with_align align (section_at s.sections i); is = refl } }))) tt

given_touches : (text : List ℕ) (s : State) (word : Word) (definition : Definition) (fault : Option AsmRule) → IfOk (given_place text s word definition fault) (Touch s)
given_touches text s word definition None = inl refl
given_touches text s word definition (Some rule) = tt

entered_touches : (text : List ℕ) (at len : ℕ) (s : State) → Touch s (entered text at len s)
unfolding entered
entered_touches text at len s = either (section_index text s.sections (bytes_at text at len))
  where
    either : (o : Option ℕ) → Touch s (entered_or_new text at len s o)
    either (Some i) = inl refl
    either None = inr (inl (record { section = empty_section at len (kind_named (bytes_at text at len)); is = refl }))

-- a directive
applied_touches : (text : List ℕ) (s : State) (directive : Directive) → IfOk (applied text s directive) (Touch s)
unfolding applied
applied_touches text s (Section at len) = entered_touches text at len s
applied_touches text s (Numbers size fields) = in_section_touches s s.now (λ i. with_fields text i size s fields) (λ i is.
    IfOk-weaker (with_fields text i size s fields) (λ (t : State). Alters i s.sections t.sections) (Touch s) (λ t alters. altered s.sections s.now t.sections i is alters)
    (fields_touch text i size s fields))
applied_touches text s (Space count) = in_section_touches s s.now (with_space count s) (λ i is. space_touches count s i is)
applied_touches text s (Align align) = in_section_touches s s.now (with_alignment align s) (λ i is. alignment_touches align s i is)
applied_touches text s (SetAttribute attribute word) = inl refl
applied_touches text s (Common word size align near) =
    given_touches text s word (record { section = common_section near; value = align; size = size }) (placed_fault text s.symbols word)
applied_touches text s (Set word value) =
    given_touches text s word (record { section = SHN_ABS; value = value; size = 0 }) (placed_fault text s.symbols word)

keyword_touches : (text : List ℕ) (keyword : Option Keyword) (operands : List Operand) (s : State) → IfOk (with_keyword text keyword operands s) (Touch s)
keyword_touches text None operands s = tt
keyword_touches text (Some keyword) operands s =
    if_next (Touch s) (fails (numbers_fault keyword s.sections s.now) (directive_by text keyword operands)) (λ directive. applied text s directive)
    (λ directive is. applied_touches text s directive)

-- an instruction
word_touches : (text : List ℕ) (line : ℕ) (chained : Bool) (made : RelocatableOp) (word : Option ℕ) (s : State) (i : ℕ) → s.now ≡ Some i → IfOk (with_word text line chained made word s i) (Touch s)
word_touches text line chained made None s i goes = tt
word_touches text line chained made (Some word) s i goes =
    let entry = relocated text s.symbols (section_at s.sections i).size made.relocation in
    if_either (Touch s) (has_room s i 4) (Ok (record s { symbols = entry.0; sections = changed s.sections i (with_instruction (instr_word_of line chained word) entry.1) })) (Err Large)
    (inr (inr (record { place = i; goes = goes; replaced = record { section = with_instruction (instr_word_of line chained word) entry.1 (section_at s.sections i); is = refl } }))) tt

instructed_touches : (text : List ℕ) (line : ℕ) (head : StatementHead) (operands : List Operand) (s : State) → IfOk (instructed text line head operands s) (Touch s)
unfolding instructed
instructed_touches text line head operands s =
    if_next (Touch s) (fails (instruction_fault s head) (instruction_of text head operands)) (λ made. with_made text line head s made) (λ made is.
    in_section_touches s s.now (λ i. with_word text line head.chained made (word_of head.condition made.op) s i)
    (λ i goes. word_touches text line head.chained made (word_of head.condition made.op) s i goes))

statement_touches : (text : List ℕ) (line : ℕ) (statement : Statement) (s : State) → IfOk (with_statement text line statement s) (Touch s)
statement_touches text line statement s =
    if_either (Touch s) (is_dotted statement.head.word.class) (with_keyword text (keyword_of (bytes_at text statement.head.word.at statement.head.word.len)) statement.operands s)
    (instructed text line statement.head statement.operands s)
    (keyword_touches text (keyword_of (bytes_at text statement.head.word.at statement.head.word.len)) statement.operands s)
    (instructed_touches text line statement.head statement.operands s)

stated_touches : (text : List ℕ) (line : ℕ) (statement : Option Statement) (s : State) → IfOk (stated text line statement s) (Touch s)
unfolding stated
stated_touches text line None s = inl refl
stated_touches text line (Some statement) s =
    if_kept (Touch s) (kinds_from text None statement.operands) (with_statement text line statement s)
    (λ none. statement_touches text line statement s)

-- a label touches no section
labelled_touches : (text : List ℕ) (line : ℕ) (statement : Option Statement) (s : State) (label : Option Word) → IfOk (stated text line statement (after_label text s label)) (Touch s)
unfolding labelled
labelled_touches text line statement s None = stated_touches text line statement s
labelled_touches text line statement s (Some word) = stated_touches text line statement (labelled text s word)

-- a line, whichever it is
step_touches : (text : List ℕ) (number : ℕ) (line : Line) (s : State) → IfOk (stepped text number line s) (Touch s)
unfolding stepped
step_touches text number line s =
    if_kept (Touch s) (fault_of_label text s line.label) (stated text number line.statement (after_label text s line.label))
    (λ none. labelled_touches text number line.statement s line.label)

-- the sections behind a line that breaks no rule
pub stepped_touches : (text : List ℕ) (number : ℕ) (line : Line) (s t : State) → stepped text number line s ≡ Ok t → Touches s.sections s.now t.sections
stepped_touches text number line s t is = IfOk-at_ok (Touch s) is (step_touches text number line s)
