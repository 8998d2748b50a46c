-- A line keeps sections and symbols sound.
use Rattle.std.proofs.Common.{◌≡◌, ℕ, ◌<◌, Bool, true, false, not, ◌||◌, ◌%◌, ◌==◌, List, length, Option, Some, None, Ok, Err, IfOk, refl, subst}
use Rattle.std.specs.Prelude.{if◌then◌else◌}
use Rattle.std.proofs.lemmas.Result.{IfOk-at_ok}
use Rattle.c6x_asm_lines.specs.declared.statement_head.StatementHead.{StatementHead}
use Rattle.c6x_asm_lines.specs.declared.line.Line.{Line}
use Rattle.c6x_asm_lines.specs.declared.line.Statement.{Statement}
use Rattle.c6x_asm_lines.specs.declared.operand.Operand.{Operand}
use Rattle.c6x_asm_lines.specs.declared.word.Word.{Word}
use Rattle.c6x_asm_lines.specs.Grammar.{is_dotted}
use Rattle.c6x_asm_lines.specs.declared.relocatable.RelocatableOp.{RelocatableOp}
use Rattle.c6x_asm_lines.specs.declared.rule.AsmRule.{AsmRule}
use Rattle.c6x_asm_lines.specs.declared.rule.AsmRule.TheVariants.{Large, Operand as BadOperand}
use Rattle.c6x_asm_lines.specs.Bytes.{bytes_at}
use Rattle.c6x_asm_instr.specs.Instructions.{instruction_of}
use Rattle.c6x_asm_instr.specs.declared.keyword.Keyword.{Keyword}
use Rattle.c6x_asm_instr.specs.Directives.{directive_by}
use Rattle.c6x_asm_instr.specs.Keywords.{keyword_of}
use Rattle.c6x_asm_instr.specs.Kinds.{kinds_from}
use Rattle.c6x_asm_lines.specs.Rules.{lowest}
use Rattle.c6x_asm_object.specs.declared.asm_section.AsmSection.{AsmSection}
use Rattle.c6x_asm_object.specs.Sections.{changed, is_zero, section_at, with_instruction}
use Rattle.c6x_asm.specs.States.{State, relocated}
use Rattle.c6x_asm.specs.Directives.{applied, has_room}
use Rattle.c6x_asm.specs.Instructions.{chain_fault, fails, instructed, instruction_fault, is_behind, place_fault, instr_word_of, with_made, with_word, word_of}
use Rattle.c6x_asm.specs.StepLines.{after_label, fault_of_label, numbers_fault, stated, stepped, with_keyword, with_statement}
use Rattle.c6x_asm.specs.Keeping.{IsStateSound}
use Rattle.c6x_asm.proofs.Results.{if_either, if_kept, if_next, kept}
use Rattle.c6x_asm.proofs.Growth.{instruction_sound}
use Rattle.c6x_asm.proofs.Names.{relocated_named}
use Rattle.c6x_asm.proofs.DirectiveLaws.{HasBytes, Suits, directive_suits}
use Rattle.c6x_asm.proofs.Adding.{applied_sound, in_section_sound, inside_now, label_sound, section_changed, section_there}

-- where an instruction may stand the section may have bytes
word_place : (zero' odd : Bool) → (if zero' || odd then Some BadOperand else None) ≡ None → zero' ≡ false
word_place true odd is = absurd (cc)
word_place false odd is = refl

place_kept : (sections : List AsmSection) (now : Option ℕ) → place_fault sections now ≡ None → HasBytes sections now
place_kept sections None is i at = absurd (cc)
place_kept sections (Some j) is i at =
    let same : j ≡ i = cc in
    subst (λ k. is_zero (section_at sections k).kind ≡ false) same (word_place (is_zero (section_at sections j).kind) (not ((section_at sections j).size % 4 == 0)) is)

lowest_none : (a b : Option AsmRule) → lowest a b ≡ None → b ≡ None
lowest_none None b is = is
lowest_none (Some a) None is = absurd (cc)
lowest_none (Some a) (Some b) is = absurd (cc)

-- the word of an instruction
word_sound : (text : List ℕ) (line : ℕ) (chained : Bool) (made : RelocatableOp) (word : Option ℕ) (s : State) (i : ℕ) → IsStateSound s → i < length s.sections → is_zero (section_at s.sections i).kind ≡ false → IfOk (with_word text line chained made word s i) IsStateSound
word_sound text line chained made None s i sound inside bytes = tt
word_sound text line chained made (Some word) s i sound inside bytes =
    let entry = relocated text s.symbols (section_at s.sections i).size made.relocation in
    let named = relocated_named text (length s.sections) s.symbols (section_at s.sections i).size made.relocation sound.sound.symbols in
    let there = section_there s i (length entry.0) sound inside named.more in
    let here = instruction_sound (length entry.0) (instr_word_of line chained word) entry.1 (section_at s.sections i) bytes named.entry there in
    if_either IsStateSound (has_room s i 4) (Ok (record s { symbols = entry.0; sections = changed s.sections i (with_instruction (instr_word_of line chained word) entry.1) })) (Err Large)
    (section_changed s i entry.0 (with_instruction (instr_word_of line chained word) entry.1) sound named.more named.symbols here) tt

made_sound : (text : List ℕ) (line : ℕ) (head : StatementHead) (s : State) (made : RelocatableOp) → IsStateSound s → HasBytes s.sections s.now → IfOk (with_made text line head s made) IsStateSound
made_sound text line head s made sound has =
    in_section_sound s.now (λ i. with_word text line head.chained made (word_of head.condition made.op) s i)
    (λ i is. word_sound text line head.chained made (word_of head.condition made.op) s i sound (inside_now s i sound is) (has i is))

-- an instruction
instructed_sound : (text : List ℕ) (line : ℕ) (head : StatementHead) (operands : List Operand) (s : State) → IsStateSound s → IfOk (instructed text line head operands s) IsStateSound
unfolding instructed
instructed_sound text line head operands s sound =
    if_next IsStateSound (fails (instruction_fault s head) (instruction_of text head operands)) (λ made. with_made text line head s made) (λ made is.
    let none = lowest_none (chain_fault head.chained (is_behind s.sections s.now)) (place_fault s.sections s.now) (kept (instruction_fault s head) (instruction_of text head operands) made is).0 in
    made_sound text line head s made sound (place_kept s.sections s.now none))

-- a directive
keyword_sound : (text : List ℕ) (keyword : Option Keyword) (operands : List Operand) (s : State) → IsStateSound s → IfOk (with_keyword text keyword operands s) IsStateSound
keyword_sound text None operands s sound = tt
keyword_sound text (Some keyword) operands s sound =
    let fault = numbers_fault keyword s.sections s.now in
    let read = directive_by text keyword operands in
    if_next IsStateSound (fails fault read) (λ directive. applied text s directive) (λ directive is.
    let both' = kept fault read directive is in
    applied_sound text s directive sound (IfOk-at_ok (Suits s.sections s.now) both'.1 (directive_suits text keyword operands s.sections s.now both'.0)))

statement_sound : (text : List ℕ) (line : ℕ) (statement : Statement) (s : State) → IsStateSound s → IfOk (with_statement text line statement s) IsStateSound
statement_sound text line statement s sound =
    if_either IsStateSound (is_dotted statement.head.word.class) (with_keyword text (keyword_of (bytes_at text statement.head.word.at statement.head.word.len)) statement.operands s)
    (instructed text line statement.head statement.operands s)
    (keyword_sound text (keyword_of (bytes_at text statement.head.word.at statement.head.word.len)) statement.operands s sound)
    (instructed_sound text line statement.head statement.operands s sound)

stated_sound : (text : List ℕ) (line : ℕ) (statement : Option Statement) (s : State) → IsStateSound s → IfOk (stated text line statement s) IsStateSound
unfolding stated
stated_sound text line None s sound = sound
stated_sound text line (Some statement) s sound =
    if_kept IsStateSound (kinds_from text None statement.operands) (with_statement text line statement s)
    (λ none. statement_sound text line statement s sound)

after_sound : (text : List ℕ) (s : State) (label : Option Word) → IsStateSound s → IsStateSound (after_label text s label)
after_sound text s None sound = sound
after_sound text s (Some word) sound = label_sound text s word sound

-- a line, whichever it is
pub step_sound : (text : List ℕ) (number : ℕ) (line : Line) (s : State) → IsStateSound s → IfOk (stepped text number line s) IsStateSound
unfolding stepped
step_sound text number line s sound =
    if_kept IsStateSound (fault_of_label text s line.label) (stated text number line.statement (after_label text s line.label))
    (λ none. stated_sound text number line.statement (after_label text s line.label) (after_sound text s line.label sound))

-- the state behind a line that breaks no rule
pub stepped_sound : (text : List ℕ) (number : ℕ) (line : Line) (s t : State) → IsStateSound s → stepped text number line s ≡ Ok t → IsStateSound t
stepped_sound text number line s t sound is = IfOk-at_ok IsStateSound is (step_sound text number line s sound)
