-- A line that is spelled is read, and then as that line alone.
use Rattle.std.proofs.Common.{◌≡◌, Bool, false, List, [], ◌∷◌, ◌++◌, Some, None, refl, sym, ap, subst, ◌∙◌, append_assoc, append-nil, ◌≢◌}
use Rattle.c6x_encoding.specs.declared.cond.Cond.{Cond}
use Rattle.c6x_asm_lines.specs.Grammar.{cond_reg_of, is_dotted, line_of, operands_of, read_parallel_bars, read_condition, read_head, read_label, read_unit, statement_of}
use Rattle.c6x_encoding.specs.declared.cond_reg.CondReg.{CondReg}
use Rattle.c6x_encoding.specs.declared.cond_reg.CondReg.TheVariants.{B0, B1, B2, A1, A2, A0}
use Rattle.c6x_asm_lines.specs.declared.statement_head.StatementHead.{StatementHead}
use Rattle.c6x_asm_lines.specs.declared.lexeme.Lexeme.{Lexeme}
use Rattle.c6x_asm_lines.specs.declared.lexeme.Lexeme.TheVariants.{Word as Worded, Punctuator as Punctuated}
use Rattle.c6x_asm_lines.specs.declared.line.Line.{Line}
use Rattle.c6x_asm_lines.specs.declared.line.Statement.{Statement}
use Rattle.c6x_asm_lines.specs.declared.number.Number.{Number}
use Rattle.c6x_asm_lines.specs.declared.operand.Operand.{Operand}
use Rattle.c6x_asm_lines.specs.declared.primary.Primary.{Primary}
use Rattle.c6x_asm_lines.specs.declared.punctuator.Punctuator.TheVariants.{Colon, Comma}
use Rattle.c6x_asm_lines.specs.declared.value.Value.{Value}
use Rattle.c6x_asm_lines.specs.declared.word.Word.{Word}
use Rattle.c6x_asm_lines.specs.declared.word.WordClass.{WordClass}
use Rattle.c6x_asm_lines.specs.declared.word.WordClass.TheVariants.{Register as RegisterClass, Dotted, Nop}
use Rattle.c6x_asm_lines.specs.Spelling.{IsName, SpellsNumber, number_alone, number_minus, SpellsPlain, plain_register, plain_number, symbol_alone, symbol_plus, symbol_minus, SpellsValue, value_plain, value_of_kind, value_kind, SpellsOperand, operand_text, operand_address, operand_value, SpellsList, one_operand, more_operands, SpellsOperands, no_operands, some_operands, no_label, a_label, SpellsBars, no_bars, some_bars, tested, SpellsCondition, no_condition, not_zero, is_zero, SpellsHead, directive, no_operation, instruction, SpellsStatement, statement_spelled, SpellsLine, no_statement, a_statement}
use Rattle.c6x_asm_lines.proofs.Values.{name_test}
use Rattle.c6x_asm_lines.proofs.SpelledOperands.{operands_again}

-- the register that a condition tests
tested_again : (register : CondReg) → cond_reg_of (tested register) ≡ Some register
tested_again B0 = refl
tested_again B1 = refl
tested_again B2 = refl
tested_again A0 = refl
tested_again A1 = refl
tested_again A2 = refl

condition_again : (c : Cond) (cs : List Lexeme) (word : Word) (rest : List Lexeme) → SpellsCondition c cs → read_condition (cs ++ (Worded word ∷ rest)) ≡ Some (c, Worded word ∷ rest)
unfolding read_condition
condition_again c cs word rest no_condition = refl
condition_again c cs word rest (not_zero {register} is) = rw (is, tested_again register) refl
condition_again c cs word rest (is_zero {register} is) = rw (is, tested_again register) refl

no_bars_before : (c : Cond) (cs : List Lexeme) (word : Word) (rest : List Lexeme) → SpellsCondition c cs → read_parallel_bars (cs ++ (Worded word ∷ rest)) ≡ (false, cs ++ (Worded word ∷ rest))
no_bars_before c cs word rest no_condition = refl
no_bars_before c cs word rest (not_zero is) = refl
no_bars_before c cs word rest (is_zero is) = refl

bars_again : (b : Bool) (bars : List Lexeme) (c : Cond) (cs : List Lexeme) (word : Word) (rest : List Lexeme) → SpellsBars b bars → SpellsCondition c cs → read_parallel_bars (bars ++ (cs ++ (Worded word ∷ rest))) ≡ (b, cs ++ (Worded word ∷ rest))
bars_again b bars c cs word rest no_bars s = no_bars_before c cs word rest s
bars_again b bars c cs word rest some_bars s = refl

-- `||`, a condition and a word with what follows it
pub joined : (bars cs : List Lexeme) (words rest : List Lexeme) → (bars ++ (cs ++ words)) ++ rest ≡ bars ++ (cs ++ (words ++ rest))
joined bars cs words rest = append_assoc bars (cs ++ words) rest ∙ ap (λ xs. bars ++ xs) (append_assoc cs words rest)

-- a mnemonic is neither a directive nor NOP
dotted_no : (class : WordClass) → class ≢ Dotted → is_dotted class ≡ false
dotted_no Dotted other = absurd (other refl)
dotted_no _ other = refl

unit_again : (class : WordClass) (unit : Word) (rest : List Lexeme) → class ≢ Dotted → class ≢ Nop → unit.class ≡ Dotted → read_unit class (Worded unit ∷ rest) ≡ Some (Some unit, rest)
unit_again Dotted unit rest other some is = absurd (other refl)
unit_again Nop unit rest other some is = absurd (some refl)
unit_again (RegisterClass r) unit rest other some is = rw is refl
unit_again _ unit rest other some is = rw is refl

head_again : (h : StatementHead) (hs rest : List Lexeme) → SpellsHead h hs → read_head (hs ++ rest) ≡ Some (h, rest)
unfolding read_head read_condition
head_again h hs rest (directive is) = rw is refl
head_again h hs rest (no_operation {chained} {condition} {word} {bars} {cs} b c is) =
    rw (joined bars cs (Worded word ∷ []) rest, bars_again chained bars condition cs word rest b c, condition_again condition cs word rest c, is) refl
head_again h hs rest (instruction {chained} {condition} {word} {unit} {bars} {cs} b c mnemonic some is) =
    rw (joined bars cs (Worded word ∷ Worded unit ∷ []) rest, bars_again chained bars condition cs word (Worded unit ∷ rest) b c, condition_again condition cs word (Worded unit ∷ rest) c, unit_again word.class unit rest mnemonic some is, dotted_no word.class mnemonic) refl

-- a statement is not empty
statement_read : (xs rest : List Lexeme) (h : StatementHead) (os : List Operand) → read_head xs ≡ Some (h, rest) → operands_of rest ≡ Some os → statement_of xs ≡ Some (Some (record { head = h; operands = os }))
unfolding read_head read_condition
statement_read [] rest h os is last = cc
statement_read (x ∷ xs) rest h os is last = rw (is, last) refl

statement_again : (s : Statement) (ss : List Lexeme) → SpellsStatement s ss → statement_of ss ≡ Some (Some s)
statement_again s ss (statement_spelled {head} {operands} {hs} {os} h o) =
    statement_read (hs ++ os) os head operands (head_again head hs os h) (operands_again operands os o)

-- no operand begins with the colon of a label
number_label : (word : Word) (n : Number) (ns rest : List Lexeme) → SpellsNumber n ns → read_label (Worded word ∷ ns ++ rest) ≡ Some (None, Worded word ∷ ns ++ rest)
unfolding read_label
number_label word n ns rest number_alone = refl
number_label word n ns rest number_minus = refl

plain_label : (word : Word) (p : Primary) (ps rest : List Lexeme) → SpellsPlain p ps → read_label (Worded word ∷ ps ++ rest) ≡ Some (None, Worded word ∷ ps ++ rest)
unfolding read_label
plain_label word p ps rest (plain_register is) = refl
plain_label word p ps rest (plain_number {n} {ns} s) = number_label word n ns rest s
plain_label word p ps rest (symbol_alone is) = refl
plain_label word p ps rest (symbol_plus is s) = refl
plain_label word p ps rest (symbol_minus is s) = refl

operand_label : (word : Word) (o : Operand) (xs rest : List Lexeme) → SpellsOperand o xs → read_label (Worded word ∷ xs ++ rest) ≡ Some (None, Worded word ∷ xs ++ rest)
unfolding read_label
operand_label word o xs rest operand_text = refl
operand_label word o xs rest (operand_address s) = refl
operand_label word o xs rest (operand_value {v} {vs} s) = value_label v vs s
  where
    value_label : (v : Value) (vs : List Lexeme) → SpellsValue v vs → read_label (Worded word ∷ vs ++ rest) ≡ Some (None, Worded word ∷ vs ++ rest)
    value_label v vs (value_plain {p} {ps} s) = plain_label word p ps rest s
    value_label v vs (value_of_kind s) = refl
    value_label v vs value_kind = refl

operands_label : (word : Word) (os : List Operand) (xs : List Lexeme) → SpellsOperands os xs → read_label (Worded word ∷ xs) ≡ Some (None, Worded word ∷ xs)
unfolding read_label
operands_label word all lexemes no_operands = refl
operands_label word all lexemes (some_operands {os} {xs} s) = list_label os xs s
  where
    list_label : (os : List Operand) (xs : List Lexeme) → SpellsList os xs → read_label (Worded word ∷ xs) ≡ Some (None, Worded word ∷ xs)
    list_label all lexemes (one_operand {o} {xs} s) =
        subst (λ ys. read_label (Worded word ∷ ys) ≡ Some (None, Worded word ∷ ys)) (append-nil xs) (operand_label word o xs [] s)
    list_label all lexemes (more_operands {o} {os} {xs} {ys} s more) = operand_label word o xs (Punctuated Comma ∷ ys) s

-- no statement begins with a label
word_label : (b : Bool) (bars : List Lexeme) (c : Cond) (cs : List Lexeme) (word : Word) (rest : List Lexeme) → SpellsBars b bars → SpellsCondition c cs → read_label (Worded word ∷ rest) ≡ Some (None, Worded word ∷ rest) → read_label (bars ++ (cs ++ (Worded word ∷ rest))) ≡ Some (None, bars ++ (cs ++ (Worded word ∷ rest)))
unfolding read_label
word_label b bars c cs word rest no_bars no_condition is = is
word_label b bars c cs word rest no_bars (not_zero tests) is = refl
word_label b bars c cs word rest no_bars (is_zero tests) is = refl
word_label b bars c cs word rest some_bars s is = refl

head_label : (h : StatementHead) (hs : List Lexeme) (os : List Operand) (xs : List Lexeme) → SpellsHead h hs → SpellsOperands os xs → read_label (hs ++ xs) ≡ Some (None, hs ++ xs)
unfolding read_label
head_label h hs os xs (directive {word} is) o = operands_label word os xs o
head_label h hs os xs (no_operation {chained} {condition} {word} {bars} {cs} b c is) o =
    rw (joined bars cs (Worded word ∷ []) xs) (word_label chained bars condition cs word xs b c (operands_label word os xs o))
head_label h hs os xs (instruction {chained} {condition} {word} {unit} {bars} {cs} b c mnemonic some is) o =
    rw (joined bars cs (Worded word ∷ Worded unit ∷ []) xs) (word_label chained bars condition cs word (Worded unit ∷ xs) b c refl)

statement_label : (s : Statement) (ss : List Lexeme) → SpellsStatement s ss → read_label ss ≡ Some (None, ss)
statement_label s ss (statement_spelled {head} {operands} {hs} {os} h o) = head_label head hs operands os h o

-- a label before a statement, or alone
label_again : (name : Word) (rest : List Lexeme) → IsName name → read_label (Worded name ∷ Punctuated Colon ∷ rest) ≡ Some (Some name, rest)
unfolding read_label
label_again name rest is = rw (name_test name is) refl

-- what spells a line is read as that line
pub spelled_line : (lexemes : List Lexeme) (line : Line) → SpellsLine line lexemes → line_of lexemes ≡ Some line
unfolding line_of read_label
spelled_line lexemes line (no_statement no_label) = refl
spelled_line lexemes line (no_statement (a_label {name} is)) = rw (label_again name [] is) refl
spelled_line lexemes line (a_statement {label} {statement} {ls} {ss} no_label s) = rw (statement_label statement ss s, statement_again statement ss s) refl
spelled_line lexemes line (a_statement {label} {statement} {ls} {ss} (a_label {name} is) s) =
    rw (label_again name ss is, statement_again statement ss s) refl

-- lexemes spell one line at most
pub one_line : {a b : Line} {lexemes : List Lexeme} → SpellsLine a lexemes → SpellsLine b lexemes → a ≡ b
one_line {a} {b} {lexemes} first second =
    let is = spelled_line lexemes a first in
    let again = spelled_line lexemes b second in
    same (sym is ∙ again)
  where
    same : Some a ≡ Some b → a ≡ b
    same is = cc

-- what is not read spells no line
pub unspelled : (lexemes : List Lexeme) → line_of lexemes ≡ None → (line : Line) → SpellsLine line lexemes → ⊥
unspelled lexemes none line s = differ (sym none ∙ spelled_line lexemes line s)
  where
    differ : None ≡ Some line → ⊥
    differ is = cc
