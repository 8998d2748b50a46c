-- What is read as a line spells that line.
use Rattle.std.proofs.Common.{◌≡◌, ◌↔◌, ◌≢◌, ℕ, ◌==◌, Bool, true, false, ◌&&◌, ◌||◌, if◌then◌else◌, List, [], ◌∷◌, ◌++◌, Option, Some, None, refl, sym, ap, subst, ◌∙◌, append-nil, arith}
use Rattle.std.proofs.lemmas.Bool.Decides.{nat_tests}
use Rattle.std.specs.List.{slice_split}
use Rattle.c6x_base.specs.declared.side.Side.{Side}
use Rattle.c6x_base.specs.declared.side.Side.TheVariants.{A, B}
use Rattle.c6x_encoding.specs.declared.cond.Cond.{Cond}
use Rattle.c6x_encoding.specs.declared.cond.Cond.TheVariants.{Always, If}
use Rattle.c6x_encoding.specs.declared.cond_reg.CondReg.{CondReg}
use Rattle.c6x_encoding.specs.declared.cond_reg.CondReg.TheVariants.{B0, B1, B2, A1, A2, A0}
use Rattle.c6x_asm_lines.specs.Grammar.{all_operands, cond_reg_of, condition_on, is_comma, is_conditional, is_dotted, is_name, line_of, operands_of, read_address, read_parallel_bars, read_condition, read_head, read_label, read_operand, read_unit, read_value, read_word, statement_of, unit_word, whole_operand, with_no_rest}
use Rattle.c6x_spec.specs.Options.{◌>>=◌}
use Rattle.c6x_asm_lines.specs.declared.statement_head.StatementHead.{StatementHead}
use Rattle.c6x_asm_lines.specs.declared.lexeme.Lexeme.{Lexeme}
use Rattle.c6x_asm_lines.specs.declared.lexeme.Lexeme.TheVariants.{Word as Worded, Text, Punctuator as Punctuated}
use Rattle.c6x_asm_lines.specs.declared.line.Line.{Line}
use Rattle.c6x_asm_lines.specs.declared.line.Statement.{Statement}
use Rattle.c6x_asm_lines.specs.declared.operand.Operand.{Operand}
use Rattle.c6x_asm_lines.specs.declared.operand.Operand.TheVariants.{Text as TextOperand, Address as AddressOperand, Value as ValueOperand}
use Rattle.c6x_asm_lines.specs.declared.register.Register.{Register}
use Rattle.c6x_asm_lines.specs.declared.punctuator.Punctuator.TheVariants.{Bang, ParallelBars, Colon, Comma, LeftBracket, RightBracket, Star}
use Rattle.c6x_asm_lines.specs.declared.word.Word.{Word}
use Rattle.c6x_asm_lines.specs.declared.word.WordClass.{WordClass}
use Rattle.c6x_asm_lines.specs.declared.word.WordClass.TheVariants.{Register as RegisterClass, Dotted, Nop, Other}
use Rattle.c6x_asm_lines.specs.Spelling.{IsName, SpellsOperand, operand_text, operand_address, operand_value, SpellsList, one_operand, more_operands, SpellsOperands, no_operands, some_operands, SpellsLabel, no_label, a_label, SpellsBars, no_bars, some_bars, tested, SpellsCondition, no_condition, not_zero, is_zero, SpellsHead, directive, no_operation, instruction, statement_spelled, SpellsLine, no_statement, a_statement}
use Rattle.c6x_asm_lines.proofs.Fronts.{Takes, address_taken, first_found, given, if_found, named, value_taken}
use Rattle.c6x_asm_lines.proofs.SpelledLines.{joined, spelled_line}

operand_taken : (xs : List Lexeme) (x : Operand × List Lexeme) → read_operand xs ≡ Some x → Takes SpellsOperand x xs
unfolding read_operand
operand_taken (Text at len ∷ rest) x is =
    given (λ x. Takes SpellsOperand x (Text at len ∷ rest)) (TextOperand at len, rest) x is
    (record { front = Text at len ∷ []; spells = operand_text; split = refl })
operand_taken (Punctuated Star ∷ rest) x is =
    let a = first_found (read_address rest) (λ a. Some (AddressOperand a.0, a.1)) x is in
    let t = address_taken rest a.0 a.1 in
    given (λ x. Takes SpellsOperand x (Punctuated Star ∷ rest)) (AddressOperand a.0.0, a.0.1) x a.2
    (record { front = Punctuated Star ∷ t.front; spells = operand_address t.spells; split = ap (λ xs. Punctuated Star ∷ xs) t.split })
operand_taken xs x is = value_operand xs x is
  where
    value_operand : (xs : List Lexeme) (x : Operand × List Lexeme) → (read_value xs >>= λ v. Some (ValueOperand v.0, v.1)) ≡ Some x → Takes SpellsOperand x xs
    value_operand xs x is =
        let v = first_found (read_value xs) (λ v. Some (ValueOperand v.0, v.1)) x is in
        let t = value_taken xs v.0 v.1 in
        given (λ x. Takes SpellsOperand x xs) (ValueOperand v.0.0, v.0.1) x v.2
        (record { front = t.front; spells = operand_value t.spells; split = t.split })

-- an operand has no rest
no_rest : (o : Operand) (xs front rest : List Lexeme) (found : Operand) → with_no_rest o rest ≡ Some found → SpellsOperand o front → xs ≡ front ++ rest → SpellsOperand found xs
no_rest o xs front [] found is s split =
    given (λ found. SpellsOperand found xs) o found is (subst (SpellsOperand o) (sym (split ∙ append-nil front)) s)
no_rest o xs front (x ∷ rest) found is s split = cc

operand_whole : (xs : List Lexeme) (o : Operand) → whole_operand xs ≡ Some o → SpellsOperand o xs
unfolding whole_operand
operand_whole xs o is =
    let r = first_found (read_operand xs) (λ r. with_no_rest r.0 r.1) o is in
    let t = operand_taken xs r.0 r.1 in
    no_rest r.0.0 xs t.front r.0.1 o r.2 t.spells t.split

-- lists with a comma between each two
abbrev with_commas : List Lexeme → List (List Lexeme) → List Lexeme
with_commas piece [] = piece
with_commas piece (next ∷ pieces) = piece ++ (Punctuated Comma ∷ with_commas next pieces)

-- The pieces between the commas, put together again.
record Pieces (xs : List Lexeme) : Type 0 where
  first : List Lexeme
  more : List (List Lexeme)
  is : slice_split is_comma xs ≡ first ∷ more
  whole : with_commas first more ≡ xs

the_comma : (x : Lexeme) → is_comma x ≡ true → Punctuated Comma ≡ x
the_comma (Punctuated Comma) is = refl
the_comma _ is = cc

longer : (x : Lexeme) (first : List Lexeme) (more : List (List Lexeme)) → with_commas (x ∷ first) more ≡ x ∷ with_commas first more
longer x first [] = refl
longer x first (next ∷ pieces) = refl

pieces_of : (xs : List Lexeme) → Pieces xs
pieces_of [] = record { first = []; more = []; is = refl; whole = refl }
pieces_of (x ∷ xs) = either (pieces_of xs) (is_comma x) refl
  where
    either : Pieces xs → (b : Bool) → is_comma x ≡ b → Pieces (x ∷ xs)
    either p true comma = record {
      first = [];
      more = p.first ∷ p.more;
      is = rw (comma, p.is) refl;
      whole = ap (λ c. c ∷ with_commas p.first p.more) (the_comma x comma) ∙ ap (λ ys. x ∷ ys) p.whole;
    }
    either p false other = record {
      first = x ∷ p.first;
      more = p.more;
      is = rw (other, p.is) refl;
      whole = longer x p.first p.more ∙ ap (λ ys. x ∷ ys) p.whole;
    }

list_spelled : (piece : List Lexeme) (pieces : List (List Lexeme)) (os : List Operand) → all_operands (piece ∷ pieces) ≡ Some os → SpellsList os (with_commas piece pieces)
list_spelled piece [] os is =
    let o = first_found (whole_operand piece) (λ o. Some (o ∷ [])) os is in
    given (λ os. SpellsList os piece) (o.0 ∷ []) os o.2 (one_operand (operand_whole piece o.0 o.1))
list_spelled piece (next ∷ pieces) os is =
    let o = first_found (whole_operand piece) (λ o. all_operands (next ∷ pieces) >>= λ os. Some (o ∷ os)) os is in
    let more = first_found (all_operands (next ∷ pieces)) (λ os. Some (o.0 ∷ os)) os o.2 in
    given (λ os. SpellsList os (piece ++ (Punctuated Comma ∷ with_commas next pieces))) (o.0 ∷ more.0) os more.2
    (more_operands (operand_whole piece o.0 o.1) (list_spelled next pieces more.0 more.1))

operands_spelled : (xs : List Lexeme) (os : List Operand) → operands_of xs ≡ Some os → SpellsOperands os xs
unfolding operands_of
operands_spelled [] os is = given (λ os. SpellsOperands os []) [] os is no_operands
operands_spelled (x ∷ xs) os is =
    let p = pieces_of (x ∷ xs) in
    let all : all_operands (p.first ∷ p.more) ≡ Some os = ap all_operands (sym p.is) ∙ is in
    some_operands (subst (SpellsList os) p.whole (list_spelled p.first p.more os all))

name_found : (class : WordClass) (word : Word) → word.class ≡ class → is_name class word ≡ true → IsName word
name_found (RegisterClass r) word same is = cc
name_found _ word same is = named word (λ r e. cc) is

label_taken : (xs : List Lexeme) (x : Option Word × List Lexeme) → read_label xs ≡ Some x → Takes SpellsLabel x xs
unfolding read_label
label_taken (Worded word ∷ Punctuated Colon ∷ rest) x is =
    let name = if_found (is_name word.class word) (Some (Some word, rest)) x is in
    given (λ x. Takes SpellsLabel x (Worded word ∷ Punctuated Colon ∷ rest)) (Some word, rest) x name.1
    (record { front = Worded word ∷ Punctuated Colon ∷ []; spells = a_label (name_found word.class word refl name.0); split = refl })
label_taken xs x is = given (λ x. Takes SpellsLabel x xs) (None, xs) x is (record { front = []; spells = no_label; split = refl })

bars_taken : (xs : List Lexeme) → Takes SpellsBars (read_parallel_bars xs) xs
bars_taken (Punctuated ParallelBars ∷ rest) = record { front = Punctuated ParallelBars ∷ []; spells = some_bars; split = refl }
bars_taken xs = record { front = []; spells = no_bars; split = refl }

-- the register that a condition tests
register_tested : (register : Register) (r : CondReg) → cond_reg_of register ≡ Some r → register ≡ tested r
register_tested register r is = on_side register.side register.number r is
  where
    one_of : (side : Side) (n : ℕ) (zero one two r : CondReg) → tested zero ≡ record { side = side; number = 0 } → tested one ≡ record { side = side; number = 1 } → tested two ≡ record { side = side; number = 2 } → (b c d : Bool) → (n == 0) ≡ b → (n == 1) ≡ c → (n == 2) ≡ d → (if b then Some zero else if c then Some one else if d then Some two else None) ≡ Some r → record { side = side; number = n } ≡ tested r
    one_of side n zero one two r first second third true c d is isnt isnot found = ap (λ m. record { side = side; number = m }) (grind (arith, nat_tests)) ∙ sym first ∙ given (λ r. tested zero ≡ tested r) zero r found refl
    one_of side n zero one two r first second third false true d isnt is isnot found = ap (λ m. record { side = side; number = m }) (grind (arith, nat_tests)) ∙ sym second ∙ given (λ r. tested one ≡ tested r) one r found refl
    one_of side n zero one two r first second third false false true isnt isnot is found = ap (λ m. record { side = side; number = m }) (grind (arith, nat_tests)) ∙ sym third ∙ given (λ r. tested two ≡ tested r) two r found refl
    one_of side n zero one two r first second third false false false isnt isnot is found = cc

    on_side : (side : Side) (n : ℕ) (r : CondReg) → cond_reg_of (record { side = side; number = n }) ≡ Some r → record { side = side; number = n } ≡ tested r
    on_side A n r is = one_of A n A0 A1 A2 r refl refl refl (n == 0) (n == 1) (n == 2) refl refl refl is
    on_side B n r is = one_of B n B0 B1 B2 r refl refl refl (n == 0) (n == 1) (n == 2) refl refl refl is

condition_found : (class : WordClass) (zero : Bool) (c : Cond) → condition_on class zero ≡ Some c → (r : CondReg) × (class ≡ RegisterClass (tested r)) × (If r zero ≡ c)
condition_found (RegisterClass register) zero c is =
    let r = first_found (cond_reg_of register) (λ r. Some (If r zero)) c is in
    (r.0, ap RegisterClass (register_tested register r.0 r.1), given (λ c. If r.0 zero ≡ c) (If r.0 zero) c r.2 refl)
condition_found _ zero c is = cc

condition_taken : (xs : List Lexeme) (x : Cond × List Lexeme) → read_condition xs ≡ Some x → Takes SpellsCondition x xs
unfolding read_condition
condition_taken (Punctuated LeftBracket ∷ Punctuated Bang ∷ Worded word ∷ Punctuated RightBracket ∷ rest) x is =
    let lexemes = Punctuated LeftBracket ∷ Punctuated Bang ∷ Worded word ∷ Punctuated RightBracket ∷ rest in
    let c = first_found (condition_on word.class true) (λ c. Some (c, rest)) x is in
    let r = condition_found word.class true c.0 c.1 in
    given (λ x. Takes SpellsCondition x lexemes) (c.0, rest) x c.2
    (subst (λ c. Takes SpellsCondition (c, rest) lexemes) r.2
    (record { front = Punctuated LeftBracket ∷ Punctuated Bang ∷ Worded word ∷ Punctuated RightBracket ∷ []; spells = is_zero r.1; split = refl }))
condition_taken (Punctuated LeftBracket ∷ Worded word ∷ Punctuated RightBracket ∷ rest) x is =
    let lexemes = Punctuated LeftBracket ∷ Worded word ∷ Punctuated RightBracket ∷ rest in
    let c = first_found (condition_on word.class false) (λ c. Some (c, rest)) x is in
    let r = condition_found word.class false c.0 c.1 in
    given (λ x. Takes SpellsCondition x lexemes) (c.0, rest) x c.2
    (subst (λ c. Takes SpellsCondition (c, rest) lexemes) r.2
    (record { front = Punctuated LeftBracket ∷ Worded word ∷ Punctuated RightBracket ∷ []; spells = not_zero r.1; split = refl }))
condition_taken (Punctuated LeftBracket ∷ rest) x is = cc
condition_taken xs x is =
    given (λ x. Takes SpellsCondition x xs) (Always, xs) x is (record { front = []; spells = no_condition; split = refl })

-- a word and what follows it
word_read : (xs : List Lexeme) (w : Word × List Lexeme) → read_word xs ≡ Some w → xs ≡ Worded w.0 ∷ w.1
word_read (Worded word ∷ rest) w is = given (λ w. Worded word ∷ rest ≡ Worded w.0 ∷ w.1) (word, rest) w is refl
word_read _ w is = cc

dotted_yes : (class : WordClass) → is_dotted class ≡ true → class ≡ Dotted
dotted_yes Dotted is = refl
dotted_yes _ is = cc

-- The unit of an instruction.
record HasUnit (rest : List Lexeme) (u : Option Word × List Lexeme) : Type 0 where
  unit : Word
  is : u.0 ≡ Some unit
  dotted : unit.class ≡ Dotted
  split : rest ≡ Worded unit ∷ u.1

unit_found : (rest : List Lexeme) (u : Option Word × List Lexeme) → (read_word rest >>= λ w. unit_word w.0 w.1) ≡ Some u → HasUnit rest u
unit_found rest u is =
    let w = first_found (read_word rest) (λ w. unit_word w.0 w.1) u is in
    let dotted = if_found (is_dotted w.0.0.class) (Some (Some w.0.0, w.0.1)) u w.2 in
    given (HasUnit rest) (Some w.0.0, w.0.1) u dotted.1
    (record { unit = w.0.0; is = refl; dotted = dotted_yes w.0.0.class dotted.0; split = word_read rest w.0 w.1 })

-- what is read behind the condition
abbrev head_behind : Bool → Cond → Word → WordClass → Option Word × List Lexeme → Option (StatementHead × List Lexeme)
head_behind bars c word class u =
    if is_dotted class && (bars || is_conditional c) then None
    else Some (record { chained = bars; condition = c; word = word; unit = u.0 }, u.1)

directive_taken : (bars : Bool) (c : Cond) (bs cs : List Lexeme) (word : Word) (rest : List Lexeme) (x : StatementHead × List Lexeme) → SpellsBars bars bs → SpellsCondition c cs → word.class ≡ Dotted → head_behind bars c word Dotted (None, rest) ≡ Some x → Takes SpellsHead x (bs ++ (cs ++ (Worded word ∷ rest)))
directive_taken bars c bs cs word rest x no_bars no_condition dotted is =
    given (λ x. Takes SpellsHead x (Worded word ∷ rest)) (record { chained = false; condition = Always; word = word; unit = None }, rest) x is
    (record { front = Worded word ∷ []; spells = directive dotted; split = refl })
directive_taken bars c bs cs word rest x no_bars (not_zero tests) dotted is = cc
directive_taken bars c bs cs word rest x no_bars (is_zero tests) dotted is = cc
directive_taken bars c bs cs word rest x some_bars tests dotted is = cc

instruction_taken : (bars : Bool) (c : Cond) (bs cs : List Lexeme) (word : Word) (rest : List Lexeme) (u : Option Word × List Lexeme) (x : StatementHead × List Lexeme) → SpellsBars bars bs → SpellsCondition c cs → word.class ≢ Dotted → word.class ≢ Nop → (read_word rest >>= λ w. unit_word w.0 w.1) ≡ Some u → Some (record { chained = bars; condition = c; word = word; unit = u.0 }, u.1) ≡ Some x → Takes SpellsHead x (bs ++ (cs ++ (Worded word ∷ rest)))
instruction_taken bars c bs cs word rest u x b s mnemonic some is last =
    let unit = unit_found rest u is in
    let lexemes = bs ++ (cs ++ (Worded word ∷ rest)) in
    given (λ x. Takes SpellsHead x lexemes) (record { chained = bars; condition = c; word = word; unit = u.0 }, u.1) x last
    (subst (λ o. Takes SpellsHead (record { chained = bars; condition = c; word = word; unit = o }, u.1) lexemes) (sym unit.is)
    (record {
      front = bs ++ (cs ++ (Worded word ∷ Worded unit.unit ∷ []));
      spells = instruction b s mnemonic some unit.dotted;
      split = ap (λ ys. bs ++ (cs ++ (Worded word ∷ ys))) unit.split ∙ sym (joined bs cs (Worded word ∷ Worded unit.unit ∷ []) u.1);
    }))

head_found : (bars : Bool) (c : Cond) (bs cs : List Lexeme) (word : Word) (class : WordClass) (rest : List Lexeme) (u : Option Word × List Lexeme) (x : StatementHead × List Lexeme) → SpellsBars bars bs → SpellsCondition c cs → word.class ≡ class → read_unit class rest ≡ Some u → head_behind bars c word class u ≡ Some x → Takes SpellsHead x (bs ++ (cs ++ (Worded word ∷ rest)))
head_found bars c bs cs word Dotted rest u x b s same unit is =
    directive_taken bars c bs cs word rest x b s same (given (λ u. head_behind bars c word Dotted u ≡ Some x) u (None, rest) (sym unit) is)
head_found bars c bs cs word Nop rest u x b s same unit is =
    given (λ x. Takes SpellsHead x (bs ++ (cs ++ (Worded word ∷ rest)))) (record { chained = bars; condition = c; word = word; unit = None }, rest) x
    (given (λ u. head_behind bars c word Nop u ≡ Some x) u (None, rest) (sym unit) is)
    (record { front = bs ++ (cs ++ (Worded word ∷ [])); spells = no_operation b s same; split = sym (joined bs cs (Worded word ∷ []) rest) })
head_found bars c bs cs word (RegisterClass r) rest u x b s same unit is =
    instruction_taken bars c bs cs word rest u x b s (λ e. cc) (λ e. cc) unit is
head_found bars c bs cs word Other rest u x b s same unit is =
    instruction_taken bars c bs cs word rest u x b s (λ e. cc) (λ e. cc) unit is

head_taken : (xs : List Lexeme) (x : StatementHead × List Lexeme) → read_head xs ≡ Some x → Takes SpellsHead x xs
unfolding read_head
head_taken xs x is =
    let bars = read_parallel_bars xs in
    let b = bars_taken xs in
    let c = first_found (read_condition bars.1) (λ c. read_word c.1 >>= λ w. read_unit w.0.class w.1 >>= λ u. head_behind bars.0 c.0 w.0 w.0.class u) x is in
    let t = condition_taken bars.1 c.0 c.1 in
    let w = first_found (read_word c.0.1) (λ w. read_unit w.0.class w.1 >>= λ u. head_behind bars.0 c.0.0 w.0 w.0.class u) x c.2 in
    let u = first_found (read_unit w.0.0.class w.0.1) (λ u. head_behind bars.0 c.0.0 w.0.0 w.0.0.class u) x w.2 in
    let whole : b.front ++ (t.front ++ (Worded w.0.0 ∷ w.0.1)) ≡ xs =
    ap (λ ys. b.front ++ (t.front ++ ys)) (sym (word_read c.0.1 w.0 w.1)) ∙ ap (λ ys. b.front ++ ys) (sym t.split) ∙ sym b.split in
    subst (Takes SpellsHead x) whole
    (head_found bars.0 c.0.0 b.front t.front w.0.0 w.0.0.class w.0.1 u.0 x b.spells t.spells refl u.1 u.2)

-- what stands behind the label
rest_spelled : (label : Option Word) (ls rest xs : List Lexeme) (s : Option Statement) → SpellsLabel label ls → xs ≡ ls ++ rest → statement_of rest ≡ Some s → SpellsLine (record { label = label; statement = s }) xs
rest_spelled label ls [] xs s l split is =
    given (λ s. SpellsLine (record { label = label; statement = s }) xs) None s is
    (no_statement (subst (SpellsLabel label) (sym (split ∙ append-nil ls)) l))
rest_spelled label ls (x ∷ rest) xs s l split is =
    let h = first_found (read_head (x ∷ rest)) (λ h. operands_of h.1 >>= λ operands. Some (Some (record { head = h.0; operands = operands }))) s is in
    let t = head_taken (x ∷ rest) h.0 h.1 in
    let o = first_found (operands_of h.0.1) (λ operands. Some (Some (record { head = h.0.0; operands = operands }))) s h.2 in
    let statement = statement_spelled t.spells (operands_spelled h.0.1 o.0 o.1) in
    given (λ s. SpellsLine (record { label = label; statement = s }) xs) (Some (record { head = h.0.0; operands = o.0 })) s o.2
    (subst (SpellsLine (record { label = label; statement = Some (record { head = h.0.0; operands = o.0 }) })) (sym (split ∙ ap (λ ys. ls ++ ys) t.split))
    (a_statement l statement))

-- what is read as a line spells that line
pub line_spelled : (lexemes : List Lexeme) (line : Line) → line_of lexemes ≡ Some line → SpellsLine line lexemes
unfolding line_of
line_spelled lexemes line is =
    let l = first_found (read_label lexemes) (λ l. statement_of l.1 >>= λ s. Some (record { label = l.0; statement = s })) line is in
    let t = label_taken lexemes l.0 l.1 in
    let s = first_found (statement_of l.0.1) (λ s. Some (record { label = l.0.0; statement = s })) line l.2 in
    given (λ line. SpellsLine line lexemes) (record { label = l.0.0; statement = s.0 }) line s.2
    (rest_spelled l.0.0 t.front l.0.1 lexemes s.0 t.spells t.split s.1)

-- lexemes are read as the line that they spell, and as nothing else
pub reads_what_is_spelled : (lexemes : List Lexeme) (line : Line) → (line_of lexemes ≡ Some line) ↔ SpellsLine line lexemes
reads_what_is_spelled lexemes line = (line_spelled lexemes line, spelled_line lexemes line)
