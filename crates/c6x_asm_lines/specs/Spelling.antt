-- Which lexemes spell which line (docs/ASSEMBLY.md): one relation a category, one constructor a form.
use Rattle.std.specs.Prelude.{◌≢◌, ◌≡◌, ℕ, ◌≤◌, Bool, true, false, not, List, [], ◌∷◌, ◌++◌, map, Option, Some, None}
use Rattle.c6x_base.specs.declared.limits.TheConstants.{MOST_NAME_BYTES}
use Rattle.c6x_base.specs.declared.side.Side.TheVariants.{A, B}
use Rattle.c6x_encoding.specs.declared.cond.Cond.{Cond}
use Rattle.c6x_encoding.specs.declared.cond.Cond.TheVariants.{Always, If}
use Rattle.c6x_encoding.specs.declared.cond_reg.CondReg.{CondReg}
use Rattle.c6x_encoding.specs.declared.cond_reg.CondReg.TheVariants.{B0, B1, B2, A1, A2, A0}
use Rattle.c6x_asm_lines.specs.declared.address.Address.{Address}
use Rattle.c6x_asm_lines.specs.declared.statement_head.StatementHead.{StatementHead}
use Rattle.c6x_asm_lines.specs.declared.line.Line.{Line}
use Rattle.c6x_asm_lines.specs.declared.line.Statement.{Statement}
use Rattle.c6x_asm_lines.specs.declared.mode.Mode.{Mode}
use Rattle.c6x_asm_lines.specs.declared.mode.Mode.TheVariants.{Negative, Positive, PreDecrement, PreIncrement, PostDecrement, PostIncrement}
use Rattle.c6x_asm_lines.specs.declared.offset.Offset.{Offset}
use Rattle.c6x_asm_lines.specs.declared.offset.Offset.TheVariants.{Missing, Bracket, Parenthesis}
use Rattle.c6x_asm_lines.specs.declared.operand.Operand.{Operand}
use Rattle.c6x_asm_lines.specs.declared.operand.Operand.TheVariants.{Text as TextOperand, Address as AddressOperand, Value as ValueOperand}
use Rattle.c6x_asm_lines.specs.declared.value.Value.{Value}
use Rattle.c6x_asm_lines.specs.declared.value.Value.TheVariants.{Primary as PrimaryValue, Kind as KindValue}
use Rattle.c6x_asm_lines.specs.declared.register.Register.{Register}
use Rattle.c6x_asm_lines.specs.declared.punctuator.Punctuator.{Punctuator}
use Rattle.c6x_asm_lines.specs.declared.punctuator.Punctuator.TheVariants.{Colon, Comma, LeftBracket, RightBracket, LeftParenthesis, RightParenthesis, Star, Plus, Minus, Bang, Percent, ParallelBars}
use Rattle.c6x_asm_lines.specs.declared.lexeme.Lexeme.{Lexeme}
use Rattle.c6x_asm_lines.specs.declared.lexeme.Lexeme.TheVariants.{Word as Worded, Number as Numbered, Text, Punctuator as Punctuated}
use Rattle.c6x_asm_lines.specs.declared.number.Number.{Number}
use Rattle.c6x_asm_lines.specs.declared.primary.Primary.{Primary}
use Rattle.c6x_asm_lines.specs.declared.primary.Primary.TheVariants.{Register as PrimaryRegister, Number as PrimaryNumber, Symbol as PrimarySymbol}
use Rattle.c6x_asm_lines.specs.declared.word.Word.{Word}
use Rattle.c6x_asm_lines.specs.declared.word.WordClass.TheVariants.{Register as RegisterClass, Dotted, Nop}

-- "Lines": a name is a word of at most 64 bytes that is no register
pub record IsName (word : Word) : Type 0 where
  pub free : (register : Register) → word.class ≢ RegisterClass register
  pub short : word.len ≤ MOST_NAME_BYTES

abbrev pub opposite : Number → Number
opposite n = record { negative = not n.negative; size = n.size }

-- "Numbers": digits, and a `-` before them or none
pub data SpellsNumber : Number → List Lexeme → Type 0 where
  number_alone : {size : Option ℕ} → SpellsNumber (record { negative = false; size = size }) (Numbered size ∷ [])
  number_minus : {size : Option ℕ} → SpellsNumber (record { negative = true; size = size }) (Punctuated Minus ∷ Numbered size ∷ [])

-- "Expressions": a register; a number; a symbol, or a symbol, `+` or `-`, and a number
pub data SpellsPlain : Primary → List Lexeme → Type 0 where
  plain_register : {word : Word} {register : Register} → word.class ≡ RegisterClass register → SpellsPlain (PrimaryRegister register) (Worded word ∷ [])
  plain_number : {n : Number} {ns : List Lexeme} → SpellsNumber n ns → SpellsPlain (PrimaryNumber n) ns
  symbol_alone : {name : Word} → IsName name → SpellsPlain (PrimarySymbol name None) (Worded name ∷ [])
  symbol_plus : {name : Word} {n : Number} {ns : List Lexeme} → IsName name → SpellsNumber n ns → SpellsPlain (PrimarySymbol name (Some n)) (Worded name ∷ Punctuated Plus ∷ ns)
  symbol_minus : {name : Word} {n : Number} {ns : List Lexeme} → IsName name → SpellsNumber n ns → SpellsPlain (PrimarySymbol name (Some (opposite n))) (Worded name ∷ Punctuated Minus ∷ ns)

-- "Expressions": with no kind; `%kind(expression)`; `%kind` alone
pub data SpellsValue : Value → List Lexeme → Type 0 where
  value_plain : {p : Primary} {ps : List Lexeme} → SpellsPlain p ps → SpellsValue (PrimaryValue p) ps
  value_of_kind : {kind : Word} {p : Primary} {ps : List Lexeme} → SpellsPlain p ps → SpellsValue (KindValue kind (Some p)) (Punctuated Percent ∷ Worded kind ∷ Punctuated LeftParenthesis ∷ ps ++ (Punctuated RightParenthesis ∷ []))
  value_kind : {kind : Word} → SpellsValue (KindValue kind None) (Punctuated Percent ∷ Worded kind ∷ [])

-- "Addresses": the base is a register, or a name in its place
pub data SpellsBase : Option Register → Word → Type 0 where
  base_register : {word : Word} {register : Register} → word.class ≡ RegisterClass register → SpellsBase (Some register) word
  base_name : {word : Word} → IsName word → SpellsBase None word

-- "Addresses": what stands behind the base and its signs
pub data SpellsOffset : Offset → List Lexeme → Type 0 where
  no_offset : SpellsOffset Missing []
  in_brackets : {v : Value} {vs : List Lexeme} → SpellsValue v vs → SpellsOffset (Bracket v) (Punctuated LeftBracket ∷ vs ++ (Punctuated RightBracket ∷ []))
  in_parentheses : {v : Value} {vs : List Lexeme} → SpellsValue v vs → SpellsOffset (Parenthesis v) (Punctuated LeftParenthesis ∷ vs ++ (Punctuated RightParenthesis ∷ []))

-- "Addresses": the twelve shapes, by the signs before the base, those behind it, and the offset
pub data SpellsMode : Mode → List Punctuator → List Punctuator → Offset → Type 0 where
  -- `*R`
  at_base : SpellsMode Positive [] [] Missing
  -- `*+R[c]`, `*+R(n)`, `*-R[c]`
  ahead : {v : Value} → SpellsMode Positive (Plus ∷ []) [] (Bracket v)
  ahead_bytes : {v : Value} → SpellsMode Positive (Plus ∷ []) [] (Parenthesis v)
  back : {v : Value} → SpellsMode Negative (Minus ∷ []) [] (Bracket v)
  -- `*++R`, `*++R[c]`, `*--R`, `*--R[c]`
  up_by_one : SpellsMode PreIncrement (Plus ∷ Plus ∷ []) [] Missing
  up_by : {v : Value} → SpellsMode PreIncrement (Plus ∷ Plus ∷ []) [] (Bracket v)
  down_by_one : SpellsMode PreDecrement (Minus ∷ Minus ∷ []) [] Missing
  down_by : {v : Value} → SpellsMode PreDecrement (Minus ∷ Minus ∷ []) [] (Bracket v)
  -- `*R++`, `*R++[c]`, `*R--`, `*R--[c]`
  then_up_by_one : SpellsMode PostIncrement [] (Plus ∷ Plus ∷ []) Missing
  then_up_by : {v : Value} → SpellsMode PostIncrement [] (Plus ∷ Plus ∷ []) (Bracket v)
  then_down_by_one : SpellsMode PostDecrement [] (Minus ∷ Minus ∷ []) Missing
  then_down_by : {v : Value} → SpellsMode PostDecrement [] (Minus ∷ Minus ∷ []) (Bracket v)

-- "Addresses": what follows the `*`
pub data SpellsAddress : Address → List Lexeme → Type 0 where
  address_spelled : {base : Option Register} {word : Word} {mode : Mode} {offset : Offset} {before behind : List Punctuator} {os : List Lexeme} → SpellsBase base word → SpellsMode mode before behind offset → SpellsOffset offset os → SpellsAddress (record { base = base; mode = mode; offset = offset }) (map Punctuated before ++ (Worded word ∷ map Punctuated behind ++ os))

-- "Operands": a text, an address or a value
pub data SpellsOperand : Operand → List Lexeme → Type 0 where
  operand_text : {at len : ℕ} → SpellsOperand (TextOperand at len) (Text at len ∷ [])
  operand_address : {a : Address} {xs : List Lexeme} → SpellsAddress a xs → SpellsOperand (AddressOperand a) (Punctuated Star ∷ xs)
  operand_value : {v : Value} {vs : List Lexeme} → SpellsValue v vs → SpellsOperand (ValueOperand v) vs

-- "Lines": operands with commas between them
pub data SpellsList : List Operand → List Lexeme → Type 0 where
  one_operand : {o : Operand} {xs : List Lexeme} → SpellsOperand o xs → SpellsList (o ∷ []) xs
  more_operands : {o : Operand} {os : List Operand} {xs ys : List Lexeme} → SpellsOperand o xs → SpellsList os ys → SpellsList (o ∷ os) (xs ++ (Punctuated Comma ∷ ys))

pub data SpellsOperands : List Operand → List Lexeme → Type 0 where
  no_operands : SpellsOperands [] []
  some_operands : {os : List Operand} {xs : List Lexeme} → SpellsList os xs → SpellsOperands os xs

-- "Lines": a label, or none
pub data SpellsLabel : Option Word → List Lexeme → Type 0 where
  no_label : SpellsLabel None []
  a_label : {name : Word} → IsName name → SpellsLabel (Some name) (Worded name ∷ Punctuated Colon ∷ [])

-- "Lines": `||`, or not
pub data SpellsBars : Bool → List Lexeme → Type 0 where
  no_bars : SpellsBars false []
  some_bars : SpellsBars true (Punctuated ParallelBars ∷ [])

-- "Lines": the registers that a condition may test
abbrev pub tested : CondReg → Register
tested B0 = record { side = B; number = 0 }
tested B1 = record { side = B; number = 1 }
tested B2 = record { side = B; number = 2 }
tested A0 = record { side = A; number = 0 }
tested A1 = record { side = A; number = 1 }
tested A2 = record { side = A; number = 2 }

-- "Lines": none; `[R]`, where R is not zero; `[!R]`, where it is zero
pub data SpellsCondition : Cond → List Lexeme → Type 0 where
  no_condition : SpellsCondition Always []
  not_zero : {register : CondReg} {word : Word} → word.class ≡ RegisterClass (tested register) → SpellsCondition (If register false) (Punctuated LeftBracket ∷ Worded word ∷ Punctuated RightBracket ∷ [])
  is_zero : {register : CondReg} {word : Word} → word.class ≡ RegisterClass (tested register) → SpellsCondition (If register true) (Punctuated LeftBracket ∷ Punctuated Bang ∷ Worded word ∷ Punctuated RightBracket ∷ [])

-- "Lines": a directive; or `||`, a condition and NOP; or these, another mnemonic and its unit
pub data SpellsHead : StatementHead → List Lexeme → Type 0 where
  directive : {word : Word} → word.class ≡ Dotted → SpellsHead (record { chained = false; condition = Always; word = word; unit = None }) (Worded word ∷ [])
  no_operation : {chained : Bool} {condition : Cond} {word : Word} {bars cs : List Lexeme} → SpellsBars chained bars → SpellsCondition condition cs → word.class ≡ Nop → SpellsHead (record { chained = chained; condition = condition; word = word; unit = None }) (bars ++ (cs ++ (Worded word ∷ [])))
  instruction : {chained : Bool} {condition : Cond} {word unit : Word} {bars cs : List Lexeme} → SpellsBars chained bars → SpellsCondition condition cs → word.class ≢ Dotted → word.class ≢ Nop → unit.class ≡ Dotted → SpellsHead (record { chained = chained; condition = condition; word = word; unit = Some unit }) (bars ++ (cs ++ (Worded word ∷ Worded unit ∷ [])))

-- "Lines": an instruction or a directive with its operands
pub data SpellsStatement : Statement → List Lexeme → Type 0 where
  statement_spelled : {head : StatementHead} {operands : List Operand} {hs os : List Lexeme} → SpellsHead head hs → SpellsOperands operands os → SpellsStatement (record { head = head; operands = operands }) (hs ++ os)

-- "Lines": a label, if there is one, then a statement, if there is one
pub data SpellsLine : Line → List Lexeme → Type 0 where
  no_statement : {label : Option Word} {ls : List Lexeme} → SpellsLabel label ls → SpellsLine (record { label = label; statement = None }) ls
  a_statement : {label : Option Word} {statement : Statement} {ls ss : List Lexeme} → SpellsLabel label ls → SpellsStatement statement ss → SpellsLine (record { label = label; statement = Some statement }) (ls ++ ss)
