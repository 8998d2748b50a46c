use Rattle.std.specs.Prelude.{ℕ, nat_le, Bool, true, false, not, ◌||◌, ◌&&◌, ◌==◌, if◌then◌else◌, List, [], ◌∷◌, Option, Some, None}
use Rattle.std.specs.List.{slice_split}
use Rattle.c6x_spec.specs.Options.{◌>>=◌}
use Rattle.c6x_base.specs.declared.limits.TheConstants.{MOST_NAME_BYTES}
use Rattle.c6x_base.specs.declared.side.Side.{Side}
use Rattle.c6x_base.specs.declared.side.Side.TheVariants.{A, B}
use Rattle.c6x_encoding.specs.declared.cond.Cond.{Cond}
use Rattle.c6x_encoding.specs.declared.cond.Cond.TheVariants.{Always, If}
use Rattle.c6x_encoding.specs.declared.cond_reg.CondReg.{CondReg}
use Rattle.c6x_encoding.specs.declared.cond_reg.CondReg.TheVariants.{B0, B1, B2, A1, A2, A0}
use Rattle.c6x_asm_lines.specs.declared.address.Address.{Address}
use Rattle.c6x_asm_lines.specs.declared.statement_head.StatementHead.{StatementHead}
use Rattle.c6x_asm_lines.specs.declared.line.Line.{Line}
use Rattle.c6x_asm_lines.specs.declared.line.Statement.{Statement}
use Rattle.c6x_asm_lines.specs.declared.mode.Mode.{Mode}
use Rattle.c6x_asm_lines.specs.declared.mode.Mode.TheVariants.{Negative, Positive, PreDecrement, PreIncrement, PostDecrement, PostIncrement}
use Rattle.c6x_asm_lines.specs.declared.offset.Offset.{Offset}
use Rattle.c6x_asm_lines.specs.declared.offset.Offset.TheVariants.{Missing, Bracket, Parenthesis}
use Rattle.c6x_asm_lines.specs.declared.operand.Operand.{Operand}
use Rattle.c6x_asm_lines.specs.declared.operand.Operand.TheVariants.{Text as TextOperand, Address as AddressOperand, Value as ValueOperand}
use Rattle.c6x_asm_lines.specs.declared.base_modifier.BaseModifier.{BaseModifier}
use Rattle.c6x_asm_lines.specs.declared.base_modifier.BaseModifier.TheVariants.{Unmodified, Plus as PlusModifier, Minus as MinusModifier, PlusPlus, MinusMinus}
use Rattle.c6x_asm_lines.specs.declared.value.Value.{Value}
use Rattle.c6x_asm_lines.specs.declared.value.Value.TheVariants.{Primary as PrimaryValue, Kind as KindValue}
use Rattle.c6x_asm_lines.specs.declared.register.Register.{Register}
use Rattle.c6x_asm_lines.specs.declared.punctuator.Punctuator.TheVariants.{Colon, Comma, LeftBracket, RightBracket, LeftParenthesis, RightParenthesis, Star, Plus, Minus, Bang, Percent, ParallelBars}
use Rattle.c6x_asm_lines.specs.declared.lexeme.Lexeme.{Lexeme}
use Rattle.c6x_asm_lines.specs.declared.lexeme.Lexeme.TheVariants.{Word as Worded, Number as Numbered, Text, Punctuator as Punctuated}
use Rattle.c6x_asm_lines.specs.declared.number.Number.{Number}
use Rattle.c6x_asm_lines.specs.declared.primary.Primary.{Primary}
use Rattle.c6x_asm_lines.specs.declared.primary.Primary.TheVariants.{Register as PrimaryRegister, Number as PrimaryNumber, Symbol as PrimarySymbol}
use Rattle.c6x_asm_lines.specs.declared.word.Word.{Word}
use Rattle.c6x_asm_lines.specs.declared.word.WordClass.{WordClass}
use Rattle.c6x_asm_lines.specs.declared.word.WordClass.TheVariants.{Register as RegisterClass, Dotted, Nop}

-- what is read from the front of a line, and what is left of it
abbrev pub Read : Type 0 → Type 0
Read T = Option (T × List Lexeme)

abbrev pub read_number : List Lexeme → Read Number
read_number (Numbered size ∷ rest) = Some (record { negative = false; size = size }, rest)
read_number (Punctuated Minus ∷ Numbered size ∷ rest) = Some (record { negative = true; size = size }, rest)
read_number _ = None

-- a number behind a sign; `-` turns its sign
abbrev pub turned : Bool → Number → Number
turned minus n = record { negative = if minus then not n.negative else n.negative; size = n.size }

abbrev pub read_addend : List Lexeme → Read (Option Number)
read_addend (Punctuated Plus ∷ rest) = read_number rest >>= λ n. Some (Some (turned false n.0), n.1)
read_addend (Punctuated Minus ∷ rest) = read_number rest >>= λ n. Some (Some (turned true n.0), n.1)
read_addend rest = Some (None, rest)

abbrev pub read_symbol : Word → List Lexeme → Read Primary
read_symbol name rest = if nat_le name.len MOST_NAME_BYTES then (read_addend rest >>= λ a. Some (PrimarySymbol name a.0, a.1)) else None

abbrev pub read_worded : WordClass → Word → List Lexeme → Read Primary
read_worded (RegisterClass register) word rest = Some (PrimaryRegister register, rest)
read_worded _ word rest = read_symbol word rest

-- a register, a number, or a symbol with its addend
abbrev pub read_primary : List Lexeme → Read Primary
read_primary (Worded word ∷ rest) = read_worded word.class word rest
read_primary rest = read_number rest >>= λ n. Some (PrimaryNumber n.0, n.1)

-- what stands behind a closing sign
abbrev pub close_bracket : List Lexeme → Option (List Lexeme)
close_bracket (Punctuated RightBracket ∷ rest) = Some rest
close_bracket _ = None

abbrev pub close_parenthesis : List Lexeme → Option (List Lexeme)
close_parenthesis (Punctuated RightParenthesis ∷ rest) = Some rest
close_parenthesis _ = None

-- an operand as above, or one with a kind: `%kind(operand)` or `%kind`
unfoldable pub read_value : List Lexeme → Read Value
read_value (Punctuated Percent ∷ Worded kind ∷ Punctuated LeftParenthesis ∷ rest) = read_primary rest >>= λ p. close_parenthesis p.1 >>= λ after. Some (KindValue kind (Some p.0), after)
read_value (Punctuated Percent ∷ Worded kind ∷ rest) = Some (KindValue kind None, rest)
read_value rest = read_primary rest >>= λ p. Some (PrimaryValue p.0, p.1)

abbrev pub read_modifier : List Lexeme → BaseModifier × List Lexeme
read_modifier (Punctuated Plus ∷ Punctuated Plus ∷ rest) = (PlusPlus, rest)
read_modifier (Punctuated Plus ∷ rest) = (PlusModifier, rest)
read_modifier (Punctuated Minus ∷ Punctuated Minus ∷ rest) = (MinusMinus, rest)
read_modifier (Punctuated Minus ∷ rest) = (MinusModifier, rest)
read_modifier rest = (Unmodified, rest)

abbrev pub base_of : WordClass → Word → Option (Option Register)
base_of (RegisterClass register) word = Some (Some register)
base_of _ word = if nat_le word.len MOST_NAME_BYTES then Some None else None

-- the base of an address, which is a name where it is no register
abbrev pub read_base : List Lexeme → Read (Option Register)
read_base (Worded word ∷ rest) = base_of word.class word >>= λ base. Some (base, rest)
read_base _ = None

unfoldable pub read_offset : List Lexeme → Read Offset
read_offset (Punctuated LeftBracket ∷ rest) = read_value rest >>= λ v. close_bracket v.1 >>= λ after. Some (Bracket v.0, after)
read_offset (Punctuated LeftParenthesis ∷ rest) = read_value rest >>= λ v. close_parenthesis v.1 >>= λ after. Some (Parenthesis v.0, after)
read_offset rest = Some (Missing, rest)

-- the mode of an address, by the signs before and behind its base (SPRU732, "Addressing Modes")
abbrev pub mode_of : BaseModifier → BaseModifier → Offset → Option Mode
mode_of Unmodified Unmodified Missing = Some Positive
mode_of PlusModifier Unmodified (Bracket v) = Some Positive
mode_of PlusModifier Unmodified (Parenthesis v) = Some Positive
mode_of MinusModifier Unmodified (Bracket v) = Some Negative
mode_of MinusMinus Unmodified Missing = Some PreDecrement
mode_of MinusMinus Unmodified (Bracket v) = Some PreDecrement
mode_of PlusPlus Unmodified Missing = Some PreIncrement
mode_of PlusPlus Unmodified (Bracket v) = Some PreIncrement
mode_of Unmodified MinusMinus Missing = Some PostDecrement
mode_of Unmodified MinusMinus (Bracket v) = Some PostDecrement
mode_of Unmodified PlusPlus Missing = Some PostIncrement
mode_of Unmodified PlusPlus (Bracket v) = Some PostIncrement
mode_of _ _ _ = None

unfoldable pub read_address : List Lexeme → Read Address
read_address lexemes =
    let before = read_modifier lexemes in
    read_base before.1 >>= λ base.
    let behind = read_modifier base.1 in
    read_offset behind.1 >>= λ offset.
    mode_of before.0 behind.0 offset.0 >>= λ mode.
    Some (record { base = base.0; mode = mode; offset = offset.0 }, offset.1)

unfoldable pub read_operand : List Lexeme → Read Operand
read_operand (Text at len ∷ rest) = Some (TextOperand at len, rest)
read_operand (Punctuated Star ∷ rest) = read_address rest >>= λ a. Some (AddressOperand a.0, a.1)
read_operand rest = read_value rest >>= λ v. Some (ValueOperand v.0, v.1)

abbrev pub with_no_rest : {T : Type 0} → T → List Lexeme → Option T
with_no_rest x [] = Some x
with_no_rest x (_ ∷ _) = None

unfoldable pub whole_operand : List Lexeme → Option Operand
whole_operand lexemes = read_operand lexemes >>= λ r. with_no_rest r.0 r.1

abbrev pub is_comma : Lexeme → Bool
is_comma (Punctuated Comma) = true
is_comma _ = false

abbrev pub all_operands : List (List Lexeme) → Option (List Operand)
all_operands [] = Some []
all_operands (piece ∷ pieces) = whole_operand piece >>= λ o. all_operands pieces >>= λ os. Some (o ∷ os)

-- operands with commas between them, to the end of the line
unfoldable pub operands_of : List Lexeme → Option (List Operand)
operands_of [] = Some []
operands_of (x ∷ xs) = all_operands (slice_split is_comma (x ∷ xs))

-- whether a word names a label or a symbol: it is no register and has at most 64 bytes
abbrev pub is_name : WordClass → Word → Bool
is_name (RegisterClass register) word = false
is_name _ word = nat_le word.len MOST_NAME_BYTES

unfoldable pub read_label : List Lexeme → Read (Option Word)
read_label (Worded word ∷ Punctuated Colon ∷ rest) = if is_name word.class word then Some (Some word, rest) else None
read_label rest = Some (None, rest)

abbrev pub read_parallel_bars : List Lexeme → Bool × List Lexeme
read_parallel_bars (Punctuated ParallelBars ∷ rest) = (true, rest)
read_parallel_bars rest = (false, rest)

-- the registers that a condition may test (SPRU732, "Conditional Operations")
abbrev pub cond_reg_of : Register → Option CondReg
cond_reg_of register = on_side register.side register.number
  where
    on_side : Side → ℕ → Option CondReg
    on_side A n = if n == 0 then Some A0 else if n == 1 then Some A1 else if n == 2 then Some A2 else None
    on_side B n = if n == 0 then Some B0 else if n == 1 then Some B1 else if n == 2 then Some B2 else None

abbrev pub condition_on : WordClass → Bool → Option Cond
condition_on (RegisterClass register) zero = cond_reg_of register >>= λ r. Some (If r zero)
condition_on _ zero = None

unfoldable pub read_condition : List Lexeme → Read Cond
read_condition (Punctuated LeftBracket ∷ Punctuated Bang ∷ Worded word ∷ Punctuated RightBracket ∷ rest) = condition_on word.class true >>= λ c. Some (c, rest)
read_condition (Punctuated LeftBracket ∷ Worded word ∷ Punctuated RightBracket ∷ rest) = condition_on word.class false >>= λ c. Some (c, rest)
read_condition (Punctuated LeftBracket ∷ rest) = None
read_condition rest = Some (Always, rest)

abbrev pub is_dotted : WordClass → Bool
is_dotted Dotted = true
is_dotted _ = false

abbrev pub read_word : List Lexeme → Read Word
read_word (Worded word ∷ rest) = Some (word, rest)
read_word rest = None

abbrev pub unit_word : Word → List Lexeme → Read (Option Word)
unit_word word rest = if is_dotted word.class then Some (Some word, rest) else None

-- the unit: an instruction but NOP has one, and a directive has none
abbrev pub read_unit : WordClass → List Lexeme → Read (Option Word)
read_unit Dotted rest = Some (None, rest)
read_unit Nop rest = Some (None, rest)
read_unit class rest = read_word rest >>= λ w. unit_word w.0 w.1

abbrev pub is_conditional : Cond → Bool
is_conditional Always = false
is_conditional (If register zero) = true

-- what stands before the operands; a directive has neither `||` nor a condition
unfoldable pub read_head : List Lexeme → Read StatementHead
read_head lexemes =
    let bars = read_parallel_bars lexemes in
    read_condition bars.1 >>= λ c.
    read_word c.1 >>= λ w.
    read_unit w.0.class w.1 >>= λ u.
    if is_dotted w.0.class && (bars.0 || is_conditional c.0)
    then None
    else Some (record { chained = bars.0; condition = c.0; word = w.0; unit = u.0 }, u.1)

abbrev pub statement_of : List Lexeme → Option (Option Statement)
statement_of [] = Some None
statement_of (x ∷ xs) = read_head (x ∷ xs) >>= λ h. operands_of h.1 >>= λ operands. Some (Some (record { head = h.0; operands = operands }))

-- the line that these lexemes spell
unfoldable pub line_of : List Lexeme → Option Line
line_of lexemes = read_label lexemes >>= λ l. statement_of l.1 >>= λ s. Some (record { label = l.0; statement = s })
