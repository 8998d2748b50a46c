-- Only a section that may have bytes gets numbers.
use Rattle.std.proofs.Common.{◌≡◌, ℕ, Bool, true, false, List, [], ◌∷◌, Option, Some, None, Ok, Err, IfOk, refl, subst}
use Rattle.std.specs.Prelude.{if◌then◌else◌}
use Rattle.c6x_asm_lines.specs.declared.operand.Operand.{Operand}
use Rattle.c6x_asm_lines.specs.declared.operand.Operand.TheVariants.{Text as TextOperand}
use Rattle.c6x_asm_lines.specs.declared.rule.AsmRule.TheVariants.{Syntax, Operand as BadOperand, Range as OutOfRange}
use Rattle.c6x_asm_lines.specs.OperandValues.{constant_operand}
use Rattle.c6x_asm_lines.specs.Rules.{both}
use Rattle.c6x_asm_instr.specs.declared.directive.Directive.{Directive}
use Rattle.c6x_asm_instr.specs.declared.directive.Directive.TheVariants.{Section, Numbers, Space, Align, Attribute as SetAttribute, Common, Set}
use Rattle.c6x_asm_instr.specs.declared.keyword.Keyword.{Keyword}
use Rattle.c6x_asm_instr.specs.declared.keyword.Keyword.TheVariants.{Sect, Word as WordKey, Half, Byte, Space as SpaceKey, Align as AlignKey, Global, Weak, Hidden, Common as CommonKey, NearCommon, Set as SetKey}
use Rattle.c6x_asm_instr.specs.declared.symbol_attribute.SymbolAttribute.{SymbolAttribute}
use Rattle.c6x_asm_instr.specs.declared.symbol_attribute.SymbolAttribute.TheVariants.{Global as AttributeGlobal, Weak as AttributeWeak, Hidden as AttributeHidden}
use Rattle.c6x_asm_instr.specs.Directives.{align_of, any_number, common_of, directive_by, fields_of, is_power, is_section_name, attribute_of, name_operand, numbers_of, sect_of, section_named, set_of, space_of}
use Rattle.c6x_asm_lines.specs.Numbers.{range_of}
use Rattle.c6x_asm_lines.specs.Bytes.{bytes_at}
use Rattle.c6x_asm_object.specs.declared.asm_section.AsmSection.{AsmSection}
use Rattle.c6x_asm_object.specs.Sections.{is_zero, section_at}
use Rattle.c6x_asm.specs.StepLines.{numbers_fault, zero_fault}
use Rattle.c6x_asm.proofs.Results.{if_either, if_next}

-- the section that lines go to may have bytes
abbrev pub HasBytes : List AsmSection → Option ℕ → Type 0
HasBytes sections now = (i : ℕ) → now ≡ Some i → is_zero (section_at sections i).kind ≡ false

-- where the directive adds numbers
abbrev pub Suits : List AsmSection → Option ℕ → Directive → Type 0
Suits sections now (Numbers size fields) = HasBytes sections now
Suits sections now _ = Unit {0}

no_zero : (test : Bool) → (if test then Some BadOperand else None) ≡ None → test ≡ false
no_zero true is = absurd (cc)
no_zero false is = refl

some_same : {i j : ℕ} → Some i ≡ Some j → i ≡ j
some_same is = cc

zero_kept : (sections : List AsmSection) (now : Option ℕ) → zero_fault sections now ≡ None → HasBytes sections now
zero_kept sections None kept i is = absurd (cc)
zero_kept sections (Some j) kept i is =
    subst (λ k. is_zero (section_at sections k).kind ≡ false) (some_same is) (no_zero (is_zero (section_at sections j).kind) kept)

named_suits : (text : List ℕ) (sections : List AsmSection) (now : Option ℕ) (name : Operand) → IfOk (section_named text name) (Suits sections now)
unfolding section_named
named_suits text sections now (TextOperand at len) =
    if_either (Suits sections now) (is_section_name (bytes_at text at len)) (Ok (Section at len)) (Err Syntax) tt tt
named_suits text sections now other = tt

sect_suits : (text : List ℕ) (sections : List AsmSection) (now : Option ℕ) (operands : List Operand) → IfOk (sect_of text operands) (Suits sections now)
sect_suits text sections now [] = tt
sect_suits text sections now (name ∷ []) = named_suits text sections now name
sect_suits text sections now (name ∷ other ∷ operands) = tt

numbers_suit : (text : List ℕ) (sections : List AsmSection) (now : Option ℕ) (size : ℕ) (operands : List Operand) → HasBytes sections now → IfOk (numbers_of text size operands) (Suits sections now)
numbers_suit text sections now size [] has = tt
numbers_suit text sections now size (o ∷ os) has =
    if_next (Suits sections now) (fields_of text size (o ∷ os)) (λ fields. Ok (Numbers size fields)) (λ fields is. has)

space_suits : (sections : List AsmSection) (now : Option ℕ) (operands : List Operand) → IfOk (space_of operands) (Suits sections now)
space_suits sections now [] = tt
space_suits sections now (n ∷ []) =
    if_next (Suits sections now) (constant_operand any_number n) (λ bytes. Ok (Space bytes)) (λ bytes is. tt)
space_suits sections now (n ∷ other ∷ operands) = tt

align_suits : (sections : List AsmSection) (now : Option ℕ) (operands : List Operand) → IfOk (align_of operands) (Suits sections now)
align_suits sections now [] = tt
align_suits sections now (n ∷ []) =
    if_next (Suits sections now) (constant_operand (range_of 0 1 4096 4294967296) n) (λ align. if is_power align then Ok (Align align) else Err OutOfRange)
    (λ align is. if_either (Suits sections now) (is_power align) (Ok (Align align)) (Err OutOfRange) tt tt)
align_suits sections now (n ∷ other ∷ operands) = tt

mark_suits : (sections : List AsmSection) (now : Option ℕ) (attribute : SymbolAttribute) (operands : List Operand) → IfOk (attribute_of attribute operands) (Suits sections now)
mark_suits sections now attribute [] = tt
mark_suits sections now attribute (name ∷ []) =
    if_next (Suits sections now) (name_operand name) (λ word. Ok (SetAttribute attribute word)) (λ word is. tt)
mark_suits sections now attribute (name ∷ other ∷ operands) = tt

common_suits : (sections : List AsmSection) (now : Option ℕ) (near : Bool) (operands : List Operand) → IfOk (common_of near operands) (Suits sections now)
common_suits sections now near [] = tt
common_suits sections now near (name ∷ []) = tt
common_suits sections now near (name ∷ size ∷ []) = tt
common_suits sections now near (name ∷ size ∷ align ∷ []) =
    if_next (Suits sections now) (both (name_operand name) (both (constant_operand any_number size) (constant_operand any_number align)))
    (λ p. Ok (Common p.0 p.1.0 p.1.1 near)) (λ p is. tt)
common_suits sections now near (name ∷ size ∷ align ∷ other ∷ operands) = tt

set_suits : (sections : List AsmSection) (now : Option ℕ) (operands : List Operand) → IfOk (set_of operands) (Suits sections now)
set_suits sections now [] = tt
set_suits sections now (name ∷ []) = tt
set_suits sections now (name ∷ value ∷ []) =
    if_next (Suits sections now) (both (name_operand name) (constant_operand (range_of 2147483648 0 4294967295 4294967296) value))
    (λ p. Ok (Set p.0 p.1)) (λ p is. tt)
set_suits sections now (name ∷ value ∷ other ∷ operands) = tt

-- a directive that its section may take
pub directive_suits : (text : List ℕ) (keyword : Keyword) (operands : List Operand) (sections : List AsmSection) (now : Option ℕ) → numbers_fault keyword sections now ≡ None → IfOk (directive_by text keyword operands) (Suits sections now)
unfolding directive_by
directive_suits text Sect operands sections now kept = sect_suits text sections now operands
directive_suits text WordKey operands sections now kept = numbers_suit text sections now 4 operands (zero_kept sections now kept)
directive_suits text Half operands sections now kept = numbers_suit text sections now 2 operands (zero_kept sections now kept)
directive_suits text Byte operands sections now kept = numbers_suit text sections now 1 operands (zero_kept sections now kept)
directive_suits text SpaceKey operands sections now kept = space_suits sections now operands
directive_suits text AlignKey operands sections now kept = align_suits sections now operands
directive_suits text Global operands sections now kept = mark_suits sections now AttributeGlobal operands
directive_suits text Weak operands sections now kept = mark_suits sections now AttributeWeak operands
directive_suits text Hidden operands sections now kept = mark_suits sections now AttributeHidden operands
directive_suits text CommonKey operands sections now kept = common_suits sections now false operands
directive_suits text NearCommon operands sections now kept = common_suits sections now true operands
directive_suits text SetKey operands sections now kept = set_suits sections now operands
