-- The symbols of a text, by what its lines say (docs/ASSEMBLY.md).
use Rattle.std.specs.Prelude.{◌≡◌, ℕ, ◌+◌, ◌<◌, Bool, true, false, ◌&&◌, if◌then◌else◌, List, [], ◌∷◌, ◌++◌, length, map, Option, Some, None, position}
use Rattle.std.specs.List.{list_any}
use Rattle.std.specs.Str.{bytes_eq}
use Rattle.c6x_elf.specs.Abi.{SHN_ABS}
use Rattle.c6x_asm_lines.specs.declared.word.Word.{Word}
use Rattle.c6x_asm_lines.specs.declared.relocatable.Field.{Field}
use Rattle.c6x_asm_lines.specs.declared.relocation.Relocation.{Relocation}
use Rattle.c6x_asm_instr.specs.declared.directive.Directive.{Directive}
use Rattle.c6x_asm_instr.specs.declared.directive.Directive.TheVariants.{Numbers, Attribute, Common, Set}
use Rattle.c6x_asm_instr.specs.declared.symbol_attribute.SymbolAttribute.{SymbolAttribute}
use Rattle.c6x_asm_instr.specs.declared.symbol_attribute.SymbolAttribute.TheVariants.{Global, Weak, Hidden}
use Rattle.c6x_asm_object.specs.declared.definition.Definition.{Definition}
use Rattle.c6x_asm_object.specs.declared.symbol.Symbol.{Symbol}
use Rattle.c6x_asm_object.specs.Symbols.{symbol_name, symbol_of}
use Rattle.c6x_asm.specs.Directives.{common_section}
use Rattle.c6x_asm.specs.Said.{Saying, says_directive, says_instruction, Said, text_of_word}
use Rattle.c6x_asm.specs.Sections.{behind_lines, contents, firsts, lines_in, names_of_sections}

abbrev pub word_names : List ℕ → Option Word → List (List ℕ)
word_names text None = []
word_names text (Some word) = text_of_word text word ∷ []

abbrev pub relocated_names : List ℕ → Option Relocation → List (List ℕ)
relocated_names text None = []
relocated_names text (Some relocation) = word_names text relocation.symbol

abbrev pub number_names : List ℕ → List Field → List (List ℕ)
number_names text [] = []
number_names text (field ∷ fields) = relocated_names text field.relocation ++ number_names text fields

abbrev pub directive_names : List ℕ → Directive → List (List ℕ)
directive_names text (Numbers size fields) = number_names text fields
directive_names text (Attribute attribute word) = text_of_word text word ∷ []
directive_names text (Common word size align near) = text_of_word text word ∷ []
directive_names text (Set word value) = text_of_word text word ∷ []
directive_names text _ = []

abbrev pub saying_names : List ℕ → Saying → List (List ℕ)
saying_names text (says_directive directive) = directive_names text directive
saying_names text (says_instruction chained word relocation) = relocated_names text relocation
saying_names text _ = []

-- the names that lines give, in order
abbrev pub all_named : List ℕ → List Said → List (List ℕ)
all_named text [] = []
all_named text (l ∷ said) = word_names text l.label ++ (saying_names text l.saying ++ all_named text said)

-- the names of the symbols, by first appearance
abbrev pub names_of_symbols : List ℕ → List Said → List (List ℕ)
names_of_symbols text said = firsts [] (all_named text said)

abbrev pub is_attribute : SymbolAttribute → SymbolAttribute → Bool
is_attribute Global Global = true
is_attribute Weak Weak = true
is_attribute Hidden Hidden = true
is_attribute _ _ = false

-- a line gives a name this attribute
abbrev pub attributes : List ℕ → SymbolAttribute → List ℕ → Saying → Bool
attributes text attribute name (says_directive (Attribute other word)) = is_attribute attribute other && bytes_eq (text_of_word text word) name
attributes text attribute name _ = false

abbrev pub has_attribute : List ℕ → SymbolAttribute → List ℕ → List Said → Bool
has_attribute text attribute name said = list_any (λ l. attributes text attribute name l.saying) said

-- sections count from 1
abbrev pub number_or : Option ℕ → ℕ
number_or None = 0
number_or (Some i) = i + 1

abbrev pub place_in : List ℕ → List Said → Option (List ℕ) → Definition
place_in text before None = record { section = 0; value = 0; size = 0 }
place_in text before (Some here) = record {
  section = number_or (position (λ name. bytes_eq name here) (names_of_sections text before));
  value = length (contents 0 (lines_in text here None before));
  size = 0;
}

-- the place where a label behind these lines stands: in the section of the last `.sect`, behind its bytes so far
abbrev pub label_place : List ℕ → List Said → Definition
label_place text before = place_in text before (behind_lines text None before)

-- the place that a line gives a name, where these lines stand before it
abbrev pub placed_by_label : List ℕ → List Said → Option Word → List ℕ → Option Definition
placed_by_label text before None name = None
placed_by_label text before (Some word) name = if bytes_eq (text_of_word text word) name then Some (label_place text before) else None

abbrev pub placed_by_saying : List ℕ → Saying → List ℕ → Option Definition
placed_by_saying text (says_directive (Common word size align near)) name = if bytes_eq (text_of_word text word) name then Some (record { section = common_section near; value = align; size = size }) else None
placed_by_saying text (says_directive (Set word value)) name = if bytes_eq (text_of_word text word) name then Some (record { section = SHN_ABS; value = value; size = 0 }) else None
placed_by_saying text _ name = None

abbrev pub first_place : Option Definition → Option Definition → Option Definition
first_place (Some place) other = Some place
first_place None other = other

-- the place that lines give a name, where others stand before them
abbrev pub place_given : List ℕ → List Said → List Said → List ℕ → Option Definition
place_given text before [] name = None
place_given text before (l ∷ said) name =
    first_place (first_place (placed_by_label text before l.label name) (placed_by_saying text l.saying name)) (place_given text (before ++ l ∷ []) said name)

-- a symbol is what the lines say of its name
pub record IsSymbolOf (text : List ℕ) (said : List Said) (name : List ℕ) (s : Symbol) : Type 0 where
  pub definition : s.definition ≡ place_given text [] said name
  pub global : s.global ≡ has_attribute text Global name said
  pub weak : s.weak ≡ has_attribute text Weak name said
  pub hidden : s.hidden ≡ has_attribute text Hidden name said

-- the symbols are the names by first appearance, each with what the lines say of it
pub record AreSymbolsOf (text : List ℕ) (said : List Said) (symbols : List Symbol) : Type 0 where
  pub names : map (symbol_name text) symbols ≡ names_of_symbols text said
  pub each : (i : ℕ) → i < length symbols → IsSymbolOf text said (symbol_name text (symbol_of symbols i)) (symbol_of symbols i)
