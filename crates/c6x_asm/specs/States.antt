-- The sections and symbols that the lines so far make.
use Rattle.std.specs.Prelude.{◌≡◌, ℕ, ◌+◌, ◌<◌, true, List, [], ◌∷◌, ◌++◌, length, slice_set, Option, Some, None, Result, Ok, Err, IfSome, vec_len, position}
use Rattle.std.specs.Str.{bytes_eq}
use Rattle.c6x_asm_lines.specs.declared.word.Word.{Word}
use Rattle.c6x_asm_lines.specs.declared.rule.AsmRule.{AsmRule}
use Rattle.c6x_asm_lines.specs.declared.rule.AsmRule.TheVariants.{DuplicateLabel, NoSection}
use Rattle.c6x_asm_lines.specs.declared.relocation.Relocation.{Relocation}
use Rattle.c6x_asm_instr.specs.declared.symbol_attribute.SymbolAttribute.{SymbolAttribute}
use Rattle.c6x_asm_instr.specs.declared.symbol_attribute.SymbolAttribute.TheVariants.{Global, Weak, Hidden}
use Rattle.c6x_asm_lines.specs.Bytes.{bytes_at}
use Rattle.c6x_asm_lines.specs.Rules.{lowest}
use Rattle.c6x_asm_object.specs.declared.reloc_entry.RelocEntry.{RelocEntry}
use Rattle.c6x_asm_object.specs.declared.object.Object.{Object}
use Rattle.c6x_asm_object.specs.declared.asm_section.AsmSection.{AsmSection}
use Rattle.c6x_asm_object.specs.declared.definition.Definition.{Definition}
use Rattle.c6x_asm_object.specs.declared.symbol.Symbol.{Symbol}
use Rattle.c6x_asm_object.specs.Kinds.{kind_named}
use Rattle.c6x_asm_object.specs.Named.{AreNamed, section_names}
use Rattle.c6x_asm_object.specs.Sections.{empty_section, section_at}
use Rattle.c6x_asm_object.specs.Symbols.{interned, symbol_at, symbol_of}

pub record State : Type 0 where
  pub sections : List AsmSection
  pub now : Option ℕ
  pub symbols : List Symbol

abbrev pub state_of : Object → State
state_of o = record { sections = o.sections.items; now = o.current; symbols = o.symbols.list.items }

-- lines go to a section that there is, and the names kept beside the sections and symbols are theirs in this text
pub record IsSound (text : List ℕ) (o : Object) : Type 0 where
  pub current : IfSome o.current (λ i. i < vec_len o.sections)
  pub sections : o.section_names ≡ section_names text o.sections.items
  pub symbols : AreNamed text o.symbols

abbrev pub placed_at : Definition → Symbol → Symbol
placed_at definition s = record s { definition = Some definition }

-- what a attribute says of a symbol
abbrev pub with_attribute : SymbolAttribute → Symbol → Symbol
with_attribute Global s = record s { global = true }
with_attribute Weak s = record s { weak = true }
with_attribute Hidden s = record s { hidden = true }

abbrev pub symbol_changed : List Symbol → ℕ → (Symbol → Symbol) → List Symbol
symbol_changed symbols i change = slice_set symbols i (change (symbol_of symbols i))

-- a name, which is added if it is new, changed
unfoldable pub name_changed : List ℕ → List Symbol → Word → (Symbol → Symbol) → List Symbol
name_changed text symbols word change = symbol_changed (interned text symbols word).0 (interned text symbols word).1 change

abbrev pub definition_of : List Symbol → Option ℕ → Option Definition
definition_of symbols None = None
definition_of symbols (Some i) = (symbol_of symbols i).definition

abbrev pub fault_of_definition : Option Definition → Option AsmRule
fault_of_definition None = None
fault_of_definition (Some definition) = Some DuplicateLabel

-- the name has a place already
unfoldable pub placed_fault : List ℕ → List Symbol → Word → Option AsmRule
placed_fault text symbols word = fault_of_definition (definition_of symbols (symbol_at text symbols (bytes_at text word.at word.len)))

abbrev pub section_fault : Option ℕ → Option AsmRule
section_fault None = Some NoSection
section_fault (Some i) = None

-- the place of a label
abbrev pub label_definition : List AsmSection → Option ℕ → Definition
label_definition sections None = record { section = 0; value = 0; size = 0 }
label_definition sections (Some i) = record { section = i + 1; value = (section_at sections i).size; size = 0 }

unfoldable pub label_fault : List ℕ → State → Word → Option AsmRule
label_fault text s word = lowest (placed_fault text s.symbols word) (section_fault s.now)

unfoldable pub labelled : List ℕ → State → Word → State
labelled text s word = record s { symbols = name_changed text s.symbols word (placed_at (label_definition s.sections s.now)) }

-- the number of the section with this name
unfoldable pub section_index : List ℕ → List AsmSection → List ℕ → Option ℕ
section_index text sections name = position (λ p. bytes_eq (bytes_at text p.at p.len) name) sections

abbrev pub entered_or_new : List ℕ → ℕ → ℕ → State → Option ℕ → State
entered_or_new text at len s (Some i) = record s { now = Some i }
entered_or_new text at len s None = record s { sections = s.sections ++ empty_section at len (kind_named (bytes_at text at len)) ∷ []; now = Some (length s.sections) }

-- the section with this name, which is added if it is new
unfoldable pub entered : List ℕ → ℕ → ℕ → State → State
entered text at len s = entered_or_new text at len s (section_index text s.sections (bytes_at text at len))

abbrev pub entry_with : Relocation → ℕ → Option ℕ → RelocEntry
entry_with r offset symbol = record { offset = offset; kind = r.kind; symbol = symbol; addend = r.addend }

abbrev pub named_entry : List ℕ → List Symbol → Relocation → ℕ → Option Word → List Symbol × Option RelocEntry
named_entry text symbols r offset None = (symbols, Some (entry_with r offset None))
named_entry text symbols r offset (Some word) = ((interned text symbols word).0, Some (entry_with r offset (Some (interned text symbols word).1)))

-- the entry of a relocation at an offset, and the names with its symbol
unfoldable pub relocated : List ℕ → List Symbol → ℕ → Option Relocation → List Symbol × Option RelocEntry
relocated text symbols offset None = (symbols, None)
relocated text symbols offset (Some r) = named_entry text symbols r offset r.symbol

-- the object is as told, or the rule that the line breaks is
abbrev pub Becomes : Result (Unit {0}) AsmRule → Object → Result State AsmRule → Type 0
Becomes (Ok done) o told = told ≡ Ok (state_of o)
Becomes (Err rule) o told = told ≡ Err rule
