-- What a directive adds.
use Rattle.std.specs.Prelude.{ℕ, ◌+◌, nat_le, Bool, if◌then◌else◌, List, [], ◌∷◌, Option, Some, None, Result, Ok, Err}
use Rattle.c6x_elf.specs.Abi.{SHN_ABS, SHN_COMMON, SHN_TIC6X_SCOMMON}
use Rattle.c6x_asm_lines.specs.declared.relocatable.Field.{Field}
use Rattle.c6x_asm_lines.specs.declared.rule.AsmRule.{AsmRule}
use Rattle.c6x_asm_lines.specs.declared.rule.AsmRule.TheVariants.{NoSection, Large}
use Rattle.c6x_spec.specs.Results.{◌>>=◌}
use Rattle.c6x_asm_instr.specs.declared.directive.Directive.{Directive}
use Rattle.c6x_asm_instr.specs.declared.directive.Directive.TheVariants.{Section, Numbers, Space, Align, Attribute as SetAttribute, Common, Set}
use Rattle.c6x_asm_lines.specs.declared.word.Word.{Word}
use Rattle.c6x_asm_object.specs.declared.definition.Definition.{Definition}
use Rattle.c6x_asm_object.specs.Sections.{section_at, changed, padding, with_zeros, with_align, with_number}
use Rattle.c6x_asm.specs.States.{State, entered, relocated, name_changed, placed_at, with_attribute, placed_fault}

-- whether a section may grow by so many bytes
abbrev pub has_room : State → ℕ → ℕ → Bool
has_room s i count = nat_le ((section_at s.sections i).size + count) 1048576

-- one more number, of so many bytes, in a section
unfoldable pub with_field : List ℕ → ℕ → ℕ → State → Field → Result State AsmRule
with_field text i size s field =
    if has_room s i size
    then (let entry = relocated text s.symbols (section_at s.sections i).size field.relocation in
    Ok (record s { symbols = entry.0; sections = changed s.sections i (with_number size field.bits entry.1) }))
    else Err Large

abbrev pub with_fields : List ℕ → ℕ → ℕ → State → List Field → Result State AsmRule
with_fields text i size s [] = Ok s
with_fields text i size s (field ∷ fields) = with_field text i size s field >>= λ t. with_fields text i size t fields

abbrev pub in_section : Option ℕ → (ℕ → Result State AsmRule) → Result State AsmRule
in_section None next = Err NoSection
in_section (Some i) next = next i

abbrev pub with_space : ℕ → State → ℕ → Result State AsmRule
with_space count s i = if has_room s i count then Ok (record s { sections = changed s.sections i (with_zeros count) }) else Err Large

abbrev pub with_alignment : ℕ → State → ℕ → Result State AsmRule
with_alignment align s i =
    if has_room s i (padding (section_at s.sections i).size align) then Ok (record s { sections = changed s.sections i (with_align align) }) else Err Large

-- a place by `.common` or `.set`
abbrev pub given_place : List ℕ → State → Word → Definition → Option AsmRule → Result State AsmRule
given_place text s word definition None = Ok (record s { symbols = name_changed text s.symbols word (placed_at definition) })
given_place text s word definition (Some r) = Err r

-- the section number of a common symbol (gABI chapter 4; SPRAB89 for the near one), and that of an absolute one
abbrev pub common_section : Bool → ℕ
common_section near = if near then SHN_TIC6X_SCOMMON else SHN_COMMON

unfoldable pub applied : List ℕ → State → Directive → Result State AsmRule
applied text s (Section at len) = Ok (entered text at len s)
applied text s (Numbers size fields) = in_section s.now (λ i. with_fields text i size s fields)
applied text s (Space count) = in_section s.now (with_space count s)
applied text s (Align align) = in_section s.now (with_alignment align s)
applied text s (SetAttribute attribute word) = Ok (record s { symbols = name_changed text s.symbols word (with_attribute attribute) })
applied text s (Common word size align near) = given_place text s word (record { section = common_section near; value = align; size = size }) (placed_fault text s.symbols word)
applied text s (Set word value) = given_place text s word (record { section = SHN_ABS; value = value; size = 0 }) (placed_fault text s.symbols word)
