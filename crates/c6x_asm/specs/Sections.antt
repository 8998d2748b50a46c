-- The sections of a text, by what its lines say (docs/ASSEMBLY.md).
use Rattle.std.specs.Prelude.{◌≡◌, ℕ, ◌+◌, ◌<◌, ◌==◌, max, Bool, false, ◌&&◌, if◌then◌else◌, List, [], ◌∷◌, ◌++◌, length, take, replicate, Option, Some, None}
use Rattle.std.specs.List.{list_any}
use Rattle.std.specs.Int.{to_le_bytes, w32}
use Rattle.std.specs.Str.{bytes_eq}
use Rattle.c6x_asm_lines.specs.Bytes.{bytes_at}
use Rattle.c6x_asm_lines.specs.declared.relocatable.Field.{Field}
use Rattle.c6x_asm_instr.specs.declared.directive.Directive.{Directive}
use Rattle.c6x_asm_instr.specs.declared.directive.Directive.TheVariants.{Section, Numbers, Space, Align}
use Rattle.c6x_asm_object.specs.declared.asm_section.AsmSection.{AsmSection}
use Rattle.c6x_asm_object.specs.declared.instr_word.InstrWord.{InstrWord}
use Rattle.c6x_asm_object.specs.Kinds.{kind_named, first_align}
use Rattle.c6x_asm_object.specs.Named.{section_name, section_names}
use Rattle.c6x_asm_object.specs.Sections.{is_zero, odd, padding, section_at}
use Rattle.c6x_asm.specs.Said.{Saying, says_nothing, says_directive, says_instruction, Said}

-- a name stands among these
abbrev pub is_among : List (List ℕ) → List ℕ → Bool
is_among names name = list_any (λ n. bytes_eq n name) names

-- the names that have not stood before, so each once, where it first appears
abbrev pub firsts : List (List ℕ) → List (List ℕ) → List (List ℕ)
firsts before [] = []
firsts before (name ∷ names) = if is_among before name then firsts (before ++ name ∷ []) names else name ∷ firsts (before ++ name ∷ []) names

-- the name of a `.sect`
abbrev pub entered_by : List ℕ → Saying → List (List ℕ)
entered_by text (says_directive (Section at len)) = bytes_at text at len ∷ []
entered_by text _ = []

abbrev pub all_entered : List ℕ → List Said → List (List ℕ)
all_entered text [] = []
all_entered text (l ∷ said) = entered_by text l.saying ++ all_entered text said

-- the names of the sections, by first `.sect`
abbrev pub names_of_sections : List ℕ → List Said → List (List ℕ)
names_of_sections text said = firsts [] (all_entered text said)

-- the section that lines go to behind a line, where they went to this one before it
abbrev pub behind_line : List ℕ → Saying → Option (List ℕ) → Option (List ℕ)
behind_line text (says_directive (Section at len)) here = Some (bytes_at text at len)
behind_line text _ here = here

-- that behind lines: the one of the last `.sect`
abbrev pub behind_lines : List ℕ → Option (List ℕ) → List Said → Option (List ℕ)
behind_lines text here [] = here
behind_lines text here (l ∷ said) = behind_lines text (behind_line text l.saying here) said

abbrev pub is_here : List ℕ → Option (List ℕ) → Bool
is_here name None = false
is_here name (Some here) = bytes_eq here name

-- the lines that go to the section with this name
abbrev pub lines_in : List ℕ → List ℕ → Option (List ℕ) → List Said → List Said
lines_in text name here [] = []
lines_in text name here (l ∷ said) = (if is_here name here then l ∷ [] else []) ++ lines_in text name (behind_line text l.saying here) said

-- a number of so many bytes, its lowest byte first
abbrev pub one_number : ℕ → Field → List ℕ
one_number size field = take size (to_le_bytes w32 field.bits)

abbrev pub number_bytes : ℕ → List Field → List ℕ
number_bytes size [] = []
number_bytes size (field ∷ fields) = one_number size field ++ number_bytes size fields

abbrev pub directive_bytes : ℕ → Directive → List ℕ
directive_bytes place (Numbers size fields) = number_bytes size fields
directive_bytes place (Space count) = replicate count 0
directive_bytes place (Align align) = replicate (padding place align) 0
directive_bytes place _ = []

-- what a line puts at a place of its section; `joined` is the p bit of its instruction
abbrev pub contribution : ℕ → Bool → Saying → List ℕ
contribution place joined says_nothing = []
contribution place joined (says_directive directive) = directive_bytes place directive
contribution place joined (says_instruction chained word relocation) = to_le_bytes w32 (if joined then odd word else word)

-- how many bytes it puts there
abbrev pub size_at : ℕ → Saying → ℕ
size_at place saying = length (contribution place false saying)

abbrev pub chained_or : Saying → Bool → Bool
chained_or (says_instruction chained word relocation) other = chained
chained_or _ other = other

-- of the lines of a section from a place on: the next instruction has `||` and stands right there
abbrev pub is_joined : ℕ → List Said → Bool
is_joined place [] = false
is_joined place (l ∷ lines) = chained_or l.saying (size_at place l.saying == 0 && is_joined (place + size_at place l.saying) lines)

-- the bytes of a section's lines, of which the first has this place: each line's behind those before it
abbrev pub contents : ℕ → List Said → List ℕ
contents place [] = []
contents place (l ∷ lines) = contribution place (is_joined (place + size_at place l.saying) lines) l.saying ++ contents (place + size_at place l.saying) lines

-- where an instruction ends
abbrev pub end_at : ℕ → Saying → Option ℕ
end_at place (says_instruction chained word relocation) = Some (place + 4)
end_at place _ = None

abbrev pub later_or : Option ℕ → Option ℕ → Option ℕ
later_or (Some end) other = Some end
later_or None other = other

-- where the last instruction of these lines ends
abbrev pub last_end : ℕ → List Said → Option ℕ
last_end place [] = None
last_end place (l ∷ lines) = later_or (last_end (place + size_at place l.saying) lines) (end_at place l.saying)

-- the alignment that a section of this one has behind a line
abbrev pub raised : ℕ → Saying → ℕ
raised align (says_directive (Align other)) = max align other
raised align _ = align

-- the greatest alignment of these lines, which is no less than the first one
abbrev pub aligned : ℕ → List Said → ℕ
aligned align [] = align
aligned align (l ∷ lines) = aligned (raised align l.saying) lines

-- the instructions of a section's lines, each with its line, whether `||` stands before it, and its word
abbrev pub word_said : ℕ → Saying → List InstrWord
word_said number (says_instruction chained word relocation) = record { line = number; chained = chained; word = word } ∷ []
word_said number _ = []

abbrev pub words_in : List Said → List InstrWord
words_in [] = []
words_in (l ∷ lines) = word_said l.number l.saying ++ words_in lines

-- a section is what its name and its lines say
pub record IsSectionOf (name : List ℕ) (lines : List Said) (p : AsmSection) : Type 0 where
  pub kind : p.kind ≡ kind_named name
  pub align : p.align ≡ aligned (first_align (kind_named name)) lines
  pub size : p.size ≡ length (contents 0 lines)
  -- a section of zeros has none in the file
  pub bytes : p.bytes ≡ (if is_zero (kind_named name) then [] else contents 0 lines)

-- the sections are those that `.sect` names, in order of first appearance, each with its lines
pub record AreSectionsOf (text : List ℕ) (said : List Said) (sections : List AsmSection) : Type 0 where
  pub names : section_names text sections ≡ names_of_sections text said
  pub each : (i : ℕ) → i < length sections → IsSectionOf (section_name text (section_at sections i)) (lines_in text (section_name text (section_at sections i)) None said) (section_at sections i)
