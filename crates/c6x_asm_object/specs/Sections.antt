-- How a section grows.
use Rattle.std.specs.Prelude.{ℕ, ◌+◌, ◌-◌, ◌%◌, ◌==◌, max, Bool, true, false, if◌then◌else◌, List, [], ◌∷◌, ◌++◌, length, take, replicate, slice_index, slice_index_or, slice_set, Option, Some, None}
use Rattle.std.specs.Int.{to_le_bytes, w32}
use Rattle.c6x_asm_object.specs.declared.reloc_entry.RelocEntry.{RelocEntry}
use Rattle.c6x_asm_object.specs.declared.asm_section.AsmSection.{AsmSection}
use Rattle.c6x_asm_object.specs.declared.section_kind.SectionKind.{SectionKind}
use Rattle.c6x_asm_object.specs.declared.section_kind.SectionKind.TheVariants.{Zero, Data}
use Rattle.c6x_asm_object.specs.declared.instr_word.InstrWord.{InstrWord}
use Rattle.c6x_asm_object.specs.Kinds.{first_align}

-- a section without contents, whose name stands at a place of the text
unfoldable pub empty_section : ℕ → ℕ → SectionKind → AsmSection
empty_section at len kind = record { at = at; len = len; kind = kind; align = first_align kind; size = 0; bytes = []; entries = []; instructions = []; last = None }

abbrev pub is_zero : SectionKind → Bool
is_zero Zero = true
is_zero _ = false

unfoldable pub with_bytes : List ℕ → AsmSection → AsmSection
with_bytes bytes p = record p { size = p.size + length bytes; bytes = p.bytes ++ bytes }

unfoldable pub with_zeros : ℕ → AsmSection → AsmSection
with_zeros n p = record p { size = p.size + n; bytes = if is_zero p.kind then p.bytes else p.bytes ++ replicate n 0 }

-- the bytes up to the next multiple
abbrev pub padding : ℕ → ℕ → ℕ
padding size align = (align - size % align) % align

-- `.align`: zeros, and at least this alignment of the section
unfoldable pub with_align : ℕ → AsmSection → AsmSection
with_align align p = with_zeros (padding p.size align) (record p { align = max p.align align })

abbrev pub with_entry : Option RelocEntry → AsmSection → AsmSection
with_entry None p = p
with_entry (Some entry) p = record p { entries = p.entries ++ entry ∷ [] }

-- a number of so many bytes, the lowest first, and the relocation of its place
unfoldable pub with_number : ℕ → ℕ → Option RelocEntry → AsmSection → AsmSection
with_number size bits entry p = with_bytes (take size (to_le_bytes w32 bits)) (with_entry entry p)

abbrev pub odd : ℕ → ℕ
odd b = if b % 2 == 0 then b + 1 else b

-- `||` sets the p bit of the instruction just before
unfoldable pub with_parallel : Bool → AsmSection → AsmSection
with_parallel false p = p
with_parallel true p = record p { bytes = slice_set p.bytes (p.size - 4) (odd (slice_index p.bytes (p.size - 4))) }

-- an instruction: the bit of the one before, its relocation, its word and its line
unfoldable pub with_instruction : InstrWord → Option RelocEntry → AsmSection → AsmSection
with_instruction instruction entry p =
    let grown = with_number 4 instruction.word entry (with_parallel instruction.chained p) in
    record grown { instructions = grown.instructions ++ instruction ∷ []; last = Some grown.size }

unfoldable pub no_section : AsmSection
no_section = record { at = 0; len = 0; kind = Data; align = 8; size = 0; bytes = []; entries = []; instructions = []; last = None }

-- the section with this number
abbrev pub section_at : List AsmSection → ℕ → AsmSection
section_at sections i = slice_index_or sections i no_section

-- one section changed
abbrev pub changed : List AsmSection → ℕ → (AsmSection → AsmSection) → List AsmSection
changed sections i change = slice_set sections i (change (section_at sections i))
