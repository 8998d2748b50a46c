-- Each way to grow keeps a section sound.
use Rattle.std.proofs.Common.{◌≡◌, ℕ, ◌+◌, ◌-◌, ◌≤◌, max, Bool, true, false, inl, inr, List, ◌++◌, length, take, replicate, Option, Some, None, refl, ◌∙◌, ap, arith}
use Rattle.std.specs.Prelude.{All, IfSome, if◌then◌else◌, slice_index}
use Rattle.std.specs.Int.{to_le_bytes, w32}
use Rattle.std.proofs.lemmas.List.{length-append, length-replicate, length-set}
use Rattle.std.proofs.lemmas.List.Elements.{All-nil, All-push, All-weaker}
use Rattle.std.proofs.lemmas.Option.{IfSome_then}
use Rattle.c6x_asm_object.specs.declared.reloc_entry.RelocEntry.{RelocEntry}
use Rattle.c6x_asm_object.specs.declared.asm_section.AsmSection.{AsmSection}
use Rattle.c6x_asm_object.specs.declared.section_kind.SectionKind.{SectionKind}
use Rattle.c6x_asm_object.specs.declared.instr_word.InstrWord.{InstrWord}
use Rattle.c6x_asm_object.specs.declared.definition.Definition.{Definition}
use Rattle.c6x_asm_object.specs.declared.symbol.Symbol.{Symbol}
use Rattle.c6x_asm_object.specs.Sections.{empty_section, is_zero, odd, padding, with_align, with_bytes, with_entry, with_instruction, with_number, with_parallel, with_zeros}
use Rattle.c6x_asm_object.specs.Sound.{IsEntrySound, IsSectionSound, IsDefinitionSound, IsSymbolSound}

-- more names
entry_more : (a b : ℕ) → a ≤ b → (e : RelocEntry) → IsEntrySound a e → IsEntrySound b e
entry_more a b more e is = record { there = IfSome_then e.symbol is.there (λ i below. omega arith) }

section_more : (a b : ℕ) → a ≤ b → (p : AsmSection) → IsSectionSound a p → IsSectionSound b p
section_more a b more p is = record {
  zeros = is.zeros;
  full = is.full;
  entries = All-weaker (IsEntrySound a) (IsEntrySound b) (λ e. entry_more a b more e) p.entries is.entries;
}

-- sections stay sound where names are added
pub sections_more : (a b : ℕ) → a ≤ b → (ps : List AsmSection) → All (IsSectionSound a) ps → All (IsSectionSound b) ps
sections_more a b more ps all = All-weaker (IsSectionSound a) (IsSectionSound b) (λ p. section_more a b more p) ps all

-- more sections
spot_more : (a b : ℕ) → a ≤ b → (definition : Definition) → IsDefinitionSound a definition → IsDefinitionSound b definition
spot_more a b more definition (inl below) = inl (omega arith)
spot_more a b more definition (inr reserved) = inr reserved

symbol_more : (a b : ℕ) → a ≤ b → (s : Symbol) → IsSymbolSound a s → IsSymbolSound b s
symbol_more a b more s is = record { place = IfSome_then s.definition is.place (λ definition there. spot_more a b more definition there) }

-- symbols stay sound where sections are added
pub symbols_more : (a b : ℕ) → a ≤ b → (names : List Symbol) → All (IsSymbolSound a) names → All (IsSymbolSound b) names
symbols_more a b more names all = All-weaker (IsSymbolSound a) (IsSymbolSound b) (λ s. symbol_more a b more s) names all

-- a section without contents
pub empty_sound : (names at len : ℕ) (kind : SectionKind) → IsSectionSound names (empty_section at len kind)
unfolding empty_section
empty_sound names at len kind = record { zeros = λ zero'. refl; full = λ some'. refl; entries = All-nil (IsEntrySound names) }

-- bytes behind those of a section that may have them
pub bytes_sound : (names : ℕ) (bytes : List ℕ) (p : AsmSection) → is_zero p.kind ≡ false → IsSectionSound names p → IsSectionSound names (with_bytes bytes p)
unfolding with_bytes
bytes_sound names bytes p some is = record {
  zeros = λ zero'. absurd (cc);
  full = λ some'. length-append p.bytes bytes ∙ ap (λ n. n + length bytes) (is.full some');
  entries = is.entries;
}

first_of_two : (test : Bool) (xs ys : List ℕ) → test ≡ true → (if test then xs else ys) ≡ xs
first_of_two true xs ys is = refl
first_of_two false xs ys is = absurd (cc)

second_of_two : (test : Bool) (xs ys : List ℕ) → test ≡ false → (if test then xs else ys) ≡ ys
second_of_two true xs ys is = absurd (cc)
second_of_two false xs ys is = refl

-- zeros
pub zeros_sound : (names n : ℕ) (p : AsmSection) → IsSectionSound names p → IsSectionSound names (with_zeros n p)
unfolding with_zeros
zeros_sound names n p is = record {
  zeros = λ zero'. first_of_two (is_zero p.kind) p.bytes (p.bytes ++ replicate n 0) zero' ∙ is.zeros zero';
  full = λ some'.
      ap length (second_of_two (is_zero p.kind) p.bytes (p.bytes ++ replicate n 0) some')
      ∙ length-append p.bytes (replicate n 0)
      ∙ omega (arith, is.full some', length-replicate {A = ℕ} n 0);
  entries = is.entries;
}

-- zeros up to a multiple
pub align_sound : (names align : ℕ) (p : AsmSection) → IsSectionSound names p → IsSectionSound names (with_align align p)
unfolding with_align
align_sound names align p is =
    zeros_sound names (padding p.size align) (record p { align = max p.align align }) (record { zeros = is.zeros; full = is.full; entries = is.entries })

-- a relocation of one of the names
entry_sound : (names : ℕ) (entry : Option RelocEntry) (p : AsmSection) → IfSome entry (IsEntrySound names) → IsSectionSound names p → IsSectionSound names (with_entry entry p)
entry_sound names None p there is = is
entry_sound names (Some entry) p there is =
    record { zeros = is.zeros; full = is.full; entries = All-push (IsEntrySound names) p.entries entry is.entries there }

entry_kind : (entry : Option RelocEntry) (p : AsmSection) → (with_entry entry p).kind ≡ p.kind
entry_kind None p = refl
entry_kind (Some entry) p = refl

-- a number keeps the kind
pub number_kind : (size bits : ℕ) (entry : Option RelocEntry) (p : AsmSection) → (with_number size bits entry p).kind ≡ p.kind
unfolding with_number with_bytes
number_kind size bits entry p = entry_kind entry p

-- a number and its relocation
pub number_sound : (names size bits : ℕ) (entry : Option RelocEntry) (p : AsmSection) → is_zero p.kind ≡ false → IfSome entry (IsEntrySound names) → IsSectionSound names p → IsSectionSound names (with_number size bits entry p)
unfolding with_number
number_sound names size bits entry p some there is =
    bytes_sound names (take size (to_le_bytes w32 bits)) (with_entry entry p) (ap is_zero (entry_kind entry p) ∙ some) (entry_sound names entry p there is)

parallel_sound : (names : ℕ) (chained : Bool) (p : AsmSection) → is_zero p.kind ≡ false → IsSectionSound names p → IsSectionSound names (with_parallel chained p)
unfolding with_parallel
parallel_sound names false p some is = is
parallel_sound names true p some is = record {
  zeros = λ zero'. absurd (cc);
  full = λ some'. length-set p.bytes (p.size - 4) (odd (slice_index p.bytes (p.size - 4))) ∙ is.full some';
  entries = is.entries;
}

parallel_kind : (chained : Bool) (p : AsmSection) → (with_parallel chained p).kind ≡ p.kind
unfolding with_parallel
parallel_kind false p = refl
parallel_kind true p = refl

-- an instruction
pub instruction_sound : (names : ℕ) (instruction : InstrWord) (entry : Option RelocEntry) (p : AsmSection) → is_zero p.kind ≡ false → IfSome entry (IsEntrySound names) → IsSectionSound names p → IsSectionSound names (with_instruction instruction entry p)
unfolding with_instruction
instruction_sound names instruction entry p some there is =
    let before = with_parallel instruction.chained p in
    let kind : is_zero before.kind ≡ false = ap is_zero (parallel_kind instruction.chained p) ∙ some in
    let grown = number_sound names 4 instruction.word entry before kind there (parallel_sound names instruction.chained p some is) in
    record { zeros = grown.zeros; full = grown.full; entries = grown.entries }
