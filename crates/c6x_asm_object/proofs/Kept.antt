-- The names that are kept beside the symbols and sections, as these are looked up, added and changed.
use Rattle.std.proofs.Common.{◌≡◌, ℕ, ◌+◌, ◌∷◌, ◌++◌, [], List, length, map, Bool, true, false, Option, Some, None, refl, ◌∙◌, arith}
use Rattle.std.proofs.lemmas.List.{map-append}
use Rattle.std.proofs.Math.Seq.{map-set_same}
use Rattle.std.specs.Str.{bytes_eq}
use Rattle.c6x_asm_lines.specs.Bytes.{bytes_at}
use Rattle.c6x_asm_object.specs.declared.reloc_entry.RelocEntry.{RelocEntry}
use Rattle.c6x_asm_object.specs.declared.asm_section.AsmSection.{AsmSection}
use Rattle.c6x_asm_object.specs.declared.instr_word.InstrWord.{InstrWord}
use Rattle.c6x_asm_object.specs.declared.symbol.Symbol.{Symbol}
use Rattle.c6x_asm_object.specs.Names.{name_at}
use Rattle.c6x_asm_object.specs.Named.{section_name, section_names}
use Rattle.c6x_asm_object.specs.Sections.{section_at, changed, no_section, with_bytes, with_zeros, with_align, with_number, with_parallel, with_instruction}
use Rattle.c6x_asm_object.specs.Symbols.{symbol_name, symbol_at, names_total}
use Rattle.c6x_asm_object.proofs.Finding.{position_along}

pub name_of_symbol : (text : List ℕ) (symbols : List Symbol) (name : List ℕ) → name_at (map (symbol_name text) symbols) name ≡ symbol_at text symbols name
unfolding name_at symbol_at
name_of_symbol text symbols name = position_along (λ n. bytes_eq n name) (symbol_name text) symbols

pub total_push : (text : List ℕ) (symbols : List Symbol) (s : Symbol) → names_total text (symbols ++ s ∷ []) ≡ names_total text symbols + (length (symbol_name text s) + 1)
total_push text [] s = omega arith
total_push text (x ∷ symbols) s = omega (arith, total_push text symbols s)

pub names_push : (text : List ℕ) (symbols : List Symbol) (s : Symbol) → map (symbol_name text) (symbols ++ s ∷ []) ≡ map (symbol_name text) symbols ++ symbol_name text s ∷ []
names_push text symbols s = map-append (symbol_name text) symbols (s ∷ [])

-- a section that stays where its name stands
abbrev StandsAs : AsmSection → AsmSection → Type 0
StandsAs p q = (p.at ≡ q.at) × (p.len ≡ q.len)

names_changed : (text : List ℕ) (sections : List AsmSection) (i : ℕ) (change : AsmSection → AsmSection) → StandsAs (change (section_at sections i)) (section_at sections i) → section_names text (changed sections i change) ≡ section_names text sections
names_changed text sections i change stands =
    map-set_same (section_name text) sections i (change (section_at sections i)) no_section (λ j. bytes_at text (stands.0 j) (stands.1 j))

stands_with_zeros : (n : ℕ) (p : AsmSection) → StandsAs (with_zeros n p) p
unfolding with_zeros
stands_with_zeros n p = (refl, refl)

stands_with_align : (align : ℕ) (p : AsmSection) → StandsAs (with_align align p) p
unfolding with_align with_zeros
stands_with_align align p = (refl, refl)

stands_with_number : (size bits : ℕ) (entry : Option RelocEntry) (p : AsmSection) → StandsAs (with_number size bits entry p) p
unfolding with_number with_bytes
stands_with_number size bits None p = (refl, refl)
stands_with_number size bits (Some entry) p = (refl, refl)

stands_with_parallel : (chained : Bool) (p : AsmSection) → StandsAs (with_parallel chained p) p
unfolding with_parallel
stands_with_parallel false p = (refl, refl)
stands_with_parallel true p = (refl, refl)

stands_with_instruction : (instruction : InstrWord) (entry : Option RelocEntry) (p : AsmSection) → StandsAs (with_instruction instruction entry p) p
unfolding with_instruction
stands_with_instruction instruction entry p =
    let a = stands_with_number 4 instruction.word entry (with_parallel instruction.chained p) in
    let b = stands_with_parallel instruction.chained p in
    (a.0 ∙ b.0, a.1 ∙ b.1)

pub names_with_zeros : (text : List ℕ) (sections : List AsmSection) (i n : ℕ) → section_names text (changed sections i (with_zeros n)) ≡ section_names text sections
names_with_zeros text sections i n = names_changed text sections i (with_zeros n) (stands_with_zeros n (section_at sections i))

pub names_with_align : (text : List ℕ) (sections : List AsmSection) (i align : ℕ) → section_names text (changed sections i (with_align align)) ≡ section_names text sections
names_with_align text sections i align = names_changed text sections i (with_align align) (stands_with_align align (section_at sections i))

pub names_with_number : (text : List ℕ) (sections : List AsmSection) (i size bits : ℕ) (entry : Option RelocEntry) → section_names text (changed sections i (with_number size bits entry)) ≡ section_names text sections
names_with_number text sections i size bits entry = names_changed text sections i (with_number size bits entry) (stands_with_number size bits entry (section_at sections i))

pub names_with_instruction : (text : List ℕ) (sections : List AsmSection) (i : ℕ) (instruction : InstrWord) (entry : Option RelocEntry) → section_names text (changed sections i (with_instruction instruction entry)) ≡ section_names text sections
names_with_instruction text sections i instruction entry = names_changed text sections i (with_instruction instruction entry) (stands_with_instruction instruction entry (section_at sections i))
