-- The names that are kept beside the sections and symbols, as these are looked up, added and changed.
use Rattle.std.proofs.Common.{◌≡◌, ℕ, ◌+◌, ◌∷◌, ◌++◌, [], List, length, map, refl, sym, ap, ◌∙◌}
use Rattle.std.proofs.lemmas.List.{map-append}
use Rattle.std.proofs.Math.Seq.{map-set_same}
use Rattle.std.specs.Str.{bytes_eq}
use Rattle.c6x_asm_instr.specs.declared.symbol_attribute.SymbolAttribute.{SymbolAttribute}
use Rattle.c6x_asm_instr.specs.declared.symbol_attribute.SymbolAttribute.TheVariants.{Global, Weak, Hidden}
use Rattle.c6x_asm_lines.specs.Bytes.{bytes_at}
use Rattle.c6x_asm_object.specs.declared.asm_section.AsmSection.{AsmSection}
use Rattle.c6x_asm_object.specs.declared.definition.Definition.{Definition}
use Rattle.c6x_asm_object.specs.declared.symbol.Symbol.{Symbol}
use Rattle.c6x_asm_object.specs.Names.{name_at}
use Rattle.c6x_asm_object.specs.Named.{section_name, section_names}
use Rattle.c6x_asm_object.specs.Symbols.{names_total, no_symbol, symbol_name, symbol_of}
use Rattle.c6x_asm_object.proofs.Finding.{position_along}
use Rattle.c6x_asm.specs.States.{section_index, symbol_changed, placed_at, with_attribute}

pub name_of_section : (text : List ℕ) (sections : List AsmSection) (name : List ℕ) → name_at (section_names text sections) name ≡ section_index text sections name
unfolding name_at section_index
name_of_section text sections name = position_along (λ n. bytes_eq n name) (section_name text) sections

pub section_names_push : (text : List ℕ) (sections : List AsmSection) (p : AsmSection) → section_names text (sections ++ p ∷ []) ≡ section_names text sections ++ section_name text p ∷ []
section_names_push text sections p = map-append (section_name text) sections (p ∷ [])

-- a symbol that stays where its name stands
abbrev StandsAs : Symbol → Symbol → Type 0
StandsAs s t = (s.at ≡ t.at) × (s.len ≡ t.len)

names_changed : (text : List ℕ) (symbols : List Symbol) (i : ℕ) (change : Symbol → Symbol) → StandsAs (change (symbol_of symbols i)) (symbol_of symbols i) → map (symbol_name text) (symbol_changed symbols i change) ≡ map (symbol_name text) symbols
names_changed text symbols i change stands =
    map-set_same (symbol_name text) symbols i (change (symbol_of symbols i)) no_symbol (λ j. bytes_at text (stands.0 j) (stands.1 j))

abbrev lengths : List (List ℕ) → ℕ
lengths [] = 0
lengths (n ∷ names) = length n + 1 + lengths names

total_lengths : (text : List ℕ) (symbols : List Symbol) → names_total text symbols ≡ lengths (map (symbol_name text) symbols)
total_lengths text [] = refl
total_lengths text (s ∷ symbols) = ap (λ n. length (symbol_name text s) + 1 + n) (total_lengths text symbols)

total_changed : (text : List ℕ) (symbols : List Symbol) (i : ℕ) (change : Symbol → Symbol) → StandsAs (change (symbol_of symbols i)) (symbol_of symbols i) → names_total text (symbol_changed symbols i change) ≡ names_total text symbols
total_changed text symbols i change stands =
    total_lengths text (symbol_changed symbols i change) ∙ ap lengths (names_changed text symbols i change stands) ∙ sym (total_lengths text symbols)

stands_marked : (attribute : SymbolAttribute) (s : Symbol) → StandsAs (with_attribute attribute s) s
stands_marked Global s = (refl, refl)
stands_marked Weak s = (refl, refl)
stands_marked Hidden s = (refl, refl)

pub names_placed : (text : List ℕ) (symbols : List Symbol) (i : ℕ) (definition : Definition) → map (symbol_name text) (symbol_changed symbols i (placed_at definition)) ≡ map (symbol_name text) symbols
names_placed text symbols i definition = names_changed text symbols i (placed_at definition) (refl, refl)

pub total_placed : (text : List ℕ) (symbols : List Symbol) (i : ℕ) (definition : Definition) → names_total text (symbol_changed symbols i (placed_at definition)) ≡ names_total text symbols
total_placed text symbols i definition = total_changed text symbols i (placed_at definition) (refl, refl)

pub names_marked : (text : List ℕ) (symbols : List Symbol) (i : ℕ) (attribute : SymbolAttribute) → map (symbol_name text) (symbol_changed symbols i (with_attribute attribute)) ≡ map (symbol_name text) symbols
names_marked text symbols i attribute = names_changed text symbols i (with_attribute attribute) (stands_marked attribute (symbol_of symbols i))

pub total_marked : (text : List ℕ) (symbols : List Symbol) (i : ℕ) (attribute : SymbolAttribute) → names_total text (symbol_changed symbols i (with_attribute attribute)) ≡ names_total text symbols
total_marked text symbols i attribute = total_changed text symbols i (with_attribute attribute) (stands_marked attribute (symbol_of symbols i))
