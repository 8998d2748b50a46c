-- What is far within the limits passes none.
use Rattle.std.proofs.Common.{◌≡◌, ℕ, ◌+◌, ◌-◌, ◌*◌, ◌≤◌, nat_le, Bool, true, false, drop, List, [], ◌∷◌, length, refl, sym, ◌∙◌, arith}
use Rattle.std.specs.Prelude.{sum_by, None}
use Rattle.std.specs.List.{list_any}
use Rattle.std.proofs.lemmas.Bool.{le-ltb}
use Rattle.std.proofs.lemmas.List.{length-take}
use Rattle.c6x_base.specs.declared.limits.TheConstants.{MOST_FILE_BYTES, MOST_SECTIONS}
use Rattle.c6x_asm_lines.specs.Bytes.{bytes_at}
use Rattle.c6x_asm_object.specs.declared.asm_section.AsmSection.{AsmSection}
use Rattle.c6x_asm_object.specs.declared.symbol.Symbol.{Symbol}
use Rattle.c6x_asm_object.specs.Symbols.{names_total}
use Rattle.c6x_asm_object.specs.Limits.{is_large}
use Rattle.c6x_asm_object.specs.declared.summary.Summary.{Summary}
use Rattle.c6x_asm_object.specs.Passing.{name_bytes, passes, section_count, symbol_bytes, whole_size}
use Rattle.c6x_asm_object.specs.Places.{sections_end}
use Rattle.c6x_asm_object.specs.Sums.{clipped, is_heavy, is_past, names_of_section, rows_of_section, section_tables}
use Rattle.c6x_asm_object.proofs.Limits.{large_told}
use Rattle.c6x_asm_object.proofs.Summaries.{Tells}

-- the sums over these sections and names
abbrev told : List ℕ → List AsmSection → Summary
told text sections = record {
  stretch = None;
  heavy = list_any is_heavy sections;
  tables = clipped (sum_by section_tables sections);
  rows = clipped (sum_by rows_of_section sections);
  names = clipped (sum_by (names_of_section text) sections);
}

tells : (text : List ℕ) (sections : List AsmSection) → Tells text (told text sections) sections
tells text sections = record { stretch = tt; heavy = refl; tables = refl; rows = refl; names = refl }

-- sums that are far within the limits
pub record AreFew (text : List ℕ) (sections : List AsmSection) (symbols : List Symbol) : Type 0 where
  pub light : list_any is_heavy sections ≡ false
  pub tables : sum_by section_tables sections ≤ 10
  pub rows : sum_by rows_of_section sections ≤ 100000
  pub section_names : sum_by (names_of_section text) sections ≤ 10000
  pub end : sections_end 52 sections ≤ 100000
  pub sections_few : length sections ≤ 10
  pub symbols_few : length symbols ≤ 2000
  pub names : names_total text symbols ≤ 200000

pub not_past : (n : ℕ) → n ≤ 1048576 → is_past n ≡ false
unfolding is_past
not_past n small = le-ltb 1048576 n small

none_passed : (text : List ℕ) (sections : List AsmSection) (symbols : List Symbol) → AreFew text sections symbols → passes (sections_end 52 sections) (length sections) (length symbols) (names_total text symbols) (told text sections) ≡ false
unfolding passes
none_passed text sections symbols few =
    rw (
      few.light,
      le-ltb MOST_SECTIONS (section_count (length sections) (clipped (sum_by section_tables sections))) (omega (arith, few.tables, few.sections_few)),
      not_past (symbol_bytes (length sections) (length symbols)) (omega (arith, few.sections_few, few.symbols_few)),
      not_past (1 + names_total text symbols) (omega (arith, few.names)),
      not_past (name_bytes (clipped (sum_by (names_of_section text) sections))) (omega (arith, few.section_names)),
      le-ltb MOST_FILE_BYTES (whole_size (sections_end 52 sections) (length sections) (length symbols) (names_total text symbols) (told text sections)) (omega (arith, few.end, few.rows, few.tables, few.section_names, few.sections_few, few.symbols_few, few.names)),
    ) refl

pub few_small : (text : List ℕ) (sections : List AsmSection) (symbols : List Symbol) → AreFew text sections symbols → is_large text sections symbols ≡ false
few_small text sections symbols few = sym (large_told text sections symbols (told text sections) (tells text sections)) ∙ none_passed text sections symbols few

-- a place of a text has at most so many bytes
pub bytes_most : (text : List ℕ) (at len : ℕ) → length (bytes_at text at len) ≤ len
unfolding bytes_at
bytes_most text at len = either (nat_le (at + len) (length text)) refl
  where
    either : (b : Bool) → nat_le (at + len) (length text) ≡ b → length (bytes_at text at len) ≤ len
    either true is = rw is (omega (arith, length-take (at + len - at) (drop at text)))
    either false is = rw is (omega arith)

-- names of at most 64 bytes
abbrev pub AreShort : List Symbol → Type 0
AreShort [] = Unit {0}
AreShort (s ∷ symbols) = (s.len ≤ 64) × AreShort symbols

pub names_most : (text : List ℕ) (symbols : List Symbol) → AreShort symbols → names_total text symbols ≤ 65 * length symbols
names_most text [] short = omega arith
names_most text (s ∷ symbols) short = omega (arith, bytes_most text s.at s.len, short.0, names_most text symbols short.1)
