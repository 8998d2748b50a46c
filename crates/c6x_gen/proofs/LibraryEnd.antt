-- The counter of a library, behind its code, and the object of the whole.
use Rattle.std.proofs.Common.{◌≡◌, ℕ, ◌%◌, ◌==◌, nat_le, true, false, List, [], ◌∷◌, Option, Some, None, Ok, codes, refl, arith}
use Rattle.std.specs.Str.{bytes_eq}
use Rattle.c6x_asm_lines.specs.Bytes.{bytes_at}
use Rattle.c6x_asm_lines.specs.Lexemes.{number_of}
use Rattle.c6x_asm_object.specs.Places.{place_behind}
use Rattle.c6x_asm_object.specs.Filing.{file_of}
use Rattle.c6x_asm_object.specs.Sections.{empty_section, with_bytes, with_number}
use Rattle.c6x_asm_object.specs.Symbols.{fresh, interned, symbol_at}
use Rattle.c6x_asm_object.specs.declared.asm_section.AsmSection.{AsmSection}
use Rattle.c6x_asm_object.specs.declared.definition.Definition.{Definition}
use Rattle.c6x_asm_object.specs.declared.symbol.Symbol.{Symbol}
use Rattle.c6x_asm.specs.States.{relocated}
use Rattle.c6x_asm.specs.Lines.{after_lines, lined}
use Rattle.c6x_asm.specs.Objects.{assembled}
use Rattle.c6x_asm.specs.Reading.{bad_line, nothing}
use Rattle.c6x_dis.specs.Pieces.{is_decimal}
use Rattle.c6x_dis.specs.Parts.{lexemes_at, lines_at}
use Rattle.c6x_dis.proofs.Read.{text_read}
use Rattle.c6x_gen.proofs.Lines.{count_word, labelled_line, library_behind, library_lines, section_line}
use Rattle.c6x_gen.proofs.Alone.{none_bad}
use Rattle.c6x_gen.proofs.Apart.{are_apart, lines_apart}
use Rattle.c6x_gen.proofs.Grown.{AreNames, grown_light, IsLight, lined_so, state_of, two_small}
use Rattle.c6x_gen.proofs.Library.{AreFound, begun, function, after_back_made, section_taken, pop_taken, back_taken, global_taken, push_taken, table_taken, first_wait_taken, load_taken, second_wait_taken, add_taken, store_taken, after_pop, after_back, after_push, after_table, after_first_wait, after_load, after_second_wait, after_add, after_store, place, short_name, text}
use Rattle.c6x_gen.proofs.Openings.{count_step, count_symbol, data_section, data_step, in_data, in_text}
use Rattle.c6x_gen.proofs.Read.{text_assembled}
use Rattle.c6x_gen.proofs.Steps.{IsName, load_place}

-- the names behind the code: the function and the counter
abbrev pub named : List ℕ → List ℕ → Symbol
named name digits = function name digits (in_text begun.size)

-- where the counter is named first
abbrev pub counter_place : List ℕ → List ℕ → ℕ
counter_place name digits = load_place (place name digits 5)

pub names_after_first_wait : (name digits : List ℕ) → (after_first_wait name digits).names ≡ named name digits ∷ []
unfolding after_first_wait after_table after_push relocated
names_after_first_wait name digits = refl

-- the counter's name is no other
abbrev pub IsApart : List ℕ → Type 0
IsApart name = bytes_eq name (codes "count") ≡ false

pub names_after_load : (name digits : List ℕ) → AreFound name digits → IsApart name → (after_load name digits).names ≡ named name digits ∷ count_symbol (counter_place name digits) None ∷ []
unfolding after_load relocated interned symbol_at fresh
names_after_load name digits found other = rw (names_after_first_wait name digits, found.1.0.1.0, found.1.1.1.1.1.0.1.1.1.0, other) refl

pub names_after_add : (name digits : List ℕ) → AreFound name digits → IsApart name → (after_add name digits).names ≡ named name digits ∷ count_symbol (counter_place name digits) None ∷ []
unfolding after_add after_second_wait relocated
names_after_add name digits found other = names_after_load name digits found other

pub names_after_store : (name digits : List ℕ) → AreFound name digits → IsApart name → (after_store name digits).names ≡ named name digits ∷ count_symbol (counter_place name digits) None ∷ []
unfolding after_store relocated interned symbol_at
names_after_store name digits found other =
    rw (names_after_add name digits found other, found.1.0.1.0, found.1.1.1.1.1.0.1.1.1.0, found.1.1.1.1.1.1.1.1.0.1.1.1.1.0, other) refl

pub names_after_back : (name digits : List ℕ) → AreFound name digits → IsApart name → (after_back name digits).names ≡ named name digits ∷ count_symbol (counter_place name digits) None ∷ []
unfolding after_back after_pop relocated
names_after_back name digits found other = names_after_store name digits found other

-- the section of the counter, before and behind its number
abbrev pub data_begun : List ℕ → List ℕ → AsmSection
data_begun name digits = data_section (place name digits 11)

unfoldable pub data_of : List ℕ → List ℕ → ℕ → AsmSection
data_of name digits count = with_number 4 count None (data_begun name digits)

begun_light : (name digits : List ℕ) → IsLight (data_begun name digits)
unfolding empty_section place_behind
begun_light name digits = record { size = omega arith; bytes = omega arith; entries = omega arith; len = omega arith; end = λ at. omega arith }

data_light : (name digits : List ℕ) (count : ℕ) → IsLight (data_of name digits count)
unfolding data_of with_number with_bytes empty_section place_behind
data_light name digits count = record { size = omega arith; bytes = omega arith; entries = omega arith; len = omega arith; end = λ at. omega arith }

data_none_bad : (name digits : List ℕ) (count : ℕ) → (data_of name digits count).instructions ≡ []
unfolding data_of with_number with_bytes empty_section
data_none_bad name digits count = refl

-- the names with the counter's place
abbrev pub symbols_of : List ℕ → List ℕ → List Symbol
symbols_of name digits = function name digits (in_text begun.size) ∷ count_symbol (counter_place name digits) (Some (record { section = 2; value = 0; size = 0 })) ∷ []

two_names : (name digits : List ℕ) (definition : Option Definition) → IsName name → AreNames 2 (named name digits ∷ count_symbol (counter_place name digits) definition ∷ [])
two_names name digits definition is = record { short = (short_name name is, (omega arith, tt)); few = omega arith }

code_name : (name digits : List ℕ) → AreFound name digits → IsName name → bytes_at (text name digits) (after_back name digits).section.at (after_back name digits).section.len ≡ codes ".text"
code_name name digits found is =
    let made = after_back_made name digits is in
    rw (made.grown.at, made.grown.len) found.0.1.0

data_taken : (name digits : List ℕ) → AreFound name digits → IsName name → IsApart name → lined (text name digits) 12 (lexemes_at (place name digits 11) (section_line (codes ".neardata"))) (state_of (after_back name digits)) ≡ Ok (in_data (after_back name digits).section (data_begun name digits) (named name digits ∷ count_symbol (counter_place name digits) None ∷ []))
data_taken name digits found is other =
    let code = (after_back name digits).section in
    let symbols = named name digits ∷ count_symbol (counter_place name digits) None ∷ [] in
    rw (← names_after_back name digits found other)
    (lined_so (text name digits) 12 (lexemes_at (place name digits 11) (section_line (codes ".neardata"))) (state_of (after_back name digits)) (in_data code (data_begun name digits) (after_back name digits).names)
    (data_step (text name digits) (place name digits 11) 12 code (after_back name digits).names found.1.1.1.1.1.1.1.1.1.1.1.0 (code_name name digits found is))
    (two_small (text name digits) code (data_begun name digits) (after_back name digits).names 10 (grown_light 9 code (after_back_made name digits is).grown (omega arith)) (begun_light name digits) (after_back_made name digits is).names (omega arith)) (omega arith))

-- a number for the counter, and its digits
pub record IsCount (digits : List ℕ) (count : ℕ) : Type 0 where
  pub token : is_decimal digits ≡ true
  pub is : number_of digits ≡ Some count
  pub least : nat_le 0 count ≡ true
  pub most : nat_le count 4294967295 ≡ true
  pub whole : (count % 1 == 0) ≡ true

count_taken : (name digits : List ℕ) (count : ℕ) → AreFound name digits → IsName name → IsApart name → IsCount digits count → lined (text name digits) 13 (lexemes_at (place name digits 12) (labelled_line (codes "count") (count_word digits))) (in_data (after_back name digits).section (data_begun name digits) (named name digits ∷ count_symbol (counter_place name digits) None ∷ [])) ≡ Ok (in_data (after_back name digits).section (data_of name digits count) (symbols_of name digits))
unfolding data_of
count_taken name digits count found is other number =
    let code = (after_back name digits).section in
    let before = in_data code (data_begun name digits) (named name digits ∷ count_symbol (counter_place name digits) None ∷ []) in
    lined_so (text name digits) 13 (lexemes_at (place name digits 12) (labelled_line (codes "count") (count_word digits))) before (in_data code (data_of name digits count) (symbols_of name digits))
    (count_step (text name digits) (place name digits 12) (counter_place name digits) 13 digits count (named name digits) code (place name digits 11) found.1.1.1.1.1.1.1.1.1.1.1.1.0
    (record { name = name; is = found.1.0.1.0; other = other }) found.1.1.1.1.1.0.1.1.1.0 number.is number.least number.most number.whole)
    (two_small (text name digits) code (data_of name digits count) (symbols_of name digits) 2 (grown_light 9 code (after_back_made name digits is).grown (omega arith)) (data_light name digits count) (two_names name digits (Some (record { section = 2; value = 0; size = 0 })) is) (omega arith)) (omega arith)

all_taken : (name digits : List ℕ) (count : ℕ) → AreFound name digits → IsName name → IsApart name → IsCount digits count → after_lines (text name digits) 1 nothing (lines_at 0 (library_lines name digits)) ≡ Ok (in_data (after_back name digits).section (data_of name digits count) (symbols_of name digits))
all_taken name digits count found is other number =
    rw (
      section_taken name digits found,
      global_taken name digits found is,
      push_taken name digits found is,
      table_taken name digits found is,
      first_wait_taken name digits found is,
      load_taken name digits found is,
      second_wait_taken name digits found is,
      add_taken name digits found is,
      store_taken name digits found is,
      pop_taken name digits found is,
      back_taken name digits found is,
      data_taken name digits found is other,
      count_taken name digits count found is other number,
    ) refl

lines_stand : (name digits : List ℕ) (count : ℕ) → IsName name → IsCount digits count → are_apart (library_lines name digits) ≡ true
lines_stand name digits count is number = rw (is.token, number.token) refl

packets : (name digits : List ℕ) (count : ℕ) → IsName name → bad_line None ((after_back name digits).section ∷ data_of name digits count ∷ []) ≡ None
packets name digits count is =
    rw (none_bad (after_back name digits).section.instructions (after_back_made name digits is).grown.alone, data_none_bad name digits count, none_bad [] tt) refl

pub library_found : (name digits : List ℕ) (count : ℕ) → IsName name → IsCount digits count → AreFound name digits
library_found name digits count is number = (text_read (library_lines name digits) (lines_apart (library_lines name digits) (lines_stand name digits count is number))).found

-- the object: the code, the counter, and their two names
pub library_assembled : (name digits : List ℕ) (count : ℕ) → IsName name → IsApart name → IsCount digits count → assembled (text name digits) ≡ Ok (file_of (text name digits) ((after_back name digits).section ∷ data_of name digits count ∷ []) (symbols_of name digits))
library_assembled name digits count is other number =
    text_assembled (section_line (codes ".text")) (library_behind name digits) (in_data (after_back name digits).section (data_of name digits count) (symbols_of name digits))
    (lines_apart (library_lines name digits) (lines_stand name digits count is number)) (all_taken name digits count (library_found name digits count is number) is other number) (packets name digits count is)
