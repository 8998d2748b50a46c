-- The generated sources are bytes, and so are the objects that are assembled of them.
use Rattle.std.proofs.Common.{ℕ, zero, suc, ◌^◌, ◌<◌, List, [], ◌∷◌, ◌++◌, codes, refl, arith}
use Rattle.std.proofs.lemmas.List.Elements.{All-cons, All-nil}
use Rattle.std.specs.Int.{to_le_bytes, w32}
use Rattle.std.specs.List.{flat_map}
use Rattle.std.specs.Prelude.{decimal}
use Rattle.c6x_asm_object.specs.declared.instr_word.InstrWord.{InstrWord}
use Rattle.c6x_reloc.specs.FieldBits.{AreBytes}
use Rattle.c6x_link_loads.specs.Linkable.{IsOfBytes}
use Rattle.c6x_gen.specs.Lists.{each_below}
use Rattle.c6x_gen.specs.Sources.{app_source, call_line, called, calls, closing, counter, function_code, library_name, library_source, opening}
use Rattle.c6x_gen.specs.Objects.{app_instructions, app_object, app_sections, app_symbols, call_entries, code_of, counter_section, library_entries, library_instructions, library_object, library_sections, library_symbols}
use Rattle.c6x_gen.proofs.Bytes.{both_bytes, decimal_bytes, each_bytes, no_bytes, tested_bytes, word_are}
use Rattle.c6x_gen.proofs.Filing.{IsMadeOfBytes, file_of_bytes}

name_are : (library : ℕ) → library < 2 ^ 64 → AreBytes (library_name library)
name_are library small = both_bytes (codes "f") (decimal library) (tested_bytes (codes "f") refl) (decimal_bytes library small)

called_small : (number line : ℕ) → called number line < 2 ^ 64
called_small number line = omega arith

line_are : (number line : ℕ) → AreBytes (call_line number line)
line_are number line =
    let name = library_name (called number line) in
    both_bytes (codes "        CALLP .S2 " ++ name) (codes ",B3\n")
    (both_bytes (codes "        CALLP .S2 ") name (tested_bytes (codes "        CALLP .S2 ") refl) (name_are (called number line) (called_small number line)))
    (tested_bytes (codes ",B3\n") refl)

lines_are : (count : ℕ) (line : ℕ → List ℕ) → ((k : ℕ) → AreBytes (line k)) → AreBytes (each_below count line)
unfolding each_below
lines_are zero line are = no_bytes
lines_are (suc last) line are = both_bytes (each_below last line) (line last) (lines_are last line are) (are last)

app_text_are : (number : ℕ) → AreBytes (app_source number)
unfolding app_source
app_text_are number =
    let lines = each_below (calls number) (call_line number) in
    both_bytes (opening ++ lines) closing
    (both_bytes opening lines (tested_bytes opening refl) (lines_are (calls number) (call_line number) (line_are number))) (tested_bytes closing refl)

counter_small : (number library : ℕ) → counter number library < 2 ^ 64
counter_small number library = omega arith

-- a text around a name and a number
around : (front middle code end name digits : List ℕ) → AreBytes front → AreBytes middle → AreBytes code → AreBytes end → AreBytes name → AreBytes digits → AreBytes (front ++ name ++ middle ++ name ++ code ++ digits ++ end)
around front middle code end name digits f m c e n d =
    both_bytes (front ++ name ++ middle ++ name ++ code ++ digits) end
    (both_bytes (front ++ name ++ middle ++ name ++ code) digits
    (both_bytes (front ++ name ++ middle ++ name) code
    (both_bytes (front ++ name ++ middle) name (both_bytes (front ++ name) middle (both_bytes front name f n) m) n) c) d) e

library_text_are : (number library : ℕ) → library < 2 ^ 64 → AreBytes (library_source number library)
unfolding library_source
library_text_are number library small =
    let front = codes "        .sect \".text\"\n        .global " in
    around front (codes "\n") function_code (codes "\n") (library_name library) (decimal (counter number library))
    (tested_bytes front refl) (tested_bytes (codes "\n") refl) (tested_bytes function_code refl) (tested_bytes (codes "\n") refl)
    (name_are library small) (decimal_bytes (counter number library) (counter_small number library))

instructions_are : (instructions : List InstrWord) → AreBytes (flat_map (λ (i : InstrWord). to_le_bytes w32 i.word) instructions)
instructions_are instructions = each_bytes (λ (i : InstrWord). to_le_bytes w32 i.word) instructions (λ i. word_are i.word)

pub app_of_bytes : (number : ℕ) → IsOfBytes (app_object number)
unfolding app_object
app_of_bytes number =
    file_of_bytes (app_source number) (app_sections number) (app_symbols number) (app_text_are number)
    (All-cons IsMadeOfBytes (code_of (app_instructions number) (call_entries (calls number))) [] (instructions_are (app_instructions number)) (All-nil IsMadeOfBytes))

pub library_of_bytes : (number library : ℕ) → library < 2 ^ 64 → IsOfBytes (library_object number library)
unfolding library_object
library_of_bytes number library small =
    let name = library_name library in
    let count = counter number library in
    file_of_bytes (library_source number library) (library_sections name count) (library_symbols name) (library_text_are number library small)
    (All-cons IsMadeOfBytes (code_of library_instructions library_entries) (counter_section name count ∷ []) (instructions_are library_instructions)
    (All-cons IsMadeOfBytes (counter_section name count) [] (word_are count) (All-nil IsMadeOfBytes)))
