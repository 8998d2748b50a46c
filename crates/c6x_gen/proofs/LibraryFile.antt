-- The object of a library but for its counter.
use Rattle.std.proofs.Common.{◌≡◌, ℕ, ◌+◌, ◌*◌, ◌≤◌, List, ◌++◌, length, codes, refl, ap, ◌∙◌, arith}
use Rattle.std.specs.Prelude.{decimal}
use Rattle.std.proofs.lemmas.List.{append_assoc, length-append}
use Rattle.c6x_elf.specs.declared.file.File.{File}
use Rattle.c6x_asm_lines.specs.Bytes.{bytes_at}
use Rattle.c6x_asm_object.specs.Bindings.{binding}
use Rattle.c6x_asm_object.specs.Filing.{file_of, named_sections, named_shstrtab, named_strtab, named_symtab, sections_of}
use Rattle.c6x_asm_object.specs.Headers.{null_section, section_header, table_section}
use Rattle.c6x_asm_object.specs.FormSymbols.{entries, names_table, ordered, symbol_table}
use Rattle.c6x_gen.specs.Sources.{counter, function_code, library_name, library_source}
use Rattle.c6x_gen.specs.Objects.{library_object, library_sections, library_symbols}
use Rattle.c6x_gen.proofs.Prefixes.{in_front}

-- the text up to the counter's digits, where all names stand
abbrev front : List ℕ → List ℕ
front name = codes "        .sect \".text\"\n        .global " ++ name ++ codes "\n" ++ name ++ function_code

-- the object of a library with this name and this counter
unfoldable pub library_file : List ℕ → ℕ → File
library_file name count = file_of (front name) (library_sections name count) (library_symbols name)

-- A text is there for its names alone.
same_file : (text other name : List ℕ) (count : ℕ) → bytes_at text 15 5 ≡ bytes_at other 15 5 → bytes_at text (297 + 2 * length name) 9 ≡ bytes_at other (297 + 2 * length name) 9 → bytes_at text 38 (length name) ≡ bytes_at other 38 (length name) → bytes_at text (145 + 2 * length name) 5 ≡ bytes_at other (145 + 2 * length name) 5 → file_of text (library_sections name count) (library_symbols name) ≡ file_of other (library_sections name count) (library_symbols name)
unfolding file_of sections_of named_sections named_symtab named_strtab named_shstrtab symbol_table names_table entries ordered binding null_section section_header table_section
same_file text other name count code near function place = rw (code, near, function, place) refl

front_length : (name : List ℕ) → 306 + 2 * length name ≤ length (front name)
front_length name =
    let head = codes "        .sect \".text\"\n        .global " in
    omega (
      arith,
      length-append (head ++ name ++ codes "\n" ++ name) function_code,
      length-append (head ++ name ++ codes "\n") name,
      length-append (head ++ name) (codes "\n"),
      length-append head name,
    )

pub library_is : (number library : ℕ) → library_object number library ≡ library_file (library_name library) (counter number library)
unfolding library_object library_file library_source
library_is number library =
    let name = library_name library in
    let digits = decimal (counter number library) in
    let long = front_length name in
    let same = append_assoc (front name) digits (codes "\n") in
    let found : (at len : ℕ) → at + len ≤ length (front name) → bytes_at (front name ++ digits ++ codes "\n") at len ≡ bytes_at (front name) at len =
    λ at len within. ap (λ text. bytes_at text at len) same ∙ in_front (front name) (digits ++ codes "\n") at len within in
    same_file (front name ++ digits ++ codes "\n") (front name) name (counter number library)
    (found 15 5 (omega (arith, long))) (found (297 + 2 * length name) 9 (omega (arith, long)))
    (found 38 (length name) (omega (arith, long))) (found (145 + 2 * length name) 5 (omega (arith, long)))
