-- The object of an executable, by the names that it calls.
use Rattle.std.proofs.Common.{◌≡◌, ℕ, zero, suc, ◌+◌, ◌*◌, ◌%◌, ◌<◌, ◌≤◌, ◌==◌, min, nat_le, true, false, List, [], ◌∷◌, ◌++◌, length, map, codes, refl, ap, ◌∙◌, subst, arith}
use Rattle.std.specs.Prelude.{count_by, slice_index}
use Rattle.std.specs.Int.{to_le_bytes, w32}
use Rattle.std.specs.List.{flat_map}
use Rattle.std.proofs.lemmas.Bool.{eqb-true, le-leb}
use Rattle.std.proofs.lemmas.List.{length-append, map-append}
use Rattle.c6x_elf.specs.EntryRows.{rela_rows, symbol_rows}
use Rattle.c6x_elf.specs.Names.{name_table}
use Rattle.c6x_asm_lines.specs.Bytes.{bytes_at}
use Rattle.c6x_asm_object.specs.Bindings.{binding, is_local}
use Rattle.c6x_asm_object.specs.Filing.{file_of, named_sections, named_strtab, named_symtab}
use Rattle.c6x_asm_object.specs.Headers.{section_header}
use Rattle.c6x_asm_object.specs.Relocations.{relocation}
use Rattle.c6x_asm_object.specs.FormSymbols.{entries, names_table, ordered, symbol_number, symbol_numbers, symbol_table}
use Rattle.c6x_asm_object.specs.declared.symbol.Symbol.{Symbol}
use Rattle.c6x_asm_object.specs.declared.instr_word.InstrWord.{InstrWord}
use Rattle.c6x_reloc.specs.Table.{row_of}
use Rattle.c6x_gen.specs.Lists.{each_below}
use Rattle.c6x_gen.specs.Sources.{app_source, calls}
use Rattle.c6x_gen.specs.Objects.{app_instructions, app_object, app_symbols, call_entries, call_entry, exported, instruction, start_of}
use Rattle.c6x_gen.specs.Words.{CALL, GO_BACK, POP_B3, PUSH_B3, WAIT}
use Rattle.c6x_gen.proofs.AppFile.{app_entries, app_file, callee_names, Contents}
use Rattle.c6x_gen.proofs.AppPasses.{call_relas}
use Rattle.c6x_gen.proofs.AppEntries.{call_rela}
use Rattle.c6x_gen.proofs.Below.{all_below, each_below_all}
use Rattle.c6x_gen.proofs.LinkedCallees.{all_other, callees, callees_imports, entries_are, names_found, none_local, opening_held}

-- how many libraries the lines name
abbrev pub named : ℕ → ℕ
named n = min (calls n) 11

abbrev pub names_in : ℕ → List (List ℕ)
names_in n = callee_names n (named n)

unfoldable pub contents : ℕ → Contents
contents n = record {
  size = 4 * length (app_instructions n);
  code = flat_map (λ (i : InstrWord). to_le_bytes w32 i.word) (app_instructions n);
  relas = rela_rows false (call_relas (calls n));
  locals = 1 + 1 + count_by is_local (app_symbols n);
}

abbrev with_start : ℕ → ℕ → List Symbol
with_start n count = exported 38 5 (start_of 1) ∷ callees n count

-- the numbers of the libraries' symbols, behind those of the null symbol, the section and the executable's function
numbered : (n : ℕ) → all_below 11 (λ before. all_below (before + 1) (λ place. slice_index (symbol_numbers 1 (with_start n (before + 1))) (1 + place) == 3 + place)) ≡ true
unfolding symbol_numbers symbol_number binding each_below
numbered n = refl

numbers_are : (n count place : ℕ) → 1 ≤ count → count ≤ 11 → place < count → slice_index (symbol_numbers 1 (with_start n count)) (1 + place) ≡ 3 + place
numbers_are n zero place least most below = absurd (omega (arith, least))
numbers_are n (suc before) place least most below =
    let is : before + 1 ≡ suc before = omega arith in
    let all = each_below_all 11 (λ b. all_below (b + 1) (λ k. slice_index (symbol_numbers 1 (with_start n (b + 1))) (1 + k) == 3 + k)) (numbered n) before (omega (arith, most)) in
    subst (λ k. slice_index (symbol_numbers 1 (with_start n k)) (1 + place) ≡ 3 + place) is
    (eqb-true (slice_index (symbol_numbers 1 (with_start n (before + 1))) (1 + place)) (3 + place)
    (each_below_all (before + 1) (λ k. slice_index (symbol_numbers 1 (with_start n (before + 1))) (1 + k) == 3 + k) all place (omega (arith, below))))

-- the relocations of the calls
relocation_is : (numbers : List ℕ) (line : ℕ) → slice_index numbers (1 + line % 11) ≡ 3 + line % 11 → relocation numbers (call_entry line) ≡ call_rela line (line % 11)
unfolding relocation row_of
relocation_is numbers line is = rw is refl

relocations_are : (numbers : List ℕ) (count : ℕ) → ((line : ℕ) → line < count → slice_index numbers (1 + line % 11) ≡ 3 + line % 11) → map (relocation numbers) (call_entries count) ≡ call_relas count
unfolding each_below
relocations_are numbers zero each = refl
relocations_are numbers (suc last) each =
    map-append (relocation numbers) (call_entries last) (call_entry last ∷ [])
    ∙ (ap (λ relas. relas ++ relocation numbers (call_entry last) ∷ []) (relocations_are numbers last (λ line below. each line (omega (arith, below))))
    ∙ ap (λ rela. call_relas last ++ rela ∷ []) (relocation_is numbers last (each last (omega arith))))

few_calls : (n : ℕ) → calls n ≤ 1000
few_calls n = omega arith

some_calls : (n : ℕ) → 1 ≤ calls n
some_calls n = omega arith

pub named_below : (n line : ℕ) → line < calls n → line % 11 < named n
named_below n line below = omega (arith, below)

relas_are : (n : ℕ) → map (relocation (symbol_numbers 1 (app_symbols n))) (call_entries (calls n)) ≡ call_relas (calls n)
relas_are n =
    let least : 1 ≤ named n = omega arith in
    let most : named n ≤ 11 = omega arith in
    relocations_are (symbol_numbers 1 (app_symbols n)) (calls n) (λ line below. numbers_are n (named n) (line % 11) least most (named_below n line below))

-- the symbols and their names
ordered_are : (n : ℕ) → ordered (app_symbols n) ≡ app_symbols n
unfolding ordered binding
ordered_are n =
    let are = callees_imports n (named n) in
    rw (none_local (callees n (named n)) are, all_other (callees n (named n)) are) refl

code_name : (n : ℕ) → bytes_at (app_source n) 15 5 ≡ codes ".text"
unfolding bytes_at
code_name n = opening_held n 15 5 (omega arith)

start_name : (n : ℕ) → bytes_at (app_source n) 38 5 ≡ codes "start"
unfolding bytes_at
start_name n = opening_held n 38 5 (omega arith)

named_calls : (n : ℕ) → named n ≤ calls n
named_calls n = omega arith

table_is : (n : ℕ) → symbol_table (app_source n) 1 (app_symbols n) ≡ symbol_rows false (app_entries (names_in n))
unfolding symbol_table entries binding
table_is n =
    rw (
      ordered_are n,
      start_name n,
      entries_are (app_source n) 7 (callees n (named n)) (callees_imports n (named n)),
      names_found n (named n) (named_calls n),
    ) refl

strings_are : (n : ℕ) → names_table (app_source n) (app_symbols n) ≡ name_table (codes "start" ∷ names_in n)
unfolding names_table
strings_are n = rw (ordered_are n, start_name n, names_found n (named n) (named_calls n)) refl

entry_count : (count : ℕ) → length (call_entries count) ≡ count
unfolding each_below
entry_count zero = refl
entry_count (suc last) = omega (arith, entry_count last, length-append (call_entries last) (call_entry last ∷ []))

has_calls : (n : ℕ) → nat_le 1 (length (call_entries (calls n))) ≡ true
has_calls n = le-leb 1 (length (call_entries (calls n))) (omega (arith, entry_count (calls n), some_calls n))

pub app_is : (n : ℕ) → app_object n ≡ app_file (contents n) (names_in n)
unfolding app_object file_of named_sections named_symtab named_strtab section_header contents app_file
app_is n = rw (code_name n, has_calls n, relas_are n, table_is n, strings_are n) refl

-- the words of the code
words_count : (count : ℕ) → length (each_below count (λ line. instruction (line + 4) CALL ∷ [])) ≡ count
unfolding each_below
words_count zero = refl
words_count (suc last) = omega (arith, words_count last, length-append (each_below last (λ line. instruction (line + 4) CALL ∷ [])) (instruction (last + 4) CALL ∷ []))

between : (called : List InstrWord) (a b c d : InstrWord) → length ((a ∷ called) ++ (b ∷ c ∷ d ∷ [])) ≡ length called + 4
between called a b c d = omega (arith, length-append called (b ∷ c ∷ d ∷ []))

pub instruction_count : (n : ℕ) → length (app_instructions n) ≡ calls n + 4
instruction_count n =
    between (each_below (calls n) (λ line. instruction (line + 4) CALL ∷ [])) (instruction 3 PUSH_B3) (instruction (calls n + 4) POP_B3) (instruction (calls n + 5) WAIT) (instruction (calls n + 6) GO_BACK)
    ∙ ap (λ k. k + 4) (words_count (calls n))

pub code_length : (instructions : List InstrWord) → length (flat_map (λ (i : InstrWord). to_le_bytes w32 i.word) instructions) ≡ 4 * length instructions
code_length [] = refl
code_length (i ∷ instructions) =
    omega (arith, code_length instructions, length-append (to_le_bytes w32 i.word) (flat_map (λ (i : InstrWord). to_le_bytes w32 i.word) instructions))
