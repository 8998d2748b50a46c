-- The object of the executable, by what stands in it.
use Rattle.std.proofs.Common.{◌≡◌, ℕ, suc, zero, ◌+◌, ◌*◌, ◌%◌, ◌≤◌, ◌<◌, min, List, [], ◌∷◌, ◌++◌, length, Some, None, inl, inr, refl, sym, ◌∙◌, ap, arith}
use Rattle.std.proofs.lemmas.Bool.{cases_lt}
use Rattle.std.proofs.lemmas.List.{append_assoc}
use Rattle.c6x_reloc.specs.declared.reloc_kind.RelocKind.TheVariants.{PCR_S21}
use Rattle.c6x_asm_lines.specs.Bytes.{bytes_at}
use Rattle.c6x_asm_object.specs.Sections.{empty_section, with_bytes, with_instruction, with_number, with_parallel}
use Rattle.c6x_asm_object.specs.Symbols.{fresh, interned}
use Rattle.c6x_asm_object.specs.declared.instr_word.InstrWord.{InstrWord}
use Rattle.c6x_asm_object.specs.declared.reloc_entry.RelocEntry.{RelocEntry}
use Rattle.c6x_asm_object.specs.declared.symbol.Symbol.{Symbol}
use Rattle.c6x_asm.specs.States.{relocated}
use Rattle.c6x_gen.specs.Lists.{each_below}
use Rattle.c6x_gen.specs.Sources.{called, calls, library_name}
use Rattle.c6x_gen.specs.Objects.{app_instructions, app_symbols, call_entries, call_instructions, call_symbols, callee, code_of, instruction}
use Rattle.c6x_gen.specs.Words.{CALL, GO_BACK, POP_B3, WAIT}
use Rattle.c6x_gen.proofs.App.{AreFound, call_place, called_so, popped, relocation_of, returned, text, waited}
use Rattle.c6x_gen.proofs.Callees.{callee_found, name_known, name_new, place_is}
use Rattle.c6x_gen.proofs.Grown.{Made, next}
use Rattle.c6x_gen.proofs.Pushed.{code_more, code_with, length_each}
use Rattle.c6x_gen.proofs.Steps.{called_word}

-- the code and the names behind so many calls
abbrev made_to : ℕ → ℕ → Made
made_to n count = record { section = code_of (call_instructions count) (call_entries count); names = call_symbols n count }

-- the relocation of a call, by the number of its symbol
abbrev entry_to : ℕ → ℕ → RelocEntry
entry_to offset number = record { offset = offset; kind = PCR_S21; symbol = Some number; addend = 0 }

-- the name that a call reads is the one that it has in the source
word_found : (n line : ℕ) → AreFound n → line < calls n → bytes_at (text n) (called_word (call_place n line) (library_name (called n line))).at (length (library_name (called n line))) ≡ library_name (called n line)
word_found n line found below = rw (place_is n line) (callee_found n line found below)

new_relocated : (n line offset : ℕ) → AreFound n → line < calls n → line < 11 → relocated (text n) (call_symbols n line) offset (Some (relocation_of n line)) ≡ (call_symbols n line ++ callee n line ∷ [], Some (entry_to offset (1 + line)))
unfolding relocated interned fresh
new_relocated n line offset found below first =
    let count : min line 11 ≡ line = omega (arith, first) in
    let number : length (call_symbols n line) ≡ 1 + line = rw count (omega (arith, length_each (callee n) line)) in
    rw (word_found n line found below, name_new n line found below first, place_is n line, number) refl

known_relocated : (n line offset : ℕ) → AreFound n → line < calls n → 11 ≤ line → relocated (text n) (call_symbols n line) offset (Some (relocation_of n line)) ≡ (call_symbols n line, Some (entry_to offset (1 + line % 11)))
unfolding relocated interned
known_relocated n line offset found below later = rw (word_found n line found below, name_known n line found below later) refl

-- the names behind a call
names_more : (n line : ℕ) → line < 11 → call_symbols n (suc line) ≡ call_symbols n line ++ callee n line ∷ []
unfolding each_below
names_more n line first =
    let before : min line 11 ≡ line = omega (arith, first) in
    let behind : min (suc line) 11 ≡ suc line = omega (arith, first) in
    rw (before, behind) refl

names_same : (n line : ℕ) → 11 ≤ line → call_symbols n (suc line) ≡ call_symbols n line
names_same n line later =
    let before : min line 11 ≡ 11 = omega (arith, later) in
    let behind : min (suc line) 11 ≡ 11 = omega (arith, later) in
    rw (before, behind) refl

-- the place of a call in the code
offset_is : (count : ℕ) → 4 * length (call_instructions count) ≡ 4 + 4 * count
offset_is count = omega (arith, length_each (λ line. instruction (line + 4) CALL) count)

section_more : (count : ℕ) → with_instruction (instruction (count + 4) CALL) (Some (entry_to (4 * length (call_instructions count)) (1 + count % 11))) (code_of (call_instructions count) (call_entries count)) ≡ code_of (call_instructions (suc count)) (call_entries (suc count))
unfolding each_below
section_more count =
    code_with (call_instructions count) (call_entries count) (count + 4) CALL (entry_to (4 * length (call_instructions count)) (1 + count % 11))
    ∙ ap (λ offset. code_of (call_instructions count ++ instruction (count + 4) CALL ∷ []) (call_entries count ++ entry_to offset (1 + count % 11) ∷ [])) (offset_is count)

next_is : (n count : ℕ) → AreFound n → count < calls n → next (text n) (count + 4) CALL (Some (relocation_of n count)) (made_to n count) ≡ made_to n (suc count)
next_is n count found below = elim (cases_lt count 11) [
  | inl first ↦
      let number : count % 11 ≡ count = omega (arith, first) in
      let section = ap (λ k. with_instruction (instruction (count + 4) CALL) (Some (entry_to (4 * length (call_instructions count)) (1 + k))) (code_of (call_instructions count) (call_entries count))) (sym number) ∙ section_more count in
      rw (new_relocated n count (4 * length (call_instructions count)) found below first, names_more n count first)
      (ap (λ p. record { section = p; names = call_symbols n count ++ callee n count ∷ [] }) section)
  | inr later ↦
      rw (known_relocated n count (4 * length (call_instructions count)) found below later, names_same n count later)
      (ap (λ p. record { section = p; names = call_symbols n count }) (section_more count))
]

begun_is : (n : ℕ) → called_so n zero ≡ made_to n zero
unfolding called_so each_below relocated empty_section with_instruction with_number with_bytes with_parallel
begun_is n = refl

called_is : (n count : ℕ) → AreFound n → count ≤ calls n → called_so n count ≡ made_to n count
unfolding called_so
called_is n zero found most = begun_is n
called_is n (suc last) found most =
    ap (λ made. next (text n) (last + 4) CALL (Some (relocation_of n last)) made) (called_is n last found (omega (arith, most)))
    ∙ next_is n last found (omega (arith, most))

-- one instruction that names nothing
plain_next : (n line word : ℕ) (instructions : List InstrWord) (entries : List RelocEntry) (names : List Symbol) → next (text n) line word None (record { section = code_of instructions entries; names = names }) ≡ record { section = code_of (instructions ++ instruction line word ∷ []) entries; names = names }
unfolding relocated
plain_next n line word instructions entries names = ap (λ p. record { section = p; names = names }) (code_more instructions entries line word)

three_more : (xs : List InstrWord) (a b c : InstrWord) → ((xs ++ a ∷ []) ++ b ∷ []) ++ c ∷ [] ≡ xs ++ (a ∷ b ∷ c ∷ [])
three_more xs a b c = append_assoc (xs ++ a ∷ []) (b ∷ []) (c ∷ []) ∙ append_assoc xs (a ∷ []) (b ∷ c ∷ [])

pub returned_is : (n : ℕ) → AreFound n → returned n ≡ record { section = code_of (app_instructions n) (call_entries (calls n)); names = app_symbols n }
unfolding returned waited popped
returned_is n found =
    let calling = call_instructions (calls n) in
    let pop = instruction (calls n + 4) POP_B3 in
    let wait = instruction (calls n + 5) WAIT in
    let entries = call_entries (calls n) in
    ap (λ made. next (text n) (calls n + 6) GO_BACK None (next (text n) (calls n + 5) WAIT None (next (text n) (calls n + 4) POP_B3 None made))) (called_is n (calls n) found (omega arith))
    ∙ (ap (λ made. next (text n) (calls n + 6) GO_BACK None (next (text n) (calls n + 5) WAIT None made)) (plain_next n (calls n + 4) POP_B3 calling entries (app_symbols n))
    ∙ (ap (λ made. next (text n) (calls n + 6) GO_BACK None made) (plain_next n (calls n + 5) WAIT (calling ++ pop ∷ []) entries (app_symbols n))
    ∙ (plain_next n (calls n + 6) GO_BACK ((calling ++ pop ∷ []) ++ wait ∷ []) entries (app_symbols n)
    ∙ ap (λ is. record { section = code_of is entries; names = app_symbols n }) (three_more calling pop wait (instruction (calls n + 6) GO_BACK)))))
