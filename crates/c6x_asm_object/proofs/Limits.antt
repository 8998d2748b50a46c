-- The sums over the sections of a text tell whether its object passes a limit.
use Rattle.std.proofs.Common.{◌≡◌, ℕ, suc, ◌+◌, ◌*◌, ◌==◌, ◌≤◌, ◌<◌, nat_lt, Bool, true, false, ◌||◌, cond, List, [], ◌∷◌, ◌++◌, map, length, length-append, codes, count_by, inl, inr, refl, sym, ap, ◌∙◌, arith}
use Rattle.std.specs.Prelude.{sum_by}
use Rattle.std.specs.List.{list_any}
use Rattle.std.proofs.lemmas.Bool.{cases_lt}
use Rattle.std.proofs.lemmas.Bool.Decides.{nat_tests}
use Rattle.std.proofs.lemmas.List.{length-map}
use Rattle.std.proofs.lemmas.List.Folds.{list_any-append}
use Rattle.c6x_base.specs.declared.limits.TheConstants.{MOST_FILE_BYTES, MOST_SECTIONS}
use Rattle.c6x_spec.specs.Rounded.{rounded}
use Rattle.c6x_elf.specs.Parts.{has_bytes}
use Rattle.c6x_elf.specs.Writing.{offset_end, offsets_end, written_size}
use Rattle.c6x_asm_object.specs.declared.asm_section.AsmSection.{AsmSection}
use Rattle.c6x_asm_object.specs.declared.symbol.Symbol.{Symbol}
use Rattle.c6x_asm_object.specs.Symbols.{names_total}
use Rattle.c6x_asm_object.specs.Bindings.{is_local}
use Rattle.c6x_asm_object.specs.Filing.{Named, file_of, named_section, named_relas, named_sections, named_shstrtab, named_strtab, named_symtab, names_of, sections_from, sections_of, symtab_of}
use Rattle.c6x_asm_object.specs.Headers.{null_section, table_section}
use Rattle.c6x_asm_object.specs.Limits.{is_large, is_long, passes_limit}
use Rattle.c6x_asm_object.specs.FormSymbols.{names_table, symbol_numbers, symbol_table}
use Rattle.c6x_asm_object.proofs.Lengths.{length-sections_from, length-symbol_table}
use Rattle.c6x_asm_object.specs.declared.summary.Summary.{Summary}
use Rattle.c6x_asm_object.specs.Places.{sections_end}
use Rattle.c6x_asm_object.specs.Passing.{has_long, name_bytes, passes, section_count, symbol_bytes, whole_size}
use Rattle.c6x_asm_object.specs.Sums.{clipped, is_heavy, is_past, names_of_section, rows_of_section, section_tables}
use Rattle.c6x_asm_object.proofs.NameLengths.{length-names_table}
use Rattle.c6x_asm_object.proofs.SectionLimits.{any_long, end_table, ends_all, ends_all-append, ends_named, ends_relas, length_relas, long_heavy, long_table, names_of-append, names_sections}
use Rattle.c6x_asm_object.proofs.Summaries.{Tells}

-- the sections of the file
long-sections_from : (at : ℕ) (named : List Named) → list_any is_long (sections_from at named) ≡ any_long named
unfolding is_long
long-sections_from at [] = refl
long-sections_from at (n ∷ named) = ap (λ b. is_long n.section || b) (long-sections_from (at + (length n.name + 1)) named)

end-sections_from : (from at : ℕ) (named : List Named) → offsets_end from (sections_from at named) ≡ ends_all from named
unfolding offset_end
end-sections_from from at [] = refl
end-sections_from from at (n ∷ named) = end-sections_from (offset_end from n.section) (at + (length n.name + 1)) named

-- with the null section
long_null : (named : List Named) → list_any is_long (null_section ∷ sections_from 1 named) ≡ any_long named
unfolding is_long null_section table_section
long_null named = long-sections_from 1 named

end_null : (named : List Named) → offsets_end 52 (null_section ∷ sections_from 1 named) ≡ ends_all 52 named
unfolding offset_end null_section table_section has_bytes
end_null named = end-sections_from 52 1 named

some_not_none : (n : ℕ) → (suc n == 0) ≡ false
some_not_none n = grind (arith, nat_tests)

-- whether numbers pass a limit
abbrev pasts : ℕ → Bool → ℕ → Bool
pasts count long end = nat_lt MOST_SECTIONS count || (long || nat_lt MOST_FILE_BYTES (rounded end 4 + 40 * count))

past_all : (none : Bool) (n count end at : ℕ) (long other : Bool) → none ≡ false → n ≡ count → long ≡ other → end ≡ at → (nat_lt MOST_SECTIONS n || (long || nat_lt MOST_FILE_BYTES (cond none end (rounded end 4 + 40 * n)))) ≡ pasts count other at
past_all none n count end at long other is counted same ends = rw (is, counted, same, ends) refl

-- the sections with their names
abbrev all_named : List ℕ → List AsmSection → List Symbol → List Named
all_named text sections symbols = named_sections text sections symbols ++ (named_shstrtab (named_sections text sections symbols) ∷ [])

large_past : (text : List ℕ) (sections : List AsmSection) (symbols : List Symbol) → is_large text sections symbols ≡ pasts (suc (length (all_named text sections symbols))) (any_long (all_named text sections symbols)) (ends_all 52 (all_named text sections symbols))
unfolding is_large passes_limit file_of sections_of written_size
large_past text sections symbols =
    let named = all_named text sections symbols in
    let listed = sections_from 1 named in
    past_all (suc (length listed) == 0) (suc (length listed)) (suc (length named)) (offsets_end 52 (null_section ∷ listed)) (ends_all 52 named)
    (list_any is_long (null_section ∷ listed)) (any_long named)
    (some_not_none (length listed)) (ap suc (length-sections_from 1 named)) (long_null named) (end_null named)

-- the tables
abbrev relas : List ℕ → List AsmSection → List Symbol → List Named
relas text sections symbols = named_relas text (symbol_numbers (length sections) symbols) (symtab_of sections) 1 sections

abbrev tables : List ℕ → List AsmSection → List Symbol → List Named
tables text sections symbols = named_symtab text sections symbols ∷ named_strtab text symbols ∷ []

stored_symtab : has_bytes 2 ≡ true
unfolding has_bytes
stored_symtab = refl

stored_strtab : has_bytes 3 ≡ true
unfolding has_bytes
stored_strtab = refl

end_symtab : (text : List ℕ) (sections : List AsmSection) (symbols : List Symbol) (at : ℕ) → offset_end at (named_symtab text sections symbols).section ≡ rounded at 4 + symbol_bytes (length sections) (length symbols)
unfolding named_symtab
end_symtab text sections symbols at =
    end_table at 2 (symtab_of sections + 1) (1 + length sections + count_by is_local symbols) 4 16 (symbol_table text (length sections) symbols) stored_symtab
    ∙ ap (λ n. rounded at 4 + n) (length-symbol_table text (length sections) symbols)

end_strtab : (text : List ℕ) (symbols : List Symbol) (at : ℕ) → offset_end at (named_strtab text symbols).section ≡ rounded at 1 + (1 + names_total text symbols)
unfolding named_strtab
end_strtab text symbols at =
    end_table at 3 0 0 1 0 (names_table text symbols) stored_strtab ∙ ap (λ n. rounded at 1 + n) (length-names_table text symbols)

long_symtab : (text : List ℕ) (sections : List AsmSection) (symbols : List Symbol) → is_long (named_symtab text sections symbols).section ≡ is_past (symbol_bytes (length sections) (length symbols))
unfolding named_symtab
long_symtab text sections symbols =
    long_table 2 (symtab_of sections + 1) (1 + length sections + count_by is_local symbols) 4 16 (symbol_table text (length sections) symbols)
    ∙ ap is_past (length-symbol_table text (length sections) symbols)

long_strtab : (text : List ℕ) (symbols : List Symbol) → is_long (named_strtab text symbols).section ≡ is_past (1 + names_total text symbols)
unfolding named_strtab
long_strtab text symbols = long_table 3 0 0 1 0 (names_table text symbols) ∙ ap is_past (length-names_table text symbols)

-- the names of the sections
abbrev name_list : List Named → List ℕ
name_list named = 0 ∷ (names_of named ++ (codes ".shstrtab" ++ (0 ∷ [])))

names_named : (text : List ℕ) (sections : List AsmSection) (symbols : List Symbol) → length (name_list (named_sections text sections symbols)) ≡ name_bytes (sum_by (names_of_section text) sections)
unfolding named_sections named_symtab named_strtab
names_named text sections symbols =
    let mapped = map (named_section text) sections in
    let both = relas text sections symbols ++ tables text sections symbols in
    omega (
      arith,
      length-append (names_of (mapped ++ both)) (codes ".shstrtab" ++ (0 ∷ [])),
      names_of-append mapped both,
      names_of-append (relas text sections symbols) (tables text sections symbols),
      names_sections text (symbol_numbers (length sections) symbols) (symtab_of sections) 1 sections,
    )

end_shstrtab : (named : List Named) (at size : ℕ) → length (name_list named) ≡ size → offset_end at (named_shstrtab named).section ≡ rounded at 1 + size
unfolding named_shstrtab
end_shstrtab named at size is = end_table at 3 0 0 1 0 (name_list named) stored_strtab ∙ ap (λ n. rounded at 1 + n) is

long_shstrtab : (named : List Named) (size : ℕ) → length (name_list named) ≡ size → is_long (named_shstrtab named).section ≡ is_past size
unfolding named_shstrtab
long_shstrtab named size is = long_table 3 0 0 1 0 (name_list named) ∙ ap is_past is

-- all of them
count_all : (text : List ℕ) (sections : List AsmSection) (symbols : List Symbol) → suc (length (all_named text sections symbols)) ≡ section_count (length sections) (sum_by section_tables sections)
unfolding named_sections
count_all text sections symbols =
    let mapped = map (named_section text) sections in
    let both = relas text sections symbols ++ tables text sections symbols in
    omega (
      arith,
      length-append (mapped ++ both) (named_shstrtab (mapped ++ both) ∷ []),
      length-append mapped both,
      length-append (relas text sections symbols) (tables text sections symbols),
      length-map sections (named_section text),
      length_relas text (symbol_numbers (length sections) symbols) (symtab_of sections) 1 sections,
    )

any_five : (a b heavy c d e s t u : Bool) → (a || b) ≡ heavy → c ≡ s → d ≡ t → e ≡ u → ((a || (b || (c || (d || false)))) || (e || false)) ≡ (heavy || (s || (t || u)))
any_five a b heavy c d e s t u one two three four = sym (rw (sym one, sym two, sym three, sym four) (flat a b c d e))
  where
    flat : (a b c d e : Bool) → ((a || b) || (c || (d || e))) ≡ ((a || (b || (c || (d || false)))) || (e || false))
    flat true b c d e = refl
    flat false true c d e = refl
    flat false false true d e = refl
    flat false false false true e = refl
    flat false false false false true = refl
    flat false false false false false = refl

split_sections : (text : List ℕ) (sections : List AsmSection) (symbols : List Symbol) → any_long (named_sections text sections symbols) ≡ (any_long (map (named_section text) sections) || (any_long (relas text sections symbols) || any_long (tables text sections symbols)))
unfolding named_sections
split_sections text sections symbols =
    list_any-append (λ n. is_long n.section) (map (named_section text) sections) (relas text sections symbols ++ tables text sections symbols)
    ∙ ap (λ b. any_long (map (named_section text) sections) || b) (list_any-append (λ n. is_long n.section) (relas text sections symbols) (tables text sections symbols))

long_all : (text : List ℕ) (sections : List AsmSection) (symbols : List Symbol) → any_long (all_named text sections symbols) ≡ (list_any is_heavy sections || (is_past (symbol_bytes (length sections) (length symbols)) || (is_past (1 + names_total text symbols) || is_past (name_bytes (sum_by (names_of_section text) sections)))))
long_all text sections symbols =
    let named = named_sections text sections symbols in
    list_any-append (λ n. is_long n.section) named (named_shstrtab named ∷ [])
    ∙ (ap (λ b. b || any_long (named_shstrtab named ∷ [])) (split_sections text sections symbols)
    ∙ any_five (any_long (map (named_section text) sections)) (any_long (relas text sections symbols)) (list_any is_heavy sections)
    (is_long (named_symtab text sections symbols).section) (is_long (named_strtab text symbols).section) (is_long (named_shstrtab named).section)
    (is_past (symbol_bytes (length sections) (length symbols))) (is_past (1 + names_total text symbols)) (is_past (name_bytes (sum_by (names_of_section text) sections)))
    (long_heavy text (symbol_numbers (length sections) symbols) (symtab_of sections) 1 sections) (long_symtab text sections symbols) (long_strtab text symbols)
    (long_shstrtab named (name_bytes (sum_by (names_of_section text) sections)) (names_named text sections symbols)))

-- the place behind all
abbrev last_end : ℕ → ℕ → ℕ → ℕ → ℕ → ℕ
last_end at rows symbols names header_names = rounded at 4 + rows + symbols + (1 + names) + header_names

end_chain : (a b c d e rows symbols names header_names : ℕ) → rounded b 4 ≡ rounded a 4 + rows → c ≡ rounded b 4 + symbols → d ≡ rounded c 1 + (1 + names) → e ≡ rounded d 1 + header_names → e ≡ last_end a rows symbols names header_names
end_chain a b c d e rows symbols names header_names one two three four = omega (arith, one, two, three, four)

ends_sections : (text : List ℕ) (sections : List AsmSection) (symbols : List Symbol) → ends_all 52 (named_sections text sections symbols) ≡ ends_all (ends_all (sections_end 52 sections) (relas text sections symbols)) (tables text sections symbols)
unfolding named_sections
ends_sections text sections symbols =
    ends_all-append 52 (map (named_section text) sections) (relas text sections symbols ++ tables text sections symbols)
    ∙ (ap (λ at. ends_all at (relas text sections symbols ++ tables text sections symbols)) (ends_named text 52 sections)
    ∙ ends_all-append (sections_end 52 sections) (relas text sections symbols) (tables text sections symbols))

end_all : (text : List ℕ) (sections : List AsmSection) (symbols : List Symbol) → ends_all 52 (all_named text sections symbols) ≡ last_end (sections_end 52 sections) (sum_by rows_of_section sections) (symbol_bytes (length sections) (length symbols)) (names_total text symbols) (name_bytes (sum_by (names_of_section text) sections))
end_all text sections symbols =
    let named = named_sections text sections symbols in
    let size = name_bytes (sum_by (names_of_section text) sections) in
    let behind = ends_all (sections_end 52 sections) (relas text sections symbols) in
    let third = offset_end behind (named_symtab text sections symbols).section in
    let fourth = offset_end third (named_strtab text symbols).section in
    ends_all-append 52 named (named_shstrtab named ∷ [])
    ∙ (ap (λ at. offset_end at (named_shstrtab named).section) (ends_sections text sections symbols)
    ∙ end_chain (sections_end 52 sections) behind third fourth (offset_end fourth (named_shstrtab named).section)
    (sum_by rows_of_section sections) (symbol_bytes (length sections) (length symbols)) (names_total text symbols) size
    (ends_relas text (symbol_numbers (length sections) symbols) (symtab_of sections) 1 (sections_end 52 sections) sections)
    (end_symtab text sections symbols behind) (end_strtab text symbols third) (end_shstrtab named fourth size (names_named text sections symbols)))

-- numbers that are far past each limit may be clipped
same_test : (limit m n : ℕ) → (limit < m → limit < n) → (limit < n → limit < m) → nat_lt limit m ≡ nat_lt limit n
same_test limit m n up down = elim (cases_lt limit m) [
  | inl past ↦ test_true limit m past ∙ sym (test_true limit n (up past))
  | inr within ↦ test_false limit m within ∙ sym (elim (cases_lt limit n) [
    | inl past ↦ absurd (omega (arith, within, down past))
    | inr less ↦ test_false limit n less
  ])
]
  where
    test_true : (a b : ℕ) → a < b → nat_lt a b ≡ true
    test_true a b less = grind (arith, nat_tests)

    test_false : (a b : ℕ) → b ≤ a → nat_lt a b ≡ false
    test_false a b less = grind (arith, nat_tests)

clipped_count : (n t : ℕ) → nat_lt MOST_SECTIONS (section_count n (clipped t)) ≡ nat_lt MOST_SECTIONS (section_count n t)
clipped_count n t = same_test MOST_SECTIONS (section_count n (clipped t)) (section_count n t) (λ past. omega (arith, past)) (λ past. omega (arith, past))

clipped_names : (q : ℕ) → is_past (name_bytes (clipped q)) ≡ is_past (name_bytes q)
unfolding is_past
clipped_names q = same_test 1048576 (name_bytes (clipped q)) (name_bytes q) (λ past. omega (arith, past)) (λ past. omega (arith, past))

clipped_size : (at sections symbols names t r q : ℕ) → nat_lt MOST_FILE_BYTES (rounded (last_end at (clipped r) (symbol_bytes sections symbols) names (name_bytes (clipped q))) 4 + 40 * section_count sections (clipped t)) ≡ nat_lt MOST_FILE_BYTES (rounded (last_end at r (symbol_bytes sections symbols) names (name_bytes q)) 4 + 40 * section_count sections t)
clipped_size at sections symbols names t r q =
    same_test MOST_FILE_BYTES (rounded (last_end at (clipped r) (symbol_bytes sections symbols) names (name_bytes (clipped q))) 4 + 40 * section_count sections (clipped t))
    (rounded (last_end at r (symbol_bytes sections symbols) names (name_bytes q)) 4 + 40 * section_count sections t)
    (λ past. omega (arith, past)) (λ past. omega (arith, past))

passes_told : (at sections symbols names t r q : ℕ) (heavy : Bool) (s : Summary) → s.heavy ≡ heavy → s.tables ≡ clipped t → s.rows ≡ clipped r → s.names ≡ clipped q → passes at sections symbols names s ≡ pasts (section_count sections t) (heavy || (is_past (symbol_bytes sections symbols) || (is_past (1 + names) || is_past (name_bytes q)))) (last_end at r (symbol_bytes sections symbols) names (name_bytes q))
unfolding passes
passes_told at sections symbols names t r q heavy s one two three four =
    rw (one, two, three, four, clipped_count sections t, clipped_names q, clipped_size at sections symbols names t r q) refl

pub large_told : (text : List ℕ) (sections : List AsmSection) (symbols : List Symbol) (s : Summary) → Tells text s sections → passes (sections_end 52 sections) (length sections) (length symbols) (names_total text symbols) s ≡ is_large text sections symbols
large_told text sections symbols s tells =
    passes_told (sections_end 52 sections) (length sections) (length symbols) (names_total text symbols) (sum_by section_tables sections) (sum_by rows_of_section sections) (sum_by (names_of_section text) sections) (list_any is_heavy sections) s tells.heavy tells.tables tells.rows tells.names
    ∙ sym (large_past text sections symbols ∙ past_sections (suc (length (all_named text sections symbols))) (section_count (length sections) (sum_by section_tables sections)) (any_long (all_named text sections symbols)) (list_any is_heavy sections || (is_past (symbol_bytes (length sections) (length symbols)) || (is_past (1 + names_total text symbols) || is_past (name_bytes (sum_by (names_of_section text) sections)))))
    (ends_all 52 (all_named text sections symbols)) (last_end (sections_end 52 sections) (sum_by rows_of_section sections) (symbol_bytes (length sections) (length symbols)) (names_total text symbols) (name_bytes (sum_by (names_of_section text) sections)))
    (count_all text sections symbols) (long_all text sections symbols) (end_all text sections symbols))
  where
    past_sections : (n count : ℕ) (long other : Bool) (end at : ℕ) → n ≡ count → long ≡ other → end ≡ at → pasts n long end ≡ pasts count other at
    past_sections n count long other end at first second third = rw (first, second, third) refl

-- sections that end past the limit
or_later : (a b c : Bool) → c ≡ true → (a || (b || c)) ≡ true
or_later true b c is = refl
or_later false true c is = refl
or_later false false c is = is

past_from : (m n : ℕ) → MOST_FILE_BYTES < m → m ≤ n → nat_lt MOST_FILE_BYTES n ≡ true
past_from m n past less = grind (arith, nat_tests)

passes_past : (at sections symbols names : ℕ) (s : Summary) → MOST_FILE_BYTES < at → passes at sections symbols names s ≡ true
unfolding passes
passes_past at sections symbols names s past =
    or_later (nat_lt MOST_SECTIONS (section_count sections s.tables)) (has_long sections symbols names s) (nat_lt MOST_FILE_BYTES (whole_size at sections symbols names s))
    (past_from at (whole_size at sections symbols names s) past (omega arith))

pub large_past_end : (text : List ℕ) (sections : List AsmSection) (symbols : List Symbol) (s : Summary) → Tells text s sections → MOST_FILE_BYTES < sections_end 52 sections → true ≡ is_large text sections symbols
large_past_end text sections symbols s tells past =
    sym (passes_past (sections_end 52 sections) (length sections) (length symbols) (names_total text symbols) s past) ∙ large_told text sections symbols s tells
