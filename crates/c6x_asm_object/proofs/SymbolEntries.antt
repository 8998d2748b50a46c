-- The entries of the symbol table break no rule.
use Rattle.std.proofs.Common.{◌≡◌, ℕ, zero, suc, ◌+◌, ◌*◌, ◌/◌, ◌^◌, ◌<◌, ◌≤◌, true, false, List, [], ◌∷◌, ◌++◌, None, Option, Some, length, map, refl, sym, ap, ◌∙◌, length-append, append_assoc, zero-add, subst, IfSome, inl, inr, arith}
use Rattle.c6x_asm_object.specs.Symbols.{symbol_name}
use Rattle.std.proofs.lemmas.Bool.Decides.{nat_tests}
use Rattle.std.specs.Prelude.{filter}
use Rattle.std.specs.List.{flat_map, range_with_len}
use Rattle.std.proofs.lemmas.Grind.{flat_map-append}
use Rattle.c6x_base.specs.declared.limits.TheConstants.{MOST_SECTIONS}
use Rattle.c6x_spec.specs.Numbers.{half_at, word_at}
use Rattle.c6x_elf.specs.Rules.{first_along, must}
use Rattle.c6x_elf.specs.ElfRules.{Index}
use Rattle.c6x_elf.specs.Types.{SectionHead, Symbol as Entry}
use Rattle.c6x_elf.specs.EntryRows.{symbol_row, symbol_rows}
use Rattle.c6x_elf.specs.Held.{Holds}
use Rattle.c6x_elf.specs.Names.{name_row, name_table}
use Rattle.c6x_elf.specs.Rows.{half_row, word_bytes, word_row}
use Rattle.c6x_elf.proofs.EntryRows.{length-symbol_row}
use Rattle.c6x_elf.proofs.NumberRows.{halves_held}
use Rattle.c6x_elf.proofs.Holdings.{holds_left, holds_right, holds_all}
use Rattle.c6x_elf.proofs.Passing.{must_is}
use Rattle.c6x_elf.specs.Entries.{is_section_number, name_refusal, symbol_refusal, symbols_refusal, text_of}
use Rattle.c6x_elf.specs.declared.section.Section.{Section}
use Rattle.c6x_elf.proofs.Moves.{both_none}
use Rattle.c6x_asm_object.specs.declared.definition.Definition.{Definition}
use Rattle.c6x_asm_object.specs.declared.symbol.Symbol.{Symbol}
use Rattle.c6x_asm_object.specs.Bindings.{is_local, is_other, definition_or_none}
use Rattle.c6x_asm_object.specs.Sound.{IsDefinitionSound, IsSymbolSound}
use Rattle.c6x_asm_object.specs.FormSymbols.{entries, name_entries, name_entry, names_table, null_entry, ordered, section_entries, section_entry, symbol_table}
use Rattle.c6x_asm_object.proofs.Lengths.{length-ordered, length-section_rows, length-symbol_table}
use Rattle.c6x_asm_object.proofs.Lists.{Each, each_append, each_filter, first_append}
use Rattle.c6x_asm_object.proofs.NameEnds.{HasName, name_held, name_passes}
use Rattle.c6x_asm_object.proofs.ReadBack.{word_read}

-- the name and the section number of an entry that is held
name_read : (table : List ℕ) (at : ℕ) (s : Entry) → s.name < 2 ^ 32 → Holds table at (symbol_row false s) → word_at false table at ≡ s.name
unfolding symbol_row
name_read table at s fits h =
    let words = word_row false (s.name ∷ s.value ∷ s.size ∷ []) in
    word_read table at s.name fits
    (holds_left table at (word_bytes false s.name) (word_row false (s.value ∷ s.size ∷ []))
    (holds_left table at words (s.info ∷ s.other ∷ half_row false (s.section ∷ [])) h))

place_read : (table : List ℕ) (at : ℕ) (s : Entry) → s.section < 2 ^ 16 → Holds table at (symbol_row false s) → half_at false table (at + 14) ≡ s.section
unfolding symbol_row word_bytes
place_read table at s fits h =
    let words = word_row false (s.name ∷ s.value ∷ s.size ∷ []) in
    let half = half_row false (s.section ∷ []) in
    let later : Holds table (at + 12) (s.info ∷ s.other ∷ half) = holds_right table at words (s.info ∷ s.other ∷ half) (at + 12) h refl in
    let last : Holds table (at + 14) half = holds_right table (at + 12) (s.info ∷ s.other ∷ []) half (at + 14) later (omega arith) in
    (halves_held false table at 14 (s.section ∷ []) (fits, tt) last).0

-- What an entry's name and section number keep, where there are so many sections.
record Passable (count : ℕ) (strings : List ℕ) (s : Entry) : Type 0 where
  named : HasName strings s.name
  place : is_section_number count s.section ≡ true
  fits : s.section < 2 ^ 16

entry_passes : (all : List Section) (head : SectionHead) (table strings : List ℕ) (k : ℕ) (s : Entry) → text_of all head.link ≡ strings → length strings < 2 ^ 32 → Holds table (16 * k) (symbol_row false s) → Passable (length all) strings s → symbol_refusal false all head table k ≡ None
unfolding symbol_refusal
entry_passes all head table strings k s linked few h passable =
    let below : s.name < length strings = passable.named.below in
    let reads : word_at false table (16 * k) ≡ s.name = name_read table (16 * k) s (omega arith) h in
    let section_is : half_at false table (16 * k + 14) ≡ s.section = place_read table (16 * k) s passable.fits h in
    both_none (name_refusal (text_of all head.link) (word_at false table (16 * k)) (head.offset + 16 * k))
    (must (is_section_number (length all) (half_at false table (16 * k + 14))) Index (head.offset + 16 * k + 14))
    (ap (λ xs. name_refusal xs (word_at false table (16 * k)) (head.offset + 16 * k)) linked
    ∙ ap (λ n. name_refusal strings n (head.offset + 16 * k)) reads
    ∙ name_passes strings s.name (head.offset + 16 * k) passable.named)
    (must_is (is_section_number (length all) (half_at false table (16 * k + 14))) Index (head.offset + 16 * k + 14)
    (ap (is_section_number (length all)) section_is ∙ passable.place))

number_below : (count number : ℕ) → number < count → is_section_number count number ≡ true
unfolding is_section_number
number_below count number below = grind (arith, nat_tests)

number_reserved : (count number : ℕ) → 65280 ≤ number → is_section_number count number ≡ true
unfolding is_section_number
number_reserved count number above = grind (arith, nat_tests)

-- the symbols of the sections
sections_along : (all : List Section) (head : SectionHead) (table strings : List ℕ) (k number count : ℕ) → text_of all head.link ≡ strings → length strings < 2 ^ 32 → HasName strings 0 → number + count ≤ length all → length all ≤ MOST_SECTIONS → Holds table (16 * k) (symbol_rows false (section_entries number count)) → first_along (symbol_refusal false all head table) (range_with_len k count) ≡ None
sections_along all head table strings k number zero linked few has within most h = refl
sections_along all head table strings k number (suc count) linked few has within most h =
    let row = symbol_row false (section_entry number) in
    let rows = symbol_rows false (section_entries (number + 1) count) in
    both_none (symbol_refusal false all head table k) (first_along (symbol_refusal false all head table) (range_with_len (k + 1) count))
    (entry_passes all head table strings k (section_entry number) linked few (holds_left table (16 * k) row rows h)
    (record { named = has; place = number_below (length all) number (omega arith); fits = omega arith }))
    (sections_along all head table strings (k + 1) (number + 1) count linked few has (omega arith) most
    (holds_right table (16 * k) row rows (16 * (k + 1)) h (omega (arith, length-symbol_row false (section_entry number)))))

-- a sound place
spot_number : (sections count : ℕ) (definition : Definition) → sections < count → count ≤ MOST_SECTIONS → IsDefinitionSound sections definition → (is_section_number count definition.section ≡ true) × (definition.section < 2 ^ 16)
spot_number sections count definition below most (inl few) = (number_below count definition.section (omega arith), omega arith)
spot_number sections count definition below most (inr reserved) =
    (number_reserved count definition.section reserved.0, reserved.1)

pub option_number : (sections count : ℕ) (definition : Option Definition) → sections < count → count ≤ MOST_SECTIONS → IfSome definition (IsDefinitionSound sections) → (is_section_number count (definition_or_none definition).section ≡ true) × ((definition_or_none definition).section < 2 ^ 16)
option_number sections count None below most sound = (number_below count 0 (omega arith), omega arith)
option_number sections count (Some definition) below most sound = spot_number sections count definition below most sound

-- the symbols of names
symbols_along : (all : List Section) (head : SectionHead) (table strings text : List ℕ) (k at sections : ℕ) (symbols : List Symbol) → text_of all head.link ≡ strings → length strings < 2 ^ 32 → sections < length all → length all ≤ MOST_SECTIONS → Each (IsSymbolSound sections) symbols → Holds strings at (flat_map name_row (map (symbol_name text) symbols)) → Holds table (16 * k) (symbol_rows false (name_entries text at symbols)) → first_along (symbol_refusal false all head table) (range_with_len k (length symbols)) ≡ None
symbols_along all head table strings text k at sections [] linked few below most sound names h = refl
symbols_along all head table strings text k at sections (s ∷ symbols) linked few below most sound names h =
    let name = symbol_name text s in
    let spot = option_number sections (length all) s.definition below most sound.0.place in
    let next = at + (length name + 1) in
    let entry = name_entry at s in
    let row = symbol_row false entry in
    let rows = symbol_rows false (name_entries text next symbols) in
    let others = flat_map name_row (map (symbol_name text) symbols) in
    let ends : at + length (name ++ (0 ∷ [])) ≡ next = ap (λ n. at + n) (length-append name (0 ∷ [])) in
    let P : List ℕ → Type 0 = λ xs. Holds strings at xs in
    let here : Holds strings at (name ++ (0 ∷ others)) = subst P (append_assoc name (0 ∷ []) others) names in
    both_none (symbol_refusal false all head table k) (first_along (symbol_refusal false all head table) (range_with_len (k + 1) (length symbols)))
    (entry_passes all head table strings k entry linked few (holds_left table (16 * k) row rows h)
    (record {
      named = name_held strings at name others here;
      place = spot.0;
      fits = spot.1;
    }))
    (symbols_along all head table strings text (k + 1) next sections symbols linked few below most sound.1
    (holds_right strings at (name ++ (0 ∷ [])) others next names ends)
    (holds_right table (16 * k) row rows (16 * (k + 1)) h (omega (arith, length-symbol_row false entry))))

ordered_sound : (sections : ℕ) (symbols : List Symbol) → Each (IsSymbolSound sections) symbols → Each (IsSymbolSound sections) (ordered symbols)
unfolding ordered
ordered_sound sections symbols sound =
    each_append (IsSymbolSound sections) (filter is_local symbols) (filter is_other symbols)
    (each_filter (IsSymbolSound sections) is_local symbols sound) (each_filter (IsSymbolSound sections) is_other symbols sound)

-- the table of the names, and that of the symbols, as a whole
table_along : (all : List Section) (head : SectionHead) (table text : List ℕ) (sections : ℕ) (symbols : List Symbol) → text_of all head.link ≡ names_table text symbols → length (names_table text symbols) < 2 ^ 32 → sections < length all → length all ≤ MOST_SECTIONS → Each (IsSymbolSound sections) symbols → table ≡ symbol_table text sections symbols → first_along (symbol_refusal false all head table) (range_with_len 0 (1 + sections + length symbols)) ≡ None
unfolding symbol_table entries names_table name_table
table_along all head table text sections symbols linked few below most sound is =
    let others = flat_map name_row (map (symbol_name text) (ordered symbols)) in
    let strings = 0 ∷ others in
    let rows = symbol_rows false (name_entries text 1 (ordered symbols)) in
    let marks = symbol_rows false (section_entries 1 sections) in
    let row = symbol_row false null_entry in
    let parts : symbol_rows false (section_entries 1 sections ++ name_entries text 1 (ordered symbols)) ≡ marks ++ rows =
    flat_map-append (symbol_row false) (section_entries 1 sections) (name_entries text 1 (ordered symbols)) in
    let test = symbol_refusal false all head table in
    let all_names : Holds strings 0 strings = holds_all strings in
    let has : HasName strings 0 = name_held strings 0 [] others all_names in
    let names : Holds strings 1 others = holds_right strings 0 (0 ∷ []) others 1 all_names refl in
    let P : List ℕ → Type 0 = λ xs. Holds table 0 xs in
    let whole : Holds table 0 (row ++ (marks ++ rows)) = subst P (is ∙ ap (λ xs. row ++ xs) parts) (holds_all table) in
    let later : Holds table 16 (marks ++ rows) = holds_right table 0 row (marks ++ rows) 16 whole (omega (arith, length-symbol_row false null_entry)) in
    let last : Holds table (16 * (1 + sections)) rows = holds_right table 16 marks rows (16 * (1 + sections)) later (omega (arith, length-section_rows 1 sections)) in
    let first : first_along test (range_with_len 0 1) ≡ None =
    both_none (test 0) None
    (entry_passes all head table strings 0 null_entry linked few (holds_left table 0 row (marks ++ rows) whole)
    (record { named = has; place = number_below (length all) 0 (omega arith); fits = omega arith })) refl in
    let second : first_along test (range_with_len (0 + 1) sections) ≡ None =
    sections_along all head table strings 1 1 sections linked few has (omega arith) most (holds_left table 16 marks rows later) in
    let third : first_along test (range_with_len (0 + (1 + sections)) (length (ordered symbols))) ≡ None =
    subst (λ (k : ℕ). first_along test (range_with_len k (length (ordered symbols))) ≡ None) (sym (zero-add (1 + sections)))
    (symbols_along all head table strings text (1 + sections) 1 sections (ordered symbols) linked few below most (ordered_sound sections symbols sound) names last) in
    subst (λ (n : ℕ). first_along test (range_with_len 0 (1 + sections + n)) ≡ None) (length-ordered symbols)
    (first_append test 0 (1 + sections) (length (ordered symbols)) (first_append test 0 1 sections first second) third)

sixteenth : (n : ℕ) → 16 * n / 16 ≡ n
sixteenth n = omega arith

pub symbol_table_passes : (all : List Section) (head : SectionHead) (text : List ℕ) (sections : ℕ) (symbols : List Symbol) → text_of all head.link ≡ names_table text symbols → length (names_table text symbols) < 2 ^ 32 → sections < length all → length all ≤ MOST_SECTIONS → Each (IsSymbolSound sections) symbols → symbols_refusal false all head (symbol_table text sections symbols) ≡ None
unfolding symbols_refusal
symbol_table_passes all head text sections symbols linked few below most sound =
    let table = symbol_table text sections symbols in
    let count : length table / 16 ≡ 1 + sections + length symbols =
    ap (λ n. n / 16) (length-symbol_table text sections symbols) ∙ sixteenth (1 + sections + length symbols) in
    subst (λ (n : ℕ). first_along (symbol_refusal false all head table) (range_with_len 0 n) ≡ None) (sym count)
    (table_along all head table text sections symbols linked few below most sound refl)
