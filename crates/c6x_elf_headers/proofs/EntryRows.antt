-- Entries read back from the bytes that spell them.
use Rattle.std.proofs.Common.{◌≡◌, ℕ, ℤ, zero, suc, ◌+◌, ◌*◌, ◌/◌, ◌^◌, ◌<◌, ◌≤◌, Bool, true, false, cond, List, [], ◌∷◌, ◌++◌, None, Some, length, map, nat_le, refl, sym, ap, ◌∙◌, subst, append_assoc, add-zero, zero-add, length-append, FitsSigned, arith}
use Rattle.std.proofs.lemmas.Bool.Decides.{nat_tests}
use Rattle.std.proofs.lemmas.Int.{ints, to_z-of_z}
use Rattle.std.specs.Prelude.{All}
use Rattle.std.specs.Int.{cast_signed, cast_unsigned, w32}
use Rattle.std.specs.List.{flat_map, range_with_len, slice_get}
use Rattle.std.proofs.lemmas.List.FromFn.{get_or-map-range_with_len, length-map-range_with_len, map-range_with_len_more}
use Rattle.std.proofs.lemmas.Option.{slice_get-get_or, slice_get_past}
use Rattle.c6x_spec.specs.Numbers.{word_at}
use Rattle.c6x_elf_headers.specs.Entries.{dynamic_at, dynamic_entries, dynamic_of, rela_at, rela_entries, rela_of, symbol_at, symbol_entries, symbol_of}
use Rattle.c6x_elf_headers.specs.EntryRows.{DynFits, RelaFits, SymbolFits, dynamic_row, dynamic_rows, rela_row, rela_rows, symbol_row, symbol_rows}
use Rattle.c6x_elf_headers.specs.Held.{Holds}
use Rattle.c6x_elf_headers.specs.Rows.{AreWords, SpellsHalves, SpellsWords, half_row, word_row}
use Rattle.c6x_elf_headers.specs.declared.dyn_entry.Dyn.{Dyn}
use Rattle.c6x_elf_headers.specs.declared.rela_entry.Rela.{Rela}
use Rattle.c6x_elf_headers.specs.declared.symbol_entry.Symbol.{Symbol}
use Rattle.c6x_elf_headers.proofs.Holdings.{holds_all, holds_behind, holds_byte, holds_left, holds_right, holds_within}
use Rattle.c6x_elf_headers.proofs.NumberRows.{halves_held, length-half_row, length-word_row, words_held}

-- a symbol behind the bytes so far, one number at a time
pub symbol_put : (big : Bool) (old : List ℕ) (s : Symbol) → ((old ++ word_row big (s.name ∷ s.value ∷ s.size ∷ [])) ++ (s.info ∷ s.other ∷ [])) ++ half_row big (s.section ∷ []) ≡ old ++ symbol_row big s
unfolding symbol_row
symbol_put big old s =
    append_assoc (old ++ word_row big (s.name ∷ s.value ∷ s.size ∷ [])) (s.info ∷ s.other ∷ []) (half_row big (s.section ∷ []))
    ∙ append_assoc old (word_row big (s.name ∷ s.value ∷ s.size ∷ [])) (s.info ∷ s.other ∷ half_row big (s.section ∷ []))

-- how long an entry is
pub length-symbol_row : (big : Bool) (s : Symbol) → length (symbol_row big s) ≡ 16
unfolding symbol_row
length-symbol_row big s =
    let back = s.info ∷ s.other ∷ half_row big (s.section ∷ []) in
    omega (
      arith,
      length-append (word_row big (s.name ∷ s.value ∷ s.size ∷ [])) back,
      length-word_row big (s.name ∷ s.value ∷ s.size ∷ []),
      length-half_row big (s.section ∷ []),
    )

pub length-rela_row : (big : Bool) (r : Rela) → length (rela_row big r) ≡ 12
unfolding rela_row
length-rela_row big r = length-word_row big (r.offset ∷ r.info ∷ cast_unsigned w32 r.addend ∷ [])

pub length-dynamic_row : (big : Bool) (d : Dyn) → length (dynamic_row big d) ≡ 8
unfolding dynamic_row
length-dynamic_row big d = length-word_row big (d.tag ∷ d.value ∷ [])

-- words held at a place itself
words_at : (big : Bool) (bytes : List ℕ) (at : ℕ) (ns : List ℕ) → AreWords ns → Holds bytes at (word_row big ns) → SpellsWords big bytes at 0 ns
words_at big bytes at ns fit h =
    let P : ℕ → Type 0 = λ place. Holds bytes place (word_row big ns) in
    words_held big bytes at 0 ns fit (subst P (sym (add-zero at)) h)

first_word : (big : Bool) (bytes : List ℕ) (at n : ℕ) → word_at big bytes (at + 0) ≡ n → word_at big bytes at ≡ n
first_word big bytes at n is = ap (word_at big bytes) (sym (add-zero at)) ∙ is

-- a held entry is read
pub symbol_read : (big : Bool) (bytes : List ℕ) (number : ℕ) (s : Symbol) → Holds bytes (16 * number) (symbol_row big s) → SymbolFits s → symbol_at big bytes number ≡ s
unfolding symbol_row symbol_at
symbol_read big bytes number s h fits =
    let at = 16 * number in
    let front = s.name ∷ s.value ∷ s.size ∷ [] in
    let last = half_row big (s.section ∷ []) in
    let w : SpellsWords big bytes (16 * number) 0 (s.name ∷ s.value ∷ s.size ∷ []) =
    words_at big bytes at front (fits.name, (fits.value, (fits.size, tt))) (holds_left bytes at (word_row big front) (s.info ∷ s.other ∷ last) h) in
    let later : Holds bytes (16 * number + 12) (s.info ∷ s.other ∷ half_row big (s.section ∷ [])) =
    holds_right bytes at (word_row big front) (s.info ∷ s.other ∷ last) (at + 12) h (omega (arith, length-word_row big front)) in
    let half : Holds bytes (16 * number + 14) (half_row big (s.section ∷ [])) =
    holds_right bytes (at + 12) (s.info ∷ s.other ∷ []) last (at + 14) later (omega arith) in
    let v : SpellsHalves big bytes (16 * number) 14 (s.section ∷ []) = halves_held big bytes at 14 (s.section ∷ []) (fits.section, tt) half in
    let name = first_word big bytes at s.name w.0 in
    let info = holds_byte bytes (at + 12) (s.info ∷ s.other ∷ last) 0 (at + 12) later (omega arith) (add-zero (at + 12)) in
    let other = holds_byte bytes (at + 12) (s.info ∷ s.other ∷ last) 1 (at + 13) later (omega arith) (omega arith) in
    λ i. record { name = name i; value = w.1.0 i; size = w.1.1.0 i; info = info i; other = other i; section = v.0 i }

unsigned_below : (z : ℤ) → FitsSigned w32 z → cast_unsigned w32 z < 2 ^ 32
unsigned_below z fits = omega (arith, ints)

pub rela_read : (big : Bool) (bytes : List ℕ) (number : ℕ) (r : Rela) → Holds bytes (12 * number) (rela_row big r) → RelaFits r → rela_at big bytes number ≡ r
unfolding rela_row rela_at
rela_read big bytes number r h fits =
    let words = r.offset ∷ r.info ∷ cast_unsigned w32 r.addend ∷ [] in
    let w : SpellsWords big bytes (12 * number) 0 (r.offset ∷ r.info ∷ cast_unsigned w32 r.addend ∷ []) =
    words_at big bytes (12 * number) words (fits.offset, (fits.info, (unsigned_below r.addend fits.addend, tt))) h in
    let offset = first_word big bytes (12 * number) r.offset w.0 in
    let addend = ap (cast_signed w32) w.1.1.0 ∙ to_z-of_z w32 r.addend fits.addend in
    λ i. record { offset = offset i; info = w.1.0 i; addend = addend i }

pub dynamic_read : (big : Bool) (bytes : List ℕ) (number : ℕ) (d : Dyn) → Holds bytes (8 * number) (dynamic_row big d) → DynFits d → dynamic_at big bytes number ≡ d
unfolding dynamic_row dynamic_at
dynamic_read big bytes number d h fits =
    let w : SpellsWords big bytes (8 * number) 0 (d.tag ∷ d.value ∷ []) =
    words_at big bytes (8 * number) (d.tag ∷ d.value ∷ []) (fits.tag, (fits.value, tt)) h in
    let tag = first_word big bytes (8 * number) d.tag w.0 in
    λ i. record { tag = tag i; value = w.1.0 i }

-- an entry put behind others is read
inside : (bytes : List ℕ) (at size : ℕ) → at + size ≤ length bytes → nat_le (at + size) (length bytes) ≡ true
inside bytes at size within = grind (arith, nat_tests)

pub symbol_behind : (big : Bool) (old new : List ℕ) (number : ℕ) (s : Symbol) → new ≡ old ++ symbol_row big s → length old ≡ 16 * number → SymbolFits s → symbol_of big new number ≡ Some s
symbol_behind big old new number s is place fits =
    let h = holds_behind old (symbol_row big s) new (16 * number) is place in
    let within = holds_within new (16 * number) (symbol_row big s) h in
    rw (inside new (16 * number) 16 (omega (arith, length-symbol_row big s))) (ap Some (symbol_read big new number s h fits))

pub rela_behind : (big : Bool) (old new : List ℕ) (number : ℕ) (r : Rela) → new ≡ old ++ rela_row big r → length old ≡ 12 * number → RelaFits r → rela_of big new number ≡ Some r
rela_behind big old new number r is place fits =
    let h = holds_behind old (rela_row big r) new (12 * number) is place in
    let within = holds_within new (12 * number) (rela_row big r) h in
    rw (inside new (12 * number) 12 (omega (arith, length-rela_row big r))) (ap Some (rela_read big new number r h fits))

pub dynamic_behind : (big : Bool) (old new : List ℕ) (number : ℕ) (d : Dyn) → new ≡ old ++ dynamic_row big d → length old ≡ 8 * number → DynFits d → dynamic_of big new number ≡ Some d
dynamic_behind big old new number d is place fits =
    let h = holds_behind old (dynamic_row big d) new (8 * number) is place in
    let within = holds_within new (8 * number) (dynamic_row big d) h in
    rw (inside new (8 * number) 8 (omega (arith, length-dynamic_row big d))) (ap Some (dynamic_read big new number d h fits))

-- the entries of a table are its list
listed : {A : Type 0} (f : ℕ → A) (n number : ℕ) (t : Bool) → (t ≡ true → number < n) → (t ≡ false → n ≤ number) → slice_get (map f (range_with_len 0 n)) number ≡ cond t (Some (f number)) None
listed f n number true below past =
    let less : number < n = below refl in
    let len = length-map-range_with_len f 0 n in
    slice_get-get_or (map f (range_with_len 0 n)) number (f 0) (omega arith)
    ∙ ap Some (get_or-map-range_with_len f 0 n number number (f 0) less (zero-add number))
listed f n number false below past =
    let least : n ≤ number = past refl in
    let len = length-map-range_with_len f 0 n in
    slice_get_past (map f (range_with_len 0 n)) number (omega arith)

pub symbols_more : (big : Bool) (table : List ℕ) (number : ℕ) → map (symbol_at big table) (range_with_len 0 (number + 1)) ≡ map (symbol_at big table) (range_with_len 0 number) ++ symbol_at big table number ∷ []
symbols_more big table number = map-range_with_len_more (symbol_at big table) 0 number number (zero-add number)

pub relas_more : (big : Bool) (table : List ℕ) (number : ℕ) → map (rela_at big table) (range_with_len 0 (number + 1)) ≡ map (rela_at big table) (range_with_len 0 number) ++ rela_at big table number ∷ []
relas_more big table number = map-range_with_len_more (rela_at big table) 0 number number (zero-add number)

pub symbol_listed : (big : Bool) (table : List ℕ) (number : ℕ) → slice_get (symbol_entries big table) number ≡ symbol_of big table number
unfolding symbol_entries
symbol_listed big table number =
    listed (symbol_at big table) (length table / 16) number (nat_le (16 * number + 16) (length table))
    (λ is. grind (arith, nat_tests)) (λ is. grind (arith, nat_tests))

pub rela_listed : (big : Bool) (table : List ℕ) (number : ℕ) → slice_get (rela_entries big table) number ≡ rela_of big table number
unfolding rela_entries
rela_listed big table number =
    listed (rela_at big table) (length table / 12) number (nat_le (12 * number + 12) (length table))
    (λ is. grind (arith, nat_tests)) (λ is. grind (arith, nat_tests))

pub dynamic_listed : (big : Bool) (table : List ℕ) (number : ℕ) → slice_get (dynamic_entries big table) number ≡ dynamic_of big table number
unfolding dynamic_entries
dynamic_listed big table number =
    listed (dynamic_at big table) (length table / 8) number (nat_le (8 * number + 8) (length table))
    (λ is. grind (arith, nat_tests)) (λ is. grind (arith, nat_tests))

-- a list of entries of one width is read back from its bytes
all_first : {A : Type 0} (P : A → Type 0) (x : A) (xs : List A) → All P (x ∷ xs) → P x
all_first P x xs all = all zero x (omega arith)

all_later : {A : Type 0} (P : A → Type 0) (x : A) (xs : List A) → All P (x ∷ xs) → All P xs
all_later P x xs all = λ k d below. all (suc k) d (omega arith)

rows_read : {A : Type 0} (Fits : A → Type 0) (width : ℕ) (row : A → List ℕ) (at : ℕ → A) (bytes : List ℕ) (k : ℕ) (xs : List A) → ((x : A) → length (row x) ≡ width) → ((x : A) (n : ℕ) → Holds bytes (width * n) (row x) → Fits x → at n ≡ x) → Holds bytes (width * k) (flat_map row xs) → All Fits xs → map at (range_with_len k (length xs)) ≡ xs
rows_read Fits width row at bytes k [] size reads h fits = refl
rows_read Fits width row at bytes k (x ∷ xs) size reads h fits =
    let first : at k ≡ x = reads x k (holds_left bytes (width * k) (row x) (flat_map row xs) h) (all_first Fits x xs fits) in
    let place : width * k + length (row x) ≡ width * (k + 1) = omega (arith, size x) in
    let rest : map at (range_with_len (k + 1) (length xs)) ≡ xs =
    rows_read Fits width row at bytes (k + 1) xs size reads
    (holds_right bytes (width * k) (row x) (flat_map row xs) (width * (k + 1)) h place) (all_later Fits x xs fits) in
    cc

rows_length : {A : Type 0} (width : ℕ) (row : A → List ℕ) (xs : List A) → ((x : A) → length (row x) ≡ width) → length (flat_map row xs) ≡ width * length xs
rows_length width row [] size = omega arith
rows_length width row (x ∷ xs) size = omega (arith, length-append (row x) (flat_map row xs), size x, rows_length width row xs size)

pub length-symbol_rows : (big : Bool) (symbols : List Symbol) → length (symbol_rows big symbols) ≡ 16 * length symbols
length-symbol_rows big symbols = rows_length 16 (symbol_row big) symbols (length-symbol_row big)

pub length-rela_rows : (big : Bool) (relas : List Rela) → length (rela_rows big relas) ≡ 12 * length relas
length-rela_rows big relas = rows_length 12 (rela_row big) relas (length-rela_row big)

pub length-dynamic_rows : (big : Bool) (entries : List Dyn) → length (dynamic_rows big entries) ≡ 8 * length entries
length-dynamic_rows big entries = rows_length 8 (dynamic_row big) entries (length-dynamic_row big)

-- from the start of a table
from_start : (width : ℕ) (bytes : List ℕ) → Holds bytes (width * 0) bytes
from_start width bytes =
    let P : ℕ → Type 0 = λ at. Holds bytes at bytes in
    let zero_is : 0 ≡ width * 0 = omega arith in
    subst P zero_is (holds_all bytes)

pub symbols_back : (big : Bool) (symbols : List Symbol) → All SymbolFits symbols → symbol_entries big (symbol_rows big symbols) ≡ symbols
unfolding symbol_entries
symbols_back big symbols fits =
    let bytes = symbol_rows big symbols in
    let count : length bytes / 16 ≡ length symbols = omega (arith, length-symbol_rows big symbols) in
    rw count
    (rows_read SymbolFits 16 (symbol_row big) (symbol_at big bytes) bytes 0 symbols (length-symbol_row big)
    (λ s n h fit. symbol_read big bytes n s h fit) (from_start 16 bytes) fits)

pub relas_back : (big : Bool) (relas : List Rela) → All RelaFits relas → rela_entries big (rela_rows big relas) ≡ relas
unfolding rela_entries
relas_back big relas fits =
    let bytes = rela_rows big relas in
    let count : length bytes / 12 ≡ length relas = omega (arith, length-rela_rows big relas) in
    rw count
    (rows_read RelaFits 12 (rela_row big) (rela_at big bytes) bytes 0 relas (length-rela_row big)
    (λ r n h fit. rela_read big bytes n r h fit) (from_start 12 bytes) fits)

pub dynamics_back : (big : Bool) (entries : List Dyn) → All DynFits entries → dynamic_entries big (dynamic_rows big entries) ≡ entries
unfolding dynamic_entries
dynamics_back big entries fits =
    let bytes = dynamic_rows big entries in
    let count : length bytes / 8 ≡ length entries = omega (arith, length-dynamic_rows big entries) in
    rw count
    (rows_read DynFits 8 (dynamic_row big) (dynamic_at big bytes) bytes 0 entries (length-dynamic_row big)
    (λ d n h fit. dynamic_read big bytes n d h fit) (from_start 8 bytes) fits)
