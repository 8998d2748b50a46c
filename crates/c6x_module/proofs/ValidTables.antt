-- Facts of the tables of a module that was read.
use Rattle.std.proofs.Common.{◌≡◌, ℕ, ◌+◌, ◌-◌, ◌*◌, ◌/◌, ◌^◌, ◌<◌, ◌≤◌, ◌==◌, Bool, true, false, List, [], ◌∷◌, length, map, take, drop, min, refl, ap, ◌∙◌, arith}
use Rattle.std.proofs.lemmas.Bool.Decides.{nat_tests}
use Rattle.std.proofs.lemmas.List.{length-take, length-drop}
use Rattle.std.proofs.lemmas.List.FromFn.{length-map-range_with_len}
use Rattle.std.specs.Prelude.{Option, None, Some, Result, Ok, nat_le, sum_by, if◌then◌else◌}
use Rattle.std.specs.List.{fold}
use Rattle.c6x_base.specs.declared.limits.TheConstants.{MOST_NAMES_BYTES}
use Rattle.c6x_elf.specs.Abi.{DT_NEEDED, DT_STRTAB, DT_SYMTAB, DT_RELA, DT_RELASZ, DT_JMPREL, DT_PLTRELSZ}
use Rattle.c6x_elf.specs.TableEntries.{symbol_at, symbol_entries}
use Rattle.c6x_elf.specs.Types.{Dyn, Symbol}
use Rattle.c6x_elf.specs.declared.segment.Segment.{Segment}
use Rattle.c6x_module.specs.declared.module_rule.ModuleRule.TheVariants.{DynamicOutside}
use Rattle.c6x_module.specs.declared.symbol.DynSymbol.{DynSymbol}
use Rattle.c6x_module.specs.Modules.{needed_of, symbol_of}
use Rattle.c6x_module.specs.Ranges.{HasRoom}
use Rattle.c6x_module.specs.Refusals.{Refusal}
use Rattle.c6x_module.specs.Tables.{Tables, addresses_in, bytes_at, bytes_in, count_in, name_in, needed_length, or_slice, placed_in, slice_in, sum_refusal, symbol_length, tables_in, tables_of, total}
use Rattle.c6x_module.proofs.Through.{found_value, must_holds, then_value}

-- a table that was found is no longer than a segment
pub slice_short : (s : Segment) (at count : ℕ) (bytes : List ℕ) (t : Bool) → HasRoom s → (if t then Some (take count (drop (at - s.vaddr) s.bytes)) else None) ≡ Some bytes → length bytes ≤ 16777216
slice_short s at count bytes true room e =
    let same : take count (drop (at - s.vaddr) s.bytes) ≡ bytes = cc in
    let filled = room.filled in
    let size = room.size in
    let long : length (take count (drop (at - s.vaddr) s.bytes)) ≡ min count (length s.bytes - (at - s.vaddr)) = length-take count (drop (at - s.vaddr) s.bytes) ∙ ap (λ n. min count n) (length-drop (at - s.vaddr) s.bytes) in
    let all : length (take count (drop (at - s.vaddr) s.bytes)) ≡ length bytes = ap (λ (xs : List ℕ). length xs) same in
    omega arith
slice_short s at count bytes false room e = absurd (cc)

or_short : (text range : Segment) (at count : ℕ) (bytes : List ℕ) (first : Option (List ℕ)) → HasRoom range → (first ≡ Some bytes → length bytes ≤ 16777216) → or_slice first (slice_in range at count) ≡ Some bytes → length bytes ≤ 16777216
unfolding slice_in
or_short text range at count bytes None room first e = slice_short range at count bytes _ room e
or_short text range at count bytes (Some found) room first e = first e

at_short : (text range : Segment) (at count : ℕ) (bytes : List ℕ) (none : Bool) → HasRoom text → HasRoom range → (if none then Some [] else or_slice (slice_in text at count) (slice_in range at count)) ≡ Some bytes → length bytes ≤ 16777216
unfolding slice_in
at_short text range at count bytes true one two e =
    let same : [] ≡ bytes = cc in
    let all : 0 ≡ length bytes = ap (λ (xs : List ℕ). length xs) same in
    omega arith
at_short text range at count bytes false one two e =
    or_short text range at count bytes (slice_in text at count) two (λ found. slice_short text at count bytes _ one found) e

bytes_short : (text range : Segment) (tag at count : ℕ) (bytes : List ℕ) → HasRoom text → HasRoom range → bytes_in text range tag at count ≡ Ok bytes → length bytes ≤ 16777216
unfolding bytes_in bytes_at
bytes_short text range tag at count bytes one two e =
    at_short text range at count bytes (count == 0) one two (found_value _ DynamicOutside tag bytes e)

entries_short : (big : Bool) (bytes : List ℕ) → length bytes ≤ 16777216 → length (symbol_entries big bytes) < 2 ^ 32
unfolding symbol_entries
entries_short big bytes short = let count = length-map-range_with_len (symbol_at big bytes) 0 (length bytes / 16) in omega arith

symbols_are : (big : Bool) (strings symbols : List ℕ) (rela jump : ℕ × List ℕ) (t : Tables) → tables_of big strings symbols rela jump ≡ t → length (symbol_entries big symbols) ≡ length t.symbols
unfolding tables_of
symbols_are big strings symbols rela jump t same = ap (λ (x : Tables). length x.symbols) same

abbrev read_as : Tables → Result Tables Refusal
read_as t = Ok t

one_table : (a b : Tables) → read_as a ≡ read_as b → a ≡ b
one_table a b e = cc

pub symbols_short : (big : Bool) (text range : Segment) (ds : List Dyn) (t : Tables) → HasRoom text → HasRoom range → tables_in big text range ds ≡ Ok t → length t.symbols < 2 ^ 32
unfolding tables_in
symbols_short big text range ds t one two e =
    let a = then_value (addresses_in ds) _ t e in
    let b = then_value (count_in big text range a.0.hash) _ t a.2 in
    let c = then_value (bytes_in text range DT_STRTAB a.0.strings a.0.size) _ t b.2 in
    let d = then_value (bytes_in text range DT_SYMTAB a.0.symbols (16 * b.0)) _ t c.2 in
    let f = then_value (placed_in text range ds DT_RELA DT_RELASZ) _ t d.2 in
    let g = then_value (placed_in text range ds DT_JMPREL DT_PLTRELSZ) _ t f.2 in
    let same : tables_of big c.0 d.0 f.0 g.0 ≡ t = one_table (tables_of big c.0 d.0 f.0 g.0) t g.2 in
    let few = entries_short big d.0 (bytes_short text range DT_SYMTAB a.0.symbols (16 * b.0) d.0 one two d.1) in
    let all = symbols_are big c.0 d.0 f.0 g.0 t same in
    omega arith

-- the sum of the names
fold_total : {A : Type 0} (size : A → ℕ) (xs : List A) (sum : ℕ) → fold (λ a x. a + size x) sum xs ≡ sum + total size xs
fold_total size [] sum = omega arith
fold_total size (x ∷ xs) sum = fold_total size xs (sum + size x) ∙ omega arith

symbols_total : (strings : List ℕ) (ys : List Symbol) → total (λ (s : DynSymbol). length s.name) (map (symbol_of strings) ys) ≡ total (symbol_length strings) ys
unfolding symbol_of
symbols_total strings [] = refl
symbols_total strings (y ∷ ys) = ap (λ n. length (name_in strings y.name) + n) (symbols_total strings ys)

needed_case : (named : Bool) (name : List ℕ) (names : List (List ℕ)) (rest : ℕ) → total (λ (n : List ℕ). length n) names ≡ rest → total (λ (n : List ℕ). length n) (if named then name ∷ names else names) ≡ (if named then length name else 0) + rest
needed_case true name names rest e = ap (λ n. length name + n) e
needed_case false name names rest e = e ∙ omega arith

needed_total : (strings : List ℕ) (ds : List Dyn) → total (λ (n : List ℕ). length n) (needed_of strings ds) ≡ total (needed_length strings) ds
needed_total strings [] = refl
needed_total strings (d ∷ ds) =
    needed_case (d.tag == DT_NEEDED) (name_in strings d.value) (needed_of strings ds) (total (needed_length strings) ds) (needed_total strings ds)

order_holds : (a b : ℕ) → nat_le a b ≡ true → a ≤ b
order_holds a b t = grind (arith, nat_tests)

pub names_short : (ds : List Dyn) (t : Tables) → sum_refusal ds t ≡ None → sum_by (λ (s : DynSymbol). length s.name) (map (symbol_of t.strings) t.symbols) + sum_by (λ (n : List ℕ). length n) (needed_of t.strings ds) ≤ MOST_NAMES_BYTES
unfolding sum_refusal
names_short ds t e =
    let one = fold_total (λ (s : DynSymbol). length s.name) (map (symbol_of t.strings) t.symbols) 0 ∙ ap (λ n. 0 + n) (symbols_total t.strings t.symbols) in
    let two = fold_total (λ (n : List ℕ). length n) (needed_of t.strings ds) 0 ∙ ap (λ n. 0 + n) (needed_total t.strings ds) in
    let few = order_holds (total (symbol_length t.strings) t.symbols + total (needed_length t.strings) ds) MOST_NAMES_BYTES (must_holds _ DynamicOutside DT_STRTAB e) in
    omega arith
