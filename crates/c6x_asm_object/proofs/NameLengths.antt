-- How many bytes the names of an object take.
use Rattle.std.proofs.Common.{◌≡◌, ℕ, ◌+◌, Bool, true, false, not, cond, List, [], ◌∷◌, ◌++◌, filter, length, map, refl, ap, ◌∙◌, length-append, arith}
use Rattle.std.specs.List.{flat_map}
use Rattle.c6x_elf.specs.Names.{name_row, name_table}
use Rattle.c6x_asm_object.specs.declared.symbol.Symbol.{Symbol}
use Rattle.c6x_asm_object.specs.Bindings.{is_local, is_other}
use Rattle.c6x_asm_object.specs.FormSymbols.{names_table, ordered}
use Rattle.c6x_asm_object.specs.Symbols.{symbol_name, names_total}

-- the names, with a zero byte behind each
pub length-name_rows : (text : List ℕ) (symbols : List Symbol) → length (flat_map name_row (map (symbol_name text) symbols)) ≡ names_total text symbols
length-name_rows text [] = refl
length-name_rows text (s ∷ symbols) =
    omega (
      arith,
      length-append (name_row (symbol_name text s)) (flat_map name_row (map (symbol_name text) symbols)),
      length-append (symbol_name text s) (0 ∷ []),
      length-name_rows text symbols,
    )

pub names_total-append : (text : List ℕ) (a b : List Symbol) → names_total text (a ++ b) ≡ names_total text a + names_total text b
names_total-append text [] b = omega arith
names_total-append text (s ∷ a) b = omega (arith, names_total-append text a b)

either_name : (local : Bool) (text : List ℕ) (s : Symbol) (a b : List Symbol) → names_total text (cond local (s ∷ a) a) + names_total text (cond (not local) (s ∷ b) b) ≡ length (symbol_name text s) + 1 + (names_total text a + names_total text b)
either_name true text s a b = omega arith
either_name false text s a b = omega arith

pub names_total-both : (text : List ℕ) (symbols : List Symbol) → names_total text (filter is_local symbols) + names_total text (filter is_other symbols) ≡ names_total text symbols
names_total-both text [] = refl
names_total-both text (s ∷ symbols) =
    either_name (is_local s) text s (filter is_local symbols) (filter is_other symbols)
    ∙ ap (λ n. length (symbol_name text s) + 1 + n) (names_total-both text symbols)

names_total-ordered : (text : List ℕ) (symbols : List Symbol) → names_total text (ordered symbols) ≡ names_total text symbols
unfolding ordered
names_total-ordered text symbols =
    names_total-append text (filter is_local symbols) (filter is_other symbols) ∙ names_total-both text symbols

pub length-names_table : (text : List ℕ) (symbols : List Symbol) → length (names_table text symbols) ≡ 1 + names_total text symbols
unfolding names_table name_table
length-names_table text symbols =
    omega (arith, length-name_rows text (ordered symbols), names_total-ordered text symbols)
