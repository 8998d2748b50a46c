-- The names of a text, in order of first appearance.
use Rattle.std.specs.Prelude.{ℕ, ◌+◌, false, List, [], ◌∷◌, ◌++◌, length, slice_index_or, Option, Some, None, position}
use Rattle.std.specs.Str.{bytes_eq}
use Rattle.c6x_asm_lines.specs.declared.word.Word.{Word}
use Rattle.c6x_asm_lines.specs.Bytes.{bytes_at}
use Rattle.c6x_asm_object.specs.declared.symbol.Symbol.{Symbol}

abbrev pub symbol_name : List ℕ → Symbol → List ℕ
symbol_name text s = bytes_at text s.at s.len

unfoldable pub no_symbol : Symbol
no_symbol = record { at = 0; len = 0; definition = None; global = false; weak = false; hidden = false }

-- the name with this number
abbrev pub symbol_of : List Symbol → ℕ → Symbol
symbol_of symbols i = slice_index_or symbols i no_symbol

-- the place of a name among those so far
unfoldable pub symbol_at : List ℕ → List Symbol → List ℕ → Option ℕ
symbol_at text symbols name = position (λ s. bytes_eq (symbol_name text s) name) symbols

unfoldable pub fresh : Word → Symbol
fresh word = record { at = word.at; len = word.len; definition = None; global = false; weak = false; hidden = false }

abbrev pub or_added : Option ℕ → List Symbol → Word → List Symbol × ℕ
or_added (Some i) symbols word = (symbols, i)
or_added None symbols word = (symbols ++ fresh word ∷ [], length symbols)

-- the names with this one, and its place
unfoldable pub interned : List ℕ → List Symbol → Word → List Symbol × ℕ
interned text symbols word = or_added (symbol_at text symbols (bytes_at text word.at word.len)) symbols word

-- the bytes of the names with one more for each
abbrev pub names_total : List ℕ → List Symbol → ℕ
names_total text [] = 0
names_total text (s ∷ symbols) = length (symbol_name text s) + 1 + names_total text symbols
