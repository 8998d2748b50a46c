-- The symbols of objects in rows, looked up.
use Rattle.std.proofs.Common.{◌≡◌, ℕ, zero, suc, false, List, [], ◌∷◌, get_or, map, length, ◌≤◌, refl, sym, ap, ◌∙◌}
use Rattle.std.proofs.lemmas.List.{get_or_past}
use Rattle.std.specs.Prelude.{slice_get, slice_index_or}
use Rattle.c6x_elf.specs.Lists.{symbols_of, symtab_of}
use Rattle.c6x_elf.specs.declared.file.File.{File}
use Rattle.c6x_layout.specs.Regions.{sections_at, sections_in, symbol_in}
use Rattle.c6x_symbols.specs.Binding.{binding_of, is_table}
use Rattle.c6x_symbols.specs.Bindings.{binding_in, no_name}
use Rattle.c6x_symbols.specs.Groups.{no_group}
use Rattle.c6x_link.specs.Addresses.{binding_address, bound_address}
use Rattle.c6x_link.specs.Symbols.{symbols_in}
use Rattle.c6x_link.specs.Working.{Working}

no_symbols : symbols_of false [] ≡ []
unfolding symbols_of symtab_of
no_symbols = refl

row_at : (objects : List File) (object : ℕ) → get_or (map symbols_in objects) object [] ≡ symbols_of false (get_or (map sections_in objects) object [])
row_at [] object = sym no_symbols
row_at (file ∷ files) zero = refl
row_at (file ∷ files) (suc object) = row_at files object

pub symbol_found : (objects : List File) (object number : ℕ) → slice_get (slice_index_or (map symbols_in objects) object []) number ≡ symbol_in objects object number
unfolding symbol_in sections_at
symbol_found objects object number = ap (λ row. slice_get row number) (row_at objects object)

no_name_is : (w : Working) (number : ℕ) → binding_address w number (binding_in no_name) ≡ 0
unfolding no_name binding_of is_table no_group
no_name_is w number = refl

-- a name without a number has the address 0
pub past_is_zero : (w : Working) (number : ℕ) → length w.bindings ≤ number → bound_address w number ≡ 0
unfolding bound_address
past_is_zero w number past =
    ap (λ b. binding_address w number (binding_in b)) (get_or_past w.bindings number no_name past) ∙ no_name_is w number
