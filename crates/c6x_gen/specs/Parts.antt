-- What a link works out of the generated objects, as far as reading and binding ask for it.
use Rattle.std.specs.Prelude.{◌≡◌, ℕ, ◌+◌, ◌*◌, ◌≤◌, min, true, false, pos, List, [], ◌∷◌, codes, map}
use Rattle.std.specs.List.{range_with_len}
use Rattle.c6x_elf.specs.Abi.{SHN_UNDEF, STT_NOTYPE, STV_DEFAULT}
use Rattle.c6x_elf.specs.Attributes.{symbol_info}
use Rattle.c6x_elf.specs.Bindings.{Global}
use Rattle.c6x_gen.specs.Lists.{each_below, each_library}
use Rattle.c6x_gen.specs.Sources.{called, calls, library_name}
use Rattle.c6x_layout.specs.File.{text_segment}
use Rattle.c6x_layout.specs.declared.file_limits.TheConstants.{TEXT_START}
use Rattle.c6x_layout.specs.declared.parts.Parts.{Parts}
use Rattle.c6x_layout.specs.declared.shared.Shared.{Shared}
use Rattle.c6x_link_loads.specs.Loads.{fields_of_parts}
use Rattle.c6x_module.specs.declared.field.Field.{Field}

-- an export of the text
abbrev pub function_shared : List ℕ → ℕ → Shared
function_shared name value = record { name = name; value = value; size = 0; info = symbol_info Global STT_NOTYPE; other = STV_DEFAULT; section = 1 }

-- a name that another module defines
abbrev pub import_shared : List ℕ → Shared
import_shared name = record { name = name; value = 0; size = 0; info = symbol_info Global STT_NOTYPE; other = STV_DEFAULT; section = SHN_UNDEF }

-- how many libraries the executable of a number calls, and their names in order of first call
abbrev pub callees : ℕ → ℕ
callees number = min (calls number) 11

abbrev pub callee_names : ℕ → List (List ℕ)
callee_names number = each_below (callees number) (λ line. library_name (called number line) ∷ [])

-- The word of the stub at this place: the symbols before the imports are the null symbol, two of segments and `start`.
abbrev pub stub_field : ℕ → ℕ → Field
stub_field words place = record { place = words + 4 * place; slot_kind = true; symbol = 4 + place; addend = pos 0 }

-- An executable has `start`, an import for each library that it calls, and a stub's word for each of these, behind the
-- twelve slots of its table.
pub record IsApp (number : ℕ) (p : Parts) : Type 0 where
  pub library : p.library ≡ false
  pub index : p.index ≡ 0
  pub slots : p.slots ≡ 12
  pub needed : p.needed ≡ each_library library_name
  pub start : ℕ
  pub shared : p.shared ≡ function_shared (codes "start") start ∷ map import_shared (callee_names number)
  pub fields : fields_of_parts p ≡ map (stub_field (p.table + 48)) (range_with_len 0 (callees number))

-- A library has its one function, at an address of its text, and no field.
pub record IsLibrary (number : ℕ) (p : Parts) : Type 0 where
  pub library : p.library ≡ true
  pub index : p.index ≡ number
  pub slots : p.slots ≡ 12
  pub needed : p.needed ≡ []
  pub start : ℕ
  pub above : TEXT_START ≤ start
  pub below : start ≤ TEXT_START + (text_segment p).memsz
  pub shared : p.shared ≡ function_shared (library_name number) start ∷ []
  pub fields : fields_of_parts p ≡ []
