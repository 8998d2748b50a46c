-- The object of an executable by the names of the libraries that it calls, in order of first call.
use Rattle.std.proofs.Common.{ℕ, ◌+◌, ◌&&◌, nat_le, Bool, true, false, List, [], ◌∷◌, length, map, codes}
use Rattle.std.specs.Prelude.{is_none}
use Rattle.c6x_elf.specs.Abi.{ET_REL, SHF_ALLOC, SHF_EXECINSTR, SHN_UNDEF, SHT_PROGBITS, SHT_RELA, SHT_STRTAB, SHT_SYMTAB, STT_NOTYPE, STV_DEFAULT}
use Rattle.c6x_elf.specs.Attributes.{symbol_info}
use Rattle.c6x_elf.specs.Bindings.{Global}
use Rattle.c6x_elf.specs.EntryRows.{symbol_rows}
use Rattle.c6x_elf.specs.Names.{name_table}
use Rattle.c6x_elf.specs.Types.{Symbol as Entry}
use Rattle.c6x_elf.specs.declared.file.File.{File}
use Rattle.c6x_elf.specs.declared.section.Section.{Section}
use Rattle.c6x_asm_object.specs.Filing.{Named, sections_of}
use Rattle.c6x_asm_object.specs.Headers.{table_section}
use Rattle.c6x_asm_object.specs.FormSymbols.{null_entry, section_entry}
use Rattle.c6x_gen.specs.Lists.{each_below}
use Rattle.c6x_gen.specs.Links.{app_link}
use Rattle.c6x_gen.specs.Sources.{called, library_name}
use Rattle.c6x_dsbt.specs.Wanted.{wanted_at, wanted_of}
use Rattle.c6x_dsbt.specs.declared.wanted.Wanted.{Wanted}
use Rattle.c6x_dsbt.specs.declared.wanted.Wanted.TheVariants.{Bound, Local}
use Rattle.c6x_layout.specs.Dynamics.{shared_numbers, strings_of_link}
use Rattle.c6x_layout.specs.Places.{common_room}
use Rattle.c6x_layout.specs.declared.layout.Layout.{Layout}
use Rattle.c6x_link.specs.Working.{Working}
use Rattle.c6x_symbols.specs.Bindings.{BoundName, binding_in, bindings_of, bound_at, is_import, name_in}
use Rattle.c6x_gen.proofs.Below.{all_below}

-- the bytes of the code and of its relocation table, and what the symbol table says of itself
pub record Contents : Type 0 where
  pub size : ℕ
  pub code : List ℕ
  pub relas : List ℕ
  pub locals : ℕ

-- a symbol that another module defines, whose name stands here
abbrev pub import_entry : ℕ → Entry
import_entry at = record { name = at; value = 0; size = 0; info = symbol_info Global STT_NOTYPE; other = STV_DEFAULT; section = SHN_UNDEF }

abbrev pub import_entries : ℕ → List (List ℕ) → List Entry
import_entries at [] = []
import_entries at (name ∷ names) = import_entry at ∷ import_entries (at + (length name + 1)) names

-- the executable's own function
abbrev pub start_entry : Entry
start_entry = record { name = 1; value = 0; size = 0; info = symbol_info Global STT_NOTYPE; other = STV_DEFAULT; section = 1 }

abbrev pub app_entries : List (List ℕ) → List Entry
app_entries names = null_entry ∷ section_entry 1 ∷ start_entry ∷ import_entries 7 names

abbrev pub code_section : Contents → Section
code_section c = record { name = 0; kind = SHT_PROGBITS; flags = SHF_ALLOC + SHF_EXECINSTR; addr = 0; size = c.size; link = 0; info = 0; align = 32; entsize = 0; bytes = c.code }

abbrev pub app_named : Contents → List (List ℕ) → List Named
app_named c names =
    record { name = codes ".text"; section = code_section c }
    ∷ record { name = codes ".rela.text"; section = table_section SHT_RELA 3 1 4 12 c.relas }
    ∷ record { name = codes ".symtab"; section = table_section SHT_SYMTAB 4 c.locals 4 16 (symbol_rows false (app_entries names)) }
    ∷ record { name = codes ".strtab"; section = table_section SHT_STRTAB 0 0 1 0 (name_table (codes "start" ∷ names)) }
    ∷ []

unfoldable pub app_file : Contents → List (List ℕ) → File
app_file c names = record { kind = ET_REL; entry = 0; flags = 0; names = 5; segments = []; sections = sections_of (app_named c names) }

-- the names of the libraries that the first lines of this number call
abbrev pub callee_names : ℕ → ℕ → List (List ℕ)
callee_names n count = each_below count (λ line. library_name (called n line) ∷ [])

-- what the link asks of the names
abbrev pub bound_of : Contents → List (List ℕ) → List BoundName
bound_of c names = bindings_of (app_file c names ∷ [])

abbrev pub is_bound_import : List BoundName → Wanted → Bool
is_bound_import bindings (Bound number) = is_import (binding_in (bound_at bindings number))
is_bound_import bindings (Local object symbol) = false

abbrev pub has_no_common : BoundName → Bool
has_no_common b = is_none (common_room true b) && is_none (common_room false b)

-- the symbols of the libraries stand for imports
abbrev pub are_imports : Contents → List (List ℕ) → ℕ → Bool
are_imports c names count =
    all_below count (λ place. is_bound_import (bound_of c names) (wanted_at (wanted_of (map name_in (bound_of c names)) 0 (app_file c names).sections) 0 (3 + place)))

abbrev pub are_few : List BoundName → Bool
are_few bindings = nat_le (length (shared_numbers bindings)) 12 && nat_le (length (strings_of_link bindings app_link)) 100

-- the executable's working with any words, stubs and layout
abbrev pub working_with : Contents → List (List ℕ) → List Wanted → List ℕ → Layout → Working
working_with c names words stubs layout = record { objects = app_file c names ∷ []; plan = app_link; bindings = bound_of c names; words = words; stubs = stubs; layout = layout }
