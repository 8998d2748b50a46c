-- The modules of a number, with all that binding asks of them in the open.
use Rattle.std.proofs.Common.{◌≡◌, ℕ, zero, suc, ◌+◌, ◌<◌, ◌≤◌, List, [], ◌∷◌, map, codes, refl, ap, sym, arith}
use Rattle.c6x_elf.specs.Abi.{STT_SECTION}
use Rattle.c6x_elf.specs.declared.segment.Segment.{Segment}
use Rattle.c6x_gen.specs.Lists.{each_below, each_library}
use Rattle.c6x_gen.specs.Links.{app_name}
use Rattle.c6x_gen.specs.Sources.{library_name}
use Rattle.c6x_gen.specs.Parts.{callee_names, callees, function_shared, import_shared, IsApp, IsLibrary, stub_field}
use Rattle.c6x_gen.specs.BoundModules.{AreGenerated}
use Rattle.c6x_layout.specs.File.{data_segment, text_segment}
use Rattle.c6x_layout.specs.declared.file_limits.TheConstants.{TEXT_START}
use Rattle.c6x_layout.specs.declared.parts.Parts.{Parts}
use Rattle.c6x_layout.specs.declared.shared.Shared.{Shared}
use Rattle.c6x_link_loads.specs.Loads.{module_of_parts, shared_symbol, symbols_of, unnamed}
use Rattle.c6x_module.specs.declared.field.Field.{Field}
use Rattle.c6x_module.specs.declared.module.Module.{Module}
use Rattle.c6x_module.specs.declared.symbol.DynSymbol.{DynSymbol}
use Rattle.std.specs.List.{range_with_len}

-- what binding asks nothing of, and where a module's function stands
pub record Rest : Type 0 where
  pub kind : ℕ
  pub entry : ℕ
  pub text : Segment
  pub memory : Segment
  pub table : ℕ
  pub start : ℕ

-- the function stands in the text
pub record IsInText (rest : Rest) : Type 0 where
  pub above : rest.text.vaddr ≤ rest.start
  pub below : rest.start ≤ rest.text.vaddr + rest.text.memsz

-- the symbols of a module with a function of this name and these imports
abbrev pub symbols_with : ℕ → List ℕ → ℕ → List (List ℕ) → List DynSymbol
symbols_with table name start imports =
    unnamed 0 0 0 ∷ unnamed TEXT_START STT_SECTION 1 ∷ unnamed table STT_SECTION 2
    ∷ shared_symbol (function_shared name start) ∷ map shared_symbol (map import_shared imports)

abbrev pub app_shape : Rest → List (List ℕ) → List Field → Module
app_shape rest imports fields = record {
  name = app_name;
  kind = rest.kind;
  entry = rest.entry;
  text = rest.text;
  memory = rest.memory;
  symbols = symbols_with rest.table (codes "start") rest.start imports;
  fields = fields;
  needed = each_library library_name;
  index = 0;
  slots = 12;
  table = rest.table;
}

abbrev pub library_shape : ℕ → Rest → Module
library_shape library rest = record {
  name = library_name library;
  kind = rest.kind;
  entry = rest.entry;
  text = rest.text;
  memory = rest.memory;
  symbols = symbols_with rest.table (library_name library) rest.start [];
  fields = [];
  needed = [];
  index = library;
  slots = 12;
  table = rest.table;
}

-- the executable and the eleven libraries
unfoldable pub shapes : Rest → (ℕ → Rest) → List (List ℕ) → List Field → List Module
shapes rest rests imports fields = app_shape rest imports fields ∷ each_library (λ library. library_shape library (rests library))

-- what parts leave open
abbrev pub first_value : List Shared → ℕ
first_value [] = 0
first_value (s ∷ shared) = s.value

abbrev pub rest_of : Parts → Rest
rest_of p = record {
  kind = (module_of_parts [] p).kind;
  entry = p.entry;
  text = text_segment p;
  memory = data_segment p;
  table = p.table;
  start = first_value p.shared;
}

symbols_are : (table start : ℕ) (name : List ℕ) (imports : List (List ℕ)) (shared : List Shared) → shared ≡ function_shared name start ∷ map import_shared imports → unnamed 0 0 0 ∷ unnamed TEXT_START STT_SECTION 1 ∷ unnamed table STT_SECTION 2 ∷ map shared_symbol shared ≡ symbols_with table name (first_value shared) imports
symbols_are table start name imports shared is = rw is refl

same_module : (m : Module) (symbols : List DynSymbol) (fields : List Field) (needed : List (List ℕ)) (index slots : ℕ) → m.symbols ≡ symbols → m.fields ≡ fields → m.needed ≡ needed → m.index ≡ index → m.slots ≡ slots → m ≡ record m { symbols = symbols; fields = fields; needed = needed; index = index; slots = slots }
same_module m symbols fields needed index slots symbols_is fields_is needed_is index_is slots_is =
    rw (sym symbols_is, sym fields_is, sym needed_is, sym index_is, sym slots_is) refl

app_is : (number : ℕ) (p : Parts) → IsApp number p → module_of_parts app_name p ≡ app_shape (rest_of p) (callee_names number) (map (stub_field (p.table + 48)) (range_with_len 0 (callees number)))
unfolding module_of_parts symbols_of
app_is number p is =
    same_module (module_of_parts app_name p) (symbols_with p.table (codes "start") (first_value p.shared) (callee_names number)) (map (stub_field (p.table + 48)) (range_with_len 0 (callees number))) (each_library library_name) 0 12
    (symbols_are p.table is.start (codes "start") (callee_names number) p.shared is.shared) is.fields is.needed is.index is.slots

library_is : (library : ℕ) (p : Parts) → IsLibrary library p → module_of_parts (library_name library) p ≡ library_shape library (rest_of p)
unfolding module_of_parts symbols_of
library_is library p is =
    same_module (module_of_parts (library_name library) p) (symbols_with p.table (library_name library) (first_value p.shared) []) [] [] library 12
    (symbols_are p.table is.start (library_name library) [] p.shared is.shared) is.fields is.needed is.index is.slots

pub in_text : (library : ℕ) (p : Parts) → IsLibrary library p → IsInText (rest_of p)
in_text library p is =
    let start : first_value p.shared ≡ is.start = ap first_value is.shared in
    let above = is.above in
    let below = is.below in
    record { above = omega (arith, start, above); below = omega (arith, start, below) }

each_same : {X : Type 0} (count : ℕ) (f g : ℕ → List X) → ((before : ℕ) → before < count → f before ≡ g before) → each_below count f ≡ each_below count g
unfolding each_below
each_same zero f g same = refl
each_same (suc last) f g same =
    rw (each_same last f g (λ before below. same before (omega (arith, below))), same last (omega arith)) refl

-- the modules of a number are of these shapes
pub shaped : (number : ℕ) (modules : List Module) (are : AreGenerated number modules) → modules ≡ shapes (rest_of are.app) (λ library. rest_of (are.libraries library)) (callee_names number) (map (stub_field (are.app.table + 48)) (range_with_len 0 (callees number)))
unfolding shapes
shaped number modules are =
    rw (are.same, app_is number are.app are.is_app) (ap (λ ms. app_shape (rest_of are.app) (callee_names number) (map (stub_field (are.app.table + 48)) (range_with_len 0 (callees number))) ∷ ms)
    (each_same 11 (λ before. module_of_parts (library_name (before + 1)) (are.libraries (before + 1)) ∷ []) (λ before. library_shape (before + 1) (rest_of (are.libraries (before + 1))) ∷ [])
    (λ before below. ap (λ m. m ∷ []) (library_is (before + 1) (are.libraries (before + 1)) (are.are_libraries (before + 1) (omega arith) (omega (arith, below)))))))
