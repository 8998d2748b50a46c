-- What the module of a link has of its parts.
use Rattle.std.proofs.Common.{◌≡◌, ℕ, [], drop, map, Some, ap}
use Rattle.std.specs.Prelude.{◌++◌, slice_get}
use Rattle.c6x_elf.specs.Abi.{STT_SECTION}
use Rattle.c6x_layout.specs.File.{data_segment, text_segment}
use Rattle.c6x_layout.specs.declared.file_limits.TheConstants.{TEXT_START}
use Rattle.c6x_layout.specs.declared.parts.Parts.{Parts}
use Rattle.c6x_link_loads.specs.Loads.{fields_of_parts, module_of_parts, shared_symbol, symbols_of}
use Rattle.c6x_module.specs.declared.module.Module.{Module}
use Rattle.c6x_module.specs.declared.symbol.DynSymbol.{DynSymbol}
use Rattle.c6x_module.specs.Fields.{fields_of}
use Rattle.c6x_relocated.specs.Relocated.{IsLinkedModule}

-- the dynamic symbol of a segment
abbrev pub segment_symbol : ℕ → ℕ → DynSymbol
segment_symbol value section = record { name = []; value = value; info = STT_SECTION; other = 0; section = section }

pub record HasParts (p : Parts) (m : Module) : Type 0 where
  pub text : m.text ≡ text_segment p
  pub memory : m.memory ≡ data_segment p
  pub table : m.table ≡ p.table
  pub slots : m.slots ≡ p.slots
  pub fields : m.fields ≡ fields_of (p.relas ++ p.jumps)
  pub text_symbol : slice_get m.symbols 1 ≡ Some (segment_symbol TEXT_START 1)
  pub data_symbol : slice_get m.symbols 2 ≡ Some (segment_symbol p.table 2)
  pub shared : drop 3 m.symbols ≡ map shared_symbol p.shared

pub has_parts : (p : Parts) (m : Module) → IsLinkedModule p m → HasParts p m
unfolding module_of_parts symbols_of fields_of_parts
has_parts p m linked = record {
  text = ap (λ (x : Module). x.text) linked.is;
  memory = ap (λ (x : Module). x.memory) linked.is;
  table = ap (λ (x : Module). x.table) linked.is;
  slots = ap (λ (x : Module). x.slots) linked.is;
  fields = ap (λ (x : Module). x.fields) linked.is;
  text_symbol = ap (λ (x : Module). slice_get x.symbols 1) linked.is;
  data_symbol = ap (λ (x : Module). slice_get x.symbols 2) linked.is;
  shared = ap (λ (x : Module). drop 3 x.symbols) linked.is;
}
