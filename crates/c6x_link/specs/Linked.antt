-- The file that a linker makes of objects by a plan, and the first rule by which there is none (SPRAB89, "Dynamic
-- Linking"; the layout and the rules are this project's own).
use Rattle.std.specs.Prelude.{ℕ, ◌-◌, true, false, Bool, List, ◌++◌, Option, None, Some, Result, Ok, Err, map, is_some, option_map}
use Rattle.c6x_dsbt.specs.Plans.{tables_refusal}
use Rattle.c6x_elf.specs.declared.file.File.{File}
use Rattle.c6x_reloc.specs.FieldBits.{patched}
use Rattle.c6x_layout.specs.Layouts.{Laying, layout_refusal}
use Rattle.c6x_layout.specs.Regions.{bound_region}
use Rattle.c6x_symbols.specs.LinkEntries.{data_fields, dynamic_relas, entries_error, text_fields}
use Rattle.c6x_symbols.specs.EntryRules.{is_text}
use Rattle.c6x_symbols.specs.declared.entry.EntryError.{EntryError}
use Rattle.c6x_layout.specs.File.{linked_file}
use Rattle.c6x_layout.specs.declared.parts.Parts.{Parts}
use Rattle.c6x_plan.specs.declared.link_plan.LinkPlan.{LinkPlan}
use Rattle.c6x_symbols.specs.Bindings.{binding_in, bindings_of, bound_at, name_in, names_refusal}
use Rattle.c6x_symbols.specs.Names.{name_at}
use Rattle.c6x_symbols.specs.Rules.{Refusal, ◌<|>◌, must, refusal}
use Rattle.c6x_symbols.specs.declared.binding.Binding.{Binding}
use Rattle.c6x_symbols.specs.declared.binding.Binding.TheVariants.{Common, Import, Strong, Table, Weak}
use Rattle.c6x_symbols.specs.declared.link_rule.LinkRule.TheVariants.{NoEntry}
use Rattle.c6x_link.specs.Exports.{shared_of}
use Rattle.c6x_link.specs.Images.{data_image, text_image}
use Rattle.c6x_link.specs.Words.{stub_relas, word_relas}
use Rattle.c6x_link.specs.Addresses.{bound_address}
use Rattle.c6x_link.specs.LinkEntries.{link_entries}
use Rattle.c6x_link.specs.Working.{Working, laying_of, worked_out, working_of}

-- A name that is bound to a symbol's definition, and not to a common or the table.
abbrev pub is_symbol : Binding → Bool
is_symbol (Strong object symbol) = true
is_symbol (Weak object symbol) = true
is_symbol (Common size align near) = false
is_symbol (Import weak) = false
is_symbol Table = false

-- A process may begin at a name that is bound to a definition in text.
abbrev pub is_start : Working → ℕ → Bool → Bool
is_start w number true = is_text (bound_region w.objects w.bindings number)
is_start w number false = false

abbrev pub start_at : Working → Option ℕ → Option ℕ
start_at w None = None
start_at w (Some number) = address_if (is_start w number (is_symbol (binding_in (bound_at w.bindings number)))) (bound_address w number)
  where
    address_if : Bool → ℕ → Option ℕ
    address_if true address = Some address
    address_if false address = None

abbrev pub start_named : Working → Option (List ℕ) → Option ℕ
start_named w None = None
start_named w (Some name) = start_at w (name_at (map name_in w.bindings) name)

-- The address where a process begins, if the plan names one; a library begins nowhere, and has 0 there.
abbrev pub start_of : Working → Bool → Option ℕ
start_of w true = Some 0
start_of w false = start_named w w.plan.entry

unfoldable pub entry_of : Working → Option ℕ
entry_of w = start_of w w.plan.library

abbrev pub or_zero : Option ℕ → ℕ
or_zero None = 0
or_zero (Some address) = address

-- A broken rule of an entry.
abbrev pub of_entry : EntryError → Refusal
of_entry e = refusal e.rule e.object e.place

-- The first broken rule of what is worked out: the entry (K14), the relocation entries (K13, K7, K11, K12, K10, K9, K8).
unfoldable pub entry_refusal : Working → Option Refusal
entry_refusal w = option_map of_entry (entries_error (link_entries w))

unfoldable pub file_refusal : Working → Option Refusal
file_refusal w = must (is_some (entry_of w)) (refusal NoEntry 0 0) <|> entry_refusal w

-- The first broken rule of what is laid: the alignments (K3), the sizes (K4), and then those of the file.
unfoldable pub laid_refusal : Laying → Option Refusal
laid_refusal l = layout_refusal l <|> file_refusal (worked_out l)

-- The first broken rule: the names (K1, K2), the plan's index and table (K5, K6), and then those of what is laid.
unfoldable pub link_refusal : List File → LinkPlan → Option Refusal
link_refusal objects plan =
    names_refusal (bindings_of objects)
    <|> tables_refusal plan.library plan.index plan.table
    <|> laid_refusal (laying_of objects plan)

-- The bytes of text and of data: each bit is the last relocation entry's value among those whose field has the bit, else
-- the object's bit; a field that the loader fills has the value 0.
unfoldable pub code_of : Working → List ℕ
code_of w = patched (text_image w) (text_fields (link_entries w))

unfoldable pub content_of : Working → List ℕ
content_of w = patched (data_image w) (data_fields (link_entries w))

-- All that is worked out of a module.
unfoldable pub parts_of : Working → Parts
parts_of w = record {
  library = w.plan.library;
  entry = or_zero (entry_of w);
  code = code_of w;
  content = content_of w;
  memory = w.layout.end - w.layout.table;
  align = w.layout.text_align;
  data_align = w.layout.data_align;
  table = w.layout.table;
  slots = w.plan.table;
  index = w.plan.index;
  shared = shared_of w;
  soname = w.plan.soname;
  needed = w.plan.needed;
  relas = word_relas w ++ dynamic_relas (link_entries w);
  jumps = stub_relas w;
}

-- The file of objects by a plan, where no rule is broken.
unfoldable pub linked_of : List File → LinkPlan → File
linked_of objects plan = linked_file (parts_of (working_of objects plan))

-- The file, or the first broken rule.
abbrev pub file_or : Option Refusal → File → Result File Refusal
file_or None file = Ok file
file_or (Some broken) file = Err broken

unfoldable pub linked : List File → LinkPlan → Result File Refusal
linked objects plan = file_or (link_refusal objects plan) (linked_of objects plan)
