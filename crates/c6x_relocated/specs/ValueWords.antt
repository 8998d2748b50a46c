-- The words in front of the data that the loader fills (SPRAB89, "DSBT Model"): value words, and the words of stubs.
use Rattle.std.specs.Prelude.{◌≡◌, ℕ, ◌+◌, ◌*◌, ◌^◌, ◌<◌, false, All, List, None, Some, length, pos, slice_get}
use Rattle.c6x_spec.specs.Memory.{Memory}
use Rattle.c6x_dsbt.specs.declared.wanted.Wanted.{Wanted}
use Rattle.c6x_elf.specs.declared.file.File.{File}
use Rattle.c6x_symbols.specs.Objects.{IsObject}
use Rattle.c6x_plan.specs.declared.link_plan.LinkPlan.{LinkPlan}
use Rattle.c6x_reloc.specs.declared.inputs.Inputs.{Inputs}
use Rattle.c6x_reloc.specs.declared.origin.Origin.TheVariants.{Absolute}
use Rattle.c6x_reloc.specs.declared.reloc_kind.RelocKind.TheVariants.{ABS32}
use Rattle.c6x_link.specs.Targets.{import_symbol, target_of}
use Rattle.c6x_link.specs.Working.{Working, working_of}
use Rattle.c6x_link.specs.Linked.{link_refusal, parts_of}
use Rattle.c6x_module.specs.declared.module.Module.{Module}
use Rattle.c6x_load.specs.Values.{shift_of, slot_word}
use Rattle.c6x_reloc.specs.Shift.{moved_by}
use Rattle.c6x_relocated.specs.Holds.{HoldsAt}
use Rattle.c6x_relocated.specs.Moved.{moved_symbol}
use Rattle.c6x_relocated.specs.Filled.{Finding, IsMember, address_in, definition_address, targets_in}
use Rattle.c6x_relocated.specs.Relocated.{IsLinkedModule, Stands, shifts_of}

-- Where the word of a stub lies in the file: the stubs' words stand behind the value words.
abbrev pub stub_word_at : Working → ℕ → ℕ
stub_word_at w place = w.layout.words + 4 * (length w.words + place)

-- A word of S alone.
abbrev pub word_inputs : ℕ → Inputs
word_inputs s = record { s = s; a = pos 0; p = 0; b = 0; g = 0; index = 0 }

-- The S of the symbol of a value word: where the symbol stands, or its value where it is absolute.
abbrev pub word_symbol : Working → Module → Finding → (position text base : ℕ) → Wanted → ℕ
word_symbol w m f position text base wanted =
    moved_symbol (shifts_of m text base) (definition_address f position m (target_of w wanted).symbol) Absolute
    (target_of w wanted).region (target_of w wanted).address

-- In every process, each value word of a link holds the S of its symbol.
abbrev pub ValueWordsHold : Type 0
ValueWordsHold =
    (objects : List File) (plan : LinkPlan)
    → All (IsObject false) objects
    → link_refusal objects plan ≡ None
    → (m : Module)
    → IsLinkedModule (parts_of (working_of objects plan)) m
    → (board : Memory) (f : Finding) (position text base : ℕ)
    → board.base + length board.bytes < 2 ^ 32
    → IsMember f position m text base
    → Stands board m text base (slot_word f.modules f.list f.bases) (address_in f) (targets_in f position m)
    → (place : ℕ) (wanted : Wanted)
    → slice_get (working_of objects plan).words place ≡ Some wanted
    → HoldsAt board (moved_by (shift_of base m.memory.vaddr) ((working_of objects plan).layout.words + 4 * place)) ABS32
    (word_inputs (word_symbol (working_of objects plan) m f position text base wanted))

-- And each stub's word holds the address of its import's definition, 0 where it is weak and not found.
abbrev pub StubWordsHold : Type 0
StubWordsHold =
    (objects : List File) (plan : LinkPlan)
    → All (IsObject false) objects
    → link_refusal objects plan ≡ None
    → (m : Module)
    → IsLinkedModule (parts_of (working_of objects plan)) m
    → (board : Memory) (f : Finding) (position text base : ℕ)
    → board.base + length board.bytes < 2 ^ 32
    → Stands board m text base (slot_word f.modules f.list f.bases) (address_in f) (targets_in f position m)
    → (place number : ℕ)
    → slice_get (working_of objects plan).stubs place ≡ Some number
    → HoldsAt board (moved_by (shift_of base m.memory.vaddr) (stub_word_at (working_of objects plan) place)) ABS32
    (word_inputs (definition_address f position m (import_symbol (working_of objects plan).bindings number)))
