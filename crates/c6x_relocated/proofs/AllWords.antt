-- All value words, and the words of stubs, of a link.
use Rattle.std.proofs.Common.{◌≡◌, ℕ, ◌+◌, ◌*◌, ◌^◌, ◌<◌, Bool, true, false, if◌then◌else◌, List, length, None, Some, refl, sym, ap, ◌∙◌, subst}
use Rattle.std.specs.Prelude.{All, slice_get}
use Rattle.c6x_spec.specs.Memory.{Memory}
use Rattle.c6x_dsbt.specs.declared.wanted.Wanted.{Wanted}
use Rattle.c6x_elf.specs.declared.file.File.{File}
use Rattle.c6x_layout.specs.Dynamics.{is_filled_word}
use Rattle.c6x_layout.specs.Regions.{moves}
use Rattle.c6x_symbols.specs.Objects.{IsObject}
use Rattle.c6x_symbols.specs.declared.region.Region.{Region}
use Rattle.c6x_symbols.specs.declared.region.Region.TheVariants.{Absolute as Fixed, Data, Import, Text}
use Rattle.c6x_plan.specs.declared.link_plan.LinkPlan.{LinkPlan}
use Rattle.c6x_reloc.specs.declared.origin.Origin.TheVariants.{Absolute}
use Rattle.c6x_reloc.specs.declared.reloc_kind.RelocKind.TheVariants.{ABS32}
use Rattle.c6x_link.specs.Images.{value_word}
use Rattle.c6x_link.specs.Addresses.{wanted_address}
use Rattle.c6x_link.specs.Targets.{import_symbol, target_of}
use Rattle.c6x_link.specs.Working.{Working, working_of}
use Rattle.c6x_link.specs.Linked.{link_refusal, parts_of}
use Rattle.c6x_module.specs.declared.module.Module.{Module}
use Rattle.c6x_load.specs.Values.{shift_of, slot_word}
use Rattle.c6x_reloc.specs.Shift.{moved_by}
use Rattle.c6x_relocated.specs.Holds.{HoldsAt}
use Rattle.c6x_relocated.specs.Moved.{Shifts, moved_symbol}
use Rattle.c6x_relocated.specs.Filled.{Finding, IsMember, address_in, definition_address, targets_in}
use Rattle.c6x_relocated.specs.Relocated.{IsLinkedModule, Stands, shifts_of}
use Rattle.c6x_relocated.specs.ValueWords.{stub_word_at, word_inputs, word_symbol}
use Rattle.c6x_relocated.proofs.Fields.{are_kept}
use Rattle.c6x_relocated.proofs.FixedWords.{fixed_word_holds}
use Rattle.c6x_relocated.proofs.LinkedBits.{AreKept}
use Rattle.c6x_relocated.proofs.LinkedParts.{HasParts, has_parts}
use Rattle.c6x_relocated.proofs.Targeted.{address_is, region_of}
use Rattle.c6x_relocated.proofs.ValueWords.{stub_word_holds, value_word_holds}

-- a symbol that stays has its value
stays_is : (by : Shifts) (found s : ℕ) (r : Region) → moves r ≡ false → moved_symbol by found Absolute r s ≡ s
stays_is by found s Text is = absurd (cc is)
stays_is by found s Data is = absurd (cc is)
stays_is by found s Import is = absurd (cc is)
stays_is by found s Fixed is = refl

fixed_is : (w : Working) (wanted : Wanted) → is_filled_word w.objects w.bindings wanted ≡ false
    → value_word w wanted ≡ (target_of w wanted).address
unfolding value_word
fixed_is w wanted is =
    ap (λ (b : Bool). if b then 0 else wanted_address w wanted) is ∙ sym (address_is w wanted)

fixed_region : (w : Working) (wanted : Wanted) → is_filled_word w.objects w.bindings wanted ≡ false
    → moves (target_of w wanted).region ≡ false
unfolding is_filled_word
fixed_region w wanted is = ap moves (region_of w wanted) ∙ is

fixed_symbol : (w : Working) (m : Module) (f : Finding) (position text base : ℕ) (wanted : Wanted)
    → is_filled_word w.objects w.bindings wanted ≡ false
    → value_word w wanted ≡ word_symbol w m f position text base wanted
fixed_symbol w m f position text base wanted is =
    fixed_is w wanted is
    ∙ sym (stays_is (shifts_of m text base) (definition_address f position m (target_of w wanted).symbol)
    (target_of w wanted).address (target_of w wanted).region (fixed_region w wanted is))

every_word : (w : Working) (m : Module) → AreKept w → HasParts (parts_of w) m
    → (board : Memory) (f : Finding) (position text base : ℕ) → board.base + length board.bytes < 2 ^ 32
    → IsMember f position m text base
    → Stands board m text base (slot_word f.modules f.list f.bases) (address_in f) (targets_in f position m)
    → (place : ℕ) (wanted : Wanted) → slice_get w.words place ≡ Some wanted
    → HoldsAt board (moved_by (shift_of base m.memory.vaddr) (w.layout.words + 4 * place)) ABS32
    (word_inputs (word_symbol w m f position text base wanted))
every_word w m kept has_of board f position text base ends member stands place wanted has = either
    (is_filled_word w.objects w.bindings wanted) refl
  where
    either : (t : Bool) → is_filled_word w.objects w.bindings wanted ≡ t → HoldsAt board
        (moved_by (shift_of base m.memory.vaddr) (w.layout.words + 4 * place)) ABS32
        (word_inputs (word_symbol w m f position text base wanted))
    either true is = value_word_holds w m has_of board f position text base ends member stands place wanted has is
    either false is =
        let P : ℕ → Type 0 = λ s. HoldsAt board (moved_by (shift_of base m.memory.vaddr) (w.layout.words + 4 * place))
        ABS32 (word_inputs s) in
        subst P (fixed_symbol w m f position text base wanted is)
        (fixed_word_holds w m kept has_of board text base (slot_word f.modules f.list f.bases) (address_in f)
        (targets_in f position m) ends stands place wanted has is)

pub linked_words : (objects : List File) (plan : LinkPlan) → All (IsObject false) objects
    → link_refusal objects plan ≡ None → (m : Module) → IsLinkedModule (parts_of (working_of objects plan)) m
    → (board : Memory) (f : Finding) (position text base : ℕ) → board.base + length board.bytes < 2 ^ 32
    → IsMember f position m text base
    → Stands board m text base (slot_word f.modules f.list f.bases) (address_in f) (targets_in f position m)
    → (place : ℕ) (wanted : Wanted) → slice_get (working_of objects plan).words place ≡ Some wanted
    → HoldsAt board (moved_by (shift_of base m.memory.vaddr) ((working_of objects plan).layout.words + 4 * place))
    ABS32 (word_inputs (word_symbol (working_of objects plan) m f position text base wanted))
linked_words objects plan all none m linked =
    every_word (working_of objects plan) m (are_kept objects plan all none)
    (has_parts (parts_of (working_of objects plan)) m linked)

pub linked_stubs : (objects : List File) (plan : LinkPlan) (m : Module)
    → IsLinkedModule (parts_of (working_of objects plan)) m → (board : Memory) (f : Finding) (position text base : ℕ)
    → board.base + length board.bytes < 2 ^ 32
    → Stands board m text base (slot_word f.modules f.list f.bases) (address_in f) (targets_in f position m)
    → (place number : ℕ) → slice_get (working_of objects plan).stubs place ≡ Some number
    → HoldsAt board (moved_by (shift_of base m.memory.vaddr) (stub_word_at (working_of objects plan) place)) ABS32
    (word_inputs (definition_address f position m (import_symbol (working_of objects plan).bindings number)))
linked_stubs objects plan m linked =
    stub_word_holds (working_of objects plan) m (has_parts (parts_of (working_of objects plan)) m linked)
