-- The words of the fields of a module in the memory.
use Rattle.std.proofs.Common.{◌≡◌, ℕ, ◌+◌, ◌-◌, ◌%◌, ◌^◌, ◌<◌, ◌≤◌, ◌==◌, Bool, true, false, if◌then◌else◌, List, [], ◌∷◌, ◌++◌, length, get_or, refl, sym, ap, ◌∙◌, subst, arith}
use Rattle.std.specs.Prelude.{All, slice_index}
use Rattle.std.specs.Int.{cast_unsigned, w32}
use Rattle.std.proofs.lemmas.Grind.{common_steps}
use Rattle.std.proofs.lemmas.List.{get_or-map}
use Rattle.std.proofs.lemmas.List.Elements.{All-head, All-tail}
use Rattle.c6x_spec.specs.Memory.{IsOnMemory, Memory}
use Rattle.c6x_spec.specs.Numbers.{number_in, word_at}
use Rattle.c6x_elf.specs.Attributes.{rela_kind}
use Rattle.c6x_elf.specs.Types.{Rela}
use Rattle.c6x_reloc.specs.Table.{row_of}
use Rattle.c6x_reloc.specs.declared.inputs.Inputs.{Inputs}
use Rattle.c6x_reloc.specs.declared.reloc_kind.RelocKind.TheVariants.{ABS32}
use Rattle.c6x_module.specs.Valid.{IsInside}
use Rattle.c6x_module.specs.declared.field.Field.{Field}
use Rattle.c6x_module.specs.declared.module.Module.{Module}
use Rattle.c6x_module.specs.Fields.{field_of, fields_of}
use Rattle.c6x_module.specs.declared.fields.TheConstants.{R_C6000_NONE}
use Rattle.c6x_place.specs.Definitions.{field_found, field_target, field_value}
use Rattle.c6x_place.specs.declared.target.Target.{Target}
use Rattle.c6x_load.proofs.ReadBack.{read_back}
use Rattle.c6x_load.specs.Reads.{place_at}
use Rattle.c6x_load.specs.Values.{field_value as word_of, shift_of, slot_word}
use Rattle.c6x_reloc.specs.Shift.{moved_by}
use Rattle.c6x_relocated.proofs.Word.{abs32_is}
use Rattle.c6x_relocated.proofs.MovedWords.{shift_place}
use Rattle.c6x_relocated.specs.Holds.{HoldsAt}
use Rattle.c6x_relocated.specs.Filled.{Finding, address_in, definition_address, targets_in}
use Rattle.c6x_relocated.specs.Relocated.{Stands}

-- a field of the module that an entry for the loader makes
pub fields_have : (P : Field → Type 0) (front : List Rela) (r : Rela) (back : List Rela)
    → (rela_kind r == R_C6000_NONE) ≡ false → All P (fields_of (front ++ r ∷ back)) → P (field_of r)
fields_have P [] r back some all =
    let F : Bool → List Field = λ t. if t then fields_of back else field_of r ∷ fields_of back in
    let Q : List Field → Type 0 = λ fs. All P fs in
    All-head P (field_of r) (fields_of back) (subst Q (ap F some) all)
fields_have P (x ∷ front) r back some all = either (rela_kind x == R_C6000_NONE) all (fields_have P front r back some)
  where
    either : (t : Bool) → All P (if t then fields_of (front ++ r ∷ back) else field_of x ∷ fields_of (front ++ r ∷ back)) → (All P (fields_of (front ++ r ∷ back)) → P (field_of r)) → P (field_of r)
    either true rest next = next rest
    either false rest next = next (All-tail P (field_of x) (fields_of (front ++ r ∷ back)) rest)

-- what a field stands for is what its symbol stands for
symbol_alone : (f : Finding) (position : ℕ) (m : Module) (x : Field)
    → address_in f (field_value f.modules f.list position m.symbols x) ≡ definition_address f position m x.symbol
unfolding definition_address field_target field_found
symbol_alone f position m x = refl

-- each field of the module, as it is read
pub record IsRead (board : Memory) (m : Module) (base : ℕ) (f : Finding) (position : ℕ) (x : Field) : Type 0 where
  pub inside : IsInside m.memory x.place 4
  pub word : word_at false board.bytes (place_at m base x.place - board.base) ≡ word_of x (definition_address f position m x.symbol) % 2 ^ 32

pub all_read : (board : Memory) (m : Module) (text base : ℕ) (f : Finding) (position : ℕ)
    → Stands board m text base (slot_word f.modules f.list f.bases) (address_in f) (targets_in f position m)
    → All (IsRead board m base f position) m.fields
all_read board m text base f position stands =
    let g : Field → Target = field_value f.modules f.list position m.symbols in
    let back = read_back board base m stands.valid (slot_word f.modules f.list f.bases) (address_in f) (targets_in f position m) stands.range_on.above stands.range_part in
    λ k d below. record {
      inside = (stands.valid.fields k d below).inside;
      word =
          back.fields k d (g d) below (many f position m k below)
          ∙ ap (λ t. word_of (get_or m.fields k d) (address_in f t) % 2 ^ 32) (get_or-map g m.fields k d (g d) below)
          ∙ ap (λ s. word_of (get_or m.fields k d) s % 2 ^ 32) (symbol_alone f position m (get_or m.fields k d));
    }
  where
    many : (f : Finding) (position : ℕ) (m : Module) (k : ℕ) → k < length m.fields → k < length (targets_in f position m)
    many f position m k below = grind (arith, common_steps)

-- a word at a place is a number of four bytes there
word_number : (bytes : List ℕ) (p : ℕ) → word_at false bytes p ≡ number_in 4 bytes p
unfolding word_at
word_number bytes p =
    let two : p + 1 + 1 ≡ p + 2 = omega arith in
    let three : p + 1 + 1 + 1 ≡ p + 3 = omega arith in
    let c : slice_index bytes (p + 1 + 1) ≡ slice_index bytes (p + 2) = ap (slice_index bytes) two in
    let d : slice_index bytes (p + 1 + 1 + 1) ≡ slice_index bytes (p + 3) = ap (slice_index bytes) three in
    omega (arith, c, d)

-- a word holds the value of an ABS32 whose sum it is
pub word_holds : (board : Memory) (m : Module) (base : ℕ) (f : Finding) (position : ℕ) (x : Field) (i : Inputs)
    → board.base + length board.bytes < 2 ^ 32 → IsOnMemory board base m.memory.memsz → m.memory.vaddr < 2 ^ 32
    → IsRead board m base f position x
    → word_of x (definition_address f position m x.symbol) % 2 ^ 32 ≡ (i.s + cast_unsigned w32 i.a) % 2 ^ 32
    → HoldsAt board (moved_by (shift_of base m.memory.vaddr) x.place) ABS32 i
unfolding row_of
word_holds board m base f position x i ends on low read sum =
    let above = read.inside.above in
    let within = read.inside.within in
    let start = on.above in
    let room = on.within in
    let place : moved_by (shift_of base m.memory.vaddr) x.place ≡ place_at m base x.place =
    ap (moved_by (shift_of base m.memory.vaddr)) (back_again above) ∙ shift_place base m.memory.vaddr (x.place - m.memory.vaddr) low (omega (arith, above, within, start, room, ends)) in
    let word : number_in 4 board.bytes (place_at m base x.place - board.base) ≡ (i.s + cast_unsigned w32 i.a) % 2 ^ 32 = sym (word_number board.bytes (place_at m base x.place - board.base)) ∙ read.word ∙ sum in
    let P : ℕ → Type 0 = λ at. HoldsAt board at ABS32 i in
    subst P (sym place)
    (record {
      value = (i.s + cast_unsigned w32 i.a) % 2 ^ 32;
      worth = abs32_is i;
      held = record { inside = λ some. omega (arith, above, within, start, room); field = omega (arith, word) };
    })
  where
    back_again : m.memory.vaddr ≤ x.place → x.place ≡ m.memory.vaddr + (x.place - m.memory.vaddr)
    back_again above = omega arith
