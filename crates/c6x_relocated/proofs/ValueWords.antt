-- Value words and the words of stubs hold their values.
use Rattle.std.proofs.Common.{◌≡◌, ℕ, zero, suc, ◌+◌, ◌*◌, ◌%◌, ◌^◌, ◌<◌, ◌==◌, Bool, true, false, not, if◌then◌else◌, List, [], ◌∷◌, ◌++◌, length, map, Some, refl, sym, ap, ◌∙◌, subst, append_assoc, arith}
use Rattle.std.specs.Prelude.{All, pos, slice_get}
use Rattle.std.specs.Int.{cast_unsigned, w32}
use Rattle.std.specs.List.{enumerate_from, flat_map}
use Rattle.c6x_spec.specs.Memory.{Memory}
use Rattle.c6x_dsbt.specs.declared.wanted.Wanted.{Wanted}
use Rattle.c6x_elf.specs.Attributes.{rela_kind, rela_symbol}
use Rattle.c6x_elf.specs.Types.{Rela}
use Rattle.c6x_layout.specs.Dynamics.{is_filled_word}
use Rattle.c6x_layout.specs.Regions.{moves, wanted_region}
use Rattle.c6x_symbols.specs.declared.region.Region.{Region}
use Rattle.c6x_symbols.specs.declared.region.Region.TheVariants.{Absolute as Fixed, Data, Import, Text}
use Rattle.c6x_reloc.specs.Table.{row_of}
use Rattle.c6x_reloc.specs.Value.{less}
use Rattle.c6x_reloc.specs.declared.origin.Origin.TheVariants.{Absolute}
use Rattle.c6x_reloc.specs.declared.reloc_kind.RelocKind.TheVariants.{ABS32}
use Rattle.c6x_layout.specs.File.{text_bytes}
use Rattle.c6x_layout.specs.declared.file_limits.TheConstants.{TEXT_START}
use Rattle.c6x_layout.specs.declared.parts.Parts.{Parts}
use Rattle.c6x_symbols.specs.LinkEntries.{dynamic_relas}
use Rattle.c6x_symbols.specs.EntryRules.{is_fixed}
use Rattle.c6x_link.specs.Words.{rela_on, stub_rela, stub_relas, word_rela, word_relas}
use Rattle.c6x_link.specs.LinkEntries.{link_entries}
use Rattle.c6x_link.specs.Targets.{import_symbol, target_of}
use Rattle.c6x_link.specs.Working.{Working}
use Rattle.c6x_link.specs.declared.target.Target.{Target}
use Rattle.c6x_link.specs.Linked.{parts_of}
use Rattle.c6x_module.specs.declared.field.Field.{Field}
use Rattle.c6x_module.specs.declared.module.Module.{Module}
use Rattle.c6x_module.specs.Fields.{field_of, fields_of}
use Rattle.c6x_module.specs.declared.fields.TheConstants.{R_C6000_JUMP_SLOT, R_C6000_NONE}
use Rattle.c6x_load.specs.Values.{field_value as word_of, shift_of, slot_word}
use Rattle.c6x_reloc.specs.Shift.{moved_by}
use Rattle.c6x_relocated.specs.Holds.{HoldsAt}
use Rattle.c6x_relocated.specs.Moved.{moved_symbol}
use Rattle.c6x_relocated.specs.Filled.{Finding, IsMember, address_in, definition_address, targets_in}
use Rattle.c6x_relocated.specs.Relocated.{Stands, shifts_of}
use Rattle.c6x_relocated.specs.ValueWords.{word_inputs}
use Rattle.c6x_relocated.proofs.LinkedParts.{HasParts}
use Rattle.c6x_relocated.proofs.Filled.{Splits, relas_are, segment_sum, table_is, text_some}
use Rattle.c6x_relocated.proofs.Targeted.{target_is}
use Rattle.c6x_relocated.proofs.Relas.{abs_holds, field_symbol, no_none, place_is}
use Rattle.c6x_relocated.proofs.Words.{IsRead, all_read, fields_have, word_holds}

-- an entry of one place among those of all
flat_split : {X : Type 0} (g : ℕ × X → List Rela) (n : ℕ) (xs : List X) (place : ℕ) (x : X) (r : Rela)
    → slice_get xs place ≡ Some x → g (n + place, x) ≡ r ∷ [] → Splits (flat_map g (enumerate_from n xs)) r
flat_split g n [] place x r has is = absurd (cc has)
flat_split {X} g n (y ∷ xs) zero x r has is =
    let same : y ≡ x = cc has in
    let z : n + 0 ≡ n = omega arith in
    let here : g (n, y) ≡ r ∷ [] = ap (λ (v : X). g (n, v)) same ∙ ap (λ (k : ℕ). g (k, x)) (sym z) ∙ is in
    record { front = []; back = flat_map g (enumerate_from (n + 1) xs); is = ap (λ (l : List Rela). l ++ flat_map g (enumerate_from (n + 1) xs)) here }
flat_split {X} g n (y ∷ xs) (suc place) x r has is =
    let z : n + suc place ≡ n + 1 + place = omega arith in
    let rest = flat_split g (n + 1) xs place x r has (ap (λ (k : ℕ). g (k, x)) (sym z) ∙ is) in
    record { front = g (n, y) ++ rest.front; back = rest.back; is = ap (λ (l : List Rela). g (n, y) ++ l) rest.is ∙ sym (append_assoc (g (n, y)) rest.front (r ∷ rest.back)) }

map_split : {X : Type 0} (g : ℕ × X → Rela) (n : ℕ) (xs : List X) (place : ℕ) (x : X) → slice_get xs place ≡ Some x
    → Splits (map g (enumerate_from n xs)) (g (n + place, x))
map_split g n [] place x has = absurd (cc has)
map_split {X} g n (y ∷ xs) zero x has =
    let same : y ≡ x = cc has in
    let z : n ≡ n + 0 = omega arith in
    let here : g (n, y) ≡ g (n + 0, x) = ap (λ (v : X). g (n, v)) same ∙ ap (λ (k : ℕ). g (k, x)) z in
    record { front = []; back = map g (enumerate_from (n + 1) xs); is = ap (λ (r : Rela). r ∷ map g (enumerate_from (n + 1) xs)) here }
map_split {X} g n (y ∷ xs) (suc place) x has =
    let z : n + 1 + place ≡ n + suc place = omega arith in
    let rest = map_split g (n + 1) xs place x has in
    record {
      front = g (n, y) ∷ rest.front;
      back = rest.back;
      is = ap (λ (l : List Rela). g (n, y) ∷ l) rest.is ∙ ap (λ (k : ℕ). g (n, y) ∷ (rest.front ++ g (k, x) ∷ rest.back)) z;
    }

-- those of the value words and of the stubs in the file
in_relas : (w : Working) (r : Rela) → Splits (word_relas w) r → Splits ((parts_of w).relas ++ (parts_of w).jumps) r
in_relas w r s = record {
  front = s.front;
  back = (s.back ++ dynamic_relas (link_entries w)) ++ (parts_of w).jumps;
  is =
      ap (λ (l : List Rela). l ++ (parts_of w).jumps) (relas_are w ∙ ap (λ (l : List Rela). l ++ dynamic_relas (link_entries w)) s.is ∙ append_assoc s.front (r ∷ s.back) (dynamic_relas (link_entries w)))
      ∙ append_assoc s.front (r ∷ (s.back ++ dynamic_relas (link_entries w))) (parts_of w).jumps;
}

jumps_are : (w : Working) → (parts_of w).jumps ≡ stub_relas w
unfolding parts_of
jumps_are w = refl

in_jumps : (w : Working) (r : Rela) → Splits (stub_relas w) r → Splits ((parts_of w).relas ++ (parts_of w).jumps) r
in_jumps w r s = record {
  front = (parts_of w).relas ++ s.front;
  back = s.back;
  is = ap (λ (l : List Rela). (parts_of w).relas ++ l) (jumps_are w ∙ s.is) ∙ sym (append_assoc (parts_of w).relas s.front (r ∷ s.back));
}

-- the entry of a value word
one_word : (w : Working) (place : ℕ) (wanted : Wanted) → is_filled_word w.objects w.bindings wanted ≡ true
    → word_rela w (0 + place, wanted) ≡ rela_on w place (target_of w wanted) ∷ []
unfolding word_rela
one_word w place wanted is =
    let z : 0 + place ≡ place = omega arith in
    ap (λ (b : Bool). if b then rela_on w (0 + place) (target_of w wanted) ∷ [] else []) is
    ∙ ap (λ (k : ℕ). rela_on w k (target_of w wanted) ∷ []) z

word_split : (w : Working) (place : ℕ) (wanted : Wanted) → slice_get w.words place ≡ Some wanted
    → is_filled_word w.objects w.bindings wanted ≡ true → Splits (word_relas w) (rela_on w place (target_of w wanted))
unfolding word_relas
word_split w place wanted has is =
    flat_split (word_rela w) 0 w.words place wanted (rela_on w place (target_of w wanted)) has (one_word w place wanted is)

moves_is : (r : Region) → moves r ≡ true → not (is_fixed r) ≡ true
moves_is Text is = refl
moves_is Data is = refl
moves_is Import is = refl
moves_is Fixed is = absurd (cc is)

target_moves : (w : Working) (wanted : Wanted) → is_filled_word w.objects w.bindings wanted ≡ true
    → not (is_fixed (target_of w wanted).region) ≡ true
unfolding is_filled_word target_of
target_moves w wanted is = moves_is (wanted_region w.objects w.bindings wanted) is

-- a sum with nothing added
plain_less : (s start d : ℕ) → start < 2 ^ 32
    → (d + less s start) % 2 ^ 32 ≡ (d + less ((s + 0) % 2 ^ 32) start) % 2 ^ 32
plain_less s start d low = omega arith

start_small : (w : Working) (t : Target) (r : Region) → t.region ≡ r → (t.region ≡ Text → t.start ≡ TEXT_START)
    → (t.region ≡ Data → t.start ≡ w.layout.table) → (t.region ≡ Import → t.start ≡ 0) → not (is_fixed r) ≡ true
    → w.layout.table < 2 ^ 32 → t.start < 2 ^ 32
start_small w t Text is a b c moves low = let e = a is in omega (arith, e)
start_small w t Data is a b c moves low = let e = b is in omega (arith, e, low)
start_small w t Import is a b c moves low = let e = c is in omega (arith, e)
start_small w t Fixed is a b c moves low = absurd (cc moves)

pub value_word_holds : (w : Working) (m : Module) → HasParts (parts_of w) m
    → (board : Memory) (f : Finding) (position text base : ℕ) → board.base + length board.bytes < 2 ^ 32
    → IsMember f position m text base
    → Stands board m text base (slot_word f.modules f.list f.bases) (address_in f) (targets_in f position m)
    → (place : ℕ) (wanted : Wanted) → slice_get w.words place ≡ Some wanted
    → is_filled_word w.objects w.bindings wanted ≡ true
    → HoldsAt board (moved_by (shift_of base m.memory.vaddr) (w.layout.words + 4 * place)) ABS32 (word_inputs (moved_symbol (shifts_of m text base) (definition_address f position m (target_of w wanted).symbol) Absolute (target_of w wanted).region (target_of w wanted).address))
value_word_holds w m has board f position text base ends member stands place wanted listed filled =
    let p : Parts = parts_of w in
    let t : Target = target_of w wanted in
    let r : Rela = rela_on w place t in
    let s = in_relas w r (word_split w place wanted listed filled) in
    let Q : List Field → Type 0 = λ fs. All (IsRead board m base f position) fs in
    let read = fields_have (IsRead board m base f position) s.front r s.back (no_none (w.layout.words + 4 * place) t.symbol t.address t.start) (subst Q (has.fields ∙ ap fields_of s.is) (all_read board m text base f position stands)) in
    let is = target_is w wanted in
    let moving = target_moves w wanted filled in
    let text_at : TEXT_START ≡ m.text.vaddr = sym (ap (λ x. x.vaddr) has.text) in
    let data_at : p.table ≡ m.memory.vaddr = sym (ap (λ x. x.vaddr) has.memory) in
    let size : m.text.memsz ≡ length (text_bytes p) = ap (λ x. x.memsz) has.text in
    let some = text_some p in
    let below = stands.valid.memory.range in
    let low : m.memory.vaddr < 2 ^ 32 = omega (arith, below) in
    let table : w.layout.table < 2 ^ 32 = omega (arith, sym (table_is w), data_at, low) in
    let d : ℕ = definition_address f position m t.symbol in
    let sum = segment_sum f position m text base t.symbol t.start t.address 0 p.table t.region member stands.valid has.text_symbol has.data_symbol text_at data_at (omega (arith, size, some)) low
    is.text_symbol is.text_start is.data_symbol (λ e. is.data_start e ∙ sym (table_is w)) is.import_start is.import_address moving in
    abs_holds board m base f position (w.layout.words + 4 * place) t.symbol t.address t.start (word_inputs (moved_symbol (shifts_of m text base) d Absolute t.region t.address)) ends stands.range_on low read
    (plain_less t.address t.start d (start_small w t t.region refl is.text_start is.data_start is.import_start moving table) ∙ sum)

-- the entry of a stub's word
stub_kind : (w : Working) (x : ℕ × ℕ) → rela_kind (stub_rela w x) ≡ 27
unfolding stub_rela row_of
stub_kind w x = omega arith

stub_symbol : (w : Working) (x : ℕ × ℕ) → rela_symbol (stub_rela w x) ≡ import_symbol w.bindings x.1
unfolding stub_rela row_of
stub_symbol w x = omega arith

stub_place : (w : Working) (place number : ℕ)
    → (stub_rela w (0 + place, number)).offset ≡ w.layout.words + 4 * (length w.words + place)
unfolding stub_rela
stub_place w place number = omega arith

stub_word : (w : Working) (x : ℕ × ℕ) (s : ℕ) → word_of (field_of (stub_rela w x)) s ≡ s
unfolding word_of field_of
stub_word w x s =
    ap (λ (b : Bool). if b then s else (s + cast_unsigned w32 (stub_rela w x).addend) % 2 ^ 32) (ap (λ n. n == R_C6000_JUMP_SLOT) (stub_kind w x))

stub_split : (w : Working) (place number : ℕ) → slice_get w.stubs place ≡ Some number
    → Splits (stub_relas w) (stub_rela w (0 + place, number))
unfolding stub_relas
stub_split w place number has = map_split (stub_rela w) 0 w.stubs place number has

plus_none : (s : ℕ) → s % 2 ^ 32 ≡ (s + cast_unsigned w32 (pos 0)) % 2 ^ 32
plus_none s = omega arith

pub stub_word_holds : (w : Working) (m : Module) → HasParts (parts_of w) m
    → (board : Memory) (f : Finding) (position text base : ℕ) → board.base + length board.bytes < 2 ^ 32
    → Stands board m text base (slot_word f.modules f.list f.bases) (address_in f) (targets_in f position m)
    → (place number : ℕ) → slice_get w.stubs place ≡ Some number
    → HoldsAt board (moved_by (shift_of base m.memory.vaddr) (w.layout.words + 4 * (length w.words + place))) ABS32 (word_inputs (definition_address f position m (import_symbol w.bindings number)))
stub_word_holds w m has board f position text base ends stands place number listed =
    let r : Rela = stub_rela w (0 + place, number) in
    let s = in_jumps w r (stub_split w place number listed) in
    let Q : List Field → Type 0 = λ fs. All (IsRead board m base f position) fs in
    let some : (rela_kind r == R_C6000_NONE) ≡ false = ap (λ n. n == R_C6000_NONE) (stub_kind w (0 + place, number)) in
    let read = fields_have (IsRead board m base f position) s.front r s.back some (subst Q (has.fields ∙ ap fields_of s.is) (all_read board m text base f position stands)) in
    let below = stands.valid.memory.range in
    let low : m.memory.vaddr < 2 ^ 32 = omega (arith, below) in
    let d : ℕ = definition_address f position m (import_symbol w.bindings number) in
    let word : word_of (field_of r) (definition_address f position m (field_of r).symbol) % 2 ^ 32 ≡ (d + cast_unsigned w32 (pos 0)) % 2 ^ 32 =
    ap (λ n. word_of (field_of r) (definition_address f position m n) % 2 ^ 32) (field_symbol r ∙ stub_symbol w (0 + place, number))
    ∙ ap (λ n. n % 2 ^ 32) (stub_word w (0 + place, number) d)
    ∙ plus_none d in
    let P : ℕ → Type 0 = λ at. HoldsAt board (moved_by (shift_of base m.memory.vaddr) at) ABS32 (word_inputs d) in
    subst P (place_is r ∙ stub_place w place number) (word_holds board m base f position (field_of r) (word_inputs d) ends stands.range_on low read word)
