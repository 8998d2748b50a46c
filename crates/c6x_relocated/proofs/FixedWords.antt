-- The value words that the loader does not fill.
use Rattle.std.proofs.Common.{◌≡◌, ◌≢◌, ℕ, ◌+◌, ◌-◌, ◌*◌, ◌/◌, ◌%◌, ◌^◌, ◌<◌, ◌≤◌, inl, inr, Bool, true, false, if◌then◌else◌, List, [], ◌∷◌, ◌++◌, length, get_or, Option, None, Some, refl, sym, ap, ◌∙◌, subst, append-nil, length-append, arith}
use Rattle.std.specs.Int.{bit_at, cast_unsigned, w32}
use Rattle.std.specs.List.{flat_map}
use Rattle.std.specs.Prelude.{All, pos, replicate, slice_get}
use Rattle.std.proofs.Math.ListN.{get_or-append}
use Rattle.std.proofs.lemmas.Bool.Decides.{leb_tells}
use Rattle.std.proofs.lemmas.List.Elements.{All-head, All-tail}
use Rattle.c6x_spec.specs.Memory.{IsOnMemory, Memory}
use Rattle.c6x_spec.specs.Numbers.{bit_in}
use Rattle.c6x_dsbt.specs.declared.wanted.Wanted.{Wanted}
use Rattle.c6x_elf.specs.Types.{Rela}
use Rattle.c6x_layout.proofs.Bounds.{bounds}
use Rattle.c6x_layout.specs.Dynamics.{is_filled_word}
use Rattle.c6x_reloc.specs.Fields.{HoldsValue, first_bit}
use Rattle.c6x_reloc.specs.Table.{row_of}
use Rattle.c6x_reloc.specs.Value.{value_of}
use Rattle.c6x_reloc.specs.declared.origin.Origin.{Origin}
use Rattle.c6x_reloc.specs.declared.origin.Origin.TheVariants.{Nothing, Absolute, Packet, Table, Got, Index, Slot}
use Rattle.c6x_reloc.specs.declared.reloc_kind.RelocKind.{RelocKind}
use Rattle.c6x_reloc.specs.declared.reloc_kind.RelocKind.TheVariants.{ABS32}
use Rattle.c6x_reloc.proofs.Bytes.{inside_is, patched_bytes, patched_length}
use Rattle.c6x_reloc.proofs.Steps.{field_bit_outside, last_both}
use Rattle.c6x_reloc.specs.FieldBits.{AreBytes, last_bit, lowest, or_bit, patched}
use Rattle.c6x_reloc.specs.declared.field.Field.{Field}
use Rattle.c6x_symbols.specs.LinkEntries.{data_field, data_fields, dynamic_relas, field_at, field_in, field_of_kind, field_with, value_or}
use Rattle.c6x_symbols.specs.declared.entry.Entry.{Entry}
use Rattle.c6x_link.proofs.ImageParts.{data_length}
use Rattle.c6x_link.specs.Images.{data_image, value_word}
use Rattle.c6x_link.specs.Worked.{IsWorkedOut, laying_in}
use Rattle.c6x_link.specs.Words.{stub_relas, word_relas}
use Rattle.c6x_link.specs.LinkEntries.{link_entries}
use Rattle.c6x_link.specs.Working.{Working}
use Rattle.c6x_link.specs.Linked.{parts_of}
use Rattle.c6x_link_loads.proofs.Laid.{is_laid}
use Rattle.c6x_module.specs.Valid.{IsValid}
use Rattle.c6x_module.specs.declared.module.Module.{Module}
use Rattle.c6x_module.specs.Fields.{field_of}
use Rattle.c6x_place.specs.declared.target.Target.{Target}
use Rattle.c6x_load.proofs.Images.{data_holds}
use Rattle.c6x_load.proofs.Ranges.{length_filled}
use Rattle.c6x_load.specs.Values.{data_image as loaded_image, filled, shift_of}
use Rattle.c6x_reloc.specs.Shift.{moved_by, origin_of}
use Rattle.c6x_relocated.proofs.Word.{abs32_is}
use Rattle.c6x_relocated.proofs.MovedWords.{shift_place}
use Rattle.c6x_relocated.specs.Holds.{HoldsAt, word_field}
use Rattle.c6x_relocated.proofs.RangePatched.{range_patched}
use Rattle.c6x_relocated.specs.Patches.{loaded_fields}
use Rattle.c6x_relocated.specs.Relocated.{Stands}
use Rattle.c6x_relocated.specs.ValueWords.{word_inputs}
use Rattle.c6x_relocated.proofs.Basics.{got}
use Rattle.c6x_relocated.proofs.Behind.{IsBehind, has_words}
use Rattle.c6x_relocated.proofs.Fields.{content_is, entry_room}
use Rattle.c6x_relocated.proofs.FileWords.{word_bit, word_in_image}
use Rattle.c6x_relocated.proofs.LinkedBits.{AreKept, KeepsRule, all_off, filled_place, relas_hold, slots_front, stub_place, stubs_hold, word_place, words_hold}
use Rattle.c6x_relocated.proofs.LinkedParts.{HasParts}
use Rattle.c6x_relocated.proofs.LoadedBits.{IsOff, both_none, loaded_none, lowest_is}
use Rattle.c6x_relocated.proofs.Standing.{filled_range, held_of_bits, on_memory, with_zeros}

-- no entry of the link has a bit in front of the sections
low_field : (w : Working) (e : Entry) (kind : RelocKind) (v at : ℕ)
    → w.layout.words + 4 * (length w.words + length w.stubs) ≤ w.layout.table + e.at
    → at < 8 * ((w.layout.words + 4 * (length w.words + length w.stubs)) - w.layout.table)
    → last_bit (field_in e kind v ∷ []) at ≡ None
unfolding first_bit
low_field w e kind v at behind below = field_bit_outside (field_in e kind v) at (inl (omega (arith, behind, below)))

data_field_low : (w : Working) (e : Entry) (at : ℕ) → IsBehind w e → KeepsRule e
    → at < 8 * ((w.layout.words + 4 * (length w.words + length w.stubs)) - w.layout.table)
    → last_bit (data_field e) at ≡ None
unfolding field_at
data_field_low w e at behind keeps below = by_segment e.reference.in_text refl
  where
    other : (kind : RelocKind) (o : Origin) → e.reference.in_text ≡ false → e.reference.kind ≡ Some kind → origin_of
        kind ≡ o → o ≢ Nothing → last_bit (field_in e kind (value_or (value_of kind e.reference.inputs)) ∷ []) at ≡
        None
    other kind o is has origin some =
        low_field w e kind (value_or (value_of kind e.reference.inputs)) at
        (behind.words (entry_room e kind has (λ none. some (sym origin ∙ none)) keeps.none) is) below

    by_origin : (kind : RelocKind) (o : Origin) → e.reference.in_text ≡ false → e.reference.kind ≡ Some kind →
        origin_of kind ≡ o → last_bit (field_with o kind e) at ≡ None
    by_origin kind Nothing is has origin = refl
    by_origin kind Absolute is has origin = other kind Absolute is has origin (λ n. cc n)
    by_origin kind Packet is has origin = other kind Packet is has origin (λ n. cc n)
    by_origin kind Table is has origin = other kind Table is has origin (λ n. cc n)
    by_origin kind Got is has origin = other kind Got is has origin (λ n. cc n)
    by_origin kind Index is has origin = other kind Index is has origin (λ n. cc n)
    by_origin kind Slot is has origin = other kind Slot is has origin (λ n. cc n)

    by_kind : (o : Option RelocKind) → e.reference.in_text ≡ false → e.reference.kind ≡ o → last_bit
        (field_of_kind o e) at ≡ None
    by_kind None is has = refl
    by_kind (Some kind) is has = by_origin kind (origin_of kind) is has refl

    by_segment : (t : Bool) → e.reference.in_text ≡ t → last_bit (if t then [] else field_of_kind e.reference.kind e)
        at ≡ None
    by_segment true is = refl
    by_segment false is = by_kind e.reference.kind is refl

links_low : (w : Working) (es : List Entry) (at : ℕ) → All (IsBehind w) es → All KeepsRule es
    → at < 8 * ((w.layout.words + 4 * (length w.words + length w.stubs)) - w.layout.table)
    → last_bit (data_fields es) at ≡ None
unfolding data_fields
links_low w [] at behind keeps below = refl
links_low w (e ∷ es) at behind keeps below =
    last_both (data_field e) (flat_map data_field es) at
    ∙ both_none (last_bit (flat_map data_field es) at) (last_bit (data_field e) at)
    (links_low w es at (All-tail (IsBehind w) e es behind) (All-tail KeepsRule e es keeps) below)
    (data_field_low w e at (All-head (IsBehind w) e es behind) (All-head KeepsRule e es keeps) below)

-- a bit of a value word
pub record IsBitOf (w : Working) (place at : ℕ) : Type 0 where
  pub above : 8 * ((w.layout.words - w.layout.table) + 4 * place) ≤ at
  pub below : at < 8 * ((w.layout.words - w.layout.table) + 4 * place) + 32

-- which the loader does not fill, no other word has
words_apart : (w : Working) (place at : ℕ) (wanted : Wanted) → IsWorkedOut w → slice_get w.words place ≡ Some wanted
    → is_filled_word w.objects w.bindings wanted ≡ false → IsBitOf w place at
    → All (λ (r : Rela). IsOff w.layout.table at (field_of r)) (word_relas w)
unfolding word_relas
words_apart w place at wanted worked has kept bit =
    let h = has_words w worked in
    let above = bit.above in
    let below = bit.below in
    words_hold w (λ (r : Rela). IsOff w.layout.table at (field_of r)) 0 w.words (λ i x is filled.
    let there = word_place w (0 + i) x in
    elim (leb_tells place i) [
      | inr (_, front) ↦ inr (omega (arith, front, there, above, h.words))
      | inl (_, from) ↦ elim (leb_tells (place + 1) i) [
        | inl (_, back) ↦ inl (omega (arith, back, there, below, h.words))
        | inr (_, here) ↦
            let same : i ≡ place = omega (arith, from, here) in
            let one : x ≡ wanted = cc (sym is ∙ ap (slice_get w.words) same ∙ has) in
            absurd (cc (sym filled ∙ ap (is_filled_word w.objects w.bindings) one ∙ kept))
      ]
    ])

stubs_apart : (w : Working) (place at : ℕ) → IsWorkedOut w → place < length w.words → IsBitOf w place at
    → All (λ (r : Rela). IsOff w.layout.table at (field_of r)) (stub_relas w)
unfolding stub_relas
stubs_apart w place at worked inside bit =
    let h = has_words w worked in
    let below = bit.below in
    stubs_hold w (λ (r : Rela). IsOff w.layout.table at (field_of r)) 0 w.stubs (λ i number few.
    let there = stub_place w (0 + i) number in
    inl (omega (arith, inside, there, below, h.words)))

bit_in_front : (w : Working) (place at : ℕ) → IsWorkedOut w → place < length w.words → IsBitOf w place at
    → at < 8 * ((w.layout.words + 4 * (length w.words + length w.stubs)) - w.layout.table)
bit_in_front w place at worked inside bit =
    let h = has_words w worked in
    let below = bit.below in
    omega (arith, inside, below, h.words)

entries_apart : (w : Working) (at : ℕ) → AreKept w
    → at < 8 * ((w.layout.words + 4 * (length w.words + length w.stubs)) - w.layout.table)
    → All (λ (r : Rela). IsOff w.layout.table at (field_of r)) (dynamic_relas (link_entries w))
entries_apart w at kept below =
    relas_hold (λ (r : Rela). IsOff w.layout.table at (field_of r)) (link_entries w) (λ k d inside dynamic.
    let p = filled_place w (get_or (link_entries w) k d) kept.worked (kept.behind k d inside) (kept.within k d inside)
    (kept.keeps k d inside) dynamic in
    let there = p.place in
    let words = p.words in
    inl (omega (arith, there, words, below)))

loader_apart : (w : Working) (m : Module) → AreKept w → HasParts (parts_of w) m
    → (word : ℕ → ℕ) (address : Target → ℕ) (targets : List Target) (place at : ℕ) (wanted : Wanted)
    → slice_get w.words place ≡ Some wanted → is_filled_word w.objects w.bindings wanted ≡ false → IsBitOf w place at
    → last_bit (loaded_fields m word address targets) at ≡ None
loader_apart w m kept has_of word address targets place at wanted has fixed bit =
    let inside = got w.words place wanted has in
    let above = bit.above in
    loaded_none m word address targets at (slots_front w m at kept.worked has_of (omega (arith, above)))
    (all_off w m has_of at (words_apart w place at wanted kept.worked has fixed bit)
    (entries_apart w at kept (bit_in_front w place at kept.worked inside bit))
    (stubs_apart w place at kept.worked inside bit))

-- so its bits are those of the file
zeros_behind : (old zeros : List ℕ) (at : ℕ) → at / 8 < length old → bit_in (old ++ zeros) at ≡ bit_in old at
zeros_behind old zeros at front = ap (λ b. bit_at b (at % 8)) (get_or-append old zeros 0 (at / 8) front)

word_room : (w : Working) (place : ℕ) → IsWorkedOut w → place < length w.words
    → ((w.layout.words - w.layout.table) + 4 * place) + 4 ≤ length (data_image w)
word_room w place worked inside =
    let h = has_words w worked in
    let b = bounds (laying_in w) worked.sized in
    let len = data_length w worked in
    let laid = is_laid w worked in
    omega (arith, inside, h.words, h.end, len, b.start_file, laid.table)

abbrev image_of : Module → (ℕ → ℕ) → (Target → ℕ) → List Target → List ℕ
image_of m word address targets = (loaded_image false m word address targets).bytes

abbrev zeros_of : Working → List ℕ
zeros_of w = replicate ((parts_of w).memory - length (parts_of w).content) 0

range_is : (w : Working) (m : Module) → HasParts (parts_of w) m
    → filled m.memory ≡ patched (data_image w) (data_fields (link_entries w)) ++ zeros_of w
range_is w m has_of = filled_range (parts_of w) m.memory has_of.memory ∙ ap (λ xs. xs ++ zeros_of w) (content_is w)

range_small : (w : Working) (m : Module) → HasParts (parts_of w) m → AreBytes (filled m.memory)
range_small w m has_of =
    let B : List ℕ → Type 0 = AreBytes in
    subst B (sym (range_is w m has_of))
    (with_zeros (patched (data_image w) (data_fields (link_entries w)))
    ((parts_of w).memory - length (parts_of w).content)
    (patched_bytes (data_image w) (data_fields (link_entries w))))

image_bit : (w : Working) (m : Module) → HasParts (parts_of w) m → IsValid m
    → (word : ℕ → ℕ) (address : Target → ℕ) (targets : List Target) (at : ℕ) → at / 8 < length (data_image w)
    → last_bit (data_fields (link_entries w)) at ≡ None → last_bit (loaded_fields m word address targets) at ≡ None
    → bit_in (image_of m word address targets) at ≡ bit_in (data_image w) at
image_bit w m has_of valid word address targets at inside links loaded =
    let fields : List Field = data_fields (link_entries w) in
    let r = range_patched m valid word address targets (range_small w m has_of) in
    let p = r.patched in
    let len = patched_length (data_image w) fields in
    p.bits at
    ∙ ap (λ o. or_bit o (bit_in (filled m.memory) at)) loaded
    ∙ ap (λ xs. bit_in xs at) (range_is w m has_of)
    ∙ zeros_behind (patched (data_image w) fields) (zeros_of w) at (omega (arith, inside, len))
    ∙ inside_is (data_image w) fields at inside
    ∙ ap (λ o. or_bit o (bit_in (data_image w) at)) links

image_size : (w : Working) (m : Module) → HasParts (parts_of w) m → IsValid m
    → (word : ℕ → ℕ) (address : Target → ℕ) (targets : List Target)
    → length (data_image w) ≤ length (image_of m word address targets)
image_size w m has_of valid word address targets =
    let size = (data_holds false m valid word address targets).size in
    let len = ap length (range_is w m has_of) in
    let both = length-append (patched (data_image w) (data_fields (link_entries w))) (zeros_of w) in
    let front = patched_length (data_image w) (data_fields (link_entries w)) in
    omega (arith, size, len, both, front)

fixed_held : (w : Working) (m : Module) → AreKept w → HasParts (parts_of w) m → IsValid m
    → (word : ℕ → ℕ) (address : Target → ℕ) (targets : List Target) (place : ℕ) (wanted : Wanted)
    → slice_get w.words place ≡ Some wanted → is_filled_word w.objects w.bindings wanted ≡ false
    → HoldsValue (image_of m word address targets) ((w.layout.words - w.layout.table) + 4 * place) ABS32
    (value_word w wanted % 2 ^ 32)
unfolding row_of
fixed_held w m kept has_of valid word address targets place wanted has fixed =
    let p : ℕ = (w.layout.words - w.layout.table) + 4 * place in
    let v : ℕ = value_word w wanted % 2 ^ 32 in
    let inside = got w.words place wanted has in
    let room : p + 4 ≤ length (data_image w) = word_room w place kept.worked inside in
    let size = image_size w m has_of valid word address targets in
    let r = range_patched m valid word address targets (range_small w m has_of) in
    let low : lowest (word_field p v) ≡ 8 * p = lowest_is p v in
    let within : p + 4 ≤ length (image_of m word address targets) = omega (arith, room, size) in
    held_of_bits (image_of m word address targets) (word_field p v) r.small within (λ i inside_field.
    let below : i < 32 = inside_field in
    let bit : IsBitOf w place (8 * p + i) = record { above = omega arith; below = omega (arith, below) } in
    let front = bit_in_front w place (8 * p + i) kept.worked inside bit in
    let at : lowest (word_field p v) + i ≡ 8 * p + i = ap (λ n. n + i) low in
    ap (bit_in (image_of m word address targets)) at
    ∙ image_bit w m has_of valid word address targets (8 * p + i) (omega (arith, room, below))
    (links_low w (link_entries w) (8 * p + i) kept.behind kept.keeps front)
    (loader_apart w m kept has_of word address targets place (8 * p + i) wanted has fixed bit)
    ∙ word_bit (data_image w) p (value_word w wanted) i (word_in_image w place wanted kept.worked has) below)

-- and it holds its value where it stands
plus_none : (s : ℕ) → s % 2 ^ 32 ≡ (s + cast_unsigned w32 (pos 0)) % 2 ^ 32
plus_none s = omega arith

pub fixed_word_holds : (w : Working) (m : Module) → AreKept w → HasParts (parts_of w) m
    → (board : Memory) (text base : ℕ) (word : ℕ → ℕ) (address : Target → ℕ) (targets : List Target)
    → board.base + length board.bytes < 2 ^ 32 → Stands board m text base word address targets
    → (place : ℕ) (wanted : Wanted) → slice_get w.words place ≡ Some wanted
    → is_filled_word w.objects w.bindings wanted ≡ false
    → HoldsAt board (moved_by (shift_of base m.memory.vaddr) (w.layout.words + 4 * place)) ABS32
    (word_inputs (value_word w wanted))
unfolding row_of parts_of
fixed_word_holds w m kept has_of board text base word address targets ends stands place wanted has fixed =
    let p : ℕ = (w.layout.words - w.layout.table) + 4 * place in
    let image : List ℕ = image_of m word address targets in
    let h = has_words w kept.worked in
    let inside = got w.words place wanted has in
    let start : m.memory.vaddr ≡ w.layout.table = ap (λ s. s.vaddr) has_of.memory in
    let range = stands.valid.memory.range in
    let room : p + 4 ≤ length (data_image w) = word_room w place kept.worked inside in
    let longer = image_size w m has_of stands.valid word address targets in
    let size : length image ≡ m.memory.memsz = (data_holds false m stands.valid word address targets).size ∙
    length_filled m.memory stands.valid.memory in
    let on : IsOnMemory board base m.memory.memsz = stands.range_on in
    let within = on.within in
    let P : ℕ → Type 0 = λ n. IsOnMemory board base n in
    let longest : p + 4 ≤ length image = omega (arith, room, longer) in
    let held = on_memory board base image [] image (sym (append-nil image)) (subst P (sym size) on) stands.range_part
    ABS32 p (value_word w wanted % 2 ^ 32) longest
    (fixed_held w m kept has_of stands.valid word address targets place wanted has fixed) in
    let V : ℕ → Type 0 = λ v. HoldsValue board.bytes (base + p - board.base) ABS32 v in
    let at : w.layout.words + 4 * place ≡ m.memory.vaddr + p = omega (arith, h.words, start) in
    let moved : moved_by (shift_of base m.memory.vaddr) (w.layout.words + 4 * place) ≡ base + p =
    ap (moved_by (shift_of base m.memory.vaddr)) at ∙ shift_place base m.memory.vaddr p (omega (arith, range))
    (omega (arith, room, longer, size, within, ends)) in
    let A : ℕ → Type 0 = λ n. HoldsAt board n ABS32 (word_inputs (value_word w wanted)) in
    subst A (sym moved)
    (record {
      value = (value_word w wanted + cast_unsigned w32 (pos 0)) % 2 ^ 32;
      worth = abs32_is (word_inputs (value_word w wanted));
      held = subst V (plus_none (value_word w wanted)) held;
    })
