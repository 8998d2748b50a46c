-- Words of a data range, read where it stands.
use Rattle.std.proofs.Common.{◌≡◌, ℕ, zero, suc, ◌+◌, ◌-◌, ◌*◌, ◌/◌, ◌%◌, ◌^◌, ◌<◌, ◌≤◌, Bool, false, List, [], ◌∷◌, ◌++◌, length, map, get_or, refl, ap, ◌∙◌, subst, arith}
use Rattle.std.specs.Prelude.{slice_index}
use Rattle.std.specs.List.{flat_map, range_with_len}
use Rattle.std.specs.Int.{to_le_bytes, w32}
use Rattle.std.proofs.lemmas.List.{places}
use Rattle.std.proofs.lemmas.List.FromFn.{get_or-map-range_with_len, length-map-range_with_len}
use Rattle.std.proofs.lemmas.Bool.Decides.{nat_tests}
use Rattle.c6x_spec.specs.Memory.{IsOnMemory, Memory, byte_in}
use Rattle.c6x_spec.specs.Numbers.{joined_4, word_at}
use Rattle.c6x_spec.specs.Parts.{AreOn, HoldsAll, HoldsPart, Part}
use Rattle.c6x_module.specs.Valid.{IsValid}
use Rattle.c6x_module.specs.declared.field.Field.{Field}
use Rattle.c6x_module.specs.declared.module.Module.{Module}
use Rattle.c6x_place.specs.declared.target.Target.{Target}
use Rattle.c6x_load.specs.Values.{data_image, field_parts, field_value, file_image, table_bytes, word_bytes, word_part, words_of}
use Rattle.c6x_load.specs.Reads.{IsReadBack, place_at}
use Rattle.c6x_load.proofs.Images.{data_holds}
use Rattle.c6x_load.proofs.Ranges.{data_on}
use Rattle.c6x_load.proofs.Tables.{length_table, length_word}

-- the four bytes of a word
low_byte : (v n : ℕ) → n < 4 → slice_index (to_le_bytes w32 v) n ≡ v / 256 ^ n % 256
low_byte v zero inside = omega arith
low_byte v (suc zero) inside = omega arith
low_byte v (suc (suc zero)) inside = omega arith
low_byte v (suc (suc (suc zero))) inside = omega arith
low_byte v (suc (suc (suc (suc n)))) inside = absurd (omega arith)

-- a word that stands somewhere is read there
whole_word : (v a b c d : ℕ) → a ≡ v / 256 ^ 0 % 256 → b ≡ v / 256 ^ 1 % 256 → c ≡ v / 256 ^ 2 % 256 → d ≡ v / 256 ^ 3 % 256 → joined_4 a b c d ≡ v % 2 ^ 32
whole_word v a b c d first second third fourth = omega arith

byte_here : (m : Memory) (at v n place : ℕ) → n < 4 → m.base ≤ at → place ≡ at - m.base + n → HoldsPart m (word_part false at v) → slice_index m.bytes place ≡ v / 256 ^ n % 256
byte_here m at v n place inside low is holds =
    let len = length_word false v in
    let e : place ≡ at + n - m.base = omega arith in
    ap (slice_index m.bytes) e ∙ holds n (omega arith) ∙ low_byte v n inside

pub word_here : (m : Memory) (at v : ℕ) → m.base ≤ at → HoldsPart m (word_part false at v) → word_at false m.bytes (at - m.base) ≡ v % 2 ^ 32
unfolding word_at
word_here m at v low holds =
    whole_word v _ _ _ _
    (byte_here m at v 0 (at - m.base) (omega arith) low (omega arith) holds)
    (byte_here m at v 1 (at - m.base + 1) (omega arith) low (omega arith) holds)
    (byte_here m at v 2 (at - m.base + 2) (omega arith) low (omega arith) holds)
    (byte_here m at v 3 (at - m.base + 3) (omega arith) low (omega arith) holds)

-- a part of a range stands where the range does
moved_holds : (board image : Memory) (base : ℕ) (p : Part) → HoldsPart board (record { at = base; bytes = image.bytes }) → HoldsPart image p → IsOnMemory image p.at (length p.bytes) → HoldsPart board (record { at = base + (p.at - image.base); bytes = p.bytes })
moved_holds board image base p outer inner on offset inside =
    let above = on.above in
    let within = on.within in
    let e : base + (p.at - image.base) + offset ≡ base + (p.at + offset - image.base) = omega arith in
    ap (byte_in board) e ∙ outer (p.at + offset - image.base) (omega arith) ∙ inner offset inside

-- a word of a table stands in it
word_get : (w rest : List ℕ) (k : ℕ) → length w ≡ 4 → k < 4 → slice_index (w ++ rest) k ≡ slice_index w k
word_get w rest k len inside = grind (arith, places, nat_tests)

word_skip : (w rest : List ℕ) (k : ℕ) → length w ≡ 4 → slice_index (w ++ rest) (4 + k) ≡ slice_index rest k
word_skip w rest k len = grind (arith, places, nat_tests)

words_get : (big : Bool) (values : List ℕ) (i k place : ℕ) → i < length values → k < 4 → place ≡ 4 * i + k → slice_index (words_of big values) place ≡ slice_index (word_bytes big (get_or values i 0)) k
unfolding words_of
words_get big [] i k place inside within is = absurd (omega arith)
words_get big (v ∷ values) zero k place inside within is =
    let e : place ≡ k = omega arith in
    ap (slice_index (word_bytes big v ++ flat_map (word_bytes big) values)) e
    ∙ word_get (word_bytes big v) (flat_map (word_bytes big) values) k (length_word big v) within
words_get big (v ∷ values) (suc i) k place inside within is =
    let e : place ≡ 4 + (4 * i + k) = omega arith in
    ap (slice_index (word_bytes big v ++ flat_map (word_bytes big) values)) e
    ∙ word_skip (word_bytes big v) (flat_map (word_bytes big) values) (4 * i + k) (length_word big v)
    ∙ words_get big values i k (4 * i + k) (omega arith) within refl

slot_holds : (m : Memory) (at : ℕ) (word : ℕ → ℕ) (n i : ℕ) → i < n → length (table_bytes false word n) ≡ 4 * n → HoldsPart m (record { at = at; bytes = table_bytes false word n }) → HoldsPart m (word_part false (at + 4 * i) (word i))
slot_holds m at word n i inside len holds offset within =
    let four = length_word false (word i) in
    let e : at + 4 * i + offset ≡ at + (4 * i + offset) = omega arith in
    let values = map word (range_with_len 0 n) in
    let same : get_or values i 0 ≡ word i = get_or-map-range_with_len word 0 n i i 0 inside (omega arith) in
    let count = length-map-range_with_len word 0 n in
    ap (byte_in m) e ∙ holds (4 * i + offset) (omega arith) ∙ words_get false values i offset (4 * i + offset) (omega arith) (omega arith) refl
    ∙ ap (λ (v : ℕ). slice_index (word_bytes false v) offset) same

-- a field stands among the fields
field_holds : (m : Memory) (address : Target → ℕ) (fs : List Field) (ts : List Target) → HoldsAll m (field_parts false address fs ts) → (i : ℕ) (f : Field) (t : Target) → i < length fs → i < length ts → HoldsPart m (word_part false (get_or fs i f).place (field_value (get_or fs i f) (address (get_or ts i t))))
field_holds m address [] ts all i f t inside within = absurd (omega arith)
field_holds m address (x ∷ fs) [] all i f t inside within = absurd (omega arith)
field_holds m address (x ∷ fs) (y ∷ ts) all zero f t inside within = all.0
field_holds m address (x ∷ fs) (y ∷ ts) all (suc i) f t inside within = field_holds m address fs ts all.1 i f t (omega arith) (omega arith)

field_on : (m : Memory) (address : Target → ℕ) (fs : List Field) (ts : List Target) → AreOn m (field_parts false address fs ts) → (i : ℕ) (f : Field) (t : Target) → i < length fs → i < length ts → IsOnMemory m (get_or fs i f).place (length (word_bytes false (field_value (get_or fs i f) (address (get_or ts i t)))))
field_on m address [] ts all i f t inside within = absurd (omega arith)
field_on m address (x ∷ fs) [] all i f t inside within = absurd (omega arith)
field_on m address (x ∷ fs) (y ∷ ts) all zero f t inside within = all.0
field_on m address (x ∷ fs) (y ∷ ts) all (suc i) f t inside within = field_on m address fs ts all.1 i f t (omega arith) (omega arith)

still_here : (m : Module) (image : Memory) (at len : ℕ) → image.base ≡ m.memory.vaddr → length image.bytes ≡ length (file_image m).bytes → IsOnMemory (file_image m) at len → IsOnMemory image at len
still_here m image at len start size on =
    let above = on.above in
    let within = on.within in
    record { above = omega arith; within = omega arith }

field_read : (board image : Memory) (base : ℕ) (m : Module) (address : Target → ℕ) (targets : List Target) → HoldsPart board (record { at = base; bytes = image.bytes }) → image.base ≡ m.memory.vaddr → length image.bytes ≡ length (file_image m).bytes → HoldsAll image (field_parts false address m.fields targets) → AreOn (file_image m) (field_parts false address m.fields targets) → board.base ≤ base → (i : ℕ) (f : Field) (t : Target) → i < length m.fields → i < length targets → word_at false board.bytes (place_at m base (get_or m.fields i f).place - board.base) ≡ field_value (get_or m.fields i f) (address (get_or targets i t)) % 2 ^ 32
field_read board image base m address targets holds start size own on low i f t inside within =
    let place = (get_or m.fields i f).place in
    let value = field_value (get_or m.fields i f) (address (get_or targets i t)) in
    let here = still_here m image place (length (word_bytes false value)) start size (field_on (file_image m) address m.fields targets on i f t inside within) in
    let B : ℕ → Type 0 = λ (n : ℕ). HoldsPart board (word_part false (base + (place - n)) value) in
    let moved = subst B start (moved_holds board image base (word_part false place value) holds (field_holds image address m.fields targets own i f t inside within) here) in
    word_here board (place_at m base place) value (omega arith) moved

pub read_back : (board : Memory) (base : ℕ) (m : Module) → IsValid m → (word : ℕ → ℕ) (address : Target → ℕ) (targets : List Target) → board.base ≤ base → HoldsPart board (record { at = base; bytes = (data_image false m word address targets).bytes }) → IsReadBack board base m word address targets
read_back board base m valid word address targets low holds =
    let image = data_image false m word address targets in
    let all = data_holds false m valid word address targets in
    let on = data_on false m word address targets valid in
    let len = length_table false word m.slots in
    let size : length image.bytes ≡ length (file_image m).bytes = all.size in
    let start : image.base ≡ m.memory.vaddr = all.base in
    let B : ℕ → Type 0 = λ (n : ℕ). HoldsPart board (record { at = base + (m.table - n); bytes = table_bytes false word m.slots }) in
    let table = subst B start (moved_holds board image base (record { at = m.table; bytes = table_bytes false word m.slots }) holds all.own.0 (still_here m image m.table (length (table_bytes false word m.slots)) start size on.0)) in
    record {
      slots = λ i inside. word_here board (place_at m base m.table + 4 * i) (word i) (omega arith) (slot_holds board (place_at m base m.table) word m.slots i inside len table);
      fields = λ i f t inside within. field_read board image base m address targets holds start size all.own.1 on.1 low i f t inside within;
    }
