-- The static entries of a link hold their values where its module stands.
use Rattle.std.proofs.Common.{◌≡◌, ◌≢◌, ℕ, ◌+◌, ◌-◌, ◌*◌, ◌%◌, ◌^◌, ◌<◌, ◌≤◌, Bool, true, false, if◌then◌else◌, List, [], ◌∷◌, ◌++◌, length, None, Some, refl, sym, ap, ◌∙◌, subst, append-nil, append_assoc, length-append, arith}
use Rattle.std.specs.Prelude.{All, Ok, filter, replicate}
use Rattle.std.proofs.lemmas.Grind.{flat_map-append}
use Rattle.std.proofs.lemmas.List.Elements.{filter-append}
use Rattle.c6x_spec.specs.Memory.{IsOnMemory, Memory}
use Rattle.c6x_spec.specs.Parts.{HoldsPart}
use Rattle.c6x_elf.specs.declared.file.File.{File}
use Rattle.c6x_plan.specs.declared.link_plan.LinkPlan.{LinkPlan}
use Rattle.c6x_symbols.specs.Objects.{IsObject}
use Rattle.c6x_reloc.specs.Fields.{HoldsValue, first_bit}
use Rattle.c6x_reloc.specs.Table.{row_of}
use Rattle.c6x_reloc.specs.Value.{value_of}
use Rattle.c6x_reloc.specs.declared.inputs.Inputs.{Inputs}
use Rattle.c6x_reloc.specs.declared.origin.Origin.TheVariants.{Nothing}
use Rattle.c6x_reloc.specs.declared.reloc_kind.RelocKind.{RelocKind}
use Rattle.c6x_reloc.proofs.Bytes.{patched_bytes, patched_length}
use Rattle.c6x_reloc.proofs.Held.{held_in_list}
use Rattle.c6x_reloc.proofs.RowFacts.{size_some, width_some}
use Rattle.c6x_reloc.proofs.Steps.{last_both}
use Rattle.c6x_reloc.specs.FieldBits.{AreBytes, IsLast, IsPatchedBy, last_bit, patched}
use Rattle.c6x_reloc.specs.declared.field.Field.{Field}
use Rattle.c6x_symbols.proofs.Walks.{data_is, field_is, room_in, text_is}
use Rattle.c6x_symbols.specs.LinkEntries.{IsIn, data_field, data_fields, field_in, is_dynamic, shown, text_field, text_fields}
use Rattle.c6x_symbols.specs.EntryRules.{entry_rule}
use Rattle.c6x_symbols.specs.declared.entry.Entry.{Entry}
use Rattle.c6x_link.specs.Images.{data_image, text_image}
use Rattle.c6x_layout.specs.declared.file_limits.TheConstants.{TEXT_START}
use Rattle.c6x_link.specs.LinkEntries.{link_entries}
use Rattle.c6x_link.specs.Working.{Working, working_of}
use Rattle.c6x_link.specs.Linked.{code_of, content_of, link_refusal, parts_of}
use Rattle.c6x_module.specs.Valid.{IsValid}
use Rattle.c6x_module.specs.declared.module.Module.{Module}
use Rattle.c6x_place.specs.declared.target.Target.{Target}
use Rattle.c6x_load.proofs.Images.{data_holds}
use Rattle.c6x_load.proofs.Ranges.{length_filled}
use Rattle.c6x_load.specs.Values.{data_image as loaded_image, filled, shift_of}
use Rattle.c6x_reloc.specs.Shift.{AreWords, moved_by, origin_of}
use Rattle.c6x_relocated.proofs.Stays.{stays}
use Rattle.c6x_relocated.specs.Holds.{HoldsAt}
use Rattle.c6x_relocated.proofs.MovedWords.{shift_place}
use Rattle.c6x_relocated.specs.Moved.{is_static, moved_inputs, moved_place}
use Rattle.c6x_relocated.proofs.RangePatched.{range_patched}
use Rattle.c6x_relocated.specs.Patches.{loaded_fields}
use Rattle.c6x_relocated.specs.Relocated.{IsAlone, IsLinkedModule, Stands, bit_of, fields_beside, is_filled, shifts_of}
use Rattle.c6x_relocated.proofs.Basics.{of_one}
use Rattle.c6x_relocated.proofs.Behind.{IsBehind, all_behind}
use Rattle.c6x_relocated.proofs.Kept.{IsKept, all_in, kept, no_rule, worked}
use Rattle.c6x_relocated.proofs.LinkedBits.{AreKept, KeepsRule, all_keep, clear_behind}
use Rattle.c6x_relocated.proofs.LinkedParts.{HasParts, has_parts}
use Rattle.c6x_relocated.proofs.LoadedBits.{both_none}
use Rattle.c6x_relocated.proofs.Rules.{entry_keeps, entry_static, field_inside, has_value}
use Rattle.c6x_relocated.proofs.Standing.{filled_begins, filled_range, loaded_held, on_memory, with_zeros}

-- the parts' bytes
code_is : (w : Working) → (parts_of w).code ≡ patched (text_image w) (text_fields (link_entries w))
unfolding parts_of code_of
code_is w = refl

pub content_is : (w : Working) → (parts_of w).content ≡ patched (data_image w) (data_fields (link_entries w))
unfolding parts_of content_of
content_is w = refl

-- the fields of a list around those of one entry
text_split : (before : List Entry) (e : Entry) (after : List Entry) (f : Field) → text_field e ≡ f ∷ []
    → text_fields (before ++ e ∷ after) ≡ text_fields before ++ f ∷ text_fields after
unfolding text_fields
text_split before e after f is = flat_map-append text_field before (e ∷ after) ∙ ap (λ xs. text_fields before ++ (xs ++ text_fields after)) is

data_split : (before : List Entry) (e : Entry) (after : List Entry) (f : Field) → data_field e ≡ f ∷ []
    → data_fields (before ++ e ∷ after) ≡ data_fields before ++ f ∷ data_fields after
unfolding data_fields
data_split before e after f is = flat_map-append data_field before (e ∷ after) ∙ ap (λ xs. data_fields before ++ (xs ++ data_fields after)) is

-- an entry's value stands in its field
shown_is : (e : Entry) (v : ℕ) → is_dynamic e.reference ≡ false → shown e v ≡ v
shown_is e v is = ap (λ (t : Bool). if t then 0 else v) is

-- a field of an entry that keeps the rules lies in its segment
room_of_entry : (w : Working) (e : Entry) (kind : RelocKind) (b : Bool) → e.reference.in_text ≡ b
    → IsIn (length (text_image w)) (length (data_image w)) e → 1 ≤ (row_of kind).size
    → e.reference.offset + (row_of kind).size ≤ e.reference.room
    → e.at + e.reference.offset + (row_of kind).size ≤ (if b then length (text_image w) else length (data_image w))
room_of_entry w e kind b is in_it some inside =
    let P : Bool → Type 0 = λ t. 1 ≤ e.reference.room → e.at + e.reference.room ≤ (if t then length (text_image w) else length (data_image w)) in
    room_in e.at e.reference.offset (row_of kind).size e.reference.room (if b then length (text_image w) else length (data_image w)) some inside (subst P is in_it.within)

-- An entry of a list, the bits of whose field no later entry names, and no field that the loader sets has.
abbrev pub loaded_beside : Entry → List Field → List Field
loaded_beside e loaded = if e.reference.in_text then [] else loaded

pub record IsLastEntry (entries : List Entry) (loaded : List Field) (e : Entry) (kind : RelocKind) : Type 0 where
  pub before : List Entry
  pub after : List Entry
  pub split : entries ≡ before ++ e ∷ after
  pub alone :
      (i : ℕ) → i < (row_of kind).width → last_bit (fields_beside e after ++ loaded_beside e loaded) (bit_of e kind i) ≡ None

abbrev around : Bool → List Entry → List Field → List Field
around t after loaded = (if t then text_fields after else data_fields after) ++ (if t then [] else loaded)

alone_in : (entries : List Entry) (loaded : List Field) (e : Entry) (kind : RelocKind) (t : Bool) (alone : IsLastEntry entries loaded e kind)
    → e.reference.in_text ≡ t → (i : ℕ) → i < (row_of kind).width
    → last_bit (around t alone.after loaded) (first_bit kind (e.at + e.reference.offset) + i) ≡ None
alone_in entries loaded e kind t alone is i below =
    ap (λ b. last_bit (around b alone.after loaded) (first_bit kind (e.at + e.reference.offset) + i)) (sym is) ∙ alone.alone i below

-- in the text
text_last : (entries : List Entry) (loaded : List Field) (e : Entry) (kind : RelocKind) (v len : ℕ)
    → IsLastEntry entries loaded e kind → e.reference.in_text ≡ true → text_field e ≡ field_in e kind v ∷ []
    → e.at + e.reference.offset + (row_of kind).size ≤ len → IsLast len (text_fields entries) (field_in e kind v)
text_last entries loaded e kind v len alone is one within = record {
  before = text_fields alone.before;
  after = text_fields alone.after;
  split = ap text_fields alone.split ∙ text_split alone.before e alone.after (field_in e kind v) one;
  within = within;
  alone = λ i below.
      ap (λ fs. last_bit fs (first_bit kind (e.at + e.reference.offset) + i)) (sym (append-nil (text_fields alone.after)))
      ∙ alone_in entries loaded e kind true alone is i below;
}

-- in the data
data_last : (entries : List Entry) (loaded : List Field) (e : Entry) (kind : RelocKind) (v len : ℕ)
    → IsLastEntry entries loaded e kind → e.reference.in_text ≡ false → data_field e ≡ field_in e kind v ∷ []
    → e.at + e.reference.offset + (row_of kind).size ≤ len
    → IsLast len (data_fields entries ++ loaded) (field_in e kind v)
data_last entries loaded e kind v len alone is one within = record {
  before = data_fields alone.before;
  after = data_fields alone.after ++ loaded;
  split =
      ap (λ fs. fs ++ loaded) (ap data_fields alone.split ∙ data_split alone.before e alone.after (field_in e kind v) one)
      ∙ append_assoc (data_fields alone.before) (field_in e kind v ∷ data_fields alone.after) loaded;
  within = within;
  alone = λ i below. alone_in entries loaded e kind false alone is i below;
}

-- all that holds of an entry of a link that the loader does not fill
pub record IsStatic (w : Working) (e : Entry) (kind : RelocKind) (v : ℕ) : Type 0 where
  pub words : AreWords e.reference.inputs
  pub passes : entry_rule e.reference ≡ None
  pub static : is_static (origin_of kind) e.reference.target ≡ true
  pub is : value_of kind e.reference.inputs ≡ Ok v
  pub shows : shown e v ≡ v
  pub field : (t : Bool) → e.reference.in_text ≡ t → e.at + e.reference.offset + (row_of kind).size ≤ (if t then length (text_image w) else length (data_image w))
  pub in_text : e.reference.in_text ≡ true → text_field e ≡ field_in e kind v ∷ []
  pub in_data : e.reference.in_text ≡ false → data_field e ≡ field_in e kind v ∷ []

record Static (w : Working) (e : Entry) (kind : RelocKind) : Type 0 where
  value : ℕ
  facts : IsStatic w e kind value

static_of : (w : Working) (e : Entry) (kind : RelocKind) → IsKept w e → entry_rule e.reference ≡ None
    → e.reference.kind ≡ Some kind → origin_of kind ≢ Nothing → is_dynamic e.reference ≡ false → Static w e kind
static_of w e kind k passes has some dynamic =
    let keeps = entry_keeps kind e.reference has some passes in
    let v = has_value (value_of kind e.reference.inputs) keeps.value in
    let inside = field_inside kind e.reference keeps.inside in
    record {
      value = v.value;
      facts = record {
        words = k.words;
        passes = passes;
        static = entry_static kind e.reference has keeps dynamic;
        is = v.is;
        shows = shown_is e v.value dynamic;
        field = λ t is. room_of_entry w e kind t is k.within (size_some kind) inside;
        in_text = λ is. text_is e is ∙ field_is e kind v.value has some v.is;
        in_data = λ is. data_is e is ∙ field_is e kind v.value has some v.is;
      };
    }

-- the value where the module stands
value_moved : (w : Working) (e : Entry) (kind : RelocKind) (v text base found : ℕ) (m : Module) → IsStatic w e kind v
    → e.reference.kind ≡ Some kind → shift_of text m.text.vaddr % 32 ≡ 0
    → value_of kind (moved_inputs (shifts_of m text base) found (origin_of kind) e.reference) ≡ Ok v
value_moved w e kind v text base found m facts has multiple =
    stays (shifts_of m text base) multiple found kind e.reference has facts.words facts.passes facts.static ∙ facts.is

in_text_holds : (w : Working) (m : Module) → HasParts (parts_of w) m → (board : Memory) (text : ℕ) → IsValid m
    → IsOnMemory board text m.text.memsz → HoldsPart board (record { at = text; bytes = filled m.text })
    → (loaded : List Field) (e : Entry) (kind : RelocKind) (v : ℕ) → IsStatic w e kind v
    → IsLastEntry (link_entries w) loaded e kind → e.reference.in_text ≡ true
    → HoldsValue board.bytes (text + (e.at + e.reference.offset) - board.base) kind v
in_text_holds w m has_of board text valid on part loaded e kind v facts alone is =
    let b = filled_begins (parts_of w) m.text has_of.text in
    let size : length (filled m.text) ≡ m.text.memsz = length_filled m.text valid.text in
    let within = facts.field true is in
    let code = code_is w in
    let held = held_in_list (text_image w) (text_fields (link_entries w)) (field_in e kind v) (text_last (link_entries w) loaded e kind v (length (text_image w)) alone is (facts.in_text is) within) in
    let H : List ℕ → Type 0 = λ bytes. HoldsValue bytes (e.at + e.reference.offset) kind (shown e v) in
    let V : ℕ → Type 0 = λ n. HoldsValue (parts_of w).code (e.at + e.reference.offset) kind n in
    let P : ℕ → Type 0 = λ n. IsOnMemory board text n in
    let len : length (parts_of w).code ≡ length (text_image w) = ap length code ∙ patched_length (text_image w) (text_fields (link_entries w)) in
    on_memory board text (parts_of w).code b.rest (filled m.text) b.is (subst P (sym size) on) part kind (e.at + e.reference.offset) v (omega (arith, within, len)) (subst V facts.shows (subst H (sym code) held))

in_data_holds : (w : Working) (m : Module) → HasParts (parts_of w) m
    → (board : Memory) (base : ℕ) (word : ℕ → ℕ) (address : Target → ℕ) (targets : List Target) → IsValid m
    → IsOnMemory board base m.memory.memsz
    → HoldsPart board (record { at = base; bytes = (loaded_image false m word address targets).bytes })
    → (e : Entry) (kind : RelocKind) (v : ℕ) → IsStatic w e kind v
    → IsLastEntry (link_entries w) (loaded_fields m word address targets) e kind → e.reference.in_text ≡ false
    → HoldsValue board.bytes (base + (e.at + e.reference.offset) - board.base) kind v
in_data_holds w m has_of board base word address targets valid on part e kind v facts alone is =
    let links : List Field = data_fields (link_entries w) in
    let loaded : List Field = loaded_fields m word address targets in
    let zeros : List ℕ = replicate ((parts_of w).memory - length (parts_of w).content) 0 in
    let whole : filled m.memory ≡ patched (data_image w) links ++ zeros = filled_range (parts_of w) m.memory has_of.memory ∙ ap (λ xs. xs ++ zeros) (content_is w) in
    let B : List ℕ → Type 0 = AreBytes in
    let small : AreBytes (filled m.memory) = subst B (sym whole) (with_zeros (patched (data_image w) links) ((parts_of w).memory - length (parts_of w).content) (patched_bytes (data_image w) links)) in
    let r = range_patched m valid word address targets small in
    let image : List ℕ = (loaded_image false m word address targets).bytes in
    let Q : List ℕ → Type 0 = λ xs. IsPatchedBy xs loaded image in
    let within = facts.field false is in
    let held = loaded_held (data_image w) links loaded zeros image r.small (subst Q whole r.patched) (field_in e kind v) (data_last (link_entries w) loaded e kind v (length (data_image w)) alone is (facts.in_data is) within) in
    let V : ℕ → Type 0 = λ n. HoldsValue image (e.at + e.reference.offset) kind n in
    let size : length image ≡ m.memory.memsz = (data_holds false m valid word address targets).size ∙ length_filled m.memory valid.memory in
    let P : ℕ → Type 0 = λ n. IsOnMemory board base n in
    let value = subst V facts.shows held in
    on_memory board base image [] image (sym (append-nil image)) (subst P (sym size) on) part kind (e.at + e.reference.offset) v (inside_of facts is size whole) value
  where
    inside_of : IsStatic w e kind v → e.reference.in_text ≡ false → length (loaded_image false m word address targets).bytes ≡ m.memory.memsz → filled m.memory ≡ patched (data_image w) (data_fields (link_entries w)) ++ replicate ((parts_of w).memory - length (parts_of w).content) 0 → e.at + e.reference.offset + (row_of kind).size ≤ length (loaded_image false m word address targets).bytes
    inside_of facts is size whole =
        let within = facts.field false is in
        let full = length_filled m.memory valid.memory in
        let len = ap length whole in
        let both = length-append (patched (data_image w) (data_fields (link_entries w))) (replicate ((parts_of w).memory - length (parts_of w).content) 0) in
        let front = patched_length (data_image w) (data_fields (link_entries w)) in
        omega (arith, within, size, full, len, both, front)

-- so the field holds its value
pub holds_at : (w : Working) (m : Module) → HasParts (parts_of w) m
    → (board : Memory) (text base : ℕ) (word : ℕ → ℕ) (address : Target → ℕ) (targets : List Target)
    → Stands board m text base word address targets → shift_of text m.text.vaddr % 32 ≡ 0
    → (found : ℕ) (e : Entry) (kind : RelocKind) (v : ℕ) → e.reference.kind ≡ Some kind → IsStatic w e kind v
    → IsLastEntry (link_entries w) (loaded_fields m word address targets) e kind → (t : Bool)
    → e.reference.in_text ≡ t
    → HoldsAt board ((if t then text else base) + (e.at + e.reference.offset)) kind (moved_inputs (shifts_of m text base) found (origin_of kind) e.reference)
holds_at w m has_of board text base word address targets stands multiple found e kind v has facts alone true is = record {
  value = v;
  worth = value_moved w e kind v text base found m facts has multiple;
  held = in_text_holds w m has_of board text stands.valid stands.text_on stands.text_part (loaded_fields m word address targets) e kind v facts alone is;
}
holds_at w m has_of board text base word address targets stands multiple found e kind v has facts alone false is = record {
  value = v;
  worth = value_moved w e kind v text base found m facts has multiple;
  held = in_data_holds w m has_of board base word address targets stands.valid stands.range_on stands.range_part e kind v facts alone is;
}

-- an entry that is alone has its bits last
filtered_same : (before : List Entry) (e : Entry) (after : List Entry) → is_dynamic e.reference ≡ false
    → filter is_filled (before ++ e ∷ after) ≡ filter is_filled (before ++ after)
filtered_same before e after dynamic =
    filter-append is_filled before (e ∷ after)
    ∙ ap (λ (b : Bool). filter is_filled before ++ (if b then e ∷ filter is_filled after else filter is_filled after)) dynamic
    ∙ sym (filter-append is_filled before after)

-- its field has room in its section
pub entry_room : (e : Entry) (kind : RelocKind) → e.reference.kind ≡ Some kind → origin_of kind ≢ Nothing
    → entry_rule e.reference ≡ None → 1 ≤ e.reference.room
entry_room e kind has some passes =
    let keeps = entry_keeps kind e.reference has some passes in
    let inside = field_inside kind e.reference keeps.inside in
    let size = size_some kind in
    omega (arith, inside, size)

bit_behind : (w : Working) (e : Entry) (kind : RelocKind) (i : ℕ)
    → w.layout.words + 4 * (length w.words + length w.stubs) ≤ w.layout.table + e.at
    → 8 * ((w.layout.words + 4 * (length w.words + length w.stubs)) - w.layout.table) ≤ bit_of e kind i
unfolding first_bit
bit_behind w e kind i behind = omega (arith, behind)

last_entry : (w : Working) (m : Module) → AreKept w → HasParts (parts_of w) m
    → (word : ℕ → ℕ) (address : Target → ℕ) (targets : List Target) (before : List Entry) (e : Entry) (after : List Entry) (kind : RelocKind)
    → link_entries w ≡ before ++ e ∷ after → IsBehind w e → 1 ≤ e.reference.room → is_dynamic e.reference ≡ false
    → IsAlone before e after kind → IsLastEntry (link_entries w) (loaded_fields m word address targets) e kind
last_entry w m kept has_of word address targets before e after kind split behind some dynamic alone = record {
  before = before;
  after = after;
  split = split;
  alone = λ i below. either e.reference.in_text refl i (alone.later i below) (alone.filled i below);
}
  where
    either : (t : Bool) → e.reference.in_text ≡ t → (i : ℕ) → last_bit (if t then text_fields after else data_fields after) (bit_of e kind i) ≡ None → last_bit (if t then text_fields (filter is_filled (before ++ after)) else data_fields (filter is_filled (before ++ after))) (bit_of e kind i) ≡ None → last_bit ((if t then text_fields after else data_fields after) ++ (if t then [] else loaded_fields m word address targets)) (bit_of e kind i) ≡ None
    either true is i later filled = ap (λ fs. last_bit fs (bit_of e kind i)) (append-nil (text_fields after)) ∙ later
    either false is i later filled =
        let same : filter is_filled (before ++ after) ≡ filter is_filled (link_entries w) = sym (filtered_same before e after dynamic) ∙ ap (filter is_filled) (sym split) in
        let none : last_bit (data_fields (filter is_filled (link_entries w))) (bit_of e kind i) ≡ None = ap (λ es. last_bit (data_fields es) (bit_of e kind i)) (sym same) ∙ filled in
        last_both (data_fields after) (loaded_fields m word address targets) (bit_of e kind i)
        ∙ both_none (last_bit (loaded_fields m word address targets) (bit_of e kind i)) (last_bit (data_fields after) (bit_of e kind i))
        (clear_behind w m kept has_of word address targets (bit_of e kind i) (bit_behind w e kind i (behind.words some is)) none) later

-- where a place of a segment stands
moved_mod : (d x : ℕ) → moved_by d (x % 2 ^ 32) ≡ moved_by d x
moved_mod d x = omega arith

place_moved : (at vaddr place p : ℕ) → vaddr < 2 ^ 32 → at + place < 2 ^ 32 → p ≡ (vaddr + place) % 2 ^ 32
    → at + place ≡ moved_by (shift_of at vaddr) p
place_moved at vaddr place p low fits is =
    sym (ap (moved_by (shift_of at vaddr)) is ∙ moved_mod (shift_of at vaddr) (vaddr + place) ∙ shift_place at vaddr place low fits)

below_end : (board : Memory) (address : ℕ) (kind : RelocKind) (i : Inputs) → origin_of kind ≢ Nothing
    → board.base + length board.bytes < 2 ^ 32 → HoldsAt board address kind i → address < 2 ^ 32
below_end board address kind i some ends holds =
    let held = holds.held in
    let inside = held.inside (width_some kind some) in
    let size = size_some kind in
    omega (arith, inside, size, ends)

moved_holds : (w : Working) (m : Module) → HasParts (parts_of w) m → IsValid m
    → (board : Memory) (text base : ℕ) (e : Entry) (kind : RelocKind) (i : Inputs) → origin_of kind ≢ Nothing
    → board.base + length board.bytes < 2 ^ 32 → (t : Bool)
    → e.reference.inputs.p ≡ ((if t then TEXT_START else w.layout.table) + (e.at + e.reference.offset)) % 2 ^ 32
    → HoldsAt board ((if t then text else base) + (e.at + e.reference.offset)) kind i
    → HoldsAt board (moved_place (shifts_of m text base) t e.reference.inputs.p) kind i
unfolding parts_of
moved_holds w m has_of valid board text base e kind i some ends true place holds =
    let P : ℕ → Type 0 = λ at. HoldsAt board at kind i in
    let start : m.text.vaddr ≡ TEXT_START = ap (λ s. s.vaddr) has_of.text in
    let fits = below_end board (text + (e.at + e.reference.offset)) kind i some ends holds in
    let is : e.reference.inputs.p ≡ (m.text.vaddr + (e.at + e.reference.offset)) % 2 ^ 32 = place ∙ ap (λ v. (v + (e.at + e.reference.offset)) % 2 ^ 32) (sym start) in
    subst P (place_moved text m.text.vaddr (e.at + e.reference.offset) e.reference.inputs.p (omega (arith, start)) fits is) holds
moved_holds w m has_of valid board text base e kind i some ends false place holds =
    let P : ℕ → Type 0 = λ at. HoldsAt board at kind i in
    let start : m.memory.vaddr ≡ w.layout.table = ap (λ s. s.vaddr) has_of.memory in
    let range = valid.memory.range in
    let fits = below_end board (base + (e.at + e.reference.offset)) kind i some ends holds in
    let is : e.reference.inputs.p ≡ (m.memory.vaddr + (e.at + e.reference.offset)) % 2 ^ 32 = place ∙ ap (λ v. (v + (e.at + e.reference.offset)) % 2 ^ 32) (sym start) in
    subst P (place_moved base m.memory.vaddr (e.at + e.reference.offset) e.reference.inputs.p (omega (arith, range)) fits is) holds

-- a link that breaks no rule
pub are_kept : (objects : List File) (plan : LinkPlan) → All (IsObject false) objects
    → link_refusal objects plan ≡ None → AreKept (working_of objects plan)
are_kept objects plan all none =
    let w = working_of objects plan in
    let is = worked objects plan all none in
    record {
      worked = is;
      behind = all_behind w is;
      within = all_in w is;
      keeps = all_keep (link_entries w) (no_rule objects plan none);
    }

pub static_holds : (w : Working) (m : Module) → AreKept w → HasParts (parts_of w) m
    → (board : Memory) (text base : ℕ) (word : ℕ → ℕ) (address : Target → ℕ) (targets : List Target)
    → board.base + length board.bytes < 2 ^ 32 → Stands board m text base word address targets
    → shift_of text m.text.vaddr % 32 ≡ 0
    → (found : ℕ) (before : List Entry) (e : Entry) (after : List Entry) (kind : RelocKind)
    → link_entries w ≡ before ++ e ∷ after → e.reference.kind ≡ Some kind → origin_of kind ≢ Nothing
    → is_dynamic e.reference ≡ false → IsAlone before e after kind
    → HoldsAt board (moved_place (shifts_of m text base) e.reference.in_text e.reference.inputs.p) kind (moved_inputs (shifts_of m text base) found (origin_of kind) e.reference)
static_holds w m kept_all has_of board text base word address targets ends stands multiple found before e after kind split has some dynamic alone =
    let k = kept w kept_all.worked before e after split in
    let B : List Entry → Type 0 = λ es. All (IsBehind w) es in
    let R : List Entry → Type 0 = λ es. All KeepsRule es in
    let behind = of_one (IsBehind w) before e after (subst B split kept_all.behind) in
    let rule = of_one KeepsRule before e after (subst R split kept_all.keeps) in
    let passes = rule.none in
    let room = entry_room e kind has some passes in
    let s = static_of w e kind k passes has some dynamic in
    let last = last_entry w m kept_all has_of word address targets before e after kind split behind room dynamic alone in
    let i : Inputs = moved_inputs (shifts_of m text base) found (origin_of kind) e.reference in
    moved_holds w m has_of stands.valid board text base e kind i some ends e.reference.in_text (behind.place room)
    (holds_at w m has_of board text base word address targets stands multiple found e kind s.value has s.facts last e.reference.in_text refl)

pub linked_holds : (objects : List File) (plan : LinkPlan) → All (IsObject false) objects
    → link_refusal objects plan ≡ None → (m : Module) → IsLinkedModule (parts_of (working_of objects plan)) m
    → (board : Memory) (text base : ℕ) (word : ℕ → ℕ) (address : Target → ℕ) (targets : List Target)
    → board.base + length board.bytes < 2 ^ 32 → Stands board m text base word address targets
    → shift_of text m.text.vaddr % 32 ≡ 0
    → (found : ℕ) (before : List Entry) (e : Entry) (after : List Entry) (kind : RelocKind)
    → link_entries (working_of objects plan) ≡ before ++ e ∷ after → e.reference.kind ≡ Some kind
    → origin_of kind ≢ Nothing → is_dynamic e.reference ≡ false → IsAlone before e after kind
    → HoldsAt board (moved_place (shifts_of m text base) e.reference.in_text e.reference.inputs.p) kind (moved_inputs (shifts_of m text base) found (origin_of kind) e.reference)
linked_holds objects plan all none m linked = static_holds (working_of objects plan) m (are_kept objects plan all none) (has_parts (parts_of (working_of objects plan)) m linked)
