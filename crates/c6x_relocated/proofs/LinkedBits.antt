-- The bits that the loader sets in the data range of a link.
use Rattle.std.proofs.Common.{◌≡◌, ℕ, ◌+◌, ◌-◌, ◌*◌, ◌%◌, ◌^◌, ◌<◌, ◌≤◌, ◌⊎◌, inr, ◌&&◌, not, suc, slice_get, Bool, true, false, if◌then◌else◌, List, [], ◌∷◌, ◌++◌, length, map, get_or, ◌≢◌, Option, None, Some, refl, sym, ap, ◌∙◌, subst, arith}
use Rattle.std.specs.List.{enumerate_from, flat_map}
use Rattle.std.specs.Prelude.{All, filter}
use Rattle.std.proofs.lemmas.List.Elements.{All-append, All-cons, All-head, All-nil, All-tail}
use Rattle.c6x_dsbt.specs.declared.wanted.Wanted.{Wanted}
use Rattle.c6x_elf.specs.Types.{Rela}
use Rattle.c6x_layout.proofs.Bounds.{bounds}
use Rattle.c6x_layout.specs.Dynamics.{is_filled_word}
use Rattle.c6x_reloc.specs.Table.{row_of}
use Rattle.c6x_reloc.specs.Value.{value_of}
use Rattle.c6x_reloc.specs.declared.origin.Origin.TheVariants.{Nothing}
use Rattle.c6x_reloc.specs.declared.reloc_kind.RelocKind.{RelocKind}
use Rattle.c6x_reloc.specs.declared.reloc_kind.RelocKind.TheVariants.{ABS32}
use Rattle.c6x_reloc.proofs.Steps.{last_both}
use Rattle.c6x_reloc.specs.FieldBits.{field_bit, last_bit, or_else}
use Rattle.c6x_layout.specs.declared.file_limits.TheConstants.{TEXT_START}
use Rattle.c6x_symbols.proofs.Walks.{data_is, field_is}
use Rattle.c6x_symbols.specs.LinkEntries.{IsIn, data_field, data_fields, dynamic_relas, entries_error, error_at, field_in, is_dynamic, is_dynamic_kind, rela_of, relas_at, shown}
use Rattle.c6x_symbols.specs.EntryRules.{entry_rule, is_fixed, is_word}
use Rattle.c6x_symbols.specs.declared.entry.Entry.{Entry}
use Rattle.c6x_symbols.specs.declared.reference.Reference.{Reference}
use Rattle.c6x_link.proofs.ImageParts.{data_length}
use Rattle.c6x_link.specs.Images.{data_image, text_image}
use Rattle.c6x_link.specs.Worked.{IsWorkedOut, laying_in}
use Rattle.c6x_link.specs.Words.{rela_on, stub_rela, stub_relas, word_rela, word_relas}
use Rattle.c6x_link.specs.LinkEntries.{link_entries}
use Rattle.c6x_link.specs.Working.{Working}
use Rattle.c6x_link.specs.Targets.{target_of}
use Rattle.c6x_link.specs.Linked.{parts_of}
use Rattle.c6x_link_loads.proofs.Laid.{is_laid}
use Rattle.c6x_module.specs.declared.field.Field.{Field as Dynamic}
use Rattle.c6x_module.specs.declared.module.Module.{Module}
use Rattle.c6x_module.specs.Fields.{field_of}
use Rattle.c6x_place.specs.declared.target.Target.{Target}
use Rattle.c6x_relocated.specs.Holds.{word_field}
use Rattle.c6x_relocated.specs.Patches.{loaded_fields}
use Rattle.c6x_relocated.specs.Relocated.{is_filled}
use Rattle.c6x_relocated.proofs.Basics.{got}
use Rattle.c6x_relocated.proofs.Behind.{IsBehind, has_words}
use Rattle.c6x_relocated.proofs.LinkedParts.{HasParts}
use Rattle.c6x_relocated.proofs.LoadedBits.{IsOff, fields_all, loaded_none, none_left, none_right, word_off}
use Rattle.c6x_relocated.proofs.Rules.{entry_keeps, field_inside, first, has_value, later, rule_none}

-- An entry that the loader fills is an ABS32 in data.
pub record IsWord (r : Reference) : Type 0 where
  pub kind : r.kind ≡ Some ABS32
  pub data_only : r.in_text ≡ false

word_is : (k : RelocKind) → is_word k ≡ true → k ≡ ABS32
word_is ABS32 is = refl
word_is k is = absurd (cc is)

kind_word : (o : Option RelocKind) (moves : Bool) → is_dynamic_kind o moves ≡ true → (o ≡ Some ABS32) × (moves ≡ true)
kind_word None moves is = absurd (cc is)
kind_word (Some k) moves is = both (is_word k) moves refl is
  where
    both : (a b : Bool) → is_word k ≡ a → (a && b) ≡ true → (Some k ≡ Some ABS32) × (b ≡ true)
    both true b word e = (ap Some (word_is k word), e)
    both false b word e = absurd (cc e)

pub dynamic_word : (r : Reference) → is_dynamic r ≡ true → IsWord r
dynamic_word r is =
    let k = kind_word r.kind (not r.in_text && not (is_fixed r.target)) is in
    record { kind = k.0; data_only = by r.in_text (not (is_fixed r.target)) k.1 }
  where
    by : (t m : Bool) → (not t && m) ≡ true → t ≡ false
    by true m e = absurd (cc e)
    by false m e = refl

-- the rules that a list of entries keeps
pub record KeepsRule (e : Entry) : Type 0 where
  pub none : entry_rule e.reference ≡ None

pub all_keep : (es : List Entry) → entries_error es ≡ None → All KeepsRule es
all_keep [] none = All-nil KeepsRule
all_keep (e ∷ es) none =
    All-cons KeepsRule e es (record { none = rule_none e (first (error_at e) (entries_error es) none) })
    (all_keep es (later (error_at e) (entries_error es) none))

word_origin : (row_of ABS32).origin ≢ Nothing
unfolding row_of
word_origin is = cc is

-- where the field of an entry for the loader stands
pub record FilledPlace (w : Working) (e : Entry) : Type 0 where
  pub place : (field_of (rela_of e)).place - w.layout.table ≡ e.at + e.reference.offset
  pub words : w.layout.words + 4 * (length w.words + length w.stubs) ≤ w.layout.table + e.at

offset_is : (e : Entry) → (field_of (rela_of e)).place ≡ e.reference.inputs.p
unfolding field_of rela_of
offset_is e = refl

range_end : (w : Working) → IsWorkedOut w → w.layout.table + length (data_image w) < 2 ^ 32
range_end w worked =
    let b = bounds (laying_in w) worked.sized in
    let len = data_length w worked in
    let h = is_laid w worked in
    omega (arith, len, b.data_below, b.file, b.table, h.table)

pub filled_place : (w : Working) (e : Entry) → IsWorkedOut w → IsBehind w e
    → IsIn (length (text_image w)) (length (data_image w)) e → KeepsRule e → is_dynamic e.reference ≡ true
    → FilledPlace w e
unfolding row_of
filled_place w e worked behind within keeps dynamic =
    let word = dynamic_word e.reference dynamic in
    let k = entry_keeps ABS32 e.reference word.kind word_origin keeps.none in
    let inside : e.reference.offset + 4 ≤ e.reference.room = field_inside ABS32 e.reference k.inside in
    let some : 1 ≤ e.reference.room = omega (arith, inside) in
    let B : Bool → Type 0 = λ t. e.reference.inputs.p ≡
    ((if t then TEXT_START else w.layout.table) + (e.at + e.reference.offset)) % 2 ^ 32 in
    let p : e.reference.inputs.p ≡ (w.layout.table + (e.at + e.reference.offset)) % 2 ^ 32 = subst B word.data_only
    (behind.place some) in
    let R : Bool → Type 0 = λ t. e.at + e.reference.room ≤
    (if t then length (text_image w) else length (data_image w)) in
    let room : e.at + e.reference.room ≤ length (data_image w) = subst R word.data_only (within.within some) in
    let end = range_end w worked in
    let is = offset_is e in
    record { place = omega (arith, is, p, inside, room, end); words = behind.words some word.data_only }

-- what holds of each entry that the loader fills holds of the entries for it
pub relas_hold : (Q : Rela → Type 0) (es : List Entry)
    → All (λ (e : Entry). is_dynamic e.reference ≡ true → Q (rela_of e)) es → All Q (dynamic_relas es)
unfolding dynamic_relas
relas_hold Q [] all = All-nil Q
relas_hold Q (e ∷ es) all =
    All-append Q (relas_at e) (flat_map relas_at es)
    (either (is_dynamic e.reference) refl)
    (relas_hold Q es (All-tail (λ (x : Entry). is_dynamic x.reference ≡ true → Q (rela_of x)) e es all))
  where
    either : (t : Bool) → is_dynamic e.reference ≡ t → All Q (if t then rela_of e ∷ [] else [])
    either true is = All-cons Q (rela_of e) [] (All-head
        (λ (x : Entry). is_dynamic x.reference ≡ true → Q (rela_of x)) e es all is) (All-nil Q)
    either false is = All-nil Q

-- no entry that the loader fills has a bit that the list of them has not
each_none : (at : ℕ) (es : List Entry) → last_bit (data_fields (filter is_filled es)) at ≡ None
    → All (λ (e : Entry). is_dynamic e.reference ≡ true → last_bit (data_field e) at ≡ None) es
unfolding data_fields
each_none at [] none = All-nil (λ (e : Entry). is_dynamic e.reference ≡ true → last_bit (data_field e) at ≡ None)
each_none at (e ∷ es) none =
    let both = either (is_dynamic e.reference) refl none in
    All-cons (λ (x : Entry). is_dynamic x.reference ≡ true → last_bit (data_field x) at ≡ None) e es both.0
    (each_none at es both.1)
  where
    either : (t : Bool) → is_dynamic e.reference ≡ t → last_bit
        (flat_map data_field (if t then e ∷ filter is_filled es else filter is_filled es)) at ≡ None →
        (is_dynamic e.reference ≡ true → last_bit (data_field e) at ≡ None) ×
        (last_bit (flat_map data_field (filter is_filled es)) at ≡ None)
    either true is none_is =
        let cut : or_else (last_bit (flat_map data_field (filter is_filled es)) at) (last_bit (data_field e) at) ≡
        None = sym (last_both (data_field e) (flat_map data_field (filter is_filled es)) at) ∙ none_is in (
          λ same. none_right (last_bit (flat_map data_field (filter is_filled es)) at) (last_bit (data_field e) at)
              cut,
          none_left (last_bit (flat_map data_field (filter is_filled es)) at) (last_bit (data_field e) at) cut,
        )
    either false is none_is = (λ same. absurd (cc (sym is ∙ same)), none_is)

entry_off : (w : Working) (at : ℕ) (e : Entry) → FilledPlace w e → KeepsRule e → is_dynamic e.reference ≡ true
    → last_bit (data_field e) at ≡ None → IsOff w.layout.table at (field_of (rela_of e))
unfolding row_of
entry_off w at e place keeps dynamic none =
    let word = dynamic_word e.reference dynamic in
    let some : (row_of ABS32).origin ≢ Nothing = word_origin in
    let k = entry_keeps ABS32 e.reference word.kind some keeps.none in
    let v = has_value (value_of ABS32 e.reference.inputs) k.value in
    let one : data_field e ≡ field_in e ABS32 v.value ∷ [] = data_is e word.data_only ∙ field_is e ABS32 v.value
    word.kind some v.is in
    let bit : field_bit (word_field (e.at + e.reference.offset) (shown e v.value)) at ≡ None = ap
    (λ fs. last_bit fs at) (sym one) ∙ none in
    let P : ℕ → Type 0 = λ n. (at < 8 * n) ⊎ (8 * n + 32 ≤ at) in
    subst P (sym place.place) (word_off (e.at + e.reference.offset) (shown e v.value) at bit)

-- what holds of each value word that the loader fills, and of each stub's word, holds of the entries for them
pub words_hold : (w : Working) (Q : Rela → Type 0) (n : ℕ) (xs : List Wanted)
    → ((i : ℕ) (x : Wanted) → slice_get xs i ≡ Some x → is_filled_word w.objects w.bindings x ≡ true → Q
    (rela_on w (n + i) (target_of w x)))
    → All Q (flat_map (word_rela w) (enumerate_from n xs))
unfolding word_rela
words_hold w Q n [] each = All-nil Q
words_hold w Q n (x ∷ xs) each =
    All-append Q (word_rela w (n, x)) (flat_map (word_rela w) (enumerate_from (n + 1) xs))
    (either (is_filled_word w.objects w.bindings x) refl)
    (words_hold w Q (n + 1) xs (λ i y has filled.
    let s : n + suc i ≡ n + 1 + i = omega arith in
    let P : ℕ → Type 0 = λ k. Q (rela_on w k (target_of w y)) in
    subst P s (each (suc i) y has filled)))
  where
    either : (t : Bool) → is_filled_word w.objects w.bindings x ≡ t → All Q
        (if t then rela_on w n (target_of w x) ∷ [] else [])
    either true filled =
        let z : n + 0 ≡ n = omega arith in
        let P : ℕ → Type 0 = λ k. Q (rela_on w k (target_of w x)) in
        All-cons Q (rela_on w n (target_of w x)) [] (subst P z (each 0 x refl filled)) (All-nil Q)
    either false filled = All-nil Q

pub stubs_hold : (w : Working) (Q : Rela → Type 0) (n : ℕ) (xs : List ℕ)
    → ((i number : ℕ) → i < length xs → Q (stub_rela w (n + i, number)))
    → All Q (map (stub_rela w) (enumerate_from n xs))
stubs_hold w Q n [] each = All-nil Q
stubs_hold w Q n (x ∷ xs) each =
    let z : n + 0 ≡ n = omega arith in
    let P : ℕ → Type 0 = λ k. Q (stub_rela w (k, x)) in
    All-cons Q (stub_rela w (n, x)) (map (stub_rela w) (enumerate_from (n + 1) xs))
    (subst P z (each 0 x (omega arith)))
    (stubs_hold w Q (n + 1) xs (λ i number below.
    let s : n + suc i ≡ n + 1 + i = omega arith in
    let R : ℕ → Type 0 = λ k. Q (stub_rela w (k, number)) in
    subst R s (each (suc i) number (omega (arith, below)))))

pub word_place : (w : Working) (n : ℕ) (wanted : Wanted)
    → (field_of (rela_on w n (target_of w wanted))).place ≡ w.layout.words + 4 * n
unfolding field_of
word_place w n wanted = refl

pub stub_place : (w : Working) (n number : ℕ)
    → (field_of (stub_rela w (n, number))).place ≡ w.layout.words + 4 * (length w.words + n)
unfolding field_of stub_rela
stub_place w n number = refl

-- all of them are the fields of the module
pub all_off : (w : Working) (m : Module) → HasParts (parts_of w) m → (at : ℕ)
    → All (λ (r : Rela). IsOff w.layout.table at (field_of r)) (word_relas w)
    → All (λ (r : Rela). IsOff w.layout.table at (field_of r)) (dynamic_relas (link_entries w))
    → All (λ (r : Rela). IsOff w.layout.table at (field_of r)) (stub_relas w) → All (IsOff m.memory.vaddr at) m.fields
unfolding parts_of
all_off w m has at words entries stubs =
    let Q : Rela → Type 0 = λ (r : Rela). IsOff w.layout.table at (field_of r) in
    let P : List Dynamic → Type 0 = λ fs. All (IsOff w.layout.table at) fs in
    let V : ℕ → Type 0 = λ v. All (IsOff v at) m.fields in
    let start : m.memory.vaddr ≡ w.layout.table = ap (λ s. s.vaddr) has.memory in
    let relas : All Q ((word_relas w ++ dynamic_relas (link_entries w)) ++ stub_relas w) =
    All-append Q (word_relas w ++ dynamic_relas (link_entries w)) (stub_relas w)
    (All-append Q (word_relas w) (dynamic_relas (link_entries w)) words entries) stubs in
    subst V (sym start) (subst P (sym has.fields) (fields_all (IsOff w.layout.table at)
    ((word_relas w ++ dynamic_relas (link_entries w)) ++ stub_relas w) relas))

-- behind the words no bit is set that no entry for the loader has
words_in_front : (w : Working) (at : ℕ) → IsWorkedOut w
    → 8 * ((w.layout.words + 4 * (length w.words + length w.stubs)) - w.layout.table) ≤ at
    → All (λ (r : Rela). IsOff w.layout.table at (field_of r)) (word_relas w)
unfolding word_relas
words_in_front w at worked above =
    let h = has_words w worked in
    let Q : Rela → Type 0 = λ (r : Rela). IsOff w.layout.table at (field_of r) in
    words_hold w Q 0 w.words (λ i x has filled.
    let below = got w.words i x has in
    let place = word_place w (0 + i) x in
    inr (omega (arith, below, place, above, h.words)))

stubs_in_front : (w : Working) (at : ℕ) → IsWorkedOut w
    → 8 * ((w.layout.words + 4 * (length w.words + length w.stubs)) - w.layout.table) ≤ at
    → All (λ (r : Rela). IsOff w.layout.table at (field_of r)) (stub_relas w)
unfolding stub_relas
stubs_in_front w at worked above =
    let h = has_words w worked in
    let Q : Rela → Type 0 = λ (r : Rela). IsOff w.layout.table at (field_of r) in
    stubs_hold w Q 0 w.stubs (λ i number below.
    let place = stub_place w (0 + i) number in
    inr (omega (arith, below, place, above, h.words)))

pub record AreKept (w : Working) : Type 0 where
  pub worked : IsWorkedOut w
  pub behind : All (IsBehind w) (link_entries w)
  pub within : All (IsIn (length (text_image w)) (length (data_image w))) (link_entries w)
  pub keeps : All KeepsRule (link_entries w)

entries_off : (w : Working) (at : ℕ) → AreKept w
    → last_bit (data_fields (filter is_filled (link_entries w))) at ≡ None
    → All (λ (r : Rela). IsOff w.layout.table at (field_of r)) (dynamic_relas (link_entries w))
entries_off w at kept none =
    let each = each_none at (link_entries w) none in
    relas_hold (λ (r : Rela). IsOff w.layout.table at (field_of r)) (link_entries w) (λ k d below dynamic.
    entry_off w at (get_or (link_entries w) k d)
    (filled_place w (get_or (link_entries w) k d) kept.worked (kept.behind k d below) (kept.within k d below)
    (kept.keeps k d below) dynamic)
    (kept.keeps k d below) dynamic (each k d below dynamic))

pub slots_front : (w : Working) (m : Module) (at : ℕ) → IsWorkedOut w → HasParts (parts_of w) m
    → 8 * (w.layout.words - w.layout.table) ≤ at → 8 * ((m.table - m.memory.vaddr) + 4 * m.slots) ≤ at
unfolding parts_of
slots_front w m at worked has above =
    let h = has_words w worked in
    let start : m.memory.vaddr ≡ w.layout.table = ap (λ s. s.vaddr) has.memory in
    let table : m.table ≡ w.layout.table = has.table in
    let slots : m.slots ≡ w.plan.table = has.slots in
    omega (arith, above, h.words, start, table, slots)

pub clear_behind : (w : Working) (m : Module) → AreKept w → HasParts (parts_of w) m
    → (word : ℕ → ℕ) (address : Target → ℕ) (targets : List Target) (at : ℕ)
    → 8 * ((w.layout.words + 4 * (length w.words + length w.stubs)) - w.layout.table) ≤ at
    → last_bit (data_fields (filter is_filled (link_entries w))) at ≡ None
    → last_bit (loaded_fields m word address targets) at ≡ None
clear_behind w m kept has word address targets at above none =
    loaded_none m word address targets at (slots_front w m at kept.worked has (omega (arith, above)))
    (all_off w m has at (words_in_front w at kept.worked above) (entries_off w at kept none)
    (stubs_in_front w at kept.worked above))
