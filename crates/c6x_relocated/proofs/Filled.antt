-- The entries that the loader fills hold their values.
use Rattle.std.proofs.Common.{◌≡◌, ℕ, ◌+◌, ◌%◌, ◌^◌, ◌<◌, ◌≤◌, ◌&&◌, Bool, true, false, not, if◌then◌else◌, List, [], ◌∷◌, ◌++◌, length, drop, Option, None, Some, refl, sym, ap, ◌∙◌, subst, append_assoc, arith}
use Rattle.std.specs.Prelude.{All, slice_get}
use Rattle.std.specs.Int.{cast_unsigned, w32}
use Rattle.std.proofs.lemmas.Grind.{common_steps, flat_map-append}
use Rattle.c6x_spec.specs.Memory.{Memory}
use Rattle.c6x_elf.specs.Laid.{Part as Laid, laid}
use Rattle.c6x_elf.specs.Rows.{word_bytes, word_row}
use Rattle.c6x_elf.specs.Types.{Rela}
use Rattle.c6x_elf.specs.declared.file.File.{File}
use Rattle.c6x_plan.specs.declared.link_plan.LinkPlan.{LinkPlan}
use Rattle.c6x_symbols.specs.Objects.{IsObject}
use Rattle.c6x_symbols.specs.declared.region.Region.{Region}
use Rattle.c6x_symbols.specs.declared.region.Region.TheVariants.{Absolute as Fixed, Data, Import, Text}
use Rattle.c6x_reloc.specs.Value.{less, moved}
use Rattle.c6x_reloc.specs.declared.origin.Origin.TheVariants.{Absolute}
use Rattle.c6x_reloc.specs.declared.reloc_kind.RelocKind.{RelocKind}
use Rattle.c6x_reloc.specs.declared.reloc_kind.RelocKind.TheVariants.{ABS32}
use Rattle.c6x_layout.specs.File.{text_bytes, text_parts}
use Rattle.c6x_layout.specs.Hash.{buckets_of, chains_of, hash_words}
use Rattle.c6x_layout.specs.FilePlaces.{hash_at}
use Rattle.c6x_layout.specs.Tables.{counts_of, shared_names}
use Rattle.c6x_layout.specs.declared.file_limits.TheConstants.{TEXT_START}
use Rattle.c6x_layout.specs.declared.parts.Parts.{Parts}
use Rattle.c6x_symbols.specs.LinkEntries.{dynamic_addend, dynamic_relas, is_dynamic, is_dynamic_kind, rela_of, relas_at}
use Rattle.c6x_symbols.specs.EntryRules.{is_fixed, is_word}
use Rattle.c6x_symbols.specs.declared.entry.Entry.{Entry}
use Rattle.c6x_link.specs.Words.{word_relas}
use Rattle.c6x_link.specs.LinkEntries.{link_entries}
use Rattle.c6x_link.specs.Working.{Working, working_of}
use Rattle.c6x_link.specs.Linked.{link_refusal, parts_of}
use Rattle.c6x_module.specs.Valid.{IsValid}
use Rattle.c6x_module.specs.declared.field.Field.{Field}
use Rattle.c6x_module.specs.declared.module.Module.{Module}
use Rattle.c6x_module.specs.Fields.{fields_of}
use Rattle.c6x_load.specs.Values.{shift_of, slot_word}
use Rattle.c6x_reloc.specs.Shift.{moved_by}
use Rattle.c6x_relocated.proofs.MovedWords.{start_sum}
use Rattle.c6x_relocated.specs.Holds.{HoldsAt}
use Rattle.c6x_relocated.specs.Moved.{moved_inputs, moved_symbol}
use Rattle.c6x_relocated.specs.Filled.{Finding, IsMember, address_in, definition_address, targets_in}
use Rattle.c6x_relocated.specs.Relocated.{IsLinkedModule, Stands, shifts_of}
use Rattle.c6x_relocated.proofs.LinkedParts.{HasParts, has_parts}
use Rattle.c6x_relocated.proofs.Segments.{data_definition, text_definition}
use Rattle.c6x_relocated.proofs.Targeted.{targeted}
use Rattle.c6x_relocated.proofs.Relas.{abs_holds, abs_rela, no_none}
use Rattle.c6x_relocated.proofs.Words.{IsRead, all_read, fields_have}

-- the text of a linked file is not empty
second_laid : (a b : Laid) (ps : List Laid) → length b.bytes ≤ length (laid 0 (a ∷ b ∷ ps))
second_laid a b ps = grind (arith, common_steps)

abbrev hash_part : Parts → Laid
hash_part p = record { at = hash_at (counts_of p); bytes = word_row false (hash_words (shared_names p.shared)) }

two_parts : (p : Parts) → text_parts p ≡ record { at = 0; bytes = p.code } ∷ hash_part p ∷ drop 2 (text_parts p)
unfolding text_parts
two_parts p = refl

row_some : (word : ℕ) (words : List ℕ) → 1 ≤ length (word_row false (word ∷ words))
unfolding word_bytes
row_some word words = grind (arith, common_steps)

hash_some : (names : List (List ℕ)) → 1 ≤ length (word_row false (hash_words names))
unfolding hash_words
hash_some names = row_some (length names + 3) ((length names + 3) ∷ (buckets_of (length names + 3) names ++ chains_of (length names + 3) names))

pub text_some : (p : Parts) → 1 ≤ length (text_bytes p)
unfolding text_bytes
text_some p =
    let some = hash_some (shared_names p.shared) in
    let second = second_laid (record { at = 0; bytes = p.code }) (hash_part p) (drop 2 (text_parts p)) in
    let same = ap (λ ps. length (laid 0 ps)) (two_parts p) in
    omega (arith, some, second, same)

-- the entry for the loader of an entry of the link
abbrev rela_at : Entry → Rela
rela_at e = abs_rela e.reference.inputs.p e.symbol (moved e.reference.inputs) e.start

rela_is : (e : Entry) → rela_of e ≡ rela_at e
unfolding rela_of dynamic_addend
rela_is e = refl

-- it is among those of the file
pub record Splits (relas : List Rela) (r : Rela) : Type 0 where
  pub front : List Rela
  pub back : List Rela
  pub is : relas ≡ front ++ r ∷ back

one_rela : (e : Entry) → is_dynamic e.reference ≡ true → relas_at e ≡ rela_of e ∷ []
one_rela e is = ap (λ (b : Bool). if b then rela_of e ∷ [] else []) is

dynamic_split : (before : List Entry) (e : Entry) (after : List Entry) → is_dynamic e.reference ≡ true
    → dynamic_relas (before ++ e ∷ after) ≡ dynamic_relas before ++ rela_of e ∷ dynamic_relas after
unfolding dynamic_relas
dynamic_split before e after is = flat_map-append relas_at before (e ∷ after) ∙ ap (λ xs. dynamic_relas before ++ (xs ++ dynamic_relas after)) (one_rela e is)

pub relas_are : (w : Working) → (parts_of w).relas ≡ word_relas w ++ dynamic_relas (link_entries w)
unfolding parts_of
relas_are w = refl

file_split : (w : Working) (before : List Entry) (e : Entry) (after : List Entry)
    → link_entries w ≡ before ++ e ∷ after → is_dynamic e.reference ≡ true
    → Splits ((parts_of w).relas ++ (parts_of w).jumps) (rela_of e)
file_split w before e after split is =
    let mid : dynamic_relas (link_entries w) ≡ dynamic_relas before ++ rela_of e ∷ dynamic_relas after = ap dynamic_relas split ∙ dynamic_split before e after is in
    let one : (parts_of w).relas ≡ (word_relas w ++ dynamic_relas before) ++ rela_of e ∷ dynamic_relas after =
    relas_are w ∙ ap (λ xs. word_relas w ++ xs) mid ∙ sym (append_assoc (word_relas w) (dynamic_relas before) (rela_of e ∷ dynamic_relas after)) in
    record {
      front = word_relas w ++ dynamic_relas before;
      back = dynamic_relas after ++ (parts_of w).jumps;
      is = ap (λ xs. xs ++ (parts_of w).jumps) one ∙ append_assoc (word_relas w ++ dynamic_relas before) (rela_of e ∷ dynamic_relas after) (parts_of w).jumps;
    }

-- the sum, by the segment of the symbol
pub segment_sum : (f : Finding) (position : ℕ) (m : Module) (text base symbol start s a table : ℕ) (r : Region)
    → IsMember f position m text base → IsValid m
    → slice_get m.symbols 1 ≡ Some (record { name = []; value = TEXT_START; info = 3; other = 0; section = 1 })
    → slice_get m.symbols 2 ≡ Some (record { name = []; value = table; info = 3; other = 0; section = 2 })
    → TEXT_START ≡ m.text.vaddr → table ≡ m.memory.vaddr → 1 ≤ m.text.memsz → m.memory.vaddr < 2 ^ 32
    → (r ≡ Text → symbol ≡ 1) → (r ≡ Text → start ≡ TEXT_START) → (r ≡ Data → symbol ≡ 2) → (r ≡ Data → start ≡ table)
    → (r ≡ Import → start ≡ 0) → (r ≡ Import → s ≡ 0) → not (is_fixed r) ≡ true
    → (definition_address f position m symbol + less ((s + a) % 2 ^ 32) start) % 2 ^ 32 ≡ (moved_symbol (shifts_of m text base) (definition_address f position m symbol) Absolute r s + a) % 2 ^ 32
segment_sum f position m text base symbol start s a table Text member valid has1 has2 is1 is2 some low t1 t2 d1 d2 i1 i2 moves =
    let start_is : start ≡ TEXT_START = t2 refl in
    let there : definition_address f position m symbol ≡ moved_by (shift_of text m.text.vaddr) start =
    ap (definition_address f position m) (t1 refl) ∙ text_definition f position m text base TEXT_START member has1 is1 some ∙ ap (moved_by (shift_of text m.text.vaddr)) (sym start_is) in
    ap (λ x. (x + less ((s + a) % 2 ^ 32) start) % 2 ^ 32) there ∙ start_sum s a (shift_of text m.text.vaddr) start (omega (arith, start_is))
segment_sum f position m text base symbol start s a table Data member valid has1 has2 is1 is2 some low t1 t2 d1 d2 i1 i2 moves =
    let start_is : start ≡ table = d2 refl in
    let there : definition_address f position m symbol ≡ moved_by (shift_of base m.memory.vaddr) start =
    ap (definition_address f position m) (d1 refl) ∙ data_definition f position m text base table member has2 is2 valid ∙ ap (moved_by (shift_of base m.memory.vaddr)) (sym start_is) in
    ap (λ x. (x + less ((s + a) % 2 ^ 32) start) % 2 ^ 32) there ∙ start_sum s a (shift_of base m.memory.vaddr) start (omega (arith, start_is, is2, low))
segment_sum f position m text base symbol start s a table Import member valid has1 has2 is1 is2 some low t1 t2 d1 d2 i1 i2 moves =
    let start_is : start ≡ 0 = i1 refl in
    let s_is : s ≡ 0 = i2 refl in
    import_sum (definition_address f position m symbol) s a start start_is s_is
  where
    import_sum : (d s a start : ℕ) → start ≡ 0 → s ≡ 0 → (d + less ((s + a) % 2 ^ 32) start) % 2 ^ 32 ≡ (d + a) % 2 ^ 32
    import_sum d s a start none zero_is = omega (arith, none, zero_is)
segment_sum f position m text base symbol start s a table Fixed member valid has1 has2 is1 is2 some low t1 t2 d1 d2 i1 i2 moves = absurd (cc moves)

-- a field that the loader fills is a word on what moves
moves_by : (word in_text fixed : Bool) → (word && (not in_text && not fixed)) ≡ true → not fixed ≡ true
moves_by true false false is = refl
moves_by true false true is = absurd (cc is)
moves_by true true fixed is = absurd (cc is)
moves_by false in_text fixed is = absurd (cc is)

dynamic_moves : (kind : Option RelocKind) (in_text fixed : Bool)
    → is_dynamic_kind kind (not in_text && not fixed) ≡ true → not fixed ≡ true
dynamic_moves None in_text fixed is = absurd (cc is)
dynamic_moves (Some kind) in_text fixed is = moves_by (is_word kind) in_text fixed is

pub table_is : (w : Working) → (parts_of w).table ≡ w.layout.table
unfolding parts_of
table_is w = refl

pub filled_holds : (w : Working) (m : Module) → HasParts (parts_of w) m
    → (board : Memory) (f : Finding) (position text base : ℕ) → board.base + length board.bytes < 2 ^ 32
    → IsMember f position m text base
    → Stands board m text base (slot_word f.modules f.list f.bases) (address_in f) (targets_in f position m)
    → (before : List Entry) (e : Entry) (after : List Entry) → link_entries w ≡ before ++ e ∷ after
    → is_dynamic e.reference ≡ true
    → HoldsAt board (moved_by (shift_of base m.memory.vaddr) e.reference.inputs.p) ABS32 (moved_inputs (shifts_of m text base) (definition_address f position m e.symbol) Absolute e.reference)
filled_holds w m has board f position text base ends member stands before e after split dynamic =
    let p : Parts = parts_of w in
    let r = e.reference in
    let Q : List Field → Type 0 = λ fs. All (IsRead board m base f position) fs in
    let R : Rela → Type 0 = λ x. Splits (p.relas ++ p.jumps) x in
    let s : Splits (p.relas ++ p.jumps) (rela_at e) = subst R (rela_is e) (file_split w before e after split dynamic) in
    let read = fields_have (IsRead board m base f position) s.front (rela_at e) s.back (no_none r.inputs.p e.symbol (moved r.inputs) e.start) (subst Q (has.fields ∙ ap fields_of s.is) (all_read board m text base f position stands)) in
    let t = targeted w before e after split in
    let moves = dynamic_moves r.kind r.in_text (is_fixed r.target) dynamic in
    let text_at : TEXT_START ≡ m.text.vaddr = sym (ap (λ x. x.vaddr) has.text) in
    let data_at : p.table ≡ m.memory.vaddr = sym (ap (λ x. x.vaddr) has.memory) in
    let size : m.text.memsz ≡ length (text_bytes p) = ap (λ x. x.memsz) has.text in
    let some = text_some p in
    let below = stands.valid.memory.range in
    let low : m.memory.vaddr < 2 ^ 32 = omega (arith, below) in
    let sum = segment_sum f position m text base e.symbol e.start r.inputs.s (cast_unsigned w32 r.inputs.a) p.table r.target member stands.valid has.text_symbol has.data_symbol text_at data_at (omega (arith, size, some)) low
    t.text_symbol t.text_start t.data_symbol (λ is. t.data_start is ∙ sym (table_is w)) t.import_start (λ is. t.import_value is (not r.in_text && not (is_fixed r.target)) dynamic) moves in
    abs_holds board m base f position r.inputs.p e.symbol (moved r.inputs) e.start (moved_inputs (shifts_of m text base) (definition_address f position m e.symbol) Absolute r) ends stands.range_on low read sum

pub linked_filled : (objects : List File) (plan : LinkPlan) → All (IsObject false) objects
    → link_refusal objects plan ≡ None → (m : Module) → IsLinkedModule (parts_of (working_of objects plan)) m
    → (board : Memory) (f : Finding) (position text base : ℕ) → board.base + length board.bytes < 2 ^ 32
    → IsMember f position m text base
    → Stands board m text base (slot_word f.modules f.list f.bases) (address_in f) (targets_in f position m)
    → (before : List Entry) (e : Entry) (after : List Entry)
    → link_entries (working_of objects plan) ≡ before ++ e ∷ after → is_dynamic e.reference ≡ true
    → HoldsAt board (moved_by (shift_of base m.memory.vaddr) e.reference.inputs.p) ABS32 (moved_inputs (shifts_of m text base) (definition_address f position m e.symbol) Absolute e.reference)
linked_filled objects plan all none m linked board f position text base ends member stands before e after split dynamic =
    filled_holds (working_of objects plan) m (has_parts (parts_of (working_of objects plan)) m linked) board f position text base ends member stands before e after split dynamic
