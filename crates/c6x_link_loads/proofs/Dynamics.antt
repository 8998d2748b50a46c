-- The entries for the loader of the objects' own relocation entries.
use Rattle.std.proofs.Common.{◌≡◌, ℕ, ◌+◌, ◌*◌, ◌%◌, ◌^◌, ◌<◌, ◌≤◌, ◌&&◌, inl, not, Bool, true, false, List, [], ◌∷◌, length, Option, None, Some, nat_le, option_map, refl, sym, ap, ◌∙◌, arith, if◌then◌else◌}
use Rattle.std.proofs.lemmas.Bool.Decides.{nat_tests}
use Rattle.std.proofs.lemmas.List.Elements.{All-append, All-cons, All-head, All-nil, All-tail}
use Rattle.std.specs.List.{flat_map}
use Rattle.std.specs.Prelude.{All}
use Rattle.c6x_dsbt.specs.Wanted.{wanted_at}
use Rattle.c6x_dsbt.specs.declared.wanted.Wanted.{Wanted}
use Rattle.c6x_elf.specs.Entries.{text_of}
use Rattle.c6x_layout.proofs.Bounds.{bounds}
use Rattle.c6x_layout.specs.Layouts.{file_end, places_of, table_at}
use Rattle.c6x_layout.specs.Regions.{section_region, sections_at, zone_region}
use Rattle.c6x_layout.specs.declared.layout.Layout.{Layout}
use Rattle.c6x_link.proofs.EachEntry.{IsOf, all_entries}
use Rattle.c6x_link.proofs.EntriesInside.{HasBytes, OwnSection, entry_section, own_sized, part_is, region_own, room_own, sized_has}
use Rattle.c6x_link.proofs.Inside.{LiesIn}
use Rattle.c6x_link.proofs.Placed.{has_few_symbols, places_are}
use Rattle.c6x_link.proofs.SectionsInside.{far_in_data, near_in_data}
use Rattle.c6x_link.specs.Linked.{parts_of}
use Rattle.c6x_symbols.specs.LinkEntries.{broken, dynamic_addend, dynamic_relas, entries_error, error_at, is_dynamic, is_dynamic_kind, rela_of, relas_at}
use Rattle.c6x_symbols.specs.EntryRules.{◌<|>◌, entry_rule, is_fixed, is_inside, is_text, is_word, kind_rule, must, rule_with}
use Rattle.c6x_symbols.specs.declared.entry.Entry.{Entry}
use Rattle.c6x_symbols.specs.declared.entry.EntryError.{EntryError}
use Rattle.c6x_symbols.specs.declared.reference.Reference.{Reference}
use Rattle.c6x_link.specs.Worked.{IsWorkedOut, laying_in}
use Rattle.c6x_link.specs.Addresses.{address_in}
use Rattle.c6x_link.specs.LinkEntries.{entry_on, link_entries, link_entry, room_of, section_at, stands_in_text}
use Rattle.c6x_link.specs.Targets.{target_of}
use Rattle.c6x_link.specs.Working.{Working}
use Rattle.c6x_link_loads.specs.Loads.{IsForLoader}
use Rattle.c6x_symbols.specs.Parts.{part_of}
use Rattle.c6x_symbols.specs.Sections.{zone_of}
use Rattle.c6x_symbols.specs.declared.object_entry.ObjectEntry.{ObjectEntry}
use Rattle.c6x_symbols.specs.declared.zone.Zone.{Zone}
use Rattle.c6x_symbols.specs.declared.zone.Zone.TheVariants.{Far, Near, Text}
use Rattle.c6x_reloc.specs.Table.{row_of}
use Rattle.c6x_reloc.specs.Value.{moved}
use Rattle.c6x_reloc.specs.declared.reloc_kind.RelocKind.{RelocKind}
use Rattle.c6x_reloc.specs.declared.reloc_kind.RelocKind.TheVariants.{NONE, ABS32, ABS16, ABS8, PCR_S21, PCR_S12, PCR_S7, ABS_S16, ABS_L16, ABS_H16, SBR_U15_B, SBR_U15_H, SBR_U15_W, SBR_S16, SBR_L16_B, SBR_L16_H, SBR_L16_W, SBR_H16_B, SBR_H16_H, SBR_H16_W, SBR_GOT_U15_W, SBR_GOT_L16_W, SBR_GOT_H16_W, DSBT_INDEX, JUMP_SLOT, ALIGN, FPHEAD, NOCMP}
use Rattle.c6x_symbols.specs.declared.link_rule.LinkRule.{LinkRule}
use Rattle.c6x_symbols.specs.declared.link_rule.LinkRule.TheVariants.{PlaceOutside}
use Rattle.c6x_link_loads.proofs.ForLoader.{HasNumbers, for_loader, less_fits, word_number}
use Rattle.c6x_link_loads.proofs.Imports.{target_among}
use Rattle.c6x_link_loads.proofs.Laid.{has_place, is_laid}

-- the field of a word lies in its section where the entry breaks no rule
inside_by : (t : Bool) (rest : Option LinkRule) → (must t PlaceOutside <|> rest) ≡ None → t ≡ true
unfolding must
inside_by true rest none = refl
inside_by false rest none = absurd (cc none)

and_first : (a b : Bool) → (a && b) ≡ true → a ≡ true
and_first true b is = refl
and_first false b is = absurd (cc is)

word_room : (r : Reference) → entry_rule r ≡ None → r.kind ≡ Some ABS32 → r.offset + 4 ≤ r.room
unfolding entry_rule kind_rule is_inside row_of
word_room r none is =
    let passes : rule_with (Some ABS32) r ≡ None = ap (λ k. rule_with k r) (sym is) ∙ none in
    let inside : (nat_le (r.offset + 4) r.room && true) ≡ true = inside_by _ _ passes in
    let within : nat_le (r.offset + 4) r.room ≡ true = and_first _ _ inside in
    grind (arith, nat_tests)

word_is : (k : RelocKind) → is_word k ≡ true → k ≡ ABS32
word_is ABS32 is = refl
word_is NONE is = absurd (cc is)
word_is ABS16 is = absurd (cc is)
word_is ABS8 is = absurd (cc is)
word_is PCR_S21 is = absurd (cc is)
word_is PCR_S12 is = absurd (cc is)
word_is PCR_S7 is = absurd (cc is)
word_is ABS_S16 is = absurd (cc is)
word_is ABS_L16 is = absurd (cc is)
word_is ABS_H16 is = absurd (cc is)
word_is SBR_U15_B is = absurd (cc is)
word_is SBR_U15_H is = absurd (cc is)
word_is SBR_U15_W is = absurd (cc is)
word_is SBR_S16 is = absurd (cc is)
word_is SBR_L16_B is = absurd (cc is)
word_is SBR_L16_H is = absurd (cc is)
word_is SBR_L16_W is = absurd (cc is)
word_is SBR_H16_B is = absurd (cc is)
word_is SBR_H16_H is = absurd (cc is)
word_is SBR_H16_W is = absurd (cc is)
word_is SBR_GOT_U15_W is = absurd (cc is)
word_is SBR_GOT_L16_W is = absurd (cc is)
word_is SBR_GOT_H16_W is = absurd (cc is)
word_is DSBT_INDEX is = absurd (cc is)
word_is JUMP_SLOT is = absurd (cc is)
word_is ALIGN is = absurd (cc is)
word_is FPHEAD is = absurd (cc is)
word_is NOCMP is = absurd (cc is)

-- what is filled by the loader is a word of the data
pub record IsWord (r : Reference) : Type 0 where
  pub kind : r.kind ≡ Some ABS32
  pub data_only : r.in_text ≡ false

kind_word : (o : Option RelocKind) (moves : Bool) → is_dynamic_kind o moves ≡ true → (o ≡ Some ABS32) × (moves ≡ true)
kind_word None moves is = absurd (cc is)
kind_word (Some k) moves is = both (is_word k) moves refl is
  where
    both : (a b : Bool) → is_word k ≡ a → (a && b) ≡ true → (Some k ≡ Some ABS32) × (b ≡ true)
    both true b word e = (ap Some (word_is k word), e)
    both false b word e = absurd (cc e)

dynamic_word : (r : Reference) → is_dynamic r ≡ true → IsWord r
dynamic_word r is =
    let k = kind_word r.kind (not r.in_text && not (is_fixed r.target)) is in
    record { kind = k.0; data_only = by r.in_text (not (is_fixed r.target)) k.1 }
  where
    by : (t m : Bool) → (not t && m) ≡ true → t ≡ false
    by true m e = absurd (cc e)
    by false m e = refl

-- its section lies in the data
section_lies : (w : Working) (object : ℕ) (section : ℕ) (zone : Zone) → object < length w.objects → (s : OwnSection w object section) → zone_of s.file.names s.file.sections s.own ≡ zone → is_text (zone_region zone) ≡ false → HasBytes s.own → LiesIn (table_at (laying_in w)) s.own.size (file_end (laying_in w)) (address_in (places_of (laying_in w)) object section)
unfolding part_of
section_lies w object section Text below s is data_only bytes = absurd (cc data_only)
section_lies w object section Near below s is data_only bytes = near_in_data (laying_in w) object section (part_of object s.file section s.own) (part_is w object section below s) is bytes.filled
section_lies w object section Far below s is data_only bytes = far_in_data (laying_in w) object section (part_of object s.file section s.own) (part_is w object section below s) is bytes.filled

-- where the field lies
pub record LiesInData (w : Working) (at room : ℕ) : Type 0 where
  pub above : w.layout.table ≤ at
  pub below : at + room ≤ w.layout.end

entry_lies : (w : Working) (object : ℕ) (e : ObjectEntry) → IsWorkedOut w → object < length w.objects → IsOf object (sections_at w.objects object) e → stands_in_text w e ≡ false → 1 ≤ room_of w e → LiesInData w (section_at w e) (room_of w e)
unfolding room_of section_at stands_in_text
entry_lies w object e worked below is data_only some =
    let l = laying_in w in
    let s = entry_section w object e below is in
    let number = is.number in
    let room : length (text_of (sections_at w.objects e.object) e.section) ≡ length s.own.bytes = ap (λ k. length (text_of (sections_at w.objects k) e.section)) number ∙ ap length (room_own w object e.section below s) in
    let region : section_region w.objects e.object e.section ≡ zone_region (zone_of s.file.names s.file.sections s.own) = ap (λ k. section_region w.objects k e.section) number ∙ region_own w object e.section below s in
    let places : w.layout.places ≡ places_of l = ap (λ (y : Layout). y.places) worked.layout ∙ places_are l in
    let address : address_in w.layout.places e.object e.section ≡ address_in (places_of l) object e.section = ap (λ k. address_in w.layout.places k e.section) number ∙ ap (λ ps. address_in ps object e.section) places in
    let more : 1 ≤ length s.own.bytes = omega (arith, some, room) in
    let bytes = sized_has s.own (own_sized w object e.section below worked.objects s) more in
    let size = bytes.size in
    let lies = section_lies w object e.section (zone_of s.file.names s.file.sections s.own) below s refl (ap is_text (sym region) ∙ data_only) bytes in
    let above = lies.above in
    let under = lies.below in
    let b = bounds l worked.sized in
    let laid = is_laid w worked in
    record { above = omega (arith, above, address, laid.table); below = omega (arith, under, address, room, size, laid.end, b.file) }

-- an entry's own
pub record LoadsWell (w : Working) (e : Entry) : Type 0 where
  pub loads : error_at e ≡ None → All (IsForLoader (parts_of w)) (relas_at e)

no_error : (e : Entry) (o : Option LinkRule) → option_map (broken e) o ≡ None → o ≡ None
no_error e None none = refl
no_error e (Some rule) none = absurd (cc none)

modulo_same : (n : ℕ) → n < 2 ^ 32 → n % 2 ^ 32 ≡ n
modulo_same n small = omega (arith, small)

entry_numbers : (w : Working) (object : ℕ) (wanted : List Wanted) (e : ObjectEntry) → IsWorkedOut w → object < length w.objects → IsOf object (sections_at w.objects object) e → entry_rule (link_entry w wanted e).reference ≡ None → is_dynamic (link_entry w wanted e).reference ≡ true → HasNumbers w (rela_of (link_entry w wanted e))
unfolding link_entry entry_on rela_of dynamic_addend
entry_numbers w object wanted e worked below is none dynamic =
    let entry = link_entry w wanted e in
    let target = target_of w (wanted_at wanted e.object e.symbol) in
    let word = dynamic_word entry.reference dynamic in
    let within : e.offset + 4 ≤ room_of w e = word_room entry.reference none word.kind in
    let lies = entry_lies w object e worked below is word.data_only (omega (arith, within)) in
    let above = lies.above in
    let under = lies.below in
    let end = (has_place w worked).end in
    let place : (section_at w e + e.offset) % 2 ^ 32 ≡ section_at w e + e.offset = modulo_same (section_at w e + e.offset) (omega (arith, under, within, end)) in
    record {
      above = omega (arith, place, above);
      below = omega (arith, place, under, within);
      number = target.symbol;
      kind = 1;
      info = ap (λ k. target.symbol * 256 + k) word_number;
      known = inl refl;
      small = (has_few_symbols w worked).targets (wanted_at wanted e.object e.symbol);
      among = target_among w (wanted_at wanted e.object e.symbol);
      addend = less_fits (moved entry.reference.inputs) entry.start;
    }

entry_loads : (w : Working) (object : ℕ) (wanted : List Wanted) (e : ObjectEntry) → IsWorkedOut w → object < length w.objects → IsOf object (sections_at w.objects object) e → LoadsWell w (link_entry w wanted e)
unfolding error_at
entry_loads w object wanted e worked below is = record {
  loads = λ none. either (is_dynamic (link_entry w wanted e).reference) refl (no_error (link_entry w wanted e) (entry_rule (link_entry w wanted e).reference) none);
}
  where
    either : (t : Bool) → is_dynamic (link_entry w wanted e).reference ≡ t → entry_rule (link_entry w wanted e).reference ≡ None → All (IsForLoader (parts_of w)) (if t then rela_of (link_entry w wanted e) ∷ [] else [])
    either true dynamic none =
        All-cons (IsForLoader (parts_of w)) (rela_of (link_entry w wanted e)) [] (for_loader w (rela_of (link_entry w wanted e)) worked (entry_numbers w object wanted e worked below is none dynamic))
        (All-nil (IsForLoader (parts_of w)))
    either false dynamic none = All-nil (IsForLoader (parts_of w))

first_passes : (a b : Option EntryError) → (a <|> b) ≡ None → (a ≡ None) × (b ≡ None)
first_passes None b none = (refl, none)
first_passes (Some x) b none = absurd (cc none)

along_load : (w : Working) (es : List Entry) → All (LoadsWell w) es → entries_error es ≡ None → All (IsForLoader (parts_of w)) (flat_map relas_at es)
along_load w [] are none = All-nil (IsForLoader (parts_of w))
along_load w (e ∷ es) are none =
    let both = first_passes (error_at e) (entries_error es) none in
    All-append (IsForLoader (parts_of w)) (relas_at e) (flat_map relas_at es) ((All-head (LoadsWell w) e es are).loads both.0)
    (along_load w es (All-tail (LoadsWell w) e es are) both.1)

pub dynamics_load : (w : Working) → IsWorkedOut w → entries_error (link_entries w) ≡ None → All (IsForLoader (parts_of w)) (dynamic_relas (link_entries w))
unfolding dynamic_relas
dynamics_load w worked none =
    along_load w (link_entries w) (all_entries (LoadsWell w) w (record { each = λ object wanted e below is. entry_loads w object wanted e worked below is })) none
