-- The sections of data lie behind the words that are for the loader.
use Rattle.std.proofs.Common.{◌≡◌, ℕ, ◌+◌, ◌-◌, ◌*◌, ◌%◌, ◌^◌, ◌<◌, ◌≤◌, ◌&&◌, not, Bool, true, false, if◌then◌else◌, List, ◌++◌, length, refl, sym, ap, ◌∙◌, subst, arith}
use Rattle.std.specs.Prelude.{All, filter}
use Rattle.c6x_dsbt.specs.Wanted.{wanted_at}
use Rattle.c6x_elf.specs.Entries.{text_of}
use Rattle.c6x_layout.proofs.Sized.{ordered}
use Rattle.c6x_layout.specs.Layouts.{Laying, file_end, group_in, near_bytes_end, near_end, places_of, words_at, words_end}
use Rattle.c6x_layout.specs.Places.{in_far_bytes, in_far_zeros, in_near_bytes, in_near_zeros, in_text, is_far, is_near, is_text as is_text_zone, places_from}
use Rattle.c6x_layout.specs.Regions.{section_region, sections_at, zone_region}
use Rattle.c6x_layout.specs.declared.layout.Layout.{Layout}
use Rattle.c6x_layout.specs.declared.place.Place.{Place}
use Rattle.c6x_symbols.specs.EntryRules.{is_text}
use Rattle.c6x_symbols.specs.declared.entry.Entry.{Entry}
use Rattle.c6x_link.specs.Worked.{IsWorkedOut, laying_in}
use Rattle.c6x_link.specs.Addresses.{address_in}
use Rattle.c6x_link.specs.LinkEntries.{entry_on, link_entries, link_entry, room_of, section_at, stands_in_text}
use Rattle.c6x_link.specs.Targets.{target_of}
use Rattle.c6x_link.specs.Working.{Working}
use Rattle.c6x_link.specs.declared.target.Target.{Target}
use Rattle.c6x_layout.specs.declared.file_limits.TheConstants.{TEXT_START}
use Rattle.c6x_symbols.specs.Parts.{part_of, parts_of}
use Rattle.c6x_symbols.specs.Sections.{zone_of}
use Rattle.c6x_symbols.specs.declared.object_entry.ObjectEntry.{ObjectEntry}
use Rattle.c6x_symbols.specs.declared.part.Part.{Part}
use Rattle.c6x_symbols.specs.declared.zone.Zone.{Zone}
use Rattle.c6x_symbols.specs.declared.zone.Zone.TheVariants.{Far, Near, Text}
use Rattle.c6x_link.proofs.EachEntry.{IsOf, all_entries}
use Rattle.c6x_link.proofs.EntriesInside.{HasBytes, OwnSection, entry_section, own_sized, part_is, region_own, room_own, sized_has}
use Rattle.c6x_link.proofs.Found.{OwnPart}
use Rattle.c6x_link.proofs.Inside.{AreThe, filter_are, filter_has, filter_lacks, found_first, found_second, has_part, has_same, lies_in}
use Rattle.c6x_link.proofs.Placed.{places_are}
use Rattle.c6x_link.proofs.SectionsInside.{text_lies}
use Rattle.c6x_link_loads.proofs.Laid.{has_place, is_laid}

-- in the first places of a list
front : (test : Part → Bool) (from : ℕ) (parts : List Part) (rest : List Place) (object section : ℕ) (the : Part)
    → AreThe object section the parts → has_part parts object section ≡ true → test the ≡ true
    → from ≤ address_in (places_from from (filter test parts) ++ rest) object section
front test from parts rest object section the are has ok =
    let kept = filter_has test object section the parts ok are has in
    let same = found_first (places_from from (filter test parts)) rest object section
    (has_same from (filter test parts) object section ∙ kept) in
    let P : ℕ → Type 0 = λ a. from ≤ a in
    let lies = lies_in from (filter test parts) object section the (filter_are test object section the parts are)
    kept in
    let above = lies.above in
    subst P (sym same) above

-- behind places of other parts
behind : (test : Part → Bool) (from : ℕ) (parts : List Part) (rest : List Place) (object section : ℕ) (the : Part)
    → AreThe object section the parts → test the ≡ false
    → address_in (places_from from (filter test parts) ++ rest) object section ≡ address_in rest object section
behind test from parts rest object section the are lacks =
    found_second (places_from from (filter test parts)) rest object section
    (has_same from (filter test parts) object section ∙ filter_lacks test object section the parts lacks are)

near_above : (l : Laying) (object section : ℕ) (the : Part) → OwnPart l.objects object section the → the.zone ≡ Near
    → the.filled ≡ true → words_end l ≤ address_in (places_of l) object section
unfolding places_of
near_above l object section the own zone filled =
    let rest : List Place = places_from (near_bytes_end l) (group_in in_near_zeros l) ++
    (places_from (near_end l) (group_in in_far_bytes l) ++ places_from (file_end l) (group_in in_far_zeros l)) in
    let P : ℕ → Type 0 = λ a. words_end l ≤ a in
    let skip = behind in_text TEXT_START (parts_of l.objects)
    (places_from (words_end l) (group_in in_near_bytes l) ++ rest) object section the own.are
    (ap is_text_zone zone) in
    subst P (sym skip)
    (front in_near_bytes (words_end l) (parts_of l.objects) rest object section the own.are own.has
    (ap (λ z. is_near z && the.filled) zone ∙ filled))

far_above : (l : Laying) (object section : ℕ) (the : Part) → OwnPart l.objects object section the → the.zone ≡ Far
    → the.filled ≡ true → near_end l ≤ address_in (places_of l) object section
unfolding places_of
far_above l object section the own zone filled =
    let last : List Place = places_from (file_end l) (group_in in_far_zeros l) in
    let third : List Place = places_from (near_end l) (group_in in_far_bytes l) ++ last in
    let second : List Place = places_from (near_bytes_end l) (group_in in_near_zeros l) ++ third in
    let first : List Place = places_from (words_end l) (group_in in_near_bytes l) ++ second in
    let P : ℕ → Type 0 = λ a. near_end l ≤ a in
    let a = behind in_text TEXT_START (parts_of l.objects) first object section the own.are (ap is_text_zone zone) in
    let b = behind in_near_bytes (words_end l) (parts_of l.objects) second object section the own.are
    (ap (λ z. is_near z && the.filled) zone) in
    let c = behind in_near_zeros (near_bytes_end l) (parts_of l.objects) third object section the own.are
    (ap (λ z. is_near z && not the.filled) zone) in
    subst P (sym (a ∙ b ∙ c))
    (front in_far_bytes (near_end l) (parts_of l.objects) last object section the own.are own.has
    (ap (λ z. is_far z && the.filled) zone ∙ filled))

-- a section with bytes lies behind the start of the text, or behind the words
above_by : (w : Working) (object section : ℕ) (zone : Zone) → object < length w.objects
    → (s : OwnSection w object section) → zone_of s.file.names s.file.sections s.own ≡ zone → HasBytes s.own
    → (if is_text (zone_region zone) then TEXT_START else words_end (laying_in w)) ≤ address_in
    (places_of (laying_in w)) object section
unfolding part_of
above_by w object section Text below s is bytes =
    let lies = text_lies (laying_in w) object section (part_of object s.file section s.own)
    (part_is w object section below s) is in
    let above = lies.above in
    above
above_by w object section Near below s is bytes =
    near_above (laying_in w) object section (part_of object s.file section s.own) (part_is w object section below s)
    is bytes.filled
above_by w object section Far below s is bytes =
    let o = ordered (laying_in w) in
    let above = far_above (laying_in w) object section (part_of object s.file section s.own)
    (part_is w object section below s) is bytes.filled in
    let low : words_end (laying_in w) ≤ address_in (places_of (laying_in w)) object section = omega
    (arith, above, o.near_bytes, o.near_zeros, o.near) in
    low

entry_above : (w : Working) (object : ℕ) (e : ObjectEntry) → IsWorkedOut w → object < length w.objects
    → IsOf object (sections_at w.objects object) e → 1 ≤ room_of w e
    → (if stands_in_text w e then TEXT_START else words_end (laying_in w)) ≤ section_at w e
unfolding room_of section_at stands_in_text
entry_above w object e worked below is some =
    let s = entry_section w object e below is in
    let number = is.number in
    let room : length (text_of (sections_at w.objects e.object) e.section) ≡ length s.own.bytes = ap
    (λ k. length (text_of (sections_at w.objects k) e.section)) number ∙ ap length
    (room_own w object e.section below s) in
    let region : section_region w.objects e.object e.section ≡ zone_region
    (zone_of s.file.names s.file.sections s.own) = ap (λ k. section_region w.objects k e.section) number ∙
    region_own w object e.section below s in
    let places : w.layout.places ≡ places_of (laying_in w) = ap (λ (y : Layout). y.places) worked.layout ∙ places_are
    (laying_in w) in
    let address : address_in w.layout.places e.object e.section ≡ address_in (places_of (laying_in w)) object
    e.section = ap (λ k. address_in w.layout.places k e.section) number ∙ ap
    (λ ps. address_in ps object e.section) places in
    let more : 1 ≤ length s.own.bytes = omega (arith, some, room) in
    let bytes = sized_has s.own (own_sized w object e.section below worked.objects s) more in
    let above = above_by w object e.section (zone_of s.file.names s.file.sections s.own) below s refl bytes in
    rw (region, address) above

-- where the words end
pub record HasWords (w : Working) : Type 0 where
  pub end : words_end (laying_in w) ≡ w.layout.words + 4 * (length w.words + length w.stubs)
  pub words : w.layout.words ≡ w.layout.table + 4 * w.plan.table

end_is : (l : Laying) → words_end l ≡ words_at l + 4 * (length l.words + length l.stubs)
unfolding words_end
end_is l = refl

pub has_words : (w : Working) → IsWorkedOut w → HasWords w
has_words w worked =
    let laid = is_laid w worked in
    let place = has_place w worked in
    record { end = omega (arith, end_is (laying_in w), laid.words); words = place.words }

-- An entry of a section with bytes stands behind the start of its segment, in data behind the words.
pub record IsBehind (w : Working) (e : Entry) : Type 0 where
  pub place : 1 ≤ e.reference.room → e.reference.inputs.p ≡
      ((if e.reference.in_text then TEXT_START else w.layout.table) + (e.at + e.reference.offset)) % 2 ^ 32
  pub words : 1 ≤ e.reference.room → e.reference.in_text ≡ false → w.layout.words + 4 *
      (length w.words + length w.stubs) ≤ w.layout.table + e.at

place_by : (w : Working) (b : Bool) (at offset : ℕ) → IsWorkedOut w
    → (if b then TEXT_START else words_end (laying_in w)) ≤ at
    → (at + offset) % 2 ^ 32 ≡ ((if b then TEXT_START else w.layout.table) +
    ((at - (if b then TEXT_START else w.layout.table)) + offset)) % 2 ^ 32
place_by w true at offset worked above =
    let low : TEXT_START ≤ at = above in
    let same : at + offset ≡ TEXT_START + ((at - TEXT_START) + offset) = omega (arith, low) in
    ap (λ n. n % 2 ^ 32) same
place_by w false at offset worked above =
    let h = has_words w worked in
    let low : words_end (laying_in w) ≤ at = above in
    let same : at + offset ≡ w.layout.table + ((at - w.layout.table) + offset) = omega (arith, low, h.end, h.words) in
    ap (λ n. n % 2 ^ 32) same

words_by : (w : Working) (b : Bool) (at : ℕ) → IsWorkedOut w → b ≡ false
    → (if b then TEXT_START else words_end (laying_in w)) ≤ at
    → w.layout.words + 4 * (length w.words + length w.stubs) ≤ w.layout.table +
    (at - (if b then TEXT_START else w.layout.table))
words_by w true at worked is above = absurd (cc is)
words_by w false at worked is above =
    let h = has_words w worked in
    let low : words_end (laying_in w) ≤ at = above in
    let there : w.layout.words + 4 * (length w.words + length w.stubs) ≤ w.layout.table + (at - w.layout.table) =
    omega (arith, low, h.end, h.words) in
    there

entry_behind : (w : Working) (x : ObjectEntry) (t : Target) → IsWorkedOut w
    → (1 ≤ room_of w x → (if stands_in_text w x then TEXT_START else words_end (laying_in w)) ≤ section_at w x)
    → IsBehind w (entry_on w x t)
unfolding entry_on
entry_behind w x t worked above = record {
  place = λ some. place_by w (stands_in_text w x) (section_at w x) x.offset worked (above some);
  words = λ some is. words_by w (stands_in_text w x) (section_at w x) worked is (above some);
}

pub all_behind : (w : Working) → IsWorkedOut w → All (IsBehind w) (link_entries w)
unfolding link_entry
all_behind w worked =
    all_entries (IsBehind w) w
    (record {
      each = λ object wanted e below is. entry_behind w e (target_of w (wanted_at wanted e.object e.symbol)) worked
          (entry_above w object e worked below is);
    })
