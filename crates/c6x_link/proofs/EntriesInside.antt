-- Each relocation entry of a link lies in the bytes of its segment, if its section has bytes.
use Rattle.std.proofs.Common.{◌≡◌, ℕ, zero, suc, ◌+◌, ◌-◌, ◌^◌, ◌<◌, ◌≤◌, Bool, true, false, List, [], ◌∷◌, Option, None, Some, length, get_or, map, refl, sym, ap, subst, ◌∙◌, arith, if◌then◌else◌}
use Rattle.std.specs.Prelude.{All, slice_get, slice_index_or}
use Rattle.std.proofs.lemmas.List.{get_or-map}
use Rattle.std.proofs.lemmas.List.Elements.{All-get_or}
use Rattle.c6x_dsbt.specs.Wanted.{wanted_at}
use Rattle.c6x_dsbt.specs.declared.wanted.Wanted.{Wanted}
use Rattle.c6x_elf.specs.Entries.{section_bytes, text_of}
use Rattle.c6x_elf.specs.Form.{IsSized, own_head}
use Rattle.c6x_elf.specs.Parts.{has_bytes, section_size}
use Rattle.c6x_elf.specs.Writing.{section_head_at}
use Rattle.c6x_elf.specs.declared.file.File.{File}
use Rattle.c6x_elf.specs.declared.section.Section.{Section}
use Rattle.c6x_layout.proofs.Sized.{ordered}
use Rattle.c6x_layout.specs.Layouts.{Laying, code_end, file_end, places_of, sections_end, table_at}
use Rattle.c6x_layout.specs.Regions.{names_at, names_in, region_of_section, section_region, sections_at, sections_in, zone_region}
use Rattle.c6x_symbols.specs.LinkEntries.{IsIn}
use Rattle.c6x_symbols.specs.EntryRules.{is_text}
use Rattle.c6x_symbols.specs.declared.entry.Entry.{Entry}
use Rattle.c6x_link.specs.Addresses.{address_in}
use Rattle.c6x_link.specs.LinkEntries.{entry_on, link_entries, link_entry, room_of, section_at, stands_in_text}
use Rattle.c6x_link.specs.Targets.{target_of}
use Rattle.c6x_link.specs.Working.{Working}
use Rattle.c6x_link.specs.declared.target.Target.{Target}
use Rattle.c6x_layout.specs.declared.file_limits.TheConstants.{TEXT_START}
use Rattle.c6x_symbols.specs.Objects.{IsObject}
use Rattle.c6x_symbols.specs.Parts.{part_of, parts_of}
use Rattle.c6x_symbols.specs.Sections.{is_allocated, is_allocated_at, is_allocated_one, zone_of}
use Rattle.c6x_symbols.specs.declared.object_entry.ObjectEntry.{ObjectEntry}
use Rattle.c6x_symbols.specs.declared.part.Part.{Part}
use Rattle.c6x_symbols.specs.declared.region.Region.TheVariants.{Absolute}
use Rattle.c6x_symbols.specs.declared.zone.Zone.{Zone}
use Rattle.c6x_symbols.specs.declared.zone.Zone.TheVariants.{Far, Near, Text}
use Rattle.c6x_link.proofs.EachEntry.{IsOf, Serves, all_entries}
use Rattle.c6x_link.proofs.Found.{OwnPart, own_part}
use Rattle.c6x_link.proofs.Inside.{LiesIn}
use Rattle.c6x_link.proofs.SectionsInside.{far_in_data, near_in_data, text_lies}

abbrev pub laying_in : Working → Laying
laying_in w = record { objects = w.objects; bindings = w.bindings; words = w.words; stubs = w.stubs; plan = w.plan }

-- a section with bytes has as many as its size says
pub record HasBytes (own : Section) : Type 0 where
  pub filled : has_bytes own.kind ≡ true
  pub size : length own.bytes ≡ own.size

sized_by : (b : Bool) (len size : ℕ) (own : Section) → has_bytes own.kind ≡ b → len ≡ length own.bytes → size ≡ own.size → len ≡ (if b then size else 0) → 1 ≤ len → HasBytes own
sized_by true len size own is l s same some = record { filled = is; size = sym l ∙ same ∙ s }
sized_by false len size own is l s same some = absurd (omega (arith, same, some))

pub sized_has : (own : Section) → IsSized own → 1 ≤ length own.bytes → HasBytes own
unfolding section_size section_head_at
sized_has own sized some = sized_by (has_bytes own.kind) (length own.bytes) own.size own refl refl refl sized.size some

-- what lies in a segment counts from its start
at_within : (a size room start end last len : ℕ) → LiesIn start size end a → end ≤ last → room ≡ size → len ≡ last - start → (a - start) + room ≤ len
at_within a size room start end last len lies less same is =
    let above = lies.above in
    let below = lies.below in
    omega (arith, above, below, less, same, is)

-- the entry's section
pub record OwnSection (w : Working) (object section : ℕ) : Type 0 where
  pub file : File
  pub own : Section
  pub file_is : (d : File) → get_or w.objects object d ≡ file
  pub inside : section < length file.sections
  pub own_is : (d : Section) → get_or file.sections section d ≡ own
  pub allocated : is_allocated own ≡ true

got : (xs : List Section) (i : ℕ) (own : Section) → slice_get xs i ≡ Some own → i < length xs
got [] i own is = absurd (cc is)
got (x ∷ xs) zero own is = omega arith
got (x ∷ xs) (suc i) own is = let rest = got xs i own is in omega (arith, rest)

got_is : (xs : List Section) (i : ℕ) (own d : Section) → slice_get xs i ≡ Some own → get_or xs i d ≡ own
got_is [] i own d is = absurd (cc is)
got_is (x ∷ xs) zero own d is = cc is
got_is (x ∷ xs) (suc i) own d is = got_is xs i own d is

file_always : (objects : List File) (object : ℕ) (d e : File) → object < length objects → get_or objects object d ≡ get_or objects object e
file_always [] object d e below = absurd (omega (arith, below))
file_always (f ∷ fs) zero d e below = refl
file_always (f ∷ fs) (suc object) d e below = file_always fs object d e (omega (arith, below))

no_file : File
no_file = record { kind = 0; entry = 0; flags = 0; names = 0; segments = []; sections = [] }

at_file : (w : Working) (object : ℕ) → object < length w.objects → sections_at w.objects object ≡ (get_or w.objects object no_file).sections
unfolding sections_at
at_file w object below = get_or-map sections_in w.objects object no_file [] below

names_file : (w : Working) (object : ℕ) → object < length w.objects → names_at w.objects object ≡ (get_or w.objects object no_file).names
unfolding names_at
names_file w object below = get_or-map names_in w.objects object no_file 0 below

-- the section of an entry of an object
found_own : (w : Working) (object section : ℕ) (slot : Option Section) → object < length w.objects → slice_get (sections_at w.objects object) section ≡ slot → is_allocated_one slot ≡ true → OwnSection w object section
found_own w object section None below is allocated = absurd (cc allocated)
found_own w object section (Some own) below is allocated =
    let same : sections_at w.objects object ≡ (get_or w.objects object no_file).sections = at_file w object below in
    let here : slice_get (get_or w.objects object no_file).sections section ≡ Some own = ap (λ ss. slice_get ss section) (sym same) ∙ is in
    record {
      file = get_or w.objects object no_file;
      own = own;
      file_is = λ d. file_always w.objects object d no_file below;
      inside = got (get_or w.objects object no_file).sections section own here;
      own_is = λ d. got_is (get_or w.objects object no_file).sections section own d here;
      allocated = allocated;
    }

allocated_slot : (sections : List Section) (section : ℕ) → is_allocated_at sections section ≡ true → is_allocated_one (slice_get sections section) ≡ true
unfolding is_allocated_at
allocated_slot sections section is = is

pub entry_section : (w : Working) (object : ℕ) (e : ObjectEntry) → object < length w.objects → IsOf object (sections_at w.objects object) e → OwnSection w object e.section
entry_section w object e below is =
    found_own w object e.section (slice_get (sections_at w.objects object) e.section) below refl (allocated_slot (sections_at w.objects object) e.section is.allocated)

-- its region and its bytes
region_by : (names : ℕ) (sections : List Section) (own : Section) (b : Bool) → is_allocated own ≡ b → b ≡ true → region_of_section names sections (Some own) ≡ zone_region (zone_of names sections own)
region_by names sections own true is sure = ap (λ (t : Bool). if t then zone_region (zone_of names sections own) else Absolute) is
region_by names sections own false is sure = absurd (cc sure)

own_slot : (xs : List Section) (i : ℕ) → i < length xs → (own : Section) → ((d : Section) → get_or xs i d ≡ own) → slice_get xs i ≡ Some own
own_slot [] i below own is = absurd (omega (arith, below))
own_slot (x ∷ xs) zero below own is = ap Some (is x)
own_slot (x ∷ xs) (suc i) below own is = own_slot xs i (omega (arith, below)) own is

pub region_own : (w : Working) (object section : ℕ) → object < length w.objects → (s : OwnSection w object section) → section_region w.objects object section ≡ zone_region (zone_of s.file.names s.file.sections s.own)
unfolding section_region
region_own w object section below s =
    let file : get_or w.objects object no_file ≡ s.file = s.file_is no_file in
    let ss : sections_at w.objects object ≡ s.file.sections = at_file w object below ∙ ap (λ (f : File). f.sections) file in
    let nn : names_at w.objects object ≡ s.file.names = names_file w object below ∙ ap (λ (f : File). f.names) file in
    ap (λ n. region_of_section n (sections_at w.objects object) (slice_get (sections_at w.objects object) section)) nn
    ∙ ap (λ xs. region_of_section s.file.names xs (slice_get xs section)) ss
    ∙ ap (region_of_section s.file.names s.file.sections) (own_slot s.file.sections section s.inside s.own s.own_is)
    ∙ region_by s.file.names s.file.sections s.own (is_allocated s.own) refl s.allocated

pub room_own : (w : Working) (object section : ℕ) → object < length w.objects → (s : OwnSection w object section) → text_of (sections_at w.objects object) section ≡ s.own.bytes
unfolding text_of
room_own w object section below s =
    let file : get_or w.objects object no_file ≡ s.file = s.file_is no_file in
    let ss : sections_at w.objects object ≡ s.file.sections = at_file w object below ∙ ap (λ (f : File). f.sections) file in
    ap (λ xs. slice_index_or (map section_bytes xs) section []) ss
    ∙ get_or-map section_bytes s.file.sections section s.own [] s.inside
    ∙ ap section_bytes (s.own_is s.own)

-- where it lies
pub record IsPlaced (w : Working) (text range : ℕ) : Type 0 where
  pub places : w.layout.places ≡ places_of (laying_in w)
  pub table : w.layout.table ≡ table_at (laying_in w)
  pub text_is : text ≡ code_end (laying_in w) - TEXT_START
  pub range_is : range ≡ file_end (laying_in w) - table_at (laying_in w)
  pub small : code_end (laying_in w) < 2 ^ 32
  pub small_range : file_end (laying_in w) < 2 ^ 32
  pub objects : All (IsObject false) w.objects

pub part_is : (w : Working) (object section : ℕ) → object < length w.objects → (s : OwnSection w object section) → OwnPart w.objects object section (part_of object s.file section s.own)
part_is w object section below s = own_part w.objects object section s.file s.own below s.file_is s.inside s.own_is s.allocated

lies_by : (w : Working) (text range : ℕ) (object section : ℕ) (zone : Zone) → IsPlaced w text range → object < length w.objects → (s : OwnSection w object section) → zone_of s.file.names s.file.sections s.own ≡ zone → HasBytes s.own → (address_in (places_of (laying_in w)) object section - (if is_text (zone_region zone) then TEXT_START else table_at (laying_in w))) + length s.own.bytes ≤ (if is_text (zone_region zone) then text else range)
unfolding part_of
lies_by w text range object section Text placed below s is bytes =
    at_within (address_in (places_of (laying_in w)) object section) s.own.size (length s.own.bytes) TEXT_START (sections_end (laying_in w)) (code_end (laying_in w)) text
    (text_lies (laying_in w) object section (part_of object s.file section s.own) (part_is w object section below s) is)
    (ordered (laying_in w)).code bytes.size placed.text_is
lies_by w text range object section Near placed below s is bytes =
    at_within (address_in (places_of (laying_in w)) object section) s.own.size (length s.own.bytes) (table_at (laying_in w)) (file_end (laying_in w)) (file_end (laying_in w)) range
    (near_in_data (laying_in w) object section (part_of object s.file section s.own) (part_is w object section below s) is bytes.filled)
    (omega arith) bytes.size placed.range_is
lies_by w text range object section Far placed below s is bytes =
    at_within (address_in (places_of (laying_in w)) object section) s.own.size (length s.own.bytes) (table_at (laying_in w)) (file_end (laying_in w)) (file_end (laying_in w)) range
    (far_in_data (laying_in w) object section (part_of object s.file section s.own) (part_is w object section below s) is bytes.filled)
    (omega arith) bytes.size placed.range_is

pub own_sized : (w : Working) (object section : ℕ) → object < length w.objects → All (IsObject false) w.objects → (s : OwnSection w object section) → IsSized s.own
own_sized w object section below all s =
    let P : File → Type 0 = λ f. IsObject false f in
    let Q : Section → Type 0 = λ x. IsSized x in
    let form = subst P (s.file_is no_file) (All-get_or (IsObject false) w.objects object no_file below all) in
    subst Q (s.own_is s.own) (All-get_or IsSized s.file.sections section s.own s.inside form.form.sized)

-- so an entry is in the bytes of its segment
within_by : (w : Working) (text range : ℕ) (object : ℕ) (e : ObjectEntry) (target : Target) → IsPlaced w text range → object < length w.objects → e.object ≡ object → OwnSection w object e.section → 1 ≤ room_of w e → (section_at w e - (if stands_in_text w e then TEXT_START else w.layout.table)) + room_of w e ≤ (if stands_in_text w e then text else range)
unfolding room_of section_at stands_in_text
within_by w text range object e target placed below number s some =
    let room : length (text_of (sections_at w.objects e.object) e.section) ≡ length s.own.bytes = ap (λ k. length (text_of (sections_at w.objects k) e.section)) number ∙ ap length (room_own w object e.section below s) in
    let region : section_region w.objects e.object e.section ≡ zone_region (zone_of s.file.names s.file.sections s.own) = ap (λ k. section_region w.objects k e.section) number ∙ region_own w object e.section below s in
    let address : address_in w.layout.places e.object e.section ≡ address_in (places_of (laying_in w)) object e.section = ap (λ k. address_in w.layout.places k e.section) number ∙ ap (λ ps. address_in ps object e.section) placed.places in
    let more : 1 ≤ length s.own.bytes = omega (arith, some, room) in
    let bytes = sized_has s.own (own_sized w object e.section below placed.objects s) more in
    let lies = lies_by w text range object e.section (zone_of s.file.names s.file.sections s.own) placed below s refl bytes in
    rw (room, region, address, placed.table) lies

pub all_inside : (w : Working) (text range : ℕ) → IsPlaced w text range → All (IsIn text range) (link_entries w)
unfolding link_entry entry_on
all_inside w text range placed =
    all_entries (IsIn text range) w
    (record {
      each = λ object wanted e below is. record {
        within = λ some. within_by w text range object e (target_of w (wanted_at wanted e.object e.symbol)) placed below is.number (entry_section w object e below is) some;
        small_text = omega (arith, placed.text_is, placed.small);
        small_range = omega (arith, placed.range_is, placed.small_range);
      };
    })
