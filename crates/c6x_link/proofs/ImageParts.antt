-- What the layout of a link gives for the parts of its images.
use Rattle.std.proofs.Common.{◌≡◌, ℕ, ◌+◌, ◌-◌, ◌*◌, ◌<◌, ◌≤◌, ◌==◌, Bool, true, false, List, [], ◌∷◌, ◌++◌, length, map, filter, get_or, nat_le, nat_lt, Option, None, Some, refl, sym, ap, ◌∙◌, subst, cond, length-append, append_assoc, if◌then◌else◌, arith}
use Rattle.std.proofs.lemmas.Bool.Decides.{nat_tests}
use Rattle.std.proofs.lemmas.List.{append-nil, get_or-append-add, length-map}
use Rattle.std.proofs.lemmas.List.Elements.{filter-append}
use Rattle.std.proofs.lemmas.List.FromFn.{length-range_with_len}
use Rattle.std.specs.List.{enumerate_from, flat_map, range_with_len}
use Rattle.std.specs.Prelude.{All}
use Rattle.c6x_elf.proofs.EntryWalks.{text_here}
use Rattle.c6x_elf.proofs.Unpacked.{own_length}
use Rattle.c6x_elf.proofs.NumberRows.{length-word_row}
use Rattle.c6x_elf.specs.Entries.{text_of}
use Rattle.c6x_elf.specs.Form.{IsSized}
use Rattle.c6x_elf.specs.Laid.{InOrder, Part, laid}
use Rattle.c6x_elf.specs.Parts.{has_bytes}
use Rattle.c6x_elf.specs.Rows.{word_row}
use Rattle.c6x_elf.specs.declared.file.File.{File}
use Rattle.c6x_elf.specs.declared.section.Section.{Section}
use Rattle.c6x_layout.proofs.CommonsLaid.{commons_above}
use Rattle.c6x_layout.proofs.Laid.{start_above}
use Rattle.c6x_layout.specs.Layouts.{Laying, code_end, counts_of, data_end, far_zeros_end, file_end, group_in, greatest_word, layout_of, most_32, word_refusal, near_bytes_end, near_end, near_zeros_end, places_of, sections_end, size_refusal, stubs_at, table_at, text_end, words_at, words_end}
use Rattle.c6x_layout.specs.Places.{AreApart, in_far_bytes, in_far_zeros, in_near_bytes, in_near_zeros, in_text, place_of, places_end, places_from, start_of}
use Rattle.c6x_layout.specs.Regions.{sections_at}
use Rattle.c6x_layout.specs.declared.limits.TheConstants.{MOST_STUB_WORD, PAGE, STUB_ALIGN, STUB_BYTES}
use Rattle.c6x_layout.specs.declared.place.Place.{Place}
use Rattle.c6x_layout.specs.FilePlaces.{dynamic_at, hash_at, jumps_at, relas_at, strings_at, symbols_at, text_size}
use Rattle.c6x_layout.specs.declared.counts.Counts.{Counts}
use Rattle.c6x_spec.specs.Rounded.{rounded}
use Rattle.c6x_layout.specs.declared.file_limits.TheConstants.{MOST_SEGMENT_BYTES, TEXT_START}
use Rattle.c6x_symbols.specs.Objects.{IsObject}
use Rattle.c6x_symbols.specs.Parts.{file_parts, part_at, part_of, parts_of}
use Rattle.c6x_symbols.specs.Sections.{is_allocated}
use Rattle.c6x_symbols.specs.declared.part.Part.{Part as Sect}
use Rattle.c6x_link.specs.Images.{data_image, first_stub_word, is_in_file, is_in_text, section_part, stub_parts, stub_row, stub_rows, stub_words, text_image, value_word, value_words}
use Rattle.c6x_symbols.specs.Rules.{Refusal, ◌<|>◌, must, refusal}
use Rattle.c6x_symbols.specs.declared.link_rule.LinkRule.TheVariants.{Large}
use Rattle.c6x_link.specs.Sections.{is_between, parts_between}
use Rattle.c6x_link.specs.Worked.{HasFewStubs, IsWorkedOut, laying_in}
use Rattle.c6x_link.specs.Working.{Working}
use Rattle.c6x_link.proofs.ImageOrder.{AreFilled, laid_length, parts_end, apart_append, apart_filter, apart_least, apart_places, apart_wider, drop_every, filled_filter, keep_all, order_lower, order_parts, section_end}
use Rattle.c6x_link.proofs.SectionRows.{sections_here}

-- each section of the objects has no more bytes than its part's length
abbrev pub PartsFilled : List File → List Sect → Type 0
PartsFilled objects [] = Unit {0}
PartsFilled objects (p ∷ ps) = (length (text_of (sections_at objects p.object) p.section) ≤ p.size) × PartsFilled objects ps

parts_append : (objects : List File) (xs ys : List Sect) → PartsFilled objects xs → PartsFilled objects ys → PartsFilled objects (xs ++ ys)
parts_append objects [] ys first second = second
parts_append objects (x ∷ xs) ys first second = (first.0, parts_append objects xs ys first.1 second)

parts_filter : (objects : List File) (test : Sect → Bool) (ps : List Sect) → PartsFilled objects ps → PartsFilled objects (filter test ps)
parts_filter objects test [] are = are
parts_filter objects test (p ∷ ps) are = either (test p) refl (parts_filter objects test ps are.1)
  where
    either : (t : Bool) → test p ≡ t → PartsFilled objects (filter test ps) → PartsFilled objects (filter test (p ∷ ps))
    either true is rest = rw is (are.0, rest)
    either false is rest = rw is rest

filled_from : (objects : List File) (from : ℕ) (ps : List Sect) → PartsFilled objects ps → AreFilled objects (places_from from ps)
filled_from objects from [] are = are
filled_from objects from (p ∷ ps) are = (are.0, filled_from objects (start_of from p.align + p.size) ps are.1)

filled_append : (objects : List File) (xs ys : List Place) → AreFilled objects xs → AreFilled objects ys → AreFilled objects (xs ++ ys)
filled_append objects [] ys first second = second
filled_append objects (x ∷ xs) ys first second = (first.0, filled_append objects xs ys first.1 second)

size_above : (s : Section) → IsSized s → length s.bytes ≤ s.size
size_above s sized = either (has_bytes s.kind) (own_length s sized)
  where
    either : (b : Bool) → length s.bytes ≡ cond b s.size 0 → length s.bytes ≤ s.size
    either true is = omega (arith, is)
    either false is = omega (arith, is)

file_filled : (objects : List File) (object : ℕ) (file : File) (front back : List Section) → sections_at objects object ≡ file.sections → file.sections ≡ front ++ back → All IsSized file.sections
    → PartsFilled objects (flat_map (part_at object file) (enumerate_from (length front) back))
unfolding part_at part_of
file_filled objects object file front [] at split sized = tt
file_filled objects object file front (s ∷ back) at split sized =
    let e : file.sections ≡ (front ++ s ∷ []) ++ back = split ∙ sym (append_assoc front (s ∷ []) back) in
    let n : length (front ++ s ∷ []) ≡ length front + 1 = length-append front (s ∷ []) in
    let more : length (front ++ (s ∷ back)) ≡ length front + length (s ∷ back) = length-append front (s ∷ back) in
    let inside : length front < length file.sections = omega (arith, ap length split, more) in
    let z : length front + 0 ≡ length front = omega arith in
    let here : get_or file.sections (length front) s ≡ s = ap (λ xs. get_or xs (length front) s) split ∙ ap (λ k. get_or (front ++ (s ∷ back)) k s) (sym z) ∙ get_or-append-add front (s ∷ back) 0 s in
    let is_sized : IsSized s = subst IsSized here (sized (length front) s inside) in
    let text : text_of (sections_at objects object) (length front) ≡ s.bytes = ap (λ xs. text_of xs (length front)) at ∙ text_here file.sections (length front) s inside ∙ ap (λ (x : Section). x.bytes) here in
    let few : length (text_of (sections_at objects object) (length front)) ≤ s.size = rw text (size_above s is_sized) in
    let P : ℕ → Type 0 = λ k. PartsFilled objects (flat_map (part_at object file) (enumerate_from k back)) in
    one (is_allocated s) refl few (subst P n (file_filled objects object file (front ++ s ∷ []) back at e sized))
  where
    one : (b : Bool) → is_allocated s ≡ b → length (text_of (sections_at objects object) (length front)) ≤ s.size → PartsFilled objects (flat_map (part_at object file) (enumerate_from (length front + 1) back)) → PartsFilled objects (flat_map (part_at object file) (enumerate_from (length front) (s ∷ back)))
    one true is few rest = rw is (few, rest)
    one false is few rest = rw is rest

files_filled : (objects front files : List File) → objects ≡ front ++ files → All (IsObject false) objects → PartsFilled objects (flat_map file_parts (enumerate_from (length front) files))
unfolding file_parts
files_filled objects front [] split are = tt
files_filled objects front (file ∷ files) split are =
    let e : objects ≡ (front ++ file ∷ []) ++ files = split ∙ sym (append_assoc front (file ∷ []) files) in
    let n : length (front ++ file ∷ []) ≡ length front + 1 = length-append front (file ∷ []) in
    let more : length (front ++ (file ∷ files)) ≡ length front + length (file ∷ files) = length-append front (file ∷ files) in
    let inside : length front < length objects = omega (arith, ap length split, more) in
    let z : length front + 0 ≡ length front = omega arith in
    let here : get_or objects (length front) file ≡ file = ap (λ xs. get_or xs (length front) file) split ∙ ap (λ k. get_or (front ++ (file ∷ files)) k file) (sym z) ∙ get_or-append-add front (file ∷ files) 0 file in
    let is_object : IsObject false file = subst (IsObject false) here (are (length front) file inside) in
    let at : sections_at objects (length front) ≡ file.sections = sections_here objects (length front) file inside ∙ ap (λ (f : File). f.sections) here in
    let P : ℕ → Type 0 = λ k. PartsFilled objects (flat_map file_parts (enumerate_from k files)) in
    parts_append objects (flat_map (part_at (length front) file) (enumerate_from 0 file.sections)) (flat_map file_parts (enumerate_from (length front + 1) files))
    (file_filled objects (length front) file [] file.sections at refl is_object.form.sized)
    (subst P n (files_filled objects (front ++ file ∷ []) files e are))

parts_filled : (objects : List File) → All (IsObject false) objects → PartsFilled objects (parts_of objects)
unfolding parts_of
parts_filled objects are = files_filled objects [] objects refl are

-- where the groups end
code_below : (c : Counts) → c.code ≤ text_size c
unfolding text_size dynamic_at jumps_at relas_at strings_at symbols_at hash_at
code_below c = omega arith

stubs_up : (n : ℕ) → n ≤ rounded n 32
stubs_up n = omega arith

page_up : (n : ℕ) → n ≤ rounded n 4096
page_up n = omega arith

stubs_behind : (l : Laying) → sections_end l ≤ rounded (sections_end l) STUB_ALIGN
stubs_behind l = stubs_up (sections_end l)

code_above : (l : Laying) → sections_end l ≤ code_end l
unfolding code_end
code_above l = either (length l.stubs == 0)
  where
    either : (b : Bool) → sections_end l ≤ (if b then sections_end l else rounded (sections_end l) STUB_ALIGN + STUB_BYTES * length l.stubs)
    either true = omega arith
    either false = let up = stubs_behind l in omega (arith, up)

text_apart : (l : Laying) → AreApart TEXT_START (places_from TEXT_START (group_in in_text l)) (sections_end l)
unfolding sections_end
text_apart l = apart_places TEXT_START (group_in in_text l)

table_above : (l : Laying) → text_end l + PAGE ≤ table_at l
unfolding table_at
table_above l = page_up (text_end l + PAGE)

text_above : (l : Laying) → sections_end l ≤ text_end l
unfolding text_end counts_of
text_above l =
    let code = code_below (counts_of l) in
    let least = apart_least TEXT_START (sections_end l) (places_from TEXT_START (group_in in_text l)) (text_apart l) in
    let above = code_above l in
    omega (arith, code, least, above)

pub text_below : (l : Laying) → sections_end l < table_at l
text_below l = let a = text_above l in let b = table_above l in omega (arith, a, b)

words_above : (l : Laying) → table_at l ≤ words_end l
unfolding words_end words_at
words_above l = omega arith

-- the data's places with bytes in the file, and those behind them
abbrev file_places : Laying → List Place
file_places l =
    places_from (words_end l) (group_in in_near_bytes l)
    ++ (places_from (near_bytes_end l) (group_in in_near_zeros l) ++ places_from (near_end l) (group_in in_far_bytes l))

abbrev zero_places : Laying → List Place
zero_places l = places_from (file_end l) (group_in in_far_zeros l)

file_apart : (l : Laying) → AreApart (words_end l) (file_places l) (file_end l)
unfolding near_bytes_end near_zeros_end near_end file_end
file_apart l =
    apart_append (words_end l) (near_bytes_end l) (file_end l) (places_from (words_end l) (group_in in_near_bytes l)) (places_from (near_bytes_end l) (group_in in_near_zeros l) ++ places_from (near_end l) (group_in in_far_bytes l))
    (apart_places (words_end l) (group_in in_near_bytes l))
    (apart_append (near_bytes_end l) (near_end l) (file_end l) (places_from (near_bytes_end l) (group_in in_near_zeros l)) (places_from (near_end l) (group_in in_far_bytes l))
    (apart_wider (near_bytes_end l) (near_zeros_end l) (near_end l) (places_from (near_bytes_end l) (group_in in_near_zeros l)) (commons_above true (near_zeros_end l) l.bindings) (apart_places (near_bytes_end l) (group_in in_near_zeros l)))
    (apart_places (near_end l) (group_in in_far_bytes l)))

zero_apart : (l : Laying) → AreApart (file_end l) (zero_places l) (far_zeros_end l)
unfolding far_zeros_end
zero_apart l = apart_places (file_end l) (group_in in_far_zeros l)

places_split : (l : Laying) → places_of l ≡ places_from TEXT_START (group_in in_text l) ++ (file_places l ++ zero_places l)
unfolding places_of
places_split l =
    let a = places_from (words_end l) (group_in in_near_bytes l) in
    let b = places_from (near_bytes_end l) (group_in in_near_zeros l) in
    let c = places_from (near_end l) (group_in in_far_bytes l) in
    let d = zero_places l in
    ap (λ xs. places_from TEXT_START (group_in in_text l) ++ xs) (ap (λ xs. a ++ xs) (sym (append_assoc b c d)) ∙ sym (append_assoc a (b ++ c) d))

-- which places lie in which image
below_true : (a h : ℕ) → a < h → nat_lt a h ≡ true
below_true a h below = grind (arith, nat_tests)

below_false : (a h : ℕ) → h ≤ a → nat_lt a h ≡ false
below_false a h above = grind (arith, nat_tests)

least_false : (a h : ℕ) → a < h → nat_le h a ≡ false
least_false a h below = grind (arith, nat_tests)

abbrev is_below : ℕ → Place → Bool
is_below h p = nat_lt p.address h

text_filter : (l : Laying) → filter (is_below (table_at l)) (places_of l) ≡ places_from TEXT_START (group_in in_text l)
text_filter l =
    let text = places_from TEXT_START (group_in in_text l) in
    let rest = file_places l ++ zero_places l in
    let below = text_below l in
    let above = words_above l in
    ap (filter (is_below (table_at l))) (places_split l)
    ∙ filter-append (is_below (table_at l)) text rest
    ∙ ap (λ xs. xs ++ filter (is_below (table_at l)) rest) (keep_all (is_below (table_at l)) TEXT_START (sections_end l) text (λ p low high. below_true p.address (table_at l) (omega (arith, high, below))) (text_apart l))
    ∙ ap (λ xs. text ++ xs) (drop_every (is_below (table_at l)) (words_end l) (far_zeros_end l) rest (λ p low high. below_false p.address (table_at l) (omega (arith, low, above))) (apart_append (words_end l) (file_end l) (far_zeros_end l) (file_places l) (zero_places l) (file_apart l) (zero_apart l)))
    ∙ append-nil text

low_out : (low high : ℕ) (p : Place) → p.address < low → is_between low high p ≡ false
low_out low high p below = rw (least_false p.address low below) refl

high_out : (low high : ℕ) (p : Place) → high ≤ p.address → is_between low high p ≡ false
high_out low high p above = either (nat_le low p.address)
  where
    either : (b : Bool) → (if b then nat_lt p.address high else false) ≡ false
    either true = below_false p.address high above
    either false = refl

file_filter : (l : Laying) → filter (is_between (table_at l) (file_end l)) (places_of l) ≡ filter (is_between (table_at l) (file_end l)) (file_places l)
file_filter l =
    let text = places_from TEXT_START (group_in in_text l) in
    let test : Place → Bool = is_between (table_at l) (file_end l) in
    let below = text_below l in
    ap (filter test) (places_split l)
    ∙ filter-append test text (file_places l ++ zero_places l)
    ∙ ap (λ xs. xs ++ filter test (file_places l ++ zero_places l)) (drop_every test TEXT_START (sections_end l) text (λ p low high. low_out (table_at l) (file_end l) p (omega (arith, high, below))) (text_apart l))
    ∙ filter-append test (file_places l) (zero_places l)
    ∙ ap (λ xs. filter test (file_places l) ++ xs) (drop_every test (file_end l) (far_zeros_end l) (zero_places l) (λ p low high. high_out (table_at l) (file_end l) p low) (zero_apart l))
    ∙ append-nil (filter test (file_places l))

-- they are filled
group_filled : (l : Laying) (test : Sect → Bool) → All (IsObject false) l.objects → PartsFilled l.objects (group_in test l)
group_filled l test are = parts_filter l.objects test (parts_of l.objects) (parts_filled l.objects are)

text_filled : (l : Laying) → All (IsObject false) l.objects → AreFilled l.objects (places_from TEXT_START (group_in in_text l))
text_filled l are = filled_from l.objects TEXT_START (group_in in_text l) (group_filled l in_text are)

file_filled_places : (l : Laying) → All (IsObject false) l.objects → AreFilled l.objects (file_places l)
file_filled_places l are =
    filled_append l.objects (places_from (words_end l) (group_in in_near_bytes l)) (places_from (near_bytes_end l) (group_in in_near_zeros l) ++ places_from (near_end l) (group_in in_far_bytes l))
    (filled_from l.objects (words_end l) (group_in in_near_bytes l) (group_filled l in_near_bytes are))
    (filled_append l.objects (places_from (near_bytes_end l) (group_in in_near_zeros l)) (places_from (near_end l) (group_in in_far_bytes l))
    (filled_from l.objects (near_bytes_end l) (group_in in_near_zeros l) (group_filled l in_near_zeros are))
    (filled_from l.objects (near_end l) (group_in in_far_bytes l) (group_filled l in_far_bytes are)))

-- the ends of parts
ends_parts : (objects : List File) (start from : ℕ) (ps : List Sect) (rest : List Part) → start ≤ from → AreFilled objects (places_from from ps)
    → parts_end (from - start) (map (section_part objects start) (places_from from ps) ++ rest) ≡ parts_end (places_end from ps - start) rest
ends_parts objects start from [] rest behind are = refl
ends_parts objects start from (p ∷ ps) rest behind are =
    let up = start_above from p.align in
    let at : start ≤ start_of from p.align = omega (arith, behind, up) in
    let end = section_end objects start (place_of (start_of from p.align) p) at are.0 in
    ap (λ n. parts_end n (map (section_part objects start) (places_from (start_of from p.align + p.size) ps) ++ rest)) end
    ∙ ends_parts objects start (start_of from p.align + p.size) ps rest (omega (arith, at)) are.1

ends_last : (from : ℕ) (parts : List Part) (last : Part) → parts_end from (parts ++ last ∷ []) ≡ last.at + length last.bytes
ends_last from [] last = refl
ends_last from (part ∷ parts) last = ends_last (part.at + length part.bytes) parts last

rows_length : (numbers : List ℕ) → length (flat_map stub_row numbers) ≡ 16 * length numbers
rows_length [] = refl
rows_length (n ∷ numbers) = omega (arith, length-append (stub_row n) (flat_map stub_row numbers), length-word_row false (stub_words n), rows_length numbers)

stub_length : (w : Working) → length (stub_rows w) ≡ 16 * length w.stubs
unfolding stub_rows
stub_length w = rows_length (range_with_len (first_stub_word w) (length w.stubs)) ∙ ap (λ n. 16 * n) (length-range_with_len (first_stub_word w) (length w.stubs))

-- the stubs behind the sections of the text, for any place that the layout gives them
abbrev stub_parts_at : ℕ → Working → List Part
stub_parts_at at w = if length w.stubs == 0 then [] else record { at = at - TEXT_START; bytes = stub_rows w } ∷ []

stubs_order : (w : Working) → InOrder (sections_end (laying_in w) - TEXT_START) (stub_parts_at (stubs_at (laying_in w)) w)
unfolding stubs_at
stubs_order w = either (length w.stubs == 0)
  where
    either : (b : Bool) → InOrder (sections_end (laying_in w) - TEXT_START) (if b then [] else record { at = (if b then 0 else rounded (sections_end (laying_in w)) STUB_ALIGN) - TEXT_START; bytes = stub_rows w } ∷ [])
    either true = tt
    either false = let up = stubs_behind (laying_in w) in (omega (arith, up), tt)

stubs_end : (w : Working) → parts_end (sections_end (laying_in w) - TEXT_START) (stub_parts_at (stubs_at (laying_in w)) w) ≡ code_end (laying_in w) - TEXT_START
unfolding stubs_at code_end
stubs_end w = either (length w.stubs == 0)
  where
    either : (b : Bool) → parts_end (sections_end (laying_in w) - TEXT_START) (if b then [] else record { at = (if b then 0 else rounded (sections_end (laying_in w)) STUB_ALIGN) - TEXT_START; bytes = stub_rows w } ∷ [])
        ≡ (if b then sections_end (laying_in w) else rounded (sections_end (laying_in w)) STUB_ALIGN + STUB_BYTES * length w.stubs) - TEXT_START
    either true = refl
    either false =
        let up = stubs_behind (laying_in w) in
        let least = apart_least TEXT_START (sections_end (laying_in w)) (places_from TEXT_START (group_in in_text (laying_in w))) (text_apart (laying_in w)) in
        omega (arith, up, least, stub_length w)

-- the text's parts
zero_least : (n : ℕ) → nat_le 0 n ≡ true
zero_least n = grind (arith, nat_tests)

between_zero : (high : ℕ) (p : Place) → is_between 0 high p ≡ nat_lt p.address high
between_zero high p = rw (zero_least p.address) refl

in_text_same : (w : Working) → filter (is_between 0 w.layout.table) w.layout.places ≡ filter (is_in_text w) w.layout.places
in_text_same w = λ i. filter (λ p. between_zero w.layout.table p i) w.layout.places

text_places : (w : Working) → IsWorkedOut w → filter (is_in_text w) w.layout.places ≡ places_from TEXT_START (group_in in_text (laying_in w))
unfolding layout_of
text_places w is = rw is.layout (text_filter (laying_in w))

text_stubs : (w : Working) → IsWorkedOut w → stub_parts w ≡ stub_parts_at (stubs_at (laying_in w)) w
unfolding layout_of
text_stubs w is = rw is.layout refl

abbrev pub text_parts : Working → List Part
text_parts w = map (section_part w.objects TEXT_START) (filter (is_in_text w) w.layout.places)

text_parts_are : (w : Working) → IsWorkedOut w → text_parts w ≡ map (section_part w.objects TEXT_START) (places_from TEXT_START (group_in in_text (laying_in w)))
text_parts_are w is = ap (map (section_part w.objects TEXT_START)) (text_places w is)

text_in_order : (w : Working) → IsWorkedOut w → (rest : List Part) → InOrder (sections_end (laying_in w) - TEXT_START) rest → InOrder 0 (text_parts w ++ rest)
text_in_order w is rest order =
    let P : List Part → Type 0 = λ parts. InOrder 0 (parts ++ rest) in
    subst P (sym (text_parts_are w is))
    (order_parts w.objects TEXT_START TEXT_START (sections_end (laying_in w)) (places_from TEXT_START (group_in in_text (laying_in w))) rest (omega arith) (text_apart (laying_in w)) (text_filled (laying_in w) is.objects) order)

stubs_in_order : (w : Working) → IsWorkedOut w → InOrder (sections_end (laying_in w) - TEXT_START) (stub_parts w)
stubs_in_order w is = let P : List Part → Type 0 = λ parts. InOrder (sections_end (laying_in w) - TEXT_START) parts in subst P (sym (text_stubs w is)) (stubs_order w)

pub front_parts : (w : Working) (objects : List File) (table : ℕ) (places : List Place) → objects ≡ w.objects → table ≡ w.layout.table → places ≡ w.layout.places → parts_between objects TEXT_START 0 table places ≡ text_parts w
front_parts w objects table places is_objects is_table is_places = rw (is_objects, is_table, is_places) (ap (map (section_part w.objects TEXT_START)) (in_text_same w))

pub front_order : (w : Working) (from : ℕ) (parts : List Part) → IsWorkedOut w → parts ≡ text_parts w → from ≡ 0 → InOrder from parts
front_order w from parts is parts_are start =
    let P : List Part → Type 0 = λ xs. InOrder 0 xs in
    rw (start, parts_are) (subst P (append-nil (text_parts w)) (text_in_order w is [] tt))

pub whole_order : (w : Working) (from : ℕ) (parts : List Part) → IsWorkedOut w → parts ≡ text_parts w → from ≡ 0 → InOrder from (parts ++ stub_parts w)
whole_order w from parts is parts_are start = rw (start, parts_are) (text_in_order w is (stub_parts w) (stubs_in_order w is))

pub text_value : (w : Working) (bytes : List ℕ) (from : ℕ) (parts : List Part) → bytes ≡ [] → from ≡ 0 → parts ≡ text_parts w → bytes ++ laid from (parts ++ (stub_parts w ++ [])) ≡ text_image w
unfolding text_image
text_value w bytes from parts none start parts_are = rw (none, start, parts_are) (ap (λ xs. laid 0 (text_parts w ++ xs)) (append-nil (stub_parts w)))

pub text_length : (w : Working) → IsWorkedOut w → length (text_image w) ≡ code_end (laying_in w) - TEXT_START
unfolding text_image sections_end code_end
text_length w is =
    laid_length 0 (text_parts w ++ stub_parts w) (text_in_order w is (stub_parts w) (stubs_in_order w is))
    ∙ ap (λ parts. parts_end 0 (parts ++ stub_parts w) - 0) (text_parts_are w is)
    ∙ ap (λ n. n - 0) (ends_parts w.objects TEXT_START TEXT_START (group_in in_text (laying_in w)) (stub_parts w) (omega arith) (text_filled (laying_in w) is.objects))
    ∙ ap (λ parts. parts_end (sections_end (laying_in w) - TEXT_START) parts - 0) (text_stubs w is)
    ∙ last w (stubs_end w)
  where
    last : (w : Working) → parts_end (sections_end (laying_in w) - TEXT_START) (stub_parts_at (stubs_at (laying_in w)) w) ≡ code_end (laying_in w) - TEXT_START → parts_end (sections_end (laying_in w) - TEXT_START) (stub_parts_at (stubs_at (laying_in w)) w) - 0 ≡ code_end (laying_in w) - TEXT_START
    last w is = omega (arith, is)

-- the numbers of the stubs' words
pub first_none : {A : Type 0} (a b : Option A) → (a <|> b) ≡ None → a ≡ None
first_none None b is = refl
first_none (Some x) b is = is

pub later_none : {A : Type 0} (a b : Option A) → (a <|> b) ≡ None → b ≡ None
later_none None b is = is
later_none (Some x) b is = absurd (cc)

pub must_true : (holds : Bool) (broken : Refusal) → must holds broken ≡ None → holds ≡ true
unfolding must
must_true true broken is = refl
must_true false broken is = absurd (cc)

pub few_stubs : (w : Working) → IsWorkedOut w → HasFewStubs w
unfolding size_refusal greatest_word first_stub_word
few_stubs w is = record {
  few = λ some.
      let l = laying_in w in
      let words : word_refusal l ≡ None = later_none (must (nat_le (data_end l - table_at l) MOST_SEGMENT_BYTES) (refusal Large 0 (most_32 (data_end l - table_at l)))) (word_refusal l) (later_none (must (nat_le (text_size (counts_of l)) MOST_SEGMENT_BYTES) (refusal Large 0 (most_32 (text_size (counts_of l))))) (must (nat_le (data_end l - table_at l) MOST_SEGMENT_BYTES) (refusal Large 0 (most_32 (data_end l - table_at l))) <|> word_refusal l) is.sized) in
      let none : (length w.stubs == 0) ≡ false = grind (arith, nat_tests) in
      let holds : nat_le (greatest_word l) MOST_STUB_WORD ≡ true = must_true (nat_le (greatest_word l) MOST_STUB_WORD) (refusal Large 0 (most_32 (greatest_word l))) (rw none at words) in
      let few : w.plan.table + length w.words + length w.stubs - 1 ≤ 32767 = grind (arith, nat_tests) in
      omega (arith, few);
}

-- the data's parts
no_more : (l : Laying) → ((layout_of l).file_end - (layout_of l).table) + 0 - 0 ≡ file_end l - table_at l
unfolding layout_of
no_more l = omega arith

abbrev pub file_parts_of : Working → List Part
file_parts_of w = map (section_part w.objects w.layout.table) (filter (is_in_file w) w.layout.places)

pub file_parts_are : (w : Working) (objects : List File) (start low high : ℕ) (places : List Place) → objects ≡ w.objects → start ≡ w.layout.table → low ≡ w.layout.table → high ≡ w.layout.file_end → places ≡ w.layout.places → parts_between objects start low high places ≡ file_parts_of w
file_parts_are w objects start low high places is_objects is_start is_low is_high is_places = rw (is_objects, is_start, is_low, is_high, is_places) refl

rows_of_words : (w : Working) → length (word_row false (value_words w)) ≡ 4 * length w.words
unfolding value_words
rows_of_words w = length-word_row false (map (value_word w) w.words) ∙ ap (λ n. 4 * n) (length-map w.words (value_word w))

words_room : (l : Laying) → words_at l - table_at l + 4 * length l.words ≤ words_end l - table_at l
unfolding words_end words_at
words_room l = omega arith

file_order : (l : Laying) → All (IsObject false) l.objects → (rest : List Part) → InOrder (file_end l - table_at l) rest
    → InOrder (words_at l - table_at l + 4 * length l.words) (map (section_part l.objects (table_at l)) (filter (is_between (table_at l) (file_end l)) (places_of l)) ++ rest)
file_order l are rest order =
    let test : Place → Bool = is_between (table_at l) (file_end l) in
    let P : List Place → Type 0 = λ ps. InOrder (words_at l - table_at l + 4 * length l.words) (map (section_part l.objects (table_at l)) ps ++ rest) in
    subst P (sym (file_filter l))
    (order_lower (words_at l - table_at l + 4 * length l.words) (words_end l - table_at l) (map (section_part l.objects (table_at l)) (filter test (file_places l)) ++ rest) (words_room l)
    (order_parts l.objects (table_at l) (words_end l) (file_end l) (filter test (file_places l)) rest (words_above l)
    (apart_filter test (words_end l) (file_end l) (file_places l) (file_apart l))
    (filled_filter l.objects test (file_places l) (file_filled_places l are)) order))

abbrev pub last_part : Working → Part
last_part w = record { at = w.layout.file_end - w.layout.table; bytes = [] }

-- behind so many bytes
pub data_order : (w : Working) (from : ℕ) (parts : List Part) → IsWorkedOut w → from ≡ w.layout.words - w.layout.table + 4 * length w.words → parts ≡ file_parts_of w → InOrder from (parts ++ last_part w ∷ [])
unfolding layout_of
data_order w from parts is start parts_are =
    let l = laying_in w in
    let last : Part = record { at = file_end l - table_at l; bytes = [] } in
    rw (start, parts_are, is.layout) (file_order l is.objects (last ∷ []) (omega arith, tt))

pub data_front : (w : Working) (from : ℕ) (parts : List Part) → IsWorkedOut w → from ≡ w.layout.words - w.layout.table + 4 * length w.words → parts ≡ file_parts_of w → InOrder from parts
unfolding layout_of
data_front w from parts is start parts_are =
    let l = laying_in w in
    let P : List Part → Type 0 = λ xs. InOrder (words_at l - table_at l + 4 * length l.words) xs in
    rw (start, parts_are, is.layout) (subst P (append-nil (map (section_part l.objects (table_at l)) (filter (is_between (table_at l) (file_end l)) (places_of l)))) (file_order l is.objects [] tt))

pub words_behind : (w : Working) (from at : ℕ) (rows : List ℕ) → from ≡ at + length rows → at ≡ w.layout.words - w.layout.table → rows ≡ word_row false (value_words w) → from ≡ w.layout.words - w.layout.table + 4 * length w.words
words_behind w from at rows is is_at is_rows = is ∙ rw (is_at, is_rows) (ap (λ n. w.layout.words - w.layout.table + n) (rows_of_words w))

abbrev pub word_part : Working → Part
word_part w = record { at = w.layout.words - w.layout.table; bytes = word_row false (value_words w) }

pub data_value : (w : Working) (bytes : List ℕ) (from : ℕ) (first last : Part) (parts : List Part) → bytes ≡ [] → from ≡ 0 → first ≡ word_part w → last ≡ last_part w → parts ≡ file_parts_of w → bytes ++ laid from (first ∷ (parts ++ last ∷ [])) ≡ data_image w
unfolding data_image
data_value w bytes from first last parts none start first_is last_is parts_are = rw (none, start, first_is, last_is, parts_are) refl

pub data_length : (w : Working) → IsWorkedOut w → length (data_image w) ≡ file_end (laying_in w) - table_at (laying_in w)
unfolding data_image
data_length w is =
    let rows = rows_of_words w in
    let order : InOrder 0 (word_part w ∷ (file_parts_of w ++ last_part w ∷ [])) = (omega arith, data_order w (w.layout.words - w.layout.table + length (word_row false (value_words w))) (file_parts_of w) is (ap (λ n. w.layout.words - w.layout.table + n) rows) refl) in
    laid_length 0 (word_part w ∷ (file_parts_of w ++ last_part w ∷ [])) order
    ∙ ap (λ n. n - 0) (ends_last (w.layout.words - w.layout.table + length (word_row false (value_words w))) (file_parts_of w) (last_part w))
    ∙ ends w is
  where
    ends : (w : Working) → IsWorkedOut w → (w.layout.file_end - w.layout.table) + 0 - 0 ≡ file_end (laying_in w) - table_at (laying_in w)
    ends w is = ap (λ y. (y.file_end - y.table) + 0 - 0) is.layout ∙ no_more (laying_in w)
