-- The numbers of a layout in order, and that they are the layout.
use Rattle.std.proofs.Common.{◌≡◌, ℕ, ◌+◌, ◌*◌, ◌-◌, ◌==◌, ◌≤◌, ◌<◌, ◌^◌, Bool, true, false, length, refl, arith, if◌then◌else◌}
use Rattle.c6x_spec.specs.Rounded.{rounded}
use Rattle.c6x_layout.specs.FilePlaces.{dynamic_at, entry_count, hash_at, jumps_at, places_of, relas_at, strings_at, symbols_at, text_size}
use Rattle.c6x_layout.specs.declared.counts.Counts.{Counts}
use Rattle.c6x_layout.specs.declared.file_limits.TheConstants.{MOST_SEGMENT_BYTES, TEXT_START}
use Rattle.c6x_symbols.specs.Parts.{parts_of}
use Rattle.c6x_layout.proofs.CommonsLaid.{commons_above}
use Rattle.c6x_layout.proofs.Laid.{end_above}
use Rattle.c6x_layout.specs.Codes.{AreSmall, code_of}
use Rattle.c6x_layout.specs.Groups.{ends_of}
use Rattle.c6x_layout.specs.Layouts.{Laying, code_end, commons_of, counts_of, data_align, data_end, far_zeros_end, file_end, greatest_word, group_in, layout_of, near_bytes_end, near_end, near_zeros_end, places_of as all_places, sections_end, size_refusal, stubs_at, table_at, text_align, text_end, words_at, words_end}
use Rattle.c6x_layout.specs.Places.{in_far_bytes, in_far_zeros, in_near_bytes, in_near_zeros, in_text}
use Rattle.c6x_layout.specs.Sizes.{AreAddresses, AreChained, layout_by, sizes_of, sizes_refusal}
use Rattle.c6x_layout.specs.declared.limits.TheConstants.{PAGE, STUB_ALIGN, STUB_BYTES}

pub code_within : (c : Counts) → c.code ≤ text_size c
unfolding text_size dynamic_at jumps_at relas_at strings_at symbols_at hash_at
code_within c = omega arith

pub dynamic_within : (c : Counts) → dynamic_at c ≤ text_size c
unfolding text_size
dynamic_within c = omega arith

entries_small : (b d : Bool) (n : ℕ) → n ≤ 2 ^ 40 → n + 5 + (if b then 0 else 3) + (if d then 0 else 3) + 4 ≤ 2 ^ 41
entries_small true true n few = omega arith
entries_small true false n few = omega arith
entries_small false true n few = omega arith
entries_small false false n few = omega arith

count_small : (c : Counts) → c.named ≤ 2 ^ 40 → entry_count c ≤ 2 ^ 41
unfolding entry_count
count_small c few = entries_small (c.relas == 0) (c.jumps == 0) c.named few

pub text_small : (c : Counts) → AreSmall c → text_size c ≤ 2 ^ 56
unfolding text_size dynamic_at jumps_at relas_at strings_at symbols_at hash_at
text_small c small =
    omega (arith, small.code, small.symbols, small.strings, small.relas, small.jumps, count_small c small.named)

-- Each number of a layout is not below the one before it.
pub record AreOrdered (l : Laying) : Type 0 where
  pub first : TEXT_START ≤ sections_end l
  pub code : sections_end l ≤ code_end l
  pub stubs : stubs_at l ≤ code_end l
  pub text : code_end l ≤ text_end l
  pub table : table_at l ≤ text_end l + 2 * PAGE
  pub below : text_end l ≤ table_at l
  pub words : table_at l ≤ words_at l
  pub start : words_at l ≤ words_end l
  pub near_bytes : words_end l ≤ near_bytes_end l
  pub near_zeros : near_bytes_end l ≤ near_zeros_end l
  pub near : near_zeros_end l ≤ near_end l
  pub far_bytes : near_end l ≤ file_end l
  pub far_zeros : file_end l ≤ far_zeros_end l
  pub far : far_zeros_end l ≤ data_end l

code_case : (b : Bool) (sections stubs : ℕ) → sections ≤ (if b then sections else rounded sections STUB_ALIGN + STUB_BYTES * stubs)
code_case true sections stubs = omega arith
code_case false sections stubs = omega arith

stubs_case : (b : Bool) (sections stubs : ℕ) → (if b then 0 else rounded sections STUB_ALIGN) ≤ (if b then sections else rounded sections STUB_ALIGN + STUB_BYTES * stubs)
stubs_case true sections stubs = omega arith
stubs_case false sections stubs = omega arith

first_is : (l : Laying) → TEXT_START ≤ sections_end l
unfolding sections_end
first_is l = end_above TEXT_START (group_in in_text l)

code_is : (l : Laying) → sections_end l ≤ code_end l
unfolding code_end
code_is l = code_case (length l.stubs == 0) (sections_end l) (length l.stubs)

stubs_are : (l : Laying) → stubs_at l ≤ code_end l
unfolding stubs_at code_end
stubs_are l = stubs_case (length l.stubs == 0) (sections_end l) (length l.stubs)

counted_code : (l : Laying) → (counts_of l).code ≡ code_end l - TEXT_START
unfolding counts_of
counted_code l = refl

text_is : (l : Laying) → code_end l ≤ text_end l
unfolding text_end
text_is l = omega (arith, code_within (counts_of l), counted_code l)

table_is : (l : Laying) → table_at l ≤ text_end l + 2 * PAGE
unfolding table_at
table_is l = omega arith

table_behind : (l : Laying) → text_end l ≤ table_at l
unfolding table_at
table_behind l = omega arith

words_are : (l : Laying) → table_at l ≤ words_at l
unfolding words_at
words_are l = omega arith

start_is : (l : Laying) → words_at l ≤ words_end l
unfolding words_end
start_is l = omega arith

near_bytes_is : (l : Laying) → words_end l ≤ near_bytes_end l
unfolding near_bytes_end
near_bytes_is l = end_above (words_end l) (group_in in_near_bytes l)

near_zeros_is : (l : Laying) → near_bytes_end l ≤ near_zeros_end l
unfolding near_zeros_end
near_zeros_is l = end_above (near_bytes_end l) (group_in in_near_zeros l)

near_is : (l : Laying) → near_zeros_end l ≤ near_end l
unfolding near_end
near_is l = commons_above true (near_zeros_end l) l.bindings

far_bytes_is : (l : Laying) → near_end l ≤ file_end l
unfolding file_end
far_bytes_is l = end_above (near_end l) (group_in in_far_bytes l)

far_zeros_is : (l : Laying) → file_end l ≤ far_zeros_end l
unfolding far_zeros_end
far_zeros_is l = end_above (file_end l) (group_in in_far_zeros l)

far_is : (l : Laying) → far_zeros_end l ≤ data_end l
unfolding data_end
far_is l = commons_above false (far_zeros_end l) l.bindings

pub ordered : (l : Laying) → AreOrdered l
ordered l = record {
  first = first_is l;
  code = code_is l;
  stubs = stubs_are l;
  text = text_is l;
  table = table_is l;
  below = table_behind l;
  words = words_are l;
  start = start_is l;
  near_bytes = near_bytes_is l;
  near_zeros = near_zeros_is l;
  near = near_is l;
  far_bytes = far_bytes_is l;
  far_zeros = far_zeros_is l;
  far = far_is l;
}

-- Within the limits on sizes all of them are addresses.
pub record AreBelow (l : Laying) (limit : ℕ) : Type 0 where
  pub text_end : text_end l < limit
  pub far : data_end l < limit

text_end_is : (l : Laying) → text_end l ≡ TEXT_START + text_size (counts_of l)
unfolding text_end
text_end_is l = refl

pub below_limit : (l : Laying) → text_size (counts_of l) ≤ MOST_SEGMENT_BYTES → data_end l - table_at l ≤ MOST_SEGMENT_BYTES → AreBelow l (2 ^ 22)
below_limit l text data_size =
    let is = text_end_is l in
    let table = table_is l in
    record { text_end = omega (arith, is, text); far = omega (arith, is, text, data_size, table) }

pub addresses : (l : Laying) → text_size (counts_of l) ≤ MOST_SEGMENT_BYTES → data_end l - table_at l ≤ MOST_SEGMENT_BYTES → AreAddresses (sizes_of l)
unfolding sizes_of places_of
addresses l text data_size =
    let o = ordered l in
    let below = below_limit l text data_size in
    let is = text_end_is l in
    let dynamic = dynamic_within (counts_of l) in
    let far_zeros : far_zeros_end l < 2 ^ 22 = omega (arith, o.far, below.far) in
    let far_bytes : file_end l < 2 ^ 22 = omega (arith, o.far_zeros, far_zeros) in
    let near : near_end l < 2 ^ 22 = omega (arith, o.far_bytes, far_bytes) in
    let near_zeros : near_zeros_end l < 2 ^ 22 = omega (arith, o.near, near) in
    let near_bytes : near_bytes_end l < 2 ^ 22 = omega (arith, o.near_zeros, near_zeros) in
    let start : words_end l < 2 ^ 22 = omega (arith, o.near_bytes, near_bytes) in
    let words : words_at l < 2 ^ 22 = omega (arith, o.start, start) in
    record {
      sections = omega (arith, o.code, o.text, below.text_end);
      stubs = omega (arith, o.stubs, o.text, below.text_end);
      dynamic = omega (arith, dynamic, is, below.text_end);
      text_end = omega (arith, is, below.text_end);
      table = omega (arith, o.words, words);
      words = omega (arith, words);
      start = omega (arith, start);
      near_bytes = omega (arith, near_bytes);
      near_zeros = omega (arith, near_zeros);
      near = omega (arith, near);
      far_bytes = omega (arith, far_bytes);
      far_zeros = omega (arith, far_zeros);
      far = omega (arith, below.far);
    }

pub chained : (l : Laying) → AreChained (parts_of l.objects) l.bindings (sizes_of l)
unfolding sizes_of sections_end near_bytes_end near_zeros_end near_end file_end far_zeros_end data_end
chained l = record {
  sections = refl;
  near_bytes = refl;
  near_zeros = refl;
  near = refl;
  far_bytes = refl;
  far_zeros = refl;
  far = refl;
}

pub layout_is : (l : Laying) → layout_by (parts_of l.objects) l.bindings (sizes_of l) ≡ layout_of l
unfolding layout_by layout_of sizes_of places_of all_places commons_of text_end text_align data_align
layout_is l = refl

pub refusal_is : (l : Laying) → sizes_refusal (sizes_of l) l.plan.table (length l.words) (length l.stubs) ≡ size_refusal l
unfolding sizes_refusal size_refusal sizes_of places_of greatest_word
refusal_is l = refl

pub code_of_is : (l : Laying) → code_of (parts_of l.objects) (length l.stubs) ≡ record { sections = sections_end l; stubs = stubs_at l; end = code_end l }
unfolding code_of sections_end stubs_at code_end
code_of_is l = refl

pub ends_of_is : (l : Laying) → ends_of (words_end l) (parts_of l.objects) l.bindings ≡ record { near_bytes = near_bytes_end l; near_zeros = near_zeros_end l; near = near_end l; far_bytes = file_end l; far_zeros = far_zeros_end l; far = data_end l }
unfolding ends_of near_bytes_end near_zeros_end near_end file_end far_zeros_end data_end
ends_of_is l = refl

-- the table is not behind the end of the data
pub data_behind : (l : Laying) → (sizes_of l).table ≤ (sizes_of l).ends.far
unfolding sizes_of
data_behind l =
    let o = ordered l in
    omega (arith, o.words, o.start, o.near_bytes, o.near_zeros, o.near, o.far_bytes, o.far_zeros, o.far)

pub sizes_addresses : (l : Laying) → (sizes_of l).text.end ≤ MOST_SEGMENT_BYTES → (sizes_of l).ends.far - (sizes_of l).table ≤ MOST_SEGMENT_BYTES → AreAddresses (sizes_of l)
unfolding sizes_of places_of
sizes_addresses l text data_size = addresses l text data_size
