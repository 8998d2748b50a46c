-- The numbers of a layout together.
use Rattle.std.specs.Prelude.{◌≡◌, ℕ, ◌+◌, ◌-◌, ◌^◌, ◌<◌, ◌==◌, true, false, List, ◌++◌, Option, None, filter, nat_le, if◌then◌else◌}
use Rattle.c6x_layout.specs.FilePlaces.{places_of}
use Rattle.c6x_layout.specs.declared.file_limits.TheConstants.{MOST_SEGMENT_BYTES, TEXT_START}
use Rattle.c6x_symbols.specs.declared.part.Part.{Part}
use Rattle.c6x_symbols.specs.Bindings.{BoundName}
use Rattle.c6x_symbols.specs.Rules.{Refusal, ◌<|>◌, must, refusal}
use Rattle.c6x_symbols.specs.declared.link_rule.LinkRule.TheVariants.{Large}
use Rattle.c6x_layout.specs.Layouts.{Laying, code_end, counts_of, data_end, far_zeros_end, file_end, greatest_align, greatest_common, in_data, most_32, near_bytes_end, near_end, near_zeros_end, sections_end, stubs_at, table_at, words_at, words_end}
use Rattle.c6x_layout.specs.Places.{added, commons_end, commons_from, in_far_bytes, in_far_zeros, in_near_bytes, in_near_zeros, in_text, places_end, places_from}
use Rattle.c6x_layout.specs.declared.layout.Layout.{Layout}
use Rattle.c6x_layout.specs.declared.limits.TheConstants.{DATA_ALIGN, MOST_STUB_WORD, TEXT_ALIGN}
use Rattle.c6x_layout.specs.declared.sizes.Sizes.{Sizes}

unfoldable pub sizes_of : Laying → Sizes
sizes_of l = record {
  code = record { sections = sections_end l; stubs = stubs_at l; end = code_end l };
  text = places_of (counts_of l);
  table = table_at l;
  words = words_at l;
  start = words_end l;
  ends = record {
    near_bytes = near_bytes_end l;
    near_zeros = near_zeros_end l;
    near = near_end l;
    far_bytes = file_end l;
    far_zeros = far_zeros_end l;
    far = data_end l;
  };
}

-- The rule on sizes, with so many slots, value words and stubs.
abbrev pub stub_word_refusal : ℕ → ℕ → ℕ → Option Refusal
stub_word_refusal table words stubs =
    if stubs == 0 then None
    else must (nat_le (table + words + stubs - 1) MOST_STUB_WORD) (refusal Large 0 (most_32 (table + words + stubs - 1)))

abbrev pub segment_refusal : ℕ → Option Refusal
segment_refusal size = must (nat_le size MOST_SEGMENT_BYTES) (refusal Large 0 (most_32 size))

unfoldable pub sizes_refusal : Sizes → ℕ → ℕ → ℕ → Option Refusal
sizes_refusal s table words stubs =
    segment_refusal s.text.end <|> segment_refusal (s.ends.far - s.table) <|> stub_word_refusal table words stubs

-- All of them are addresses.
pub record AreAddresses (s : Sizes) : Type 0 where
  pub sections : s.code.sections < 2 ^ 32
  pub stubs : s.code.stubs < 2 ^ 32
  pub dynamic : TEXT_START + s.text.dynamic < 2 ^ 32
  pub text_end : TEXT_START + s.text.end < 2 ^ 32
  pub table : s.table < 2 ^ 32
  pub words : s.words < 2 ^ 32
  pub start : s.start < 2 ^ 32
  pub near_bytes : s.ends.near_bytes < 2 ^ 32
  pub near_zeros : s.ends.near_zeros < 2 ^ 32
  pub near : s.ends.near < 2 ^ 32
  pub far_bytes : s.ends.far_bytes < 2 ^ 32
  pub far_zeros : s.ends.far_zeros < 2 ^ 32
  pub far : s.ends.far < 2 ^ 32

-- Each group ends behind the one before it.
pub record AreChained (parts : List Part) (bindings : List BoundName) (s : Sizes) : Type 0 where
  pub sections : places_end TEXT_START (filter in_text parts) ≡ s.code.sections
  pub near_bytes : places_end s.start (filter in_near_bytes parts) ≡ s.ends.near_bytes
  pub near_zeros : places_end s.ends.near_bytes (filter in_near_zeros parts) ≡ s.ends.near_zeros
  pub near : commons_end true s.ends.near_zeros bindings ≡ s.ends.near
  pub far_bytes : places_end s.ends.near (filter in_far_bytes parts) ≡ s.ends.far_bytes
  pub far_zeros : places_end s.ends.far_bytes (filter in_far_zeros parts) ≡ s.ends.far_zeros
  pub far : commons_end false s.ends.far_zeros bindings ≡ s.ends.far

-- The layout of these numbers.
unfoldable pub layout_by : List Part → List BoundName → Sizes → Layout
layout_by parts bindings s = record {
  places =
      places_from TEXT_START (filter in_text parts)
      ++ (places_from s.start (filter in_near_bytes parts)
      ++ (places_from s.ends.near_bytes (filter in_near_zeros parts)
      ++ (places_from s.ends.near (filter in_far_bytes parts)
      ++ places_from s.ends.far_bytes (filter in_far_zeros parts))));
  commons = added (commons_from true s.ends.near_zeros bindings) (commons_from false s.ends.far_zeros bindings);
  stubs = s.code.stubs;
  dynamic = TEXT_START + s.text.dynamic;
  text_end = TEXT_START + s.text.end;
  text_align = greatest_align TEXT_ALIGN (filter in_text parts);
  table = s.table;
  words = s.words;
  file_end = s.ends.far_bytes;
  end = s.ends.far;
  data_align = greatest_align (greatest_common DATA_ALIGN bindings) (filter in_data parts);
}
