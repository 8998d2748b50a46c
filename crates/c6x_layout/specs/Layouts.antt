-- The layout of a linked file.
use Rattle.std.specs.Prelude.{ℕ, ◌+◌, ◌-◌, ◌*◌, ◌==◌, max, min, true, false, Bool, List, [], ◌∷◌, ◌++◌, Option, None, Some, filter, length, nat_le, if◌then◌else◌}
use Rattle.c6x_spec.specs.Rounded.{rounded}
use Rattle.c6x_dsbt.specs.declared.wanted.Wanted.{Wanted}
use Rattle.c6x_elf.specs.declared.file.File.{File}
use Rattle.c6x_layout.specs.FilePlaces.{dynamic_at, text_size}
use Rattle.c6x_layout.specs.declared.counts.Counts.{Counts}
use Rattle.c6x_layout.specs.declared.file_limits.TheConstants.{MOST_SEGMENT_BYTES, TEXT_START}
use Rattle.c6x_symbols.specs.Parts.{parts_of}
use Rattle.c6x_symbols.specs.declared.part.Part.{Part}
use Rattle.c6x_plan.specs.declared.link_plan.LinkPlan.{LinkPlan}
use Rattle.c6x_symbols.specs.Bindings.{BoundName}
use Rattle.c6x_symbols.specs.Rules.{Refusal, ◌<|>◌, must, refusal}
use Rattle.c6x_symbols.specs.declared.link_rule.LinkRule.TheVariants.{Large}
use Rattle.c6x_layout.specs.Alignments.{alignments_refusal}
use Rattle.c6x_layout.specs.Dynamics.{filled_count, module_names, shared_numbers, strings_of_link}
use Rattle.c6x_layout.specs.Places.{CommonRoom, added, common_room, commons_end, commons_from, in_far_bytes, in_far_zeros, in_near_bytes, in_near_zeros, in_text, places_end, places_from}
use Rattle.c6x_layout.specs.declared.layout.Layout.{Layout}
use Rattle.c6x_layout.specs.declared.limits.TheConstants.{DATA_ALIGN, MOST_STUB_WORD, PAGE, STUB_ALIGN, STUB_BYTES, TEXT_ALIGN}
use Rattle.c6x_layout.specs.declared.place.Place.{Place}

-- What a layout is made of.
pub record Laying : Type 0 where
  pub objects : List File
  pub bindings : List BoundName
  pub words : List Wanted
  pub stubs : List ℕ
  pub plan : LinkPlan

-- The sections of one group, in object and section order.
abbrev pub group_in : (Part → Bool) → Laying → List Part
group_in test l = filter test (parts_of l.objects)

-- The text: its sections, the stubs at the next multiple of a fetch packet's length, and then the tables.
unfoldable pub sections_end : Laying → ℕ
sections_end l = places_end TEXT_START (group_in in_text l)

unfoldable pub stubs_at : Laying → ℕ
stubs_at l = if length l.stubs == 0 then 0 else rounded (sections_end l) STUB_ALIGN

unfoldable pub code_end : Laying → ℕ
code_end l = if length l.stubs == 0 then sections_end l else rounded (sections_end l) STUB_ALIGN + STUB_BYTES * length l.stubs

-- How many of each there are behind the code.
unfoldable pub counts_of : Laying → Counts
counts_of l = record {
  code = code_end l - TEXT_START;
  symbols = 3 + length (shared_numbers l.bindings);
  strings = length (strings_of_link l.bindings l.plan);
  relas = filled_count l.objects l.bindings l.words;
  jumps = length l.stubs;
  named = length (module_names l.plan);
}

unfoldable pub text_end : Laying → ℕ
text_end l = TEXT_START + text_size (counts_of l)

-- The data begins at a page that is a page or more behind the text: the table, the value words, the words of the stubs.
unfoldable pub table_at : Laying → ℕ
table_at l = rounded (text_end l + PAGE) PAGE

unfoldable pub words_at : Laying → ℕ
words_at l = table_at l + 4 * l.plan.table

unfoldable pub words_end : Laying → ℕ
words_end l = words_at l + 4 * (length l.words + length l.stubs)

-- Near sections with bytes, near sections of zeros, near commons; far sections with bytes, far sections of zeros, far
-- commons. The file has the bytes up to the last far section with bytes.
unfoldable pub near_bytes_end : Laying → ℕ
near_bytes_end l = places_end (words_end l) (group_in in_near_bytes l)

unfoldable pub near_zeros_end : Laying → ℕ
near_zeros_end l = places_end (near_bytes_end l) (group_in in_near_zeros l)

unfoldable pub near_end : Laying → ℕ
near_end l = commons_end true (near_zeros_end l) l.bindings

unfoldable pub file_end : Laying → ℕ
file_end l = places_end (near_end l) (group_in in_far_bytes l)

unfoldable pub far_zeros_end : Laying → ℕ
far_zeros_end l = places_end (file_end l) (group_in in_far_zeros l)

unfoldable pub data_end : Laying → ℕ
data_end l = commons_end false (far_zeros_end l) l.bindings

unfoldable pub places_of : Laying → List Place
places_of l =
    places_from TEXT_START (group_in in_text l)
    ++ (places_from (words_end l) (group_in in_near_bytes l)
    ++ (places_from (near_bytes_end l) (group_in in_near_zeros l)
    ++ (places_from (near_end l) (group_in in_far_bytes l)
    ++ places_from (file_end l) (group_in in_far_zeros l))))

unfoldable pub commons_of : Laying → List ℕ
commons_of l = added (commons_from true (near_zeros_end l) l.bindings) (commons_from false (far_zeros_end l) l.bindings)

-- A segment's alignment is the greatest of its parts, and no less than its own least.
abbrev pub greatest_align : ℕ → List Part → ℕ
greatest_align least [] = least
greatest_align least (part ∷ parts) = max part.align (greatest_align least parts)

abbrev pub align_or : Option CommonRoom → ℕ
align_or None = 0
align_or (Some room) = room.align

abbrev pub greatest_common : ℕ → List BoundName → ℕ
greatest_common least [] = least
greatest_common least (b ∷ bs) =
    max (align_or (common_room true b)) (max (align_or (common_room false b)) (greatest_common least bs))

abbrev pub in_data : Part → Bool
in_data part = if in_text part then false else true

unfoldable pub text_align : Laying → ℕ
text_align l = greatest_align TEXT_ALIGN (group_in in_text l)

unfoldable pub data_align : Laying → ℕ
data_align l = greatest_align (greatest_common DATA_ALIGN l.bindings) (group_in in_data l)

unfoldable pub layout_of : Laying → Layout
layout_of l = record {
  places = places_of l;
  commons = commons_of l;
  stubs = stubs_at l;
  dynamic = TEXT_START + dynamic_at (counts_of l);
  text_end = text_end l;
  text_align = text_align l;
  table = table_at l;
  words = words_at l;
  file_end = file_end l;
  end = data_end l;
  data_align = data_align l;
}

-- The sizes (K4): the text, the data, and the greatest number of a stub's word, counted from the table.
abbrev pub most_32 : ℕ → ℕ
most_32 size = min size 4294967295

unfoldable pub greatest_word : Laying → ℕ
greatest_word l = l.plan.table + length l.words + length l.stubs - 1

abbrev pub word_refusal : Laying → Option Refusal
word_refusal l =
    if length l.stubs == 0 then None
    else must (nat_le (greatest_word l) MOST_STUB_WORD) (refusal Large 0 (most_32 (greatest_word l)))

unfoldable pub size_refusal : Laying → Option Refusal
size_refusal l =
    must (nat_le (text_size (counts_of l)) MOST_SEGMENT_BYTES) (refusal Large 0 (most_32 (text_size (counts_of l))))
    <|> must (nat_le (data_end l - table_at l) MOST_SEGMENT_BYTES) (refusal Large 0 (most_32 (data_end l - table_at l)))
    <|> word_refusal l

-- K3 and then K4.
unfoldable pub layout_refusal : Laying → Option Refusal
layout_refusal l = alignments_refusal l.objects <|> size_refusal l

-- What is laid for objects, bindings, words and stubs by a plan.
abbrev pub laying : List File → List BoundName → List Wanted → List ℕ → LinkPlan → Laying
laying objects bindings words stubs plan =
    record { objects = objects; bindings = bindings; words = words; stubs = stubs; plan = plan }
