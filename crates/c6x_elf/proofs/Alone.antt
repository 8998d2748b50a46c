-- A file of segments alone is tidy.
use Rattle.std.proofs.Common.{◌≡◌, ℕ, ◌+◌, ◌-◌, ◌%◌, ◌≤◌, ◌==◌, Bool, true, false, cond, max, List, [], ◌∷◌, ◌++◌, Option, None, Some, length, map, refl, ap, sum_by, arith}
use Rattle.std.specs.Int.{is_power_of_two}
use Rattle.std.proofs.lemmas.List.Sums.{sum_by-cons}
use Rattle.c6x_spec.specs.Places.{least_place}
use Rattle.c6x_elf_headers.specs.Header.{is_none_or_below}
use Rattle.c6x_elf_headers.specs.Rules.{Refusal, along_both, first_along}
use Rattle.c6x_elf_headers.specs.declared.section_head.SectionHead.{SectionHead}
use Rattle.c6x_elf.specs.Alone.{HasSegmentsAlone, segment_room}
use Rattle.c6x_elf.specs.Entries.{named_refusal}
use Rattle.c6x_elf.specs.Form.{HasReadForm, IsTidy, own_head, section_length, segment_length}
use Rattle.c6x_elf.specs.Parts.{fields_refusal}
use Rattle.c6x_elf.specs.Writing.{end_of, home_of, offsets_end, spot_from, spot_of, spots_end, start_of, step_of, written_size}
use Rattle.c6x_elf.specs.declared.file.File.{File}
use Rattle.c6x_elf.specs.declared.section.Section.{Section}
use Rattle.c6x_elf.specs.declared.segment.Segment.{Segment}
use Rattle.c6x_elf.specs.declared.spot.Spot.{Spot}

step_some : (align : ℕ) → 4 ≤ step_of align
unfolding step_of
step_some align = either (is_power_of_two align)
  where
    either : (b : Bool) → 4 ≤ cond b (max align 4) 4
    either true = omega arith
    either false = omega arith

gap_below : (step n : ℕ) → 4 ≤ step → n % step ≤ step
gap_below step n some = omega arith

end_within : (o : Option ℕ) (from : ℕ) (s : Segment) → end_of (spot_from o from s) from s ≤ from + segment_room s
unfolding end_of least_place
end_within (Some at) from s = omega arith
end_within None from s =
    let gap = gap_below (step_of s.align) (s.vaddr + (step_of s.align - from % step_of s.align)) (step_some s.align) in
    omega arith

-- segments take at most their rooms
spots_within : (earlier : List Segment) (had : List Spot) (from : ℕ) (ss : List Segment) → spots_end earlier had from ss ≤ from + sum_by segment_room ss
unfolding spot_of
spots_within earlier had from [] = omega arith
spots_within earlier had from (s ∷ ss) =
    let here : end_of (spot_of earlier had from s) from s ≤ from + segment_room s = end_within (home_of s earlier had) from s in
    let later = spots_within (earlier ++ s ∷ []) (had ++ spot_of earlier had from s ∷ []) (end_of (spot_of earlier had from s) from s) ss in
    omega (arith, here, later, sum_by-cons segment_room s ss)

lengths_within : (ss : List Segment) → sum_by segment_length ss ≤ sum_by segment_room ss
lengths_within [] = omega arith
lengths_within (s ∷ ss) = omega (arith, lengths_within ss, sum_by-cons segment_length s ss, sum_by-cons segment_room s ss)

-- no sections
size_alone : (ss : List Section) (from other : ℕ) → ss ≡ [] → cond (length ss == 0) (offsets_end from ss) other ≡ from
size_alone ss from other none = rw none refl

fields_alone : (test : SectionHead → Option Refusal) (ss : List Section) → ss ≡ [] → first_along test (map own_head ss) ≡ None
fields_alone test ss none = rw none refl

entries_alone : (test : SectionHead → Section → Option Refusal) (ss : List Section) → ss ≡ [] → along_both test (map own_head ss) ss ≡ None
entries_alone test ss none = rw none refl

sum_alone : (ss : List Section) → ss ≡ [] → sum_by section_length ss ≡ 0
sum_alone ss none = rw none refl

names_alone : (names count : ℕ) → names ≡ 0 → is_none_or_below names count ≡ true
unfolding is_none_or_below
names_alone names count none = rw none refl

written_alone : (file : File) → file.sections ≡ [] → written_size file ≡ spots_end [] [] (start_of file) file.segments
unfolding written_size
written_alone file none = size_alone file.sections (spots_end [] [] (start_of file) file.segments) _ none

form_alone : (big : Bool) (file : File) → HasSegmentsAlone file → HasReadForm big file
form_alone big file alone =
    let count : length file.sections ≡ 0 = ap length alone.none in
    let held = sum_alone file.sections alone.none in
    record {
      segments = alone.few;
      sections = omega arith;
      held = omega (arith, held, lengths_within file.segments, alone.small);
      sized = λ k d below. absurd (omega arith);
      kind = alone.kind;
      names = names_alone file.names (length file.sections) alone.unnamed;
      fields = fields_alone (fields_refusal (length file.sections)) file.sections alone.none;
      entries = entries_alone (named_refusal big file.names file.sections) file.sections alone.none;
    }

pub tidy_alone : (big : Bool) (file : File) → HasSegmentsAlone file → IsTidy big file
tidy_alone big file alone = record {
  form = form_alone big file alone;
  loaded = alone.loaded;
  small = omega (arith, written_alone file alone.none, spots_within [] [] (start_of file) file.segments, alone.small);
}
