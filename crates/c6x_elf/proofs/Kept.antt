use Rattle.std.proofs.Common.{◌≡◌, ℕ, suc, ◌+◌, ◌-◌, ◌*◌, ◌≤◌, ◌==◌, ◌&&◌, ◌||◌, Bool, true, false, cond, List, [], ◌∷◌, ◌++◌, Option, None, Some, length, map, take, drop, sum_by, nat_le, refl, sym, ap, ◌∙◌, subst, arith}
use Rattle.std.specs.Prelude.{All}
use Rattle.std.specs.Str.{bytes_eq}
use Rattle.std.proofs.lemmas.List.{length_push, nil_from_length}
use Rattle.std.proofs.lemmas.List.Sums.{sum_by-cons}
use Rattle.std.proofs.lemmas.Slice.Eq.{bytes_eq-Decides}
use Rattle.std.proofs.lemmas.Bool.Decides.{nat_tests}
use Rattle.c6x_base.specs.declared.limits.TheConstants.{MOST_HELD_BYTES}
use Rattle.c6x_elf_headers.specs.Rules.{along_both, along_parts, first_along, must}
use Rattle.c6x_elf_headers.specs.declared.elf_rule.ElfRule.TheVariants.{Short, Large}
use Rattle.c6x_elf_headers.specs.HeadRows.{SectionsStand, SegmentsStand}
use Rattle.c6x_elf_headers.specs.Held.{Holds}
use Rattle.c6x_elf_headers.specs.Laid.{AllHeld, Part}
use Rattle.c6x_elf_headers.proofs.Holdings.{holds_inner, holds_slice, holds_within}
use Rattle.c6x_elf_headers.proofs.Passing.{must_is}
use Rattle.c6x_elf.specs.Entries.{named_refusal}
use Rattle.c6x_elf.specs.Form.{IsSized, own_head, section_length, segment_length}
use Rattle.c6x_elf.specs.Parts.{fields_refusal, has_bytes, is_within, part_refusal, section_of, section_refusal, section_size, segment_of, segment_refusal, segment_size}
use Rattle.c6x_elf.specs.Writing.{end_of, home_of, is_inside, offset_end, offset_of, offsets, section_head_at, section_heads_at, section_parts, segment_head_at, segment_heads_at, segment_parts, spot_from, spot_of, spots, with_section, with_segment}
use Rattle.c6x_elf.specs.declared.section.Section.{Section}
use Rattle.c6x_elf.specs.declared.segment.Segment.{Segment}
use Rattle.c6x_elf.specs.declared.spot.Spot.{Spot}
use Rattle.c6x_elf.proofs.Moves.{both_none, fields_move, named_moves}
use Rattle.c6x_elf.proofs.Placed.{none_first, none_later}

-- parts of a list of parts
pub held_front : (bytes : List ℕ) (a b : List Part) → AllHeld bytes (a ++ b) → AllHeld bytes a
held_front bytes [] b held = tt
held_front bytes (part ∷ parts) b held = (held.0, held_front bytes parts b held.1)

pub held_back : (bytes : List ℕ) (a b : List Part) → AllHeld bytes (a ++ b) → AllHeld bytes b
held_back bytes [] b held = held
held_back bytes (part ∷ parts) b held = held_back bytes parts b held.1

-- Each segment's bytes stand at its spot, also of those that share them.
abbrev pub SegmentsHeld : List ℕ → List Segment → List Spot → Type 0
SegmentsHeld bytes [] xs = Unit {0}
SegmentsHeld bytes (segment ∷ segments) [] = Unit {0}
SegmentsHeld bytes (segment ∷ segments) (x ∷ xs) = Holds bytes x.at segment.bytes × SegmentsHeld bytes segments xs

held_push : (bytes : List ℕ) (segments : List Segment) (xs : List Spot) (segment : Segment) (x : Spot) → length xs ≡ length segments → SegmentsHeld bytes segments xs → Holds bytes x.at segment.bytes → SegmentsHeld bytes (segments ++ segment ∷ []) (xs ++ x ∷ [])
held_push bytes [] [] segment x same held here = (here, tt)
held_push bytes [] (y ∷ ys) segment x same held here = absurd (omega arith)
held_push bytes (s ∷ ss) [] segment x same held here = absurd (omega arith)
held_push bytes (s ∷ ss) (y ∷ ys) segment x same held here = (held.0, held_push bytes ss ys segment x (omega arith) held.1 here)

pub and_first : (a b : Bool) → (a && b) ≡ true → a ≡ true
and_first true b is = refl
and_first false b is = is

pub and_later : (a b : Bool) → (a && b) ≡ true → b ≡ true
and_later true b is = is
and_later false b is = cc

-- bytes inside a segment that is held are held
inside_held : (bytes : List ℕ) (segment other : Segment) (at : ℕ) → is_inside segment other ≡ true → Holds bytes at other.bytes → Holds bytes (at + (segment.vaddr - other.vaddr)) segment.bytes
unfolding is_inside
inside_held bytes segment other at is held =
    let skip = segment.vaddr - other.vaddr in
    let same = bytes_eq (take (length segment.bytes) (drop skip other.bytes)) segment.bytes in
    let bounds = and_first _ same is in
    let to = and_later _ (nat_le (segment.vaddr + length segment.bytes) (other.vaddr + length other.bytes)) bounds in
    let from = and_later _ (nat_le other.vaddr segment.vaddr) (and_first _ (nat_le (segment.vaddr + length segment.bytes) (other.vaddr + length other.bytes)) bounds) in
    let fits : skip + length segment.bytes ≤ length other.bytes = grind (arith, nat_tests) in
    let equal : take (length segment.bytes) (drop skip other.bytes) ≡ segment.bytes =
    (bytes_eq-Decides (take (length segment.bytes) (drop skip other.bytes)) segment.bytes).0 (and_later _ same is) in
    let P : List ℕ → Type 0 = λ part. Holds bytes (at + skip) part in
    subst P equal (holds_inner bytes at other.bytes skip (length segment.bytes) (at + skip) held fits refl)

home_case : (bytes : List ℕ) (segment other : Segment) (x : Spot) (rest : Option ℕ) (at : ℕ) (t : Bool) → is_inside segment other ≡ t → Holds bytes x.at other.bytes → (rest ≡ Some at → Holds bytes at segment.bytes) → cond t (Some (x.at + (segment.vaddr - other.vaddr))) rest ≡ Some at → Holds bytes at segment.bytes
home_case bytes segment other x rest at true is held later found =
    let P : ℕ → Type 0 = λ n. Holds bytes n segment.bytes in
    let place : x.at + (segment.vaddr - other.vaddr) ≡ at = cc in
    subst P place (inside_held bytes segment other x.at is held)
home_case bytes segment other x rest at false is held later found = later found

home_held : (bytes : List ℕ) (segment : Segment) (earlier : List Segment) (had : List Spot) (at : ℕ) → SegmentsHeld bytes earlier had → home_of segment earlier had ≡ Some at → Holds bytes at segment.bytes
home_held bytes segment [] had at held found = cc
home_held bytes segment (other ∷ others) [] at held found = cc
home_held bytes segment (other ∷ others) (x ∷ xs) at held found =
    home_case bytes segment other x (home_of segment others xs) at (is_inside segment other) refl held.0
    (home_held bytes segment others xs at held.1) found

spot_held : (bytes : List ℕ) (home : Option ℕ) (from : ℕ) (segment : Segment) (parts : List Part) → ((at : ℕ) → home ≡ Some at → Holds bytes at segment.bytes) → AllHeld bytes (with_segment segment (spot_from home from segment) parts) → Holds bytes (spot_from home from segment).at segment.bytes × AllHeld bytes parts
unfolding with_segment
spot_held bytes None from segment parts shared held = (held.0, held.1)
spot_held bytes (Some at) from segment parts shared held = (shared at refl, held)

spot_of_held : (bytes : List ℕ) (earlier : List Segment) (had : List Spot) (from : ℕ) (segment : Segment) (parts : List Part) → SegmentsHeld bytes earlier had → AllHeld bytes (with_segment segment (spot_of earlier had from segment) parts) → Holds bytes (spot_of earlier had from segment).at segment.bytes × AllHeld bytes parts
unfolding spot_of
spot_of_held bytes earlier had from segment parts before held =
    spot_held bytes (home_of segment earlier had) from segment parts
    (λ at found. home_held bytes segment earlier had at before found) held

pub segments_held : (bytes : List ℕ) (earlier : List Segment) (had : List Spot) (from : ℕ) (segments : List Segment) → length had ≡ length earlier → SegmentsHeld bytes earlier had → AllHeld bytes (segment_parts segments (spots earlier had from segments)) → SegmentsHeld bytes segments (spots earlier had from segments)
segments_held bytes earlier had from [] same before held = tt
segments_held bytes earlier had from (segment ∷ segments) same before held =
    let spot = spot_of earlier had from segment in
    let rest = spots (earlier ++ segment ∷ []) (had ++ spot ∷ []) (end_of spot from segment) segments in
    let got = spot_of_held bytes earlier had from segment (segment_parts segments rest) before held in
    let longer : length (had ++ spot ∷ []) ≡ length (earlier ++ segment ∷ []) =
    length_push had spot ∙ ap (λ n. n + 1) same ∙ sym (length_push earlier segment) in (
      got.0,
      segments_held bytes (earlier ++ segment ∷ []) (had ++ spot ∷ []) (end_of spot from segment) segments longer
          (held_push bytes earlier had segment spot same before got.0) got.1,
    )

-- segments read back
segment_back : (bytes : List ℕ) (at : ℕ) (segment : Segment) (x : Spot) → Holds bytes x.at segment.bytes → segment_of bytes (segment_head_at at segment x) ≡ segment
unfolding segment_of segment_head_at
segment_back bytes at segment x held = λ i. record {
  kind = segment.kind;
  vaddr = segment.vaddr;
  memsz = segment.memsz;
  flags = segment.flags;
  align = segment.align;
  bytes = holds_slice bytes x.at segment.bytes held i;
}

pub segments_back : (bytes : List ℕ) (at k : ℕ) (segments : List Segment) (xs : List Spot) → length xs ≡ length segments → SegmentsHeld bytes segments xs → map (segment_of bytes) (segment_heads_at at k segments xs) ≡ segments
segments_back bytes at k [] xs same held = refl
segments_back bytes at k (segment ∷ segments) [] same held = absurd (omega arith)
segments_back bytes at k (segment ∷ segments) (x ∷ xs) same held =
    let here = segment_back bytes (at + 32 * k) segment x held.0 in
    let later = segments_back bytes at (k + 1) segments xs (omega arith) held.1 in
    cc

pub segments_stand : (at k : ℕ) (segments : List Segment) (xs : List Spot) → SegmentsStand at k (segment_heads_at at k segments xs)
unfolding segment_head_at
segments_stand at k [] xs = tt
segments_stand at k (segment ∷ segments) [] = tt
segments_stand at k (segment ∷ segments) (x ∷ xs) = (refl, segments_stand at (k + 1) segments xs)

-- a part in the file and within the sum breaks no rule
part_keeps : (bytes : List ℕ) (before at size place : ℕ) → at + size ≤ length bytes → before + size ≤ MOST_HELD_BYTES → part_refusal bytes before at size place ≡ None
unfolding part_refusal is_within
part_keeps bytes before at size place within few =
    let a = must_is (size == 0 || nat_le (at + size) (length bytes)) Short place (grind (arith, nat_tests)) in
    let b = must_is (nat_le (before + size) MOST_HELD_BYTES) Large place (grind (arith, nat_tests)) in
    both_none (must (size == 0 || nat_le (at + size) (length bytes)) Short place) (must (nat_le (before + size) MOST_HELD_BYTES) Large place) a b

segment_keeps : (bytes : List ℕ) (before at : ℕ) (segment : Segment) (x : Spot) → Holds bytes x.at segment.bytes → before + length segment.bytes ≤ MOST_HELD_BYTES → segment_refusal bytes before (segment_head_at at segment x) ≡ None
unfolding segment_refusal segment_head_at
segment_keeps bytes before at segment x held few =
    part_keeps bytes before x.at (length segment.bytes) (at + 4) (holds_within bytes x.at segment.bytes held) few

segment_head-size : (at : ℕ) (segment : Segment) (x : Spot) → segment_size (segment_head_at at segment x) ≡ length segment.bytes
unfolding segment_head_at
segment_head-size at segment x = refl

pub segments_keep : (bytes : List ℕ) (at k before : ℕ) (segments : List Segment) (xs : List Spot) → SegmentsHeld bytes segments xs → before + sum_by segment_length segments ≤ MOST_HELD_BYTES → along_parts segment_size (segment_refusal bytes) before (segment_heads_at at k segments xs) ≡ None
segments_keep bytes at k before [] xs held few = refl
segments_keep bytes at k before (segment ∷ segments) [] held few = refl
segments_keep bytes at k before (segment ∷ segments) (x ∷ xs) held few =
    let head = segment_head_at (at + 32 * k) segment x in
    let sum = sum_by-cons segment_length segment segments in
    let size = segment_head-size (at + 32 * k) segment x in
    both_none (segment_refusal bytes before head)
    (along_parts segment_size (segment_refusal bytes) (before + segment_size head) (segment_heads_at at (k + 1) segments xs))
    (segment_keeps bytes before (at + 32 * k) segment x held.0 (omega arith))
    (segments_keep bytes at (k + 1) (before + segment_size head) segments xs held.1 (omega arith))

pub segments_sum : (at k : ℕ) (segments : List Segment) (xs : List Spot) → length xs ≡ length segments → sum_by segment_size (segment_heads_at at k segments xs) ≡ sum_by segment_length segments
segments_sum at k [] xs same = refl
segments_sum at k (segment ∷ segments) [] same = absurd (omega arith)
segments_sum at k (segment ∷ segments) (x ∷ xs) same =
    sum_by-cons segment_size (segment_head_at (at + 32 * k) segment x) (segment_heads_at at (k + 1) segments xs)
    ∙ omega (arith, segment_head-size (at + 32 * k) segment x, segments_sum at (k + 1) segments xs (omega arith), sum_by-cons segment_length segment segments)

-- Each section that has bytes has them at its offset.
abbrev pub SectionsHeld : List ℕ → List Section → List ℕ → Type 0
SectionsHeld bytes [] xs = Unit {0}
SectionsHeld bytes (section ∷ sections) [] = Unit {0}
SectionsHeld bytes (section ∷ sections) (x ∷ xs) =
    (has_bytes section.kind ≡ true → Holds bytes x section.bytes) × SectionsHeld bytes sections xs

section_held : (bytes : List ℕ) (there t : Bool) (at : ℕ) (held : List ℕ) (parts : List Part) → there ≡ t → AllHeld bytes (cond t (record { at = at; bytes = held } ∷ parts) parts) → (there ≡ true → Holds bytes at held) × AllHeld bytes parts
section_held bytes there true at held parts is all = (λ _. all.0, all.1)
section_held bytes there false at held parts is all = (λ yes'. cc, all)

with_section_held : (bytes : List ℕ) (section : Section) (at : ℕ) (parts : List Part) → AllHeld bytes (with_section section at parts) → (has_bytes section.kind ≡ true → Holds bytes at section.bytes) × AllHeld bytes parts
unfolding with_section
with_section_held bytes section at parts all = section_held bytes (has_bytes section.kind) (has_bytes section.kind) at section.bytes parts refl all

pub sections_held : (bytes : List ℕ) (from : ℕ) (sections : List Section) → AllHeld bytes (section_parts sections (offsets from sections)) → SectionsHeld bytes sections (offsets from sections)
sections_held bytes from [] all = tt
sections_held bytes from (section ∷ sections) all =
    let got = with_section_held bytes section (offset_of from section) (section_parts sections (offsets (offset_end from section) sections)) all in
    (got.0, sections_held bytes (offset_end from section) sections got.1)

-- sections read back
bytes_back : (bytes : List ℕ) (there t : Bool) (size at : ℕ) (part : List ℕ) → there ≡ t → length part ≡ cond t size 0 → (there ≡ true → Holds bytes at part) → take (cond t size 0) (drop at bytes) ≡ part
bytes_back bytes there true size at part is sized held = ap (λ n. take n (drop at bytes)) (sym sized) ∙ holds_slice bytes at part (held is)
bytes_back bytes there false size at part is sized held = sym (nil_from_length part sized)

section_back : (bytes : List ℕ) (at : ℕ) (section : Section) (x : ℕ) → IsSized section → (has_bytes section.kind ≡ true → Holds bytes x section.bytes) → section_of bytes (section_head_at at section x) ≡ section
unfolding section_of section_head_at section_size
section_back bytes at section x sized held = λ i. record {
  name = section.name;
  kind = section.kind;
  flags = section.flags;
  addr = section.addr;
  size = section.size;
  link = section.link;
  info = section.info;
  align = section.align;
  entsize = section.entsize;
  bytes = bytes_back bytes (has_bytes section.kind) (has_bytes section.kind) section.size x section.bytes refl sized.size held i;
}

pub sections_back : (bytes : List ℕ) (at k : ℕ) (sections : List Section) (xs : List ℕ) → length xs ≡ length sections → All IsSized sections → SectionsHeld bytes sections xs → map (section_of bytes) (section_heads_at at k sections xs) ≡ sections
sections_back bytes at k [] xs same sized held = refl
sections_back bytes at k (section ∷ sections) [] same sized held = absurd (omega arith)
sections_back bytes at k (section ∷ sections) (x ∷ xs) same sized held =
    let here = section_back bytes (at + 40 * k) section x (sized 0 section (omega arith)) held.0 in
    let later = sections_back bytes at (k + 1) sections xs (omega arith) (λ j d below. sized (suc j) d (omega arith)) held.1 in
    cc

pub sections_stand : (at k : ℕ) (sections : List Section) (xs : List ℕ) → SectionsStand at k (section_heads_at at k sections xs)
unfolding section_head_at
sections_stand at k [] xs = tt
sections_stand at k (section ∷ sections) [] = tt
sections_stand at k (section ∷ sections) (x ∷ xs) = (refl, sections_stand at (k + 1) sections xs)

fields_keep : (count at : ℕ) (section : Section) (x : ℕ) → fields_refusal count (own_head section) ≡ None → fields_refusal count (section_head_at at section x) ≡ None
unfolding section_head_at
fields_keep count at section x kept = fields_move count (own_head section) at x kept

named_keep : (names : ℕ) (all : List Section) (at : ℕ) (section : Section) (x : ℕ) → named_refusal false names all (own_head section) section ≡ None → named_refusal false names all (section_head_at at section x) section ≡ None
unfolding section_head_at
named_keep names all at section x kept = named_moves false names all (own_head section) section at x kept

size_at : (at : ℕ) (section : Section) (x : ℕ) → section_size (section_head_at at section x) ≡ section_size (own_head section)
unfolding section_head_at section_size
size_at at section x = refl

-- no bytes break no rule
none_keeps : (bytes : List ℕ) (before at place : ℕ) → before ≤ MOST_HELD_BYTES → part_refusal bytes before at 0 place ≡ None
unfolding part_refusal is_within
none_keeps bytes before at place few =
    let b = must_is (nat_le (before + 0) MOST_HELD_BYTES) Large place (grind (arith, nat_tests)) in
    both_none (must true Short place) (must (nat_le (before + 0) MOST_HELD_BYTES) Large place) (must_is true Short place refl) b

section_within : (bytes : List ℕ) (there t : Bool) (size at before place : ℕ) (part : List ℕ) → there ≡ t → length part ≡ cond t size 0 → (there ≡ true → Holds bytes at part) → before + length part ≤ MOST_HELD_BYTES → part_refusal bytes before at (cond t size 0) place ≡ None
section_within bytes there true size at before place part is sized held few =
    let within = holds_within bytes at part (held is) in
    part_keeps bytes before at size place (omega arith) (omega arith)
section_within bytes there false size at before place part is sized held few = none_keeps bytes before at place (omega arith)

section_part_keeps : (bytes : List ℕ) (before at : ℕ) (section : Section) (x : ℕ) → IsSized section → (has_bytes section.kind ≡ true → Holds bytes x section.bytes) → before + length section.bytes ≤ MOST_HELD_BYTES → part_refusal bytes before (section_head_at at section x).offset (section_size (section_head_at at section x)) ((section_head_at at section x).at + 16) ≡ None
unfolding section_head_at section_size
section_part_keeps bytes before at section x sized held few =
    section_within bytes (has_bytes section.kind) (has_bytes section.kind) section.size x before (at + 16) section.bytes refl sized.size held few

section_keeps : (bytes : List ℕ) (count before at : ℕ) (section : Section) (x : ℕ) → IsSized section → (has_bytes section.kind ≡ true → Holds bytes x section.bytes) → before + length section.bytes ≤ MOST_HELD_BYTES → fields_refusal count (own_head section) ≡ None → section_refusal bytes count before (section_head_at at section x) ≡ None
unfolding section_refusal
section_keeps bytes count before at section x sized held few fields =
    both_none (fields_refusal count (section_head_at at section x)) _ (fields_keep count at section x fields)
    (section_part_keeps bytes before at section x sized held few)

pub sections_keep : (bytes : List ℕ) (count at k before : ℕ) (sections : List Section) (xs : List ℕ) → All IsSized sections → SectionsHeld bytes sections xs → before + sum_by section_length sections ≤ MOST_HELD_BYTES → first_along (fields_refusal count) (map own_head sections) ≡ None → along_parts section_size (section_refusal bytes count) before (section_heads_at at k sections xs) ≡ None
sections_keep bytes count at k before [] xs sized held few fields = refl
sections_keep bytes count at k before (section ∷ sections) [] sized held few fields = refl
sections_keep bytes count at k before (section ∷ sections) (x ∷ xs) sized held few fields =
    let head = section_head_at (at + 40 * k) section x in
    let own = fields_refusal count (own_head section) in
    let rest = first_along (fields_refusal count) (map own_head sections) in
    let here : IsSized section = sized 0 section (omega arith) in
    let sum = sum_by-cons section_length section sections in
    let size : section_size head ≡ length section.bytes = size_at (at + 40 * k) section x ∙ sym here.size in
    both_none (section_refusal bytes count before head)
    (along_parts section_size (section_refusal bytes count) (before + section_size head) (section_heads_at at (k + 1) sections xs))
    (section_keeps bytes count before (at + 40 * k) section x here held.0 (omega arith) (none_first own rest fields))
    (sections_keep bytes count at (k + 1) (before + section_size head) sections xs (λ j d below. sized (suc j) d (omega arith)) held.1
    (omega arith) (none_later own rest fields))

pub names_keep : (names : ℕ) (all : List Section) (at k : ℕ) (sections : List Section) (xs : List ℕ) → along_both (named_refusal false names all) (map own_head sections) sections ≡ None → along_both (named_refusal false names all) (section_heads_at at k sections xs) sections ≡ None
names_keep names all at k [] xs kept = refl
names_keep names all at k (section ∷ sections) [] kept = refl
names_keep names all at k (section ∷ sections) (x ∷ xs) kept =
    let own = named_refusal false names all (own_head section) section in
    let rest = along_both (named_refusal false names all) (map own_head sections) sections in
    both_none (named_refusal false names all (section_head_at (at + 40 * k) section x) section)
    (along_both (named_refusal false names all) (section_heads_at at (k + 1) sections xs) sections)
    (named_keep names all (at + 40 * k) section x (none_first own rest kept))
    (names_keep names all at (k + 1) sections xs (none_later own rest kept))
