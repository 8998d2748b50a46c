-- The bytes of a linked file are read as that file.
use Rattle.std.proofs.Common.{◌≡◌, ℕ, ◌+◌, ◌*◌, ◌-◌, ◌^◌, ◌<◌, ◌≤◌, ◌==◌, ◌&&◌, Bool, true, false, List, [], ◌∷◌, ◌++◌, length, Option, None, Some, nat_le, nat_lt, take, drop, refl, ap, ◌∙◌, subst, arith, if◌then◌else◌}
use Rattle.std.proofs.lemmas.Bool.Decides.{nat_tests}
use Rattle.std.specs.Str.{bytes_eq}
use Rattle.c6x_elf.proofs.Spots.{end_of_above, spots_end_above}
use Rattle.c6x_elf.proofs.WayBack.{written_passes, written_reads}
use Rattle.c6x_elf.specs.Abi.{PT_LOAD}
use Rattle.c6x_elf.specs.Reading.{file_of, refusal_of}
use Rattle.c6x_elf.specs.Writing.{FileSizes, end_of, head_of, home_of, is_inside, segment_head_at, segment_heads_at, spot_from, spot_of, spots, spots_end, sections_at, written, written_size}
use Rattle.c6x_elf.specs.declared.segment.Segment.{Segment}
use Rattle.c6x_elf.specs.declared.spot.Spot.{Spot}
use Rattle.c6x_elf_headers.specs.HeadRows.{SegmentsFit}
use Rattle.c6x_layout.proofs.Tidy.{dynamic_short, text_short, tidy}
use Rattle.c6x_layout.specs.File.{data_segment, dynamic_segment, linked_file, text_segment}
use Rattle.c6x_layout.specs.FilePlaces.{text_size}
use Rattle.c6x_layout.specs.declared.parts.Parts.{Parts}
use Rattle.c6x_link_loads.specs.Loads.{AreLoadable, ReadsAs}
use Rattle.c6x_link_loads.proofs.Loads.{loads}
use Rattle.c6x_module.specs.Modules.{module_in}

-- the bytes of earlier segments end here or before
abbrev EndBefore : ℕ → List Segment → List Spot → Type 0
EndBefore from [] [] = Unit {0}
EndBefore from [] (spot ∷ spots) = ⊥
EndBefore from (s ∷ ss) [] = ⊥
EndBefore from (s ∷ ss) (spot ∷ spots) = (spot.at + length s.bytes ≤ from) × EndBefore from ss spots

end_later : (a b : ℕ) (ss : List Segment) (spots : List Spot) → a ≤ b → EndBefore a ss spots → EndBefore b ss spots
end_later a b [] [] later ends = tt
end_later a b [] (spot ∷ spots) later ends = ends
end_later a b (s ∷ ss) [] later ends = ends
end_later a b (s ∷ ss) (spot ∷ spots) later ends = let here = ends.0 in (omega (arith, later, here), end_later a b ss spots later ends.1)

end_more : (from : ℕ) (ss : List Segment) (spots : List Spot) (s : Segment) (spot : Spot) → EndBefore from ss spots → spot.at + length s.bytes ≤ from → EndBefore from (ss ++ s ∷ []) (spots ++ spot ∷ [])
end_more from [] [] s spot ends here = (here, tt)
end_more from [] (x ∷ xs) s spot ends here = absurd ends
end_more from (y ∷ ys) [] s spot ends here = absurd ends
end_more from (y ∷ ys) (x ∷ xs) s spot ends here = (ends.0, end_more from ys xs s spot ends.1 here)

and_last : (a b : Bool) → (a && b) ≡ true → b ≡ true
and_last true b is = is
and_last false b is = absurd (cc is)

and_first : (a b : Bool) → (a && b) ≡ true → a ≡ true
and_first true b is = refl
and_first false b is = absurd (cc is)

-- bytes that an earlier segment has end where that one's do, or before
inside_ends : (s other : Segment) (at from : ℕ) → is_inside s other ≡ true → at + length other.bytes ≤ from → at + (s.vaddr - other.vaddr) + length s.bytes ≤ from
unfolding is_inside
inside_ends s other at from is ends =
    let p = other.kind == PT_LOAD && nat_lt 0 (length s.bytes) in
    let q = nat_le other.vaddr s.vaddr in
    let r = nat_le (s.vaddr + length s.bytes) (other.vaddr + length other.bytes) in
    let e = bytes_eq (take (length s.bytes) (drop (s.vaddr - other.vaddr) other.bytes)) s.bytes in
    let front : (p && q && r) ≡ true = and_first (p && q && r) e is in
    let last : r ≡ true = and_last (p && q) r front in
    let before : q ≡ true = and_last p q (and_first (p && q) r front) in
    let a : s.vaddr + length s.bytes ≤ other.vaddr + length other.bytes = grind (arith, nat_tests) in
    let b : other.vaddr ≤ s.vaddr = grind (arith, nat_tests) in
    omega (arith, a, b, ends)

home_ends : (s : Segment) (others : List Segment) (had : List Spot) (from at : ℕ) → EndBefore from others had → home_of s others had ≡ Some at → at + length s.bytes ≤ from
home_ends s [] had from at ends is = absurd (cc is)
home_ends s (other ∷ others) [] from at ends is = absurd ends
home_ends s (other ∷ others) (spot ∷ had) from at ends is = by (is_inside s other) refl is (home_ends s others had from at ends.1)
  where
    by : (t : Bool) → is_inside s other ≡ t → (if t then Some (spot.at + (s.vaddr - other.vaddr)) else home_of s others had) ≡ Some at → (home_of s others had ≡ Some at → at + length s.bytes ≤ from) → at + length s.bytes ≤ from
    by true inside e later =
        let same : spot.at + (s.vaddr - other.vaddr) ≡ at = cc e in
        let end = inside_ends s other spot.at from inside ends.0 in
        omega (arith, same, end)
    by false inside e later = later e

-- each spot ends before what is written behind it begins
spot_ends : (o : Option ℕ) (s : Segment) (others : List Segment) (had : List Spot) (from : ℕ) → EndBefore from others had → home_of s others had ≡ o → (spot_from o from s).at + length s.bytes ≤ end_of (spot_from o from s) from s
unfolding end_of
spot_ends None s others had from ends is = omega arith
spot_ends (Some at) s others had from ends is = home_ends s others had from at ends is

abbrev AtMost : ℕ → List Spot → Type 0
AtMost end [] = Unit {0}
AtMost end (spot ∷ spots) = (spot.at ≤ end) × AtMost end spots

spots_most : (earlier : List Segment) (had : List Spot) (from : ℕ) (ss : List Segment) → EndBefore from earlier had → AtMost (spots_end earlier had from ss) (spots earlier had from ss)
unfolding spot_of
spots_most earlier had from [] ends = tt
spots_most earlier had from (s ∷ ss) ends =
    let o = home_of s earlier had in
    let spot = spot_from o from s in
    let here = spot_ends o s earlier had from ends refl in
    let above = spots_end_above (earlier ++ s ∷ []) (had ++ spot ∷ []) (end_of spot from s) ss in
    let later = end_of_above earlier had from s in (
      omega (arith, here, above),
      spots_most (earlier ++ s ∷ []) (had ++ spot ∷ []) (end_of spot from s) ss
          (end_more (end_of spot from s) earlier had s spot (end_later from (end_of spot from s) earlier had later ends) here),
    )

-- the numbers of the headers
record SegmentFits (s : Segment) : Type 0 where
  kind : s.kind < 2 ^ 32
  vaddr : s.vaddr < 2 ^ 32
  bytes : length s.bytes < 2 ^ 32
  memsz : s.memsz < 2 ^ 32
  flags : s.flags < 2 ^ 32
  align : s.align < 2 ^ 32

abbrev AllFit : List Segment → Type 0
AllFit [] = Unit {0}
AllFit (s ∷ ss) = SegmentFits s × AllFit ss

heads_fit : (at k end : ℕ) (ss : List Segment) (spots : List Spot) → end < 2 ^ 32 → AllFit ss → AtMost end spots → SegmentsFit (segment_heads_at at k ss spots)
unfolding segment_head_at
heads_fit at k end [] spots small fit most = tt
heads_fit at k end (s ∷ ss) [] small fit most = tt
heads_fit at k end (s ∷ ss) (spot ∷ spots) small fit most =
    let here = most.0 in
    let f = fit.0 in (
      (f.kind, (omega (arith, here, small), (f.vaddr, (f.vaddr, (f.bytes, (f.memsz, (f.flags, (f.align, tt)))))))),
      heads_fit at (k + 1) end ss spots small fit.1 most.1,
    )

segments_fit : (p : Parts) → AreLoadable p → AllFit (text_segment p ∷ data_segment p ∷ dynamic_segment p ∷ [])
unfolding text_size
segments_fit p is =
    let text = text_short p is.sized in
    let filled = is.sized.content in
    let memory = is.sized.memory in
    let align = is.sized.align in
    let data_align = is.sized.data_align in
    let dynamic = dynamic_short p is.sized in
    let size = is.sized.text in
    let end = is.end in (
      record { kind = omega arith; vaddr = omega arith; bytes = omega (arith, text); memsz = omega (arith, text); flags = omega arith; align = omega (arith, align) },
      (
        record { kind = omega arith; vaddr = omega (arith, end); bytes = omega (arith, filled, memory); memsz = omega (arith, memory); flags = omega arith; align = omega (arith, data_align) },
        (record { kind = omega arith; vaddr = omega (arith, size); bytes = omega (arith, dynamic); memsz = omega (arith, dynamic); flags = omega arith; align = omega arith }, tt),
      ),
    )

-- the places of the segments
size_is : (p : Parts) → spots_end [] [] (52 + 32 * 3) (text_segment p ∷ data_segment p ∷ dynamic_segment p ∷ []) ≡ written_size (linked_file p)
unfolding written_size linked_file
size_is p = refl

spots_small : (p : Parts) → AtMost (written_size (linked_file p)) (spots [] [] (52 + 32 * 3) (text_segment p ∷ data_segment p ∷ dynamic_segment p ∷ []))
spots_small p =
    let ss : List Segment = text_segment p ∷ data_segment p ∷ dynamic_segment p ∷ [] in
    let P : ℕ → Type 0 = λ end. AtMost end (spots [] [] (52 + 32 * 3) ss) in
    subst P (size_is p) (spots_most [] [] (52 + 32 * 3) ss tt)

type_small : (library : Bool) → (if library then 3 else 2) < 2 ^ 16
type_small true = omega arith
type_small false = omega arith

sizes : (p : Parts) → AreLoadable p → FileSizes (linked_file p)
unfolding linked_file head_of sections_at
sizes p is =
    let small = (tidy p is.sized).small in
    let ss : List Segment = text_segment p ∷ data_segment p ∷ dynamic_segment p ∷ [] in
    record {
      head = record {
        kinds = (type_small p.library, (omega arith, tt));
        words = (omega arith, (is.entry, (omega arith, (omega arith, (omega arith, tt)))));
        counts = (omega arith, (omega arith, (omega arith, (omega arith, (omega arith, (omega arith, tt))))));
      };
      segments = heads_fit 52 0 (written_size (linked_file p)) ss (spots [] [] (52 + 32 * 3) ss) (omega (arith, small)) (segments_fit p is) (spots_small p);
      sections = tt;
    }

pub passes : (p : Parts) → AreLoadable p → refusal_of (written false (linked_file p)) ≡ None
passes p is = written_passes (linked_file p) (written false (linked_file p)) refl (tidy p is.sized) (sizes p is)

pub reads : (p : Parts) → AreLoadable p → file_of (written false (linked_file p)) ≡ linked_file p
reads p is = written_reads (linked_file p) (written false (linked_file p)) refl (tidy p is.sized) (sizes p is)

pub written_load : (p : Parts) → AreLoadable p → ReadsAs p (written false (linked_file p))
written_load p is = record {
  kept = passes p is;
  file = reads p is;
  image = λ name. ap (module_in false name) (reads p is) ∙ loads p is name;
}
