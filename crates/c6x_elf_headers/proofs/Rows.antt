use Rattle.std.proofs.Common.{◌≡◌, ℕ, ◌+◌, ◌*◌, Bool, List, [], ◌∷◌, ◌++◌, length, get_or, refl, ap, ◌∙◌, ◌<◌, ◌≤◌, zero-add, arith}
use Rattle.std.proofs.lemmas.List.FromFn.{map-range_with_len_more, length-map-range_with_len, get_or-map-range_with_len}
use Rattle.c6x_base.specs.declared.limits.TheConstants.{MOST_FILE_BYTES}
use Rattle.c6x_elf_headers.specs.Heads.{AreSectionHeadsNear, AreSegmentHeadsNear, section_head, section_heads, segment_head, segment_heads}
use Rattle.c6x_elf_headers.specs.declared.section_head.SectionHead.{SectionHead}
use Rattle.c6x_elf_headers.specs.declared.segment_head.SegmentHead.{SegmentHead}

-- no header, and one more
pub segment_heads_none : (big : Bool) (bytes : List ℕ) (at : ℕ) → segment_heads big bytes at 0 ≡ []
unfolding segment_heads
segment_heads_none big bytes at = refl

pub segment_heads_more : (big : Bool) (bytes : List ℕ) (at k : ℕ) → segment_heads big bytes at (k + 1) ≡ segment_heads big bytes at k ++ segment_head big bytes (at + 32 * k) ∷ []
unfolding segment_heads
segment_heads_more big bytes at k = map-range_with_len_more (λ j. segment_head big bytes (at + 32 * j)) 0 k k (zero-add k)

pub section_heads_none : (big : Bool) (bytes : List ℕ) (at : ℕ) → section_heads big bytes at 0 ≡ []
unfolding section_heads
section_heads_none big bytes at = refl

pub section_heads_more : (big : Bool) (bytes : List ℕ) (at k : ℕ) → section_heads big bytes at (k + 1) ≡ section_heads big bytes at k ++ section_head big bytes (at + 40 * k) ∷ []
unfolding section_heads
section_heads_more big bytes at k = map-range_with_len_more (λ j. section_head big bytes (at + 40 * j)) 0 k k (zero-add k)

-- a header's own place
segment_head-at : (big : Bool) (bytes : List ℕ) (at : ℕ) → (segment_head big bytes at).at ≡ at
unfolding segment_head
segment_head-at big bytes at = refl

section_head-at : (big : Bool) (bytes : List ℕ) (at : ℕ) → (section_head big bytes at).at ≡ at
unfolding section_head
section_head-at big bytes at = refl

-- headers that lie in the file are near
pub segment_heads_near : (heads : List SegmentHead) (big : Bool) (bytes : List ℕ) (at count : ℕ) → heads ≡ segment_heads big bytes at count → (0 < count → at + 32 * count ≤ length bytes) → length bytes ≤ MOST_FILE_BYTES → AreSegmentHeadsNear heads
unfolding segment_heads
segment_heads_near heads big bytes at count is within few = record {
  each = λ k d below.
      let f : ℕ → SegmentHead = λ j. segment_head big bytes (at + 32 * j) in
      let less : k < count = omega (arith, ap length is, length-map-range_with_len f 0 count) in
      let here : get_or heads k d ≡ segment_head big bytes (at + 32 * k) =
      ap (λ (xs : List SegmentHead). get_or xs k d) is ∙ get_or-map-range_with_len f 0 count k k d less (zero-add k) in
      let place : (get_or heads k d).at ≡ at + 32 * k = ap (λ (h : SegmentHead). h.at) here ∙ segment_head-at big bytes (at + 32 * k) in
      omega arith;
}

pub section_heads_near : (heads : List SectionHead) (big : Bool) (bytes : List ℕ) (at count : ℕ) → heads ≡ section_heads big bytes at count → (0 < count → at + 40 * count ≤ length bytes) → length bytes ≤ MOST_FILE_BYTES → AreSectionHeadsNear heads
unfolding section_heads
section_heads_near heads big bytes at count is within few = record {
  each = λ k d below.
      let f : ℕ → SectionHead = λ j. section_head big bytes (at + 40 * j) in
      let less : k < count = omega (arith, ap length is, length-map-range_with_len f 0 count) in
      let here : get_or heads k d ≡ section_head big bytes (at + 40 * k) =
      ap (λ (xs : List SectionHead). get_or xs k d) is ∙ get_or-map-range_with_len f 0 count k k d less (zero-add k) in
      let place : (get_or heads k d).at ≡ at + 40 * k = ap (λ (h : SectionHead). h.at) here ∙ section_head-at big bytes (at + 40 * k) in
      omega arith;
}
