use Rattle.std.proofs.Common.{◌≡◌, ℕ, ◌+◌, ◌≤◌, Bool, true, false, List, [], ◌∷◌, Option, None, Some, length, take, drop, map, refl, sym, arith}
use Rattle.std.proofs.lemmas.List.{length-map, length-take, length-drop}
use Rattle.std.proofs.lemmas.Bool.Decides.{nat_tests}
use Rattle.c6x_base.specs.declared.limits.TheConstants.{MOST_FILE_BYTES}
use Rattle.c6x_elf_headers.specs.Rules.{Refusal, ◌<|>◌, along_parts, must}
use Rattle.c6x_elf_headers.specs.declared.elf_rule.ElfRule.{ElfRule}
use Rattle.c6x_elf_headers.specs.declared.elf_rule.ElfRule.TheVariants.{Short}
use Rattle.c6x_elf_headers.specs.declared.section_head.SectionHead.{SectionHead}
use Rattle.c6x_elf_headers.specs.declared.file_head.FileHead.{FileHead}
use Rattle.c6x_elf.specs.Entries.{ArePlaced, IsPlaced}
use Rattle.c6x_elf.specs.Parts.{fields_refusal, is_within, part_refusal, section_of, section_refusal, section_size}
use Rattle.c6x_elf.specs.Reading.{section_heads_of, sections_of, sections_refusal, segments_total}

-- where a sum of rules is not broken, neither part is
pub none_first : (a b : Option Refusal) → (a <|> b) ≡ None → a ≡ None
none_first None b is = refl
none_first (Some r) b is = is

pub none_later : (a b : Option Refusal) → (a <|> b) ≡ None → b ≡ None
none_later None b is = is
none_later (Some r) b is = cc

pub must_holds : (holds : Bool) (rule : ElfRule) (place : ℕ) → must holds rule place ≡ None → holds ≡ true
unfolding must
must_holds true rule place is = refl
must_holds false rule place is = cc

-- a part that breaks no rule lies in the file
within_file : (bytes : List ℕ) (at size : ℕ) → is_within bytes at size ≡ true → 1 ≤ length (take size (drop at bytes)) → at + length (take size (drop at bytes)) ≤ length bytes
unfolding is_within
within_file bytes at size is some = grind (arith, nat_tests, length-take {A = ℕ}, length-drop {A = ℕ})

placed_in : (bytes : List ℕ) (count before : ℕ) (head : SectionHead) → length bytes ≤ MOST_FILE_BYTES → section_refusal bytes count before head ≡ None → IsPlaced head (section_of bytes head)
unfolding section_refusal part_refusal section_of
placed_in bytes count before head few passes = record {
  within = λ some.
      let part = none_later (fields_refusal count head) (part_refusal bytes before head.offset (section_size head) (head.at + 16)) passes in
      let held = must_holds (is_within bytes head.offset (section_size head)) Short (head.at + 16) (none_first _ _ part) in
      let fits = within_file bytes head.offset (section_size head) held some in
      omega arith;
}

placed_along : (bytes : List ℕ) (count before : ℕ) (heads : List SectionHead) → length bytes ≤ MOST_FILE_BYTES → along_parts section_size (section_refusal bytes count) before heads ≡ None → ArePlaced heads (map (section_of bytes) heads)
placed_along bytes count before [] few passes = tt
placed_along bytes count before (head ∷ heads) few passes = (
  placed_in bytes count before head few (none_first _ _ passes),
  placed_along bytes count (before + section_size head) heads few (none_later (section_refusal bytes count before head) _ passes),
)

pub sections_placed : (big : Bool) (bytes : List ℕ) (head : FileHead) → length bytes ≤ MOST_FILE_BYTES → sections_refusal big bytes head ≡ None → ArePlaced (section_heads_of big bytes head) (sections_of big bytes head)
unfolding sections_refusal sections_of
sections_placed big bytes head few passes =
    placed_along bytes head.section_count (segments_total big bytes head) (section_heads_of big bytes head) few
    (none_later (must _ Short 32) _ passes)

pub sections_same : (big : Bool) (bytes : List ℕ) (head : FileHead) → length (section_heads_of big bytes head) ≡ length (sections_of big bytes head)
unfolding sections_of
sections_same big bytes head = sym (length-map (section_heads_of big bytes head) (section_of bytes))
