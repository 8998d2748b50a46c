-- What an object within its limits keeps.
use Rattle.std.proofs.Common.{◌≡◌, ℕ, ◌+◌, ◌*◌, ◌≤◌, ◌==◌, ◌||◌, Bool, true, false, cond, max, List, [], ◌∷◌, length, sum_by, nat_lt, refl, arith}
use Rattle.std.specs.List.{list_any}
use Rattle.std.proofs.lemmas.Bool.Decides.{nat_tests}
use Rattle.std.proofs.lemmas.List.Sums.{sum_by-cons}
use Rattle.c6x_base.specs.declared.limits.TheConstants.{MOST_FILE_BYTES, MOST_SECTIONS}
use Rattle.c6x_spec.specs.Rounded.{rounded}
use Rattle.c6x_elf.specs.Form.{IsSized, section_length}
use Rattle.c6x_elf.specs.Parts.{has_bytes, section_size}
use Rattle.c6x_elf.specs.Writing.{offset_end, offsets_end, section_head_at, sections_end, segments_end, written_size}
use Rattle.c6x_elf.specs.declared.file.File.{File}
use Rattle.c6x_elf.specs.declared.section.Section.{Section}
use Rattle.c6x_elf.proofs.Spots.{rounded_above}
use Rattle.c6x_asm_object.specs.Filing.{Named, sections_from}
use Rattle.c6x_asm_object.specs.Limits.{is_long, passes_limit}
use Rattle.c6x_asm_object.proofs.Lists.{Each}

or_first : (a b : Bool) → (a || b) ≡ false → a ≡ false
or_first true b is = is
or_first false b is = refl

pub or_later : (a b : Bool) → (a || b) ≡ false → b ≡ false
or_later true b is = cc
or_later false b is = is

not_below : (a b : ℕ) → nat_lt a b ≡ false → b ≤ a
not_below a b is = grind (arith, nat_tests)

-- The three limits of a file.
pub record IsLimited (file : File) : Type 0 where
  pub count : length file.sections ≤ MOST_SECTIONS
  pub each : list_any is_long file.sections ≡ false
  pub small : written_size file ≤ MOST_FILE_BYTES

pub limited : (file : File) → passes_limit file ≡ false → IsLimited file
unfolding passes_limit
limited file is =
    let many = nat_lt MOST_SECTIONS (length file.sections) in
    let long = list_any is_long file.sections in
    let large = nat_lt MOST_FILE_BYTES (written_size file) in
    let rest = or_later many (long || large) is in
    record {
      count = not_below MOST_SECTIONS (length file.sections) (or_first many (long || large) is);
      each = or_first long large rest;
      small = not_below MOST_FILE_BYTES (written_size file) (or_later long large rest);
    }

-- A section that is not too long, with bytes that are not too many.
pub record IsShort (n : Named) : Type 0 where
  pub bytes : length n.section.bytes ≤ 1048576

short_of : (section : Section) → is_long section ≡ false → length section.bytes ≤ 1048576
unfolding is_long
short_of section is = not_below 1048576 (length section.bytes) (or_later (nat_lt 1048576 section.size) _ is)

pub short_from : (at : ℕ) (named : List Named) → list_any is_long (sections_from at named) ≡ false → Each IsShort named
short_from at [] is = tt
short_from at (n ∷ named) is =
    let next = at + (length n.name + 1) in
    let here = record n.section { name = at } in
    let rest = list_any is_long (sections_from next named) in
    (record { bytes = short_of here (or_first (is_long here) rest is) }, short_from next named (or_later (is_long here) rest is))

-- the bytes of sections stand behind one another
end_if : (has : Bool) (from align size len : ℕ) → 1 ≤ align → len ≡ cond has size 0 → from + len ≤ cond has (rounded from align + len) from
end_if true from align size len some is = omega (arith, rounded_above from align some)
end_if false from align size len some is = omega arith

offset_sum : (from : ℕ) (section : Section) → IsSized section → from + length section.bytes ≤ offset_end from section
unfolding offset_end section_size section_head_at
offset_sum from section sized =
    end_if (has_bytes section.kind) from (max section.align 1) section.size (length section.bytes) (omega arith) sized.size

offsets_sum : (from : ℕ) (sections : List Section) → Each IsSized sections → from + sum_by section_length sections ≤ offsets_end from sections
offsets_sum from [] sized = omega arith
offsets_sum from (section ∷ sections) sized =
    let sum = sum_by-cons section_length section sections in
    let here = offset_sum from section sized.0 in
    let later = offsets_sum (offset_end from section) sections sized.1 in
    omega arith

size_if : (none : Bool) (end count : ℕ) → end ≤ cond none end (rounded end 4 + 40 * count)
size_if true end count = omega arith
size_if false end count = omega (arith, rounded_above end 4 (omega arith))

pub sum_within : (file : File) → Each IsSized file.sections → sum_by section_length file.sections ≤ written_size file
unfolding written_size
sum_within file sized =
    omega (
      arith,
      offsets_sum (segments_end file) file.sections sized,
      size_if (length file.sections == 0) (sections_end file) (length file.sections),
    )
