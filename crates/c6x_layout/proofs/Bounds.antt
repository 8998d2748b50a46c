-- What holds of a layout that breaks no rule on sizes.
use Rattle.std.proofs.Common.{◌≡◌, ℕ, ◌+◌, ◌*◌, ◌-◌, ◌==◌, ◌≤◌, ◌<◌, ◌^◌, Bool, true, false, length, Option, None, nat_le, refl, arith, if◌then◌else◌}
use Rattle.std.proofs.lemmas.Bool.Decides.{nat_tests}
use Rattle.c6x_spec.specs.Rounded.{rounded}
use Rattle.c6x_layout.specs.FilePlaces.{text_size}
use Rattle.c6x_layout.specs.declared.file_limits.TheConstants.{MOST_SEGMENT_BYTES}
use Rattle.c6x_symbols.specs.Rules.{Refusal, ◌<|>◌, must, refusal}
use Rattle.c6x_symbols.specs.declared.link_rule.LinkRule.TheVariants.{Large}
use Rattle.c6x_layout.proofs.Sized.{AreBelow, below_limit, ordered}
use Rattle.c6x_layout.specs.Layouts.{Laying, code_end, counts_of, data_end, file_end, most_32, sections_end, size_refusal, stubs_at, table_at, text_end, word_refusal, words_end}
use Rattle.c6x_layout.specs.Sizes.{segment_refusal}
use Rattle.c6x_layout.specs.declared.limits.TheConstants.{STUB_ALIGN, STUB_BYTES}

must_holds : (b : Bool) (broken : Refusal) (rest : Option Refusal) → (must b broken <|> rest) ≡ None → b ≡ true
unfolding must
must_holds true broken rest none = refl
must_holds false broken rest none = absurd (cc none)

must_rest : (b : Bool) (broken : Refusal) (rest : Option Refusal) → (must b broken <|> rest) ≡ None → rest ≡ None
unfolding must
must_rest true broken rest none = none
must_rest false broken rest none = absurd (cc none)

le_holds : (a b : ℕ) → nat_le a b ≡ true → a ≤ b
le_holds a b is = grind (arith, nat_tests)

pub text_sized : (l : Laying) → size_refusal l ≡ None → text_size (counts_of l) ≤ MOST_SEGMENT_BYTES
unfolding size_refusal
text_sized l none =
    le_holds (text_size (counts_of l)) MOST_SEGMENT_BYTES
    (must_holds (nat_le (text_size (counts_of l)) MOST_SEGMENT_BYTES) (refusal Large 0 (most_32 (text_size (counts_of l)))) (segment_refusal (data_end l - table_at l) <|> word_refusal l) none)

pub data_sized : (l : Laying) → size_refusal l ≡ None → data_end l - table_at l ≤ MOST_SEGMENT_BYTES
unfolding size_refusal
data_sized l none =
    le_holds (data_end l - table_at l) MOST_SEGMENT_BYTES
    (must_holds (nat_le (data_end l - table_at l) MOST_SEGMENT_BYTES) (refusal Large 0 (most_32 (data_end l - table_at l))) (word_refusal l)
    (must_rest (nat_le (text_size (counts_of l)) MOST_SEGMENT_BYTES) (refusal Large 0 (most_32 (text_size (counts_of l)))) (segment_refusal (data_end l - table_at l) <|> word_refusal l) none))

-- All addresses of a layout are far below 2 ^ 32.
pub below : (l : Laying) → size_refusal l ≡ None → AreBelow l (2 ^ 22)
below l none = below_limit l (text_sized l none) (data_sized l none)

stubs_within : (b : Bool) (sections stubs : ℕ) → (stubs == 0) ≡ b → (if b then 0 else rounded sections STUB_ALIGN) + STUB_BYTES * stubs ≤ (if b then sections else rounded sections STUB_ALIGN + STUB_BYTES * stubs)
stubs_within true sections stubs is = let none : stubs ≡ 0 = grind (arith, nat_tests) in rw none (omega arith)
stubs_within false sections stubs is = omega arith

pub stubs_end : (l : Laying) → stubs_at l + STUB_BYTES * length l.stubs ≤ code_end l
unfolding stubs_at code_end
stubs_end l = stubs_within (length l.stubs == 0) (sections_end l) (length l.stubs) refl

-- The numbers of a layout without a broken rule on sizes.
pub record AreBounded (l : Laying) : Type 0 where
  pub start : words_end l < 2 ^ 22
  pub data_below : data_end l < 2 ^ 22
  pub stubs_below : stubs_at l + STUB_BYTES * length l.stubs < 2 ^ 22
  pub text_below : text_end l < 2 ^ 22
  pub file : file_end l ≤ data_end l
  pub table : table_at l ≤ file_end l
  pub start_file : words_end l ≤ file_end l
  pub memory : data_end l ≤ table_at l + MOST_SEGMENT_BYTES

pub bounds : (l : Laying) → size_refusal l ≡ None → AreBounded l
bounds l none =
    let o = ordered l in
    let small = below l none in
    let file : file_end l ≤ data_end l = omega (arith, o.far_zeros, o.far) in
    let start_file : words_end l ≤ file_end l = omega (arith, o.near_bytes, o.near_zeros, o.near, o.far_bytes) in
    record {
      start = omega (arith, start_file, file, small.far);
      data_below = omega (arith, small.far);
      stubs_below = omega (arith, stubs_end l, o.text, small.text_end);
      text_below = omega (arith, small.text_end);
      file = file;
      table = omega (arith, o.words, o.start, start_file);
      start_file = start_file;
      memory = omega (arith, data_sized l none);
    }
