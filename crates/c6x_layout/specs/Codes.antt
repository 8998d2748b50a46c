-- The ends of the code of a text, and counts that sums of 64 bits can hold.
use Rattle.std.specs.Prelude.{ℕ, ◌+◌, ◌*◌, ◌^◌, ◌==◌, ◌≤◌, List, filter, if◌then◌else◌}
use Rattle.c6x_spec.specs.Rounded.{rounded}
use Rattle.c6x_layout.specs.declared.counts.Counts.{Counts}
use Rattle.c6x_layout.specs.declared.file_limits.TheConstants.{TEXT_START}
use Rattle.c6x_symbols.specs.declared.part.Part.{Part}
use Rattle.c6x_layout.specs.Places.{in_text, places_end}
use Rattle.c6x_layout.specs.declared.code.Code.{Code}
use Rattle.c6x_layout.specs.declared.limits.TheConstants.{STUB_ALIGN, STUB_BYTES}

unfoldable pub code_of : List Part → ℕ → Code
code_of parts stubs = record {
  sections = places_end TEXT_START (filter in_text parts);
  stubs = if stubs == 0 then 0 else rounded (places_end TEXT_START (filter in_text parts)) STUB_ALIGN;
  end =
      if stubs == 0 then places_end TEXT_START (filter in_text parts)
      else rounded (places_end TEXT_START (filter in_text parts)) STUB_ALIGN + STUB_BYTES * stubs;
}

pub record AreSmall (counts : Counts) : Type 0 where
  pub code : counts.code ≤ 2 ^ 54
  pub symbols : counts.symbols ≤ 2 ^ 40
  pub strings : counts.strings ≤ 2 ^ 55
  pub relas : counts.relas ≤ 2 ^ 40
  pub jumps : counts.jumps ≤ 2 ^ 40
  pub named : counts.named ≤ 2 ^ 40
