-- What the limits of a link give.
use Rattle.std.specs.Prelude.{◌≤◌, length}
use Rattle.c6x_layout.specs.FilePlaces.{text_size}
use Rattle.c6x_layout.specs.Tables.{counts_of}
use Rattle.c6x_layout.specs.declared.counts.Counts.{Counts}
use Rattle.c6x_layout.specs.declared.file_limits.TheConstants.{MOST_ALIGN, MOST_SEGMENT_BYTES}
use Rattle.c6x_layout.specs.declared.parts.Parts.{Parts}

-- Text and data are within their limits, and the data has memory for its bytes.
pub record AreSized (p : Parts) : Type 0 where
  pub text : text_size (counts_of p) ≤ MOST_SEGMENT_BYTES
  pub content : length p.content ≤ p.memory
  pub memory : p.memory ≤ MOST_SEGMENT_BYTES
  pub align : p.align ≤ MOST_ALIGN
  pub data_align : p.data_align ≤ MOST_ALIGN

-- A text within its limit holds no more of anything.
pub record AreFew (c : Counts) : Type 0 where
  pub code : c.code ≤ MOST_SEGMENT_BYTES
  pub symbols : c.symbols ≤ MOST_SEGMENT_BYTES
  pub strings : c.strings ≤ MOST_SEGMENT_BYTES
  pub relas : c.relas ≤ MOST_SEGMENT_BYTES
  pub jumps : c.jumps ≤ MOST_SEGMENT_BYTES
  pub named : c.named ≤ MOST_SEGMENT_BYTES
