-- What the limits of a layout give.
use Rattle.std.specs.Prelude.{◌+◌, ◌*◌, ◌^◌, ◌<◌, length}
use Rattle.c6x_layout.specs.declared.limits.TheConstants.{STUB_BYTES}
use Rattle.c6x_link.specs.Working.{Working}

-- The words and stubs have addresses.
pub record HasRoom (w : Working) : Type 0 where
  pub words : w.layout.words + 4 * (length w.words + length w.stubs) < 2 ^ 32
  pub stubs : w.layout.stubs + STUB_BYTES * length w.stubs < 2 ^ 32
