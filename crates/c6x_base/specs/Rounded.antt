pub use Rattle.c6x_spec.specs.Rounded.{rounded, IsRounded}
