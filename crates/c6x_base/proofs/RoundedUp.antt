pub use Rattle.c6x_spec.proofs.RoundedUp.{rounded_is_least}
