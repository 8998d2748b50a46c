pub mod DigitLemmas
pub mod Pieces
pub mod Values
pub mod SpelledOperands
pub mod SpelledLines
pub mod Fronts
pub mod Spelled
pub mod Readings
mod Worked
pub mod SameWords
