pub mod KindNumbers
pub mod FieldBits
pub mod Steps
pub mod RowFacts
pub mod Held
pub mod Whole
pub mod Bytes
pub mod Sums
