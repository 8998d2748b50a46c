pub mod Table
pub mod Value
pub mod Fields
pub mod FieldBits
pub mod Shift
