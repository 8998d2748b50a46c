pub mod Loads
pub mod Linkable
