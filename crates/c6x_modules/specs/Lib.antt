pub mod Seen
pub mod Owned
pub mod Surveyed
pub mod Indexed
