pub mod Rounded
pub mod Search
