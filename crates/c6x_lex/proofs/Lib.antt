pub mod Longest
pub mod Steps
pub mod Spans
