pub mod Instructions
pub mod Keywords
pub mod Kinds
pub mod Directives
pub mod Fields
pub mod Bounds
