pub mod Lines
pub mod Shown
pub mod Code
pub mod Stages
