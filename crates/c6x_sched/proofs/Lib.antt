pub mod At
pub mod Open
pub mod Moves
pub mod Plays
pub mod Unique
pub mod Whole
