pub mod Atoms
pub mod Shown
pub mod Reads
pub mod Listed
pub mod Pieces
pub mod Lines
pub mod Parts
pub mod Words
