pub mod Patched
pub mod RoundedUp
pub mod Zeros
pub mod Joins
pub mod Orders
pub mod OneList
