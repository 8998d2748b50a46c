pub mod Going
pub mod AtAddress
mod Worked
