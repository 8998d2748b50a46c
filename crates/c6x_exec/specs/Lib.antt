pub mod Pending
pub mod View
pub mod Stands
pub mod Sound
pub mod Fits
pub mod Fetched
pub mod Known
pub mod Process
