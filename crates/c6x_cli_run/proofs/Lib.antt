mod Tells
pub mod Stands
pub mod Tellings
pub mod Games
pub mod Performs
pub mod Deciding
pub mod Counts
pub mod Taking
pub mod ImageLemmas
pub mod SlotLines
pub mod Leads
pub mod Settled
mod Rests
mod ReadBack
mod Lives
pub mod Runs
pub mod Delivering
pub mod Loads
pub mod Told
