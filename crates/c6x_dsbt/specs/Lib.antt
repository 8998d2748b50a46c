pub mod Firsts
pub mod Growth
pub mod Needs
pub mod Plans
pub mod Wanted
