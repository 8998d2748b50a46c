pub mod ReadyFound
pub mod Carried
pub mod Places
pub mod Fetches
pub mod Distinct
pub mod Rises
