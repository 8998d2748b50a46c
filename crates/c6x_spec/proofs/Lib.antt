pub mod Puts
pub mod Splices
pub mod RoundedUp
pub mod LeastPlaces
pub mod NumberBits
pub mod Writes
pub mod PartsHeld
pub mod PartsInOrder
