pub mod Members
pub mod Needs
pub mod Definitions
pub mod Binding
pub mod Rooms
pub mod Places
pub mod Plans
pub mod Laws
