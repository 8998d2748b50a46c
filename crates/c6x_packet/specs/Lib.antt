pub mod Packets
pub mod Rules
pub mod Taken
